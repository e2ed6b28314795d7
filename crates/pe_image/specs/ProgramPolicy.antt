-- The policy of the program.
use Rattle.std.specs.Prelude.{[], Option, Some, None, true, false, not, is_some}
use Rattle.std.specs.Borrow.{Bor}
use Rattle.asn1_types.specs.declared.generalized_time.GeneralizedTime.{GeneralizedTime}
use Rattle.authenticode_core.specs.declared.ctl.CertificateTrustList.{CertificateTrustList}
use Rattle.authenticode_core.specs.declared.policy.Policy.{Policy}
use Rattle.x509_core.specs.declared.window.DateCheck.{DateCheck}
use Rattle.x509_core.specs.declared.window.DateCheck.TheVariants as dates
use Rattle.program_frame.specs.Options.{CheckOptions}
use Rattle.program_frame.specs.ListOption.{list_moment}

-- the date DATE, or the interval from it to the other one
abbrev pub moments : (date : GeneralizedTime) (until : Option GeneralizedTime) → DateCheck
moments date None = dates.Exact date
moments date (Some other) = dates.Interval date other

-- The form, the digest and the signature, and the signer's certificate with those of its issuers,
-- all of them valid at DATE or the signer's expiry excused, except for what the options leave out;
-- and, if a trust list is given, the CA of the signer on it at the moment of the options. No CA is
-- excluded. The digest is that of the program.
abbrev pub program_policy : (date : GeneralizedTime) → CheckOptions
    → Option (Bor CertificateTrustList) → Policy
program_policy date o given = record {
  basic = true;
  file_hash = None;
  signing = true;
  not_before = not o.no_before;
  not_after = not o.no_after;
  chain = not o.no_chain;
  date = moments date o.until;
  against_list = is_some given;
  list = given;
  now = list_moment o.list;
  exclude = false;
  excluded = [];
}
