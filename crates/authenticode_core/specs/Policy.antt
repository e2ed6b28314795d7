-- What is checked of a signature file.
use Rattle.std.specs.Prelude.{None, [], true, false, pos}
use Rattle.x509_core.specs.declared.validator.ChainChecks.{ChainChecks}
use Rattle.x509_core.specs.declared.window.DateCheck.TheVariants as dates
use Rattle.x509_core.specs.declared.window.Window.{Window}
use Rattle.authenticode_core.specs.declared.policy.Policy.{Policy}

-- all checks, without a digest, a date, a list or names
abbrev pub first_policy : Policy
first_policy = record {
  basic = true;
  file_hash = None;
  signing = true;
  not_before = true;
  not_after = true;
  chain = true;
  date = dates.Absent;
  against_list = true;
  list = None;
  now = pos 0;
  exclude = true;
  excluded = [];
}

-- what is checked of the validity of a certificate
abbrev pub window_of : Policy → Window
window_of policy =
    record { date = policy.date; not_before = policy.not_before; not_after = policy.not_after }

-- what is checked of the signer's certificate and those of its issuers: no root is required
abbrev pub policy_checks : Policy → ChainChecks
policy_checks policy = record { window = window_of policy; chain = policy.chain; root = false }
