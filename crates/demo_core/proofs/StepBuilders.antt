-- The builders of steps are set as the demonstration sets them, and take the steps.
use Rattle.std.proofs.Common.{◌≡◌, ℕ, true, false, List, Option, Some, None, Result, IfOk, refl, sym, ap, subst, ◌∙◌}
use Rattle.std.proofs.lemmas.Result.{IfOk-weaker}
use Rattle.std.specs.Borrow.{Bor}
use Rattle.asn1_types.specs.Facts.Times.{same_generalized}
use Rattle.asn1_types.specs.declared.generalized_time.GeneralizedTime.{GeneralizedTime}
use Rattle.names_core.specs.Names.{name_of_sets}
use Rattle.names_core.specs.declared.name.DirectoryName.{DirectoryName}
use Rattle.sig_core.specs.DemoScheme.{demo_verdict}
use Rattle.key_core.specs.PrivatePkcs1.{IsPrivatePkcs1}
use Rattle.key_core.specs.declared.private_key.PrivateKey.{PrivateKey}
use Rattle.key_core.specs.declared.public_key.PublicKey.{PublicKey}
use Rattle.x509_core.specs.History.{IssuingStep}
use Rattle.x509_core.specs.Issued.{HasCert, IsNext}
use Rattle.x509_core.specs.OwnedCertificate.{KeptCertificate}
use Rattle.x509_core.specs.declared.error.CertError.{CertError}
use Rattle.x509_issuing.specs.IssuedUnder.{IsIssuedUnder}
use Rattle.x509_issuing.specs.TakenStep.{IsIssuerAt, TakesStep}
use Rattle.x509_issuing.specs.declared.builder.CertificateBuilder.{CertificateBuilder}
use Rattle.x509_issuing.specs.declared.builder.IssuerInfos.{IssuerInfos}
use Rattle.x509_issuing.specs.declared.builder.SubjectInfos.TheVariants as subjects
use Rattle.demo_core.specs.Builders.{HasSubject, IsBegun, IsStepBuilder, IsStepName, IsYearGiven}
use Rattle.demo_core.specs.Certificates.{signer_of, step_key_id}
use Rattle.demo_core.specs.Issuing.{IsOfSubject, IsRecordOf, IsStepKey}
use Rattle.key_core.specs.SmallKeys.{demo_pair}
use Rattle.demo_core.specs.Secrets.{AreStepKeys, step_modulus, step_secret}
use Rattle.demo_core.specs.declared.history.Step.{Step}
use Rattle.key_core.proofs.SmallKeys.{keys_pair}
use Rattle.key_core.proofs.SmallHalves.{info_beside, keys_beside, keys_for}
use Rattle.demo_core.proofs.StepSubjects.{four_octets}

-- ---- a root

abbrev pub self_issuer : DirectoryName → Bor PrivateKey → IssuerInfos
self_issuer given key = record { name = given; key = key; self_signed = true }

begun_root : (index : ℕ) (step : Step) (b : CertificateBuilder) (given : DirectoryName) (key : Bor PrivateKey) → step.issuer ≡ None → IsBegun step b
    → IsStepName index given → IsPrivatePkcs1 (step_secret index) key.now
    → IsStepBuilder index step (record b { issuer_infos = Some (self_issuer given key) }) (self_issuer given key)
begun_root index step b given key none begun named private =
    let set : CertificateBuilder = record b { issuer_infos = Some (self_issuer given key) } in
    record {
      begins = begun.begins;
      ends = begun.ends;
      ca = begun.ca;
      path_length = begun.path_length;
      given = refl;
      named = subst (λ (o : Option ℕ). IsStepName (signer_of index o) given) (sym none) named;
      public = info_beside key.now private.rsa private.container;
      keys = subst (λ (o : Option ℕ). AreStepKeys (signer_of index o) key.now (info_beside key.now private.rsa private.container)) (sym none)
          (keys_beside (step_modulus index) key.now private);
      subject = subst (λ (o : Option ℕ). HasSubject index o set (self_issuer given key)) (sym none) refl;
      serial_number = begun.serial_number;
      algorithm = begun.algorithm;
      method = begun.method;
      key_usage = begun.key_usage;
      extended_key_usage = begun.extended_key_usage;
      subject_alt_name = begun.subject_alt_name;
      issuer_alt_name = begun.issuer_alt_name;
      inherits = begun.inherits;
    }

pub root_set : (index : ℕ) (step : Step) (b set : CertificateBuilder) (given : DirectoryName) (key : Bor PrivateKey)
    → set ≡ record b { issuer_infos = Some (self_issuer given key) }
    → step.issuer ≡ None → IsBegun step b → IsStepName index given → IsPrivatePkcs1 (step_secret index) key.now
    → IsStepBuilder index step set (self_issuer given key)
root_set index step b set given key is none begun named private =
    subst (λ (s : CertificateBuilder). IsStepBuilder index step s (self_issuer given key)) (sym is) (begun_root index step b given key none begun named private)

-- ---- a step with an issuer

abbrev pub cert_issuer : KeptCertificate → Bor PrivateKey → IssuerInfos
cert_issuer parent key = record { name = name_of_sets parent.certificate.tbs_certificate.subject; key = key; self_signed = false }

abbrev under : CertificateBuilder → DirectoryName → PublicKey → KeptCertificate → Bor PrivateKey → Option (List ℕ) → CertificateBuilder
under b given own parent key authority = record b {
  subject_infos = Some (subjects.Named given own);
  authority_key_identifier = authority;
  issuer_infos = Some (cert_issuer parent key);
}

under_set : (index issuer : ℕ) (step : Step) (b : CertificateBuilder) (given : DirectoryName) (own : PublicKey) (parent : KeptCertificate)
    (key : Bor PrivateKey)
    (authority : Option (List ℕ)) → step.issuer ≡ Some issuer → IsBegun step b → IsStepName index given → IsStepKey index own
    → IsOfSubject issuer parent → IsPrivatePkcs1 (step_secret issuer) key.now → authority ≡ Some (step_key_id issuer)
    → IsStepBuilder index step (under b given own parent key authority) (cert_issuer parent key)
under_set index issuer step b given own parent key authority by begun named owned of private is =
    let infos = cert_issuer parent key in
    record {
      begins = begun.begins;
      ends = begun.ends;
      ca = begun.ca;
      path_length = begun.path_length;
      given = refl;
      named = subst (λ (o : Option ℕ). IsStepName (signer_of index o) infos.name) (sym by) of.named;
      public = info_beside key.now private.rsa private.container;
      keys = subst (λ (o : Option ℕ). AreStepKeys (signer_of index o) key.now (info_beside key.now private.rsa private.container)) (sym by)
          (keys_beside (step_modulus issuer) key.now private);
      subject = subst (λ (o : Option ℕ). HasSubject index o (under b given own parent key authority) infos) (sym by)
          (refl, record { authority = is; given = given; own = own; subject = refl; named = named; private = owned.private; keys = owned.keys });
      serial_number = begun.serial_number;
      algorithm = begun.algorithm;
      method = begun.method;
      key_usage = begun.key_usage;
      extended_key_usage = begun.extended_key_usage;
      subject_alt_name = begun.subject_alt_name;
      issuer_alt_name = begun.issuer_alt_name;
      inherits = begun.inherits;
    }

pub issued_set : (index issuer : ℕ) (step : Step) (b named_b set : CertificateBuilder) (given : DirectoryName) (own : PublicKey) (parent : KeptCertificate)
    (key : Bor PrivateKey)
    → named_b ≡ record b { subject_infos = Some (subjects.Named given own) } → IsIssuedUnder parent key named_b set
    → step.issuer ≡ Some issuer → IsBegun step b → IsStepName index given → IsStepKey index own
    → IsOfSubject issuer parent → IsPrivatePkcs1 (step_secret issuer) key.now → set.authority_key_identifier ≡ Some (step_key_id issuer)
    → IsStepBuilder index step set (cert_issuer parent key)
issued_set index issuer step b named_b set given own parent key is after by begun named owned of private authority =
    let is_under = subst (λ (x : CertificateBuilder). IsIssuedUnder parent key x set) is after in
    subst (λ (s : CertificateBuilder). IsStepBuilder index step s (cert_issuer parent key)) (sym is_under.is)
    (under_set index issuer step b given own parent key is_under.authority by begun named owned of private
    (ap (λ (s : CertificateBuilder). s.authority_key_identifier) (sym is_under.is) ∙ authority))

-- ---- the recorded step is taken

date_is : (year : ℕ) (given : Option GeneralizedTime) (date : GeneralizedTime) → IsYearGiven year given → IsYearGiven year (Some date) → given ≡ Some date
date_is year None date a b = absurd a
date_is year (Some other) date a b = ap Some (same_generalized other date (a ∙ sym b))

takes : (index : ℕ) (step : Step) (b : CertificateBuilder) (issuer : IssuerInfos) (certificates : List KeptCertificate) (recorded : IssuingStep)
    → IsStepBuilder index step b issuer → IsRecordOf step recorded → IsIssuerAt demo_pair b issuer certificates recorded.issuer
    → TakesStep demo_pair b certificates recorded
takes index step b issuer certificates recorded set of by = record {
  ca = of.ca ∙ sym set.ca;
  pathlen = of.path_length ∙ sym set.path_length;
  begins = date_is step.years.first b.valid_from recorded.not_before set.begins of.begins;
  ends = date_is step.years.last b.valid_to recorded.not_after set.ends of.ends;
  issuer = issuer;
  given = set.given;
  by = by;
}

root_takes : (index : ℕ) (step : Step) (b : CertificateBuilder) (given : DirectoryName) (key : Bor PrivateKey) (certificates : List KeptCertificate)
    (recorded : IssuingStep)
    → step.issuer ≡ None → IsStepBuilder index step b (self_issuer given key) → IsRecordOf step recorded → TakesStep demo_pair b certificates recorded
root_takes index step b given key certificates recorded none set of =
    takes index step b (self_issuer given key) certificates recorded set of
    (subst (IsIssuerAt demo_pair b (self_issuer given key) certificates) (sym (of.issuer ∙ none)) refl)

issued_takes : (index issuer : ℕ) (step : Step) (b : CertificateBuilder) (parent : KeptCertificate) (key : Bor PrivateKey) (certificates : List KeptCertificate)
    (recorded : IssuingStep)
    → step.issuer ≡ Some issuer → IsStepBuilder index step b (cert_issuer parent key) → b.authority_key_identifier ≡ Some (step_key_id issuer)
    → IsOfSubject issuer parent → IsPrivatePkcs1 (step_secret issuer) key.now
    → IsRecordOf step recorded → HasCert certificates issuer parent → TakesStep demo_pair b certificates recorded
issued_takes index issuer step b parent key certificates recorded by set authority subject private of has =
    let info = parent.certificate.tbs_certificate.subject_public_key_info in
    takes index step b (cert_issuer parent key) certificates recorded set of
    (subst (IsIssuerAt demo_pair b (cert_issuer parent key) certificates) (sym (of.issuer ∙ by)) (
      parent,
      has,
      record {
        other = refl;
        name = refl;
        key = step_key_id issuer;
        had = subject.identified;
        authority = authority;
        paired = keys_pair (step_modulus issuer) (four_octets issuer) key.now info
            (keys_for (step_modulus issuer) subject.private key.now info subject.keys private);
      },
    ))

-- ---- the certificate is the next one

abbrev pub Taken : CertificateBuilder → KeptCertificate → Type 0
Taken b cert = (certificates : List KeptCertificate) (recorded : IssuingStep) → TakesStep demo_pair b certificates recorded
    → IsNext demo_verdict certificates recorded cert

pub root_next : (index : ℕ) (step : Step) (b : CertificateBuilder) (given : DirectoryName) (key : Bor PrivateKey) (r : Result KeptCertificate CertError)
    → step.issuer ≡ None → IsStepBuilder index step b (self_issuer given key) → IfOk r (Taken b)
    → IfOk r (λ cert. (certificates : List KeptCertificate) (recorded : IssuingStep) → IsRecordOf step recorded
    → IsNext demo_verdict certificates recorded cert)
root_next index step b given key r none set =
    IfOk-weaker r _ _ (λ cert next certificates recorded of. next certificates recorded (root_takes index step b given key certificates recorded none set of))

pub issued_next : (index issuer : ℕ) (step : Step) (b : CertificateBuilder) (parent : KeptCertificate) (key : Bor PrivateKey)
    (r : Result KeptCertificate CertError)
    → step.issuer ≡ Some issuer → IsStepBuilder index step b (cert_issuer parent key) → b.authority_key_identifier ≡ Some (step_key_id issuer)
    → IsOfSubject issuer parent → IsPrivatePkcs1 (step_secret issuer) key.now → IfOk r (Taken b)
    → IfOk r (λ cert. (certificates : List KeptCertificate) (recorded : IssuingStep) → HasCert certificates issuer parent → IsRecordOf step recorded
    → IsNext demo_verdict certificates recorded cert)
issued_next index issuer step b parent key r by set authority subject private =
    IfOk-weaker r _ _ (λ cert next certificates recorded has of. next certificates recorded
    (issued_takes index issuer step b parent key certificates recorded by set authority subject private of has))
