-- A built certificate is the next one of a history, where its builder takes the step.
use Rattle.std.proofs.Common.{◌≡◌, ◌≢◌, ◌↔◌, ℕ, Bool, true, false, List, [], ◌∷◌, ◌++◌, Option, Some}
use Rattle.std.proofs.Common.{None, Result, Ok, Err, IfOk, MatchResult, refl, sym, ap, subst, ◌∙◌}
use Rattle.std.proofs.Math.Logic.{∥∥₁_elim}
use Rattle.std.specs.Coded.{Coded-set}
use Rattle.asn1_types.specs.declared.generalized_time.GeneralizedTime.{GeneralizedTime}
use Rattle.asn1_types.specs.declared.oids.TheConstants.{CE_BASIC_CONSTRAINTS, CE_SUBJECT_KEY_IDENTIFIER}
use Rattle.der_core.specs.DerElement.{DerElement}
use Rattle.der_core.specs.Facts.Codes.{coded_element}
use Rattle.der_core.specs.Facts.Borrowed.{AreDer-prop}
use Rattle.der_core.specs.Borrowed.{AreDer}
use Rattle.extension_types.specs.declared.basic_constraints.BasicConstraints.{BasicConstraints}
use Rattle.key_core.specs.Signing.{Signs, Pair, IsKeyPair, arithmetic}
use Rattle.key_core.specs.Verifying.{Judge}
use Rattle.name_types.specs.Name.{name}
use Rattle.key_types.specs.declared.key_info.SubjectPublicKeyInfo.{SubjectPublicKeyInfo}
use Rattle.names_core.specs.Names.{sets_of}
use Rattle.x509_types.specs.Certificate.{IsCertificate, certificate, inner_certificate}
use Rattle.x509_types.specs.CertificateElements.{CertificateElements, certificate_of, AreCertificateFields}
use Rattle.x509_types.specs.CertificateFields.{kid}
use Rattle.x509_types.specs.ExtensionParts.{HasCa, HasPathLength, HasSubjectKey, HasAuthorityKey}
use Rattle.x509_types.specs.Facts.Certificates.{certificates}
use Rattle.x509_types.specs.FirstOfValue.{extensions_in}
use Rattle.x509_types.specs.declared.certificate.Certificate.{Certificate}
use Rattle.x509_types.specs.declared.extension.Extension.{Extension}
use Rattle.x509_types.specs.declared.extension.view.ExtensionView.TheVariants as views
use Rattle.x509_core.specs.CertType.{IsSelfIssued}
use Rattle.x509_core.specs.Distinct.{AreDistinct}
use Rattle.x509_core.specs.Facts.CertificateParts.{parts_once, spelled_by}
use Rattle.x509_core.specs.FirstValue.{HasFirst}
use Rattle.x509_core.specs.History.{IssuingStep}
use Rattle.x509_core.specs.Issued.{HasCert, IsRecordedAs, IsCertifiedBy, IsNext}
use Rattle.x509_core.specs.OwnedCertificate.{KeptCertificate}
use Rattle.x509_core.specs.Parent.{AgreeByName}
use Rattle.x509_core.specs.SaidValues.{NamesKey, HasFlag, HasLength, SayTheSame}
use Rattle.x509_core.specs.Window.{IsNotBefore, IsNotAfter}
use Rattle.x509_core.specs.declared.error.CertError.{CertError}
use Rattle.x509_core.proofs.Alike.{say_the_same}
use Rattle.x509_core.proofs.Validity.{same_some}
use Rattle.x509_issuing.specs.BuiltCertificate.{NameSets, IsSubjectBy, authority_of}
use Rattle.x509_issuing.specs.Building.{IsBuilt}
use Rattle.x509_issuing.specs.MadeExtensions.{constraints_of}
use Rattle.x509_issuing.specs.TakenStep.{IsIssuerCert, IsIssuerAt, TakesStep}
use Rattle.x509_issuing.specs.declared.builder.CertificateBuilder.{CertificateBuilder}
use Rattle.x509_issuing.specs.declared.builder.IssuerInfos.{IssuerInfos}
use Rattle.x509_issuing.specs.declared.builder.SubjectInfos.{SubjectInfos}
use Rattle.x509_issuing.proofs.FirstExtensions.{first_once}
use Rattle.x509_issuing.proofs.BuiltCertificates.{signed_under}
use Rattle.x509_issuing.proofs.WantedExtensions.{built_authority, built_constrained, built_distinct, built_key}

same_constraints : (a b : BasicConstraints) → views.BasicConstraints a ≡ views.BasicConstraints b → a ≡ b
same_constraints a b e = cc

-- ---- the fields of a certificate that is stored as it is written

fields_of : (cert : KeptCertificate) → certificate_of cert.elements ≡ certificate cert.certificate → AreCertificateFields cert.elements cert.certificate
fields_of cert written =
    let inner : AreDer (inner_certificate cert.certificate) =
    ∥∥₁_elim cert.spelled (AreDer-prop (inner_certificate cert.certificate))
    (λ are. certificates.bounded (certificate_of cert.elements) cert.certificate (spelled_by cert.elements cert.certificate are)) in
    let spelled : IsCertificate (certificate cert.certificate) cert.certificate = certificates.spelled cert.certificate inner in
    subst (λ (f : CertificateElements). AreCertificateFields f cert.certificate) (parts_once spelled.elements cert.elements (sym spelled.is ∙ sym written))
    spelled.spelled

subject_is : (kept : KeptCertificate) → kept.elements.tbs.subject ≡ name kept.certificate.tbs_certificate.subject
subject_is kept =
    ∥∥₁_elim kept.spelled (Coded-set coded_element kept.elements.tbs.subject (name kept.certificate.tbs_certificate.subject)) (λ are. are.tbs.subject)

module _ (judge : Judge) (signs : Signs) (pair : Pair) (b : CertificateBuilder) (word : ℕ) (cert : KeptCertificate)
    (is : IsBuilt (arithmetic judge signs pair) b word cert) where
  fields : AreCertificateFields cert.elements cert.certificate
  fields = fields_of cert is.made.written

  abbrev Extensions : List Extension
  Extensions = extensions_in cert.certificate.tbs_certificate.extensions

  said : SayTheSame cert.elements cert.certificate
  said = say_the_same cert.elements cert.certificate fields

  built_extensions : (P : List Extension → Type 0) → P is.made.made.tbs.by.extensions → P Extensions
  built_extensions P holds = subst (λ (o : Option (List Extension)). P (extensions_in o)) (sym is.made.made.tbs.by.given) holds

  constrained : HasFirst CE_BASIC_CONSTRAINTS.now Extensions (constraints_of b)
  constrained =
      let by = is.made.made.tbs.by in
      built_extensions (λ (es : List Extension). HasFirst CE_BASIC_CONSTRAINTS.now es (constraints_of b))
      (built_constrained b is.issuer _ _ by.extensions by.built)

  abbrev own : List ℕ
  own = is.made.made.tbs.own

  has_own : HasSubjectKey cert.elements own
  has_own =
      let by = is.made.made.tbs.by in
      (said.subject_key own).1 (built_extensions (λ (es : List Extension). HasFirst CE_SUBJECT_KEY_IDENTIFIER.now es (views.SubjectKeyIdentifier own))
      (built_key b is.issuer _ _ by.extensions by.built))

  names_authority : NamesKey Extensions (authority_of is.issuer.self_signed b.authority_key_identifier own)
  names_authority =
      let by = is.made.made.tbs.by in
      built_extensions (λ (es : List Extension). NamesKey es (authority_of is.issuer.self_signed b.authority_key_identifier own))
      (built_authority b is.issuer _ _ by.extensions by.built)

  has_flag : HasCa cert.elements b.ca
  has_flag = (said.flag b.ca).1 (record { value = _; first = constrained; flagged = refl })

  has_length : (number : ℕ) → b.pathlen ≡ Some number → HasPathLength cert.elements number
  has_length number limited = (said.length number).1 (record { value = _; first = constrained; limited = limited })

  length_is : (number : ℕ) → HasPathLength cert.elements number → b.pathlen ≡ Some number
  length_is number has =
      let length : HasLength Extensions number = (said.length number).0 has in
      let same = same_constraints length.value _ (first_once CE_BASIC_CONSTRAINTS.now Extensions _ _ length.first constrained) in
      ap (λ (c : BasicConstraints). c.pathlen) (sym same) ∙ length.limited

  begins : (date : GeneralizedTime) → b.valid_from ≡ Some date → IsNotBefore cert.elements date
  begins date given =
      let tbs = is.made.made.tbs in
      let same : tbs.from ≡ date = same_some tbs.from date (sym tbs.valid_from ∙ given) in
      subst (IsNotBefore cert.elements) same
      (record { time = cert.certificate.tbs_certificate.validity.not_before; is = ap (kid 0) fields.tbs.validity; at = sym tbs.validity.begins.moment })

  ends : (date : GeneralizedTime) → b.valid_to ≡ Some date → IsNotAfter cert.elements date
  ends date given =
      let tbs = is.made.made.tbs in
      let same : tbs.to ≡ date = same_some tbs.to date (sym tbs.valid_to ∙ given) in
      subst (IsNotAfter cert.elements) same
      (record { time = cert.certificate.tbs_certificate.validity.not_after; is = ap (kid 1) fields.tbs.validity; at = sym tbs.validity.ends.moment })

  issuer_is : cert.elements.tbs.issuer ≡ name (sets_of is.issuer.name)
  issuer_is = fields.tbs.issuer ∙ ap name is.made.made.tbs.by.issued_by.named

  -- of a self-signed certificate the subject is the issuer
  own_subject : (self_signed : Bool) → self_signed ≡ true → (authority : Option (List ℕ)) (given : Option SubjectInfos) (subject : NameSets)
      (key : SubjectPublicKeyInfo) → IsSubjectBy judge self_signed is.issuer authority given subject key → subject ≡ sets_of is.issuer.name
  own_subject true e authority given subject key by = by.0
  own_subject false e authority given subject key by = absurd cc

  self_issued : is.issuer.self_signed ≡ true → IsSelfIssued cert.elements
  self_issued own_name =
      let tbs = is.made.made.tbs in
      issuer_is ∙ ap name (sym (own_subject is.issuer.self_signed own_name b.authority_key_identifier b.subject_infos cert.certificate.tbs_certificate.subject
      cert.certificate.tbs_certificate.subject_public_key_info tbs.issued_to.subject)) ∙ sym fields.tbs.subject

  module _ (parent : KeptCertificate) (by : IsIssuerCert pair b is.issuer parent) where
    agreed : AgreeByName parent.elements cert.elements
    agreed = issuer_is ∙ ap name by.name ∙ sym (subject_is parent)

    named : HasAuthorityKey cert.elements by.key
    named = (said.authority_key by.key).1
        (subst (λ (o : Option (List ℕ)). NamesKey Extensions (authority_of false o own)) by.authority
        (subst (λ (flag : Bool). NamesKey Extensions (authority_of flag b.authority_key_identifier own)) by.other names_authority))

    certified : IsCertifiedBy judge parent.elements cert.elements
    certified = record {
      name = agreed;
      key = by.key;
      named = named;
      had = by.had;
      signed = signed_under judge signs pair b word cert parent is by.paired;
    }

  module _ (certificates : List KeptCertificate) (step : IssuingStep) (takes : TakesStep pair b certificates step) where
    same_issuer : takes.issuer ≡ is.issuer
    same_issuer = same_some takes.issuer is.issuer (sym takes.given ∙ is.given)

    by : IsIssuerAt pair b is.issuer certificates step.issuer
    by = subst (λ (i : IssuerInfos). IsIssuerAt pair b i certificates step.issuer) same_issuer takes.by

    recorded : IsRecordedAs step cert
    recorded = record {
      flag = subst (HasCa cert.elements) (sym takes.ca) has_flag;
      length = λ number. (λ has. takes.pathlen ∙ length_is number has, λ limited. has_length number (sym takes.pathlen ∙ limited));
      begins = begins step.not_before takes.begins;
      ends = ends step.not_after takes.ends;
      key = own;
      identified = has_own;
      distinct =
          let built = is.made.made.tbs.by in
          built_extensions AreDistinct (built_distinct b is.issuer _ _ built.extensions built.built);
    }

    pub is_next : IsNext judge certificates step cert
    is_next = record {
      recorded = recorded;
      root = λ unissued. self_issued (subst (IsIssuerAt pair b is.issuer certificates) unissued by);
      issued = λ issuer under.
          let found = subst (IsIssuerAt pair b is.issuer certificates) under by in
          (found.0, found.1, certified found.0 found.2);
    }

pub next_of : (judge : Judge) (signs : Signs) (pair : Pair) (b : CertificateBuilder) (word : ℕ) (r : Result KeptCertificate CertError)
    (Refused : CertError → Type 0)
    → MatchResult r (IsBuilt (arithmetic judge signs pair) b word) Refused
    → IfOk r (λ cert. (certificates : List KeptCertificate) (step : IssuingStep) → TakesStep pair b certificates step → IsNext judge certificates step cert)
next_of judge signs pair b word (Ok cert) Refused is = is_next judge signs pair b word cert is
next_of judge signs pair b word (Err e) Refused is = tt
