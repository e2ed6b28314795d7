-- A built certificate whose signature is one by the key of its issuer's certificate is recorded as
-- granted, and certified by that certificate.
use Rattle.std.proofs.Common.{◌≡◌, ℕ, Bool, false, List, Option, Some, refl, sym, ap, subst, ◌∙◌}
use Rattle.asn1_types.specs.declared.generalized_time.GeneralizedTime.{GeneralizedTime}
use Rattle.asn1_types.specs.declared.oids.TheConstants.{CE_BASIC_CONSTRAINTS}
use Rattle.asn1_types.specs.Values.{identifier_contents}
use Rattle.der_core.specs.Rules.{IsFirstBroken}
use Rattle.extension_types.specs.declared.basic_constraints.BasicConstraints.{BasicConstraints}
use Rattle.key_types.specs.declared.algorithm.AlgorithmIdentifier.{AlgorithmIdentifier}
use Rattle.key_types.specs.declared.key_info.SubjectPublicKeyInfo.{SubjectPublicKeyInfo}
use Rattle.key_core.specs.SignatureAlgorithm.{NamesSignature}
use Rattle.key_core.specs.Signing.{Pair, Signs, arithmetic}
use Rattle.key_core.specs.Verifying.{Judge, verify_rules}
use Rattle.key_core.specs.declared.private_key.PrivateKey.{PrivateKey}
use Rattle.key_core.specs.declared.signature_algorithm.SignatureAlgorithm.{SignatureAlgorithm}
use Rattle.key_core.proofs.SignatureIdentifiers.{same_algorithm}
use Rattle.key_core.proofs.Verifications.{accepted_is_met}
use Rattle.name_types.specs.Name.{name}
use Rattle.names_core.specs.Names.{name_of_sets, sets_of}
use Rattle.x509_types.specs.CertificateElements.{AreCertificateFields, CertificateElements}
use Rattle.x509_types.specs.CertificateFields.{kid}
use Rattle.x509_types.specs.ExtensionParts.{HasAuthorityKey, HasCa, HasPathLength, HasSubjectKey}
use Rattle.x509_types.specs.FirstOfValue.{extensions_in}
use Rattle.x509_types.specs.declared.extension.view.ExtensionView.TheVariants as views
use Rattle.std.proofs.Math.Logic.{∥∥₁_elim}
use Rattle.std.specs.Borrow.{Bor}
use Rattle.std.specs.Coded.{Coded-set}
use Rattle.der_core.specs.Facts.Codes.{coded_element}
use Rattle.x509_core.specs.Distinct.{AreDistinct}
use Rattle.x509_core.specs.FirstValue.{HasFirst}
use Rattle.x509_core.specs.Issued.{IsCertifiedBy, IsRecordedAs}
use Rattle.x509_core.specs.OwnedCertificate.{KeptCertificate}
use Rattle.x509_core.specs.Link.{IsBadlySignedLink, IsSignedBy, signed_octets}
use Rattle.x509_core.specs.Parent.{AgreeByName}
use Rattle.x509_core.specs.SaidValues.{HasLength, NamesKey, SayTheSame}
use Rattle.x509_core.specs.Window.{IsNotAfter, IsNotBefore}
use Rattle.x509_core.specs.declared.error.CertCause.{CertCause}
use Rattle.x509_core.proofs.Alike.{say_the_same}
use Rattle.x509_core.proofs.SignedParts.{one_algorithm, one_key}
use Rattle.x509_core.proofs.Validity.{same_some}
use Rattle.x509_issuing.specs.Building.{IsBuilt}
use Rattle.x509_issuing.specs.BuiltCertificate.{IsIdentified, authority_of}
use Rattle.x509_issuing.specs.IssuedUnder.{IsIssuedUnder}
use Rattle.x509_issuing.specs.MadeExtensions.{constraints_of}
use Rattle.x509_issuing.specs.declared.builder.CertificateBuilder.{CertificateBuilder}
use Rattle.x509_issuing.specs.declared.builder.IssuerInfos.{IssuerInfos}
use Rattle.x509_issuing.proofs.FirstExtensions.{first_once}
use Rattle.ca_register.specs.Entries.{step_of}
use Rattle.ca_register.specs.Granting.{IsGranted}
use Rattle.ca_register.specs.declared.entry.Entry.{Entry}

same_constraints : (a b : BasicConstraints) → views.BasicConstraints a ≡ views.BasicConstraints b → a ≡ b
same_constraints a b e = cc

subject_is : (kept : KeptCertificate) → kept.elements.tbs.subject ≡ name kept.certificate.tbs_certificate.subject
subject_is kept =
    ∥∥₁_elim kept.spelled (Coded-set coded_element kept.elements.tbs.subject (name kept.certificate.tbs_certificate.subject)) (λ are. are.tbs.subject)

module _ (judge : Judge) (signs : Signs) (pair : Pair) (b : CertificateBuilder) (word : ℕ) (cert : KeptCertificate)
    (is : IsBuilt (arithmetic judge signs pair) b word cert)
    (are : AreCertificateFields cert.elements cert.certificate)
    (constrained : HasFirst CE_BASIC_CONSTRAINTS.now (extensions_in cert.certificate.tbs_certificate.extensions) (constraints_of b))
    (identified : IsIdentified b cert.certificate.tbs_certificate) (distinct : AreDistinct (extensions_in cert.certificate.tbs_certificate.extensions)) where
  said : SayTheSame cert.elements cert.certificate
  said = say_the_same cert.elements cert.certificate are

  has_flag : HasCa cert.elements b.ca
  has_flag = (said.flag b.ca).1 (record { value = _; first = constrained; flagged = refl })

  has_length : (number : ℕ) → b.pathlen ≡ Some number → HasPathLength cert.elements number
  has_length number limited = (said.length number).1 (record { value = _; first = constrained; limited = limited })

  length_is : (number : ℕ) → HasPathLength cert.elements number → b.pathlen ≡ Some number
  length_is number has =
      let length : HasLength (extensions_in cert.certificate.tbs_certificate.extensions) number = (said.length number).0 has in
      let same = same_constraints length.value _
      (first_once CE_BASIC_CONSTRAINTS.now (extensions_in cert.certificate.tbs_certificate.extensions) _ _ length.first constrained) in
      ap (λ (c : BasicConstraints). c.pathlen) (sym same) ∙ length.limited

  begins : (date : GeneralizedTime) → b.valid_from ≡ Some date → IsNotBefore cert.elements date
  begins date given =
      let tbs = is.made.made.tbs in
      let same : tbs.from ≡ date = same_some tbs.from date (sym tbs.valid_from ∙ given) in
      subst (IsNotBefore cert.elements) same
      (record { time = cert.certificate.tbs_certificate.validity.not_before; is = ap (kid 0) are.tbs.validity; at = sym tbs.validity.begins.moment })

  ends : (date : GeneralizedTime) → b.valid_to ≡ Some date → IsNotAfter cert.elements date
  ends date given =
      let tbs = is.made.made.tbs in
      let same : tbs.to ≡ date = same_some tbs.to date (sym tbs.valid_to ∙ given) in
      subst (IsNotAfter cert.elements) same
      (record { time = cert.certificate.tbs_certificate.validity.not_after; is = ap (kid 1) are.tbs.validity; at = sym tbs.validity.ends.moment })

  pub recorded : (entry : Entry) → IsGranted entry.grant b → IsRecordedAs (step_of entry) cert
  recorded entry granted = record {
    flag = subst (HasCa cert.elements) granted.ca has_flag;
    length = λ number. (λ has. sym granted.path_length ∙ length_is number has, λ limited. has_length number (granted.path_length ∙ limited));
    begins = begins entry.grant.from granted.begins;
    ends = ends entry.grant.to granted.ends;
    key = identified.own;
    identified = (said.subject_key identified.own).1 identified.key;
    distinct = distinct;
  }

  module _ (parent : KeptCertificate) (key : Bor PrivateKey) (before : CertificateBuilder) (under : IsIssuedUnder parent key before b) (own : List ℕ)
      (had : HasSubjectKey parent.elements own) (authority : b.authority_key_identifier ≡ Some own)
      (signed : IsSignedBy judge parent.elements cert.elements) where
    abbrev Infos : IssuerInfos
    Infos = record { name = name_of_sets parent.certificate.tbs_certificate.subject; key = key; self_signed = false }

    given : b.issuer_infos ≡ Some Infos
    given = ap (λ (x : CertificateBuilder). x.issuer_infos) under.is

    same_issuer : Infos ≡ is.issuer
    same_issuer = same_some Infos is.issuer (sym given ∙ is.given)

    issuer_named : sets_of is.issuer.name ≡ parent.certificate.tbs_certificate.subject
    issuer_named = subst (λ (i : IssuerInfos). sets_of i.name ≡ parent.certificate.tbs_certificate.subject) same_issuer refl

    agreed : AgreeByName parent.elements cert.elements
    agreed = are.tbs.issuer ∙ ap name is.made.made.tbs.by.issued_by.named ∙ ap name issuer_named ∙ sym (subject_is parent)

    other : identified.issuer.self_signed ≡ false
    other = subst (λ (i : IssuerInfos). i.self_signed ≡ false) (same_some Infos identified.issuer (sym given ∙ identified.given)) refl

    named : HasAuthorityKey cert.elements own
    named =
        (said.authority_key own).1
        (subst (λ (o : Option (List ℕ)). NamesKey (extensions_in cert.certificate.tbs_certificate.extensions) (authority_of false o identified.own)) authority
        (subst (λ (flag : Bool). NamesKey (extensions_in cert.certificate.tbs_certificate.extensions)
        (authority_of flag b.authority_key_identifier identified.own)) other identified.authority))

    pub certified : IsCertifiedBy judge parent.elements cert.elements
    certified = record { name = agreed; key = own; named = named; had = had; signed = signed }

-- ---- a signature by the key isn't refused

pub well_signed : (judge : Judge) (parent child : CertificateElements) (cause : CertCause) → IsSignedBy judge parent child
    → IsBadlySignedLink judge parent child cause → ⊥
well_signed judge parent child cause s b =
    let id = one_algorithm child s.parts.id b.parts.id s.parts.beside b.parts.beside in
    let named = subst (λ (id : AlgorithmIdentifier). NamesSignature id s.algorithm) id s.parts.named in
    let algorithm = same_algorithm b.algorithm s.algorithm (identifier_contents b.parts.id.oid) b.parts.named named in
    let info = one_key parent b.info s.info b.parts.key s.parts.key in
    accepted_is_met judge s.algorithm s.info (signed_octets child) child.signature b.source s.accepted
    (subst (λ (i : SubjectPublicKeyInfo). IsFirstBroken (verify_rules judge s.algorithm i (signed_octets child) child.signature) b.source) info
    (subst (λ (a : SignatureAlgorithm). IsFirstBroken (verify_rules judge a b.info (signed_octets child) child.signature) b.source) algorithm b.refused))
