-- Signed data of the plain form is vouched for exactly if it is accepted by its own condition.
use Rattle.std.proofs.Common.{◌≡◌, ◌↔◌, ℕ, List, [], ◌∷◌, ◌++◌, length, inl, inr, refl, sym, ap, subst, ◌∙◌, arith}
use Rattle.std.proofs.lemmas.Option.{slice_get_within}
use Rattle.asn1_types.specs.declared.oids.TheConstants as identifiers
use Rattle.cms_types.specs.SignerElements.{SignerElements}
use Rattle.cms_types.specs.SignerView.{LendsNamed}
use Rattle.der_core.specs.DerElement.{DerElement, Primitive}
use Rattle.der_core.specs.Elements.{sequence, bit_octets, null}
use Rattle.der_core.specs.Encoding.{encoding, IsDer}
use Rattle.key_core.specs.Pkcs1.{IsPkcs1Of}
use Rattle.key_core.specs.SchemeNames.{rsa_alg}
use Rattle.key_core.specs.Verifying.{Judge}
use Rattle.key_types.specs.AlgorithmIdentifier.{algorithm_identifier}
use Rattle.key_types.specs.PublicKeyInfo.{subject_public_key}
use Rattle.key_types.specs.PublicKeyInfo.{public_key_info as written_info}
use Rattle.key_types.specs.RsaPublicKey.{rsa_public_key}
use Rattle.key_types.specs.declared.key_info.SubjectPublicKeyInfo.{SubjectPublicKeyInfo}
use Rattle.key_types.specs.declared.subject_key.SubjectKey.{SubjectKey}
use Rattle.key_types.specs.declared.subject_key.SubjectKey.TheVariants as keys
use Rattle.sig_core.specs.declared.algorithm.SigAlg.TheVariants.{RsaSha256}
use Rattle.sig_core.specs.declared.hash.HashAlgorithm.{HashAlgorithm}
use Rattle.sig_core.specs.declared.hash.HashAlgorithm.TheVariants.{SHA2_256}
use Rattle.sig_core.specs.declared.scheme.Verdict.TheVariants.{Accept}
use Rattle.sig_core.specs.declared.sha_variant.ShaVariant.TheVariants as variants
use Rattle.x509_types.specs.CertificateElements.{CertificateElements}
use Rattle.x509_types.specs.Purposes.{HasPurposes}
use Rattle.authenticode_core.specs.BagSigner.{IsNamedByFirst}
use Rattle.authenticode_core.specs.Basic.{VouchesFor}
use Rattle.authenticode_core.specs.CertificateBag.{IsBag, IsMember}
use Rattle.authenticode_core.specs.Indices.{StandsAt}
use Rattle.authenticode_core.specs.PlainFields.{HasPlainFields, IsPlainlyAccepted, plain_data, plain_elements, plain_signer}
use Rattle.authenticode_core.specs.PlainForm.{CertificateParts, IsPlain, IsPlainForm, PlainParts, algorithm}
use Rattle.authenticode_core.specs.PlainForm.{plain_certificate, plain_name, plain_public_key_info, plain_message}
use Rattle.authenticode_core.specs.SignedFields.{IndirectData, IsFirstSigner, signers_of}
use Rattle.authenticode_core.specs.SigningRules.{AsksForPurposes, IsSigned, HasSignatureBy, NamesDigest}
use Rattle.authenticode_core.proofs.DigestNames.{named_once}
use Rattle.authenticode_core.proofs.FormFields.{indirect_once, signer_once}
use Rattle.authenticode_core.proofs.NamedMembers.{named_or_not}
use Rattle.authenticode_core.proofs.OneCertificate.{one_certificate}
use Rattle.authenticode_core.proofs.PlainShape.{bounded, plain_form_has_fields}
use Rattle.authenticode_core.proofs.PlainCertificate.{IsPlainCertificate, certificate_fits, info_is, info_of, key_is_encoded, plain_certificate_fields}
use Rattle.authenticode_core.proofs.WalkSteps.{same_certificate}

-- ---- a bag with at most one member

only_one : (member : DerElement) (bag : List CertificateElements) (place : ℕ) (c : CertificateElements) → IsBag (member ∷ []) bag → StandsAt bag place c
    → (place ≡ 0) × IsMember member c
only_one member bag place c (inl p) stands = absurd (omega (arith, slice_get_within bag place c stands, ap length p.1))
only_one member bag place c (inr p) stands =
    let whole : bag ≡ p.0 ∷ [] = p.2 ∙ ap (λ (rest : List CertificateElements). p.0 ∷ rest) p.4 in
    let first : StandsAt bag 0 p.0 = subst (λ (b : List CertificateElements). StandsAt b 0 p.0) (sym whole) refl in
    let at : 0 ≡ place = omega (arith, slice_get_within bag place c stands, ap length whole) in
    (sym at, subst (IsMember member) (sym (same_certificate bag 0 place p.0 c at first stands)) p.3)

-- ---- the key

key_is : (info : SubjectPublicKeyInfo) (key : SubjectKey) (octets bytes : List ℕ) → info.subject_public_key ≡ key
    → plain_public_key_info octets ≡ written_info info → IsPkcs1Of key bytes → bytes ≡ octets
key_is info (keys.Rsa k) octets bytes is same pkcs1 =
    let both : plain_public_key_info octets ≡ sequence (algorithm_identifier info.algorithm ∷ bit_octets (encoding (rsa_public_key k)) ∷ []) =
    same ∙ ap (λ (s : SubjectKey). sequence (algorithm_identifier info.algorithm ∷ subject_public_key s ∷ [])) is in
    let contents : octets ≡ encoding (rsa_public_key k) = cc in
    pkcs1.0 ∙ sym contents
key_is info (keys.Ec bits) octets bytes is same pkcs1 = absurd pkcs1
key_is info (keys.Ed bits) octets bytes is same pkcs1 = absurd pkcs1
key_is info (keys.Mldsa bits) octets bytes is same pkcs1 = absurd pkcs1

contents_once : (s t : List ℕ) → Primitive 0x04 s ≡ Primitive 0x04 t → s ≡ t
contents_once s t e = cc

names_sha256 : NamesDigest (algorithm identifiers.SHA256.now) SHA2_256
names_sha256 = record { variant = variants.SHA2_256; parameters = null ∷ []; is = refl; named = refl }

module _ (judge : Judge) (p : PlainParts) where
  accepted : (c : CertificateElements) (hash : HashAlgorithm) → IsMember (plain_certificate p.certificate) c
      → NamesDigest (plain_signer p.signer).digest_algorithm hash → HasSignatureBy judge (plain_signer p.signer) hash c
      → judge RsaSha256 p.certificate.tbs.key (plain_message p) p.signer.signature ≡ Accept
  accepted c hash member named signed =
      let same : plain_certificate_fields p.certificate ≡ c = one_certificate (plain_certificate_fields p.certificate) c member.is in
      let info : plain_public_key_info p.certificate.tbs.key ≡ written_info signed.info =
      ap (λ (x : CertificateElements). x.tbs.subject_public_key_info) same ∙ signed.key in
      let digest : hash ≡ SHA2_256 = named_once (algorithm identifiers.SHA256.now) hash SHA2_256 named names_sha256 in
      let a = signed.accepted in
      let alg : a.alg ≡ RsaSha256 = a.fits.0 ∙ ap rsa_alg digest in
      let key : a.bytes ≡ p.certificate.tbs.key = key_is signed.info signed.info.subject_public_key p.certificate.tbs.key a.bytes refl info a.fits.1 in
      let signature : signed.signature ≡ p.signer.signature = contents_once signed.signature p.signer.signature (sym signed.octets) in
      let judged : judge a.alg a.bytes (plain_message p) signed.signature ≡ Accept = a.judged in
      let moved : judge a.alg a.bytes (plain_message p) signed.signature ≡ judge RsaSha256 p.certificate.tbs.key (plain_message p) p.signer.signature =
      λ i. judge (alg i) (key i) (plain_message p) (signature i) in
      sym moved ∙ judged

  signed_there : (d : IndirectData) (place : ℕ) → IsSigned judge (plain_elements p) d (plain_signer p.signer) place
      → (place ≡ 0) × (judge RsaSha256 p.certificate.tbs.key (plain_message p) p.signer.signature ≡ Accept)
  signed_there d place s =
      let one = only_one (plain_certificate p.certificate) s.bag place s.certificate s.is_bag s.is_signer.stands in
      (one.0, accepted s.certificate s.hash one.1 s.named s.signed)

  pub was_accepted : (file_hash : List ℕ) (place : ℕ) → IsFirstSigner (plain_elements p) (plain_signer p.signer)
      → VouchesFor judge (plain_elements p) file_hash place → (place ≡ 0) × IsPlainlyAccepted judge p file_hash
  was_accepted file_hash place first v =
      let d : v.d ≡ plain_data p.file_hash = indirect_once (plain_elements p) v.d (plain_data p.file_hash) v.form.indirect refl in
      let g : v.g ≡ plain_signer p.signer = signer_once (plain_elements p) v.g (plain_signer p.signer) v.form.signer first in
      let there = signed_there v.d place (subst (λ (x : SignerElements). IsSigned judge (plain_elements p) v.d x place) g v.signed) in
      (there.0, record { digest = sym (ap (λ (x : IndirectData). x.digest) d) ∙ v.binds_hash; accepted = there.1 })

-- ---- what is accepted is vouched for

plain_parts : (p : PlainParts) → IsPlain p → IsPlainCertificate p.certificate
plain_parts p plain = record { some_serial = plain.some_serial; not_before = plain.not_before; not_after = plain.not_after; key = plain.key }

-- the only certificate has no extended key usage
asks_nothing : (c : CertificateParts) → AsksForPurposes (plain_certificate_fields c ∷ []) (plain_certificate_fields c) → ⊥
asks_nothing c asks =
    let place : 0 ≡ asks.place = omega (arith, slice_get_within (plain_certificate_fields c ∷ []) asks.place asks.c asks.stands) in
    let same : asks.c ≡ plain_certificate_fields c =
    same_certificate (plain_certificate_fields c ∷ []) 0 asks.place (plain_certificate_fields c) asks.c place refl asks.stands in
    no_extension (subst HasPurposes same asks.purposes) where
      no_extension : HasPurposes (plain_certificate_fields c) → ⊥
      no_extension h = none h.1.before h.1.extension h.1.after h.1.are where
        none : (before : List DerElement) (x : DerElement) (after : List DerElement) → [] ≡ before ++ x ∷ after → ⊥
        none [] x after e = absurd cc
        none (b ∷ before) x after e = absurd cc

module _ (judge : Judge) (p : PlainParts) (file_hash : List ℕ) (plain : IsPlain p) (der : IsDer null) (fields : HasPlainFields p)
    (a : IsPlainlyAccepted judge p file_hash) where
  is_named : IsNamedByFirst (signers_of (plain_elements p)) (plain_certificate_fields p.certificate)
  is_named =
      let lent : LendsNamed (plain_signer p.signer).sid (encoding (plain_name p.signer.issuer)) p.signer.serial =
      record { name = plain_name p.signer.issuer; is = refl; octets = refl } in
      (named_or_not (plain_elements p) (plain_signer p.signer) (encoding (plain_name p.signer.issuer)) p.signer.serial fields.form.signer lent
      (plain_certificate_fields p.certificate)).0
      (ap (λ (text : List ℕ). encoding (plain_name text)) (sym plain.issuer), sym plain.serial)

  is_signed : HasSignatureBy judge (plain_signer p.signer) SHA2_256 (plain_certificate_fields p.certificate)
  is_signed = record {
    info = info_of p.certificate.tbs.key plain.key der;
    key = info_is p.certificate.tbs.key plain.key der;
    signature = p.signer.signature;
    octets = refl;
    accepted = record { alg = RsaSha256; bytes = p.certificate.tbs.key; fits = (refl, key_is_encoded p.certificate.tbs.key plain.key); judged = a.accepted };
  }

  pub is_vouched : VouchesFor judge (plain_elements p) file_hash 0
  is_vouched =
      let c = plain_certificate_fields p.certificate in
      record {
        algorithm = algorithm identifiers.SHA256.now;
        d = plain_data p.file_hash;
        g = plain_signer p.signer;
        form = fields.form;
        binds_hash = a.digest;
        signed = record {
          bag = c ∷ [];
          is_bag = inr (c, [], refl, record { is = refl; fits = certificate_fits p.certificate (plain_parts p plain) der }, refl);
          certificate = c;
          is_signer = record { later = omega arith; stands = refl; fits = is_named; least = λ place x later before at fits. absurd (omega (arith, before)) };
          hash = SHA2_256;
          named = fields.named;
          signed = is_signed;
          supported = λ e. absurd cc;
          bound = fields.bound;
          code_signing = λ asks. absurd (asks_nothing p.certificate asks);
        };
      }

pub vouched_exactly : (judge : Judge) (octets : List ℕ) (p : PlainParts) (file_hash : List ℕ) (place : ℕ) → IsPlainForm octets p
    → VouchesFor judge (plain_elements p) file_hash place ↔ ((place ≡ 0) × IsPlainlyAccepted judge p file_hash)
vouched_exactly judge octets p file_hash place form =
    let fields = plain_form_has_fields octets p form in
    let b = bounded p form.spelled.0 in (
      λ v. was_accepted judge p file_hash place fields.form.signer v,
      λ a. subst (λ (n : ℕ). VouchesFor judge (plain_elements p) file_hash n) (sym a.0) (is_vouched judge p file_hash form.plain b.parameters fields a.1),
    )
