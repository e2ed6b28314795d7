-- The rules of the signature: what meets them, and that each is reported by one error.
use Rattle.std.proofs.Common.{◌≡◌, ◌≢◌, ℕ, List, [], ◌∷◌, refl, sym, ap, subst, ◌∙◌}
use Rattle.asn1_types.specs.Elements.{integer}
use Rattle.asn1_types.specs.Facts.Elements.{integers}
use Rattle.asn1_types.specs.declared.oids.TheConstants.{KP_CODE_SIGNING}
use Rattle.cms_types.specs.SignedDataElements.{SignedDataElements}
use Rattle.cms_types.specs.SignerElements.{SignerElements}
use Rattle.cms_types.specs.SignerIdentifier.{issuer_and_serial_number, signer_identifier}
use Rattle.cms_types.specs.SignerInfo.{signer_elements, signer_info}
use Rattle.der_core.specs.Optional.{members_of}
use Rattle.der_core.specs.DerElement.{DerElement, Primitive}
use Rattle.der_core.specs.Elements.{sequence}
use Rattle.der_core.specs.Rules.{IsMet, IsFirstBroken}
use Rattle.der_core.proofs.RuleLists.{AreMet, AreReturnedOnce, IsReturnedOnce, none_broken, one_broken}
use Rattle.key_core.proofs.Verifications.{verify_one, accepted_is_met}
use Rattle.key_core.specs.Verifying.{Judge, verify_rules}
use Rattle.key_core.specs.declared.signature_algorithm.SignatureAlgorithm.TheVariants.{RsaPkcs1v15}
use Rattle.key_core.specs.declared.signature_error.SignatureError.{SignatureError}
use Rattle.key_types.specs.declared.key_info.SubjectPublicKeyInfo.{SubjectPublicKeyInfo}
use Rattle.name_types.specs.Name.{name}
use Rattle.names_core.specs.Facts.{directory_names}
use Rattle.names_core.specs.declared.name.DirectoryName.{DirectoryName}
use Rattle.sig_core.specs.Digest.{digest_of}
use Rattle.sig_core.specs.declared.error.UnsupportedAlgorithmError.{UnsupportedAlgorithmError}
use Rattle.sig_core.specs.declared.hash.HashAlgorithm.{HashAlgorithm}
use Rattle.sig_core.specs.declared.hash.HashAlgorithm.TheVariants.{SHA2_224}
use Rattle.x509_core.proofs.SignedParts.{one_key}
use Rattle.x509_types.specs.CertificateElements.{CertificateElements}
use Rattle.x509_types.specs.Purposes.{NamesPurpose}
use Rattle.authenticode_core.specs.BagSigner.{IsNamedByFirst}
use Rattle.authenticode_core.specs.SignedFields.{HasMessageDigest, IndirectData, IsFirstSigner, signed_message, signers_of}
use Rattle.authenticode_core.specs.SigningRules.{AsksForPurposes, DigestDiffers, HasNoCertificate, HasNoMessageDigest, HasUnknownDigest, IsBadlySigned}
use Rattle.authenticode_core.specs.SigningRules.{IsBagOf, IsForCodeSigning, IsNamedByKey, IsNotForCodeSigning, IsRefusedUnder, IsSigned}
use Rattle.authenticode_core.specs.SigningRules.{HasSignatureBy, IsSignerCertificate, IsUnsupportedDigest, NamesDigest, digested_octets, signing_rules}
use Rattle.authenticode_core.specs.declared.error.AuthenticodeError.{AuthenticodeError}
use Rattle.authenticode_core.specs.declared.error.AuthenticodeError.TheVariants as errors
use Rattle.authenticode_core.proofs.BagSteps.{one_bag}
use Rattle.authenticode_core.proofs.DigestNames.{named_once}
use Rattle.authenticode_core.proofs.FirstAttributes.{message_digest_once}
use Rattle.authenticode_core.proofs.SignerSteps.{heads, same_sid}
use Rattle.authenticode_core.proofs.WalkSteps.{least_once}

-- ---- the first signer, and its certificate

named_sid : (f : SignedDataElements) (g : SignerElements) (c : CertificateElements) → IsFirstSigner f g → (n : IsNamedByFirst (signers_of f) c)
    → g.sid ≡ issuer_and_serial_number n.value
named_sid f g c first n =
    ap (λ (x : SignerElements). x.sid) first.is
    ∙ same_sid (signer_elements first.value) (signer_elements n.signer)
    (heads (signer_info first.value) (signer_info n.signer) first.others n.others (sym first.first ∙ n.first))
    ∙ ap signer_identifier n.sid

key_or_name : (octets : List ℕ) (kids : List DerElement) → Primitive 0x80 octets ≡ sequence kids → ⊥
key_or_name octets kids e = absurd cc

pub same_bag : (f : SignedDataElements) (a b : List CertificateElements) → IsBagOf f a → IsBagOf f b → a ≡ b
same_bag f a b = one_bag (members_of f.certificates) a b

-- there is one signer's certificate, at one index
pub signer_once : (f : SignedDataElements) (a b : List CertificateElements) (p q : ℕ) (c d : CertificateElements) → IsBagOf f a → IsBagOf f b
    → IsSignerCertificate f a p c → IsSignerCertificate f b q d → (p ≡ q) × (d ≡ c)
signer_once f a b p q c d first second here there =
    least_once a (IsNamedByFirst (signers_of f)) 0 p q c d here
    (subst (λ (bag : List CertificateElements). IsSignerCertificate f bag q d) (same_bag f b a second first) there)

signature_octets : (s t : List ℕ) → Primitive 0x04 s ≡ Primitive 0x04 t → s ≡ t
signature_octets s t e = cc

-- ---- rules that are met

module _ (f : SignedDataElements) (g : SignerElements) where
  pub named_is_met : (bag : List CertificateElements) (place : ℕ) (c : CertificateElements) → IsFirstSigner f g → IsSignerCertificate f bag place c
      → IsMet (IsNamedByKey g)
  named_is_met bag place c first signer = λ e broken.
      let named = named_sid f g c first signer.fits in
      key_or_name broken.0 (name signer.fits.value.issuer ∷ integer signer.fits.value.serial_number ∷ []) (sym broken.1 ∙ named)

  pub certificate_is_met : (bag : List CertificateElements) (place : ℕ) (c : CertificateElements) → IsBagOf f bag → IsSignerCertificate f bag place c
      → IsMet (HasNoCertificate f g)
  certificate_is_met bag place c is signer = λ e broken.
      let there : IsSignerCertificate f broken.bag place c =
      subst (λ (b : List CertificateElements). IsSignerCertificate f b place c) (same_bag f bag broken.bag is broken.is_bag) signer in
      broken.none place c there.later there.stands there.fits

  -- reported by one error

  pub certificate_once : IsReturnedOnce (HasNoCertificate f g)
  certificate_once a b p q =
      let parts = two (name p.issuer.name) (name q.issuer.name) (integer p.serial_number) (integer q.serial_number) (sym p.named ∙ q.named) in
      p.returned
      ∙ ap (λ (n : DirectoryName). errors.NoCertificatesAssociatedWithIssuerAndSerialNumber n p.serial_number)
      (directory_names.once (name p.issuer.name) p.issuer q.issuer refl parts.0)
      ∙ ap (errors.NoCertificatesAssociatedWithIssuerAndSerialNumber q.issuer)
      (integers.once (integer p.serial_number) p.serial_number q.serial_number refl parts.1)
      ∙ sym q.returned
    where
      two : (x y s t : DerElement) → sequence (x ∷ s ∷ []) ≡ sequence (y ∷ t ∷ []) → (x ≡ y) × (s ≡ t)
      two x y s t e = (cc, cc)

module _ (judge : Judge) (f : SignedDataElements) (d : IndirectData) (g : SignerElements) where
  pub digest_is_met : (hash : HashAlgorithm) → NamesDigest g.digest_algorithm hash → IsMet (HasUnknownDigest g)
  digest_is_met hash named = λ e broken. broken.0 hash named

  well_signed : (hash : HashAlgorithm) (c : CertificateElements) (e : AuthenticodeError) → HasSignatureBy judge g hash c → IsRefusedUnder judge g hash c e → ⊥
  well_signed hash c e s b =
      let info = one_key c b.info s.info b.key s.key in
      let signature = signature_octets b.signature s.signature (sym b.octets ∙ s.octets) in
      accepted_is_met judge (RsaPkcs1v15 hash) s.info (signed_message g) s.signature b.source s.accepted
      (subst (λ (t : List ℕ). IsFirstBroken (verify_rules judge (RsaPkcs1v15 hash) s.info (signed_message g) t) b.source) signature
      (subst (λ (i : SubjectPublicKeyInfo). IsFirstBroken (verify_rules judge (RsaPkcs1v15 hash) i (signed_message g) b.signature) b.source) info b.refused))

  same_refusal : (hash other : HashAlgorithm) (c k : CertificateElements) (e : AuthenticodeError) → other ≡ hash → k ≡ c → IsRefusedUnder judge g other k e
      → IsRefusedUnder judge g hash c e
  same_refusal hash other c k e p q refused =
      subst (λ (x : CertificateElements). IsRefusedUnder judge g hash x e) q (subst (λ (h : HashAlgorithm). IsRefusedUnder judge g h k e) p refused)

  pub signature_is_met : (bag : List CertificateElements) (place : ℕ) (c : CertificateElements) (hash : HashAlgorithm) → IsBagOf f bag
      → IsSignerCertificate f bag place c → NamesDigest g.digest_algorithm hash → HasSignatureBy judge g hash c
      → IsMet (IsBadlySigned judge f g)
  signature_is_met bag place c hash is signer named signed = λ e broken.
      well_signed hash c e signed (same_refusal hash broken.hash c broken.certificate e
      (named_once g.digest_algorithm broken.hash hash broken.named named)
      (signer_once f bag broken.bag place broken.place c broken.certificate is broken.is_bag signer broken.is_signer).1
      broken.refused)

  pub message_is_met : (digest : List ℕ) → HasMessageDigest g digest → IsMet (HasNoMessageDigest g)
  message_is_met digest has = λ e broken. broken.0 digest has

  pub supported_is_met : (hash : HashAlgorithm) → NamesDigest g.digest_algorithm hash → hash ≢ SHA2_224 → IsMet (IsUnsupportedDigest g)
  supported_is_met hash named supported = λ e broken. supported (named_once g.digest_algorithm hash SHA2_224 named broken.0)

  pub bound_is_met : (hash : HashAlgorithm) → NamesDigest g.digest_algorithm hash → HasMessageDigest g (digest_of hash (digested_octets d))
      → IsMet (DigestDiffers d g)
  bound_is_met hash named has = λ e broken.
      broken.differs (message_digest_once g broken.actual (digest_of hash (digested_octets d)) broken.has has
      ∙ ap (λ (h : HashAlgorithm). digest_of h (digested_octets d)) (named_once g.digest_algorithm hash broken.hash named broken.named))

  pub code_signing_is_met : (bag : List CertificateElements) (place : ℕ) (c : CertificateElements) → IsBagOf f bag → IsSignerCertificate f bag place c
      → IsForCodeSigning bag c → IsMet (IsNotForCodeSigning f)
  code_signing_is_met bag place c is signer may = λ e broken.
      let same = (signer_once f bag broken.bag place broken.place c broken.certificate is broken.is_bag signer broken.is_signer).1 in
      let asks : AsksForPurposes bag c =
      subst (λ (b : List CertificateElements). AsksForPurposes b c) (same_bag f broken.bag bag broken.is_bag is)
      (subst (λ (x : CertificateElements). AsksForPurposes broken.bag x) same broken.asks) in
      broken.unnamed (subst (λ (x : CertificateElements). NamesPurpose x KP_CODE_SIGNING.now) (sym same) (may asks))

  -- if the signature is good, no rule is broken
  pub signed_is_met : (place : ℕ) → IsFirstSigner f g → IsSigned judge f d g place → AreMet (signing_rules judge f d g)
  signed_is_met place first s = (
    named_is_met f g s.bag place s.certificate first s.is_signer,
    (
      certificate_is_met f g s.bag place s.certificate s.is_bag s.is_signer,
      (
        digest_is_met s.hash s.named,
        (
          signature_is_met s.bag place s.certificate s.hash s.is_bag s.is_signer s.named s.signed,
          (
            message_is_met (digest_of s.hash (digested_octets d)) s.bound,
            (
              supported_is_met s.hash s.named s.supported,
              (bound_is_met s.hash s.named s.bound, (code_signing_is_met s.bag place s.certificate s.is_bag s.is_signer s.code_signing, tt)),
            ),
          ),
        ),
      ),
    ),
  )

  pub signed_breaks_no_rule : (place : ℕ) (e : AuthenticodeError) → IsFirstSigner f g → IsSigned judge f d g place
      → IsFirstBroken (signing_rules judge f d g) e → ⊥
  signed_breaks_no_rule place e first s = none_broken (signing_rules judge f d g) (signed_is_met place first s) e

  -- it is good at one index
  pub place_once : (p q : ℕ) → IsSigned judge f d g p → IsSigned judge f d g q → p ≡ q
  place_once p q a b = (signer_once f a.bag b.bag p q a.certificate b.certificate a.is_bag b.is_bag a.is_signer b.is_signer).0

  -- ---- each rule is reported by one error

  algorithm_once : (u v : UnsupportedAlgorithmError) → u ≡ v
  algorithm_once u v = refl

  unknown_once : IsReturnedOnce (HasUnknownDigest g)
  unknown_once a b p q = p.2 ∙ ap errors.UnsupportedAlgorithmError (algorithm_once p.1 q.1) ∙ sym q.2

  refused_once : (hash : HashAlgorithm) (c : CertificateElements) → IsReturnedOnce (IsRefusedUnder judge g hash c)
  refused_once hash c a b p q =
      let info = one_key c q.info p.info q.key p.key in
      let signature = signature_octets q.signature p.signature (sym q.octets ∙ p.octets) in
      let other : IsFirstBroken (verify_rules judge (RsaPkcs1v15 hash) p.info (signed_message g) p.signature) q.source =
      subst (λ (t : List ℕ). IsFirstBroken (verify_rules judge (RsaPkcs1v15 hash) p.info (signed_message g) t) q.source) signature
      (subst (λ (i : SubjectPublicKeyInfo). IsFirstBroken (verify_rules judge (RsaPkcs1v15 hash) i (signed_message g) q.signature) q.source) info q.refused) in
      p.returned
      ∙ ap errors.SignatureError (one_broken (verify_rules judge (RsaPkcs1v15 hash) p.info (signed_message g) p.signature)
      (verify_one judge (RsaPkcs1v15 hash) p.info (signed_message g) p.signature) p.source q.source p.refused other)
      ∙ sym q.returned

  badly_once : IsReturnedOnce (IsBadlySigned judge f g)
  badly_once a b p q =
      refused_once p.hash p.certificate a b p.refused
      (same_refusal p.hash q.hash p.certificate q.certificate b
      (named_once g.digest_algorithm q.hash p.hash q.named p.named)
      (signer_once f p.bag q.bag p.place q.place p.certificate q.certificate p.is_bag q.is_bag p.is_signer q.is_signer).1
      q.refused)

  differs_once : IsReturnedOnce (DigestDiffers d g)
  differs_once a b p q =
      p.returned
      ∙ ap (λ (actual : List ℕ). errors.HashMismatch actual (digest_of p.hash (digested_octets d))) (message_digest_once g p.actual q.actual p.has q.has)
      ∙ ap (λ (h : HashAlgorithm). errors.HashMismatch q.actual (digest_of h (digested_octets d))) (named_once g.digest_algorithm p.hash q.hash p.named q.named)
      ∙ sym q.returned

  pub signing_rules_are_returned_once : AreReturnedOnce (signing_rules judge f d g)
  signing_rules_are_returned_once = (
    λ a b p q. p.2 ∙ sym q.2,
    (
      certificate_once f g,
      (unknown_once, (badly_once, (λ a b p q. p.1 ∙ sym q.1, (λ a b p q. p.1 ∙ sym q.1, (differs_once, (λ a b p q. p.returned ∙ sym q.returned, tt)))))),
    ),
  )

  pub one_signing_refusal : (a b : AuthenticodeError) → IsFirstBroken (signing_rules judge f d g) a → IsFirstBroken (signing_rules judge f d g) b → a ≡ b
  one_signing_refusal = one_broken (signing_rules judge f d g) signing_rules_are_returned_once
