-- A made signature is one as in a signature file.
use Rattle.std.proofs.Common.{◌≡◌, ℕ, List, [], ◌∷◌, Option, inl, inr, sym, subst}
use Rattle.std.proofs.Math.Logic.{∥∥₁_elim}
use Rattle.std.specs.Coded.{Coded-set, coded_list}
use Rattle.x509_core.specs.Facts.CertificateParts.{coded_elements}
use Rattle.cms_types.specs.Pkcs7.{pkcs7}
use Rattle.cms_types.specs.SignedData.{signed_data_elements}
use Rattle.cms_types.specs.SignedDataElements.{SignedDataElements}
use Rattle.cms_types.specs.declared.signed_data.pkcs7.Pkcs7Certificate.{Pkcs7Certificate}
use Rattle.der_core.specs.DerElement.{DerElement}
use Rattle.der_core.specs.Encoding.{encoding, IsDer}
use Rattle.key_core.specs.Signing.{Signs, Pair, arithmetic}
use Rattle.key_core.specs.Verifying.{Judge}
use Rattle.key_core.specs.declared.private_key.PrivateKey.{PrivateKey}
use Rattle.sig_core.specs.declared.sha_variant.ShaVariant.{ShaVariant}
use Rattle.wincert_core.specs.declared.kinds.CertificateType.{CertificateType}
use Rattle.x509_types.specs.CertificateElements.{CertificateElements}
use Rattle.authenticode_core.specs.CertificateBag.{IsBag}
use Rattle.authenticode_core.specs.SigningRules.{IsBagOf, IsForCodeSigning}
use Rattle.authenticode_parts.specs.Carried.{AreCarried, AreWithoutRoots, IsRootCertificate}
use Rattle.authenticode_parts.specs.MadeSignature.{signature_made}
use Rattle.authenticode_parts.specs.SignedProgram.{Program, parts_for, program_of}
use Rattle.authenticode_signature.specs.MadeFile.{AreCertificates, IsAloneOrNoRoot, IsMadeFor, IsMadeSignature, IsMadeWith, IsSpelledWhole, NoneIsRoot, wrapped}
use Rattle.authenticode_signature.specs.Making.{IsMadeOf}
use Rattle.authenticode_core.proofs.BagSteps.{one_bag}
use Rattle.authenticode_signature.proofs.CarriedWalks.{still_for_code_signing}

-- ---- members of a bag are certificates, and so are the contained ones

fit_in_bag : (members : List DerElement) (bag : List CertificateElements) → IsBag members bag → AreCertificates bag
fit_in_bag [] bag none = subst AreCertificates (sym none) tt
fit_in_bag (member ∷ members) bag (inl (other, is)) = fit_in_bag members bag is
fit_in_bag (member ∷ members) bag (inr (c, others, are, is, rest)) = subst AreCertificates (sym are) (is.fits, fit_in_bag members others rest)

fit_without : (bag carried : List CertificateElements) → AreWithoutRoots bag carried → AreCertificates bag → AreCertificates carried
fit_without [] carried none fit = subst AreCertificates (sym none) tt
fit_without (c ∷ bag) carried (inl (root, are)) fit = fit_without bag carried are fit.1
fit_without (c ∷ bag) carried (inr (other, others, is, are)) fit = subst AreCertificates (sym is) (fit.0, fit_without bag others are fit.1)

fit_carried : (bag carried : List CertificateElements) → AreCarried bag carried → AreCertificates bag → AreCertificates carried
fit_carried [] carried none fit = subst AreCertificates (sym none) tt
fit_carried (c ∷ []) carried one fit = subst AreCertificates (sym one) fit
fit_carried (c ∷ d ∷ bag) carried are fit = fit_without (c ∷ d ∷ bag) carried are fit

-- ---- no contained one is a root, unless it is the only one

none_is_root : (bag carried : List CertificateElements) → AreWithoutRoots bag carried → NoneIsRoot carried
none_is_root [] carried none = subst NoneIsRoot (sym none) tt
none_is_root (c ∷ bag) carried (inl (root, are)) = none_is_root bag carried are
none_is_root (c ∷ bag) carried (inr (other, others, is, are)) = subst NoneIsRoot (sym is) (other, none_is_root bag others are)

alone_or_none : (carried : List CertificateElements) → NoneIsRoot carried → IsAloneOrNoRoot carried
alone_or_none [] none = tt
alone_or_none (c ∷ []) none = tt
alone_or_none (c ∷ d ∷ others) none = none

rootless_carried : (bag carried : List CertificateElements) → AreCarried bag carried → IsAloneOrNoRoot carried
rootless_carried [] carried none = subst IsAloneOrNoRoot (sym none) tt
rootless_carried (c ∷ []) carried one = subst IsAloneOrNoRoot (sym one) tt
rootless_carried (c ∷ d ∷ bag) carried are = alone_or_none carried (none_is_root (c ∷ d ∷ bag) carried are)

-- ---- the first of all is the first contained one, unless it is a root

first_carried : (first : CertificateElements) (others carried : List CertificateElements) → AreCarried (first ∷ others) carried
    → (IsRootCertificate first → others ≡ []) → (more : List CertificateElements) × (carried ≡ first ∷ more)
first_carried first [] carried one root = ([], one)
first_carried first (d ∷ others) carried (inl (is, are)) root = absurd (cc (root is))
first_carried first (d ∷ others) carried (inr (other, more, is, are)) root = (more, is)

-- ---- a made signature is as in a signature file

module _ (judge : Judge) (signs : Signs) (pair : Pair) (f : SignedDataElements) (hash : ShaVariant) (file_hash : List ℕ) (name : Option (List ℕ))
    (key : PrivateKey) where
  made_for : (value : Pkcs7Certificate) (m : IsMadeOf (arithmetic judge signs pair) f hash file_hash name key (signed_data_elements value.signed_data))
      → IsMadeWith pair key m.first m.others
      → (carried : List CertificateElements) → m.program.carried ≡ m.first ∷ carried → IsMadeFor judge (program_of hash file_hash name) m.first carried value
  made_for value m by carried is =
      let p : Program = program_of hash file_hash name in
      let bag : List CertificateElements = m.first ∷ m.others in
      let kept = m.program.carried in
      let are = m.program.are_carried in
      record {
        supported = m.supported;
        are = subst AreCertificates is (fit_carried bag kept are (fit_in_bag _ bag m.signer.bag));
        rootless = subst IsAloneOrNoRoot is (rootless_carried bag kept are);
        code_signing =
            subst (λ (cs : List CertificateElements). IsForCodeSigning cs m.first) is (still_for_code_signing bag kept m.first are m.signer.code_signing);
        signature = m.program.signature;
        fields = subst (λ (cs : List CertificateElements). signed_data_elements value.signed_data ≡ signature_made (parts_for p m.first cs m.program.signature))
            is m.program.fields;
        info = by.info;
        key = by.has;
        accepted = m.program.is_signature.accepted by.info by.pairs;
      }

  -- the octets are a signature file by the first of these certificates, some of which it contains
  abbrev Carries : List ℕ → CertificateElements → List CertificateElements → Type 0
  Carries octets first others =
      (carried : List CertificateElements) × AreCarried (first ∷ others) (first ∷ carried) × IsMadeSignature judge first carried octets file_hash

  made_by : (value : Pkcs7Certificate) (kind : CertificateType) (octets : List ℕ) → IsDer (pkcs7 value)
      → IsSpelledWhole octets (wrapped kind (encoding (pkcs7 value)))
      → (m : IsMadeOf (arithmetic judge signs pair) f hash file_hash name key (signed_data_elements value.signed_data)) → IsMadeWith pair key m.first m.others
      → Carries octets m.first m.others
  made_by value kind octets der file m by =
      let front = first_carried m.first m.others m.program.carried m.program.are_carried by.carried in (
        front.0,
        subst (AreCarried (m.first ∷ m.others)) front.1 m.program.are_carried,
        record {
          kind = kind;
          value = value;
          der = der;
          file = file;
          hash = hash;
          name = name;
          basic = m.basic;
          made = made_for value m by front.0 front.1;
        },
      )

  same_first : (a b : CertificateElements) (xs ys : List CertificateElements) → a ∷ xs ≡ b ∷ ys → (a ≡ b) × (xs ≡ ys)
  same_first a b xs ys e = (cc, cc)

  bags-set : (a b : List CertificateElements) → IsProp (a ≡ b)
  bags-set a b = Coded-set (coded_list coded_elements) a b

  pub made_file : (value : Pkcs7Certificate) → IsMadeOf (arithmetic judge signs pair) f hash file_hash name key (signed_data_elements value.signed_data)
      → (first : CertificateElements) (others : List CertificateElements) → ∥ IsBagOf f (first ∷ others) ∥₁ → IsMadeWith pair key first others
      → (kind : CertificateType) (octets : List ℕ) → IsDer (pkcs7 value) → IsSpelledWhole octets (wrapped kind (encoding (pkcs7 value)))
      → Carries octets first others
  made_file value m first others bag by kind octets der file =
      let one : first ∷ others ≡ m.first ∷ m.others = ∥∥₁_elim bag (bags-set (first ∷ others) (m.first ∷ m.others))
      (λ is. one_bag _ (first ∷ others) (m.first ∷ m.others) is m.signer.bag) in
      let same = same_first first m.first others m.others one in
      subst (λ (c : CertificateElements). Carries octets c others) (sym same.0)
      (subst (Carries octets m.first) (sym same.1)
      (made_by value kind octets der file m
      (subst (IsMadeWith pair key m.first) same.1 (subst (λ (c : CertificateElements). IsMadeWith pair key c others) same.0 by))))
