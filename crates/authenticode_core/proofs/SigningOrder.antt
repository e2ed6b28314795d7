-- Which rule of the signature is broken first.
use Rattle.std.proofs.Common.{ℕ, List, [], ◌∷◌, ◌++◌, inl, inr}
use Rattle.cms_types.specs.SignedDataElements.{SignedDataElements}
use Rattle.cms_types.specs.SignerElements.{SignerElements}
use Rattle.der_core.specs.Rules.{Rule}
use Rattle.der_core.proofs.RuleLists.{AreMet, broken_before, broken_behind}
use Rattle.key_core.specs.Verifying.{Judge}
use Rattle.sig_core.specs.declared.hash.HashAlgorithm.{HashAlgorithm}
use Rattle.x509_types.specs.CertificateElements.{CertificateElements}
use Rattle.authenticode_core.specs.Inside.SigningSteps.{HasSigner, IsBoundBy, MayNotSignCode, digest_rules}
use Rattle.authenticode_core.specs.SignedFields.{IndirectData, IsFirstSigner}
use Rattle.authenticode_core.specs.SigningRules.{HasNoCertificate, HasUnknownDigest, IsBadlySigned, IsForCodeSigning, IsNamedByKey, IsNotForCodeSigning}
use Rattle.authenticode_core.specs.SigningRules.{IsRefusedUnder, IsSigned, HasSignatureBy, NamesDigest, RefusesAuthenticodeBy, signing_rules}
use Rattle.authenticode_core.specs.declared.error.AuthenticodeError.{AuthenticodeError}
use Rattle.authenticode_core.proofs.OneSigning.{bound_is_met, certificate_is_met, digest_is_met, message_is_met}
use Rattle.authenticode_core.proofs.OneSigning.{named_is_met, signature_is_met, supported_is_met}

module _ (judge : Judge) (f : SignedDataElements) (d : IndirectData) (g : SignerElements) where
  abbrev front : List (Rule AuthenticodeError)
  front = IsNamedByKey g ∷ HasNoCertificate f g ∷ HasUnknownDigest g ∷ IsBadlySigned judge f g ∷ []

  -- ---- refusals

  pub no_certificate : (e : AuthenticodeError) → RefusesAuthenticodeBy (IsNamedByKey g ∷ HasNoCertificate f g ∷ []) e
      → RefusesAuthenticodeBy (signing_rules judge f d g) e
  no_certificate e (inl broken) =
      inl (broken_before (IsNamedByKey g ∷ HasNoCertificate f g ∷ [])
      (HasUnknownDigest g ∷ IsBadlySigned judge f g ∷ (digest_rules d g ++ IsNotForCodeSigning f ∷ [])) e broken)
  no_certificate e (inr memory) = inr memory

  pub unknown : (place : ℕ) (c : CertificateElements) (e : AuthenticodeError) → IsFirstSigner f g → HasSigner f place c → HasUnknownDigest g e
      → RefusesAuthenticodeBy (signing_rules judge f d g) e
  unknown place c e first s broken =
      inl (inr (named_is_met f g s.0 place c first s.2, inr (certificate_is_met f g s.0 place c s.1 s.2, inl broken)))

  badly : (place : ℕ) (c : CertificateElements) (hash : HashAlgorithm) (e : AuthenticodeError) → HasSigner f place c → NamesDigest g.digest_algorithm hash
      → IsRefusedUnder judge g hash c e → IsBadlySigned judge f g e
  badly place c hash e s named refused =
      record { bag = s.0; is_bag = s.1; place = place; certificate = c; is_signer = s.2; hash = hash; named = named; refused = refused }

  pub unaccepted : (place : ℕ) (c : CertificateElements) (hash : HashAlgorithm) (e : AuthenticodeError) → IsFirstSigner f g → HasSigner f place c
      → NamesDigest g.digest_algorithm hash
      → RefusesAuthenticodeBy (IsRefusedUnder judge g hash c ∷ []) e → RefusesAuthenticodeBy (signing_rules judge f d g) e
  unaccepted place c hash e first s named (inl (inl refused)) =
      inl (inr (
        named_is_met f g s.0 place c first s.2,
        inr (certificate_is_met f g s.0 place c s.1 s.2, inr (digest_is_met judge f d g hash named, inl (badly place c hash e s named refused))),
      ))
  unaccepted place c hash e first s named (inl (inr none)) = absurd none.1
  unaccepted place c hash e first s named (inr memory) = inr memory

  front_is_met : (place : ℕ) (c : CertificateElements) (hash : HashAlgorithm) → IsFirstSigner f g → HasSigner f place c → NamesDigest g.digest_algorithm hash
      → HasSignatureBy judge g hash c → AreMet front
  front_is_met place c hash first s named signed = (
    named_is_met f g s.0 place c first s.2,
    (
      certificate_is_met f g s.0 place c s.1 s.2,
      (digest_is_met judge f d g hash named, (signature_is_met judge f d g s.0 place c hash s.1 s.2 named signed, tt)),
    ),
  )

  pub unbound : (place : ℕ) (c : CertificateElements) (hash : HashAlgorithm) (e : AuthenticodeError) → IsFirstSigner f g → HasSigner f place c
      → NamesDigest g.digest_algorithm hash → HasSignatureBy judge g hash c
      → RefusesAuthenticodeBy (digest_rules d g) e → RefusesAuthenticodeBy (signing_rules judge f d g) e
  unbound place c hash e first s named signed (inl broken) =
      inl (broken_behind front (digest_rules d g ++ IsNotForCodeSigning f ∷ []) e (front_is_met place c hash first s named signed)
      (broken_before (digest_rules d g) (IsNotForCodeSigning f ∷ []) e broken))
  unbound place c hash e first s named signed (inr memory) = inr memory

  bound_are_met : (hash : HashAlgorithm) → NamesDigest g.digest_algorithm hash → IsBoundBy d g hash → AreMet (digest_rules d g)
  bound_are_met hash named bound =
      (message_is_met judge f d g _ bound.1, (supported_is_met judge f d g hash named bound.0, (bound_is_met judge f d g hash named bound.1, tt)))

  pub may_not : (place : ℕ) (c : CertificateElements) (hash : HashAlgorithm) (e : AuthenticodeError) → IsFirstSigner f g → (s : HasSigner f place c)
      → NamesDigest g.digest_algorithm hash → HasSignatureBy judge g hash c → IsBoundBy d g hash
      → MayNotSignCode s.0 c e → RefusesAuthenticodeBy (signing_rules judge f d g) e
  may_not place c hash e first s named signed bound refused =
      inl (broken_behind front (digest_rules d g ++ IsNotForCodeSigning f ∷ []) e (front_is_met place c hash first s named signed)
      (broken_behind (digest_rules d g) (IsNotForCodeSigning f ∷ []) e (bound_are_met hash named bound)
      (inl (record { bag = s.0; is_bag = s.1; place = place; certificate = c; is_signer = s.2; asks = refused.0; unnamed = refused.1; returned = refused.2 }))))

  -- ---- acceptance

  pub is_signed : (place : ℕ) (c : CertificateElements) (hash : HashAlgorithm) → (s : HasSigner f place c) → NamesDigest g.digest_algorithm hash
      → HasSignatureBy judge g hash c → IsBoundBy d g hash → IsForCodeSigning s.0 c
      → IsSigned judge f d g place
  is_signed place c hash s named signed bound may = record {
    bag = s.0;
    is_bag = s.1;
    certificate = c;
    is_signer = s.2;
    hash = hash;
    named = named;
    signed = signed;
    supported = bound.0;
    bound = bound.1;
    code_signing = may;
  }
