-- The certificate of the first signer, if its index is known.
use Rattle.std.proofs.Common.{◌≡◌, ◌≢◌, ◌↔◌, ℕ, List, Option, Some, sym, subst, ◌∙◌}
use Rattle.std.specs.Prelude.{IfSome}
use Rattle.cms_types.specs.SignedDataElements.{SignedDataElements}
use Rattle.cms_types.specs.SignerElements.{SignerElements}
use Rattle.cms_types.specs.SignerIdentifier.{issuer_and_serial_number}
use Rattle.cms_types.specs.SignerView.{LendsNamed}
use Rattle.cms_types.specs.declared.signer_info.issuer_and_serial.IssuerAndSerialNumber.{IssuerAndSerialNumber}
use Rattle.x509_types.specs.CertificateElements.{CertificateElements}
use Rattle.authenticode_core.specs.BagSigner.{IsNamedByFirst}
use Rattle.authenticode_core.specs.Inside.Naming.{IsFirstOfName}
use Rattle.authenticode_core.specs.Inside.SigningSteps.{HasSigner, HasSignerAt}
use Rattle.authenticode_core.specs.Inside.Wanted.{IsNamedBy}
use Rattle.authenticode_core.specs.Indices.{HasNoPlace}
use Rattle.authenticode_core.specs.SignedFields.{IsFirstSigner, signers_of}
use Rattle.authenticode_core.specs.SigningRules.{IsSignerCertificate}
use Rattle.authenticode_core.specs.declared.error.AuthenticodeError.TheVariants as errors
use Rattle.authenticode_core.proofs.NamedCertificates.{is_named_by_key}
use Rattle.authenticode_core.proofs.NamedMembers.{least_as, named_or_not}
use Rattle.authenticode_core.proofs.OneSigning.{named_is_met}
use Rattle.authenticode_core.proofs.WalkSteps.{least_once}

pub some_known : (f : SignedDataElements) (known : Option ℕ) (place : ℕ) → known ≡ Some place → IfSome known (HasSignerAt f) → HasSignerAt f place
some_known f known place is has = subst (λ (k : Option ℕ). IfSome k (HasSignerAt f)) is has

module _ (f : SignedDataElements) (g : SignerElements) (place : ℕ) (first : IsFirstSigner f g) (has : HasSignerAt f place) where
  -- the signer identifies its certificate by issuer and serial number
  pub named_by_name : ((value : IssuerAndSerialNumber) → g.sid ≢ issuer_and_serial_number value) → ⊥
  named_by_name none = named_is_met f g has.1.0 place has.0 first has.1.2 errors.IncorrectSignerIdentifier (is_named_by_key f g first none)

  module _ (issuer serial_number : List ℕ) (lent : LendsNamed g.sid issuer serial_number) where
    same : (c : CertificateElements) → IsNamedBy issuer serial_number c ↔ IsNamedByFirst (signers_of f) c
    same = named_or_not f g issuer serial_number first lent

    -- some certificate has these
    pub some_named : HasNoPlace has.1.0 (IsNamedBy issuer serial_number) 0 → ⊥
    some_named none = none place has.0 has.1.2.later has.1.2.stands ((same has.0).1 has.1.2.fits)

    -- the first one with these is at the index
    pub stands_known : (c : CertificateElements) (returned : ℕ) → returned ≡ place → IsFirstOfName has.1.0 issuer serial_number c → HasSigner f returned c
    stands_known c returned at found =
        let there = least_as has.1.0 (IsNamedBy issuer serial_number) (IsNamedByFirst (signers_of f)) found.0 c same found.1 in
        let known = (least_once has.1.0 (IsNamedByFirst (signers_of f)) 0 place found.0 has.0 c has.1.2 there).0 in
        (has.1.0, has.1.1, subst (λ (n : ℕ). IsSignerCertificate f has.1.0 n c) (sym (at ∙ known)) there)
