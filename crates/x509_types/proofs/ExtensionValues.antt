-- Octets that encode no alternative names are raw under their kind.
use Rattle.std.proofs.Common.{◌≡◌, ℕ, List, Option, Some, None, MatchOption, sym, subst, refl}
use Rattle.der_core.specs.Structure.{IsWithin, FitsWithin}
use Rattle.der_core.specs.Refusals.{RefusesShape}
use Rattle.der_core.specs.declared.error.DerError.{DerError}
use Rattle.der_core.specs.declared.error.DerError.TheVariants as errors
use Rattle.name_types.specs.GeneralName.{AreGeneralNames}
use Rattle.name_types.specs.declared.general_name.RawGeneralName.{RawGeneralName}
use Rattle.x509_types.specs.ExtensionView.{HoldsNoNames, MayBeKept}
use Rattle.x509_types.specs.declared.extension.view.ExtensionKind.{ExtensionKind}
use Rattle.x509_types.specs.declared.extension.view.ExtensionKind.TheVariants as kinds

-- octets that encode no names are raw under their kind
pub subject_kept : (kind : ExtensionKind) (octets kept : List ℕ)
    (names : Option (List RawGeneralName)) → kind ≡ kinds.SubjectAltName → names ≡ None
    → MatchOption names (HoldsNoNames octets) (IsWithin AreGeneralNames octets) → kept ≡ octets
    → MayBeKept kind kept × (octets ≡ kept)
subject_kept kind octets kept None is none held same = (subst (λ (k : ExtensionKind). MayBeKept k kept) (sym is) (subst HoldsNoNames (sym same) held), sym same)
subject_kept kind octets kept (Some names) is none held same = absurd cc

pub issuer_kept : (kind : ExtensionKind) (octets kept : List ℕ)
    (names : Option (List RawGeneralName)) → kind ≡ kinds.IssuerAltName → names ≡ None
    → MatchOption names (HoldsNoNames octets) (IsWithin AreGeneralNames octets) → kept ≡ octets
    → MayBeKept kind kept × (octets ≡ kept)
issuer_kept kind octets kept None is none held same = (subst (λ (k : ExtensionKind). MayBeKept k kept) (sym is) (subst HoldsNoNames (sym same) held), sym same)
issuer_kept kind octets kept (Some names) is none held same = absurd cc

-- octets that encode names are refused only when out of memory
pub names_refused : (octets : List ℕ) (e : DerError) → FitsWithin AreGeneralNames octets → RefusesShape (IsWithin AreGeneralNames octets) e → e ≡ errors.Memory
names_refused octets errors.Memory fit refused = refl
names_refused octets errors.Shape fit refused = absurd (refused fit.0 fit.1)
names_refused octets (errors.Malformed fault) fit refused = absurd refused
names_refused octets errors.TooDeep fit refused = absurd refused
names_refused octets errors.TooLong fit refused = absurd refused
