-- The first extensions of some kinds, found one element after another.
use Rattle.std.specs.Prelude.{◌↔◌, ℕ, Bool, true, false, List, Option, Some, None, MatchOption}
use Rattle.asn1_types.specs.declared.oids.TheConstants.{CE_SUBJECT_KEY_IDENTIFIER, CE_AUTHORITY_KEY_IDENTIFIER, CE_BASIC_CONSTRAINTS, CE_EXT_KEY_USAGE}
use Rattle.der_core.specs.DerElement.{DerElement}
use Rattle.x509_types.specs.FirstExtension.{IsFirstNamed}
use Rattle.x509_types.specs.declared.extension.first.FirstExtensions.{FirstExtensions}

-- What was found before the rest is the first of all with this OID; if nothing was, the first of
-- all is the first of the rest.
abbrev pub IsFound : {R : Type 0} → (R → List ℕ) → List ℕ → List DerElement → List DerElement
    → Option R → Type 0
IsFound now oid all rest found =
    MatchOption found
    ((octets : List ℕ) → IsFirstNamed oid all octets ↔ IsFirstNamed oid rest octets)
    (λ octets. IsFirstNamed oid all (now octets))

-- The same for each kind. If the rest is empty, what was found is the first of all.
pub record AreFound (all rest : List DerElement) (firsts : FirstExtensions) : Type 0 where
  pub subject_key : IsFound (λ o. o.now) CE_SUBJECT_KEY_IDENTIFIER.now all rest firsts.subject_key
  pub authority_key : IsFound (λ o. o.now) CE_AUTHORITY_KEY_IDENTIFIER.now all rest firsts.authority_key
  pub constraints : IsFound (λ o. o.now) CE_BASIC_CONSTRAINTS.now all rest firsts.constraints
  pub purposes : IsFound (λ o. o.now) CE_EXT_KEY_USAGE.now all rest firsts.purposes

-- what was found, else what is here, if the test holds
abbrev pub found_or : {A : Type 0} → Option A → Bool → A → Option A
found_or (Some found) test here = Some found
found_or None true here = Some here
found_or None false here = None
