-- Authority key identifiers by their fields.
use Rattle.std.proofs.Common.{◌≡◌, ◌↔◌, IsTrue, Bool, ℕ, List, Option, sym, ap, subst, ◌∙◌}
use Rattle.std.specs.Prelude.{bytes_eq}
use Rattle.std.specs.Option.{option_eq}
use Rattle.std.proofs.lemmas.Slice.Eq.{bytes_eq-Decides}
use Rattle.der_core.specs.DerElement.{DerElement}
use Rattle.der_core.specs.Encoding.{encoding}
use Rattle.der_core.specs.Owned.{KeptElement}
use Rattle.der_core.specs.BorrowedOption.{at_option}
use Rattle.der_core.specs.declared.elem.Elem.{Elem}
use Rattle.extension_types.specs.AuthorityIssuer.{HasIssuerTag}
use Rattle.extension_types.specs.AuthorityKeyIdentifier.{authority_key_of, authority_key_identifier, IsAuthorityKeyOf}
use Rattle.extension_types.specs.Facts.AuthorityKeys.{same_authority}
use Rattle.extension_types.specs.declared.authority_key_identifier.AuthorityKeyIdentifier.{AuthorityKeyIdentifier}
use Rattle.der_core.specs.Facts.Equality.{kept_same, options_same}
use Rattle.der_core.specs.Facts.BorrowedOption.{keep_option}

pub of_fields : (t : DerElement) (key serial : Option (List ℕ)) (issuer : Option Elem) → IsAuthorityKeyOf t key (at_option issuer) serial
    → (a : AuthorityKeyIdentifier) × (t ≡ authority_key_identifier a)
of_fields t key serial issuer fields =
    let kept = keep_option issuer in (
      record { key_identifier = key; issuer = kept.0; serial_number = serial; tagged = subst HasIssuerTag kept.1 fields.tagged },
      fields.is ∙ ap (λ (i : Option DerElement). authority_key_of key i serial) kept.1,
    )

pub same_octets : (a b : Option (List ℕ)) → IsTrue (option_eq bytes_eq a b) ↔ (a ≡ b)
same_octets a b = options_same bytes_eq (λ (x y : List ℕ). bytes_eq-Decides x y) a b

pub same_issuers : (a b : Option KeptElement) → IsTrue (option_eq (λ (x y : KeptElement). bytes_eq (encoding x.element) (encoding y.element)) a b) ↔ (a ≡ b)
same_issuers a b = options_same (λ (x y : KeptElement). bytes_eq (encoding x.element) (encoding y.element)) kept_same a b

-- if the other fields are the same, the number decides
pub by_number : (a b : AuthorityKeyIdentifier) (t : Bool) → a.key_identifier ≡ b.key_identifier → a.issuer ≡ b.issuer
    → t ≡ option_eq bytes_eq a.serial_number b.serial_number → IsTrue t ↔ (a ≡ b)
by_number a b t key issuer test =
    let same = same_octets a.serial_number b.serial_number in
    (λ w. same_authority a b key issuer (same.0 (sym test ∙ w)), λ e. test ∙ same.1 (ap (λ (v : AuthorityKeyIdentifier). v.serial_number) e))
