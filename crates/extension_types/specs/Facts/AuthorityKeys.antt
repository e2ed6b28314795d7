-- Authority key identifiers: different ones have different elements, each well formed.
use Rattle.std.proofs.Common.{◌≡◌, ℕ, List, [], ◌++◌, Option, Some, None, refl, ap, subst, ◌∙◌, arith}
use Rattle.std.specs.Prelude.{option_to_list}
use Rattle.der_core.specs.DerElement.{DerElement}
use Rattle.der_core.specs.Encoding.{AreWellFormed}
use Rattle.der_core.specs.DerElement.{row}
use Rattle.der_core.specs.Owned.{KeptElement}
use Rattle.der_core.specs.BorrowedOption.{kept_option}
use Rattle.der_core.specs.Structure.{IsGrammar, BeginsOtherwise}
use Rattle.der_core.specs.Facts.Grammars.{printed, same_fields}
use Rattle.der_core.specs.Facts.BorrowedOption.{kept_option_once}
use Rattle.extension_types.specs.AuthorityIssuer.{HasIssuerTag}
use Rattle.der_core.specs.Elements.{optional_leaf}
use Rattle.extension_types.specs.AuthorityKeyIdentifier.{authority_key_identifier}
use Rattle.der_core.specs.Facts.Fields.{IsField, split}
use Rattle.der_core.specs.Facts.Optional.{leaf_once, leaf_split, leaf_formed}
use Rattle.extension_types.specs.Facts.Issuers.{HasIssuerTag-prop}
use Rattle.extension_types.specs.declared.authority_key_identifier.AuthorityKeyIdentifier.{AuthorityKeyIdentifier}

pub issuer_field : (issuer : Option DerElement) → HasIssuerTag issuer → IsField 0xA1 (option_to_list issuer)
issuer_field None tagged = tt
issuer_field (Some issuer) tagged = tagged

pub no_issuer : (serial : Option (List ℕ)) → BeginsOtherwise 0xA1 (optional_leaf 0x82 serial)
no_issuer None = tt
no_issuer (Some content) = λ e. omega (arith, e)

pub no_key : (issuer : Option DerElement) (serial : Option (List ℕ)) → HasIssuerTag issuer
    → BeginsOtherwise 0x80 (option_to_list issuer ++ optional_leaf 0x82 serial)
no_key None None tagged = tt
no_key None (Some content) tagged = λ e. omega (arith, e)
no_key (Some issuer) serial tagged = λ e. omega (arith, e, tagged)

abbrev authority_with : (key : Option (List ℕ)) (issuer : Option KeptElement) (serial : Option (List ℕ)) → HasIssuerTag (kept_option issuer)
    → AuthorityKeyIdentifier
authority_with key issuer serial tagged = record { key_identifier = key; issuer = issuer; serial_number = serial; tagged = tagged }

pub same_authority : (a b : AuthorityKeyIdentifier) → a.key_identifier ≡ b.key_identifier → a.issuer ≡ b.issuer → a.serial_number ≡ b.serial_number → a ≡ b
same_authority a b key issuer serial =
    subst (λ (i : Option KeptElement). (h : HasIssuerTag (kept_option i)) → a ≡ authority_with b.key_identifier i b.serial_number h) issuer
    (λ h. ap (λ (k : Option (List ℕ)). authority_with k a.issuer a.serial_number a.tagged) key
    ∙ ap (λ (s : Option (List ℕ)). authority_with b.key_identifier a.issuer s a.tagged) serial
    ∙ ap (authority_with b.key_identifier a.issuer b.serial_number) (HasIssuerTag-prop (kept_option a.issuer) a.tagged h)) b.tagged

authorities_once : (a b : AuthorityKeyIdentifier) → authority_key_identifier a ≡ authority_key_identifier b → a ≡ b
authorities_once a b e =
    let i = option_to_list (kept_option a.issuer) in
    let j = option_to_list (kept_option b.issuer) in
    let s = optional_leaf 0x82 a.serial_number in
    let t = optional_leaf 0x82 b.serial_number in
    let kids = same_fields (optional_leaf 0x80 a.key_identifier ++ (i ++ s)) (optional_leaf 0x80 b.key_identifier ++ (j ++ t)) e in
    let keys = leaf_split 0x80 a.key_identifier b.key_identifier (i ++ s) (j ++ t) (λ none. no_key (kept_option a.issuer) a.serial_number a.tagged)
    (λ none. no_key (kept_option b.issuer) b.serial_number b.tagged) kids in
    let issuers = split 0xA1 i j s t (issuer_field (kept_option a.issuer) a.tagged) (issuer_field (kept_option b.issuer) b.tagged)
    (λ none. no_issuer a.serial_number) (λ none. no_issuer b.serial_number) keys.1 in
    same_authority a b keys.0 (kept_option_once a.issuer b.issuer issuers.0) (leaf_once 0x82 a.serial_number b.serial_number issuers.1)

serial_formed : (serial : Option (List ℕ)) → AreWellFormed (row (optional_leaf 0x82 serial))
serial_formed None = tt
serial_formed (Some content) = (((omega arith, omega arith, omega arith), refl), tt)

issuer_formed : (issuer : Option KeptElement) (serial : Option (List ℕ))
    → AreWellFormed (row (option_to_list (kept_option issuer) ++ optional_leaf 0x82 serial))
issuer_formed None serial = serial_formed serial
issuer_formed (Some issuer) serial = (issuer.der.formed, serial_formed serial)

pub authority_key_identifiers : IsGrammar (λ element a. element ≡ authority_key_identifier a) authority_key_identifier (λ a. [])
authority_key_identifiers = printed authority_key_identifier authorities_once (λ a. (
  (omega arith, omega arith, omega arith),
  refl,
  leaf_formed 0x80 a.key_identifier (option_to_list (kept_option a.issuer) ++ optional_leaf 0x82 a.serial_number) (omega arith, omega arith, omega arith) refl
      (issuer_formed a.issuer a.serial_number),
))
