-- What a signer signs, borrowed.
use Rattle.std.proofs.Common.{◌≡◌, ℕ, ◌-◌, List, [], ◌∷◌, Option, Some, None, length, drop, take, sym, ap, ◌∙◌, arith}
use Rattle.std.proofs.lemmas.Slice.{between_to_end}
use Rattle.cms_types.specs.Levels.{AreSignerFields}
use Rattle.cms_types.specs.SignerElements.{SignerElements, signer_of}
use Rattle.cms_types.specs.Signers.{IsSignerInfo}
use Rattle.der_core.specs.DerElement.{DerElement}
use Rattle.der_core.specs.Elements.{set}
use Rattle.der_core.specs.Encoding.{encoding, IsDer}
use Rattle.der_core.specs.Optional.{members_of}
use Rattle.authenticode_core.specs.SignedFields.{signed_message}
use Rattle.authenticode_core.proofs.SignedMessages.{attributes_bit, empty_set, same_tail}

-- attributes with the tag of a SET
pub with_attributes : (g : SignerElements) (e : DerElement) (whole : List ℕ) → IsDer e → whole ≡ encoding e
    → ∥ AreSignerFields g × IsSignerInfo (signer_of g) ∥₁ → Some e ≡ g.signed_attrs
    → 0x31 ∷ take (length whole - 1) (drop 1 whole) ≡ signed_message g
with_attributes g e whole der is fits are =
    let same = same_tail e der.formed (attributes_bit g e fits (sym are)) in
    let rest : take (length whole - 1) (drop 1 whole) ≡ drop 1 whole = between_to_end whole 1 (length whole) (omega arith) in
    ap (λ (octets : List ℕ). 0x31 ∷ octets) (rest ∙ ap (λ (octets : List ℕ). drop 1 octets) (is ∙ same.own)) ∙ same.as_set
    ∙ ap (λ (a : Option DerElement). encoding (set (members_of a))) are

-- no attributes
pub without_attributes : (g : SignerElements) → g.signed_attrs ≡ None → 0x31 ∷ 0 ∷ [] ≡ signed_message g
without_attributes g none = sym empty_set ∙ ap (λ (a : Option DerElement). encoding (set (members_of a))) (sym none)
