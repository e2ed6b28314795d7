-- The octets that a signer signs.
use Rattle.std.proofs.Common.{◌≡◌, ℕ, List, [], ◌∷◌, ◌++◌, Option, Some, None, Result, Ok, Err, IfOk, length, refl, sym, ap, subst, ◌∙◌, arith}
use mathlib.Core.Logic.{∥∥₁_elim}
use Rattle.std.proofs.Props.{props}
use Rattle.cms_types.specs.Levels.{AreSignerFields, OfOption}
use Rattle.der_core.specs.Optional.{members_of}
use Rattle.x509_types.specs.Attribute.{AreAttributes}
use Rattle.cms_types.specs.SignerElements.{SignerElements, signer_of}
use Rattle.cms_types.specs.Signers.{IsSignerInfo}
use Rattle.der_core.specs.DerElement.{DerElement, DerElements, Primitive, Constructed, tag_of}
use Rattle.der_core.specs.Elements.{set}
use Rattle.der_core.specs.Encoding.{encoding, encodings, framed, form_bit, length_octets, IsWellFormed}
use Rattle.der_core.specs.Facts.Rows.{row-listed}
use Rattle.der_core.specs.Structure.{Fits}
use Rattle.authenticode_core.specs.SignedFields.{signed_message}

-- an empty SET
pub empty_set : encoding (set []) ≡ 0x31 ∷ 0 ∷ []
unfolding length_octets
empty_set = refl

-- ---- the attributes as a SET

-- What follows the tag is the same.
pub record HasSameTail (element : DerElement) : Type 0 where
  pub tail : List ℕ
  pub own : encoding element ≡ tag_of element ∷ tail
  pub as_set : 0x31 ∷ tail ≡ encoding (set (members_of (Some element)))

pub same_tail : (element : DerElement) → IsWellFormed element → form_bit (tag_of element) ≡ 1 → HasSameTail element
same_tail (Primitive tag content) formed bit = absurd (omega (arith, formed.1, bit))
same_tail (Constructed tag kids) formed bit = record {
  tail = length_octets (length (encodings kids)) ++ encodings kids;
  own = refl;
  as_set = ap (λ (ks : DerElements). framed 0x31 (encodings ks)) (sym (row-listed kids));
}

bit_prop : (e : DerElement) → IsProp (form_bit (tag_of e) ≡ 1)
bit_prop e = hlevel props

bit_of : (a : Option DerElement) (e : DerElement) → OfOption (Fits AreAttributes) a → a ≡ Some e → form_bit (tag_of e) ≡ 1
bit_of a e are same =
    let fits : Fits AreAttributes e = subst (OfOption (Fits AreAttributes)) same are in
    ap (λ (x : DerElement). form_bit (tag_of x)) fits.1.holds

-- the attributes are a constructed element
pub attributes_bit : (g : SignerElements) (e : DerElement) → ∥ AreSignerFields g × IsSignerInfo (signer_of g) ∥₁ → g.signed_attrs ≡ Some e
    → form_bit (tag_of e) ≡ 1
attributes_bit g e fits same = ∥∥₁_elim fits (bit_prop e) (λ h. bit_of g.signed_attrs e h.0.signed_attrs same)

pub message_of : {V E : Type 0} (now : V → List ℕ) (r : Result V E) (g : SignerElements) (e : DerElement) → g.signed_attrs ≡ Some e
    → IfOk r (λ octets. now octets ≡ encoding (set (members_of (Some e)))) → IfOk r (λ octets. now octets ≡ signed_message g)
message_of now (Ok octets) g e same is = is ∙ ap (λ (a : Option DerElement). encoding (set (members_of a))) (sym same)
message_of now (Err refused) g e same is = is

pub empty_message : {V E : Type 0} (now : V → List ℕ) (r : Result V E) (g : SignerElements) → g.signed_attrs ≡ None
    → IfOk r (λ octets. now octets ≡ 0x31 ∷ 0 ∷ []) → IfOk r (λ octets. now octets ≡ signed_message g)
empty_message now (Ok octets) g none is = is ∙ sym empty_set ∙ ap (λ (a : Option DerElement). encoding (set (members_of a))) (sym none)
empty_message now (Err refused) g none is = is
