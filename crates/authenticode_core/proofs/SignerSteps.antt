-- Parts of a list, of a signer and of how it identifies its certificate.
use Rattle.std.proofs.Common.{◌≡◌, ℕ, List, [], ◌∷◌}
use Rattle.cms_types.specs.SignerElements.{SignerElements, signer_of}
use Rattle.der_core.specs.DerElement.{DerElement, Primitive}
use Rattle.der_core.specs.Elements.{sequence}

pub heads : (a b : DerElement) (x y : List DerElement) → a ∷ x ≡ b ∷ y → a ≡ b
heads a b x y e = cc

pub same_sid : (f g : SignerElements) → signer_of f ≡ signer_of g → f.sid ≡ g.sid
same_sid f g e = cc

pub two : (a b x y : DerElement) → sequence (a ∷ x ∷ []) ≡ sequence (b ∷ y ∷ []) → (a ≡ b) × (x ≡ y)
two a b x y e = (cc, cc)

pub contents : (s t : List ℕ) → Primitive 0x02 s ≡ Primitive 0x02 t → s ≡ t
contents s t e = cc
