-- The elements in an RSA private key, one after another.
use Rattle.std.proofs.Common.{◌≡◌, List, [], ◌∷◌, sym, ap, ◌∙◌}
use Rattle.asn1_types.specs.Elements.{integer_of}
use Rattle.der_core.specs.DerElement.{DerElement, Constructed, listed}
use Rattle.der_core.specs.Facts.Rows.{listed-row}
use Rattle.der_core.specs.Elements.{sequence}
use Rattle.sig_core.specs.RsaSecret.{RsaNumbers}

abbrev pub without_first : List DerElement → List DerElement
without_first [] = []
without_first (kid ∷ kids) = kids

-- what an RSA private key holds
abbrev pub kids_of_key : RsaNumbers → List DerElement
kids_of_key numbers =
    integer_of (0 ∷ []) ∷ integer_of numbers.modulus ∷ integer_of numbers.public_exponent ∷ integer_of numbers.private_exponent ∷ integer_of numbers.prime1
    ∷ integer_of numbers.prime2 ∷ integer_of numbers.exponent1 ∷ integer_of numbers.exponent2 ∷ integer_of numbers.coefficient ∷ []

abbrev inner : DerElement → List DerElement
inner (Constructed tag kids) = listed kids
inner other = []

pub same_kids : (element : DerElement) (a b : List DerElement) → element ≡ sequence a → element ≡ sequence b → a ≡ b
same_kids element a b is is' = sym (listed-row a) ∙ ap inner (sym is ∙ is') ∙ listed-row b

-- what is left after the first
pub left : (kid : DerElement) (kids rest others : List DerElement) → kids ≡ kid ∷ rest → kids ≡ others → rest ≡ without_first others
left kid kids rest others split same = ap without_first (sym split ∙ same)

pub joined : (kid : DerElement) (kids rest others : List DerElement) → kids ≡ kid ∷ rest → rest ≡ others → kids ≡ kid ∷ others
joined kid kids rest others split same = split ∙ ap (λ (k : List DerElement). kid ∷ k) same

pub joined_as : (kid other : DerElement) (kids rest others : List DerElement) → kids ≡ kid ∷ rest → kid ≡ other → rest ≡ others → kids ≡ other ∷ others
joined_as kid other kids rest others split named same =
    split ∙ ap (λ (k : DerElement). k ∷ rest) named ∙ ap (λ (k : List DerElement). other ∷ k) same
