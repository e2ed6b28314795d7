-- Borrowed elements.
use Rattle.std.specs.Prelude.{◌≡◌, ⊤, ℕ, List, [], ◌∷◌}
use Rattle.der_core.specs.DerElement.{DerElement, Primitive, Constructed, row, tag_of}
use Rattle.der_core.specs.Encoding.{encoding, encodings, IsDer}

-- the contents of an element as octets
abbrev pub contents_octets : DerElement → List ℕ
contents_octets (Primitive tag content) = content
contents_octets (Constructed tag kids) = encodings kids

-- each element is well formed and within limits
abbrev pub AreDer : List DerElement → Type 0
AreDer [] = ⊤
AreDer (kid ∷ kids) = IsDer kid × AreDer kids

-- The octets are the encoding of an element within limits, of this tag and these contents.
abbrev pub IsElem : List ℕ → ℕ → List ℕ → DerElement → Type 0
IsElem whole tag content element =
    IsDer element × (whole ≡ encoding element) × (tag ≡ tag_of element)
    × (content ≡ contents_octets element)

-- The octets are some element of this tag and these contents.
abbrev pub HasElem : List ℕ → ℕ → List ℕ → Type 0
HasElem whole tag content = (element : DerElement) × IsElem whole tag content element

-- The octets are the encodings of elements within limits, one after another.
abbrev pub AreElems : List ℕ → List DerElement → Type 0
AreElems octets elements = AreDer elements × (octets ≡ encodings (row elements))

-- The octets are some elements, one after another.
abbrev pub HasElems : List ℕ → Type 0
HasElems octets = (elements : List DerElement) × AreElems octets elements
