-- Nested fields of a Certificate, as paths of kids (RFC 5280 4.1.2.5, 4.1.2.7).
use Rattle.std.specs.Prelude.{ℕ, zero, suc, List, [], ◌∷◌, Option, Some, None}
use Rattle.der_core.specs.DerElement.{DerElement, DerElements, Primitive, Constructed, Nil, Cons}
use Rattle.x509_types.specs.CertificateElements.{CertificateElements}

-- the element at an index among kids, counted from 0
abbrev pub kid_at : ℕ → DerElements → Option DerElement
kid_at number Nil = None
kid_at zero (Cons kid kids) = Some kid
kid_at (suc number) (Cons kid kids) = kid_at number kids

-- the kid at an index
abbrev pub kid : ℕ → DerElement → Option DerElement
kid number (Primitive tag content) = None
kid number (Constructed tag kids) = kid_at number kids

-- the count of unused bits of a BIT STRING, its first contents octet (X.690 8.6.2)
abbrev pub unused_bits : DerElement → ℕ
unused_bits (Primitive tag []) = 0
unused_bits (Primitive tag (unused ∷ octets)) = unused
unused_bits (Constructed tag kids) = 0

-- the octets that hold the bits of a BIT STRING, after the count of unused bits (X.690 8.6.2)
abbrev pub bits_of : Option DerElement → Option (List ℕ)
bits_of None = None
bits_of (Some (Primitive tag [])) = None
bits_of (Some (Primitive tag (unused ∷ octets))) = Some octets
bits_of (Some (Constructed tag kids)) = None

-- the beginning of the validity (RFC 5280 4.1.2.5)
abbrev pub not_before_of : CertificateElements → Option DerElement
not_before_of f = kid 0 f.tbs.validity

-- the end of the validity (RFC 5280 4.1.2.5)
abbrev pub not_after_of : CertificateElements → Option DerElement
not_after_of f = kid 1 f.tbs.validity

-- the algorithm of SubjectPublicKeyInfo (RFC 5280 4.1.2.7)
abbrev pub key_algorithm_of : CertificateElements → Option DerElement
key_algorithm_of f = kid 0 f.tbs.subject_public_key_info

-- the octets that hold the bits of the key (RFC 5280 4.1.2.7)
abbrev pub key_octets_of : CertificateElements → Option (List ℕ)
key_octets_of f = bits_of (kid 1 f.tbs.subject_public_key_info)
