-- Signers, unsigned attributes and signed data by their levels.
use Rattle.std.proofs.Common.{◌≡◌, ℕ, List, [], ◌∷◌, Some, refl, sym, ap, subst, ◌∙◌}
use Rattle.der_core.specs.DerElement.{DerElement, Constructed, row, elements_count}
use Rattle.der_core.specs.Elements.{sequence, set}
use Rattle.der_core.proofs.Parts.{same_kids}
use Rattle.asn1_types.specs.Elements.{object_identifier}
use Rattle.asn1_types.specs.Values.{identifier_contents}
use Rattle.asn1_types.specs.declared.oid.ObjectIdentifier.{ObjectIdentifier}
use Rattle.cms_types.specs.UnsignedKind.{named_unsigned}
use Rattle.cms_types.specs.declared.unsigned_attribute.kind.UnsignedKind.{UnsignedKind}
use Rattle.cms_types.specs.declared.unsigned_attribute.kind.UnsignedKind.TheVariants as kinds
use Rattle.cms_types.specs.SignerElements.{SignerElements}
use Rattle.cms_types.specs.SignedDataElements.{SignedDataElements}
use Rattle.cms_types.specs.Pkcs7Elements.{pkcs7_of}
use Rattle.cms_types.specs.Levels.{IsSignerOf, IsSignedDataOf, IsUnsignedOf}
use Rattle.cms_types.specs.Signers.{IsSignerInfo, Bare, WithUnsigned, IsUnsignedAttribute, Counter, MsCounter, Any, IsSignedData, Signed, IsPkcs7, Pkcs7}
use Rattle.cms_types.specs.Signers.{AreSignerInfos, NoSigners, MoreSigners, AreUnsignedAttributes, NoUnsigned, MoreUnsigned, ArePkcs7s, NoPkcs7s, MorePkcs7s}
use Rattle.cms_types.specs.Facts.SignerElements.{determined_fields, determined_data, same_signer, same_data}

pub same_row : (tag : ℕ) (a b : List DerElement) → Constructed tag (row a) ≡ Constructed tag (row b) → a ≡ b
same_row tag a b e = same_kids (Constructed tag (row a)) tag tag a b refl e

-- ---- several

pub first_signer : (all : List DerElement) → AreSignerInfos all → (kid : DerElement) (rest : List DerElement) → all ≡ kid ∷ rest
    → IsSignerInfo kid × AreSignerInfos rest
first_signer all NoSigners kid rest e = absurd cc
first_signer all (MoreSigners {kid = k} {kids = ks} one more) kid rest e =
    let same : k ≡ kid = cc in
    let same' : ks ≡ rest = cc in
    (subst IsSignerInfo same one, subst AreSignerInfos same' more)

pub first_unsigned : (all : List DerElement) → AreUnsignedAttributes all → (kid : DerElement) (rest : List DerElement) → all ≡ kid ∷ rest
    → IsUnsignedAttribute kid × AreUnsignedAttributes rest
first_unsigned all NoUnsigned kid rest e = absurd cc
first_unsigned all (MoreUnsigned {kid = k} {kids = ks} one more) kid rest e =
    let same : k ≡ kid = cc in
    let same' : ks ≡ rest = cc in
    (subst IsUnsignedAttribute same one, subst AreUnsignedAttributes same' more)

pub first_pkcs7 : (all : List DerElement) → ArePkcs7s all → (kid : DerElement) (rest : List DerElement) → all ≡ kid ∷ rest → IsPkcs7 kid × ArePkcs7s rest
first_pkcs7 all NoPkcs7s kid rest e = absurd cc
first_pkcs7 all (MorePkcs7s {kid = k} {kids = ks} one more) kid rest e =
    let same : k ≡ kid = cc in
    let same' : ks ≡ rest = cc in
    (subst IsPkcs7 same one, subst ArePkcs7s same' more)

-- ---- signers

pub one_signer : (e : DerElement) (f g : SignerElements) → IsSignerOf e f → IsSignerOf e g → f ≡ g
one_signer e f g p q = same_signer f g (determined_fields f p.fields) (determined_fields g q.fields) (sym p.is ∙ q.is)

pub signer_unsigned : (e : DerElement) (f : SignerElements) (attributes : List DerElement) → IsSignerInfo e → IsSignerOf e f
    → f.unsigned_attrs ≡ Some (Constructed 0xA1 (row attributes)) → AreUnsignedAttributes attributes
signer_unsigned e f attributes (Bare {f = g} of none) there is =
    let same : f.unsigned_attrs ≡ g.unsigned_attrs = ap (λ (h : SignerElements). h.unsigned_attrs) (one_signer e f g there of) in
    absurd cc
signer_unsigned e f attributes (WithUnsigned {f = g} {attributes = b} of some each) there is =
    let same : f.unsigned_attrs ≡ g.unsigned_attrs = ap (λ (h : SignerElements). h.unsigned_attrs) (one_signer e f g there of) in
    let held : Constructed 0xA1 (row b) ≡ Constructed 0xA1 (row attributes) = cc in
    subst AreUnsignedAttributes (same_row 0xA1 b attributes held) each

-- ---- unsigned attributes

pub unsigned_level : (e : DerElement) → IsUnsignedAttribute e → (kind : UnsignedKind) × (values : List DerElement) × IsUnsignedOf e kind values
unsigned_level e (Counter {values = v} of each) = (kinds.CounterSign, v, of)
unsigned_level e (MsCounter {values = v} of each) = (kinds.MsCounterSign, v, of)
unsigned_level e (Any {values = v} of) = (kinds.Other, v, of)

two_once : (s t x y : DerElement) → sequence (s ∷ t ∷ []) ≡ sequence (x ∷ y ∷ []) → (s ≡ x) × (t ≡ y)
two_once s t x y e = (cc, cc)

same_contents : (a b : ObjectIdentifier) → object_identifier a ≡ object_identifier b → identifier_contents a ≡ identifier_contents b
same_contents a b e = cc

pub unsigned_once : (e : DerElement) (k l : UnsignedKind) (a b : List DerElement) → IsUnsignedOf e k a → IsUnsignedOf e l b → (k ≡ l) × (a ≡ b)
unsigned_once e k l a b p q =
    let parts = two_once (object_identifier p.ty) (set a) (object_identifier q.ty) (set b) (sym p.is ∙ q.is) in
    (p.named ∙ ap named_unsigned (same_contents p.ty q.ty parts.0) ∙ sym q.named, same_row 0x31 a b parts.1)

pub counter_values : (e : DerElement) (a : List DerElement) → IsUnsignedAttribute e → IsUnsignedOf e kinds.CounterSign a → AreSignerInfos a
counter_values e a (Counter {values = b} of each) there = subst AreSignerInfos (unsigned_once e kinds.CounterSign kinds.CounterSign b a of there).1 each
counter_values e a (MsCounter {values = b} of each) there = let no = (unsigned_once e kinds.MsCounterSign kinds.CounterSign b a of there).0 in absurd cc
counter_values e a (Any {values = b} of) there = let no = (unsigned_once e kinds.Other kinds.CounterSign b a of there).0 in absurd cc

pub ms_counter_values : (e : DerElement) (a : List DerElement) → IsUnsignedAttribute e → IsUnsignedOf e kinds.MsCounterSign a → ArePkcs7s a
ms_counter_values e a (MsCounter {values = b} of each) there = subst ArePkcs7s (unsigned_once e kinds.MsCounterSign kinds.MsCounterSign b a of there).1 each
ms_counter_values e a (Counter {values = b} of each) there = let no = (unsigned_once e kinds.CounterSign kinds.MsCounterSign b a of there).0 in absurd cc
ms_counter_values e a (Any {values = b} of) there = let no = (unsigned_once e kinds.Other kinds.MsCounterSign b a of there).0 in absurd cc

-- ---- signed data

pub one_data : (e : DerElement) (f g : SignedDataElements) → IsSignedDataOf e f → IsSignedDataOf e g → f ≡ g
one_data e f g p q = same_data f g (determined_data f p.fields) (determined_data g q.fields) (sym p.is ∙ q.is)

pub data_signers : (e : DerElement) (f : SignedDataElements) (signers : List DerElement) → IsSignedData e → IsSignedDataOf e f → f.signers_infos ≡ set signers
    → AreSignerInfos signers
data_signers e f signers (Signed {f = g} {signers = b} of held each) there is =
    let same : f.signers_infos ≡ g.signers_infos = ap (λ (h : SignedDataElements). h.signers_infos) (one_data e f g there of) in
    let both : set b ≡ set signers = sym held ∙ sym same ∙ is in
    subst AreSignerInfos (same_row 0x31 b signers both) each

pub pkcs7_level : (e : DerElement) → IsPkcs7 e → (inner : DerElement) × (e ≡ pkcs7_of inner)
pkcs7_level e (Pkcs7 {signed_data = d} is held) = (d, is)

-- ---- how many elements there are

pub first_count : (all : List DerElement) (kid : DerElement) (rest : List DerElement) → all ≡ kid ∷ rest
    → elements_count (row all) ≡ elements_count (row (kid ∷ rest))
first_count all kid rest e = ap (λ k. elements_count (row k)) e
