-- A variant and its OID determine each other.
use Rattle.std.proofs.Common.{◌≡◌, IsTrue, ℕ, List, refl, sym, ◌∙◌, ap, lit<, Some}
use Rattle.std.specs.Prelude.{Option, Contains, find}
use Rattle.std.specs.Str.{bytes_eq}
use Rattle.asn1_types.specs.KnownIdentifiers.{is_known}
use Rattle.sig_core.specs.declared.sha_variant.ShaVariant.{ShaVariant}
use Rattle.sig_core.specs.declared.sha_variant.ShaVariant.TheVariants.{MD5, SHA1, SHA2_224, SHA2_256, SHA2_384, SHA2_512}
use Rattle.sig_core.specs.declared.sha_variant.TheConstants.ShaVariant.{ALL}
use Rattle.sig_core.specs.ShaVariant.{digest_identifier}

-- the list of the variants has each
pub has_each : (variant : ShaVariant) → Contains ALL variant
has_each MD5 = (0, lit< tt, refl)
has_each SHA1 = (1, lit< tt, refl)
has_each SHA2_224 = (2, lit< tt, refl)
has_each SHA2_256 = (3, lit< tt, refl)
has_each SHA2_384 = (4, lit< tt, refl)
has_each SHA2_512 = (5, lit< tt, refl)

-- the variant with this OID
abbrev identified : List ℕ → Option ShaVariant
identified contents = find (λ variant. bytes_eq (digest_identifier variant) contents) ALL

identified-identifier : (variant : ShaVariant) → identified (digest_identifier variant) ≡ Some variant
identified-identifier MD5 = refl
identified-identifier SHA1 = refl
identified-identifier SHA2_224 = refl
identified-identifier SHA2_256 = refl
identified-identifier SHA2_384 = refl
identified-identifier SHA2_512 = refl

-- no two variants have the same OID
pub identifier_same : (a b : ShaVariant) → digest_identifier a ≡ digest_identifier b → a ≡ b
identifier_same a b e =
    let n = sym (identified-identifier a) ∙ ap identified e ∙ identified-identifier b in cc

-- the table of OIDs has each of them
pub is_known-variant : (variant : ShaVariant) → IsTrue (is_known (digest_identifier variant))
is_known-variant MD5 = refl
is_known-variant SHA1 = refl
is_known-variant SHA2_224 = refl
is_known-variant SHA2_256 = refl
is_known-variant SHA2_384 = refl
is_known-variant SHA2_512 = refl
