-- Key usages: different ones have different elements, each well formed.
use Rattle.std.proofs.Common.{◌≡◌, List, [], refl, ap, arith}
use Rattle.der_core.specs.Structure.{IsGrammar}
use Rattle.der_core.specs.Facts.Grammars.{printed, list_once, each_formed}
use Rattle.asn1_types.specs.Elements.{bit_string, object_identifier}
use Rattle.asn1_types.specs.Facts.Elements.{bit_strings, identifiers, same_identifier}
use Rattle.asn1_types.specs.declared.bit_string.BitString.{BitString}
use Rattle.asn1_types.specs.declared.oid.ObjectIdentifier.{ObjectIdentifier}
use Rattle.extension_types.specs.KeyUsage.{key_usage}
use Rattle.extension_types.specs.ExtendedKeyUsage.{extended_key_usage}
use Rattle.extension_types.specs.declared.key_usage.KeyUsage.{KeyUsage}
use Rattle.extension_types.specs.declared.extended_key_usage.ExtendedKeyUsage.{ExtendedKeyUsage}

usages_once : (a b : KeyUsage) → key_usage a ≡ key_usage b → a ≡ b
usages_once a b e = ap (λ (x : BitString). record { bits = x }) (bit_strings.once (bit_string a.bits) a.bits b.bits refl e)

pub key_usages : IsGrammar (λ element usage. element ≡ key_usage usage) key_usage (λ usage. [])
key_usages = printed key_usage usages_once (λ usage. bit_strings.formed usage.bits)

extended_once : (a b : ExtendedKeyUsage) → extended_key_usage a ≡ extended_key_usage b → a ≡ b
extended_once a b e = ap (λ (x : List ObjectIdentifier). record { purposes = x }) (list_once 0x30 object_identifier same_identifier a.purposes b.purposes e)

pub extended_key_usages : IsGrammar (λ element usage. element ≡ extended_key_usage usage) extended_key_usage (λ usage. [])
extended_key_usages = printed extended_key_usage extended_once
    (λ usage. ((omega arith, omega arith, omega arith), refl, each_formed object_identifier identifiers.formed usage.purposes))
