-- Algorithm identifiers and RSA keys: different values have different elements, each well formed.
use Rattle.std.proofs.Common.{◌≡◌, [], ◌∷◌, Option, Some, None, refl, ap, ◌∙◌, arith}
use Rattle.std.specs.Prelude.{option_to_list}
use Rattle.der_core.specs.DerElement.{row}
use Rattle.der_core.specs.Encoding.{AreWellFormed}
use Rattle.der_core.specs.Owned.{KeptElement}
use Rattle.der_core.specs.BorrowedOption.{kept_option}
use Rattle.der_core.specs.Structure.{IsGrammar}
use Rattle.der_core.specs.Facts.Grammars.{printed, same_fields}
use Rattle.der_core.specs.Facts.BorrowedOption.{kept_option_once}
use Rattle.asn1_types.specs.Elements.{object_identifier, integer}
use Rattle.asn1_types.specs.Facts.Elements.{identifiers, integers}
use Rattle.asn1_types.specs.declared.oid.ObjectIdentifier.{ObjectIdentifier}
use Rattle.asn1_types.specs.declared.integer.IntegerAsn1.{IntegerAsn1}
use Rattle.key_types.specs.AlgorithmIdentifier.{algorithm_identifier}
use Rattle.key_types.specs.RsaPublicKey.{rsa_public_key}
use Rattle.key_types.specs.declared.algorithm.AlgorithmIdentifier.{AlgorithmIdentifier}
use Rattle.key_types.specs.declared.public_key.RsaPublicKey.{RsaPublicKey}

algorithms_once : (a b : AlgorithmIdentifier) → algorithm_identifier a ≡ algorithm_identifier b → a ≡ b
algorithms_once a b e =
    let kids = same_fields (object_identifier a.oid ∷ option_to_list (kept_option a.parameters))
    (object_identifier b.oid ∷ option_to_list (kept_option b.parameters)) e in
    let first : object_identifier a.oid ≡ object_identifier b.oid = cc in
    let others : option_to_list (kept_option a.parameters) ≡ option_to_list (kept_option b.parameters) = cc in
    ap (λ (o : ObjectIdentifier). record { oid = o; parameters = a.parameters }) (identifiers.once (object_identifier a.oid) a.oid b.oid refl first)
    ∙ ap (λ (p : Option KeptElement). record { oid = b.oid; parameters = p }) (kept_option_once a.parameters b.parameters others)

pub option_formed : (a : Option KeptElement) → AreWellFormed (row (option_to_list (kept_option a)))
option_formed None = tt
option_formed (Some x) = (x.der.formed, tt)

pub algorithms : IsGrammar (λ element a. element ≡ algorithm_identifier a) algorithm_identifier (λ a. [])
algorithms =
    printed algorithm_identifier algorithms_once (λ a. ((omega arith, omega arith, omega arith), refl, (identifiers.formed a.oid, option_formed a.parameters)))

rsa_once : (a b : RsaPublicKey) → rsa_public_key a ≡ rsa_public_key b → a ≡ b
rsa_once a b e =
    let modulus : integer a.modulus ≡ integer b.modulus = cc in
    let exponent : integer a.public_exponent ≡ integer b.public_exponent = cc in
    ap (λ (m : IntegerAsn1). record { modulus = m; public_exponent = a.public_exponent }) (integers.once (integer a.modulus) a.modulus b.modulus refl modulus)
    ∙ ap (λ (x : IntegerAsn1). record { modulus = b.modulus; public_exponent = x })
    (integers.once (integer a.public_exponent) a.public_exponent b.public_exponent refl exponent)

pub rsa_public_keys : IsGrammar (λ element key. element ≡ rsa_public_key key) rsa_public_key (λ key. [])
rsa_public_keys = printed rsa_public_key rsa_once
    (λ key. ((omega arith, omega arith, omega arith), refl, (integers.formed key.modulus, (integers.formed key.public_exponent, tt))))
