-- Strings of octets: different ones have different elements, each well formed.
use Rattle.std.proofs.Common.{◌≡◌, ℕ, List, [], refl, arith}
use Rattle.der_core.specs.Elements.{octet_string}
use Rattle.der_core.specs.Structure.{IsGrammar}
use Rattle.der_core.specs.Facts.Grammars.{printed}

strings_once : (a b : List ℕ) → octet_string a ≡ octet_string b → a ≡ b
strings_once a b e = cc

pub octet_strings : IsGrammar (λ element octets. element ≡ octet_string octets) octet_string (λ octets. [])
octet_strings = printed octet_string strings_once (λ octets. ((omega arith, omega arith, omega arith), refl))
