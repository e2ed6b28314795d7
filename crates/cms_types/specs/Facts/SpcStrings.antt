-- Strings of Authenticode: different ones have different elements, each well formed.
use Rattle.std.proofs.Common.{◌≡◌, ℕ, List, [], refl, ap, subst, arith}
use Rattle.std.proofs.Props.{props}
use Rattle.der_core.specs.Structure.{IsGrammar}
use Rattle.der_core.specs.Facts.Grammars.{printed}
use Rattle.cms_types.specs.Units.{AreUnits}
use Rattle.cms_types.specs.SpcString.{spc_string}
use Rattle.cms_types.specs.declared.opus_info.spc_string.SpcString.{SpcString}

AreUnits-prop : (octets : List ℕ) → IsProp (AreUnits octets)
AreUnits-prop octets = hlevel props

abbrev string_of : (octets : List ℕ) → AreUnits octets → SpcString
string_of octets whole = record { octets = octets; whole = whole }

pub same_string : (a b : SpcString) → a.octets ≡ b.octets → a ≡ b
same_string a b e = subst (λ (xs : List ℕ). (h : AreUnits xs) → a ≡ string_of xs h) e (λ h. ap (string_of a.octets) (AreUnits-prop a.octets a.whole h)) b.whole

strings_once : (a b : SpcString) → spc_string a ≡ spc_string b → a ≡ b
strings_once a b e = let octets : a.octets ≡ b.octets = cc in same_string a b octets

pub spc_strings : IsGrammar (λ element string. element ≡ spc_string string) spc_string (λ string. [])
spc_strings = printed spc_string strings_once (λ string. ((omega arith, omega arith, omega arith), refl))
