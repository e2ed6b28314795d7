-- Names of parties by their parts.
use Rattle.std.proofs.Common.{◌≡◌, ◌↔◌, IsTrue, Bool, Option, Some, None, refl, sym, ap, ◌∙◌}
use Rattle.std.specs.Prelude.{bytes_eq}
use Rattle.std.specs.Option.{option_eq}
use Rattle.der_core.specs.DerElement.{DerElement}
use Rattle.der_core.specs.Encoding.{encoding}
use Rattle.name_types.specs.DirectoryString.{directory_string}
use Rattle.name_types.specs.GeneralName.{edi_party_name_of, edi_party_name}
use Rattle.name_types.specs.Facts.Names.{directory_strings}
use Rattle.name_types.specs.Facts.GeneralNames.{party_of, same_party}
use Rattle.name_types.specs.declared.directory_string.DirectoryString.{DirectoryString}
use Rattle.name_types.specs.declared.edi_party_name.EdiPartyName.{EdiPartyName}
use Rattle.der_core.specs.Facts.Equality.{octets_same, options_same}

pub one_string : (t : DerElement) (o : Option DerElement) (x : DerElement) (s : DirectoryString) → t ≡ edi_party_name_of o x → o ≡ None → x ≡ directory_string s
    → t ≡ edi_party_name (party_of None s)
one_string t o x s is none party = is ∙ ap (λ (p : Option DerElement). edi_party_name_of p x) none ∙ ap (edi_party_name_of None) party

pub two_strings : (t : DerElement) (o : Option DerElement) (w x : DerElement) (r s : DirectoryString) → t ≡ edi_party_name_of o x → o ≡ Some w
    → w ≡ directory_string r → x ≡ directory_string s
    → t ≡ edi_party_name (party_of (Some r) s)
two_strings t o w x r s is some assigner party =
    is
    ∙ ap (λ (p : Option DerElement). edi_party_name_of p x) some
    ∙ ap (λ (e : DerElement). edi_party_name_of (Some e) x) assigner
    ∙ ap (edi_party_name_of (Some (directory_string r))) party

abbrev same_octets : DirectoryString → DirectoryString → Bool
same_octets a b = bytes_eq (encoding (directory_string a)) (encoding (directory_string b))

assigners_same : (a b : Option DirectoryString) → IsTrue (option_eq same_octets a b) ↔ (a ≡ b)
assigners_same =
    options_same same_octets (octets_same directory_string (λ a b e. directory_strings.once (directory_string a) a b refl e) directory_strings.formed)

-- the assigners are the same, so the names are if the parties are
pub by_party : (a b : EdiPartyName) (first t : Bool) → first ≡ option_eq same_octets a.name_assigner b.name_assigner → IsTrue first
    → (IsTrue t ↔ (a.party_name ≡ b.party_name)) → IsTrue t ↔ (a ≡ b)
by_party a b first t test w party = (
  λ v. same_party a.name_assigner b.name_assigner a.party_name b.party_name ((assigners_same a.name_assigner b.name_assigner).0 (sym test ∙ w)) (party.0 v),
  λ e. party.1 (ap (λ (p : EdiPartyName). p.party_name) e),
)
