-- What a signature says about its program, by its fields.
use Rattle.std.proofs.Common.{◌≡◌, ◌↔◌, IsTrue, Bool, false, Option, refl, sym, ap, ◌∙◌}
use Rattle.std.specs.Prelude.{bytes_eq}
use Rattle.std.specs.Option.{option_map, option_eq}
use Rattle.der_core.specs.Each.{Prints}
use Rattle.der_core.specs.DerElement.{DerElement}
use Rattle.der_core.specs.Encoding.{encoding}
use Rattle.der_core.specs.Facts.Equality.{options_same, octets_same}
use Rattle.der_core.specs.Facts.Optional.{printed_option, option_printed}
use Rattle.cms_types.specs.SpcString.{spc_string}
use Rattle.cms_types.specs.SpcLink.{spc_link}
use Rattle.der_core.specs.Optional.{SpellsOption}
use Rattle.cms_types.specs.OpusInfo.{opus_info_of, opus_info}
use Rattle.cms_types.specs.Facts.SpcStrings.{spc_strings}
use Rattle.cms_types.specs.Facts.SpcLinks.{spc_links}
use Rattle.cms_types.specs.Facts.OpusInfos.{fields_once}
use Rattle.cms_types.specs.declared.opus_info.spc_string.SpcString.{SpcString}
use Rattle.cms_types.specs.declared.opus_info.spc_link.SpcLink.{SpcLink}
use Rattle.cms_types.specs.declared.opus_info.SpcSpOpusInfo.{SpcSpOpusInfo}

-- an element with these fields encodes a value exactly where they are those of its fields
pub of_parts : (t : DerElement) (n i : Option DerElement) → t ≡ opus_info_of n i
    → (name : Option SpcString) → SpellsOption (Prints spc_string) n name
    → (link : Option SpcLink) → SpellsOption (Prints spc_link) i link
    → (info : SpcSpOpusInfo) × (t ≡ opus_info info)
of_parts t n i is name program_name link more_info = (
  record { program_name = name; more_info = link },
  is
      ∙ ap (λ (e : Option DerElement). opus_info_of e i) (printed_option spc_string n name program_name)
      ∙ ap (opus_info_of (option_map spc_string name)) (printed_option spc_link i link more_info),
)

pub parts_of : (t : DerElement) (n i : Option DerElement) → t ≡ opus_info_of n i → (info : SpcSpOpusInfo) → t ≡ opus_info info
    → SpellsOption (Prints spc_string) n info.program_name × SpellsOption (Prints spc_link) i info.more_info
parts_of t n i is info spells =
    let parts = fields_once n (option_map spc_string info.program_name) i (option_map spc_link info.more_info) (sym is ∙ spells) in
    (option_printed spc_string n info.program_name parts.0, option_printed spc_link i info.more_info parts.1)

-- ---- equality

abbrev string_eq : SpcString → SpcString → Bool
string_eq a b = bytes_eq (encoding (spc_string a)) (encoding (spc_string b))

abbrev link_eq : SpcLink → SpcLink → Bool
link_eq a b = bytes_eq (encoding (spc_link a)) (encoding (spc_link b))

names_same : (a b : Option SpcString) → IsTrue (option_eq string_eq a b) ↔ (a ≡ b)
names_same = options_same string_eq (octets_same spc_string (λ x y e. spc_strings.once (spc_string x) x y refl e) spc_strings.formed)

links_same : (a b : Option SpcLink) → IsTrue (option_eq link_eq a b) ↔ (a ≡ b)
links_same = options_same link_eq (octets_same spc_link (λ x y e. spc_links.once (spc_link x) x y refl e) spc_links.formed)

-- the names are the same, so the values are the same where the links are
pub by_link : (a b : SpcSpOpusInfo) (first last : Bool) → first ≡ option_eq string_eq a.program_name b.program_name → IsTrue first
    → last ≡ option_eq link_eq a.more_info b.more_info → IsTrue last ↔ (a ≡ b)
by_link a b first last names w links =
    let program_name = (names_same a.program_name b.program_name).0 (sym names ∙ w) in
    let same = links_same a.more_info b.more_info in (
      λ t.
          let more_info = same.0 (sym links ∙ t) in
          λ i. record { program_name = program_name i; more_info = more_info i },
      λ e. links ∙ same.1 (ap (λ (v : SpcSpOpusInfo). v.more_info) e),
    )

-- the names aren't the same, so the values aren't
pub other_name : (a b : SpcSpOpusInfo) (test : Bool) → test ≡ option_eq string_eq a.program_name b.program_name → test ≡ false → IsTrue test ↔ (a ≡ b)
other_name a b test names not =
    let same = names_same a.program_name b.program_name in
    (λ t. absurd cc (not, t), λ e. names ∙ same.1 (ap (λ (v : SpcSpOpusInfo). v.program_name) e))
