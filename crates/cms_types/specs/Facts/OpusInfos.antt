-- What signatures say about their programs: different values have different elements, each well
-- formed.
use Rattle.std.proofs.Common.{◌≡◌, [], ◌++◌, Option, Some, None, refl, arith}
use Rattle.std.specs.Option.{option_map}
use Rattle.der_core.specs.DerElement.{DerElement, row}
use Rattle.der_core.specs.Elements.{optional_explicit}
use Rattle.der_core.specs.Encoding.{AreWellFormed}
use Rattle.der_core.specs.Structure.{IsGrammar, BeginsOtherwise}
use Rattle.der_core.specs.Facts.Optional.{options_once, explicit_once, explicit_split, explicit_formed, option_formed, last_formed}
use Rattle.der_core.specs.Facts.Grammars.{printed, same_fields}
use Rattle.cms_types.specs.SpcString.{spc_string}
use Rattle.cms_types.specs.SpcLink.{spc_link}
use Rattle.cms_types.specs.OpusInfo.{opus_info_of, opus_info}
use Rattle.cms_types.specs.Facts.SpcStrings.{spc_strings}
use Rattle.cms_types.specs.Facts.SpcLinks.{spc_links}
use Rattle.cms_types.specs.declared.opus_info.spc_string.SpcString.{SpcString}
use Rattle.cms_types.specs.declared.opus_info.spc_link.SpcLink.{SpcLink}
use Rattle.cms_types.specs.declared.opus_info.SpcSpOpusInfo.{SpcSpOpusInfo}

other_tag : (more_info : Option DerElement) → BeginsOtherwise 0xA0 (optional_explicit 0xA1 more_info)
other_tag None = tt
other_tag (Some kid) = λ e. omega (arith, e)

pub fields_once : (n m i j : Option DerElement) → opus_info_of n i ≡ opus_info_of m j → (n ≡ m) × (i ≡ j)
fields_once n m i j e =
    let kids = same_fields (optional_explicit 0xA0 n ++ optional_explicit 0xA1 i) (optional_explicit 0xA0 m ++ optional_explicit 0xA1 j) e in
    let parts = explicit_split 0xA0 n m (optional_explicit 0xA1 i) (optional_explicit 0xA1 j) (λ none. other_tag i) (λ none. other_tag j) kids in
    (parts.0, explicit_once 0xA1 i j parts.1)

infos_once : (a b : SpcSpOpusInfo) → opus_info a ≡ opus_info b → a ≡ b
infos_once a b e =
    let parts = fields_once (option_map spc_string a.program_name) (option_map spc_string b.program_name) (option_map spc_link a.more_info)
    (option_map spc_link b.more_info) e in
    let program_name : a.program_name ≡ b.program_name =
    options_once spc_string (λ x y e. spc_strings.once (spc_string x) x y refl e) a.program_name b.program_name parts.0 in
    let more_info : a.more_info ≡ b.more_info = options_once spc_link (λ x y e. spc_links.once (spc_link x) x y refl e) a.more_info b.more_info parts.1 in
    λ i. record { program_name = program_name i; more_info = more_info i }

fields_formed : (name : Option SpcString) (link : Option SpcLink)
    → AreWellFormed (row (optional_explicit 0xA0 (option_map spc_string name) ++ optional_explicit 0xA1 (option_map spc_link link)))
fields_formed name link =
    explicit_formed 0xA0 (option_map spc_string name) (optional_explicit 0xA1 (option_map spc_link link))
    (omega arith, omega arith, omega arith) refl (option_formed spc_string spc_strings.formed name)
    (last_formed 0xA1 (option_map spc_link link) (omega arith, omega arith, omega arith) refl (option_formed spc_link spc_links.formed link))

pub opus_infos : IsGrammar (λ element info. element ≡ opus_info info) opus_info (λ info. [])
opus_infos = printed opus_info infos_once (λ info. ((omega arith, omega arith, omega arith), refl, fields_formed info.program_name info.more_info))
