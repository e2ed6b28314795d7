-- The texts of errors of layouts.
use Rattle.std.specs.Prelude.{ℕ, List, ◌++◌, codes}
use Rattle.std.specs.Fmt.{decimal}
use Rattle.pe_core.specs.declared.layout_error.LayoutError.{LayoutError}
use Rattle.pe_core.specs.declared.layout_error.LayoutError.TheVariants.{HeadersOutside, SectionOutside}

-- why an image isn't whole
abbrev pub layout_error_text : LayoutError → List ℕ
layout_error_text HeadersOutside =
    codes "the program's section table isn't in its headers, or these reach into its signature"
layout_error_text (SectionOutside section) =
    codes "section " ++ decimal section
    ++ codes " of the program isn't between its headers and its signature"

-- a certificate table that is no list of entries
abbrev pub bad_table_text : List ℕ
bad_table_text = codes "the certificate table is no list of entries"
