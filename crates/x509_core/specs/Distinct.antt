-- Extensions with different OIDs (RFC 5280 4.2).
use Rattle.std.specs.Prelude.{⊤, List, [], ◌∷◌}
use Rattle.asn1_types.specs.Values.{identifier_contents}
use Rattle.x509_types.specs.Extension.{extension_id}
use Rattle.x509_types.specs.FirstOfValue.{NoneHas}
use Rattle.x509_types.specs.declared.extension.Extension.{Extension}

-- no two of the extensions have the same OID
abbrev pub AreDistinct : List Extension → Type 0
AreDistinct [] = ⊤
AreDistinct (e ∷ extensions) =
    NoneHas (identifier_contents (extension_id e)) extensions × AreDistinct extensions
