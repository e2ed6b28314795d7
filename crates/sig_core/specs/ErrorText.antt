-- The texts of errors.
use Rattle.std.specs.Prelude.{ℕ, List, ◌++◌, codes}
use Rattle.std.specs.Fmt.{decimal}
use Rattle.sig_core.specs.Digest.{digest_name}
use Rattle.sig_core.specs.declared.error.UnsupportedHashAlgorithmError.{UnsupportedHashAlgorithmError}
use Rattle.sig_core.specs.declared.scheme.SchemeError.{SchemeError}
use Rattle.sig_core.specs.declared.scheme.SchemeError.TheVariants as scheme
use Rattle.sig_core.specs.declared.verdict_table.TableError.{TableError}
use Rattle.sig_core.specs.declared.verdict_table.TableError.TheVariants as table

-- why a text isn't a verdict table
abbrev pub table_error_text : TableError → List ℕ
table_error_text (table.BadLine number) =
    codes "line " ++ decimal number ++ codes " of the verdict table is not a row"
table_error_text table.Memory = codes "out of memory"

-- why a scheme returns no signature, or no key
abbrev pub scheme_error_text : SchemeError → List ℕ
scheme_error_text scheme.Refused = codes "the signature scheme refused"
scheme_error_text scheme.Memory = codes "out of memory"

-- why a digest algorithm isn't converted
abbrev pub unsupported_hash_text : UnsupportedHashAlgorithmError → List ℕ
unsupported_hash_text error =
    codes "digests by " ++ digest_name error.algorithm ++ codes " are not supported"

-- why an OID is refused as that of no digest algorithm
abbrev pub unsupported_algorithm_text : List ℕ
unsupported_algorithm_text = codes "the OID names no supported digest algorithm"
