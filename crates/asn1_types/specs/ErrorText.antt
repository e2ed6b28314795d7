-- The texts of errors.
use Rattle.std.specs.Prelude.{List, ℕ, codes}
use Rattle.asn1_types.specs.declared.error.CharSetError.{CharSetError}
use Rattle.asn1_types.specs.declared.error.CharSetError.TheVariants as char_set
use Rattle.asn1_types.specs.declared.error.TextError.{TextError}
use Rattle.asn1_types.specs.declared.error.TextError.TheVariants as text

-- why a text isn't an OID
abbrev pub text_error_text : TextError → List ℕ
text_error_text text.BadText =
    codes "the text is not an object identifier in dotted decimal form"
text_error_text text.Memory = codes "out of memory"

-- why a text isn't in the character set of a string type
abbrev pub char_set_error_text : CharSetError → List ℕ
char_set_error_text char_set.CharSet =
    codes "a character is outside the character set of the string"
char_set_error_text char_set.Memory = codes "out of memory"
