-- How an error of a check becomes one of a program, and the texts of these.
use Rattle.std.specs.Prelude.{ℕ, List, codes}
use Rattle.authenticode_core.specs.ErrorText.{check_error_text}
use Rattle.authenticode_core.specs.declared.error.CheckError.{CheckError}
use Rattle.authenticode_core.specs.declared.error.CheckError.TheVariants as checks
use Rattle.pe_core.specs.ErrorText.{error_text as image_error_text}
use Rattle.pe_image.specs.declared.error.PeCheckError.{PeCheckError}
use Rattle.pe_image.specs.declared.error.PeCheckError.TheVariants.{Pe, Check, Memory}

-- the error for one of a check; out of memory is reported as such
abbrev pub of_check : CheckError → PeCheckError
of_check checks.Memory = Memory
of_check e = Check e

-- why a program is refused
abbrev pub error_text : PeCheckError → List ℕ
error_text (Pe e) = image_error_text e
error_text (Check e) = check_error_text e
error_text Memory = codes "out of memory"
