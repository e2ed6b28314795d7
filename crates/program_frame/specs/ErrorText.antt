-- The texts of errors.
use Rattle.std.specs.Prelude.{List, ℕ, codes}
use Rattle.program_frame.specs.declared.error.FileError.{FileError}
use Rattle.program_frame.specs.declared.error.FileError.TheVariants as files

-- why a file wasn't read
abbrev pub file_error_text : FileError → List ℕ
file_error_text files.Fault = codes "the file can't be read"
file_error_text files.TooLong = codes "the file has more than 16777216 octets"
file_error_text files.Memory = codes "out of memory"

-- that a shelf or a sink failed
abbrev pub failed_text : List ℕ
failed_text = codes "the outside failed"
