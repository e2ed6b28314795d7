-- The lines that a run writes.
use Rattle.std.specs.Prelude.{ℕ, List, [], ◌∷◌, ◌++◌, codes}
use Rattle.std.specs.List.{flat_map}
use Rattle.hex.specs.Hex.{encode_lower}
use Rattle.sha2.specs.Sha256.{sha256}
use Rattle.authenticode_core.specs.RefusalName.{refusal_name}
use Rattle.authenticode_core.specs.declared.error.CheckError.{CheckError}
use Rattle.sig_core.specs.Algorithm.{name_of}
use Rattle.sig_core.specs.VerdictTable.{newline, space}
use Rattle.x509_core.specs.ErrorName.{cert_error_name}
use Rattle.x509_core.specs.declared.error.CertError.{CertError}
use Rattle.signature_questions.specs.Question.{Question}

-- a word after another, in lower-case hexadecimal digits
abbrev pub hex_word : List ℕ → List ℕ
hex_word octets = space ∷ encode_lower octets

-- the line of a question: what a row of a table of version 1 has, which is the algorithm and the
-- SHA-256 of key bytes, message and signature, then these three
abbrev pub question_line : Question → List ℕ
question_line q =
    name_of q.algorithm ++ hex_word (sha256 q.key) ++ hex_word (sha256 q.message)
    ++ hex_word (sha256 q.signature) ++ hex_word q.key ++ hex_word q.message
    ++ hex_word q.signature ++ newline ∷ []

-- the lines of questions in order
abbrev pub question_lines : List Question → List ℕ
question_lines qs = flat_map question_line qs

-- refused NAME, for octets that are no signature file
abbrev pub refused_line : CheckError → List ℕ
refused_line e = codes "refused " ++ refusal_name e ++ newline ∷ []

-- refused NAME, for octets that are no certificate
abbrev pub refused_chain_line : CertError → List ℕ
refused_chain_line e = codes "refused " ++ cert_error_name e ++ newline ∷ []
