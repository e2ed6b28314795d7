use Rattle.ca_register.specs.Lines.{first_word, issued_words}
use Rattle.ca_register.proofs.Spelling.{first_is_word}
use Rattle.ca_register.proofs.text.reading.line_of.Goals as goal

pub returns-in_err-first-clause-only : goal.returns-in_err-first-clause-only
returns-in_err-first-clause-only c line is spelled =
    absurd (c.in_err-first.ensures.only (first_word line.issuer) (issued_words line.issuer line) (first_is_word line.issuer) spelled)
