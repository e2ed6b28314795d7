use Rattle.std.proofs.Common.{rules}
use Rattle.ca_register.proofs.Cuts.{ascii_text}
use Rattle.ca_register.proofs.text.cutting.text_of.Goals as goal

pub returns : goal.returns
returns c = search (rules, ascii_text)
