use Rattle.name_types.proofs.Texts.{utf8_kept, utf8_marked}
use Rattle.name_types.proofs.text.write_utf8.Goals as goal

pub returns-in-Ok : goal.returns-in-Ok
returns-in-Ok g c =
    let read = c.in-Ok.ensures.cases in rw (utf8_kept _ read.1, ← read.0) c.write_str.ensures.writes

pub returns-in-Err : goal.returns-in-Err
returns-in-Err g c = rw (utf8_marked _ c.in-Err.ensures.cases.0) c.write_ascii.ensures
