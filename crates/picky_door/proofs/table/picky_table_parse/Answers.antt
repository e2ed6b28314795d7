use Rattle.std.proofs.Common.{Err, inl, inr, refl, ap, arith}
use Rattle.picky_door.proofs.table.picky_table_parse.Goals as goal

pub returns-in-Ok : goal.returns-in-Ok
returns-in-Ok c = record {
  bounded = inl refl;
  parsed = λ e. c.in-Ok.ensures.text;
  bad_table = λ e. absurd (omega arith);
  kept = λ other. absurd (other refl);
  each_table = λ rows is. inl refl;
  each_bad_line = λ number is. absurd (c.in-Ok.ensures.each_bad_line number is);
}

pub returns-in-Err-BadLine : goal.returns-in-Err-BadLine
returns-in-Err-BadLine c = record {
  bounded = inr (inl refl);
  parsed = λ e. absurd (omega arith);
  bad_table = λ e. (c.in-Err-BadLine.field-0-0, c.in-Err-BadLine.ensures.cause c.in-Err-BadLine.field-0-0 (ap Err c.in-Err-BadLine.field-0-is));
  kept = λ other. c.in-Err-BadLine.ensures.refused;
  each_table = λ rows is. absurd (cc (c.in-Err-BadLine.ensures.each_table rows is, c.in-Err-BadLine.field-0-is));
  each_bad_line = λ number is. inl refl;
}
