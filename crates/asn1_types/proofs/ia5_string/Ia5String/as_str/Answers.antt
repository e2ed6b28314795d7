use Rattle.std.proofs.Common.{rules, arith}
use Rattle.std.specs.Str.{IsUtf8}
use Rattle.std.proofs.lemmas.Str.{IsUtf8-from_ascii}
use Rattle.std.proofs.lemmas.Str.Ascii.{IsAscii-from_all}
use Rattle.asn1_types.proofs.ia5_string.Ia5String.as_str.Goals as goal

pub from_utf8_unchecked-requires : goal.from_utf8_unchecked-requires
from_utf8_unchecked-requires c =
    let text = c.args.self.now.text in
    let utf8 : IsUtf8 text = IsUtf8-from_ascii text (IsAscii-from_all text (λ k d below. omega (arith, c.args.self.now.ascii k d below))) in
    search rules
