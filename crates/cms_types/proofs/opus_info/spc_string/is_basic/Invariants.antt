use Rattle.std.proofs.Common.{◌↔◌, IsUtf8}
use Rattle.std.specs.Str.Iter.{chars_rest}
use Rattle.cms_types.specs.Units.{IsBasicPlane}
use Rattle.cms_types.proofs.opus_info.spc_string.is_basic.Given as goal

-- the text is basic exactly where the rest of it is
abbrev pub invariant-loop-character : goal.invariant-loop-character
invariant-loop-character l = IsUtf8 (chars_rest l.character-iterator) × (IsBasicPlane (chars_rest l.character-iterator) ↔ IsBasicPlane l.fn.text)
