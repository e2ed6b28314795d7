use Rattle.std.proofs.Common.{◌≡◌, ◌++◌, IsUtf8}
use Rattle.std.specs.Str.Iter.{chars_rest}
use Rattle.cms_types.specs.Units.{IsBasicPlane, text_units}
use Rattle.cms_types.proofs.opus_info.spc_string.units_of.Given as goal

-- the octets so far and the units of the rest make those of the text
abbrev pub invariant-loop-character : goal.invariant-loop-character
invariant-loop-character l = IsUtf8 (chars_rest l.character-iterator) × IsBasicPlane (chars_rest l.character-iterator)
    × (l.octets.items ++ text_units (chars_rest l.character-iterator) ≡ text_units l.fn.text)
