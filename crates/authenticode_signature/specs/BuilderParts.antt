-- The arguments of a builder, borrowed.
use Rattle.authenticode_parts.specs.Carried.{elements_of}
use Rattle.authenticode_signature.specs.Building.{Given}
use Rattle.authenticode_signature.specs.declared.builder.building.Parts.{Parts}

-- the given arguments, by their parts
abbrev pub given_of : Parts → Given
given_of parts = record {
  hash = parts.hash;
  content = parts.content.now;
  key = parts.key.now;
  named = parts.named.now;
  bag = elements_of parts.certificates.now;
}
