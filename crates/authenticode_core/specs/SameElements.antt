-- Elements compared by their octets, as names (RFC 5280 4.1.2.4, 4.1.2.6) and algorithms are.
use Rattle.std.specs.Prelude.{◌≡◌}
use Rattle.der_core.specs.DerElement.{DerElement}
use Rattle.der_core.specs.Encoding.{encoding}

-- two elements are the same if their octets are
abbrev pub IsSameElement : DerElement → DerElement → Type 0
IsSameElement a b = encoding a ≡ encoding b
