-- Elements that may be absent, borrowed and owned.
use Rattle.std.specs.Prelude.{Option, Some, None}
use Rattle.der_core.specs.DerElement.{DerElement}
use Rattle.der_core.specs.Owned.{KeptElement}
use Rattle.der_core.specs.declared.elem.Elem.{Elem}

-- the borrowed element
abbrev pub at_option : Option Elem → Option DerElement
at_option None = None
at_option (Some elem) = Some elem.is.0

-- the owned element
abbrev pub kept_option : Option KeptElement → Option DerElement
kept_option None = None
kept_option (Some kept) = Some kept.element
