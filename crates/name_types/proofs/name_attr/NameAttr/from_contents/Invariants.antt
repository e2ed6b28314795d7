use Rattle.std.proofs.Common.{◌≢◌, ℕ, ◌<◌, get_or}
use Rattle.asn1_types.specs.ObjectIdentifier.{contents_of}
use Rattle.name_types.specs.declared.name_attr.NameAttr.{NameAttr}
use Rattle.name_types.specs.NameAttr.{attribute_arcs}
use Rattle.name_types.proofs.name_attr.NameAttr.from_contents.Given as goal

-- no attribute type so far has the OID
abbrev pub invariant-loop-attr : goal.invariant-loop-attr
invariant-loop-attr l = (k : ℕ) (d : NameAttr) → k < l.attr-index → contents_of (attribute_arcs (get_or l.attr-items k d)) ≢ l.contents
