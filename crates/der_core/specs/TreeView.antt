-- The element that a tree in memory represents.
use Rattle.der_core.specs.DerElement.{DerElement, Primitive, Constructed, row}
use Rattle.der_core.specs.declared.tree.Form.{Form}
use Rattle.der_core.specs.declared.tree.Form.TheVariants as forms

-- the element of one level in memory, whose kids are elements already
abbrev pub element_of : Form → DerElement
element_of (forms.Primitive tag content) = Primitive tag content
element_of (forms.Constructed tag kids) = Constructed tag (row kids.items)
