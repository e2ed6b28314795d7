-- A trust list is written as the element that it was read from.
use Rattle.der_core.specs.DerElement.{DerElement}
use Rattle.cms_content.specs.declared.ctl.Ctl.{Ctl}

-- the element of a trust list
abbrev pub ctl : Ctl → DerElement
ctl value = value.element.element
