-- The element that is written for signed data with its type (RFC 5652 3).
use Rattle.der_core.specs.DerElement.{DerElement}
use Rattle.cms_types.specs.Pkcs7Elements.{pkcs7_of}
use Rattle.cms_types.specs.SignedData.{signed_data}
use Rattle.cms_types.specs.declared.signed_data.pkcs7.Pkcs7Certificate.{Pkcs7Certificate}

-- the element of signed data with its type
abbrev pub pkcs7 : Pkcs7Certificate → DerElement
pkcs7 value = pkcs7_of (signed_data value.signed_data)
