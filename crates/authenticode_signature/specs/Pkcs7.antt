-- Owned signed data, by the elements that are written for it (RFC 2315 7, 9.1).
use Rattle.std.specs.Prelude.{◌≡◌, List}
use Rattle.authenticode_core.specs.SigningRules.{IsBagOf}
use Rattle.cms_types.specs.Pkcs7.{pkcs7}
use Rattle.cms_types.specs.SignedData.{signed_data_elements}
use Rattle.cms_types.specs.SignedDataElements.{SignedDataElements}
use Rattle.cms_types.specs.declared.signed_data.pkcs7.Pkcs7Certificate.{Pkcs7Certificate}
use Rattle.cms_types.specs.declared.signer_info.SignerInfo.{SignerInfo}
use Rattle.der_core.specs.DerElement.{DerElement}
use Rattle.x509_types.specs.CertificateElements.{CertificateElements}
use Rattle.authenticode_signature.specs.declared.pkcs7.Pkcs7.{Pkcs7}

-- the element is that of the value
abbrev pub IsPkcs7Of : DerElement → Pkcs7Certificate → Type 0
IsPkcs7Of element value = element ≡ pkcs7 value

-- the element that is written
abbrev pub written : Pkcs7 → DerElement
written p = pkcs7 p.signed

-- the elements of its fields
abbrev pub fields_of : Pkcs7 → SignedDataElements
fields_of p = signed_data_elements p.signed.signed_data

-- the signers
abbrev pub signer_infos_of : Pkcs7 → List SignerInfo
signer_infos_of p = p.signed.signed_data.signers_infos

-- it contains these certificates, in order, and no others
abbrev pub HasBag : Pkcs7 → List CertificateElements → Type 0
HasBag p bag = ∥ IsBagOf (fields_of p) bag ∥₁
