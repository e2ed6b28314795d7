-- The value of the first extension with an OID (RFC 5280 4.2).
use Rattle.std.specs.Prelude.{◌≡◌, ℕ, List}
use Rattle.x509_types.specs.Extension.{extension_value}
use Rattle.x509_types.specs.FirstOfValue.{NoneHas, IsFirstWith}
use Rattle.x509_types.specs.declared.extension.Extension.{Extension}
use Rattle.x509_types.specs.declared.extension.view.ExtensionView.{ExtensionView}
use Rattle.x509_core.specs.declared.error.CertError.{CertError}
use Rattle.x509_core.specs.declared.error.CertError.TheVariants as errors
use Rattle.x509_core.specs.declared.error.ExtName.{ExtName}

-- The first extension with this OID, given by its contents octets, has this value.
pub record HasFirst (oid : List ℕ) (extensions : List Extension)
    (value : ExtensionView) : Type 0 where
  pub extension : Extension
  pub first : IsFirstWith oid extensions extension
  pub valued : extension_value extension ≡ value

-- The error reports that no extension has this OID, and none has.
abbrev pub IsMissingExtension : List ℕ → ExtName → List Extension → CertError → Type 0
IsMissingExtension oid name extensions e =
    (e ≡ errors.ExtensionNotFound name) × NoneHas oid extensions
