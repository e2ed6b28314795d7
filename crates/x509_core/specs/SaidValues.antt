-- The fields of a certificate about its key, in its elements and in its first extensions (RFC 5280
-- 4.2.1.1, 4.2.1.2, 4.2.1.9).
use Rattle.std.specs.Prelude.{◌≡◌, ◌↔◌, ℕ, Bool, List, Some}
use Rattle.asn1_types.specs.declared.oids.TheConstants.{CE_SUBJECT_KEY_IDENTIFIER, CE_BASIC_CONSTRAINTS, CE_AUTHORITY_KEY_IDENTIFIER}
use Rattle.extension_types.specs.AuthorityKeyIdentifier.{key_identifier_of}
use Rattle.extension_types.specs.BasicConstraints.{ca_of, pathlen_of}
use Rattle.extension_types.specs.declared.authority_key_identifier.AuthorityKeyIdentifier.{AuthorityKeyIdentifier}
use Rattle.extension_types.specs.declared.basic_constraints.BasicConstraints.{BasicConstraints}
use Rattle.x509_types.specs.CertificateElements.{CertificateElements}
use Rattle.x509_types.specs.ExtensionParts.{HasCa, HasPathLength, HasSubjectKey, HasAuthorityKey}
use Rattle.x509_types.specs.FirstOfValue.{extensions_in}
use Rattle.x509_types.specs.declared.certificate.Certificate.{Certificate}
use Rattle.x509_types.specs.declared.extension.Extension.{Extension}
use Rattle.x509_types.specs.declared.extension.view.ExtensionView.TheVariants as views
use Rattle.x509_core.specs.FirstValue.{HasFirst}

-- The first authority key identifier has this key identifier.
pub record NamesKey (extensions : List Extension) (key : List ℕ) : Type 0 where
  pub value : AuthorityKeyIdentifier
  pub first : HasFirst CE_AUTHORITY_KEY_IDENTIFIER.now extensions
      (views.AuthorityKeyIdentifier value)
  pub named : key_identifier_of value ≡ Some key

-- The first basic constraints have this flag.
pub record HasFlag (extensions : List Extension) (flag : Bool) : Type 0 where
  pub value : BasicConstraints
  pub first : HasFirst CE_BASIC_CONSTRAINTS.now extensions (views.BasicConstraints value)
  pub flagged : ca_of value ≡ Some flag

-- The first basic constraints have this path length.
pub record HasLength (extensions : List Extension) (number : ℕ) : Type 0 where
  pub value : BasicConstraints
  pub first : HasFirst CE_BASIC_CONSTRAINTS.now extensions (views.BasicConstraints value)
  pub limited : pathlen_of value ≡ Some number

-- The elements and the value agree.
pub record SayTheSame (f : CertificateElements) (c : Certificate) : Type 0 where
  pub subject_key : (key : List ℕ)
      → HasSubjectKey f key
      ↔ HasFirst CE_SUBJECT_KEY_IDENTIFIER.now (extensions_in c.tbs_certificate.extensions)
      (views.SubjectKeyIdentifier key)
  pub authority_key : (key : List ℕ)
      → HasAuthorityKey f key ↔ NamesKey (extensions_in c.tbs_certificate.extensions) key
  pub flag : (flag : Bool)
      → HasCa f flag ↔ HasFlag (extensions_in c.tbs_certificate.extensions) flag
  pub length : (number : ℕ)
      → HasPathLength f number ↔ HasLength (extensions_in c.tbs_certificate.extensions) number
