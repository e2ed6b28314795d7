-- The builder after a certificate was given as the issuer's.
use Rattle.std.specs.Prelude.{◌≡◌, ◌⊎◌, ℕ, false, List, Option, Some}
use Rattle.std.specs.Borrow.{Bor}
use Rattle.asn1_types.specs.declared.oids.TheConstants.{CE_SUBJECT_KEY_IDENTIFIER}
use Rattle.key_core.specs.declared.private_key.PrivateKey.{PrivateKey}
use Rattle.names_core.specs.Names.{name_of_sets}
use Rattle.x509_types.specs.FirstOfValue.{extensions_in, NoneHas}
use Rattle.x509_types.specs.declared.extension.Extension.{Extension}
use Rattle.x509_types.specs.declared.extension.view.ExtensionView.TheVariants as views
use Rattle.x509_core.specs.FirstValue.{HasFirst}
use Rattle.x509_core.specs.OwnedCertificate.{KeptCertificate}
use Rattle.x509_issuing.specs.declared.builder.CertificateBuilder.{CertificateBuilder}

-- the authority key identifier is that of the first subject key identifier, or as before if there
-- is none (RFC 5280 4.2.1.1)
abbrev pub IsIdentifiedBy : List Extension → (before after : Option (List ℕ)) → Type 0
IsIdentifiedBy extensions before after =
    (NoneHas CE_SUBJECT_KEY_IDENTIFIER.now extensions × (after ≡ before))
    ⊎ ((key : List ℕ)
    × HasFirst CE_SUBJECT_KEY_IDENTIFIER.now extensions (views.SubjectKeyIdentifier key)
    × (after ≡ Some key))

-- The issuer has the subject of its certificate as its name, and this key, with the certificate's
-- subject key identifier; all else is as before.
pub record IsIssuedUnder (cert : KeptCertificate) (key : Bor PrivateKey)
    (before after : CertificateBuilder) : Type 0 where
  pub authority : Option (List ℕ)
  pub identified : IsIdentifiedBy (extensions_in cert.certificate.tbs_certificate.extensions)
      before.authority_key_identifier authority
  pub is : after ≡ record before {
    authority_key_identifier = authority;
    issuer_infos = Some
        (record {
          name = name_of_sets cert.certificate.tbs_certificate.subject;
          key = key;
          self_signed = false;
        });
  }
