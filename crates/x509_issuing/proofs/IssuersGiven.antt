-- The builder after a certificate was given as the issuer's.
use Rattle.std.proofs.Common.{◌≡◌, ℕ, List, Option, Some, false, inl, inr, ap, ◌∙◌}
use Rattle.std.proofs.Math.Logic.{∥∥₁_elim}
use Rattle.std.specs.Coded.{Coded-set, coded_option}
use Rattle.std.specs.Borrow.{Bor}
use Rattle.asn1_types.specs.declared.oids.TheConstants.{CE_SUBJECT_KEY_IDENTIFIER}
use Rattle.der_core.specs.Facts.Codes.{octets_code}
use Rattle.key_core.specs.declared.private_key.PrivateKey.{PrivateKey}
use Rattle.name_types.specs.declared.attribute.AttributeTypeAndValue.{AttributeTypeAndValue}
use Rattle.names_core.specs.declared.name.DirectoryName.{DirectoryName}
use Rattle.x509_types.specs.ExtensionParts.{HasSubjectKey}
use Rattle.x509_types.specs.FirstOfValue.{extensions_in}
use Rattle.x509_types.specs.declared.extension.Extension.{Extension}
use Rattle.x509_types.specs.declared.extension.view.ExtensionView.TheVariants as views
use Rattle.x509_core.specs.FirstValue.{HasFirst}
use Rattle.x509_core.specs.OwnedCertificate.{KeptCertificate}
use Rattle.x509_core.proofs.Alike.{say_the_same}
use Rattle.x509_issuing.specs.IssuedUnder.{IsIdentifiedBy, IsIssuedUnder}
use Rattle.x509_issuing.specs.declared.builder.CertificateBuilder.{CertificateBuilder}
use Rattle.x509_issuing.proofs.FirstExtensions.{first_once, none_is_first}

pub issued_under : (cert : KeptCertificate) (key : Bor PrivateKey) (before after : CertificateBuilder) (authority : Option (List ℕ)) (name : DirectoryName)
    → IsIdentifiedBy (extensions_in cert.certificate.tbs_certificate.extensions) before.authority_key_identifier authority
    → name.name ≡ cert.certificate.tbs_certificate.subject
    → after ≡ record before { authority_key_identifier = authority; issuer_infos = Some (record { name = name; key = key; self_signed = false }) }
    → IsIssuedUnder cert key before after
issued_under cert key before after authority name identified named is = record {
  authority = authority;
  identified = identified;
  is = is ∙ ap (λ (n : List (List AttributeTypeAndValue)).
      record before { authority_key_identifier = authority; issuer_infos = Some (record { name = record { name = n }; key = key; self_signed = false }) })
      named;
}

-- ---- the authority key identifier, by the elements of the certificate

same_identifier : (a b : List ℕ) → views.SubjectKeyIdentifier a ≡ views.SubjectKeyIdentifier b → a ≡ b
same_identifier a b e = cc

identified_by : (es : List Extension) (before after : Option (List ℕ)) (key : List ℕ)
    → HasFirst CE_SUBJECT_KEY_IDENTIFIER.now es (views.SubjectKeyIdentifier key) → IsIdentifiedBy es before after → after ≡ Some key
identified_by es before after key first (inl (none, same)) = absurd (none_is_first CE_SUBJECT_KEY_IDENTIFIER.now es (views.SubjectKeyIdentifier key) none first)
identified_by es before after key first (inr (own, other, is)) =
    is ∙ ap Some (same_identifier own key (first_once CE_SUBJECT_KEY_IDENTIFIER.now es _ _ other first))

one_option : (a b : Option (List ℕ)) → IsProp (a ≡ b)
one_option a b = Coded-set (coded_option octets_code) a b

pub authority_is : (cert : KeptCertificate) (signer : Bor PrivateKey) (before after : CertificateBuilder) → IsIssuedUnder cert signer before after
    → (key : List ℕ) → HasSubjectKey cert.elements key → after.authority_key_identifier ≡ Some key
authority_is cert signer before after under key has =
    let es = extensions_in cert.certificate.tbs_certificate.extensions in
    ap (λ (b : CertificateBuilder). b.authority_key_identifier) under.is
    ∙ ∥∥₁_elim cert.spelled (one_option under.authority (Some key))
    (λ are. identified_by es before.authority_key_identifier under.authority key (((say_the_same cert.elements cert.certificate are).subject_key key).0 has)
    under.identified)
