-- The extensions that a certificate is built with (RFC 5280 4.2.1).
use Rattle.std.specs.Prelude.{◌≡◌, ◌↔◌, ⊤, ℕ, Bool, true, false, IsTrue, List, [], ◌∷◌, ◌++◌, Option, Some, None}
use Rattle.asn1_types.specs.Values.{identifier_contents}
use Rattle.asn1_types.specs.declared.oids.TheConstants.{CE_SUBJECT_KEY_IDENTIFIER, CE_KEY_USAGE, CE_SUBJECT_ALT_NAME, CE_ISSUER_ALT_NAME}
use Rattle.asn1_types.specs.declared.oids.TheConstants.{CE_BASIC_CONSTRAINTS, CE_AUTHORITY_KEY_IDENTIFIER, CE_EXT_KEY_USAGE}
use Rattle.extension_types.specs.AuthorityKeyIdentifier.{key_of_identifier}
use Rattle.extension_types.specs.BasicConstraints.{constraints_with}
use Rattle.extension_types.specs.KeyUsage.{HasBit, usage_bits}
use Rattle.extension_types.specs.declared.key_usage.KeyUsage.{KeyUsage}
use Rattle.x509_types.specs.Extension.{extension_id, extension_value, is_critical}
use Rattle.x509_types.specs.declared.extension.Extension.{Extension}
use Rattle.x509_types.specs.declared.extension.view.ExtensionView.{ExtensionView}
use Rattle.x509_types.specs.declared.extension.view.ExtensionView.TheVariants as views
use Rattle.x509_issuing.specs.Inherited.{asked_in, with_others}
use Rattle.x509_issuing.specs.declared.builder.CertificateBuilder.{CertificateBuilder}
use Rattle.x509_issuing.specs.declared.builder.IssuerInfos.{IssuerInfos}
use Rattle.x509_issuing.specs.declared.builder.SubjectInfos.{SubjectInfos}
use Rattle.x509_issuing.specs.declared.builder.SubjectInfos.TheVariants as subjects

-- An extension by the contents octets of its OID, whether it is critical, and its value.
pub record WantedExtension : Type 0 where
  pub oid : List ℕ
  pub critical : Bool
  pub value : ExtensionView

-- The extension is the wanted one.
pub record IsWantedExtension (w : WantedExtension) (e : Extension) : Type 0 where
  pub named : identifier_contents (extension_id e) ≡ w.oid
  pub flagged : is_critical e ≡ w.critical
  pub valued : extension_value e ≡ w.value

-- each is the wanted one at its index, and there are as many
abbrev pub AreWanted : List WantedExtension → List Extension → Type 0
AreWanted [] [] = ⊤
AreWanted [] (e ∷ extensions) = ⊥
AreWanted (w ∷ wanted) [] = ⊥
AreWanted (w ∷ wanted) (e ∷ extensions) = IsWantedExtension w e × AreWanted wanted extensions

-- one with this OID, if its value is given
abbrev pub where_given : {X : Type 0} → List ℕ → Bool → (X → ExtensionView) → Option X
    → List WantedExtension
where_given oid critical view None = []
where_given oid critical view (Some x) =
    record { oid = oid; critical = critical; value = view x } ∷ []

-- the key usage is given and names signatures other than those on certificates and CRLs (RFC 5280
-- 4.2.1.3)
abbrev pub IsForSignatures : Option KeyUsage → Type 0
IsForSignatures None = ⊥
IsForSignatures (Some usage) = HasBit (usage_bits usage) 0

-- the basic constraints that the builder describes
abbrev pub constraints_of : CertificateBuilder → ExtensionView
constraints_of b = views.BasicConstraints (constraints_with (Some b.ca) b.pathlen)

-- basic constraints, critical or not, then the key usages
abbrev pub wanted_uses : CertificateBuilder → Bool → List WantedExtension
wanted_uses b critical =
    record { oid = CE_BASIC_CONSTRAINTS.now; critical = critical; value = constraints_of b }
    ∷ (where_given CE_KEY_USAGE.now true views.KeyUsage b.key_usage
    ++ where_given CE_EXT_KEY_USAGE.now false views.ExtendedKeyUsage b.extended_key_usage)

-- alternative names of the subject, then of the issuer
abbrev pub wanted_names : CertificateBuilder → List WantedExtension
wanted_names b =
    where_given CE_SUBJECT_ALT_NAME.now false views.SubjectAltName b.subject_alt_name
    ++ where_given CE_ISSUER_ALT_NAME.now false views.IssuerAltName b.issuer_alt_name

-- the subject key identifier, then the authority key identifier
abbrev pub wanted_keys : (own authority : List ℕ) → List WantedExtension
wanted_keys own authority =
    record {
      oid = CE_SUBJECT_KEY_IDENTIFIER.now;
      critical = false;
      value = views.SubjectKeyIdentifier own;
    } ∷
    record {
      oid = CE_AUTHORITY_KEY_IDENTIFIER.now;
      critical = false;
      value = views.AuthorityKeyIdentifier (key_of_identifier authority);
    } ∷ []

-- the builder's own extensions, in order
abbrev pub wanted : CertificateBuilder → Bool → (own authority : List ℕ) → List WantedExtension
wanted b critical own authority =
    wanted_uses b critical ++ (wanted_names b ++ wanted_keys own authority)

-- The extension is the builder's basic constraints, critical exactly if the key usage is for
-- signatures.
pub record IsConstraints (b : CertificateBuilder) (e : Extension) : Type 0 where
  pub flagged : IsTrue (is_critical e) ↔ IsForSignatures b.key_usage
  pub named : identifier_contents (extension_id e) ≡ CE_BASIC_CONSTRAINTS.now
  pub valued : extension_value e ≡ constraints_of b

-- The extensions are the basic constraints and the key usages.
pub record HasUses (b : CertificateBuilder) (extensions : List Extension) : Type 0 where
  pub critical : Bool
  pub flagged : IsTrue critical ↔ IsForSignatures b.key_usage
  pub are : AreWanted (wanted_uses b critical) extensions

-- the inherited extensions: those that the subject's request asks for, if that is set and the
-- issuer isn't the subject
abbrev pub inherited : (self_signed inherits : Bool) → Option SubjectInfos → List Extension
inherited false true (Some (subjects.Request csr)) =
    asked_in csr.request.certification_request_info.attributes
inherited self_signed inherits subject = []

-- The extensions are the builder's own, and the inherited ones with an OID that isn't there yet.
-- Basic constraints are critical exactly if the key usage is for signatures.
pub record AreBuilt (b : CertificateBuilder) (issuer : IssuerInfos) (own authority : List ℕ)
    (extensions : List Extension) : Type 0 where
  pub critical : Bool
  pub flagged : IsTrue critical ↔ IsForSignatures b.key_usage
  pub made : List Extension
  pub are_made : AreWanted (wanted b critical own authority) made
  pub are : extensions ≡ with_others made (inherited issuer.self_signed b.inherits b.subject_infos)
