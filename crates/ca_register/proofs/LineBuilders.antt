-- The builders of a register's lines: who issues, and who is the subject.
use Rattle.std.proofs.Common.{◌≡◌, ◌⊎◌, ℕ, Bool, true, false, List, [], ◌∷◌, Option, Some, None, inl, inr, refl, sym, ap, subst, ◌∙◌}
use Rattle.asn1_types.specs.declared.oids.TheConstants.{CE_SUBJECT_KEY_IDENTIFIER}
use Rattle.der_core.specs.DerElement.{DerElement}
use Rattle.key_types.specs.declared.key_info.SubjectPublicKeyInfo.{SubjectPublicKeyInfo}
use Rattle.key_core.specs.KeyIdentifier.{IsKeyIdentifier}
use Rattle.key_core.specs.Keys.{info_of}
use Rattle.key_core.specs.PrivatePkcs1.{IsPrivatePkcs1}
use Rattle.key_core.specs.declared.key_id.KeyIdGenMethod.{KeyIdGenMethod}
use Rattle.key_core.specs.declared.private_key.PrivateKey.{PrivateKey}
use Rattle.key_core.specs.declared.public_key.PublicKey.{PublicKey}
use Rattle.name_types.specs.Name.{name}
use Rattle.name_types.specs.declared.attribute.AttributeTypeAndValue.{AttributeTypeAndValue}
use Rattle.names_core.specs.Names.{sets_of}
use Rattle.names_core.specs.declared.name.DirectoryName.{DirectoryName}
use Rattle.ca_register.specs.Lines.{Line}
use Rattle.sig_core.specs.DemoScheme.{demo_verdict}
use Rattle.x509_types.specs.FirstOfValue.{extensions_in}
use Rattle.x509_types.specs.declared.extension.view.ExtensionView.TheVariants as views
use Rattle.x509_core.specs.OwnedCertificate.{KeptCertificate}
use Rattle.x509_issuing.specs.BuiltCertificate.{IsGivenSubject, IsSubjectBy, authority_of}
use Rattle.x509_issuing.specs.IssuedUnder.{IsIdentifiedBy}
use Rattle.x509_issuing.specs.MadeExtensions.{inherited}
use Rattle.x509_issuing.specs.declared.builder.CertificateBuilder.{CertificateBuilder}
use Rattle.x509_issuing.specs.declared.builder.IssuerInfos.{IssuerInfos}
use Rattle.x509_issuing.specs.declared.builder.SubjectInfos.{SubjectInfos}
use Rattle.x509_issuing.specs.declared.builder.SubjectInfos.TheVariants as subjects
use Rattle.x509_issuing.proofs.FirstExtensions.{first_once, none_is_first}
use Rattle.ca_register.specs.Granting.{IsChildBuilder, IsGranted, IsRootBuilder}
use Rattle.ca_register.specs.LineCertificates.{IsForLine, common_name}
use Rattle.ca_register.specs.LineKeys.{AreLineKeys, key_id_of, key_secret}
use Rattle.ca_register.specs.declared.entry.Grant.{Grant}
use Rattle.key_core.proofs.SmallKeys.{identifier_is}

-- The subject has the name and the key of a line, and the authority key identifier is that of the
-- signer's key.
pub record IsIssuedTo (signer subject : Line) (b : CertificateBuilder) : Type 0 where
  pub authority : b.authority_key_identifier ≡ Some (key_id_of signer.key)
  pub given : DirectoryName
  pub own : PublicKey
  pub is : b.subject_infos ≡ Some (subjects.Named given own)
  pub named : name (sets_of given) ≡ common_name subject.name
  pub private : PrivateKey
  pub keys : AreLineKeys subject.key private (info_of own)

-- the signer is the subject, or another
abbrev pub HasSubject : (signer subject : Line) → CertificateBuilder → IssuerInfos → Type 0
HasSubject signer subject b issuer =
    ((issuer.self_signed ≡ true) × (signer ≡ subject))
    ⊎ ((issuer.self_signed ≡ false) × IsIssuedTo signer subject b)

-- The builder is set for the certificate of a line, the subject's, under that of the signer's.
pub record IsSetFor (signer subject : Line) (b : CertificateBuilder) (issuer : IssuerInfos) : Type 0 where
  pub grant : Grant
  pub granted : IsGranted grant b
  pub given : b.issuer_infos ≡ Some issuer
  pub named : name (sets_of issuer.name) ≡ common_name signer.name
  pub private : IsPrivatePkcs1 (key_secret signer.key) issuer.key.now
  pub has : HasSubject signer subject b issuer
  pub plain : inherited issuer.self_signed b.inherits b.subject_infos ≡ []

-- ---- the builders of a register

plain_root : (self_signed inherits : Bool) (subject : Option SubjectInfos) → self_signed ≡ true → inherited self_signed inherits subject ≡ []
plain_root true inherits subject e = refl
plain_root false inherits subject e = absurd cc

plain_child : (self_signed inherits : Bool) (subject : Option SubjectInfos) → inherits ≡ false → inherited self_signed inherits subject ≡ []
plain_child true inherits subject e = refl
plain_child false false subject e = refl
plain_child false true subject e = absurd cc

pub root_set : (grant : Grant) (given : DirectoryName) (key : PrivateKey) (line : Line) (b : CertificateBuilder) (is : IsRootBuilder grant given key b)
    → name (sets_of given) ≡ common_name line.name → IsPrivatePkcs1 (key_secret line.key) key → IsSetFor line line b is.issuer
root_set grant given key line b is named private = record {
  grant = grant;
  granted = is.granted;
  given = is.given;
  named = ap (λ (n : DirectoryName). name (sets_of n)) is.named ∙ named;
  private = subst (IsPrivatePkcs1 (key_secret line.key)) (sym is.keyed) private;
  has = inl (is.own, refl);
  plain = plain_root is.issuer.self_signed b.inherits b.subject_infos is.own;
}

key_once : (a b : List ℕ) → views.SubjectKeyIdentifier a ≡ views.SubjectKeyIdentifier b → a ≡ b
key_once a b e = cc

identified_as : (line : Line) (parent : KeptCertificate) (after : Option (List ℕ)) → IsForLine line parent
    → IsIdentifiedBy (extensions_in parent.certificate.tbs_certificate.extensions) None after → after ≡ Some (key_id_of line.key)
identified_as line parent after of (inl (none, same)) = absurd (none_is_first CE_SUBJECT_KEY_IDENTIFIER.now _ _ none of.identified)
identified_as line parent after of (inr (key, first, same)) =
    same ∙ ap Some (key_once key (key_id_of line.key) (first_once CE_SUBJECT_KEY_IDENTIFIER.now _ _ _ first of.identified))

pub child_set : (grant : Grant) (given : DirectoryName) (own : PublicKey) (private : PrivateKey) (key : PrivateKey) (parent : KeptCertificate)
    (signer line : Line) (b : CertificateBuilder)
    (is : IsChildBuilder grant (subjects.Named given own) false key parent b)
    → IsForLine signer parent → name (sets_of given) ≡ common_name line.name → AreLineKeys line.key private (info_of own)
    → IsPrivatePkcs1 (key_secret signer.key) key → IsSetFor signer line b is.issuer
child_set grant given own private key parent signer line b is of named keys signs = record {
  grant = grant;
  granted = is.for.granted;
  given = is.given;
  named = ap name is.named ∙ of.named;
  private = subst (IsPrivatePkcs1 (key_secret signer.key)) (sym is.keyed) signs;
  has = inr (
    is.other,
    record {
      authority = identified_as signer parent b.authority_key_identifier of is.identified;
      given = given;
      own = own;
      is = is.for.given;
      named = named;
      private = private;
      keys = keys;
    },
  );
  plain = plain_child is.issuer.self_signed b.inherits b.subject_infos is.for.inherited;
}

-- ---- the subject and the authority

-- the name and the keys of the subject
pub record IsOfLine (line : Line) (subject : DerElement) (info : SubjectPublicKeyInfo) : Type 0 where
  pub named : subject ≡ common_name line.name
  pub private : PrivateKey
  pub keys : AreLineKeys line.key private info

module _ (signer line : Line) (b : CertificateBuilder) (issuer : IssuerInfos) (set : IsSetFor signer line b issuer) where
  subject_by : (sets : List (List AttributeTypeAndValue)) (info : SubjectPublicKeyInfo) → HasSubject signer line b issuer
      → IsSubjectBy demo_verdict issuer.self_signed issuer b.authority_key_identifier b.subject_infos sets info → IsOfLine line (name sets) info
  subject_by sets info (inl (own, same)) subject =
      let by = subst (λ (s : Bool). IsSubjectBy demo_verdict s issuer b.authority_key_identifier b.subject_infos sets info) own subject in
      record {
        named = ap name by.0 ∙ set.named ∙ ap (λ (l : Line). common_name l.name) same;
        private = issuer.key.now;
        keys = record { private = subst (λ (l : Line). IsPrivatePkcs1 (key_secret l.key) issuer.key.now) same set.private; public = by.1 };
      }
  subject_by sets info (inr (other, to)) subject =
      let first = subst (λ (s : Bool). IsSubjectBy demo_verdict s issuer b.authority_key_identifier b.subject_infos sets info) other subject in
      let second = subst (λ (a : Option (List ℕ)). IsSubjectBy demo_verdict false issuer a b.subject_infos sets info) to.authority first in
      let by = subst (λ (s : Option SubjectInfos). IsGivenSubject demo_verdict s sets info) to.is second in
      record { named = ap name by.0 ∙ to.named; private = to.private; keys = subst (AreLineKeys line.key to.private) (sym by.1) to.keys }

  pub subject_is : (sets : List (List AttributeTypeAndValue)) (info : SubjectPublicKeyInfo)
      → IsSubjectBy demo_verdict issuer.self_signed issuer b.authority_key_identifier b.subject_infos sets info → IsOfLine line (name sets) info
  subject_is sets info = subject_by sets info set.has

  authority_by : (own : List ℕ) → HasSubject signer line b issuer → own ≡ key_id_of line.key
      → authority_of issuer.self_signed b.authority_key_identifier own ≡ key_id_of signer.key
  authority_by own (inl (self, same)) e = ap (λ (s : Bool). authority_of s b.authority_key_identifier own) self ∙ e
      ∙ ap (λ (l : Line). key_id_of l.key) (sym same)
  authority_by own (inr (other, to)) e =
      ap (λ (s : Bool). authority_of s b.authority_key_identifier own) other ∙ ap (λ (a : Option (List ℕ)). authority_of false a own) to.authority

  pub authority_is : (own : List ℕ) → own ≡ key_id_of line.key → authority_of issuer.self_signed b.authority_key_identifier own ≡ key_id_of signer.key
  authority_is own = authority_by own set.has

  pub own_is : (info : SubjectPublicKeyInfo) (own : List ℕ) (subject : DerElement) → IsOfLine line subject info → IsKeyIdentifier b.key_id_gen_method info own
      → own ≡ key_id_of line.key
  own_is info own subject of identified =
      identifier_is (line.key ∷ []) of.private info own of.keys (subst (λ (m : KeyIdGenMethod). IsKeyIdentifier m info own) set.granted.method identified)
