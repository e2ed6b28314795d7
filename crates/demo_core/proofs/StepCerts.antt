-- A certificate that is built as a step's is the step's, and has its subject.
use Rattle.std.proofs.Common.{◌≡◌, ℕ, ◌+◌, ◌<◌, List, Option, Some, None, Result, MatchResult, refl, sym, subst, ◌∙◌, arith}
use Rattle.std.proofs.lemmas.Result.{MatchResult-weaker}
use Rattle.std.proofs.Math.Logic.{∥∥₁_elim}
use Rattle.der_core.specs.Facts.Borrowed.{AreDer-prop}
use Rattle.der_core.specs.Borrowed.{AreDer}
use Rattle.asn1_types.specs.declared.oids.TheConstants.{CE_SUBJECT_KEY_IDENTIFIER}
use Rattle.sig_core.specs.DemoScheme.{demo_verdict}
use Rattle.key_core.specs.KeyIdentifier.{IsKeyIdentifier}
use Rattle.key_core.specs.Signing.{arithmetic}
use Rattle.key_core.specs.declared.key_id.KeyIdGenMethod.{KeyIdGenMethod}
use Rattle.x509_types.specs.Certificate.{IsCertificate, certificate, inner_certificate}
use Rattle.x509_types.specs.CertificateElements.{AreCertificateFields, CertificateElements, certificate_of}
use Rattle.x509_types.specs.ExtensionParts.{HasSubjectKey}
use Rattle.x509_types.specs.Facts.Certificates.{certificates}
use Rattle.x509_types.specs.FirstOfValue.{extensions_in}
use Rattle.x509_types.specs.declared.extension.Extension.{Extension}
use Rattle.x509_types.specs.declared.extension.view.ExtensionView.TheVariants as views
use Rattle.x509_core.specs.Facts.CertificateParts.{parts_once, spelled_by}
use Rattle.x509_core.specs.FirstValue.{HasFirst}
use Rattle.x509_core.specs.OwnedCertificate.{KeptCertificate}
use Rattle.x509_core.specs.declared.error.CertError.{CertError}
use Rattle.x509_core.specs.declared.error.CertError.TheVariants as errors
use Rattle.x509_core.proofs.Alike.{say_the_same}
use Rattle.x509_core.proofs.Validity.{same_some}
use Rattle.x509_issuing.specs.BuiltCertificate.{IsTbsFor}
use Rattle.der_core.specs.Steps.{RefusesBySteps}
use Rattle.x509_issuing.specs.Building.{IsBuilt, IsMade, build_steps}
use Rattle.x509_issuing.specs.declared.builder.CertificateBuilder.{CertificateBuilder}
use Rattle.x509_issuing.specs.declared.builder.IssuerInfos.{IssuerInfos}
use Rattle.x509_issuing.proofs.WantedExtensions.{built_key}
use Rattle.demo_core.specs.Builders.{IsStepBuilder}
use Rattle.demo_core.specs.Certificates.{signer_of, step_key_id}
use Rattle.demo_core.specs.History.{IsStepAt}
use Rattle.demo_core.specs.Issuing.{IsStepCert}
use Rattle.key_core.specs.SmallKeys.{demo_pair, signs_by_demo}
use Rattle.demo_core.specs.declared.history.Step.{Step}
use Rattle.demo_core.specs.Secrets.{step_modulus}
use Rattle.demo_core.proofs.StepBuilding.{certificate_is}
use Rattle.key_core.proofs.SmallKeys.{identifier_is}
use Rattle.demo_core.proofs.StepRefusals.{built_or_memory}
use Rattle.demo_core.proofs.StepTbs.{subject_is}

-- the fields of a certificate that is stored as it is written
fields_of : (cert : KeptCertificate) → certificate_of cert.elements ≡ certificate cert.certificate → AreCertificateFields cert.elements cert.certificate
fields_of cert written =
    let inner : AreDer (inner_certificate cert.certificate) =
    ∥∥₁_elim cert.spelled (AreDer-prop (inner_certificate cert.certificate))
    (λ are. certificates.bounded (certificate_of cert.elements) cert.certificate (spelled_by cert.elements cert.certificate are)) in
    let spelled : IsCertificate (certificate cert.certificate) cert.certificate = certificates.spelled cert.certificate inner in
    subst (λ (f : CertificateElements). AreCertificateFields f cert.certificate) (parts_once spelled.elements cert.elements (sym spelled.is ∙ sym written))
    spelled.spelled

-- its subject key identifier is the generated one
has_own : (index : ℕ) (b : CertificateBuilder) (issuer : IssuerInfos) (word : ℕ) (cert : KeptCertificate)
    → certificate_of cert.elements ≡ certificate cert.certificate
    → (tbs : IsTbsFor demo_verdict b issuer word cert.certificate.tbs_certificate) → tbs.own ≡ step_key_id index
    → HasSubjectKey cert.elements (step_key_id index)
has_own index b issuer word cert written tbs own =
    let first = built_key b issuer _ _ tbs.by.extensions tbs.by.built in
    let held = subst (λ (o : Option (List Extension)). HasFirst CE_SUBJECT_KEY_IDENTIFIER.now (extensions_in o) (views.SubjectKeyIdentifier tbs.own))
    (sym tbs.by.given) first in
    subst (HasSubjectKey cert.elements) own (((say_the_same cert.elements cert.certificate (fields_of cert written)).subject_key tbs.own).1 held)

made_is : (index : ℕ) (step : Step) (b : CertificateBuilder) (issuer : IssuerInfos) (cert : KeptCertificate) → index < 255 → IsStepAt index step
    → IsStepBuilder index step b issuer
    → IsMade (arithmetic demo_verdict signs_by_demo demo_pair) b.signature_hash_type issuer.key.now (IsTbsFor demo_verdict b issuer (index + 1)) cert
    → IsStepCert index step cert
made_is index step b issuer cert small at set made =
    let tbs = made.made.tbs in
    let value = cert.certificate.tbs_certificate in
    let subject =
    subject_is index step.issuer b issuer value.subject value.subject_public_key_info set.subject set.named set.keys.private tbs.issued_to.subject in
    let own : tbs.own ≡ step_key_id index =
    identifier_is (step_modulus index) subject.private value.subject_public_key_info tbs.own subject.keys
    (subst (λ (m : KeyIdGenMethod). IsKeyIdentifier m value.subject_public_key_info tbs.own) set.method tbs.issued_to.identified) in
    record {
      is = made.written ∙ certificate_is index step b issuer cert.certificate small at.begins at.ends set made.made;
      subject = record {
        named = subject.named;
        private = subject.private;
        keys = subject.keys;
        identified = has_own index b issuer (index + 1) cert made.written tbs own;
      };
    }

pub built_is : (index : ℕ) (step : Step) (b : CertificateBuilder) (issuer : IssuerInfos) (cert : KeptCertificate) → index < 255 → IsStepAt index step
    → IsStepBuilder index step b issuer
    → IsBuilt (arithmetic demo_verdict signs_by_demo demo_pair) b (index + 1) cert → IsStepCert index step cert
built_is index step b issuer cert small at set is =
    let same : is.issuer ≡ issuer = same_some is.issuer issuer (sym is.given ∙ set.given) in
    made_is index step b issuer cert small at set
    (subst (λ (i : IssuerInfos). IsMade (arithmetic demo_verdict signs_by_demo demo_pair) b.signature_hash_type i.key.now
    (IsTbsFor demo_verdict b i (index + 1)) cert) same is.made)

signer_small : (index : ℕ) (issuer : Option ℕ) → index < 255 → ((at : ℕ) → issuer ≡ Some at → at < index) → signer_of index issuer < 255
signer_small index None small earlier = small
signer_small index (Some issuer) small earlier = omega (arith, earlier issuer refl)

-- what is returned for the builder of a step
pub answer_is : (index : ℕ) (step : Step) (b : CertificateBuilder) (issuer : IssuerInfos) (r : Result KeptCertificate CertError) → index < 255
    → IsStepAt index step → IsStepBuilder index step b issuer
    → MatchResult r (IsBuilt (arithmetic demo_verdict signs_by_demo demo_pair) b (index + 1))
    (RefusesBySteps errors.Memory (build_steps (arithmetic demo_verdict signs_by_demo demo_pair) b (index + 1)))
    → MatchResult r (IsStepCert index step) (λ e. e ≡ errors.Memory)
answer_is index step b issuer r small at set answer =
    MatchResult-weaker r answer (λ cert built. built_is index step b issuer cert small at set built)
    (λ e refuses. built_or_memory index step b issuer e small (signer_small index step.issuer small at.earlier) at.begins at.ends set refuses)
