-- What the TBSCertificate of a step wraps in strings is determined by its builder.
use Rattle.std.proofs.Common.{◌≡◌, Bool, ℕ, ◌+◌, List, [], ◌∷◌, ◌++◌, Option, Some, ap, subst, ◌∙◌}
use Rattle.der_core.specs.DerElement.{DerElement}
use Rattle.der_core.specs.Optional.{inner_option}
use Rattle.extension_types.specs.AuthorityKeyIdentifier.{key_of_identifier}
use Rattle.extension_types.specs.BasicConstraints.{constraints_with}
use Rattle.key_types.specs.PublicKeyInfo.{inner_key}
use Rattle.key_types.specs.declared.subject_key.SubjectKey.{SubjectKey}
use Rattle.sig_core.specs.DemoScheme.{demo_verdict}
use Rattle.asn1_types.specs.declared.oids.TheConstants.{CE_BASIC_CONSTRAINTS}
use Rattle.key_core.specs.KeyIdentifier.{IsKeyIdentifier}
use Rattle.key_core.specs.declared.key_id.KeyIdGenMethod.{KeyIdGenMethod}
use Rattle.x509_types.specs.ExtensionView.{inner_value}
use Rattle.x509_types.specs.TbsCertificate.{inner_extensions, inner_tbs}
use Rattle.x509_types.specs.declared.certificate.tbs_certificate.TbsCertificate.{TbsCertificate}
use Rattle.x509_types.specs.declared.extension.Extension.{Extension}
use Rattle.x509_types.specs.declared.extension.view.ExtensionView.{ExtensionView}
use Rattle.x509_types.specs.declared.extension.view.ExtensionView.TheVariants as views
use Rattle.x509_issuing.specs.BuiltCertificate.{IsTbsFor}
use Rattle.x509_issuing.specs.Inherited.{with_others}
use Rattle.x509_issuing.specs.MadeExtensions.{AreWanted, WantedExtension, constraints_of, inherited, wanted}
use Rattle.x509_issuing.specs.declared.builder.CertificateBuilder.{CertificateBuilder}
use Rattle.x509_issuing.specs.declared.builder.IssuerInfos.{IssuerInfos}
use Rattle.demo_core.specs.Builders.{IsStepBuilder}
use Rattle.demo_core.specs.Certificates.{authority_identifier, own_identifier, signer_of, step_constraints, step_key_id, step_rsa_key}
use Rattle.demo_core.specs.declared.history.Step.{Step}
use Rattle.demo_core.specs.Secrets.{step_modulus}
use Rattle.key_core.proofs.SmallKeys.{half_of, identifier_is, rsa_is}
use Rattle.demo_core.proofs.StepTbs.{authority_is, none_inherited, subject_is, three, wanted_is}

values_are : (index signer : ℕ) (step : Step) (b : CertificateBuilder) (issuer : IssuerInfos) (critical : Bool) (own authority : List ℕ) (made : List Extension)
    → IsStepBuilder index step b issuer → own ≡ step_key_id index → authority ≡ step_key_id signer
    → AreWanted (wanted b critical own authority) made → inner_extensions made ≡ step_constraints step ∷ own_identifier index ∷ authority_identifier signer ∷ []
values_are index signer step b issuer critical own authority made set own_is by made_are =
    let basic : WantedExtension = record { oid = CE_BASIC_CONSTRAINTS.now; critical = critical; value = constraints_of b } in
    let are =
    three basic _ _ made (subst (λ (w : List WantedExtension). AreWanted w made) (wanted_is index step b issuer critical own authority set) made_are) in
    let constraints : constraints_of b ≡ views.BasicConstraints (constraints_with (Some step.ca) step.path_length) =
    ap (λ (c : Bool). views.BasicConstraints (constraints_with (Some c) b.pathlen)) set.ca
    ∙ ap (λ (l : Option ℕ). views.BasicConstraints (constraints_with (Some step.ca) l)) set.path_length in
    let one = are.is_first.valued ∙ constraints in
    let two = are.is_second.valued ∙ ap views.SubjectKeyIdentifier own_is in
    let more = are.is_third.valued ∙ ap (λ (k : List ℕ). views.AuthorityKeyIdentifier (key_of_identifier k)) by in
    ap inner_extensions are.are
    ∙ ap (λ (v : ExtensionView). inner_value v ++ (inner_value are.second.extn_value ++ (inner_value are.third.extn_value ++ []))) one
    ∙ ap (λ (v : ExtensionView). step_constraints step ∷ (inner_value v ++ (inner_value are.third.extn_value ++ []))) two
    ∙ ap (λ (v : ExtensionView). step_constraints step ∷ own_identifier index ∷ (inner_value v ++ [])) more

pub inner_is : (index : ℕ) (step : Step) (b : CertificateBuilder) (issuer : IssuerInfos) (tbs : TbsCertificate)
    → IsStepBuilder index step b issuer → IsTbsFor demo_verdict b issuer (index + 1) tbs
    → inner_tbs tbs ≡ step_rsa_key index ∷ step_constraints step ∷ own_identifier index ∷ authority_identifier (signer_of index step.issuer) ∷ []
inner_is index step b issuer tbs set built_for =
    let subject =
    subject_is index step.issuer b issuer tbs.subject tbs.subject_public_key_info set.subject set.named set.keys.private built_for.issued_to.subject in
    let own : built_for.own ≡ step_key_id index =
    identifier_is (step_modulus index) subject.private tbs.subject_public_key_info built_for.own subject.keys
    (subst (λ (m : KeyIdGenMethod). IsKeyIdentifier m tbs.subject_public_key_info built_for.own) set.method built_for.issued_to.identified) in
    let authority = authority_is index step.issuer b issuer built_for.own set.subject own in
    let built = built_for.by.built in
    let none : inherited issuer.self_signed b.inherits b.subject_infos ≡ [] =
    ap (λ (i : Bool). inherited issuer.self_signed i b.subject_infos) set.inherits ∙ none_inherited issuer.self_signed b.subject_infos in
    let listed : built_for.by.extensions ≡ built.made = built.are ∙ ap (with_others built.made) none in
    let values = values_are index (signer_of index step.issuer) step b issuer built.critical built_for.own _ built.made set own authority built.are_made in
    let half = half_of (step_modulus index) subject.private tbs.subject_public_key_info subject.keys in
    ap (λ (k : SubjectKey). inner_key k ++ inner_option inner_extensions tbs.extensions) half.is
    ∙ ap (λ (r : DerElement). r ∷ inner_option inner_extensions tbs.extensions)
    (rsa_is (step_modulus index) subject.private tbs.subject_public_key_info subject.keys)
    ∙ ap (λ (e : Option (List Extension)). step_rsa_key index ∷ inner_option inner_extensions e) built_for.by.given
    ∙ ap (λ (e : List Extension). step_rsa_key index ∷ inner_extensions e) listed
    ∙ ap (λ (i : List DerElement). step_rsa_key index ∷ i) values
