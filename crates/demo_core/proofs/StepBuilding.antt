-- The certificate that is built for a step is the step's, and is refused for memory alone.
use Rattle.std.proofs.Common.{◌≡◌, ℕ, ◌+◌, ◌<◌, List, [], ◌∷◌, ◌++◌, sym, ap, subst, ◌∙◌, arith}
use Rattle.der_core.specs.DerElement.{DerElement, Primitive}
use Rattle.der_core.specs.Elements.{bit_octets, sequence}
use Rattle.der_core.specs.Encoding.{encoding}
use Rattle.asn1_types.specs.Calendar.{IsUtcYear}
use Rattle.asn1_types.specs.Elements.{bit_string}
use Rattle.asn1_types.specs.Values.{payload_of}
use Rattle.asn1_types.specs.declared.oids.TheConstants.{SHA256_WITH_RSA_ENCRYPTION}
use Rattle.key_types.specs.AlgorithmIdentifier.{algorithm_identifier}
use Rattle.sig_core.specs.DemoScheme.{demo_verdict}
use Rattle.key_core.specs.SignatureAlgorithm.{IsWrittenAlgorithm}
use Rattle.key_core.specs.Verifying.{Accepts}
use Rattle.key_core.specs.declared.signature_algorithm.SignatureAlgorithm.{SignatureAlgorithm}
use Rattle.x509_types.specs.Certificate.{certificate}
use Rattle.x509_types.specs.TbsCertificate.{tbs_certificate}
use Rattle.x509_types.specs.declared.certificate.Certificate.{Certificate}
use Rattle.x509_types.specs.declared.certificate.tbs_certificate.TbsCertificate.{TbsCertificate}
use Rattle.x509_core.specs.OwnedCertificate.{written_elements}
use Rattle.x509_issuing.specs.BuiltCertificate.{IsTbsFor}
use Rattle.x509_issuing.specs.Building.{IsSignedCertificate, message_of, tbs_written}
use Rattle.x509_issuing.specs.declared.builder.CertificateBuilder.{CertificateBuilder}
use Rattle.x509_issuing.specs.declared.builder.IssuerInfos.{IssuerInfos}
use Rattle.demo_core.specs.Builders.{IsStepBuilder}
use Rattle.key_core.specs.SmallKeys.{demo_pair, with_null}
use Rattle.demo_core.specs.Certificates.{authority_identifier, own_identifier, signature_under, signer_of}
use Rattle.demo_core.specs.Certificates.{step_certificate, step_constraints, step_rsa_key, step_tbs}
use Rattle.der_core.specs.Size.{AreSmall}
use Rattle.demo_core.specs.declared.history.Step.{Step}
use Rattle.demo_core.specs.Secrets.{step_modulus}
use Rattle.demo_core.proofs.Smallness.{elements_small}
use Rattle.demo_core.proofs.StepInner.{inner_is}
use Rattle.key_core.proofs.SmallKeys.{keys_pair, signature_is}
use Rattle.demo_core.proofs.StepSubjects.{four_octets}
use Rattle.demo_core.proofs.StepParts.{algorithm_is}
use Rattle.demo_core.proofs.StepTbs.{tbs_is}

-- what is written for the TBSCertificate is small
pub tbs_small : (index : ℕ) (step : Step) (b : CertificateBuilder) (issuer : IssuerInfos) (tbs : TbsCertificate) → index < 255
    → signer_of index step.issuer < 255
    → IsUtcYear step.years.first → IsUtcYear step.years.last → IsStepBuilder index step b issuer → IsTbsFor demo_verdict b issuer (index + 1) tbs
    → AreSmall (tbs_written tbs)
tbs_small index step b issuer tbs small small_signer first last set built_for =
    let signer = signer_of index step.issuer in
    let all = elements_small index signer step (omega (arith, small)) (omega (arith, small_signer)) in
    let same : tbs_written tbs ≡ step_rsa_key index ∷ step_constraints step ∷ own_identifier index ∷ authority_identifier signer
    ∷ step_tbs index signer step ∷ [] =
    ap (λ (i : List DerElement). i ++ tbs_certificate tbs ∷ []) (inner_is index step b issuer tbs set built_for)
    ∙ ap (λ (t : DerElement). step_rsa_key index ∷ step_constraints step ∷ own_identifier index ∷ authority_identifier signer ∷ t ∷ [])
    (tbs_is index step b issuer tbs small first last set built_for) in
    subst AreSmall (sym same) (all.0, (all.1.1.0, (all.1.1.1.0, (all.1.1.1.1.0, (all.1.1.1.1.1.0, tt)))))

-- the signed certificate is the step's
pub certificate_is : (index : ℕ) (step : Step) (b : CertificateBuilder) (issuer : IssuerInfos) (c : Certificate) → index < 255
    → IsUtcYear step.years.first → IsUtcYear step.years.last → IsStepBuilder index step b issuer
    → IsSignedCertificate demo_verdict demo_pair b.signature_hash_type issuer.key.now (IsTbsFor demo_verdict b issuer (index + 1)) c
    → certificate c ≡ step_certificate index step
certificate_is index step b issuer c small first last set made =
    let signer = signer_of index step.issuer in
    let tbs = tbs_is index step b issuer c.tbs_certificate small first last set made.tbs in
    let written : IsWrittenAlgorithm _ c.tbs_certificate.signature =
    subst (λ (a : SignatureAlgorithm). IsWrittenAlgorithm a c.tbs_certificate.signature) set.algorithm made.tbs.by.issued_by.signs in
    let algorithm = ap algorithm_identifier made.beside ∙ algorithm_is c.tbs_certificate.signature written in
    let accepted =
    subst (λ (a : SignatureAlgorithm). Accepts demo_verdict a set.public (message_of c.tbs_certificate) (payload_of c.signature_value)) set.algorithm
    (made.accepted set.public (keys_pair (step_modulus signer) (four_octets signer) issuer.key.now set.public set.keys)) in
    let signature : payload_of c.signature_value ≡ signature_under signer (encoding (step_tbs index signer step)) =
    signature_is (step_modulus signer) issuer.key.now set.public (message_of c.tbs_certificate) (payload_of c.signature_value) set.keys accepted
    ∙ ap (λ (t : DerElement). signature_under signer (encoding t)) tbs in
    let bits : bit_string c.signature_value ≡ bit_octets (signature_under signer (encoding (step_tbs index signer step))) =
    ap (λ (u : ℕ). Primitive 0x03 (u ∷ payload_of c.signature_value)) made.unused ∙ ap (λ (p : List ℕ). bit_octets p) signature in
    ap (λ (t : DerElement). sequence (t ∷ algorithm_identifier c.signature_algorithm ∷ bit_string c.signature_value ∷ [])) tbs
    ∙ ap (λ (a : DerElement). sequence (step_tbs index signer step ∷ a ∷ bit_string c.signature_value ∷ [])) algorithm
    ∙ ap (λ (s : DerElement). sequence (step_tbs index signer step ∷ with_null SHA256_WITH_RSA_ENCRYPTION.now ∷ s ∷ [])) bits

-- what is written for the certificate is small
pub certificate_small : (index : ℕ) (step : Step) (b : CertificateBuilder) (issuer : IssuerInfos) (c : Certificate) → index < 255
    → signer_of index step.issuer < 255
    → IsUtcYear step.years.first → IsUtcYear step.years.last → IsStepBuilder index step b issuer
    → IsSignedCertificate demo_verdict demo_pair b.signature_hash_type issuer.key.now (IsTbsFor demo_verdict b issuer (index + 1)) c
    → AreSmall (written_elements c)
certificate_small index step b issuer c small small_signer first last set made =
    let signer = signer_of index step.issuer in
    let all = elements_small index signer step (omega (arith, small)) (omega (arith, small_signer)) in
    let same : written_elements c ≡ step_rsa_key index ∷ step_constraints step ∷ own_identifier index ∷ authority_identifier signer
    ∷ step_certificate index step ∷ [] =
    ap (λ (i : List DerElement). i ++ certificate c ∷ []) (inner_is index step b issuer c.tbs_certificate set made.tbs)
    ∙ ap (λ (t : DerElement). step_rsa_key index ∷ step_constraints step ∷ own_identifier index ∷ authority_identifier signer ∷ t ∷ [])
    (certificate_is index step b issuer c small first last set made) in
    subst AreSmall (sym same) (all.0, (all.1.1.0, (all.1.1.1.0, (all.1.1.1.1.0, (all.1.1.1.1.1.1.0, tt)))))
