-- The certificate of a line is refused for memory alone, and is for the line.
use Rattle.std.proofs.Common.{◌≡◌, inl, inr, Bool, true, false, ℕ, ◌<◌, ◌≤◌, ◌==◌, if◌then◌else◌, List}
use Rattle.std.proofs.Common.{[], ◌∷◌, ◌++◌, length, Option, Some, None, refl, sym, ap, subst, ◌∙◌, arith}
use Rattle.std.specs.Prelude.{⊤}
use Rattle.std.proofs.lemmas.Bool.{eqb-true}
use Rattle.der_core.specs.Steps.{IsFirstUntaken, Step}
use Rattle.asn1_types.specs.Integer.{IsUnsignedInteger}
use Rattle.asn1_types.specs.Values.{integer_contents}
use Rattle.asn1_types.specs.declared.oids.TheConstants.{CE_SUBJECT_KEY_IDENTIFIER}
use Rattle.sig_core.specs.DemoScheme.{demo_verdict}
use Rattle.sig_core.specs.declared.hash.HashAlgorithm.TheVariants.{SHA2_256}
use Rattle.key_core.specs.KeyIdentifier.{RefusesKeyIdentifier}
use Rattle.key_core.specs.PrivatePkcs1.{IsPrivatePkcs1}
use Rattle.key_core.specs.SignatureAlgorithm.{IsUnwritable}
use Rattle.key_core.specs.SignatureRules.{RefusesSignatureBy}
use Rattle.key_core.specs.Signing.{sign_rules}
use Rattle.key_core.specs.declared.element.Element.TheVariants as elements
use Rattle.key_core.specs.declared.key_id.KeyIdGenMethod.{KeyIdGenMethod}
use Rattle.key_core.specs.declared.public_key.PublicKey.{PublicKey}
use Rattle.key_core.specs.declared.signature_algorithm.SignatureAlgorithm.{SignatureAlgorithm}
use Rattle.key_core.specs.declared.signature_algorithm.SignatureAlgorithm.TheVariants.{RsaPkcs1v15}
use Rattle.key_core.specs.declared.signature_error.SignatureError.{SignatureError}
use Rattle.key_core.specs.declared.signature_error.SignatureError.TheVariants as signature_errors
use Rattle.names_core.specs.declared.name.DirectoryName.{DirectoryName}
use Rattle.ca_register.specs.Lines.{Line}
use Rattle.x509_types.specs.FirstOfValue.{extensions_in}
use Rattle.x509_types.specs.declared.extension.Extension.{Extension}
use Rattle.x509_types.specs.declared.extension.view.ExtensionView.TheVariants as views
use Rattle.x509_core.specs.CertRefusals.{unwritten}
use Rattle.x509_core.specs.FirstValue.{HasFirst}
use Rattle.x509_core.specs.OwnedCertificate.{KeptCertificate, written_elements}
use Rattle.x509_core.specs.Link.{signature_refusal}
use Rattle.x509_core.specs.declared.error.CertError.{CertError}
use Rattle.x509_core.specs.declared.error.CertError.TheVariants as errors
use Rattle.x509_core.proofs.Validity.{same_some}
use Rattle.x509_issuing.specs.BuildRefusals.{no_half, no_key_id, no_octets, no_signature}
use Rattle.x509_issuing.specs.BuiltCertificate.{IsTbsFor, serial_of}
use Rattle.x509_issuing.specs.Building.{IsBuilt, IsMade, algorithm_step, build_steps, given_steps, identifier_step, message_of}
use Rattle.x509_issuing.specs.Building.{octets_step, signature_step, steps_by, subject_steps, tbs_written, whole_step}
use Rattle.x509_issuing.specs.OwnedRequest.{KeptRequest}
use Rattle.x509_issuing.specs.declared.builder.CertificateBuilder.{CertificateBuilder}
use Rattle.x509_issuing.specs.declared.builder.IssuerInfos.{IssuerInfos}
use Rattle.x509_issuing.specs.declared.builder.SubjectInfos.{SubjectInfos}
use Rattle.x509_issuing.specs.declared.builder.SubjectInfos.TheVariants as subjects
use Rattle.x509_issuing.proofs.WantedExtensions.{built_key}
use Rattle.ca_register.specs.Granting.{IsGranted}
use Rattle.ca_register.specs.LineCertificates.{IsForLine}
use Rattle.ca_register.specs.LineKeys.{key_secret}
use Rattle.ca_register.specs.declared.entry.Grant.{Grant}
use Rattle.key_core.specs.SmallKeys.{demo_arithmetic, signs_by_demo}
use Rattle.key_core.proofs.SmallRefusals.{half_or_memory, identifier_or_memory, signature_or_memory}
use Rattle.ca_register.proofs.LineSubjects.{one_octet}
use Rattle.ca_register.proofs.LineBuilders.{HasSubject, IsSetFor, subject_is}
use Rattle.der_core.proofs.Sizes.{only_memory}
use Rattle.ca_register.proofs.TbsSizes.{certificate_small, own, tbs_small}

-- each step is refused for memory alone
abbrev AreSure : List (Step CertError) → Type 0
AreSure [] = ⊤
AreSure (step ∷ steps) = ((e : CertError) → step.refused e → e ≡ errors.Memory) × AreSure steps

sure : (steps : List (Step CertError)) (e : CertError) → AreSure steps → IsFirstUntaken steps e → e ≡ errors.Memory
sure [] e are untaken = absurd untaken
sure (step ∷ steps) e are (inl refused) = are.0 e refused
sure (step ∷ steps) e are (inr (taken, later)) = sure steps e are.1 later

is_given : {X : Type 0} (o : Option X) (x : X) → o ≡ Some x → o ≡ None → ⊥
is_given o x e none = absurd cc

not_both : (given : DirectoryName) (own : PublicKey) (csr : KeptRequest) (o : Option SubjectInfos) → o ≡ Some (subjects.Named given own)
    → o ≡ Some (subjects.Request csr) → ⊥
not_both given own csr o named requested = absurd cc

some_none : {x : List ℕ} → Some x ≡ None → ⊥
some_none e = absurd cc

algorithm_or_memory : (source : SignatureError) → IsUnwritable (RsaPkcs1v15 SHA2_256) source → source ≡ signature_errors.Memory
algorithm_or_memory source (inl none) = absurd (some_none none.0)
algorithm_or_memory source (inr memory) = memory

-- the subject's steps, by whether the signer is the subject
subjects_sure : (signer line : Line) (b : CertificateBuilder) (issuer : IssuerInfos) (later : List (Step CertError))
    → HasSubject signer line b issuer → IsPrivatePkcs1 (key_secret signer.key) issuer.key.now → AreSure later
    → AreSure (subject_steps demo_verdict issuer.self_signed b issuer ++ later)
subjects_sure signer line b issuer later (inl (self, same)) key are =
    subst (λ (s : Bool). AreSure (subject_steps demo_verdict s b issuer ++ later)) (sym self)
    ((λ e refused. refused.1 ∙ ap no_half (half_or_memory (signer.key ∷ []) issuer.key.now refused.0 key refused.2)), are)
subjects_sure signer line b issuer later (inr (other, to)) key are =
    subst (λ (s : Bool). AreSure (subject_steps demo_verdict s b issuer ++ later)) (sym other) (
      (λ e refused. absurd (is_given b.authority_key_identifier _ to.authority refused.0)),
      (
        (λ e refused. absurd (is_given b.subject_infos _ to.is refused.0)),
        ((λ e refused. absurd (not_both _ _ _ b.subject_infos to.is refused.1)), are),
      ),
    )

module _ (signer line : Line) (b : CertificateBuilder) (issuer : IssuerInfos) (set : IsSetFor signer line b issuer) (word : ℕ) (small : word < 256)
    (short : length line.name ≤ 64) (short_signer : length signer.name ≤ 64) where
  all_sure : AreSure (build_steps demo_arithmetic b word)
  all_sure =
      let identifier : (x : CertError) → (identifier_step demo_verdict b issuer).refused x → x ≡ errors.Memory =
      λ x (named, info, subject, (source, is, refused)).
      let of = subject_is signer line b issuer set named info subject in
      is ∙ ap no_key_id (identifier_or_memory (line.key ∷ []) (one_octet line.key) of.private info source of.keys
      (subst (λ (m : KeyIdGenMethod). RefusesKeyIdentifier m info source) set.granted.method refused)) in
      let algorithm : (x : CertError) → (algorithm_step b).refused x → x ≡ errors.Memory =
      λ x (source, is, refused). is
      ∙ ap signature_refusal (algorithm_or_memory source (subst (λ (a : SignatureAlgorithm). IsUnwritable a source) set.granted.algorithm refused)) in
      let octets : (x : CertError) → (octets_step demo_arithmetic b.signature_hash_type issuer.key.now (IsTbsFor demo_verdict b issuer word)).refused x
      → x ≡ errors.Memory =
      λ x (tbs, of, (source, is, refused)). is
      ∙ ap no_octets (only_memory (tbs_written tbs) source (tbs_small signer line b issuer set word tbs of short short_signer small) refused) in
      let signature : (x : CertError) → (signature_step demo_arithmetic b.signature_hash_type issuer.key.now (IsTbsFor demo_verdict b issuer word)).refused x
      → x ≡ errors.Memory =
      λ x (tbs, of, (source, is, refused)). is
      ∙ ap no_signature (signature_or_memory (signer.key ∷ []) (one_octet signer.key) issuer.key.now (message_of tbs) source set.private
      (subst (λ (a : SignatureAlgorithm). RefusesSignatureBy (sign_rules signs_by_demo a issuer.key.now (message_of tbs)) source)
      set.granted.algorithm refused)) in
      let whole : (x : CertError) → (whole_step demo_arithmetic b.signature_hash_type issuer.key.now (IsTbsFor demo_verdict b issuer word)).refused x
      → x ≡ errors.Memory =
      λ x (c, of, (source, is, refused)). is ∙ ap (unwritten elements.Certificate)
      (only_memory (written_elements c) source (certificate_small signer line b issuer set word c of short short_signer small) refused) in
      let later : AreSure (steps_by demo_arithmetic b word (Some issuer)) =
      subjects_sure signer line b issuer _ set.has set.private
      (identifier, (algorithm, (octets, (signature, (whole, tt))))) in
      subst (λ (o : Option IssuerInfos). AreSure (given_steps b ++ steps_by demo_arithmetic b word o)) (sym set.given) (
        (λ x refused. absurd (is_given b.valid_from set.grant.from set.granted.begins refused.0)),
        (
          (λ x refused. absurd (is_given b.valid_to set.grant.to set.granted.ends refused.0)),
          ((λ x refused. absurd (is_given b.issuer_infos issuer set.given refused.0)), later),
        ),
      )

  pub untaken_for_memory : (e : CertError) → IsFirstUntaken (build_steps demo_arithmetic b word) e → e ≡ errors.Memory
  untaken_for_memory e untaken = sure (build_steps demo_arithmetic b word) e all_sure untaken

-- ---- what is built

module _ (signer line : Line) (b : CertificateBuilder) (issuer : IssuerInfos) (set : IsSetFor signer line b issuer) (word : ℕ) (cert : KeptCertificate) where
  made_for : IsMade demo_arithmetic b.signature_hash_type issuer.key.now (IsTbsFor demo_verdict b issuer word) cert → IsForLine line cert
  made_for made =
      let tbs = made.made.tbs in
      let value = cert.certificate.tbs_certificate in
      let subject = subject_is signer line b issuer set value.subject value.subject_public_key_info tbs.issued_to.subject in
      let first = built_key b issuer _ _ tbs.by.extensions tbs.by.built in
      let held = subst (λ (o : Option (List Extension)). HasFirst CE_SUBJECT_KEY_IDENTIFIER.now (extensions_in o) (views.SubjectKeyIdentifier tbs.own))
      (sym tbs.by.given) first in
      record {
        named = subject.named;
        private = subject.private;
        keys = subject.keys;
        identified = subst (λ (k : List ℕ). HasFirst CE_SUBJECT_KEY_IDENTIFIER.now (extensions_in value.extensions) (views.SubjectKeyIdentifier k))
            (own signer line b issuer set word value tbs) held;
      }

  pub built_for : IsBuilt demo_arithmetic b word cert → IsForLine line cert
  built_for is =
      let same : is.issuer ≡ issuer = same_some is.issuer issuer (sym is.given ∙ set.given) in
      made_for (subst (λ (i : IssuerInfos). IsMade demo_arithmetic b.signature_hash_type i.key.now (IsTbsFor demo_verdict b i word) cert) same is.made)

-- its serial number is the word, unless that is 0
pick : (test : Bool) (word : ℕ) → (word == 0) ≡ test → 0 < word → (if test then 1 else word) ≡ word
pick true word e some = absurd (omega (arith, eqb-true word 0 e, some))
pick false word e some = refl

word_is : (given : Option (List ℕ)) (word : ℕ) → given ≡ None → 0 < word → serial_of given word ≡ word
word_is None word none some = pick (word == 0) word refl some
word_is (Some octets) word none some = absurd cc

pub numbered : (grant : Grant) (b : CertificateBuilder) (word : ℕ) (cert : KeptCertificate) → IsGranted grant b → 0 < word → IsBuilt demo_arithmetic b word cert
    → IsUnsignedInteger word (integer_contents cert.certificate.tbs_certificate.serial_number)
numbered grant b word cert granted some is =
    subst (λ (n : ℕ). IsUnsignedInteger n (integer_contents cert.certificate.tbs_certificate.serial_number))
    (word_is b.serial_number word granted.serial_number some)
    is.made.made.tbs.by.issued_by.numbered
