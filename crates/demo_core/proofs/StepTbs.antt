-- The TBSCertificate that is built for a step is the step's.
use Rattle.std.proofs.Common.{◌≡◌, Bool, true, false, IsTrue, ap₂, ◌==◌, if◌then◌else◌, ℕ, ◌+◌, ◌<◌}
use Rattle.std.proofs.Common.{List, [], ◌∷◌, ◌++◌, Option, Some, None, refl, sym, ap, subst, ◌∙◌, arith}
use Rattle.std.proofs.lemmas.Bool.{eqb-true}
use Rattle.std.specs.Option.{option_map}
use Rattle.der_core.specs.DerElement.{DerElement}
use Rattle.der_core.specs.Default.{default_false}
use Rattle.der_core.specs.Elements.{octet_string, sequence}
use Rattle.der_core.specs.Encoding.{encoding}
use Rattle.asn1_types.specs.Calendar.{IsUtcYear}
use Rattle.asn1_types.specs.Elements.{integer_of, object_identifier_of}
use Rattle.asn1_types.specs.Integer.{IsUnsignedInteger}
use Rattle.asn1_types.specs.Values.{integer_contents}
use Rattle.asn1_types.specs.declared.generalized_time.GeneralizedTime.{GeneralizedTime}
use Rattle.asn1_types.specs.declared.oids.TheConstants.{CE_AUTHORITY_KEY_IDENTIFIER, CE_BASIC_CONSTRAINTS, CE_SUBJECT_KEY_IDENTIFIER, CE_KEY_USAGE}
use Rattle.asn1_types.specs.declared.oids.TheConstants.{CE_EXT_KEY_USAGE, CE_SUBJECT_ALT_NAME, CE_ISSUER_ALT_NAME, SHA256_WITH_RSA_ENCRYPTION}
use Rattle.extension_types.specs.AuthorityKeyIdentifier.{key_of_identifier}
use Rattle.extension_types.specs.BasicConstraints.{constraints_with}
use Rattle.key_types.specs.AlgorithmIdentifier.{algorithm_identifier}
use Rattle.key_types.specs.PublicKeyInfo.{public_key_info}
use Rattle.key_types.specs.declared.key_info.SubjectPublicKeyInfo.{SubjectPublicKeyInfo}
use Rattle.name_types.specs.Name.{name}
use Rattle.name_types.specs.declared.attribute.AttributeTypeAndValue.{AttributeTypeAndValue}
use Rattle.names_core.specs.Names.{sets_of}
use Rattle.key_core.specs.PrivatePkcs1.{IsPrivatePkcs1}
use Rattle.sig_core.specs.DemoScheme.{demo_verdict}
use Rattle.key_core.specs.KeyIdentifier.{IsKeyIdentifier}
use Rattle.key_core.specs.SignatureAlgorithm.{IsWrittenAlgorithm}
use Rattle.key_core.specs.declared.key_id.KeyIdGenMethod.{KeyIdGenMethod}
use Rattle.key_core.specs.declared.private_key.PrivateKey.{PrivateKey}
use Rattle.key_core.specs.declared.signature_algorithm.SignatureAlgorithm.{SignatureAlgorithm}
use Rattle.x509_types.specs.Extension.{extension}
use Rattle.x509_types.specs.ExtensionView.{value_octets}
use Rattle.x509_types.specs.TbsCertificate.{extensions, tbs_certificate}
use Rattle.x509_types.specs.TbsElements.{tbs_of}
use Rattle.x509_types.specs.Validity.{validity}
use Rattle.x509_types.specs.Version.{version}
use Rattle.x509_types.specs.declared.certificate.tbs_certificate.TbsCertificate.{TbsCertificate}
use Rattle.x509_types.specs.declared.extension.Extension.{Extension}
use Rattle.x509_types.specs.declared.extension.view.ExtensionView.{ExtensionView}
use Rattle.x509_types.specs.declared.extension.view.ExtensionView.TheVariants as views
use Rattle.x509_issuing.specs.BuiltCertificate.{IsGivenSubject, IsSubjectBy, IsTbsFor, authority_of, serial_of}
use Rattle.x509_issuing.specs.MadeExtensions.{AreWanted, IsForSignatures, IsWantedExtension, WantedExtension}
use Rattle.x509_issuing.specs.MadeExtensions.{constraints_of, inherited, wanted, wanted_keys, where_given}
use Rattle.x509_issuing.specs.Inherited.{with_others}
use Rattle.x509_issuing.specs.declared.builder.CertificateBuilder.{CertificateBuilder}
use Rattle.x509_issuing.specs.declared.builder.IssuerInfos.{IssuerInfos}
use Rattle.x509_issuing.specs.declared.builder.SubjectInfos.{SubjectInfos}
use Rattle.demo_core.specs.Builders.{HasSubject, IsStepBuilder, IsYearGiven}
use Rattle.key_core.specs.SmallKeys.{with_null}
use Rattle.demo_core.specs.Certificates.{authority_identifier, extension_of, own_identifier, signer_of, small_contents}
use Rattle.demo_core.specs.Certificates.{step_constraints, step_extensions, step_key, step_key_id, step_name, step_tbs, year_time}
use Rattle.demo_core.specs.Secrets.{AreStepKeys, step_modulus, step_secret}
use Rattle.demo_core.specs.declared.history.Step.{Step}
use Rattle.key_core.proofs.SmallKeys.{identifier_is, info_is}
use Rattle.demo_core.proofs.StepParts.{algorithm_is, serial_is, time_is}

-- ---- the subject and the issuer

year_is : (year : ℕ) (given : Option GeneralizedTime) (date : GeneralizedTime) → IsYearGiven year given → given ≡ Some date
    → IsYearGiven year (Some date)
year_is year given date is e = subst (IsYearGiven year) e is

-- the keys of the subject
pub record IsOfStep (index : ℕ) (subject : DerElement) (info : SubjectPublicKeyInfo) : Type 0 where
  pub named : subject ≡ step_name index
  pub private : PrivateKey
  pub keys : AreStepKeys index private info

pub subject_is : (index : ℕ) (step_issuer : Option ℕ) (b : CertificateBuilder) (issuer : IssuerInfos)
    (sets : List (List AttributeTypeAndValue)) (info : SubjectPublicKeyInfo) → HasSubject index step_issuer b issuer
    → name (sets_of issuer.name) ≡ step_name (signer_of index step_issuer) → IsPrivatePkcs1 (step_secret (signer_of index step_issuer)) issuer.key.now
    → IsSubjectBy demo_verdict issuer.self_signed issuer b.authority_key_identifier b.subject_infos sets info → IsOfStep index (name sets) info
subject_is index None b issuer sets info self named key subject =
    let by = subst (λ (s : Bool). IsSubjectBy demo_verdict s issuer b.authority_key_identifier b.subject_infos sets info) self subject in
    record { named = ap name by.0 ∙ named; private = issuer.key.now; keys = record { private = key; public = by.1 } }
subject_is index (Some signer) b issuer sets info (other, to) named key subject =
    let first = subst (λ (s : Bool). IsSubjectBy demo_verdict s issuer b.authority_key_identifier b.subject_infos sets info) other subject in
    let second = subst (λ (a : Option (List ℕ)). IsSubjectBy demo_verdict false issuer a b.subject_infos sets info) to.authority first in
    let by = subst (λ (s : Option SubjectInfos). IsGivenSubject demo_verdict s sets info) to.subject second in
    record { named = ap name by.0 ∙ to.named; private = to.private; keys = subst (AreStepKeys index to.private) (sym by.1) to.keys }

pub authority_is : (index : ℕ) (step_issuer : Option ℕ) (b : CertificateBuilder) (issuer : IssuerInfos) (own : List ℕ) → HasSubject index step_issuer b issuer
    → own ≡ step_key_id index → authority_of issuer.self_signed b.authority_key_identifier own ≡ step_key_id (signer_of index step_issuer)
authority_is index None b issuer own self e = ap (λ (s : Bool). authority_of s b.authority_key_identifier own) self ∙ e
authority_is index (Some signer) b issuer own (other, to) e =
    ap (λ (s : Bool). authority_of s b.authority_key_identifier own) other ∙ ap (λ (a : Option (List ℕ)). authority_of false a own) to.authority

-- ---- the extensions

pub none_inherited : (self_signed : Bool) (subject : Option SubjectInfos) → inherited self_signed false subject ≡ []
none_inherited true subject = refl
none_inherited false subject = refl

pub not_critical : (critical : Bool) → (IsTrue critical → ⊥) → critical ≡ false
not_critical true never = absurd (never refl)
not_critical false never = refl

extension_is : (oid : List ℕ) (critical : Bool) (view : ExtensionView) (e : Extension)
    → IsWantedExtension (record { oid = oid; critical = critical; value = view }) e
    → critical ≡ false → extension e ≡ sequence (object_identifier_of oid ∷ octet_string (value_octets view) ∷ [])
extension_is oid critical view e is plain =
    ap (λ (o : List ℕ). sequence (object_identifier_of o ∷ (default_false e.critical ++ octet_string (value_octets e.extn_value) ∷ []))) is.named
    ∙ ap (λ (c : Bool). sequence (object_identifier_of oid ∷ (default_false c ++ octet_string (value_octets e.extn_value) ∷ []))) (is.flagged ∙ plain)
    ∙ ap (λ (v : ExtensionView). sequence (object_identifier_of oid ∷ octet_string (value_octets v) ∷ [])) is.valued

pub wanted_is : (index : ℕ) (step : Step) (b : CertificateBuilder) (issuer : IssuerInfos) (critical : Bool) (own authority : List ℕ)
    → IsStepBuilder index step b issuer
    → wanted b critical own authority ≡ record { oid = CE_BASIC_CONSTRAINTS.now; critical = critical; value = constraints_of b } ∷ wanted_keys own authority
wanted_is index step b issuer critical own authority set =
    let basic : WantedExtension = record { oid = CE_BASIC_CONSTRAINTS.now; critical = critical; value = constraints_of b } in
    let usage = ap (where_given CE_KEY_USAGE.now true views.KeyUsage) set.key_usage in
    let purposes = ap (where_given CE_EXT_KEY_USAGE.now false views.ExtendedKeyUsage) set.extended_key_usage in
    let subject = ap (where_given CE_SUBJECT_ALT_NAME.now false views.SubjectAltName) set.subject_alt_name in
    let issuers = ap (where_given CE_ISSUER_ALT_NAME.now false views.IssuerAltName) set.issuer_alt_name in
    let uses = ap₂ (λ (x y : List WantedExtension). x ++ y) usage purposes in
    let names = ap₂ (λ (x y : List WantedExtension). x ++ y) subject issuers in
    ap₂ (λ (x y : List WantedExtension). basic ∷ (x ++ (y ++ wanted_keys own authority))) uses names

-- The extensions are three, the wanted ones.
pub record AreThree (a b c : WantedExtension) (made : List Extension) : Type 0 where
  pub first : Extension
  pub second : Extension
  pub third : Extension
  pub are : made ≡ first ∷ second ∷ third ∷ []
  pub is_first : IsWantedExtension a first
  pub is_second : IsWantedExtension b second
  pub is_third : IsWantedExtension c third

pub three : (a b c : WantedExtension) (made : List Extension) → AreWanted (a ∷ b ∷ c ∷ []) made → AreThree a b c made
three a b c [] are = absurd are
three a b c (x ∷ []) are = absurd are.1
three a b c (x ∷ y ∷ []) are = absurd are.1.1
three a b c (x ∷ y ∷ z ∷ []) are =
    record { first = x; second = y; third = z; are = refl; is_first = are.0; is_second = are.1.0; is_third = are.1.1.0 }
three a b c (x ∷ y ∷ z ∷ v ∷ more) are = absurd are.1.1.1

constraints_is : (step : Step) (b : CertificateBuilder) → b.ca ≡ step.ca → b.pathlen ≡ step.path_length
    → value_octets (constraints_of b) ≡ encoding (step_constraints step)
constraints_is step b ca pathlen =
    ap (λ (c : Bool). value_octets (views.BasicConstraints (constraints_with (Some c) b.pathlen))) ca
    ∙ ap (λ (l : Option ℕ). value_octets (views.BasicConstraints (constraints_with (Some step.ca) l))) pathlen

extensions_are : (index signer : ℕ) (step : Step) (b : CertificateBuilder) (issuer : IssuerInfos) (critical : Bool) (own authority : List ℕ)
    (made : List Extension)
    → IsStepBuilder index step b issuer → critical ≡ false → own ≡ step_key_id index → authority ≡ step_key_id signer
    → AreWanted (wanted b critical own authority) made → extensions made ≡ step_extensions index signer step
extensions_are index signer step b issuer critical own authority made set plain own_is by made_are =
    let basic : WantedExtension = record { oid = CE_BASIC_CONSTRAINTS.now; critical = critical; value = constraints_of b } in
    let are =
    three basic _ _ made (subst (λ (w : List WantedExtension). AreWanted w made) (wanted_is index step b issuer critical own authority set) made_are) in
    let one : extension are.first ≡ extension_of CE_BASIC_CONSTRAINTS.now (step_constraints step) =
    extension_is CE_BASIC_CONSTRAINTS.now critical (constraints_of b) are.first are.is_first plain
    ∙ ap (λ (o : List ℕ). sequence (object_identifier_of CE_BASIC_CONSTRAINTS.now ∷ octet_string o ∷ [])) (constraints_is step b set.ca set.path_length) in
    let two : extension are.second ≡ extension_of CE_SUBJECT_KEY_IDENTIFIER.now (own_identifier index) =
    extension_is CE_SUBJECT_KEY_IDENTIFIER.now false (views.SubjectKeyIdentifier own) are.second are.is_second refl
    ∙ ap (λ (k : List ℕ). sequence (object_identifier_of CE_SUBJECT_KEY_IDENTIFIER.now ∷ octet_string (value_octets (views.SubjectKeyIdentifier k)) ∷ []))
    own_is in
    let more : extension are.third ≡ extension_of CE_AUTHORITY_KEY_IDENTIFIER.now (authority_identifier signer) =
    extension_is CE_AUTHORITY_KEY_IDENTIFIER.now false (views.AuthorityKeyIdentifier (key_of_identifier authority)) are.third are.is_third refl
    ∙ ap (λ (k : List ℕ). sequence (object_identifier_of CE_AUTHORITY_KEY_IDENTIFIER.now
    ∷ octet_string (value_octets (views.AuthorityKeyIdentifier (key_of_identifier k))) ∷ [])) by in
    ap extensions are.are
    ∙ ap (λ (x : DerElement). sequence (x ∷ extension are.second ∷ extension are.third ∷ [])) one
    ∙ ap (λ (x : DerElement). sequence (extension_of CE_BASIC_CONSTRAINTS.now (step_constraints step) ∷ x ∷ extension are.third ∷ [])) two
    ∙ ap (λ (x : DerElement).
    sequence (extension_of CE_BASIC_CONSTRAINTS.now (step_constraints step) ∷ extension_of CE_SUBJECT_KEY_IDENTIFIER.now (own_identifier index) ∷ x ∷ [])) more

-- ---- the whole

abbrev tbs_by : Option DerElement → List ℕ → DerElement → DerElement → DerElement → DerElement → DerElement → Option (List ℕ) → Option (List ℕ)
    → Option DerElement → DerElement
tbs_by v n a i d s k iu su e =
    tbs_of (record {
      version = v;
      serial_number = n;
      signature = a;
      issuer = i;
      validity = d;
      subject = s;
      subject_public_key_info = k;
      issuer_unique_id = iu;
      subject_unique_id = su;
      extensions = e;
    })

pick : (test : Bool) (word : ℕ) → (word + 1 == 0) ≡ test → (if test then 1 else word + 1) ≡ word + 1
pick true word e = absurd (omega (arith, eqb-true (word + 1) 0 e))
pick false word e = refl

numbered : (word : ℕ) → serial_of None (word + 1) ≡ word + 1
numbered word = pick (word + 1 == 0) word refl

pub tbs_is : (index : ℕ) (step : Step) (b : CertificateBuilder) (issuer : IssuerInfos) (tbs : TbsCertificate) → index < 255
    → IsUtcYear step.years.first → IsUtcYear step.years.last → IsStepBuilder index step b issuer → IsTbsFor demo_verdict b issuer (index + 1) tbs
    → tbs_certificate tbs ≡ step_tbs index (signer_of index step.issuer) step
tbs_is index step b issuer tbs small first_year last_year set built_for =
    let signer = signer_of index step.issuer in
    let subject =
    subject_is index step.issuer b issuer tbs.subject tbs.subject_public_key_info set.subject set.named set.keys.private built_for.issued_to.subject in
    let own : built_for.own ≡ step_key_id index =
    identifier_is (step_modulus index) subject.private tbs.subject_public_key_info built_for.own subject.keys
    (subst (λ (m : KeyIdGenMethod). IsKeyIdentifier m tbs.subject_public_key_info built_for.own) set.method built_for.issued_to.identified) in
    let authority = authority_is index step.issuer b issuer built_for.own set.subject own in
    let built = built_for.by.built in
    let plain : built.critical ≡ false = not_critical built.critical (λ t. subst IsForSignatures set.key_usage (built.flagged.0 t)) in
    let none : inherited issuer.self_signed b.inherits b.subject_infos ≡ [] =
    ap (λ (i : Bool). inherited issuer.self_signed i b.subject_infos) set.inherits ∙ none_inherited issuer.self_signed b.subject_infos in
    let listed : built_for.by.extensions ≡ built.made = built.are ∙ ap (with_others built.made) none in
    let extended : option_map extensions tbs.extensions ≡ Some (step_extensions index signer step) =
    ap (option_map extensions) built_for.by.given ∙ ap (λ (x : List Extension). Some (extensions x)) listed
    ∙ ap Some (extensions_are index signer step b issuer built.critical built_for.own _ built.made set plain own authority built.are_made) in
    let serial : integer_contents tbs.serial_number ≡ small_contents (index + 1) =
    serial_is (index + 1) (integer_contents tbs.serial_number) (omega (arith, small))
    (subst (λ (n : ℕ). IsUnsignedInteger n (integer_contents tbs.serial_number))
    (ap (λ (o : Option (List ℕ)). serial_of o (index + 1)) set.serial_number ∙ numbered index) built_for.by.issued_by.numbered) in
    let algorithm : algorithm_identifier tbs.signature ≡ with_null SHA256_WITH_RSA_ENCRYPTION.now =
    algorithm_is tbs.signature (subst (λ (a : SignatureAlgorithm). IsWrittenAlgorithm a tbs.signature) set.algorithm built_for.by.issued_by.signs) in
    let issued : name tbs.issuer ≡ step_name signer = ap name built_for.by.issued_by.named ∙ set.named in
    let begins = time_is step.years.first built_for.from tbs.validity.not_before first_year
    (year_is step.years.first b.valid_from built_for.from set.begins built_for.valid_from) built_for.validity.begins in
    let ends = time_is step.years.last built_for.to tbs.validity.not_after last_year
    (year_is step.years.last b.valid_to built_for.to set.ends built_for.valid_to) built_for.validity.ends in
    let valid : validity tbs.validity ≡ sequence (year_time step.years.first ∷ year_time step.years.last ∷ []) =
    ap₂ (λ (x y : DerElement). sequence (x ∷ y ∷ [])) begins ends in
    let keyed = info_is (step_modulus index) subject.private tbs.subject_public_key_info subject.keys in
    ap (λ v. tbs_by v (integer_contents tbs.serial_number) (algorithm_identifier tbs.signature) (name tbs.issuer) (validity tbs.validity)
    (name tbs.subject) (public_key_info tbs.subject_public_key_info) tbs.issuer_unique_id tbs.subject_unique_id (option_map extensions tbs.extensions))
    (ap (option_map version) built_for.by.version)
    ∙ ap (λ n. tbs_by (Some (integer_of (2 ∷ []))) n (algorithm_identifier tbs.signature) (name tbs.issuer) (validity tbs.validity) (name tbs.subject)
    (public_key_info tbs.subject_public_key_info) tbs.issuer_unique_id tbs.subject_unique_id (option_map extensions tbs.extensions)) serial
    ∙ ap (λ a. tbs_by (Some (integer_of (2 ∷ []))) (small_contents (index + 1)) a (name tbs.issuer) (validity tbs.validity) (name tbs.subject)
    (public_key_info tbs.subject_public_key_info) tbs.issuer_unique_id tbs.subject_unique_id (option_map extensions tbs.extensions)) algorithm
    ∙ ap (λ i. tbs_by (Some (integer_of (2 ∷ []))) (small_contents (index + 1)) (with_null SHA256_WITH_RSA_ENCRYPTION.now) i (validity tbs.validity)
    (name tbs.subject) (public_key_info tbs.subject_public_key_info) tbs.issuer_unique_id tbs.subject_unique_id (option_map extensions tbs.extensions)) issued
    ∙ ap (λ d. tbs_by (Some (integer_of (2 ∷ []))) (small_contents (index + 1)) (with_null SHA256_WITH_RSA_ENCRYPTION.now) (step_name signer) d
    (name tbs.subject) (public_key_info tbs.subject_public_key_info) tbs.issuer_unique_id tbs.subject_unique_id (option_map extensions tbs.extensions)) valid
    ∙ ap (λ s. tbs_by (Some (integer_of (2 ∷ []))) (small_contents (index + 1)) (with_null SHA256_WITH_RSA_ENCRYPTION.now) (step_name signer)
    (sequence (year_time step.years.first ∷ year_time step.years.last ∷ [])) s (public_key_info tbs.subject_public_key_info)
    tbs.issuer_unique_id tbs.subject_unique_id (option_map extensions tbs.extensions)) subject.named
    ∙ ap (λ k. tbs_by (Some (integer_of (2 ∷ []))) (small_contents (index + 1)) (with_null SHA256_WITH_RSA_ENCRYPTION.now) (step_name signer)
    (sequence (year_time step.years.first ∷ year_time step.years.last ∷ [])) (step_name index) k tbs.issuer_unique_id tbs.subject_unique_id
    (option_map extensions tbs.extensions)) keyed
    ∙ ap (λ u. tbs_by (Some (integer_of (2 ∷ []))) (small_contents (index + 1)) (with_null SHA256_WITH_RSA_ENCRYPTION.now) (step_name signer)
    (sequence (year_time step.years.first ∷ year_time step.years.last ∷ [])) (step_name index) (step_key index) u tbs.subject_unique_id
    (option_map extensions tbs.extensions)) built_for.by.issuer_unique_id
    ∙ ap (λ u. tbs_by (Some (integer_of (2 ∷ []))) (small_contents (index + 1)) (with_null SHA256_WITH_RSA_ENCRYPTION.now) (step_name signer)
    (sequence (year_time step.years.first ∷ year_time step.years.last ∷ [])) (step_name index) (step_key index) None u (option_map extensions tbs.extensions))
    built_for.by.subject_unique_id
    ∙ ap (λ e. tbs_by (Some (integer_of (2 ∷ []))) (small_contents (index + 1)) (with_null SHA256_WITH_RSA_ENCRYPTION.now) (step_name signer)
    (sequence (year_time step.years.first ∷ year_time step.years.last ∷ [])) (step_name index) (step_key index) None None e) extended
