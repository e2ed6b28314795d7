-- What is written for the certificate of a line is small.
use Rattle.std.proofs.Common.{◌≡◌, Bool, true, false, ◌==◌, if◌then◌else◌, ℕ, ◌<◌, ◌≤◌, List, []}
use Rattle.std.proofs.Common.{◌∷◌, ◌++◌, length, Option, Some, None, sym, ap, subst, ◌∙◌, arith}
use Rattle.std.specs.Option.{option_map}
use Rattle.der_core.specs.DerElement.{DerElement}
use Rattle.der_core.specs.Elements.{sequence}
use Rattle.der_core.specs.Encoding.{nesting}
use Rattle.der_core.specs.Optional.{inner_option}
use Rattle.asn1_types.specs.Elements.{bit_string, integer_of}
use Rattle.asn1_types.specs.Values.{integer_contents, payload_of}
use Rattle.asn1_types.specs.declared.oids.TheConstants.{SHA256_WITH_RSA_ENCRYPTION}
use Rattle.key_types.specs.AlgorithmIdentifier.{algorithm_identifier}
use Rattle.key_types.specs.PublicKeyInfo.{inner_key, public_key_info}
use Rattle.key_types.specs.declared.subject_key.SubjectKey.{SubjectKey}
use Rattle.key_core.specs.SignatureAlgorithm.{IsWrittenAlgorithm}
use Rattle.key_core.specs.Verifying.{Accepts}
use Rattle.key_core.specs.declared.signature_algorithm.SignatureAlgorithm.{SignatureAlgorithm}
use Rattle.name_types.specs.Name.{name}
use Rattle.ca_register.specs.Lines.{Line}
use Rattle.sig_core.specs.DemoScheme.{demo_verdict}
use Rattle.x509_types.specs.Certificate.{certificate}
use Rattle.x509_types.specs.TbsCertificate.{extensions, inner_extensions, inner_tbs, tbs_certificate}
use Rattle.x509_types.specs.TbsElements.{tbs_of}
use Rattle.x509_types.specs.Validity.{validity}
use Rattle.x509_types.specs.Version.{version}
use Rattle.x509_types.specs.declared.certificate.Certificate.{Certificate}
use Rattle.x509_types.specs.declared.certificate.tbs_certificate.TbsCertificate.{TbsCertificate}
use Rattle.x509_types.specs.declared.certificate.validity.Validity.{Validity}
use Rattle.x509_types.specs.declared.extension.Extension.{Extension}
use Rattle.x509_core.specs.OwnedCertificate.{written_elements}
use Rattle.x509_issuing.specs.BuiltCertificate.{IsTbsFor, authority_of, serial_of}
use Rattle.x509_issuing.specs.Building.{IsSignedCertificate, message_of, tbs_written}
use Rattle.x509_issuing.specs.Inherited.{with_others}
use Rattle.x509_issuing.specs.declared.builder.CertificateBuilder.{CertificateBuilder}
use Rattle.x509_issuing.specs.declared.builder.IssuerInfos.{IssuerInfos}
use Rattle.ca_register.specs.LineCertificates.{common_name}
use Rattle.key_core.specs.SmallKeys.{with_null}
use Rattle.ca_register.specs.LineKeys.{key_id_of, key_info_of, rsa_key_of}
use Rattle.key_core.specs.SmallKeys.{demo_pair}
use Rattle.key_core.proofs.SmallKeys.{half_of, info_is, keys_pair, rsa_is, signature_length}
use Rattle.key_core.proofs.SmallHalves.{info_beside, keys_beside}
use Rattle.key_core.proofs.SmallRefusals.{key_size, rsa_small}
use Rattle.ca_register.proofs.LineBuilders.{IsOfLine, IsSetFor, authority_is, own_is, subject_is}
use Rattle.ca_register.proofs.LineSubjects.{one_octet}
use Rattle.der_core.specs.Size.{AreSmall, IsSmall, size}
use Rattle.ca_register.proofs.TbsParts.{algorithm_is, authority_identifier, authority_small, constraints_in, constraints_small}
use Rattle.ca_register.proofs.TbsParts.{extensions_are, extensions_size, line_extensions, name_size, own_identifier, own_small}
use Rattle.ca_register.proofs.TbsParts.{plain_flag, serial_length, validity_nested, validity_size, values_are}

abbrev tbs_by : Option DerElement → List ℕ → DerElement → DerElement → DerElement → DerElement → DerElement → Option (List ℕ) → Option (List ℕ)
    → Option DerElement → DerElement
tbs_by v n a i d s k iu su e =
    tbs_of (record {
      version = v;
      serial_number = n;
      signature = a;
      issuer = i;
      validity = d;
      subject = s;
      subject_public_key_info = k;
      issuer_unique_id = iu;
      subject_unique_id = su;
      extensions = e;
    })

-- the TBSCertificate of a line, by its serial number, its validity and its basic constraints
abbrev line_tbs : (signer line : Line) → List ℕ → Validity → DerElement → DerElement
line_tbs signer line serial dates constraints =
    tbs_by (Some (integer_of (2 ∷ []))) serial (with_null SHA256_WITH_RSA_ENCRYPTION.now) (common_name signer.name) (validity dates) (common_name line.name)
    (key_info_of line.key) None None
    (Some (line_extensions line.key signer.key constraints))

pick : (test : Bool) (word : ℕ) → word < 256 → (if test then 1 else word) < 256
pick true word small = omega arith
pick false word small = small

serial_small : (given : Option (List ℕ)) (word : ℕ) → given ≡ None → word < 256 → serial_of given word < 256
serial_small None word none small = pick (word == 0) word small
serial_small (Some octets) word none small = absurd cc

module _ (signer line : Line) (b : CertificateBuilder) (issuer : IssuerInfos) (set : IsSetFor signer line b issuer) (word : ℕ) (tbs : TbsCertificate)
    (built_for : IsTbsFor demo_verdict b issuer word tbs) where
  subject : IsOfLine line (name tbs.subject) tbs.subject_public_key_info
  subject = subject_is signer line b issuer set tbs.subject tbs.subject_public_key_info built_for.issued_to.subject

  pub own : built_for.own ≡ key_id_of line.key
  own = own_is signer line b issuer set tbs.subject_public_key_info built_for.own (name tbs.subject) subject built_for.issued_to.identified

  authority : authority_of issuer.self_signed b.authority_key_identifier built_for.own ≡ key_id_of signer.key
  authority = authority_is signer line b issuer set built_for.own own

  listed : built_for.by.extensions ≡ built_for.by.built.made
  listed = built_for.by.built.are ∙ ap (with_others built_for.by.built.made) set.plain

  extended : option_map extensions tbs.extensions ≡ Some (line_extensions line.key signer.key (constraints_in b.ca b.pathlen))
  extended =
      let built = built_for.by.built in
      ap (option_map extensions) built_for.by.given ∙ ap (λ (x : List Extension). Some (extensions x)) listed
      ∙ ap Some (extensions_are set.grant b set.granted built.critical built_for.own _ built.made built.are_made line.key signer.key own authority
      (plain_flag set.grant b built.critical set.granted built.flagged.0))

  -- ---- what it wraps in strings

  inner_is : inner_tbs tbs ≡ rsa_key_of line.key ∷ constraints_in b.ca b.pathlen ∷ own_identifier line.key ∷ authority_identifier signer.key ∷ []
  inner_is =
      let built = built_for.by.built in
      let half = half_of (line.key ∷ []) subject.private tbs.subject_public_key_info subject.keys in
      ap (λ (k : SubjectKey). inner_key k ++ inner_option inner_extensions tbs.extensions) half.is
      ∙ ap (λ (r : DerElement). r ∷ inner_option inner_extensions tbs.extensions)
      (rsa_is (line.key ∷ []) subject.private tbs.subject_public_key_info subject.keys)
      ∙ ap (λ (e : Option (List Extension)). rsa_key_of line.key ∷ inner_option inner_extensions e) built_for.by.given
      ∙ ap (λ (e : List Extension). rsa_key_of line.key ∷ inner_extensions e) listed
      ∙ ap (λ (i : List DerElement). rsa_key_of line.key ∷ i)
      (values_are set.grant b set.granted built.critical built_for.own _ built.made built.are_made line.key signer.key own authority)

  pub inner_small : (element : DerElement) → IsSmall element → AreSmall (inner_tbs tbs ++ element ∷ [])
  inner_small element small =
      subst (λ (i : List DerElement). AreSmall (i ++ element ∷ [])) (sym inner_is)
      (rsa_small (line.key ∷ []) (one_octet line.key), (constraints_small b.ca b.pathlen, (own_small line.key, (authority_small signer.key, (small, tt)))))

  -- ---- the TBSCertificate

  tbs_is : tbs_certificate tbs ≡ line_tbs signer line (integer_contents tbs.serial_number) tbs.validity (constraints_in b.ca b.pathlen)
  tbs_is =
      let algorithm : algorithm_identifier tbs.signature ≡ with_null SHA256_WITH_RSA_ENCRYPTION.now =
      algorithm_is tbs.signature (subst (λ (a : SignatureAlgorithm). IsWrittenAlgorithm a tbs.signature) set.granted.algorithm built_for.by.issued_by.signs) in
      let issued : name tbs.issuer ≡ common_name signer.name = ap name built_for.by.issued_by.named ∙ set.named in
      let keyed = info_is (line.key ∷ []) subject.private tbs.subject_public_key_info subject.keys in
      ap (λ v. tbs_by v (integer_contents tbs.serial_number) (algorithm_identifier tbs.signature) (name tbs.issuer) (validity tbs.validity)
      (name tbs.subject) (public_key_info tbs.subject_public_key_info) tbs.issuer_unique_id tbs.subject_unique_id (option_map extensions tbs.extensions))
      (ap (option_map version) built_for.by.version)
      ∙ ap (λ a. tbs_by (Some (integer_of (2 ∷ []))) (integer_contents tbs.serial_number) a (name tbs.issuer) (validity tbs.validity) (name tbs.subject)
      (public_key_info tbs.subject_public_key_info) tbs.issuer_unique_id tbs.subject_unique_id (option_map extensions tbs.extensions)) algorithm
      ∙ ap (λ i. tbs_by (Some (integer_of (2 ∷ []))) (integer_contents tbs.serial_number) (with_null SHA256_WITH_RSA_ENCRYPTION.now) i (validity tbs.validity)
      (name tbs.subject) (public_key_info tbs.subject_public_key_info) tbs.issuer_unique_id tbs.subject_unique_id (option_map extensions tbs.extensions)) issued
      ∙ ap (λ s. tbs_by (Some (integer_of (2 ∷ []))) (integer_contents tbs.serial_number) (with_null SHA256_WITH_RSA_ENCRYPTION.now) (common_name signer.name)
      (validity tbs.validity) s (public_key_info tbs.subject_public_key_info) tbs.issuer_unique_id tbs.subject_unique_id (option_map extensions tbs.extensions))
      subject.named
      ∙ ap (λ k. tbs_by (Some (integer_of (2 ∷ []))) (integer_contents tbs.serial_number) (with_null SHA256_WITH_RSA_ENCRYPTION.now) (common_name signer.name)
      (validity tbs.validity) (common_name line.name) k tbs.issuer_unique_id tbs.subject_unique_id (option_map extensions tbs.extensions)) keyed
      ∙ ap (λ u. tbs_by (Some (integer_of (2 ∷ []))) (integer_contents tbs.serial_number) (with_null SHA256_WITH_RSA_ENCRYPTION.now) (common_name signer.name)
      (validity tbs.validity) (common_name line.name) (key_info_of line.key) u tbs.subject_unique_id (option_map extensions tbs.extensions))
      built_for.by.issuer_unique_id
      ∙ ap (λ u. tbs_by (Some (integer_of (2 ∷ []))) (integer_contents tbs.serial_number) (with_null SHA256_WITH_RSA_ENCRYPTION.now) (common_name signer.name)
      (validity tbs.validity) (common_name line.name) (key_info_of line.key) None u (option_map extensions tbs.extensions)) built_for.by.subject_unique_id
      ∙ ap (λ e. tbs_by (Some (integer_of (2 ∷ []))) (integer_contents tbs.serial_number) (with_null SHA256_WITH_RSA_ENCRYPTION.now) (common_name signer.name)
      (validity tbs.validity) (common_name line.name) (key_info_of line.key) None None e) extended

  -- with names of at most 64 octets and a serial number below 256
  module _ (short : length line.name ≤ 64) (short_signer : length signer.name ≤ 64) (small : word < 256) where
    serial : length (integer_contents tbs.serial_number) ≤ 2
    serial = serial_length (serial_of b.serial_number word) (integer_contents tbs.serial_number)
        (serial_small b.serial_number word set.granted.serial_number small) built_for.by.issued_by.numbered

    pub tbs_size : size (tbs_certificate tbs) ≤ 1000
    tbs_size = subst (λ (t : DerElement). size t ≤ 1000) (sym tbs_is)
        (omega (
          arith,
          serial,
          validity_size tbs.validity,
          name_size line.name short,
          name_size signer.name short_signer,
          key_size (line.key ∷ []) (one_octet line.key),
          extensions_size line.key signer.key b.ca b.pathlen,
        ))

    pub tbs_nested : nesting (tbs_certificate tbs) ≤ 10
    tbs_nested = subst (λ (t : DerElement). nesting t ≤ 10) (sym tbs_is) (omega (arith, validity_nested tbs.validity))

    pub tbs_small : AreSmall (tbs_written tbs)
    tbs_small = inner_small (tbs_certificate tbs) (record { nested = omega (arith, tbs_nested); light = omega (arith, tbs_size) })

-- ---- the certificate

module _ (signer line : Line) (b : CertificateBuilder) (issuer : IssuerInfos) (set : IsSetFor signer line b issuer) (word : ℕ) (c : Certificate)
    (made : IsSignedCertificate demo_verdict demo_pair b.signature_hash_type issuer.key.now (IsTbsFor demo_verdict b issuer word) c)
    (short : length line.name ≤ 64) (short_signer : length signer.name ≤ 64) (small : word < 256) where
  signature : length (payload_of c.signature_value) ≡ 32
  signature =
      let public = info_beside issuer.key.now set.private.rsa set.private.container in
      let pair = keys_pair (signer.key ∷ []) (one_octet signer.key) issuer.key.now public (keys_beside (signer.key ∷ []) issuer.key.now set.private) in
      signature_length public (message_of c.tbs_certificate) (payload_of c.signature_value)
      (subst (λ (a : SignatureAlgorithm). Accepts demo_verdict a public (message_of c.tbs_certificate) (payload_of c.signature_value)) set.granted.algorithm
      (made.accepted public pair))

  algorithm : algorithm_identifier c.signature_algorithm ≡ with_null SHA256_WITH_RSA_ENCRYPTION.now
  algorithm =
      ap algorithm_identifier made.beside
      ∙ algorithm_is c.tbs_certificate.signature
      (subst (λ (a : SignatureAlgorithm). IsWrittenAlgorithm a c.tbs_certificate.signature) set.granted.algorithm made.tbs.by.issued_by.signs)

  abbrev Around : DerElement → DerElement
  Around a = sequence (tbs_certificate c.tbs_certificate ∷ a ∷ bit_string c.signature_value ∷ [])

  certificate_one : IsSmall (certificate c)
  certificate_one =
      let tbs = tbs_size signer line b issuer set word c.tbs_certificate made.tbs short short_signer small in
      let levels = tbs_nested signer line b issuer set word c.tbs_certificate made.tbs short short_signer small in
      subst (λ (a : DerElement). IsSmall (Around a)) (sym algorithm) (record { nested = omega (arith, levels); light = omega (arith, tbs, signature) })

  pub certificate_small : AreSmall (written_elements c)
  certificate_small = inner_small signer line b issuer set word c.tbs_certificate made.tbs (certificate c) certificate_one
