-- The parts of a line's TBSCertificate: what they are, or how large they are at most.
use Rattle.std.proofs.Common.{◌≡◌, Bool, true, false, IsTrue, nat_lt, if◌then◌else◌, ℕ, ◌+◌, ◌*◌, ◌<◌, ◌≤◌, List}
use Rattle.std.proofs.Common.{[], ◌∷◌, ◌++◌, length, Option, Some, None, refl, sym, ap, ap₂, subst, ◌∙◌, arith}
use Rattle.sha2.proofs.Facts256.{length-sha256}
use Rattle.der_core.specs.Default.{default_false}
use Rattle.der_core.specs.DerElement.{DerElement}
use Rattle.der_core.specs.Elements.{octet_string, sequence}
use Rattle.der_core.specs.Encoding.{encoding, nesting}
use Rattle.der_core.specs.Head.{number_from}
use Rattle.der_core.specs.BorrowedOption.{kept_option}
use Rattle.asn1_types.specs.Elements.{object_identifier_of, time}
use Rattle.asn1_types.specs.Integer.{IsUnsignedInteger}
use Rattle.asn1_types.specs.declared.oids.TheConstants.{CE_AUTHORITY_KEY_IDENTIFIER, CE_BASIC_CONSTRAINTS, CE_SUBJECT_KEY_IDENTIFIER, CE_KEY_USAGE}
use Rattle.asn1_types.specs.declared.oids.TheConstants.{CE_EXT_KEY_USAGE, CE_SUBJECT_ALT_NAME, CE_ISSUER_ALT_NAME, SHA256_WITH_RSA_ENCRYPTION}
use Rattle.asn1_types.specs.declared.time.Time.{Time}
use Rattle.asn1_types.specs.declared.time.Time.TheVariants as times
use Rattle.extension_types.specs.AuthorityKeyIdentifier.{authority_key_of, key_of_identifier}
use Rattle.extension_types.specs.BasicConstraints.{basic_constraints, constraints_with}
use Rattle.key_types.specs.AlgorithmIdentifier.{algorithm_of, algorithm_identifier}
use Rattle.key_types.specs.declared.algorithm.AlgorithmIdentifier.{AlgorithmIdentifier}
use Rattle.key_core.specs.SignatureAlgorithm.{IsWrittenAlgorithm}
use Rattle.key_core.specs.declared.signature_algorithm.SignatureAlgorithm.TheVariants.{RsaPkcs1v15}
use Rattle.sig_core.specs.declared.hash.HashAlgorithm.TheVariants.{SHA2_256}
use Rattle.x509_types.specs.Extension.{extension}
use Rattle.x509_types.specs.ExtensionView.{inner_value, value_octets}
use Rattle.x509_types.specs.TbsCertificate.{extensions, inner_extensions}
use Rattle.x509_types.specs.Validity.{validity}
use Rattle.x509_types.specs.declared.certificate.validity.Validity.{Validity}
use Rattle.x509_types.specs.declared.extension.Extension.{Extension}
use Rattle.x509_types.specs.declared.extension.view.ExtensionView.{ExtensionView}
use Rattle.x509_types.specs.declared.extension.view.ExtensionView.TheVariants as views
use Rattle.x509_issuing.specs.MadeExtensions.{AreWanted, IsForSignatures, IsWantedExtension, WantedExtension, constraints_of, wanted, wanted_keys, where_given}
use Rattle.x509_issuing.specs.declared.builder.CertificateBuilder.{CertificateBuilder}
use Rattle.ca_register.specs.Granting.{IsGranted}
use Rattle.ca_register.specs.LineCertificates.{common_name}
use Rattle.key_core.specs.SmallKeys.{with_null}
use Rattle.ca_register.specs.LineKeys.{key_id_of, key_info_of}
use Rattle.ca_register.specs.declared.entry.Grant.{Grant}
use Rattle.der_core.specs.Size.{IsSmall, size}
use Rattle.der_core.proofs.Sizes.{within_size}

-- ---- the serial number

grows : (number : ℕ) (octets : List ℕ) → number ≤ number_from number octets
grows number [] = omega arith
grows number (octet ∷ octets) = omega (arith, grows (number * 256 + octet) octets)

pub serial_length : (number : ℕ) (contents : List ℕ) → number < 256 → IsUnsignedInteger number contents → length contents ≤ 2
serial_length number [] small is = omega arith
serial_length number (octet ∷ []) small is = omega arith
serial_length number (first ∷ second ∷ []) small is = omega arith
serial_length number (first ∷ second ∷ third ∷ octets) small is =
    let start : ℕ = ((0 * 256 + first) * 256 + second) * 256 + third in
    let total : number_from start octets ≡ number = is.same_number in
    let most : start ≤ number_from start octets = grows start octets in
    let zero_first : first ≡ 0 = omega (arith, total, most, small) in
    let zero_second : second ≡ 0 = omega (arith, total, most, small) in
    absurd (is.shortest.0 (zero_first, omega (arith, zero_second)))

-- ---- the validity

time_size : (t : Time) → size (time t) ≤ 30
time_size (times.Utc moment) = omega arith
time_size (times.Generalized moment) = omega arith

pub validity_size : (value : Validity) → size (validity value) ≤ 70
validity_size value = omega (arith, time_size value.not_before, time_size value.not_after)

time_nested : (t : Time) → nesting (time t) ≤ 1
time_nested (times.Utc moment) = omega arith
time_nested (times.Generalized moment) = omega arith

pub validity_nested : (value : Validity) → nesting (validity value) ≤ 2
validity_nested value = omega (arith, time_nested value.not_before, time_nested value.not_after)

-- ---- names and keys

pub name_size : (text : List ℕ) → length text ≤ 64 → size (common_name text) ≤ 120
name_size text short = omega (arith, short)

-- ---- the algorithm

some_once : (a b : List ℕ) → Some a ≡ Some b → a ≡ b
some_once a b e = cc

pub algorithm_is : (id : AlgorithmIdentifier) → IsWrittenAlgorithm (RsaPkcs1v15 SHA2_256) id
    → algorithm_identifier id ≡ with_null SHA256_WITH_RSA_ENCRYPTION.now
algorithm_is id is =
    ap (λ (c : List ℕ). algorithm_of (object_identifier_of c) (kept_option id.parameters)) (sym (some_once _ _ is.identifier))
    ∙ ap (λ (p : Option DerElement). algorithm_of (object_identifier_of SHA256_WITH_RSA_ENCRYPTION.now) p) is.parameters

-- ---- the extensions

-- an extension that isn't critical, by its OID and its value (RFC 5280 4.1)
abbrev pub extension_of : List ℕ → DerElement → DerElement
extension_of oid value = sequence (object_identifier_of oid ∷ octet_string (encoding value) ∷ [])

-- their values (RFC 5280 4.2.1.9, 4.2.1.2, 4.2.1.1)
abbrev pub constraints_in : Bool → Option ℕ → DerElement
constraints_in ca path_length = basic_constraints (constraints_with (Some ca) path_length)

abbrev pub own_identifier : ℕ → DerElement
own_identifier key = octet_string (key_id_of key)

abbrev pub authority_identifier : ℕ → DerElement
authority_identifier signer = authority_key_of (Some (key_id_of signer)) None None

abbrev pub line_extensions : (key signer : ℕ) → DerElement → DerElement
line_extensions key signer constraints =
    sequence (extension_of CE_BASIC_CONSTRAINTS.now constraints ∷
    extension_of CE_SUBJECT_KEY_IDENTIFIER.now (own_identifier key) ∷
    extension_of CE_AUTHORITY_KEY_IDENTIFIER.now (authority_identifier signer) ∷ [])

not_critical : (critical : Bool) → (IsTrue critical → ⊥) → critical ≡ false
not_critical true never = absurd (never refl)
not_critical false never = refl

pub plain_flag : (grant : Grant) (b : CertificateBuilder) (critical : Bool) → IsGranted grant b → (IsTrue critical → IsForSignatures b.key_usage)
    → critical ≡ false
plain_flag grant b critical granted flagged = not_critical critical (λ t. subst IsForSignatures granted.key_usage (flagged t))

extension_is : (oid : List ℕ) (critical : Bool) (view : ExtensionView) (e : Extension)
    → IsWantedExtension (record { oid = oid; critical = critical; value = view }) e
    → critical ≡ false → extension e ≡ sequence (object_identifier_of oid ∷ octet_string (value_octets view) ∷ [])
extension_is oid critical view e is plain =
    ap (λ (o : List ℕ). sequence (object_identifier_of o ∷ (default_false e.critical ++ octet_string (value_octets e.extn_value) ∷ []))) is.named
    ∙ ap (λ (c : Bool). sequence (object_identifier_of oid ∷ (default_false c ++ octet_string (value_octets e.extn_value) ∷ []))) (is.flagged ∙ plain)
    ∙ ap (λ (v : ExtensionView). sequence (object_identifier_of oid ∷ octet_string (value_octets v) ∷ [])) is.valued

-- The extensions are three, the wanted ones.
record AreThree (a b c : WantedExtension) (made : List Extension) : Type 0 where
  pub first : Extension
  pub second : Extension
  pub third : Extension
  pub are : made ≡ first ∷ second ∷ third ∷ []
  pub is_first : IsWantedExtension a first
  pub is_second : IsWantedExtension b second
  pub is_third : IsWantedExtension c third

three : (a b c : WantedExtension) (made : List Extension) → AreWanted (a ∷ b ∷ c ∷ []) made → AreThree a b c made
three a b c [] are = absurd are
three a b c (x ∷ []) are = absurd are.1
three a b c (x ∷ y ∷ []) are = absurd are.1.1
three a b c (x ∷ y ∷ z ∷ []) are =
    record { first = x; second = y; third = z; are = refl; is_first = are.0; is_second = are.1.0; is_third = are.1.1.0 }
three a b c (x ∷ y ∷ z ∷ v ∷ more) are = absurd are.1.1.1

module _ (grant : Grant) (b : CertificateBuilder) (granted : IsGranted grant b) (critical : Bool) (own authority : List ℕ) where
  abbrev Basic : WantedExtension
  Basic = record { oid = CE_BASIC_CONSTRAINTS.now; critical = critical; value = constraints_of b }

  wanted_is : wanted b critical own authority ≡ Basic ∷ wanted_keys own authority
  wanted_is =
      let usage = ap (where_given CE_KEY_USAGE.now true views.KeyUsage) granted.key_usage in
      let purposes = ap (where_given CE_EXT_KEY_USAGE.now false views.ExtendedKeyUsage) granted.extended_key_usage in
      let subject = ap (where_given CE_SUBJECT_ALT_NAME.now false views.SubjectAltName) granted.subject_alt_name in
      let issuers = ap (where_given CE_ISSUER_ALT_NAME.now false views.IssuerAltName) granted.issuer_alt_name in
      let uses = ap₂ (λ (x y : List WantedExtension). x ++ y) usage purposes in
      let names = ap₂ (λ (x y : List WantedExtension). x ++ y) subject issuers in
      ap₂ (λ (x y : List WantedExtension). Basic ∷ (x ++ (y ++ wanted_keys own authority))) uses names

  module _ (made : List Extension) (are_made : AreWanted (wanted b critical own authority) made) (key signer : ℕ) (own_is : own ≡ key_id_of key)
      (by : authority ≡ key_id_of signer) where
    parts : AreThree Basic (record { oid = CE_SUBJECT_KEY_IDENTIFIER.now; critical = false; value = views.SubjectKeyIdentifier own })
        (record { oid = CE_AUTHORITY_KEY_IDENTIFIER.now; critical = false; value = views.AuthorityKeyIdentifier (key_of_identifier authority) }) made
    parts = three Basic _ _ made (subst (λ (w : List WantedExtension). AreWanted w made) wanted_is are_made)

    pub extensions_are : critical ≡ false → extensions made ≡ line_extensions key signer (constraints_in b.ca b.pathlen)
    extensions_are plain =
        let one : extension parts.first ≡ extension_of CE_BASIC_CONSTRAINTS.now (constraints_in b.ca b.pathlen) =
        extension_is CE_BASIC_CONSTRAINTS.now critical (constraints_of b) parts.first parts.is_first plain in
        let two : extension parts.second ≡ extension_of CE_SUBJECT_KEY_IDENTIFIER.now (own_identifier key) =
        extension_is CE_SUBJECT_KEY_IDENTIFIER.now false (views.SubjectKeyIdentifier own) parts.second parts.is_second refl
        ∙ ap (λ (k : List ℕ). sequence (object_identifier_of CE_SUBJECT_KEY_IDENTIFIER.now ∷ octet_string (value_octets (views.SubjectKeyIdentifier k)) ∷ []))
        own_is in
        let more : extension parts.third ≡ extension_of CE_AUTHORITY_KEY_IDENTIFIER.now (authority_identifier signer) =
        extension_is CE_AUTHORITY_KEY_IDENTIFIER.now false (views.AuthorityKeyIdentifier (key_of_identifier authority)) parts.third parts.is_third refl
        ∙ ap (λ (k : List ℕ). sequence (object_identifier_of CE_AUTHORITY_KEY_IDENTIFIER.now
        ∷ octet_string (value_octets (views.AuthorityKeyIdentifier (key_of_identifier k))) ∷ [])) by in
        ap extensions parts.are
        ∙ ap (λ (x : DerElement). sequence (x ∷ extension parts.second ∷ extension parts.third ∷ [])) one
        ∙ ap (λ (x : DerElement). sequence (extension_of CE_BASIC_CONSTRAINTS.now (constraints_in b.ca b.pathlen) ∷ x ∷ extension parts.third ∷ [])) two
        ∙ ap (λ (x : DerElement). sequence (extension_of CE_BASIC_CONSTRAINTS.now (constraints_in b.ca b.pathlen)
        ∷ extension_of CE_SUBJECT_KEY_IDENTIFIER.now (own_identifier key) ∷ x ∷ [])) more

    pub values_are : inner_extensions made ≡ constraints_in b.ca b.pathlen ∷ own_identifier key ∷ authority_identifier signer ∷ []
    values_are =
        let two = parts.is_second.valued ∙ ap views.SubjectKeyIdentifier own_is in
        let more = parts.is_third.valued ∙ ap (λ (k : List ℕ). views.AuthorityKeyIdentifier (key_of_identifier k)) by in
        ap inner_extensions parts.are
        ∙ ap (λ (v : ExtensionView). inner_value v ++ (inner_value parts.second.extn_value ++ (inner_value parts.third.extn_value ++ []))) parts.is_first.valued
        ∙ ap (λ (v : ExtensionView). constraints_in b.ca b.pathlen ∷ (inner_value v ++ (inner_value parts.third.extn_value ++ []))) two
        ∙ ap (λ (v : ExtensionView). constraints_in b.ca b.pathlen ∷ own_identifier key ∷ (inner_value v ++ [])) more

-- ---- their sizes

short_either : (test : Bool) (a b : List ℕ) → length a ≤ 2 → length b ≤ 2 → length (if test then a else b) ≤ 2
short_either true a b p q = p
short_either false a b p q = q

small_number : (number : ℕ) → length (if nat_lt number 128 then number ∷ [] else 0 ∷ number ∷ []) ≤ 2
small_number number = short_either (nat_lt number 128) _ _ (omega arith) (omega arith)

constraints_size : (ca : Bool) (path_length : Option ℕ) → size (constraints_in ca path_length) ≤ 30
constraints_size true None = omega arith
constraints_size false None = omega arith
constraints_size true (Some number) = omega (arith, small_number number)
constraints_size false (Some number) = omega (arith, small_number number)

constraints_nested : (ca : Bool) (path_length : Option ℕ) → nesting (constraints_in ca path_length) ≤ 2
constraints_nested true None = omega arith
constraints_nested false None = omega arith
constraints_nested true (Some number) = omega arith
constraints_nested false (Some number) = omega arith

pub constraints_small : (ca : Bool) (path_length : Option ℕ) → IsSmall (constraints_in ca path_length)
constraints_small ca path_length = record { nested = omega (arith, constraints_nested ca path_length); light = omega (arith, constraints_size ca path_length) }

own_size : (key : ℕ) → size (own_identifier key) ≡ 38
own_size key = omega (arith, length-sha256 (encoding (key_info_of key)))

authority_size : (signer : ℕ) → size (authority_identifier signer) ≡ 44
authority_size signer = omega (arith, length-sha256 (encoding (key_info_of signer)))

pub own_small : (key : ℕ) → IsSmall (own_identifier key)
own_small key = record { nested = omega arith; light = omega (arith, own_size key) }

pub authority_small : (signer : ℕ) → IsSmall (authority_identifier signer)
authority_small signer = record { nested = omega arith; light = omega (arith, authority_size signer) }

pub extensions_size : (key signer : ℕ) (ca : Bool) (path_length : Option ℕ) → size (line_extensions key signer (constraints_in ca path_length)) ≤ 300
extensions_size key signer ca path_length =
    omega (
      arith,
      within_size (constraints_in ca path_length),
      constraints_size ca path_length,
      within_size (own_identifier key),
      own_size key,
      within_size (authority_identifier signer),
      authority_size signer,
    )
