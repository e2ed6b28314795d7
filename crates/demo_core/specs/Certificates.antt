-- The certificates of a demonstration (RFC 5280 4.1), which are signed under the demonstration
-- scheme, and their digest.
use Rattle.std.specs.Prelude.{ℕ, ◌+◌, ◌%◌, nat_lt, if◌then◌else◌, List, [], ◌∷◌, ◌++◌, Option, Some, None, codes, decimal, flat_map}
use Rattle.std.specs.List.{range_with_len}
use Rattle.sha2.specs.Sha256.{sha256}
use Rattle.der_core.specs.DerElement.{DerElement, Primitive}
use Rattle.der_core.specs.Elements.{bit_octets, octet_string, sequence, set}
use Rattle.der_core.specs.Encoding.{encoding}
use Rattle.asn1_types.specs.Elements.{integer_of, object_identifier_of}
use Rattle.asn1_types.specs.Time.{two_digits}
use Rattle.asn1_types.specs.declared.oids.TheConstants.{AT_COMMON_NAME, CE_AUTHORITY_KEY_IDENTIFIER, CE_BASIC_CONSTRAINTS}
use Rattle.asn1_types.specs.declared.oids.TheConstants.{CE_SUBJECT_KEY_IDENTIFIER, SHA256_WITH_RSA_ENCRYPTION}
use Rattle.extension_types.specs.AuthorityKeyIdentifier.{authority_key_of}
use Rattle.extension_types.specs.BasicConstraints.{basic_constraints, constraints_with}
use Rattle.sig_core.specs.DemoScheme.{demo_signature}
use Rattle.sig_core.specs.declared.algorithm.SigAlg.TheVariants.{RsaSha256}
use Rattle.key_core.specs.SmallKeys.{small_key_info, small_rsa_key, with_null}
use Rattle.x509_types.specs.TbsElements.{tbs_of}
use Rattle.demo_core.specs.History.{demo_step}
use Rattle.demo_core.specs.Secrets.{step_modulus}
use Rattle.demo_core.specs.declared.history.Step.{Step}

-- the name of the step of this index: the common name N and the index, as a UTF8String
abbrev pub step_name : ℕ → DerElement
step_name index =
    sequence (set
    (sequence (object_identifier_of AT_COMMON_NAME.now ∷
    Primitive 0x0C (codes "N" ++ decimal index) ∷ []) ∷ []) ∷ [])

-- the first second of a year from 2000 to 2049, as a UTCTime (RFC 5280 4.1.2.5.1)
abbrev pub year_time : ℕ → DerElement
year_time year = Primitive 0x17 (two_digits (year % 100) ++ codes "0101000000Z")

-- the RSAPublicKey (RFC 8017 A.1.1): the modulus is 1 and the index in three octets, the exponent 3
abbrev pub step_rsa_key : ℕ → DerElement
step_rsa_key index = small_rsa_key (step_modulus index)

-- the SubjectPublicKeyInfo (RFC 3279 2.3.1)
abbrev pub step_key : ℕ → DerElement
step_key index = small_key_info (step_modulus index)

-- the key identifier: the SHA-256 of the SubjectPublicKeyInfo
abbrev pub step_key_id : ℕ → List ℕ
step_key_id index = sha256 (encoding (step_key index))

-- an extension that isn't critical, by its OID and its value (RFC 5280 4.1)
abbrev pub extension_of : List ℕ → DerElement → DerElement
extension_of oid value =
    sequence (object_identifier_of oid ∷ octet_string (encoding value) ∷ [])

-- the values of the extensions (RFC 5280 4.2.1.9, 4.2.1.2, 4.2.1.1)
abbrev pub step_constraints : Step → DerElement
step_constraints step = basic_constraints (constraints_with (Some step.ca) step.path_length)

abbrev pub own_identifier : ℕ → DerElement
own_identifier index = octet_string (step_key_id index)

abbrev pub authority_identifier : ℕ → DerElement
authority_identifier issuer = authority_key_of (Some (step_key_id issuer)) None None

-- the shortest contents octets of a number below 256 (X.690 8.3.2)
abbrev pub small_contents : ℕ → List ℕ
small_contents number = if nat_lt number 128 then number ∷ [] else 0 ∷ number ∷ []

-- the step that signs: the issuer's, or the step itself if it is a root
abbrev pub signer_of : ℕ → Option ℕ → ℕ
signer_of index None = index
signer_of index (Some issuer) = issuer

-- the three extensions
abbrev pub step_extensions : (index signer : ℕ) → Step → DerElement
step_extensions index signer step =
    sequence (extension_of CE_BASIC_CONSTRAINTS.now (step_constraints step) ∷
    extension_of CE_SUBJECT_KEY_IDENTIFIER.now (own_identifier index) ∷
    extension_of CE_AUTHORITY_KEY_IDENTIFIER.now (authority_identifier signer) ∷ [])

-- the TBSCertificate: version 3, and the serial number is one more than the index
abbrev pub step_tbs : (index signer : ℕ) → Step → DerElement
step_tbs index signer step =
    tbs_of (record {
      version = Some (integer_of (2 ∷ []));
      serial_number = small_contents (index + 1);
      signature = with_null SHA256_WITH_RSA_ENCRYPTION.now;
      issuer = step_name signer;
      validity = sequence (year_time step.years.first ∷ year_time step.years.last ∷ []);
      subject = step_name index;
      subject_public_key_info = step_key index;
      issuer_unique_id = None;
      subject_unique_id = None;
      extensions = Some (step_extensions index signer step);
    })

-- the signature of these octets under the key of a step
abbrev pub signature_under : (signer : ℕ) → List ℕ → List ℕ
signature_under signer = demo_signature RsaSha256 (encoding (step_rsa_key signer))

-- the certificate around the TBSCertificate
abbrev pub certificate_under : (signer : ℕ) → DerElement → DerElement
certificate_under signer tbs =
    sequence (tbs ∷ with_null SHA256_WITH_RSA_ENCRYPTION.now ∷
    bit_octets (signature_under signer (encoding tbs)) ∷ [])

-- the certificate of the step of this index
abbrev pub step_certificate : (index : ℕ) → Step → DerElement
step_certificate index step =
    let signer = signer_of index step.issuer in
    certificate_under signer (step_tbs index signer step)

-- all elements that are written for it, those that are wrapped in strings first
abbrev pub elements_under : (index signer : ℕ) → Step → List DerElement
elements_under index signer step =
    let tbs = step_tbs index signer step in
    step_rsa_key index ∷ step_key index ∷ step_constraints step ∷ own_identifier index ∷
    authority_identifier signer ∷ tbs ∷ certificate_under signer tbs ∷ []

abbrev pub step_elements : (index : ℕ) → Step → List DerElement
step_elements index step = elements_under index (signer_of index step.issuer) step

-- the octets of the certificates of a history of so many steps, in the order of the steps
abbrev pub demo_octets : ℕ → List ℕ
demo_octets count =
    flat_map (λ index. encoding (step_certificate index (demo_step count index)))
    (range_with_len 0 count)

-- the SHA-256 of these octets
abbrev pub demo_sum : ℕ → List ℕ
demo_sum count = sha256 (demo_octets count)
