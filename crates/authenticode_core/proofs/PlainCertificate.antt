-- The certificate of the plain form has the structure of a certificate.
use Rattle.std.proofs.Common.{◌≡◌, ◌≢◌, ◌⊎◌, ◌+◌, ◌*◌, ◌-◌, ◌%◌, ◌/◌, ◌<◌, ◌≤◌, ℕ, List, [], ◌∷◌, Some, None, inl, inr, refl, subst, ◌∙◌, ap, arith}
use Rattle.std.specs.Prelude.{codes}
use Rattle.std.proofs.lemmas.Bool.{cases_lt}
use Rattle.asn1_types.specs.Elements.{integer_of}
use Rattle.asn1_types.specs.Calendar.{IsMoment, IsUtcYear}
use Rattle.asn1_types.specs.Time.{utc_contents}
use Rattle.asn1_types.specs.declared.oids.TheConstants as identifiers
use Rattle.asn1_types.specs.declared.utc_time.UTCTime.{UTCTime}
use Rattle.asn1_types.specs.declared.time.Time.TheVariants as times
use Rattle.der_core.specs.DerElement.{Primitive}
use Rattle.der_core.specs.Elements.{sequence, bit_octets, null}
use Rattle.der_core.specs.Encoding.{encoding, IsDer}
use Rattle.der_core.specs.Structure.{Fits}
use Rattle.key_types.specs.PublicKeyInfo.{public_key_info as written_info}
use Rattle.key_types.specs.RsaPublicKey.{rsa_public_key}
use Rattle.key_types.specs.declared.key_info.SubjectPublicKeyInfo.{SubjectPublicKeyInfo}
use Rattle.key_types.specs.declared.public_key.RsaPublicKey.{RsaPublicKey}
use Rattle.key_types.specs.declared.subject_key.SubjectKey.TheVariants as keys
use Rattle.x509_types.specs.CertificateElements.{AreCertificateFields, CertificateElements}
use Rattle.x509_types.specs.declared.certificate.version.Version.TheVariants as versions
use Rattle.authenticode_core.specs.PlainForm.{CertificateParts, IsNewYear, IsPlainKey, algorithm, plain_name, plain_public_key_info, plain_validity}
use Rattle.authenticode_core.proofs.PlainShape.{algorithm_value, name_value}

-- ---- the first second of a year

full_year : (n : ℕ) → n < 100 → (n < 50) ⊎ (50 ≤ n) → (year : ℕ) × IsUtcYear year × (year % 100 ≡ n)
full_year n few (inl less) = (2000 + n, record { first_year = omega arith; last_year = omega (arith, less) }, omega (arith, less))
full_year n few (inr more) = (1900 + n, record { first_year = omega (arith, more); last_year = omega (arith, few) }, omega (arith, few))

new_year_exists : (year : ℕ) → year ≤ 9999 → IsMoment year 1 1 0 0 0
new_year_exists year few = record {
  date = record { four_digits = few; first_month = omega arith; last_month = omega arith; first_day = omega arith; last_day = omega arith };
  last_hour = omega arith;
  last_minute = omega arith;
  last_second = omega arith;
}

new_year : (time : List ℕ) → IsNewYear time → (t : UTCTime) × (time ≡ utc_contents t)
new_year time y =
    let tens = y.digits.0 in
    let units = y.digits.1 in
    let n : ℕ = 10 * (y.tens - 0x30) + (y.units - 0x30) in
    let few : n < 100 = omega (arith, tens.0, tens.1, units.0, units.1) in
    let full = full_year n few (cases_lt n 50) in
    let first : y.tens ≡ 48 + full.0 % 100 / 10 = omega (arith, full.2, tens.0, tens.1, units.0, units.1) in
    let second : y.units ≡ 48 + full.0 % 100 % 10 = omega (arith, full.2, tens.0, tens.1, units.0, units.1) in (
      record {
        time = record {
          year = full.0;
          month = 1;
          day = 1;
          hour = 0;
          minute = 0;
          second = 0;
          exists = new_year_exists full.0 (omega (arith, full.1.last_year));
        };
        of_years = full.1;
      },
      y.written ∙ (λ i. first i ∷ second i ∷ codes "0101000000Z"),
    )

-- ---- the key

abbrev pub key_of : (key : List ℕ) → IsPlainKey key → RsaPublicKey
key_of key r = record {
  modulus = record { contents = r.public_key.integers.0.contents; formed = r.public_key.integers.0.some };
  public_exponent = record { contents = r.public_key.integers.1.contents; formed = r.public_key.integers.1.some };
}

element_is : (key : List ℕ) → (r : IsPlainKey key) → r.element ≡ rsa_public_key (key_of key r)
element_is key r = r.public_key.written ∙ (λ i. sequence (r.public_key.integers.0.written i ∷ r.public_key.integers.1.written i ∷ []))

pub key_is_encoded : (key : List ℕ) → (r : IsPlainKey key) → (key ≡ encoding (rsa_public_key (key_of key r))) × IsDer (rsa_public_key (key_of key r))
key_is_encoded key r = (r.encoded ∙ ap encoding (element_is key r), subst IsDer (element_is key r) r.der)

abbrev pub info_of : (key : List ℕ) → IsPlainKey key → IsDer null → SubjectPublicKeyInfo
info_of key r der = record {
  algorithm = algorithm_value identifiers.RSA_ENCRYPTION.now refl der;
  subject_public_key = keys.Rsa (key_of key r);
  fits = record { named = refl; allowed = refl };
}

pub info_is : (key : List ℕ) → (r : IsPlainKey key) → (der : IsDer null) → plain_public_key_info key ≡ written_info (info_of key r der)
info_is key r der = ap (λ (octets : List ℕ). sequence (algorithm identifiers.RSA_ENCRYPTION.now ∷ bit_octets octets ∷ [])) (key_is_encoded key r).0

-- ---- the certificate

-- the fields of the certificate
abbrev pub plain_certificate_fields : CertificateParts → CertificateElements
plain_certificate_fields c = record {
  tbs = record {
    version = Some (integer_of (2 ∷ []));
    serial_number = c.tbs.serial;
    signature = algorithm identifiers.SHA256_WITH_RSA_ENCRYPTION.now;
    issuer = plain_name c.tbs.issuer;
    validity = plain_validity c.tbs.not_before c.tbs.not_after;
    subject = plain_name c.tbs.subject;
    subject_public_key_info = plain_public_key_info c.tbs.key;
    issuer_unique_id = None;
    subject_unique_id = None;
    extensions = None;
  };
  algorithm = algorithm identifiers.SHA256_WITH_RSA_ENCRYPTION.now;
  unused = 0;
  signature = c.signature;
}

-- The rules for the parts of a certificate.
pub record IsPlainCertificate (c : CertificateParts) : Type 0 where
  pub some_serial : c.tbs.serial ≢ []
  pub not_before : IsNewYear c.tbs.not_before
  pub not_after : IsNewYear c.tbs.not_after
  pub key : IsPlainKey c.tbs.key

pub certificate_fits : (c : CertificateParts) → IsPlainCertificate c → IsDer null → Fits AreCertificateFields (plain_certificate_fields c)
certificate_fits c is der =
    let begins = new_year c.tbs.not_before is.not_before in
    let ends = new_year c.tbs.not_after is.not_after in (
      record {
        tbs_certificate = record {
          version = Some versions.V3;
          serial_number = record { contents = c.tbs.serial; formed = is.some_serial };
          signature = algorithm_value identifiers.SHA256_WITH_RSA_ENCRYPTION.now refl der;
          issuer = name_value c.tbs.issuer;
          validity = record { not_before = times.Utc begins.0; not_after = times.Utc ends.0 };
          subject = name_value c.tbs.subject;
          subject_public_key_info = info_of c.tbs.key is.key der;
          issuer_unique_id = None;
          subject_unique_id = None;
          extensions = None;
        };
        signature_algorithm = algorithm_value identifiers.SHA256_WITH_RSA_ENCRYPTION.now refl der;
        signature_value = record { unused = 0; payload = c.signature; formed = record { at_most_seven = omega arith; none_of_nothing = λ e. refl } };
      },
      record {
        tbs = record {
          version = refl;
          serial_number = refl;
          signature = refl;
          issuer = refl;
          validity = λ i. sequence (Primitive 0x17 (begins.1 i) ∷ Primitive 0x17 (ends.1 i) ∷ []);
          subject = refl;
          subject_public_key_info = (info_is c.tbs.key is.key der, ((key_is_encoded c.tbs.key is.key).1, tt));
          issuer_unique_id = refl;
          subject_unique_id = refl;
          extensions = tt;
        };
        algorithm = refl;
        signature = refl;
      },
    )
