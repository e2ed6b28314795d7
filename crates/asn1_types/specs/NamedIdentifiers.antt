-- The names of OIDs, as defined in the documents cited at the constants of `oids`.
use Rattle.std.specs.Prelude.{List, [], ◌∷◌, codes}
use Rattle.asn1_types.specs.declared.oids.TheConstants as octets
use Rattle.asn1_types.specs.KnownIdentifiers.{KnownRow, known_row}

-- Name, dotted text, and the constant of the contents octets.
abbrev pub named_identifiers : List KnownRow
named_identifiers =
    known_row (codes "rsaEncryption") (codes "1.2.840.113549.1.1.1") octets.RSA_ENCRYPTION.now ∷
    known_row (codes "md5WithRSAEncryption") (codes "1.2.840.113549.1.1.4") octets.MD5_WITH_RSA_ENCRYPTION.now ∷
    known_row (codes "sha1WithRSAEncryption") (codes "1.2.840.113549.1.1.5") octets.SHA1_WITH_RSA_ENCRYPTION.now ∷
    known_row (codes "sha256WithRSAEncryption") (codes "1.2.840.113549.1.1.11") octets.SHA256_WITH_RSA_ENCRYPTION.now ∷
    known_row (codes "sha384WithRSAEncryption") (codes "1.2.840.113549.1.1.12") octets.SHA384_WITH_RSA_ENCRYPTION.now ∷
    known_row (codes "sha512WithRSAEncryption") (codes "1.2.840.113549.1.1.13") octets.SHA512_WITH_RSA_ENCRYPTION.now ∷
    known_row (codes "sha224WithRSAEncryption") (codes "1.2.840.113549.1.1.14") octets.SHA224_WITH_RSA_ENCRYPTION.now ∷
    known_row (codes "id-ecPublicKey") (codes "1.2.840.10045.2.1") octets.EC_PUBLIC_KEY.now ∷
    known_row (codes "ecdsa-with-SHA256") (codes "1.2.840.10045.4.3.2") octets.ECDSA_WITH_SHA256.now ∷
    known_row (codes "ecdsa-with-SHA384") (codes "1.2.840.10045.4.3.3") octets.ECDSA_WITH_SHA384.now ∷
    known_row (codes "ecdsa-with-SHA512") (codes "1.2.840.10045.4.3.4") octets.ECDSA_WITH_SHA512.now ∷
    known_row (codes "secp256r1") (codes "1.2.840.10045.3.1.7") octets.SECP256R1.now ∷
    known_row (codes "secp384r1") (codes "1.3.132.0.34") octets.SECP384R1.now ∷
    known_row (codes "secp521r1") (codes "1.3.132.0.35") octets.SECP521R1.now ∷
    known_row (codes "id-X25519") (codes "1.3.101.110") octets.X25519.now ∷
    known_row (codes "id-X448") (codes "1.3.101.111") octets.X448.now ∷
    known_row (codes "id-Ed25519") (codes "1.3.101.112") octets.ED25519.now ∷
    known_row (codes "id-Ed448") (codes "1.3.101.113") octets.ED448.now ∷
    known_row (codes "id-ml-dsa-44") (codes "2.16.840.1.101.3.4.3.17") octets.ML_DSA_44.now ∷
    known_row (codes "id-ml-dsa-65") (codes "2.16.840.1.101.3.4.3.18") octets.ML_DSA_65.now ∷
    known_row (codes "id-ml-dsa-87") (codes "2.16.840.1.101.3.4.3.19") octets.ML_DSA_87.now ∷
    known_row (codes "id-md5") (codes "1.2.840.113549.2.5") octets.MD5.now ∷
    known_row (codes "id-sha1") (codes "1.3.14.3.2.26") octets.SHA1.now ∷
    known_row (codes "id-sha256") (codes "2.16.840.1.101.3.4.2.1") octets.SHA256.now ∷
    known_row (codes "id-sha384") (codes "2.16.840.1.101.3.4.2.2") octets.SHA384.now ∷
    known_row (codes "id-sha512") (codes "2.16.840.1.101.3.4.2.3") octets.SHA512.now ∷
    known_row (codes "id-sha224") (codes "2.16.840.1.101.3.4.2.4") octets.SHA224.now ∷
    known_row (codes "id-kp-codeSigning") (codes "1.3.6.1.5.5.7.3.3") octets.KP_CODE_SIGNING.now ∷
    known_row (codes "id-kp-timeStamping") (codes "1.3.6.1.5.5.7.3.8") octets.KP_TIME_STAMPING.now ∷
    known_row (codes "szOID_KP_LIFETIME_SIGNING") (codes "1.3.6.1.4.1.311.10.3.13") octets.KP_LIFETIME_SIGNING.now ∷
    known_row (codes "id-data") (codes "1.2.840.113549.1.7.1") octets.DATA.now ∷
    known_row (codes "id-signedData") (codes "1.2.840.113549.1.7.2") octets.SIGNED_DATA.now ∷
    known_row (codes "emailAddress") (codes "1.2.840.113549.1.9.1") octets.EMAIL_ADDRESS.now ∷
    known_row (codes "contentType") (codes "1.2.840.113549.1.9.3") octets.CONTENT_TYPE.now ∷
    known_row (codes "messageDigest") (codes "1.2.840.113549.1.9.4") octets.MESSAGE_DIGEST.now ∷
    known_row (codes "counterSignature") (codes "1.2.840.113549.1.9.6") octets.COUNTERSIGNATURE.now ∷
    known_row (codes "extensionRequest") (codes "1.2.840.113549.1.9.14") octets.EXTENSION_REQUEST.now ∷
    known_row (codes "SPC_INDIRECT_DATA_OBJID") (codes "1.3.6.1.4.1.311.2.1.4") octets.SPC_INDIRECT_DATA.now ∷
    known_row (codes "SPC_SP_OPUS_INFO_OBJID") (codes "1.3.6.1.4.1.311.2.1.12") octets.SPC_SP_OPUS_INFO.now ∷
    known_row (codes "SPC_PE_IMAGE_DATA_OBJID") (codes "1.3.6.1.4.1.311.2.1.15") octets.SPC_PE_IMAGE_DATA.now ∷
    known_row (codes "SPC_TIME_STAMP_REQUEST_OBJID") (codes "1.3.6.1.4.1.311.3.2.1") octets.SPC_TIME_STAMP_REQUEST.now ∷
    known_row (codes "szOID_RFC3161_counterSign") (codes "1.3.6.1.4.1.311.3.3.1") octets.RFC3161_COUNTER_SIGN.now ∷
    known_row (codes "szOID_CTL") (codes "1.3.6.1.4.1.311.10.1") octets.CTL.now ∷
    known_row (codes "CERT_SUBJECT_NAME_MD5_HASH_PROP_ID") (codes "1.3.6.1.4.1.311.10.11.29") octets.CERT_SUBJECT_NAME_MD5_HASH.now ∷
    known_row (codes "CERT_DISALLOWED_FILETIME_PROP_ID") (codes "1.3.6.1.4.1.311.10.11.104") octets.CERT_DISALLOWED_FILETIME.now ∷
    known_row (codes "CERT_NOT_BEFORE_FILETIME_PROP_ID") (codes "1.3.6.1.4.1.311.10.11.126") octets.CERT_NOT_BEFORE_FILETIME.now ∷
    known_row (codes "CERT_NOT_BEFORE_ENHKEY_USAGE_PROP_ID") (codes "1.3.6.1.4.1.311.10.11.127") octets.CERT_NOT_BEFORE_ENHKEY_USAGE.now ∷
    known_row (codes "id-at-commonName") (codes "2.5.4.3") octets.AT_COMMON_NAME.now ∷
    known_row (codes "id-at-surname") (codes "2.5.4.4") octets.AT_SURNAME.now ∷
    known_row (codes "id-at-serialNumber") (codes "2.5.4.5") octets.AT_SERIAL_NUMBER.now ∷
    known_row (codes "id-at-countryName") (codes "2.5.4.6") octets.AT_COUNTRY_NAME.now ∷
    known_row (codes "id-at-localityName") (codes "2.5.4.7") octets.AT_LOCALITY_NAME.now ∷
    known_row (codes "id-at-stateOrProvinceName") (codes "2.5.4.8") octets.AT_STATE_OR_PROVINCE_NAME.now ∷
    known_row (codes "id-at-streetAddress") (codes "2.5.4.9") octets.AT_STREET_ADDRESS.now ∷
    known_row (codes "id-at-organizationName") (codes "2.5.4.10") octets.AT_ORGANIZATION_NAME.now ∷
    known_row (codes "id-at-organizationalUnitName") (codes "2.5.4.11") octets.AT_ORGANIZATIONAL_UNIT_NAME.now ∷
    known_row (codes "id-at-givenName") (codes "2.5.4.42") octets.AT_GIVEN_NAME.now ∷
    known_row (codes "id-ce-subjectKeyIdentifier") (codes "2.5.29.14") octets.CE_SUBJECT_KEY_IDENTIFIER.now ∷
    known_row (codes "id-ce-keyUsage") (codes "2.5.29.15") octets.CE_KEY_USAGE.now ∷
    known_row (codes "id-ce-subjectAltName") (codes "2.5.29.17") octets.CE_SUBJECT_ALT_NAME.now ∷
    known_row (codes "id-ce-issuerAltName") (codes "2.5.29.18") octets.CE_ISSUER_ALT_NAME.now ∷
    known_row (codes "id-ce-basicConstraints") (codes "2.5.29.19") octets.CE_BASIC_CONSTRAINTS.now ∷
    known_row (codes "id-ce-authorityKeyIdentifier") (codes "2.5.29.35") octets.CE_AUTHORITY_KEY_IDENTIFIER.now ∷
    known_row (codes "id-ce-extKeyUsage") (codes "2.5.29.37") octets.CE_EXT_KEY_USAGE.now ∷ []
