-- The kinds of attributes of trust list entries, by OID.
use Rattle.std.specs.Prelude.{ℕ, List, if◌then◌else◌, bytes_eq}
use Rattle.asn1_types.specs.declared.oids.TheConstants.{CERT_SUBJECT_NAME_MD5_HASH, CERT_DISALLOWED_FILETIME}
use Rattle.asn1_types.specs.declared.oids.TheConstants.{CERT_NOT_BEFORE_FILETIME, CERT_NOT_BEFORE_ENHKEY_USAGE}
use Rattle.cms_content.specs.declared.ctl_kind.CtlKind.{CtlKind}
use Rattle.cms_content.specs.declared.ctl_kind.CtlKind.TheVariants as kinds

-- the kind that an OID names, given by its contents octets (Microsoft, wincrypt.h)
abbrev pub named_ctl : List ℕ → CtlKind
named_ctl oid =
    if bytes_eq oid CERT_SUBJECT_NAME_MD5_HASH.now then kinds.CertSubjectNameMd5HashPropId
    else (if bytes_eq oid CERT_DISALLOWED_FILETIME.now then kinds.CertDisallowedFileTimePropId
    else (if bytes_eq oid CERT_NOT_BEFORE_FILETIME.now then kinds.UnknownReservedPropId126
    else (if bytes_eq oid CERT_NOT_BEFORE_ENHKEY_USAGE.now then kinds.UnknownReservedPropId127
    else kinds.Other)))
