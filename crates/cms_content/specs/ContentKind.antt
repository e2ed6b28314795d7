-- The kinds of contents, by type.
use Rattle.std.specs.Prelude.{ℕ, List, if◌then◌else◌, bytes_eq}
use Rattle.asn1_types.specs.declared.oids.TheConstants.{SPC_INDIRECT_DATA, CTL, DATA}
use Rattle.cms_content.specs.declared.content_kind.ContentKind.{ContentKind}
use Rattle.cms_content.specs.declared.content_kind.ContentKind.TheVariants as kinds

-- the kind that a type names, given by the contents octets of its OID (RFC 5652 4; Windows
-- Authenticode Portable Executable Signature Format; Microsoft, wincrypt.h)
abbrev pub named_content : List ℕ → ContentKind
named_content oid =
    if bytes_eq oid SPC_INDIRECT_DATA.now then kinds.IndirectData
    else (if bytes_eq oid CTL.now then kinds.CertificateTrustList
    else (if bytes_eq oid DATA.now then kinds.Data
    else kinds.Other))

-- a number for each kind
abbrev pub content_number : ContentKind → ℕ
content_number kinds.IndirectData = 0
content_number kinds.CertificateTrustList = 1
content_number kinds.Data = 2
content_number kinds.Other = 3
