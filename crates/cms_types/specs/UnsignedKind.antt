-- The kinds of unsigned attributes, by OID.
use Rattle.std.specs.Prelude.{ℕ, List, if◌then◌else◌, bytes_eq}
use Rattle.asn1_types.specs.declared.oids.TheConstants.{COUNTERSIGNATURE, RFC3161_COUNTER_SIGN}
use Rattle.cms_types.specs.declared.unsigned_attribute.kind.UnsignedKind.{UnsignedKind}
use Rattle.cms_types.specs.declared.unsigned_attribute.kind.UnsignedKind.TheVariants as kinds

-- the kind that an OID names, given by its contents octets (RFC 5652 11.4; the second is
-- Microsoft's)
abbrev pub named_unsigned : List ℕ → UnsignedKind
named_unsigned oid =
    if bytes_eq oid COUNTERSIGNATURE.now then kinds.CounterSign
    else (if bytes_eq oid RFC3161_COUNTER_SIGN.now then kinds.MsCounterSign
    else kinds.Other)
