-- Digest algorithms as AlgorithmIdentifiers (RFC 2315 6.3), whose parameters are NULL here, as in
-- signed programs; by RFC 3370 2.1 and RFC 5754 2 a writer is to write none but for MD5, NULL by
-- RFC 3370 2.2.
use Rattle.std.specs.Prelude.{Some}
use Rattle.asn1_types.specs.Elements.{object_identifier_of}
use Rattle.der_core.specs.DerElement.{DerElement}
use Rattle.der_core.specs.Elements.{null}
use Rattle.key_types.specs.AlgorithmIdentifier.{algorithm_of}
use Rattle.sig_core.specs.ShaVariant.{digest_identifier}
use Rattle.sig_core.specs.declared.sha_variant.ShaVariant.{ShaVariant}

-- the AlgorithmIdentifier that is written for a digest algorithm
abbrev pub digest_algorithm : ShaVariant → DerElement
digest_algorithm hash = algorithm_of (object_identifier_of (digest_identifier hash)) (Some null)
