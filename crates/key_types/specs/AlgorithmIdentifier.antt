-- AlgorithmIdentifier ::= SEQUENCE { algorithm OBJECT IDENTIFIER, parameters ANY DEFINED BY
-- algorithm OPTIONAL } (RFC 5280 4.1.1.2)
use Rattle.std.specs.Prelude.{◌∷◌, Option, option_to_list}
use Rattle.der_core.specs.DerElement.{DerElement}
use Rattle.der_core.specs.Elements.{sequence}
use Rattle.der_core.specs.Owned.{KeptElement}
use Rattle.der_core.specs.BorrowedOption.{kept_option}
use Rattle.asn1_types.specs.Elements.{object_identifier}
use Rattle.asn1_types.specs.declared.oid.ObjectIdentifier.{ObjectIdentifier}
use Rattle.key_types.specs.declared.algorithm.AlgorithmIdentifier.{AlgorithmIdentifier}

-- by the elements of its fields
abbrev pub algorithm_of : DerElement → Option DerElement → DerElement
algorithm_of oid parameters = sequence (oid ∷ option_to_list parameters)

-- the element of an algorithm
abbrev pub algorithm_identifier : AlgorithmIdentifier → DerElement
algorithm_identifier a = algorithm_of (object_identifier a.oid) (kept_option a.parameters)

-- the OID of an algorithm
abbrev pub oid_of : AlgorithmIdentifier → ObjectIdentifier
oid_of a = a.oid

-- the parameters of an algorithm, as an owned element
abbrev pub parameters_of : AlgorithmIdentifier → Option KeptElement
parameters_of a = a.parameters
