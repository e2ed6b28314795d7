-- Identifiers of certificates: different ones have different elements, each well formed.
use Rattle.std.proofs.Common.{◌≡◌, [], refl, ap, arith}
use Rattle.der_core.specs.Encoding.{IsWellFormed}
use Rattle.der_core.specs.Structure.{IsGrammar}
use Rattle.der_core.specs.Facts.Grammars.{printed}
use Rattle.asn1_types.specs.Elements.{integer}
use Rattle.asn1_types.specs.Facts.Elements.{integers}
use Rattle.name_types.specs.Name.{name}
use Rattle.name_types.specs.Facts.Names.{names}
use Rattle.cms_types.specs.SignerIdentifier.{issuer_and_serial_number, signer_identifier}
use Rattle.cms_types.specs.declared.signer_info.identifier.SignerIdentifier.{SignerIdentifier}
use Rattle.cms_types.specs.declared.signer_info.identifier.SignerIdentifier.TheVariants as named
use Rattle.cms_types.specs.declared.signer_info.issuer_and_serial.IssuerAndSerialNumber.{IssuerAndSerialNumber}

issuers_once : (a b : IssuerAndSerialNumber) → issuer_and_serial_number a ≡ issuer_and_serial_number b → a ≡ b
issuers_once a b e =
    let same_name : name a.issuer ≡ name b.issuer = cc in
    let same_serial : integer a.serial_number ≡ integer b.serial_number = cc in
    let issuer = names.once (name a.issuer) a.issuer b.issuer refl same_name in
    let serial_number : a.serial_number ≡ b.serial_number = integers.once (integer a.serial_number) a.serial_number b.serial_number refl same_serial in
    λ i. record { issuer = issuer i; serial_number = serial_number i }

pub issuers_and_serials : IsGrammar (λ element value. element ≡ issuer_and_serial_number value) issuer_and_serial_number (λ value. [])
issuers_and_serials = printed issuer_and_serial_number issuers_once
    (λ value. ((omega arith, omega arith, omega arith), refl, (names.formed value.issuer, (integers.formed value.serial_number, tt))))

signers_once : (a b : SignerIdentifier) → signer_identifier a ≡ signer_identifier b → a ≡ b
signers_once (named.IssuerAndSerialNumber x) (named.IssuerAndSerialNumber y) e = ap named.IssuerAndSerialNumber (issuers_once x y e)
signers_once (named.SubjectKeyIdentifier x) (named.SubjectKeyIdentifier y) e = let same : x ≡ y = cc in ap named.SubjectKeyIdentifier same
signers_once (named.IssuerAndSerialNumber x) (named.SubjectKeyIdentifier y) e = absurd cc
signers_once (named.SubjectKeyIdentifier x) (named.IssuerAndSerialNumber y) e = absurd cc

signer_formed : (value : SignerIdentifier) → IsWellFormed (signer_identifier value)
signer_formed (named.IssuerAndSerialNumber x) = issuers_and_serials.formed x
signer_formed (named.SubjectKeyIdentifier x) = ((omega arith, omega arith, omega arith), refl)

pub signer_identifiers : IsGrammar (λ element value. element ≡ signer_identifier value) signer_identifier (λ value. [])
signer_identifiers = printed signer_identifier signers_once signer_formed
