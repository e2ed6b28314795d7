-- When a signature is built, and why it isn't: the steps in order.
use Rattle.std.specs.Prelude.{◌≡◌, ◌≢◌, ℕ, List, [], ◌∷◌, ◌++◌, map, true, Option, Some, None, Vec}
use Rattle.std.specs.Option.{option_copied, option_map}
use Rattle.std.specs.declared.alloc.Global.{Global}
use Rattle.cms_content.specs.ContentInfo.{content_info}
use Rattle.cms_content.specs.declared.content_info.EncapsulatedContentInfo.{EncapsulatedContentInfo}
use Rattle.cms_types.specs.DigestAlgorithm.{digest_algorithm}
use Rattle.cms_types.specs.SignedDataElements.{SignedDataElements}
use Rattle.cms_types.specs.SignerIdentifier.{issuer_and_serial_number}
use Rattle.cms_types.specs.UnsignedAttribute.{unsigned_attribute}
use Rattle.cms_types.specs.declared.signer_info.issuer_and_serial.IssuerAndSerialNumber.{IssuerAndSerialNumber}
use Rattle.cms_types.specs.declared.unsigned_attribute.UnsignedAttribute.{UnsignedAttribute}
use Rattle.der_core.specs.DerElement.{DerElement}
use Rattle.der_core.specs.Each.{list_element}
use Rattle.der_core.specs.Encoding.{encoding}
use Rattle.der_core.specs.Borrowed.{AreDer}
use Rattle.der_core.specs.Refusals.{RefusesInner}
use Rattle.key_core.specs.SignatureRules.{RefusesSignatureBy}
use Rattle.key_core.specs.Signing.{Signs, KeyArithmetic, IsAsked, sign_rules}
use Rattle.key_core.specs.declared.private_key.PrivateKey.{PrivateKey}
use Rattle.key_core.specs.declared.signature_algorithm.SignatureAlgorithm.{SignatureAlgorithm}
use Rattle.key_core.specs.declared.signature_algorithm.SignatureAlgorithm.TheVariants.{RsaPkcs1v15}
use Rattle.names_core.specs.Names.{name_of_sets}
use Rattle.sig_core.specs.ShaVariant.{RefusesHash, hash_of}
use Rattle.sig_core.specs.declared.hash.HashAlgorithm.{HashAlgorithm}
use Rattle.sig_core.specs.declared.hash.HashAlgorithm.TheVariants.{SHA2_224}
use Rattle.sig_core.specs.declared.sha_variant.ShaVariant.{ShaVariant}
use Rattle.x509_core.specs.OwnedCertificate.{KeptCertificate}
use Rattle.x509_types.specs.Attribute.{attribute, inner_attributes}
use Rattle.x509_types.specs.CertificateElements.{CertificateElements, certificate_of}
use Rattle.x509_types.specs.declared.attribute.Attribute.{Attribute}
use Rattle.authenticode_core.specs.ContentRefusal.{of_signatures}
use Rattle.authenticode_core.specs.Indices.{HasNoPlace, IsLeastPlace}
use Rattle.authenticode_core.specs.SigningRules.{IsForCodeSigning}
use Rattle.authenticode_core.specs.declared.error.AuthenticodeError.TheVariants as signatures
use Rattle.authenticode_parts.specs.Carried.{AreWithoutRoots, elements_of}
use Rattle.authenticode_parts.specs.MadeContent.{attributes_message}
use Rattle.authenticode_parts.specs.MadeSignature.{SignatureParts, attributes_element, signature_made}
use Rattle.authenticode_parts.specs.SignedProgram.{IsSignature}
use Rattle.authenticode_signature.specs.BuilderError.{builder_refusal, unwritten_in_builder}
use Rattle.der_core.specs.Refusals.{Wraps}
use Rattle.der_core.specs.Steps.{Step, AreTaken}
use Rattle.authenticode_core.specs.BagSigner.{HasIssuerAndSerial}
use Rattle.authenticode_signature.specs.declared.builder.AuthenticodeSignatureBuilder.{AuthenticodeSignatureBuilder}
use Rattle.authenticode_signature.specs.declared.builder_error.AuthenticodeSignatureBuilderError.{AuthenticodeSignatureBuilderError}
use Rattle.authenticode_signature.specs.declared.builder_error.AuthenticodeSignatureBuilderError.TheVariants as errors

-- an empty builder
abbrev pub no_parts : AuthenticodeSignatureBuilder
no_parts = record {
  certs = None;
  digest_algorithm = None;
  content_info = None;
  signing_key = None;
  authenticated_attributes = None;
  unsigned_attributes = None;
  named = None;
}

-- ---- the arguments

-- The required arguments: the digest algorithm, the content, the key, the identifier of the
-- signer's certificate, and certificates.
pub record Given : Type 0 where
  pub hash : ShaVariant
  pub content : EncapsulatedContentInfo
  pub key : PrivateKey
  pub named : IssuerAndSerialNumber
  pub bag : List CertificateElements

-- the given certificates, by their stored elements
abbrev pub bag_in : Option (Vec KeptCertificate Global) → Option (List CertificateElements)
bag_in certificates =
    option_map (λ (v : Vec KeptCertificate Global). elements_of v.items) certificates

-- The builder has the required arguments.
pub record HasGiven (b : AuthenticodeSignatureBuilder) (g : Given) : Type 0 where
  pub hash : b.digest_algorithm ≡ Some (hash_of g.hash)
  pub content : b.content_info ≡ Some g.content
  pub key : option_copied b.signing_key ≡ Some g.key
  pub named : b.named ≡ Some g.named
  pub bag : bag_in b.certs ≡ Some g.bag

-- the signed attributes, none if they aren't given
abbrev pub attributes_in : Option (List Attribute) → List Attribute
attributes_in None = []
attributes_in (Some attributes) = attributes

-- the octets that are signed: of the attributes if they are given, else of the content
abbrev pub message_in : Option (List Attribute) → (content : List ℕ)
    → (attributes : List DerElement) → List ℕ
message_in None content attributes = content
message_in (Some given) content attributes = attributes_message attributes

-- the octets that are signed
abbrev pub message_by : AuthenticodeSignatureBuilder → Given → List ℕ
message_by b g =
    message_in b.authenticated_attributes (encoding (content_info g.content))
    (map attribute (attributes_in b.authenticated_attributes))

-- unsigned attributes are absent if there are none
abbrev pub unsigned_in : Option (List UnsignedAttribute) → Option DerElement
unsigned_in None = None
unsigned_in (Some []) = None
unsigned_in (Some (a ∷ attributes)) = Some (list_element 0xA1 unsigned_attribute (a ∷ attributes))

-- ---- the signature

-- The parts of the signature.
abbrev pub parts_by : AuthenticodeSignatureBuilder → Given → (carried : List CertificateElements)
    → (signature : List ℕ) → SignatureParts
parts_by b g carried signature = record {
  algorithm = digest_algorithm g.hash;
  content_info = content_info g.content;
  certificates = map certificate_of carried;
  named = issuer_and_serial_number g.named;
  attributes = attributes_element (map attribute (attributes_in b.authenticated_attributes));
  signature = signature;
  unsigned = unsigned_in b.unsigned_attributes;
}

-- The certificate is the first with this issuer and serial number.
abbrev pub IsNamedFirst : Given → CertificateElements → Type 0
IsNamedFirst g c = (place : ℕ) × IsLeastPlace g.bag (HasIssuerAndSerial g.named) 0 place c

-- It is the signer's: the first with this issuer and serial number, and it may sign code (RFC 5280
-- 4.2.1.12).
pub record IsSigner (g : Given) (c : CertificateElements) : Type 0 where
  pub first : IsNamedFirst g c
  pub code_signing : IsForCodeSigning g.bag c

-- ---- steps

-- a required argument is given
abbrev pub part_step : {X : Type 0} → AuthenticodeSignatureBuilderError → Option X
    → Step AuthenticodeSignatureBuilderError
part_step {X} missing option = record {
  taken = (x : X) × (option ≡ Some x);
  refused = λ e. (option ≡ None) × (e ≡ missing);
}

-- the digest algorithm is supported
abbrev pub supported_step : Option HashAlgorithm → Step AuthenticodeSignatureBuilderError
supported_step hash = record {
  taken = hash ≢ Some SHA2_224;
  refused = λ e. (algorithm : HashAlgorithm) × (hash ≡ Some algorithm)
      × Wraps (λ source. errors.AuthenticodeError (signatures.UnsupportedHashAlgorithmError source))
      (RefusesHash algorithm) e;
}

-- one of the certificates has the issuer and the serial number
abbrev pub named_step : Given → Step AuthenticodeSignatureBuilderError
named_step g = record {
  taken = (c : CertificateElements) × IsNamedFirst g c;
  refused = λ e. HasNoPlace g.bag (HasIssuerAndSerial g.named) 0
      × (e ≡ errors.AuthenticodeError (signatures.NoCertificatesAssociatedWithIssuerAndSerialNumber
      (name_of_sets g.named.issuer) g.named.serial_number));
}

-- the first of them may sign code
abbrev pub purpose_step : Given → Step AuthenticodeSignatureBuilderError
purpose_step g = record {
  taken = (c : CertificateElements) × IsSigner g c;
  refused = λ e. (c : CertificateElements) × IsNamedFirst g c × (IsForCodeSigning g.bag c → ⊥)
      × (e ≡ errors.AuthenticodeError signatures.NoEKUCodeSigning);
}

-- elements are written, in order
abbrev pub element_step : List DerElement → Step AuthenticodeSignatureBuilderError
element_step elements = record {
  taken = AreDer elements;
  refused = Wraps unwritten_in_builder (RefusesInner elements);
}

-- what is written for the content
abbrev pub content_by : Given → List DerElement
content_by g = content_info g.content ∷ []

-- what is written for the signed attributes, with their inner elements
abbrev pub attributes_by : List Attribute → List DerElement
attributes_by attributes =
    inner_attributes attributes ++ attributes_element (map attribute attributes) ∷ []

-- the signature algorithm
abbrev pub algorithm_by : Given → SignatureAlgorithm
algorithm_by g = RsaPkcs1v15 (hash_of g.hash)

-- the key signs the message
abbrev pub key_step : Signs → SignatureAlgorithm → PrivateKey → (message : List ℕ)
    → Step AuthenticodeSignatureBuilderError
key_step signs algorithm key message = record {
  taken = IsAsked signs algorithm key message true;
  refused = Wraps (λ source. builder_refusal (of_signatures source))
      (RefusesSignatureBy (sign_rules signs algorithm key message));
}

-- the required arguments, in order
abbrev pub part_steps : AuthenticodeSignatureBuilder → List (Step AuthenticodeSignatureBuilderError)
part_steps b =
    part_step errors.MissingDigestAlgorithm b.digest_algorithm ∷ supported_step b.digest_algorithm ∷
    part_step errors.MissingContentInfo b.content_info ∷
    part_step errors.MissingSigningKey b.signing_key ∷
    part_step errors.MissingIssuerAndSerialNumber b.named ∷
    part_step errors.MissingCertificatesRequired b.certs ∷ []

-- the steps with the arguments
abbrev pub steps_of : Signs → AuthenticodeSignatureBuilder → Given
    → List (Step AuthenticodeSignatureBuilderError)
steps_of signs b g =
    named_step g ∷ purpose_step g ∷ element_step (content_by g) ∷
    element_step (attributes_by (attributes_in b.authenticated_attributes)) ∷
    key_step signs (algorithm_by g) g.key (message_by b g) ∷ []

-- a step with the arguments
abbrev pub of_given : AuthenticodeSignatureBuilder
    → (Given → Step AuthenticodeSignatureBuilderError) → Step AuthenticodeSignatureBuilderError
of_given b step = record {
  taken = (g : Given) × HasGiven b g × (step g).taken;
  refused = λ e. (g : Given) × HasGiven b g × (step g).refused e;
}

-- the steps that follow
abbrev pub later_steps : Signs → AuthenticodeSignatureBuilder
    → List (Step AuthenticodeSignatureBuilderError)
later_steps signs b =
    of_given b named_step ∷ of_given b purpose_step ∷
    of_given b (λ g. element_step (content_by g)) ∷
    element_step (attributes_by (attributes_in b.authenticated_attributes)) ∷
    of_given b (λ g. key_step signs (algorithm_by g) g.key (message_by b g)) ∷ []

-- All steps, in order.
abbrev pub building_steps : Signs → AuthenticodeSignatureBuilder
    → List (Step AuthenticodeSignatureBuilderError)
building_steps signs b = part_steps b ++ later_steps signs b

-- ---- the built signature

-- The signed data is the signature that the builder describes, by this key and by the identified
-- certificate.
pub record IsBuiltOf (scheme : KeyArithmetic) (b : AuthenticodeSignatureBuilder) (g : Given)
    (built : SignedDataElements) : Type 0 where
  pub signer : CertificateElements
  pub is_signer : IsSigner g signer
  pub carried : List CertificateElements
  pub are_carried : AreWithoutRoots g.bag carried
  pub signature : List ℕ
  pub is_signature : IsSignature scheme (algorithm_by g) g.key (message_by b g) signature
  pub fields : built ≡ signature_made (parts_by b g carried signature)

-- The signed data is what the builder describes, and no step failed.
pub record IsBuiltSignature (scheme : KeyArithmetic) (b : AuthenticodeSignatureBuilder)
    (built : SignedDataElements) : Type 0 where
  pub given : Given
  pub are_given : HasGiven b given
  pub is_built : IsBuiltOf scheme b given built
  pub taken : AreTaken (building_steps scheme.signs b)
