-- Building a signature step by step.
use Rattle.std.proofs.Common.{◌≡◌, ℕ, List, [], ◌∷◌, ◌++◌, map, Some, None, refl, sym, ap, subst, ◌∙◌, inl, inr}
use Rattle.std.specs.Prelude.{Vec}
use Rattle.std.specs.Borrow.{Bor}
use Rattle.std.specs.declared.alloc.Global.{Global}
use Rattle.cms_content.specs.ContentInfo.{content_info}
use Rattle.cms_content.specs.declared.content_info.EncapsulatedContentInfo.{EncapsulatedContentInfo}
use Rattle.cms_types.specs.SignedDataElements.{SignedDataElements}
use Rattle.cms_types.specs.declared.signer_info.issuer_and_serial.IssuerAndSerialNumber.{IssuerAndSerialNumber}
use Rattle.der_core.specs.DerElement.{DerElement}
use Rattle.der_core.specs.Encoding.{encoding}
use Rattle.der_core.specs.Borrowed.{AreDer}
use Rattle.der_core.specs.Steps.{Step, AreTaken, IsFirstUntaken, RefusesBySteps}
use Rattle.der_core.proofs.TakenSteps.{refused_before, refused_behind, untaken_before, untaken_behind}
use Rattle.key_core.specs.Signing.{Signs, Pair, arithmetic}
use Rattle.key_core.specs.Verifying.{Judge}
use Rattle.key_core.specs.declared.private_key.PrivateKey.{PrivateKey}
use Rattle.key_core.specs.declared.signature_algorithm.SignatureAlgorithm.TheVariants.{RsaPkcs1v15}
use Rattle.sig_core.specs.ShaVariant.{hash_of}
use Rattle.sig_core.specs.declared.hash.HashAlgorithm.{HashAlgorithm}
use Rattle.sig_core.specs.declared.sha_variant.ShaVariant.{ShaVariant}
use Rattle.x509_core.specs.OwnedCertificate.{KeptCertificate}
use Rattle.x509_types.specs.Attribute.{attribute}
use Rattle.x509_types.specs.CertificateElements.{CertificateElements}
use Rattle.authenticode_core.specs.SigningRules.{IsForCodeSigning}
use Rattle.authenticode_core.specs.declared.error.AuthenticodeError.TheVariants as signatures
use Rattle.authenticode_parts.specs.Carried.{elements_of}
use Rattle.authenticode_parts.specs.MadeSignature.{attributes_element}
use Rattle.authenticode_parts.specs.SignedProgram.{IsSignature}
use Rattle.authenticode_signature.specs.Building.{Given, HasGiven, IsBuiltSignature, IsBuiltOf, IsNamedFirst, IsSigner, algorithm_by, attributes_by}
use Rattle.authenticode_signature.specs.Building.{attributes_in, building_steps, content_by, element_step, part_step, part_steps, key_step}
use Rattle.authenticode_signature.specs.Building.{message_by, message_in, later_steps, named_step, purpose_step, steps_of, supported_step}
use Rattle.authenticode_signature.specs.declared.builder.AuthenticodeSignatureBuilder.{AuthenticodeSignatureBuilder}
use Rattle.authenticode_signature.specs.declared.builder_error.AuthenticodeSignatureBuilderError.{AuthenticodeSignatureBuilderError}
use Rattle.authenticode_signature.specs.declared.builder_error.AuthenticodeSignatureBuilderError.TheVariants as errors

-- ---- the required arguments

abbrev first_two : AuthenticodeSignatureBuilder → List (Step AuthenticodeSignatureBuilderError)
first_two b = part_step errors.MissingDigestAlgorithm b.digest_algorithm ∷ supported_step b.digest_algorithm ∷ []

module _ (b : AuthenticodeSignatureBuilder) where
  pub no_key_given : (content : EncapsulatedContentInfo) → AreTaken (first_two b) → b.content_info ≡ Some content → b.signing_key ≡ None
      → IsFirstUntaken (part_steps b) errors.MissingSigningKey
  no_key_given content taken is none = inr (taken.0, inr (taken.1.0, inr ((content, is), inl (none, refl))))

  pub no_name_given : (content : EncapsulatedContentInfo) (key : Bor PrivateKey) → AreTaken (first_two b) → b.content_info ≡ Some content
      → b.signing_key ≡ Some key → b.named ≡ None
      → IsFirstUntaken (part_steps b) errors.MissingIssuerAndSerialNumber
  no_name_given content key taken is by none = inr (taken.0, inr (taken.1.0, inr ((content, is), inr ((key, by), inl (none, refl)))))

  pub no_certificates_given : (content : EncapsulatedContentInfo) (key : Bor PrivateKey) (named : IssuerAndSerialNumber) → AreTaken (first_two b)
      → b.content_info ≡ Some content → b.signing_key ≡ Some key → b.named ≡ Some named → b.certs ≡ None
      → IsFirstUntaken (part_steps b) errors.MissingCertificatesRequired
  no_certificates_given content key named taken is by of none =
      inr (taken.0, inr (taken.1.0, inr ((content, is), inr ((key, by), inr ((named, of), inl (none, refl))))))

  pub are_taken : (content : EncapsulatedContentInfo) (key : Bor PrivateKey) (named : IssuerAndSerialNumber) (certificates : Vec KeptCertificate Global)
      → AreTaken (first_two b) → b.content_info ≡ Some content → b.signing_key ≡ Some key → b.named ≡ Some named
      → b.certs ≡ Some certificates → AreTaken (part_steps b)
  are_taken content key named certificates taken is by of in_all =
      (taken.0, (taken.1.0, ((content, is), ((key, by), ((named, of), ((certificates, in_all), tt))))))

  pub has_given : (hash : ShaVariant) (algorithm : HashAlgorithm) (content : EncapsulatedContentInfo) (key : Bor PrivateKey) (named : IssuerAndSerialNumber)
      (certificates : Vec KeptCertificate Global) (list : List KeptCertificate)
      → b.digest_algorithm ≡ Some algorithm → hash_of hash ≡ algorithm → b.content_info ≡ Some content → b.signing_key ≡ Some key → b.named ≡ Some named
      → b.certs ≡ Some certificates → list ≡ certificates.items
      → HasGiven b (record { hash = hash; content = content; key = key.now; named = named; bag = elements_of list })
  has_given hash algorithm content key named certificates list digest known is by of in_all same = record {
    hash = digest ∙ ap Some (sym known);
    content = is;
    key = rw by refl;
    named = of;
    bag = rw (in_all, same) refl;
  }

-- ---- the signer

pub not_for_code : (g : Given) (c : CertificateElements) → IsNamedFirst g c → (IsForCodeSigning g.bag c → ⊥)
    → RefusesBySteps errors.Memory (named_step g ∷ purpose_step g ∷ []) (errors.AuthenticodeError signatures.NoEKUCodeSigning)
not_for_code g c first fails = inl (inr ((c, first), inl (c, first, fails, refl)))

-- ---- the steps with the arguments

module _ (signs : Signs) (b : AuthenticodeSignatureBuilder) (g : Given) where
  abbrev behind_signer : List (Step AuthenticodeSignatureBuilderError)
  behind_signer = element_step (content_by g) ∷ element_step (attributes_by (attributes_in b.authenticated_attributes))
      ∷ key_step signs (algorithm_by g) g.key (message_by b g) ∷ []

  abbrev behind_content : List (Step AuthenticodeSignatureBuilderError)
  behind_content = element_step (attributes_by (attributes_in b.authenticated_attributes)) ∷ key_step signs (algorithm_by g) g.key (message_by b g) ∷ []

  pub no_signer : (e : AuthenticodeSignatureBuilderError) → RefusesBySteps errors.Memory (named_step g ∷ purpose_step g ∷ []) e
      → RefusesBySteps errors.Memory (steps_of signs b g) e
  no_signer e refused = refused_before errors.Memory (named_step g ∷ purpose_step g ∷ []) (behind_signer) e refused

  pub no_content : (e : AuthenticodeSignatureBuilderError) (c : CertificateElements) → IsSigner g c
      → RefusesBySteps errors.Memory (element_step (content_by g) ∷ []) e → RefusesBySteps errors.Memory (steps_of signs b g) e
  no_content e c signer refused =
      refused_behind errors.Memory (named_step g ∷ purpose_step g ∷ []) (behind_signer) e ((c, signer.first), ((c, signer), tt))
      (refused_before errors.Memory (element_step (content_by g) ∷ []) (behind_content) e refused)

  pub no_attributes : (e : AuthenticodeSignatureBuilderError) (c : CertificateElements) → IsSigner g c → AreDer (content_by g)
      → RefusesBySteps errors.Memory (element_step (attributes_by (attributes_in b.authenticated_attributes)) ∷ []) e
      → RefusesBySteps errors.Memory (steps_of signs b g) e
  no_attributes e c signer der refused =
      refused_behind errors.Memory (named_step g ∷ purpose_step g ∷ element_step (content_by g) ∷ []) (behind_content) e
      ((c, signer.first), ((c, signer), (der, tt)))
      (refused_before errors.Memory (element_step (attributes_by (attributes_in b.authenticated_attributes)) ∷ [])
      (key_step signs (algorithm_by g) g.key (message_by b g) ∷ []) e refused)

  pub no_signature : (e : AuthenticodeSignatureBuilderError) (c : CertificateElements) → IsSigner g c → AreDer (content_by g)
      → AreDer (attributes_by (attributes_in b.authenticated_attributes))
      → RefusesBySteps errors.Memory (key_step signs (algorithm_by g) g.key (message_by b g) ∷ []) e → RefusesBySteps errors.Memory (steps_of signs b g) e
  no_signature e c signer der bounded refused =
      refused_behind errors.Memory (named_step g ∷ purpose_step g ∷ element_step (content_by g)
      ∷ element_step (attributes_by (attributes_in b.authenticated_attributes)) ∷ []) (key_step signs (algorithm_by g) g.key (message_by b g) ∷ []) e
      ((c, signer.first), ((c, signer), (der, (bounded, tt)))) refused

-- ---- the signature over the message

module _ (b : AuthenticodeSignatureBuilder) (g : Given) (algorithm : HashAlgorithm) (octets : List ℕ) (element : DerElement)
    (known : hash_of g.hash ≡ algorithm) (written : octets ≡ encoding (content_info g.content))
    (kept : element ≡ attributes_element (map attribute (attributes_in b.authenticated_attributes))) where
  pub sealed_as : (judge : Judge) (signs : Signs) (pair : Pair) (signature : List ℕ)
      → ((members : List DerElement) → element ≡ attributes_element members
      → IsSignature (arithmetic judge signs pair) (RsaPkcs1v15 algorithm) g.key (message_in b.authenticated_attributes octets members) signature)
      → IsSignature (arithmetic judge signs pair) (algorithm_by g) g.key (message_by b g) signature
  sealed_as judge signs pair signature signed =
      subst (λ (h : HashAlgorithm). IsSignature (arithmetic judge signs pair) (RsaPkcs1v15 h) g.key (message_by b g) signature) (sym known)
      (subst (λ (o : List ℕ). IsSignature (arithmetic judge signs pair) (RsaPkcs1v15 algorithm) g.key
      (message_in b.authenticated_attributes o (map attribute (attributes_in b.authenticated_attributes))) signature) written
      (signed (map attribute (attributes_in b.authenticated_attributes)) kept))

  pub unsealed_as : (signs : Signs) (e : AuthenticodeSignatureBuilderError)
      → ((members : List DerElement) → element ≡ attributes_element members
      → RefusesBySteps errors.Memory (key_step signs (RsaPkcs1v15 algorithm) g.key (message_in b.authenticated_attributes octets members) ∷ []) e)
      → RefusesBySteps errors.Memory (key_step signs (algorithm_by g) g.key (message_by b g) ∷ []) e
  unsealed_as signs e refused =
      subst (λ (h : HashAlgorithm). RefusesBySteps errors.Memory (key_step signs (RsaPkcs1v15 h) g.key (message_by b g) ∷ []) e) (sym known)
      (subst (λ (o : List ℕ). RefusesBySteps errors.Memory (key_step signs (RsaPkcs1v15 algorithm) g.key
      (message_in b.authenticated_attributes o (map attribute (attributes_in b.authenticated_attributes))) ∷ []) e) written
      (refused (map attribute (attributes_in b.authenticated_attributes)) kept))

-- ---- the steps of the builder

later_untaken : (signs : Signs) (b : AuthenticodeSignatureBuilder) (g : Given) (e : AuthenticodeSignatureBuilderError) → HasGiven b g
    → IsFirstUntaken (steps_of signs b g) e
    → IsFirstUntaken (later_steps signs b) e
later_untaken signs b g e has (inl refused) = inl (g, has, refused)
later_untaken signs b g e has (inr (named, inl refused)) = inr ((g, has, named), inl (g, has, refused))
later_untaken signs b g e has (inr (named, inr (purpose, inl refused))) = inr ((g, has, named), inr ((g, has, purpose), inl (g, has, refused)))
later_untaken signs b g e has (inr (named, inr (purpose, inr (content, inl refused)))) =
    inr ((g, has, named), inr ((g, has, purpose), inr ((g, has, content), inl refused)))
later_untaken signs b g e has (inr (named, inr (purpose, inr (content, inr (attributes, inl refused))))) =
    inr ((g, has, named), inr ((g, has, purpose), inr ((g, has, content), inr (attributes, inl (g, has, refused)))))
later_untaken signs b g e has (inr (named, inr (purpose, inr (content, inr (attributes, inr (key, none)))))) = absurd none

pub not_given : (signs : Signs) (b : AuthenticodeSignatureBuilder) (e : AuthenticodeSignatureBuilderError) → IsFirstUntaken (part_steps b) e
    → RefusesBySteps errors.Memory (building_steps signs b) e
not_given signs b e refused = inl (untaken_before (part_steps b) (later_steps signs b) e refused)

pub not_built : (signs : Signs) (b : AuthenticodeSignatureBuilder) (g : Given) (e : AuthenticodeSignatureBuilderError) → HasGiven b g → AreTaken (part_steps b)
    → RefusesBySteps errors.Memory (steps_of signs b g) e
    → RefusesBySteps errors.Memory (building_steps signs b) e
not_built signs b g e has taken (inl first) = inl (untaken_behind (part_steps b)
    (later_steps signs b) e taken
    (later_untaken signs b g e has first))
not_built signs b g e has taken (inr out) = inr out

all_of : {E : Type 0} (a b : List (Step E)) → AreTaken a → AreTaken b → AreTaken (a ++ b)
all_of [] b x y = y
all_of (step ∷ a) b x y = (x.0, all_of a b x.1 y)

pub built_as : (judge : Judge) (signs : Signs) (pair : Pair) (b : AuthenticodeSignatureBuilder) (g : Given) (built : SignedDataElements) → HasGiven b g
    → AreTaken (part_steps b) → IsBuiltOf (arithmetic judge signs pair) b g built → AreTaken (steps_of signs b g)
    → IsBuiltSignature (arithmetic judge signs pair) b built
built_as judge signs pair b g built has taken is later = record {
  given = g;
  are_given = has;
  is_built = is;
  taken = all_of (part_steps b)
      (later_steps signs b)
      taken
      ((g, has, later.0), ((g, has, later.1.0), ((g, has, later.1.1.0), (later.1.1.1.0, ((g, has, later.1.1.1.1.0), tt)))));
}
