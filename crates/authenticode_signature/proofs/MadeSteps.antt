-- Making a signature step by step.
use Rattle.std.proofs.Common.{◌≡◌, ◌≢◌, ℕ, List, [], ◌∷◌, Option, Some, None, map, refl, ap, subst, ◌∙◌, inl, inr}
use Rattle.asn1_types.specs.Ia5String.{RefusesCharSet}
use Rattle.asn1_types.specs.declared.error.CharSetError.{CharSetError}
use Rattle.asn1_types.specs.declared.error.CharSetError.TheVariants as char_set
use Rattle.asn1_types.specs.declared.oids.TheConstants.{SPC_INDIRECT_DATA}
use Rattle.cms_content.specs.ContentInfoElements.{content_info_of}
use Rattle.cms_types.specs.DigestAlgorithm.{digest_algorithm}
use Rattle.cms_types.specs.SignedDataElements.{SignedDataElements}
use Rattle.der_core.specs.DerElement.{DerElement, Primitive}
use Rattle.der_core.specs.Encoding.{IsDer}
use Rattle.der_core.specs.Borrowed.{AreDer}
use Rattle.der_core.specs.Refusals.{RefusesInner}
use Rattle.der_core.specs.Steps.{AreTaken, RefusesBySteps}
use Rattle.der_core.specs.declared.error.DerError.{DerError}
use Rattle.der_core.proofs.TakenSteps.{refused_before, refused_behind}
use Rattle.key_core.specs.SignatureRules.{RefusesSignatureBy}
use Rattle.key_core.specs.Signing.{Signs, Pair, arithmetic, sign_rules}
use Rattle.key_core.specs.Verifying.{Judge}
use Rattle.key_core.specs.declared.private_key.PrivateKey.{PrivateKey}
use Rattle.key_core.specs.declared.signature_error.SignatureError.{SignatureError}
use Rattle.key_core.specs.declared.signature_algorithm.SignatureAlgorithm.{SignatureAlgorithm}
use Rattle.key_core.specs.declared.signature_algorithm.SignatureAlgorithm.TheVariants.{RsaPkcs1v15}
use Rattle.sig_core.specs.declared.hash.HashAlgorithm.{HashAlgorithm}
use Rattle.sig_core.specs.ShaVariant.{hash_of}
use Rattle.sig_core.specs.declared.hash.HashAlgorithm.TheVariants.{SHA2_224}
use Rattle.sig_core.specs.declared.sha_variant.ShaVariant.{ShaVariant}
use Rattle.x509_types.specs.CertificateElements.{CertificateElements, certificate_of}
use Rattle.authenticode_core.specs.ContentRefusal.{of_char_set, of_der, of_signatures}
use Rattle.authenticode_core.specs.SigningRules.{IsBagOf, IsForCodeSigning}
use Rattle.authenticode_core.specs.declared.error.AuthenticodeError.{AuthenticodeError}
use Rattle.authenticode_core.specs.declared.error.AuthenticodeError.TheVariants as errors
use Rattle.authenticode_parts.specs.Carried.{AreCarried}
use Rattle.authenticode_parts.specs.MadeContent.{attributes_message, content_digest, data_element, opus_element, program_attributes}
use Rattle.authenticode_parts.specs.MadeSignature.{attributes_element, signature_made}
use Rattle.authenticode_parts.specs.SignedProgram.{IsBasicName, IsSignature, IsSignedProgram, Program, algorithm_for}
use Rattle.authenticode_parts.specs.SignedProgram.{attributes_for, message_for, issuer_and_serial_of, program_of}
use Rattle.authenticode_signature.specs.Making.{HasNoFirstForSigning, HasFirstForSigning, IsFirstForSigning, IsMadeOf, attributes_written, certificates_step}
use Rattle.authenticode_signature.specs.Making.{code_signing_step, hash_step, making_steps, name_step, sealing_step, program_steps, writing_step}

-- ---- the first step

pub bad_name : (name : Option (List ℕ)) (source : CharSetError) → RefusesCharSet (IsBasicName name) source
    → RefusesBySteps errors.Memory (name_step name ∷ []) (of_char_set source)
bad_name name char_set.CharSet refused = inl (inl (refused, refl))
bad_name name char_set.Memory refused = inr refl

-- ---- the first steps

module _ (signs : Signs) (f : SignedDataElements) (name : Option (List ℕ)) (p : Program) (key : PrivateKey) (e : AuthenticodeError) where
  pub no_name : RefusesBySteps errors.Memory (name_step name ∷ []) e → RefusesBySteps errors.Memory (making_steps signs f name p key) e
  no_name refused = refused_before errors.Memory (name_step name ∷ [])
      (hash_step (hash_of p.hash) ∷ certificates_step f ∷ code_signing_step f ∷ program_steps signs p key) e refused

  pub no_hash : IsBasicName name → RefusesBySteps errors.Memory (hash_step (hash_of p.hash) ∷ []) e
      → RefusesBySteps errors.Memory (making_steps signs f name p key) e
  no_hash basic refused =
      refused_behind errors.Memory (name_step name ∷ []) (hash_step (hash_of p.hash) ∷ certificates_step f ∷ code_signing_step f ∷ program_steps signs p key)
      e (basic, tt)
      (refused_before errors.Memory (hash_step (hash_of p.hash) ∷ []) (certificates_step f ∷ code_signing_step f ∷ program_steps signs p key) e refused)

  pub no_signer : (bag : List CertificateElements) → IsBasicName name → hash_of p.hash ≢ SHA2_224 → IsBagOf f bag → HasNoFirstForSigning bag e
      → RefusesBySteps errors.Memory (making_steps signs f name p key) e
  no_signer [] basic known is none = inl (inr (basic, inr (known, inl (is, none))))
  no_signer (first ∷ others) basic known is none = inl (inr (basic, inr (known, inr ((first, others, is), inl (first, others, is, none.0, none.1)))))

  has_signer : (bag : List CertificateElements) (first : CertificateElements) → IsBasicName name → hash_of p.hash ≢ SHA2_224 → IsBagOf f bag
      → IsFirstForSigning bag first
      → AreTaken (name_step name ∷ hash_step (hash_of p.hash) ∷ certificates_step f ∷ code_signing_step f ∷ [])
  has_signer bag first basic known is (others, are, may) =
      let of : IsBagOf f (first ∷ others) = subst (IsBagOf f) are is in (
        basic,
        (
          known,
          (
            (first, others, of),
            ((first, others, record { bag = of; code_signing = subst (λ (b : List CertificateElements). IsForCodeSigning b first) are may }), tt),
          ),
        ),
      )

  pub not_signed : (bag : List CertificateElements) (first : CertificateElements) → IsBasicName name → hash_of p.hash ≢ SHA2_224 → IsBagOf f bag
      → IsFirstForSigning bag first
      → RefusesBySteps errors.Memory (program_steps signs p key) e → RefusesBySteps errors.Memory (making_steps signs f name p key) e
  not_signed bag first basic known is signer refused =
      refused_behind errors.Memory (name_step name ∷ hash_step (hash_of p.hash) ∷ certificates_step f ∷ code_signing_step f ∷ []) (program_steps signs p key) e
      (has_signer bag first basic known is signer) refused

pub made_of : (judge : Judge) (signs : Signs) (pair : Pair) (f : SignedDataElements) (hash : ShaVariant) (file_hash : List ℕ) (name : Option (List ℕ))
    (key : PrivateKey) (bag : List CertificateElements) (first : CertificateElements) (made : SignedDataElements)
    → IsBasicName name → hash_of hash ≢ SHA2_224 → IsBagOf f bag → IsFirstForSigning bag first
    → IsSignedProgram (arithmetic judge signs pair) bag first (program_of hash file_hash name) key made
    → AreTaken (program_steps signs (program_of hash file_hash name) key) → IsMadeOf (arithmetic judge signs pair) f hash file_hash name key made
made_of judge signs pair f hash file_hash name key bag first made basic known is (others, are, may) signed taken =
    let of : IsBagOf f (first ∷ others) = subst (IsBagOf f) are is in
    let signer : HasFirstForSigning f first others = record {
      bag = of;
      code_signing = subst (λ (b : List CertificateElements). IsForCodeSigning b first) are may;
    } in
    record {
      basic = basic;
      supported = known;
      first = first;
      others = others;
      signer = signer;
      program =
          subst (λ (b : List CertificateElements). IsSignedProgram (arithmetic judge signs pair) b first (program_of hash file_hash name) key made) are signed;
      taken = (basic, (known, ((first, others, of), ((first, others, signer), taken))));
    }

-- ---- the later steps

module _ (signs : Signs) (p : Program) (key : PrivateKey) (e : AuthenticodeError) where
  pub no_content : RefusesBySteps errors.Memory (writing_step (data_element p.hash p.file_hash ∷ []) ∷ []) e
      → RefusesBySteps errors.Memory (program_steps signs p key) e
  no_content refused =
      refused_before errors.Memory (writing_step (data_element p.hash p.file_hash ∷ []) ∷ [])
      (writing_step (attributes_written p) ∷ sealing_step signs (algorithm_for p) key (message_for p) ∷ []) e refused

  pub no_attributes : IsDer (data_element p.hash p.file_hash) → RefusesBySteps errors.Memory (writing_step (attributes_written p) ∷ []) e
      → RefusesBySteps errors.Memory (program_steps signs p key) e
  no_attributes der refused =
      refused_behind errors.Memory (writing_step (data_element p.hash p.file_hash ∷ []) ∷ [])
      (writing_step (attributes_written p) ∷ sealing_step signs (algorithm_for p) key (message_for p) ∷ []) e ((der, tt), tt)
      (refused_before errors.Memory (writing_step (attributes_written p) ∷ []) (sealing_step signs (algorithm_for p) key (message_for p) ∷ []) e refused)

  pub no_signature : IsDer (data_element p.hash p.file_hash) → AreDer (attributes_written p)
      → RefusesBySteps errors.Memory (sealing_step signs (algorithm_for p) key (message_for p) ∷ []) e
      → RefusesBySteps errors.Memory (program_steps signs p key) e
  no_signature der attributes refused =
      refused_behind errors.Memory (writing_step (data_element p.hash p.file_hash ∷ []) ∷ writing_step (attributes_written p) ∷ [])
      (sealing_step signs (algorithm_for p) key (message_for p) ∷ []) e ((der, tt), (attributes, tt)) refused

pub signed_program : (judge : Judge) (signs : Signs) (pair : Pair) (bag : List CertificateElements) (first : CertificateElements) (p : Program)
    (key : PrivateKey) (made : SignedDataElements) (content attributes : DerElement) (signature : List ℕ)
    → content ≡ data_element p.hash p.file_hash → attributes ≡ attributes_element (program_attributes p.opus (content_digest p.hash p.file_hash))
    → IsSignature (arithmetic judge signs pair) (algorithm_for p) key (message_for p) signature
    → (carried : List CertificateElements) → AreCarried bag carried
    → made ≡ signature_made (record {
      algorithm = digest_algorithm p.hash;
      content_info = content_info_of (Primitive 0x06 SPC_INDIRECT_DATA.now) (Some content);
      certificates = map certificate_of carried;
      named = issuer_and_serial_of first;
      attributes = attributes;
      signature = signature;
      unsigned = None;
    })
    → IsSignedProgram (arithmetic judge signs pair) bag first p key made
signed_program judge signs pair bag first p key made content attributes signature d a is carried are fields = record {
  carried = carried;
  are_carried = are;
  signature = signature;
  is_signature = is;
  fields = fields ∙ ap (λ (x : DerElement). signature_made (record {
    algorithm = digest_algorithm p.hash;
    content_info = content_info_of (Primitive 0x06 SPC_INDIRECT_DATA.now) (Some x);
    certificates = map certificate_of carried;
    named = issuer_and_serial_of first;
    attributes = attributes;
    signature = signature;
    unsigned = None;
  })) d ∙ ap (λ (x : DerElement). signature_made (record {
    algorithm = digest_algorithm p.hash;
    content_info = content_info_of (Primitive 0x06 SPC_INDIRECT_DATA.now) (Some (data_element p.hash p.file_hash));
    certificates = map certificate_of carried;
    named = issuer_and_serial_of first;
    attributes = x;
    signature = signature;
    unsigned = None;
  })) a;
}

-- ---- elements that aren't written

pub unwritten_as : (x y : DerElement) (source : DerError) (e : AuthenticodeError) → x ≡ y → e ≡ of_der source → RefusesInner (x ∷ []) source
    → RefusesBySteps errors.Memory (writing_step (y ∷ []) ∷ []) e
unwritten_as x y source e same returned refused = inl (inl (source, returned, subst (λ (d : DerElement). RefusesInner (d ∷ []) source) same refused))

pub no_attributes_of : (signs : Signs) (p : Program) (key : PrivateKey) (e : AuthenticodeError) (digest : List ℕ) → digest ≡ content_digest p.hash p.file_hash
    → IsDer (data_element p.hash p.file_hash)
    → RefusesBySteps errors.Memory (writing_step (p.opus ∷ attributes_element (program_attributes p.opus digest) ∷ []) ∷ []) e
    → RefusesBySteps errors.Memory (program_steps signs p key) e
no_attributes_of signs p key e digest same der refused =
    no_attributes signs p key e der
    (subst (λ (d : List ℕ). RefusesBySteps errors.Memory (writing_step (p.opus ∷ attributes_element (program_attributes p.opus d) ∷ []) ∷ []) e) same refused)

-- ---- the signature

pub sealed_as : (judge : Judge) (signs : Signs) (pair : Pair) (algorithm : SignatureAlgorithm) (key : PrivateKey) (octets message signature : List ℕ)
    → octets ≡ message
    → IsSignature (arithmetic judge signs pair) algorithm key octets signature → IsSignature (arithmetic judge signs pair) algorithm key message signature
sealed_as judge signs pair algorithm key octets message signature same is =
    subst (λ (m : List ℕ). IsSignature (arithmetic judge signs pair) algorithm key m signature) same is

pub unsealed_as : (signs : Signs) (algorithm : SignatureAlgorithm) (key : PrivateKey) (octets message : List ℕ) (source : SignatureError)
    (e : AuthenticodeError) → octets ≡ message → e ≡ of_signatures source
    → RefusesSignatureBy (sign_rules signs algorithm key octets) source → RefusesBySteps errors.Memory (sealing_step signs algorithm key message ∷ []) e
unsealed_as signs algorithm key octets message source e same returned refused =
    inl (inl (source, returned, subst (λ (m : List ℕ). RefusesSignatureBy (sign_rules signs algorithm key m) source) same refused))

-- ---- a signature over the stored attributes

module _ (signs : Signs) (p : Program) (key : PrivateKey) (algorithm : HashAlgorithm) (digest : List ℕ) (attributes : DerElement)
    (known : algorithm ≡ hash_of p.hash) (digested : digest ≡ content_digest p.hash p.file_hash) where
  kept_as : attributes ≡ attributes_element (program_attributes p.opus digest) → attributes ≡ attributes_element (attributes_for p)
  kept_as kept = kept ∙ ap (λ (d : List ℕ). attributes_element (program_attributes p.opus d)) digested

  unsealed_at : (e : AuthenticodeError) → attributes ≡ attributes_element (program_attributes p.opus digest)
      → ((members : List DerElement) → attributes ≡ attributes_element members
      → RefusesBySteps errors.Memory (sealing_step signs (RsaPkcs1v15 algorithm) key (attributes_message members) ∷ []) e)
      → RefusesBySteps errors.Memory (sealing_step signs (algorithm_for p) key (message_for p) ∷ []) e
  unsealed_at e kept refused =
      subst (λ (h : HashAlgorithm). RefusesBySteps errors.Memory (sealing_step signs (RsaPkcs1v15 h) key (message_for p) ∷ []) e) known
      (refused (attributes_for p) (kept_as kept))

pub unsealed : (signs : Signs) (p : Program) (key : PrivateKey) (e : AuthenticodeError) (algorithm : HashAlgorithm) (digest : List ℕ) (attributes : DerElement)
    → algorithm ≡ hash_of p.hash → digest ≡ content_digest p.hash p.file_hash
    → IsDer (data_element p.hash p.file_hash) → attributes ≡ attributes_element (program_attributes p.opus digest)
    → AreDer (p.opus ∷ attributes_element (program_attributes p.opus digest) ∷ [])
    → ((members : List DerElement) → attributes ≡ attributes_element members
    → RefusesBySteps errors.Memory (sealing_step signs (RsaPkcs1v15 algorithm) key (attributes_message members) ∷ []) e)
    → RefusesBySteps errors.Memory (program_steps signs p key) e
unsealed signs p key e algorithm digest attributes known digested der kept bounded refused =
    no_signature signs p key e der (subst (λ (d : List ℕ). AreDer (p.opus ∷ attributes_element (program_attributes p.opus d) ∷ [])) digested bounded)
    (unsealed_at signs p key algorithm digest attributes known digested e kept refused)

pub sealed_program : (judge : Judge) (signs : Signs) (pair : Pair) (bag : List CertificateElements) (first : CertificateElements) (p : Program)
    (key : PrivateKey) (made : SignedDataElements) (content attributes : DerElement) (signature : List ℕ)
    (algorithm : HashAlgorithm) (digest : List ℕ) → algorithm ≡ hash_of p.hash → digest ≡ content_digest p.hash p.file_hash
    → content ≡ data_element p.hash p.file_hash → attributes ≡ attributes_element (program_attributes p.opus digest)
    → ((members : List DerElement) → attributes ≡ attributes_element members
    → IsSignature (arithmetic judge signs pair) (RsaPkcs1v15 algorithm) key (attributes_message members) signature)
    → (carried : List CertificateElements) → AreCarried bag carried
    → made ≡ signature_made (record {
      algorithm = digest_algorithm p.hash;
      content_info = content_info_of (Primitive 0x06 SPC_INDIRECT_DATA.now) (Some content);
      certificates = map certificate_of carried;
      named = issuer_and_serial_of first;
      attributes = attributes;
      signature = signature;
      unsigned = None;
    })
    → IsSignedProgram (arithmetic judge signs pair) bag first p key made
sealed_program judge signs pair bag first p key made content attributes signature algorithm digest known digested d kept signed carried are fields =
    let is : attributes ≡ attributes_element (attributes_for p) = kept_as signs p key algorithm digest attributes known digested kept in
    signed_program judge signs pair bag first p key made content attributes signature d is
    (subst (λ (h : HashAlgorithm). IsSignature (arithmetic judge signs pair) (RsaPkcs1v15 h) key (message_for p) signature) known
    (signed (attributes_for p) is)) carried are fields

pub sealed_taken : (judge : Judge) (signs : Signs) (pair : Pair) (bag : List CertificateElements) (first : CertificateElements) (p : Program) (key : PrivateKey)
    (made : SignedDataElements) (digest : List ℕ) → digest ≡ content_digest p.hash p.file_hash
    → IsDer (data_element p.hash p.file_hash) → AreDer (p.opus ∷ attributes_element (program_attributes p.opus digest) ∷ [])
    → IsSignedProgram (arithmetic judge signs pair) bag first p key made → AreTaken (program_steps signs p key)
sealed_taken judge signs pair bag first p key made digest same der bounded signed = (
  (der, tt),
  (subst (λ (d : List ℕ). AreDer (p.opus ∷ attributes_element (program_attributes p.opus d) ∷ [])) same bounded, (signed.is_signature.signed, tt)),
)

-- ---- what is said about the program, by its name

pub not_signed_as : (signs : Signs) (f : SignedDataElements) (name : Option (List ℕ)) (hash : ShaVariant) (file_hash : List ℕ) (opus : DerElement)
    (key : PrivateKey) (e : AuthenticodeError) (bag : List CertificateElements) (first : CertificateElements)
    → opus ≡ opus_element name → IsBasicName name → hash_of hash ≢ SHA2_224 → IsBagOf f bag → IsFirstForSigning bag first
    → RefusesBySteps errors.Memory (program_steps signs (record { hash = hash; file_hash = file_hash; opus = opus }) key) e
    → RefusesBySteps errors.Memory (making_steps signs f name (program_of hash file_hash name) key) e
not_signed_as signs f name hash file_hash opus key e bag first said basic known is signer refused =
    not_signed signs f name (program_of hash file_hash name) key e bag first basic known is signer
    (subst (λ (o : DerElement). RefusesBySteps errors.Memory (program_steps signs (record { hash = hash; file_hash = file_hash; opus = o }) key) e)
    said refused)

pub made_as : (judge : Judge) (signs : Signs) (pair : Pair) (f : SignedDataElements) (name : Option (List ℕ)) (hash : ShaVariant) (file_hash : List ℕ)
    (opus : DerElement) (key : PrivateKey) (bag : List CertificateElements) (first : CertificateElements) (made : SignedDataElements)
    → opus ≡ opus_element name → IsBasicName name → hash_of hash ≢ SHA2_224 → IsBagOf f bag → IsFirstForSigning bag first
    → IsSignedProgram (arithmetic judge signs pair) bag first (record { hash = hash; file_hash = file_hash; opus = opus }) key made
    → AreTaken (program_steps signs (record { hash = hash; file_hash = file_hash; opus = opus }) key)
    → IsMadeOf (arithmetic judge signs pair) f hash file_hash name key made
made_as judge signs pair f name hash file_hash opus key bag first made said basic known is signer signed taken =
    made_of judge signs pair f hash file_hash name key bag first made basic known is signer
    (subst (λ (o : DerElement). IsSignedProgram (arithmetic judge signs pair) bag first (record { hash = hash; file_hash = file_hash; opus = o }) key made)
    said signed)
    (subst (λ (o : DerElement). AreTaken (program_steps signs (record { hash = hash; file_hash = file_hash; opus = o }) key)) said taken)
