-- A modification by a token with an error has no other outcome.
use Rattle.std.specs.Prelude.{◌≡◌, ◌≢◌, ◌⊎◌, List, [], ◌∷◌, Result, Ok, Err}
use Rattle.std.proofs.Common.{refl, sym, ap, subst, ◌∙◌, inl, inr, arith}
use Rattle.der_core.specs.DerElement.{DerElement}
use Rattle.der_core.specs.Encoding.{IsDer}
use Rattle.der_core.specs.Owned.{KeptElement}
use Rattle.der_core.specs.Writing.{RefusesToWrite}
use Rattle.der_core.specs.declared.error.DerError.{DerError}
use Rattle.der_core.specs.declared.error.DerError.TheVariants as der
use Rattle.key_core.specs.declared.element.Element.TheVariants as structures
use Rattle.x509_core.specs.CertRefusals.{unwritten}
use Rattle.x509_core.specs.declared.error.CertError.{CertError}
use Rattle.cms_types.specs.Members.{elements_of_kept}
use Rattle.cms_types.specs.SignerInfo.{signer_info}
use Rattle.cms_types.specs.declared.signed_data.SignedData.{SignedData}
use Rattle.cms_types.specs.declared.signer_info.SignerInfo.{SignerInfo}
use Rattle.authenticode_core.specs.declared.timestamp_error.TimestampError.{TimestampError}
use Rattle.authenticode_core.specs.declared.timestamp_error.TimestampError.TheVariants as errors
use Rattle.authenticode_signature.specs.Pkcs7.{signer_infos_of}
use Rattle.authenticode_signature.specs.TokenStamp.{CountersignsBy, IsFirstUnwritten, IsStampedBy, RefusesTokenStamp, token_modifies}
use Rattle.authenticode_signature.specs.declared.pkcs7.Pkcs7.{Pkcs7}

-- ---- causes

-- an element within limits is refused only when out of memory
not_unwritable : (element : DerElement) → IsDer element → (source : DerError) → source ≢ der.Memory → RefusesToWrite element source → ⊥
not_unwritable element is (der.Malformed m) known refused = refused
not_unwritable element is der.Shape known refused = refused
not_unwritable element is der.TooDeep known refused = omega (arith, is.nested, refused)
not_unwritable element is der.TooLong known refused = refused.1 is.short
not_unwritable element is der.Memory known refused = known refl

-- one cause refuses an element, out of memory aside
one_cause : (element : DerElement) (a b : DerError) → a ≢ der.Memory → b ≢ der.Memory → RefusesToWrite element a → RefusesToWrite element b → a ≡ b
one_cause element (der.Malformed m) b known known' refused refused' = absurd refused
one_cause element der.Shape b known known' refused refused' = absurd refused
one_cause element der.TooDeep (der.Malformed m) known known' refused refused' = absurd refused'
one_cause element der.TooDeep der.Shape known known' refused refused' = absurd refused'
one_cause element der.TooDeep der.TooDeep known known' refused refused' = refl
one_cause element der.TooDeep der.TooLong known known' refused refused' = absurd (omega (arith, refused, refused'.0))
one_cause element der.TooDeep der.Memory known known' refused refused' = absurd (known' refl)
one_cause element der.TooLong (der.Malformed m) known known' refused refused' = absurd refused'
one_cause element der.TooLong der.Shape known known' refused refused' = absurd refused'
one_cause element der.TooLong der.TooDeep known known' refused refused' = absurd (omega (arith, refused', refused.0))
one_cause element der.TooLong der.TooLong known known' refused refused' = refl
one_cause element der.TooLong der.Memory known known' refused refused' = absurd (known' refl)
one_cause element der.Memory b known known' refused refused' = absurd (known refl)

-- ---- first signers

one_first : (signers others others' : List SignerInfo) (a b : SignerInfo) → signers ≡ a ∷ others → signers ≡ b ∷ others' → a ≡ b
one_first signers others others' a b e f =
    let same : ◌≡◌ {A = List SignerInfo} (a ∷ others) (b ∷ others') = sym e ∙ f in cc

not_none : (signers others : List SignerInfo) (a : SignerInfo) → signers ≡ [] → signers ≡ a ∷ others → ⊥
not_none signers others a e f =
    let same : ◌≡◌ {A = List SignerInfo} [] (a ∷ others) = sym e ∙ f in cc

-- a single stored element is within limits
kept_der : (items : List KeptElement) (element : DerElement) → elements_of_kept items ≡ element ∷ [] → IsDer element
kept_der [] element e = absurd (cc e)
kept_der (kept ∷ items) element e =
    let same : kept.element ≡ element = cc e in subst IsDer same kept.der

same_cause : (signers : List SignerInfo) (a b : DerError) → a ≢ der.Memory → b ≢ der.Memory → IsFirstUnwritten signers a → IsFirstUnwritten signers b → a ≡ b
same_cause signers a b known known' first first' =
    let same = one_first signers first.others first'.others first.signer first'.signer first.first first'.first in
    one_cause (signer_info first'.signer) a b known known' (subst (λ (s : SignerInfo). RefusesToWrite (signer_info s) a) same first.refused) first'.refused

written_once : (signers : List SignerInfo) (attribute : _) (source : DerError) → source ≢ der.Memory → IsFirstUnwritten signers source
    → CountersignsBy signers attribute → ⊥
written_once signers attribute source known first by =
    let same = one_first signers first.others by.others first.signer by.signer first.first by.first in
    not_unwritable (signer_info by.signer) (kept_der by.values.items (signer_info by.signer) by.held) source known
    (subst (λ (s : SignerInfo). RefusesToWrite (signer_info s) source) same first.refused)

-- ---- outcomes

none_stamped : (countersigners signers : List SignerInfo) (a b : SignerInfo) (others others' : List SignerInfo) → (signers ≡ []) ⊎ (countersigners ≡ [])
    → signers ≡ a ∷ others → countersigners ≡ b ∷ others' → ⊥
none_stamped countersigners signers a b others others' (inl none) first first' = not_none signers others a none first
none_stamped countersigners signers a b others others' (inr none) first first' = not_none countersigners others' b none first'

empty_or_unwritten : (countersigners signers : List SignerInfo) (e : CertError) → RefusesTokenStamp countersigners signers errors.TimestampTokenEmpty
    → RefusesTokenStamp countersigners signers (errors.Asn1DerError e) → ⊥
empty_or_unwritten countersigners signers e (inl none) refused = refused.0 none
empty_or_unwritten countersigners signers e (inr none) refused =
    let first = refused.1.3 in not_none countersigners first.others first.signer none first.first

one_refusal : (countersigners signers : List SignerInfo) (e f : TimestampError) → RefusesTokenStamp countersigners signers e
    → RefusesTokenStamp countersigners signers f → f ≡ e
one_refusal countersigners signers errors.TimestampTokenEmpty errors.TimestampTokenEmpty a b = refl
one_refusal countersigners signers errors.TimestampTokenEmpty (errors.Asn1DerError f) a b = absurd (empty_or_unwritten countersigners signers f a b)
one_refusal countersigners signers errors.TimestampTokenEmpty (errors.Pkcs7Error f) a b = absurd b
one_refusal countersigners signers errors.TimestampTokenEmpty errors.Memory a b = absurd b
one_refusal countersigners signers (errors.Asn1DerError e) errors.TimestampTokenEmpty a b = absurd (empty_or_unwritten countersigners signers e b a)
one_refusal countersigners signers (errors.Asn1DerError e) (errors.Asn1DerError f) a b =
    let same = same_cause countersigners a.1.0 b.1.0 a.1.1 b.1.1 a.1.3 b.1.3 in
    ap errors.Asn1DerError (b.1.2 ∙ ap (unwritten structures.Pkcs7) (sym same) ∙ sym a.1.2)
one_refusal countersigners signers (errors.Asn1DerError e) (errors.Pkcs7Error f) a b = absurd b
one_refusal countersigners signers (errors.Asn1DerError e) errors.Memory a b = absurd b
one_refusal countersigners signers (errors.Pkcs7Error e) f a b = absurd a
one_refusal countersigners signers errors.Memory f a b = absurd a

refused_or_stamped : (token : Pkcs7) (before after : SignedData) (e : TimestampError) → RefusesTokenStamp (signer_infos_of token) before.signers_infos e
    → IsStampedBy token before after → ⊥
refused_or_stamped token before after errors.TimestampTokenEmpty refused is =
    let s = is.stamped in
    none_stamped (signer_infos_of token) before.signers_infos s.signer s.countersigns.signer s.others s.countersigns.others refused s.first s.countersigns.first
refused_or_stamped token before after (errors.Asn1DerError e) refused is =
    written_once (signer_infos_of token) is.stamped.stamp refused.1.0 refused.1.1 refused.1.3 is.stamped.countersigns
refused_or_stamped token before after (errors.Pkcs7Error e) refused is = refused
refused_or_stamped token before after errors.Memory refused is = refused

pub one_token_outcome : (token : Pkcs7) (before : SignedData) (e : TimestampError) (outcome : Result SignedData TimestampError)
    → token_modifies token before (Err e) → token_modifies token before outcome → outcome ≡ Err e
one_token_outcome token before e (Ok after) refused is = absurd (refused_or_stamped token before after e refused is)
one_token_outcome token before e (Err f) refused also = ap Err (one_refusal (signer_infos_of token) before.signers_infos e f refused also)
