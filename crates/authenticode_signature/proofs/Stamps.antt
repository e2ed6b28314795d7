-- Timestamping signed data, and why that fails.
use Rattle.std.proofs.Common.{◌≡◌, List, [], ◌∷◌, ◌++◌, ℕ, map, take, Some, refl, sym, ap, subst, ◌∙◌, inl, inr}
use Rattle.std.specs.Prelude.{slice_get}
use Rattle.der_core.specs.Refusals.{RefusesInner}
use Rattle.der_core.specs.Writing.{RefusesToWrite}
use Rattle.der_core.specs.Rules.{OrMemory}
use Rattle.der_core.specs.declared.error.DerError.{DerError}
use Rattle.der_core.specs.declared.error.DerError.TheVariants as der
use Rattle.key_core.specs.declared.element.Element.TheVariants as structures
use Rattle.x509_core.specs.CertRefusals.{unwritten}
use Rattle.sig_core.specs.declared.hash.HashAlgorithm.{HashAlgorithm}
use Rattle.cms_types.specs.Members.{elements_of_kept}
use Rattle.cms_types.specs.SignerInfo.{signer_info}
use Rattle.cms_types.specs.declared.signed_data.SignedData.{SignedData}
use Rattle.cms_types.specs.declared.signer_info.SignerInfo.{SignerInfo}
use Rattle.cms_types.specs.declared.unsigned_attribute.UnsignedAttribute.{UnsignedAttribute}
use Rattle.cms_types.specs.declared.unsigned_attribute.UnsignedAttribute.TheVariants as attributes
use Rattle.cms_types.specs.declared.unsigned_attribute.signer_values.SignerValues.{SignerValues}
use Rattle.authenticode_core.specs.StampRefusal.{stamp_refusal}
use Rattle.authenticode_core.specs.declared.error.AuthenticodeError.{AuthenticodeError}
use Rattle.authenticode_core.specs.declared.timestamp_error.TimestampError.{TimestampError}
use Rattle.authenticode_core.specs.declared.timestamp_error.TimestampError.TheVariants as errors
use Rattle.authenticode_signature.specs.Stamping.{HasFirstSignature, IsRefusedStamp, IsTokenFor, RefusesStamp, of_timestamp}
use Rattle.authenticode_signature.specs.Timestamper.{Giving, Modification}
use Rattle.authenticode_signature.specs.TokenStamp.{AreStamped, CountersignsBy, RefusesCountersigner, with_unsigned}
use Rattle.authenticode_signature.specs.declared.pkcs7.Pkcs7.{Pkcs7}
use Rattle.authenticode_signature.proofs.Requests.{refused_alone}

-- ---- the first signer

pub first_signed : (signers : List SignerInfo) (signer : SignerInfo) (octets : List ℕ) → Some signer ≡ slice_get signers 0 → octets ≡ signer.signature
    → HasFirstSignature signers octets
first_signed [] signer octets at is = absurd (cc at)
first_signed (x ∷ others) signer octets at is =
    let same : x ≡ signer = cc at in
    record { signer = x; others = others; first = refl; signature = is ∙ ap (λ (s : SignerInfo). s.signature) (sym same) }

pub token_for : (gives : Giving) (hash : HashAlgorithm) (signed : SignedData) (token : Pkcs7) (lent : List SignerInfo) (octets : List ℕ)
    → lent ≡ signed.signers_infos → HasFirstSignature lent octets
    → gives octets hash token → IsTokenFor gives hash signed token
token_for gives hash signed token lent octets same first given =
    record { octets = octets; first = subst (λ (signers : List SignerInfo). HasFirstSignature signers octets) same first; given = given }

-- ---- refusals

unstamped : (gives : Giving) (modifies : Modification) (risen : Type 0) (hash : HashAlgorithm) (before : SignedData) (e : TimestampError)
    → OrMemory errors.Memory (IsRefusedStamp gives modifies hash before) e
    → RefusesStamp gives modifies risen hash before (of_timestamp e)
unstamped gives modifies risen hash before errors.Memory cause = tt
unstamped gives modifies risen hash before (errors.Pkcs7Error e) (inr memory) = absurd (cc memory)
unstamped gives modifies risen hash before (errors.Pkcs7Error e) (inl refused) = (λ same. cc, inr refused)
unstamped gives modifies risen hash before (errors.Asn1DerError e) (inr memory) = absurd (cc memory)
unstamped gives modifies risen hash before (errors.Asn1DerError e) (inl refused) = (λ same. cc, inr refused)
unstamped gives modifies risen hash before errors.TimestampTokenEmpty (inr memory) = absurd (cc memory)
unstamped gives modifies risen hash before errors.TimestampTokenEmpty (inl refused) = (λ same. cc, inr refused)

pub refused_stamp : (gives : Giving) (modifies : Modification) (risen : Type 0) (hash : HashAlgorithm) (before : SignedData) (e : TimestampError)
    (returned : AuthenticodeError) → returned ≡ of_timestamp e
    → OrMemory errors.Memory (IsRefusedStamp gives modifies hash before) e → RefusesStamp gives modifies risen hash before returned
refused_stamp gives modifies risen hash before e returned is cause =
    subst (RefusesStamp gives modifies risen hash before) (sym is) (unstamped gives modifies risen hash before e cause)

-- ---- the counter-signature

pub countersigned : (signers others : List SignerInfo) (first : SignerInfo) (values : SignerValues) → signers ≡ first ∷ others
    → elements_of_kept values.items ≡ map signer_info (take 1 signers)
    → CountersignsBy signers (attributes.CounterSign values)
countersigned signers others first values e held =
    record {
      signer = first;
      others = others;
      first = e;
      values = values;
      is = refl;
      held = held ∙ ap (λ (ss : List SignerInfo). map signer_info (take 1 ss)) e;
    }

unwritten_first : (signers others : List SignerInfo) (first : SignerInfo) (source : DerError) → signers ≡ first ∷ others
    → RefusesToWrite (signer_info first) source
    → OrMemory errors.Memory (RefusesCountersigner signers) (stamp_refusal (unwritten structures.Pkcs7 source))
unwritten_first signers others first (der.Malformed m) e refused = absurd refused
unwritten_first signers others first der.Shape e refused = absurd refused
unwritten_first signers others first der.TooDeep e refused =
    inl (der.TooDeep, λ same. cc, refl, record { signer = first; others = others; first = e; refused = refused })
unwritten_first signers others first der.TooLong e refused =
    inl (der.TooLong, λ same. cc, refl, record { signer = first; others = others; first = e; refused = refused })
unwritten_first signers others first der.Memory e refused = inr refl

pub not_countersigned : (signers others : List SignerInfo) (first : SignerInfo) (source : DerError) (returned : TimestampError) → signers ≡ first ∷ others
    → RefusesInner (map signer_info (take 1 signers)) source
    → returned ≡ stamp_refusal (unwritten structures.Pkcs7 source) → OrMemory errors.Memory (RefusesCountersigner signers) returned
not_countersigned signers others first source returned e refused is =
    let alone : RefusesInner (signer_info first ∷ []) source = subst (λ (ss : List SignerInfo). RefusesInner (map signer_info (take 1 ss)) source) e refused in
    subst (OrMemory errors.Memory (RefusesCountersigner signers)) (sym is)
    (unwritten_first signers others first source e (refused_alone (signer_info first) source alone))

-- ---- the signers

pub are_stamped : (countersigners signers others none stamped all : List SignerInfo) (first new : SignerInfo) (stamp : UnsignedAttribute)
    → signers ≡ first ∷ others → CountersignsBy countersigners stamp
    → new ≡ with_unsigned first stamp → none ≡ [] → stamped ≡ none ++ new ∷ [] → all ≡ stamped ++ others → AreStamped countersigners signers all
are_stamped countersigners signers others none stamped all first new stamp e by is empty one joined =
    record {
      signer = first;
      others = others;
      first = e;
      stamp = stamp;
      countersigns = by;
      are = joined ∙ ap (λ (l : List SignerInfo). l ++ others) (one ∙ ap (λ (n : List SignerInfo). n ++ new ∷ []) empty)
          ∙ ap (λ (s : SignerInfo). s ∷ others) is;
    }
