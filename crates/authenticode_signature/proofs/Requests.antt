-- Writing requests.
use Rattle.std.proofs.Common.{◌≡◌, ℕ, List, [], ◌∷◌, ◌++◌, length, sym, ap, subst, inl, inr, arith, length-append}
use Rattle.der_core.specs.DerElement.{DerElement}
use Rattle.der_core.specs.Refusals.{RefusesInner, IsFirstUnwritable}
use Rattle.der_core.specs.Writing.{RefusesToWrite}
use Rattle.der_core.specs.declared.error.DerError.{DerError}
use Rattle.der_core.specs.declared.error.DerError.TheVariants as der
use Rattle.key_core.specs.declared.element.Element.TheVariants as elements
use Rattle.x509_core.specs.CertRefusals.{IsUnwrittenCert}
use Rattle.x509_core.specs.declared.error.CertError.{CertError}
use Rattle.authenticode_core.specs.StampRefusal.{stamp_refusal}
use Rattle.authenticode_core.specs.declared.timestamp_error.TimestampError.{TimestampError}
use Rattle.authenticode_signature.specs.RequestRefusals.{IsRefusedRequest, IsTooLong}
use Rattle.authenticode_signature.specs.TimestampRequest.{asking_for}

only_one : (before after : List DerElement) (x y : DerElement) → x ∷ [] ≡ before ++ y ∷ after → x ≡ y
only_one [] after x y e = cc
only_one (b ∷ before) after x y e =
    let lengths = ap length e in
    let joined = length-append before (y ∷ after) in
    absurd (omega (arith, lengths, joined))

first_alone : (x : DerElement) (e : DerError) → IsFirstUnwritable (x ∷ []) e → RefusesToWrite x e
first_alone x e (before, y, after, split, der, refused) =
    subst (λ (z : DerElement). RefusesToWrite z e) (sym (only_one before after x y split)) refused

-- why an element isn't written on its own is why it isn't written
pub refused_alone : (x : DerElement) (e : DerError) → RefusesInner (x ∷ []) e → RefusesToWrite x e
refused_alone x (der.Malformed m) refused = refused
refused_alone x der.Shape refused = refused
refused_alone x der.TooDeep refused = first_alone x der.TooDeep refused
refused_alone x der.TooLong refused = first_alone x der.TooLong refused
refused_alone x der.Memory refused = tt

-- a request has few levels, so only its length can keep it from being written
unwritten_request : (digest : List ℕ) (e : CertError) → IsUnwrittenCert elements.TimestampRequest (RefusesInner (asking_for digest ∷ [])) e
    → IsTooLong (asking_for digest) (stamp_refusal e)
unwritten_request digest e (der.Malformed m, is, refused) = absurd refused
unwritten_request digest e (der.Shape, is, refused) = absurd refused
unwritten_request digest e (der.TooDeep, is, refused) =
    let deep = first_alone (asking_for digest) der.TooDeep refused in absurd (omega (arith, deep))
unwritten_request digest e (der.TooLong, is, refused) = inl (ap stamp_refusal is, (first_alone (asking_for digest) der.TooLong refused).1)
unwritten_request digest e (der.Memory, is, refused) = inr (ap stamp_refusal is)

pub request_refused : (digest : List ℕ) (element : DerElement) (e : TimestampError) → element ≡ asking_for digest
    → IsRefusedRequest (IsUnwrittenCert elements.TimestampRequest (RefusesInner (element ∷ []))) e → IsTooLong (asking_for digest) e
request_refused digest element e same (source, is, refused) =
    let asked = subst (λ (x : DerElement). IsUnwrittenCert elements.TimestampRequest (RefusesInner (x ∷ [])) source) same refused in
    subst (IsTooLong (asking_for digest)) (sym is) (unwritten_request digest source asked)
