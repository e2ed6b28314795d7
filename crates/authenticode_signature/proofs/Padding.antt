-- Octets are signed data with zeros after it, or they aren't, for one cause.
use Rattle.std.proofs.Common.{◌≡◌, ℕ, List, length, drop, refl, sym, ap, subst, ◌∙◌, inl, inr}
use Rattle.std.specs.Prelude.{replicate, MatchResult, Result, Ok, Err}
use Rattle.std.proofs.lemmas.List.{drop_at}
use Rattle.der_core.specs.DerElement.{DerElement}
use Rattle.der_core.specs.Encoding.{encoding, IsPaddedEncoding}
use Rattle.der_core.specs.Refusals.{RefusesShape}
use Rattle.der_core.specs.declared.error.DerError.{DerError}
use Rattle.der_core.specs.declared.error.DerError.TheVariants as der
use Rattle.der_core.specs.declared.fault.Malformed.{Malformed}
use Rattle.der_core.proofs.Elements.{first_once}
use Rattle.der_core.proofs.Exact.{no_fault_where_first}
use Rattle.der_core.proofs.Faults.{refused_as, same_malformed}
use Rattle.cms_types.specs.Pkcs7.{pkcs7}
use Rattle.cms_types.specs.declared.signed_data.pkcs7.Pkcs7Certificate.{Pkcs7Certificate}
use Rattle.authenticode_core.specs.Basic.{IsNoSignedData, IsMalformedPadded}
use Rattle.authenticode_core.proofs.OneData.{one_element}
use Rattle.authenticode_core.proofs.Padded.{IsFirst-padded}
use Rattle.authenticode_signature.specs.Unread.{RefusesPadded}

read_or_not : (octets : List ℕ) (element : DerElement) (m : Malformed) → IsPaddedEncoding octets element → IsMalformedPadded octets m → ⊥
read_or_not octets element m padded (inl fault) =
    no_fault_where_first octets element (length (encoding element)) m.at m.fault (IsFirst-padded octets element padded) fault
read_or_not octets element m padded (inr h) =
    let same = first_once octets element h.1.element (length (encoding element)) m.at (IsFirst-padded octets element padded) h.1.first in
    h.1.unpadded (padded.1, padded.2, ap (drop m.at) padded.3 ∙ drop_at (encoding element) (replicate padded.1 0) m.at same.1)

one_unread : (octets : List ℕ) (m n : Malformed) → IsMalformedPadded octets m → IsMalformedPadded octets n → m ≡ n
one_unread octets m n (inl a) (inl b) = refused_as octets n.at n.fault m b a
one_unread octets m n (inl a) (inr b) = absurd (no_fault_where_first octets b.1.element n.at m.at m.fault b.1.first a)
one_unread octets m n (inr a) (inl b) = absurd (no_fault_where_first octets a.1.element m.at n.at n.fault a.1.first b)
one_unread octets m n (inr a) (inr b) =
    same_malformed m n.at n.fault (first_once octets a.1.element b.1.element m.at n.at a.1.first b.1.first).1 (a.0 ∙ sym b.0)

-- ---- the cause is the returned one

pub unread_for : (octets : List ℕ) (m : Malformed) (source : DerError) → IsMalformedPadded octets m → IsNoSignedData octets source → der.Malformed m ≡ source
unread_for octets m (der.Malformed n) unread cause = ap der.Malformed (one_unread octets m n unread cause)
unread_for octets m der.Shape unread cause = absurd (read_or_not octets cause.element m cause.spelled unread)
unread_for octets m der.TooDeep unread cause = absurd cause
unread_for octets m der.TooLong unread cause = absurd cause
unread_for octets m der.Memory unread cause = absurd cause

pub shapeless_for : (octets : List ℕ) (element : DerElement) (source : DerError) → IsPaddedEncoding octets element → IsNoSignedData octets source
    → der.Shape ≡ source
shapeless_for octets element (der.Malformed n) padded cause = absurd (read_or_not octets element n padded cause)
shapeless_for octets element der.Shape padded cause = refl
shapeless_for octets element der.TooDeep padded cause = absurd cause
shapeless_for octets element der.TooLong padded cause = absurd cause
shapeless_for octets element der.Memory padded cause = absurd cause

-- there is none where signed data is encoded
pub none_for : (octets : List ℕ) (element : DerElement) (value : Pkcs7Certificate) (source : DerError) → IsPaddedEncoding octets element → element ≡ pkcs7 value
    → IsNoSignedData octets source → ⊥
none_for octets element value (der.Malformed n) padded is cause = read_or_not octets element n padded cause
none_for octets element value der.Shape padded is cause = cause.none value (one_element octets cause.element element cause.spelled padded ∙ is)
none_for octets element value der.TooDeep padded is cause = cause
none_for octets element value der.TooLong padded is cause = cause
none_for octets element value der.Memory padded is cause = cause

-- ---- what is read

pub padded_value : (octets : List ℕ) (element : DerElement) (value : Pkcs7Certificate) (r : Result Pkcs7Certificate DerError) → IsPaddedEncoding octets element
    → element ≡ pkcs7 value
    → MatchResult r (λ v. element ≡ pkcs7 v) (RefusesShape (λ v. element ≡ pkcs7 v))
    → MatchResult r (λ v. IsPaddedEncoding octets (pkcs7 v)) (RefusesPadded octets)
padded_value octets element value (Ok v) padded is same = subst (λ (x : DerElement). IsPaddedEncoding octets x) same padded
padded_value octets element value (Err (der.Malformed m)) padded is refused = absurd refused
padded_value octets element value (Err der.Shape) padded is refused = absurd (refused value is)
padded_value octets element value (Err der.TooDeep) padded is refused = absurd refused
padded_value octets element value (Err der.TooLong) padded is refused = absurd refused
padded_value octets element value (Err der.Memory) padded is refused = inr refl
