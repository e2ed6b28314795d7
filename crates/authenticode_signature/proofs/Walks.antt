-- An issuer walk yields the certificates at its indices.
use Rattle.std.proofs.Common.{◌≡◌, ℕ, zero, suc, List, [], ◌∷◌, Some, Bool, true, false, map, refl, sym, subst, arith}
use Rattle.std.specs.Prelude.{bytes_eq, if◌then◌else◌}
use Rattle.std.proofs.lemmas.Bool.{both_ways}
use Rattle.std.proofs.lemmas.Slice.Eq.{bytes_eq-Decides}
use Rattle.der_core.specs.DerElement.{DerElement}
use Rattle.der_core.specs.Encoding.{encoding}
use Rattle.x509_core.specs.OwnedCertificate.{KeptCertificate}
use Rattle.x509_types.specs.CertificateElements.{CertificateElements}
use Rattle.authenticode_parts.specs.Carried.{elements_of}
use Rattle.authenticode_core.specs.IssuerWalk.{IsWalkFrom}
use Rattle.authenticode_core.specs.Names.{HasSubject}
use Rattle.authenticode_core.specs.Indices.{HasNoPlace, HasNoPlaceBetween, IsLeastPlace}
use Rattle.authenticode_signature.specs.Walk.{IsWalkOf, AreAtPlaces, walked}

-- ---- one certificate more before the others

further_none : (c : CertificateElements) (bag : List CertificateElements) (holds : CertificateElements → Type 0) (from : ℕ) → HasNoPlace bag holds from
    → HasNoPlace (c ∷ bag) holds (suc from)
further_none c bag holds from none zero d later stands fits = absurd (omega (arith, later))
further_none c bag holds from none (suc place) d later stands fits = none place d (omega (arith, later)) stands fits

further_before : (c : CertificateElements) (bag : List CertificateElements) (holds : CertificateElements → Type 0) (from place : ℕ)
    → HasNoPlaceBetween bag holds from place → HasNoPlaceBetween (c ∷ bag) holds (suc from) (suc place)
further_before c bag holds from place none zero d later before stands fits = absurd (omega (arith, later))
further_before c bag holds from place none (suc other) d later before stands fits = none other d (omega (arith, later)) (omega (arith, before)) stands fits

further_least : (c : CertificateElements) (bag : List CertificateElements) (holds : CertificateElements → Type 0) (from place : ℕ) (d : CertificateElements)
    → IsLeastPlace bag holds from place d → IsLeastPlace (c ∷ bag) holds (suc from) (suc place) d
further_least c bag holds from place d is = record {
  later = omega (arith, is.later);
  stands = is.stands;
  fits = is.fits;
  least = further_before c bag holds from place is.least;
}

pub further : (c : CertificateElements) (bag : List CertificateElements) (from : ℕ) (subject : DerElement) (places : List ℕ)
    → IsWalkFrom bag from subject places → IsWalkFrom (c ∷ bag) (suc from) subject (map (λ n. suc n) places)
further c bag from subject [] none = further_none c bag (HasSubject subject) from none
further c bag from subject (place ∷ places) w =
    (w.0, further_least c bag (HasSubject subject) from place w.0 w.1, further c bag (suc place) w.0.tbs.issuer places w.2)

stand_further : (k : KeptCertificate) (certificates : List KeptCertificate) (places : List ℕ) (items : List KeptCertificate)
    → AreAtPlaces certificates places items → AreAtPlaces (k ∷ certificates) (map (λ n. suc n) places) items
stand_further k certificates [] items none = none
stand_further k certificates (place ∷ places) items s = (s.0, s.1, s.2, s.3, stand_further k certificates places s.1 s.4)

-- ---- the first certificate hasn't the subject

is_first : (c d : CertificateElements) (holds : CertificateElements → Type 0) → (holds c → ⊥) → Some c ≡ Some d → holds d → ⊥
is_first c d holds fails stands fits =
    let same : d ≡ c = cc in
    fails (subst holds same fits)

from_first : (c : CertificateElements) (bag : List CertificateElements) (holds : CertificateElements → Type 0) → (holds c → ⊥) → HasNoPlace (c ∷ bag) holds 1
    → HasNoPlace (c ∷ bag) holds 0
from_first c bag holds fails none zero d later stands fits = is_first c d holds fails stands fits
from_first c bag holds fails none (suc place) d later stands fits = none (suc place) d (omega arith) stands fits

before_first : (c : CertificateElements) (bag : List CertificateElements) (holds : CertificateElements → Type 0) (to : ℕ) → (holds c → ⊥)
    → HasNoPlaceBetween (c ∷ bag) holds 1 to → HasNoPlaceBetween (c ∷ bag) holds 0 to
before_first c bag holds to fails none zero d later before stands fits = is_first c d holds fails stands fits
before_first c bag holds to fails none (suc place) d later before stands fits = none (suc place) d (omega arith) before stands fits

pub passed : (c : CertificateElements) (bag : List CertificateElements) (subject : DerElement) (places : List ℕ) → (HasSubject subject c → ⊥)
    → IsWalkFrom (c ∷ bag) 1 subject places → IsWalkFrom (c ∷ bag) 0 subject places
passed c bag subject [] fails none = from_first c bag (HasSubject subject) fails none
passed c bag subject (place ∷ places) fails w = (
  w.0,
  record { later = omega arith; stands = w.1.stands; fits = w.1.fits; least = before_first c bag (HasSubject subject) place fails w.1.least },
  w.2,
)

-- ---- the first certificate has it

none_before : (c : CertificateElements) (bag : List CertificateElements) (holds : CertificateElements → Type 0) → HasNoPlaceBetween (c ∷ bag) holds 0 0
none_before c bag holds place d later before stands fits = omega (arith, before)

pub begun : (c : CertificateElements) (bag : List CertificateElements) (subject : DerElement) (places : List ℕ) → HasSubject subject c
    → IsWalkFrom bag 0 c.tbs.issuer places → IsWalkFrom (c ∷ bag) 0 subject (0 ∷ map (λ n. suc n) places)
begun c bag subject places has w = (
  c,
  record { later = omega arith; stands = refl; fits = has; least = none_before c bag (HasSubject subject) },
  further c bag 0 c.tbs.issuer places w,
)

-- ---- the whole walk

-- What a walk yields that looks for a subject from the first certificate on.
record Gives (subject : DerElement) (certificates items : List KeptCertificate) : Type 0 where
  places : List ℕ
  walk : IsWalkFrom (elements_of certificates) 0 subject places
  stand : AreAtPlaces certificates places items

nothing : (subject : DerElement) → Gives subject [] []
nothing subject = record { places = []; walk = λ place c later stands fits. absurd (cc stands); stand = refl }

one_more : (k : KeptCertificate) (certificates : List KeptCertificate) (subject : DerElement) (test : Bool)
    → bytes_eq (encoding k.elements.tbs.subject) (encoding subject) ≡ test
    → Gives k.elements.tbs.issuer certificates (walked (encoding k.elements.tbs.issuer) certificates)
    → Gives subject certificates (walked (encoding subject) certificates)
    → Gives subject (k ∷ certificates) (if test then k ∷ walked (encoding k.elements.tbs.issuer) certificates else walked (encoding subject) certificates)
one_more k certificates subject true e issuers others = record {
  places = 0 ∷ map (λ n. suc n) issuers.places;
  walk = begun k.elements (elements_of certificates) subject issuers.places ((bytes_eq-Decides (encoding k.elements.tbs.subject) (encoding subject)).0 e)
      issuers.walk;
  stand = (k, walked (encoding k.elements.tbs.issuer) certificates, refl, refl, stand_further k certificates issuers.places _ issuers.stand);
}
one_more k certificates subject false e issuers others = record {
  places = map (λ n. suc n) others.places;
  walk = passed k.elements (elements_of certificates) subject (map (λ n. suc n) others.places)
      (λ same. both_ways (bytes_eq (encoding k.elements.tbs.subject) (encoding subject)) e
      ((bytes_eq-Decides (encoding k.elements.tbs.subject) (encoding subject)).1 same))
      (further k.elements (elements_of certificates) 0 subject others.places others.walk);
  stand = stand_further k certificates others.places _ others.stand;
}

gives : (certificates : List KeptCertificate) (subject : DerElement) → Gives subject certificates (walked (encoding subject) certificates)
gives [] subject = nothing subject
gives (k ∷ certificates) subject =
    one_more k certificates subject (bytes_eq (encoding k.elements.tbs.subject) (encoding subject)) refl (gives certificates k.elements.tbs.issuer)
    (gives certificates subject)

pub walk_of : (signer : KeptCertificate) (certificates : List KeptCertificate) (octets : List ℕ) → octets ≡ encoding signer.elements.tbs.subject
    → IsWalkOf signer certificates (walked octets certificates)
walk_of signer certificates octets e =
    let all = gives certificates signer.elements.tbs.subject in
    subst (λ (o : List ℕ). IsWalkOf signer certificates (walked o certificates)) (sym e) (record { places = all.places; walk = all.walk; stand = all.stand })
