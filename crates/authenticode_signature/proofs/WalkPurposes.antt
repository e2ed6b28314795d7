-- Whether a certificate of an issuer walk has an extended key usage.
use Rattle.std.proofs.Common.{◌≡◌, ◌↔◌, ◌⊎◌, IsTrue, Bool, true, false, not, ℕ, zero, suc, List, [], ◌∷◌, Some, inl, inr, refl, sym, subst, arith}
use Rattle.std.specs.Prelude.{Contains, slice_get}
use Rattle.asn1_types.specs.declared.oids.TheConstants.{KP_CODE_SIGNING}
use Rattle.x509_core.specs.OwnedCertificate.{KeptCertificate}
use Rattle.x509_types.specs.CertificateElements.{CertificateElements}
use Rattle.x509_types.specs.Purposes.{HasPurposes, NamesPurpose}
use Rattle.authenticode_parts.specs.Carried.{elements_of}
use Rattle.authenticode_core.specs.Indices.{StandsAt}
use Rattle.authenticode_core.specs.SigningRules.{AsksForPurposes, IsForCodeSigning}
use Rattle.authenticode_core.proofs.WalkSteps.{one_walk, same_certificate}
use Rattle.authenticode_core.specs.declared.error.AuthenticodeError.TheVariants as errors
use Rattle.authenticode_signature.specs.Making.{HasNoFirstForSigning}
use Rattle.authenticode_signature.specs.Walk.{IsWalkOf, SomeHasPurposes, AreAtPlaces}
use Rattle.authenticode_signature.proofs.Namings.{stands_at}

-- A certificate at one of the indices has an extended key usage.
record Among (bag : List CertificateElements) (places : List ℕ) : Type 0 where
  place : ℕ
  among : Contains places place
  c : CertificateElements
  stands : StandsAt bag place c
  purposes : HasPurposes c

contains_first : (place : ℕ) (places : List ℕ) → Contains (place ∷ places) place
contains_first place places = (0, omega arith, refl)

contains_more : (place other : ℕ) (places : List ℕ) → Contains places other → Contains (place ∷ places) other
contains_more place other places h = (suc h.0, omega (arith, h.1), h.2)

contains_cases : (place other : ℕ) (places : List ℕ) → Contains (place ∷ places) other → (place ≡ other) ⊎ Contains places other
contains_cases place other places (zero, less, is) = inl is
contains_cases place other places (suc k, less, is) = inr (k, omega (arith, less), is)

among_first : (certificates : List KeptCertificate) (place : ℕ) (places : List ℕ) (k : KeptCertificate) (others : List KeptCertificate)
    → slice_get certificates place ≡ Some k
    → (SomeHasPurposes others → Among (elements_of certificates) places) → SomeHasPurposes (k ∷ others) → Among (elements_of certificates) (place ∷ places)
among_first certificates place places k others at later (inl purposes) =
    record { place = place; among = contains_first place places; c = k.elements; stands = stands_at certificates place k at; purposes = purposes }
among_first certificates place places k others at later (inr more) =
    let a = later more in
    record { place = a.place; among = contains_more place a.place places a.among; c = a.c; stands = a.stands; purposes = a.purposes }

among_of : (certificates : List KeptCertificate) (places : List ℕ) (items : List KeptCertificate) → AreAtPlaces certificates places items
    → SomeHasPurposes items → Among (elements_of certificates) places
among_of certificates [] items stand some = absurd (subst SomeHasPurposes stand some)
among_of certificates (place ∷ places) items (k, others, are, at, rest) some =
    among_first certificates place places k others at (λ more. among_of certificates places others rest more) (subst SomeHasPurposes are some)

some_first : (certificates : List KeptCertificate) (place : ℕ) (places : List ℕ) (k : KeptCertificate) (others : List KeptCertificate)
    → slice_get certificates place ≡ Some k
    → (Among (elements_of certificates) places → SomeHasPurposes others) → (a : Among (elements_of certificates) (place ∷ places))
    → (place ≡ a.place) ⊎ Contains places a.place → SomeHasPurposes (k ∷ others)
some_first certificates place places k others at later a (inl same) =
    inl (subst HasPurposes (same_certificate (elements_of certificates) place a.place k.elements a.c same (stands_at certificates place k at) a.stands)
    a.purposes)
some_first certificates place places k others at later a (inr more) =
    inr (later (record { place = a.place; among = more; c = a.c; stands = a.stands; purposes = a.purposes }))

some_of : (certificates : List KeptCertificate) (places : List ℕ) (items : List KeptCertificate) → AreAtPlaces certificates places items
    → Among (elements_of certificates) places → SomeHasPurposes items
some_of certificates [] items stand a = let among = a.among in absurd (omega (arith, among.1))
some_of certificates (place ∷ places) items (k, others, are, at, rest) a =
    subst SomeHasPurposes (sym are)
    (some_first certificates place places k others at (λ b. some_of certificates places others rest b) a (contains_cases place a.place places a.among))

-- the items of a walk have an extended key usage if the certificates of the walk do
pub walk_asks : (signer : KeptCertificate) (certificates items : List KeptCertificate) → IsWalkOf signer certificates items
    → SomeHasPurposes items ↔ AsksForPurposes (elements_of certificates) signer.elements
walk_asks signer certificates items w = (
  λ some.
      let a = among_of certificates w.places items w.stand some in
      record { places = w.places; walk = w.walk; place = a.place; among = a.among; c = a.c; stands = a.stands; purposes = a.purposes },
  λ asked. some_of certificates w.places items w.stand (record {
    place = asked.place;
    among = subst (λ (ps : List ℕ). Contains ps asked.place) (one_walk (elements_of certificates) signer.elements asked.places w.places asked.walk w.walk)
        asked.among;
    c = asked.c;
    stands = asked.stands;
    purposes = asked.purposes;
  }),
)

behind : (k : KeptCertificate) (rest : List KeptCertificate) → (HasPurposes k.elements → ⊥) → SomeHasPurposes (k ∷ rest) → SomeHasPurposes rest
behind k rest none (inl purposes) = absurd (none purposes)
behind k rest none (inr more) = more

-- one without it was passed
pub passed : (all rest others : List KeptCertificate) (k : KeptCertificate) → rest ≡ k ∷ others → (HasPurposes k.elements → ⊥)
    → SomeHasPurposes all ↔ SomeHasPurposes rest → SomeHasPurposes all ↔ SomeHasPurposes others
passed all rest others k e none w = (λ some. behind k others none (subst SomeHasPurposes e (w.0 some)), λ some. w.1 (subst SomeHasPurposes (sym e) (inr some)))

-- ---- code signing

pub may_sign : (signer : KeptCertificate) (certificates items : List KeptCertificate) (asks : Bool) → IsWalkOf signer certificates items
    → IsTrue asks ↔ SomeHasPurposes items → (NamesPurpose signer.elements KP_CODE_SIGNING.now → ⊥)
    → IsTrue (not asks) ↔ IsForCodeSigning (elements_of certificates) signer.elements
may_sign signer certificates items true w is names =
    (λ t. absurd (cc t), λ may. absurd (names (may ((walk_asks signer certificates items w).0 (is.0 refl)))))
may_sign signer certificates items false w is names =
    (λ t asked. absurd (cc (is.1 ((walk_asks signer certificates items w).1 asked))), λ may. refl)

-- the first may not
pub no_first : (bag others : List KeptCertificate) (first : KeptCertificate) → bag ≡ first ∷ others → (IsForCodeSigning (elements_of bag) first.elements → ⊥)
    → HasNoFirstForSigning (elements_of bag) errors.NoEKUCodeSigning
no_first bag others first e fails =
    subst (λ (ks : List KeptCertificate). HasNoFirstForSigning (elements_of ks) errors.NoEKUCodeSigning) (sym e)
    (λ may. fails (subst (λ (ks : List KeptCertificate). IsForCodeSigning (elements_of ks) first.elements) (sym e) may), refl)
