-- The first extensions, found one element after another, and what they say.
use Rattle.std.proofs.Common.{◌≡◌, ◌↔◌, IsTrue, Bool, true, false, ℕ, List, [], ◌∷◌, Option, Some, None, refl, sym, subst, inl, inr}
use Rattle.std.proofs.Math.Logic.{∥∥₁_elim}
use Rattle.std.specs.Prelude.{bytes_eq}
use Rattle.std.specs.Option.{is_some}
use Rattle.std.proofs.lemmas.Grind.{not_there}
use Rattle.std.proofs.lemmas.Slice.Eq.{bytes_eq-Decides}
use Rattle.der_core.specs.DerElement.{DerElement, Primitive}
use Rattle.der_core.specs.Facts.InBounds.{octets-set}
use Rattle.der_core.specs.Owned.{IsKept}
use Rattle.asn1_types.specs.declared.oids.TheConstants.{CE_EXT_KEY_USAGE}
use Rattle.x509_types.specs.CertificateElements.{CertificateElements}
use Rattle.x509_types.specs.FirstExtension.{extensions_of, IsNamed, IsFirstNamed, IsFirstValue, Says}
use Rattle.x509_types.specs.Facts.Extensions.{fields_once}
use Rattle.x509_types.specs.FoundExtensions.{IsFound, found_or}
use Rattle.x509_types.specs.Purposes.{NamesPurpose, HasPurposes}
use Rattle.x509_types.proofs.DecidedExtensions.{first_or_not, first_if_some}
use Rattle.x509_types.proofs.FirstExtensions.{first_here, first_later, first_passed, none_first, first_once}

-- ---- one more element

-- an extension has one OID
one_oid : (element : DerElement) (oid known v w : List ℕ) → IsNamed oid element v → IsNamed known element w → oid ≡ known
one_oid element oid known v w p q =
    let same : Primitive 0x06 oid ≡ Primitive 0x06 known = (fields_once element (Primitive 0x06 oid) (Primitive 0x06 known) p.0 q.0 v w p.1 q.1).0 in
    cc

-- it has another OID
pub found_passed : {R : Type 0} (now : R → List ℕ) (known : List ℕ) (all rest more : List DerElement) (kid : DerElement) (x : Option R) → rest ≡ kid ∷ more
    → ((v : List ℕ) → IsNamed known kid v → ⊥) → IsFound now known all rest x → IsFound now known all more x
found_passed now known all rest more kid (Some r) are none found = found
found_passed now known all rest more kid None are none found = λ octets. (
  λ first. first_passed known rest more kid are none octets ((found octets).0 first),
  λ first. (found octets).1 (first_later known rest more kid are none octets first),
)

-- nothing was found before it
tested : {R : Type 0} (now : R → List ℕ) (oid known : List ℕ) (all rest more : List DerElement) (kid : DerElement) (octets : R) (t : Bool)
    → (IsTrue t ↔ (oid ≡ known)) → rest ≡ kid ∷ more → IsNamed oid kid (now octets)
    → IsFound {R = R} now known all rest None → IsFound now known all more (found_or None t octets)
tested now oid known all rest more kid octets true test are named found =
    (found (now octets)).1 (first_here known rest more kid (now octets) are (subst (λ (o : List ℕ). IsNamed o kid (now octets)) (test.0 refl) named))
tested now oid known all rest more kid octets false test are named found =
    found_passed now known all rest more kid None are
    (λ v other. let no : IsTrue false = test.1 (one_oid kid oid known (now octets) v named other) in cc) found

-- it has this OID
pub found_here : {R : Type 0} (now : R → List ℕ) (oid known : List ℕ) (all rest more : List DerElement) (kid : DerElement) (x : Option R) (octets : R)
    (y : Option R)
    → y ≡ found_or x (bytes_eq oid known) octets → rest ≡ kid ∷ more → IsNamed oid kid (now octets) → IsFound now known all rest x
    → IsFound now known all more y
found_here now oid known all rest more kid (Some r) octets y is are named found = rw is found
found_here now oid known all rest more kid None octets y is are named found =
    rw is (tested now oid known all rest more kid octets (bytes_eq oid known) (bytes_eq-Decides oid known) are named found)

-- ---- no more elements

-- what was found, if it is known to be the first, is the first
pub first_found : {R K : Type 0} (now : R → List ℕ) (oid : List ℕ) (all : List DerElement) (x : Option R) (octets : R) → x ≡ Some octets
    → ∥ K ∥₁ → (K → IsFound now oid all [] x) → IsFirstNamed oid all (now octets)
first_found {R} {K} now oid all x octets is known found =
    let first_in : K → IsFirstNamed oid all (now octets) = λ k. subst (λ (y : Option R). IsFound now oid all [] y) is (found k) in
    elim (first_or_not oid all) [
      | inl first ↦ subst (λ (o : List ℕ). IsFirstNamed oid all o)
          (∥∥₁_elim known (octets-set first.0 (now octets)) (λ k. first_once oid all first.0 (now octets) first.1 (first_in k))) first.1
      | inr none ↦ absurd (not_there known (λ k. none (now octets) (first_in k)))
    ]

-- if nothing was found, none is the first
pub none_found : {R K : Type 0} (now : R → List ℕ) (oid : List ℕ) (all : List DerElement) (x : Option R) → x ≡ None
    → ∥ K ∥₁ → (K → IsFound now oid all [] x) → (octets : List ℕ) → IsFirstNamed oid all octets → ⊥
none_found {R} now oid all x none known found octets first =
    not_there known (λ k. none_first oid [] octets refl ((subst (λ (y : Option R). IsFound now oid all [] y) none (found k) octets).0 first))

-- whether one was found
pub some_found : {R K : Type 0} (now : R → List ℕ) (oid : List ℕ) (all : List DerElement) (x : Option R) (t : Bool) → t ≡ is_some x
    → ∥ K ∥₁ → (K → IsFound now oid all [] x) → IsTrue t ↔ ((octets : List ℕ) × IsFirstNamed oid all octets)
some_found now oid all None t test known found = (λ w. absurd cc, λ first. absurd (none_found now oid all None refl known found first.0 first.1))
some_found now oid all (Some octets) t test known found = (λ w. (now octets, first_found now oid all (Some octets) octets refl known found), λ first. test)

-- if one of the extended key usages has a KeyPurposeId, one is the first
pub some_purposes : (f : CertificateElements) (oid : List ℕ) → NamesPurpose f oid → HasPurposes f
some_purposes f oid names =
    let usage = names.is.1 in
    let first = first_if_some CE_EXT_KEY_USAGE.now names.before names.after names.element usage.0 usage.1 in
    (first.0, subst (λ (kids : List DerElement). IsFirstNamed CE_EXT_KEY_USAGE.now kids first.0) (sym names.are) first.1)

-- ---- what they say

-- no element is in the octets of the first
pub unheld : {X : Type 0} (oid : List ℕ) (part : DerElement → X → Type 0) (f : CertificateElements) (octets : List ℕ) (x : X)
    → IsFirstNamed oid (extensions_of f) octets
    → ((element : DerElement) → IsKept octets element → ⊥) → Says oid part f x → ⊥
unheld oid part f octets x first none says =
    none says.0 (subst (λ (o : List ℕ). IsKept o says.0) (first_once oid (extensions_of f) says.1.octets octets says.1.first first) says.1.holds)

-- the element in the octets of the first
pub held : (oid : List ℕ) (f : CertificateElements) (octets : List ℕ) (element : DerElement) → IsFirstNamed oid (extensions_of f) octets → IsKept octets element
    → IsFirstValue f oid element
held oid f octets element first holds = record { octets = octets; first = first; holds = holds }
