-- A list of the questions has each question, and no other.
use Rattle.std.proofs.Common.{◌≡◌, ◌⊎◌, ◌↔◌, ℕ, List, [], ◌∷◌, ◌++◌, Option, Some, None, inl, inr, refl, sym, subst}
use Rattle.std.specs.Prelude.{Contains, option_to_list}
use Rattle.std.proofs.lemmas.List.Elements.{Contains-append_cases, Contains-append_left, Contains-append_right}
use Rattle.cms_types.specs.SignedDataElements.{SignedDataElements}
use Rattle.x509_core.specs.OwnedCertificate.{KeptCertificate}
use Rattle.x509_types.specs.CertificateElements.{CertificateElements}
use Rattle.authenticode_core.proofs.WalkSteps.{same_certificate}
use Rattle.signature_questions.specs.Asked.{Chained, HasPath, HasStamp, IsOfChain, IsOfChained, IsOfLink, IsOfLinks, IsQuestion}
use Rattle.signature_questions.specs.Listed.{AreOfAll, AreOfChain, AreOfLinks, AreQuestions, IsTheOne}
use Rattle.signature_questions.specs.Question.{Question}
use Rattle.signature_questions.proofs.OneIndex.{IsUnique, path_unique, stamp_unique}
use Rattle.signature_questions.proofs.Members.{first_or_later, first_there, none_there}

-- ---- at most one question

one_listed : (Asked : Question → Type 0) (one : Option Question) → IsTheOne Asked one → (q : Question) → Asked q → Contains (option_to_list one) q
one_listed Asked None the q asked = absurd (the q asked)
one_listed Asked (Some it) the q asked = subst (λ (r : Question). Contains (it ∷ []) r) (sym (the.1 q asked)) (first_there it [])

one_asked : (Asked : Question → Type 0) (one : Option Question) → IsTheOne Asked one → (q : Question) → Contains (option_to_list one) q → Asked q
one_asked Asked None the q listed = absurd (none_there q listed)
one_asked Asked (Some it) the q listed = elim (first_or_later it [] q listed) [
  | inl same ↦ subst Asked same the.0
  | inr none ↦ absurd (none_there q none)
]

-- ---- the two parts of a list

listed_first : (front others qs : List Question) (q : Question) → qs ≡ front ++ others → Contains front q → Contains qs q
listed_first front others qs q are h = subst (λ (all : List Question). Contains all q) (sym are) (Contains-append_left front others q h)

listed_later : (front others qs : List Question) (q : Question) → qs ≡ front ++ others → Contains others q → Contains qs q
listed_later front others qs q are h = subst (λ (all : List Question). Contains all q) (sym are) (Contains-append_right front others q h)

parted : (front others qs : List Question) (q : Question) → qs ≡ front ++ others → Contains qs q → Contains front q ⊎ Contains others q
parted front others qs q are h = Contains-append_cases front others q (subst (λ (all : List Question). Contains all q) are h)

none_of : (qs : List Question) (q : Question) → qs ≡ [] → Contains qs q → ⊥
none_of qs q are h = none_there q (subst (λ (all : List Question). Contains all q) are h)

-- ---- links

links_listed : (bag : List CertificateElements) (child : CertificateElements) (places : List ℕ) (qs : List Question) → AreOfLinks bag child places qs
    → (q : Question) → IsOfLinks bag child places q → Contains qs q
links_listed bag child [] qs are q asked = absurd asked
links_listed bag child (place ∷ places) qs (parent, stands, first, the, others, is, more) q (other, there, inl asked) =
    let own = subst (λ (c : CertificateElements). IsOfLink c child q) (same_certificate bag place place parent other refl stands there) asked in
    listed_first (option_to_list first) others qs q is (one_listed (IsOfLink parent child) first the q own)
links_listed bag child (place ∷ places) qs (parent, stands, first, the, others, is, more) q (other, there, inr asked) =
    let own = subst (λ (c : CertificateElements). IsOfLinks bag c places q) (same_certificate bag place place parent other refl stands there) asked in
    listed_later (option_to_list first) others qs q is (links_listed bag parent places others more q own)

links_asked : (bag : List CertificateElements) (child : CertificateElements) (places : List ℕ) (qs : List Question) → AreOfLinks bag child places qs
    → (q : Question) → Contains qs q → IsOfLinks bag child places q
links_asked bag child [] qs are q listed = absurd (none_of qs q are listed)
links_asked bag child (place ∷ places) qs (parent, stands, first, the, others, is, more) q listed =
    elim (parted (option_to_list first) others qs q is listed) [
      | inl one ↦ (parent, stands, inl (one_asked (IsOfLink parent child) first the q one))
      | inr later ↦ (parent, stands, inr (links_asked bag parent places others more q later))
    ]

pub chain_listed : (child : KeptCertificate) (parents : List KeptCertificate) (qs : List Question) → AreOfChain child parents qs → (q : Question)
    → IsOfChain child parents q → Contains qs q
chain_listed child [] qs are q asked = absurd asked
chain_listed child (parent ∷ parents) qs (first, the, others, is, more) q (inl asked) =
    listed_first (option_to_list first) others qs q is (one_listed (IsOfLink parent.elements child.elements) first the q asked)
chain_listed child (parent ∷ parents) qs (first, the, others, is, more) q (inr asked) =
    listed_later (option_to_list first) others qs q is (chain_listed parent parents others more q asked)

pub chain_asked : (child : KeptCertificate) (parents : List KeptCertificate) (qs : List Question) → AreOfChain child parents qs → (q : Question) → Contains qs q
    → IsOfChain child parents q
chain_asked child [] qs are q listed = absurd (none_of qs q are listed)
chain_asked child (parent ∷ parents) qs (first, the, others, is, more) q listed =
    elim (parted (option_to_list first) others qs q is listed) [
      | inl one ↦ inl (one_asked (IsOfLink parent.elements child.elements) first the q one)
      | inr later ↦ inr (chain_asked parent parents others more q later)
    ]

-- ---- all certificates above another

moved : (a b : List CertificateElements) (c d : CertificateElements) (p r : List ℕ) (q : Question) → a ≡ b → c ≡ d → p ≡ r → IsOfLinks a c p q
    → IsOfLinks b d r q
moved a b c d p r q bags certificates places asked =
    subst (λ (bag : List CertificateElements). IsOfLinks bag d r q) bags
    (subst (λ (child : CertificateElements). IsOfLinks a child r q) certificates
    (subst (λ (ps : List ℕ). IsOfLinks a c ps q) places asked))

all_listed : (Has : Chained) → IsUnique Has → (qs : List Question) → AreOfAll Has qs → (q : Question) → IsOfChained Has q → Contains qs q
all_listed Has unique qs (inl (bag, child, places, has, are)) q asked =
    let one = unique asked.bag bag asked.child child asked.places places asked.has has in
    links_listed bag child places qs are q (moved asked.bag bag asked.child child asked.places places q one.0 one.1 one.2 asked.asked)
all_listed Has unique qs (inr (none, empty)) q asked = absurd (none asked.bag asked.child asked.places asked.has)

all_asked : (Has : Chained) (qs : List Question) → AreOfAll Has qs → (q : Question) → Contains qs q → IsOfChained Has q
all_asked Has qs (inl (bag, child, places, has, are)) q listed =
    record { bag = bag; child = child; places = places; has = has; asked = links_asked bag child places qs are q listed }
all_asked Has qs (inr (none, empty)) q listed = absurd (none_of qs q empty listed)

-- ---- all questions

module _ (f : SignedDataElements) (qs : List Question) (are : AreQuestions f qs) where
  listed : (q : Question) → IsQuestion f q → Contains qs q
  listed q (inl asked) = listed_first (option_to_list are.signer) (are.path ++ are.token) qs q are.are (one_listed _ are.signer are.of_signer q asked)
  listed q (inr (inl asked)) =
      listed_later (option_to_list are.signer) (are.path ++ are.token) qs q are.are
      (Contains-append_left are.path are.token q (all_listed (HasPath f) (path_unique f) are.path are.of_path q asked))
  listed q (inr (inr asked)) =
      listed_later (option_to_list are.signer) (are.path ++ are.token) qs q are.are
      (Contains-append_right are.path are.token q (all_listed (HasStamp f) (stamp_unique f) are.token are.of_token q asked))

  asked : (q : Question) → Contains qs q → IsQuestion f q
  asked q h = elim (parted (option_to_list are.signer) (are.path ++ are.token) qs q are.are h) [
    | inl one ↦ inl (one_asked _ are.signer are.of_signer q one)
    | inr later ↦ elim (Contains-append_cases are.path are.token q later) [
      | inl path ↦ inr (inl (all_asked (HasPath f) are.path are.of_path q path))
      | inr token ↦ inr (inr (all_asked (HasStamp f) are.token are.of_token q token))
    ]
  ]

  pub are_listed : (q : Question) → IsQuestion f q ↔ Contains qs q
  are_listed q = (listed q, asked q)

pub are_listed_of_chain : (child : KeptCertificate) (parents : List KeptCertificate) (qs : List Question) → AreOfChain child parents qs → (q : Question)
    → IsOfChain child parents q ↔ Contains qs q
are_listed_of_chain child parents qs are q = (chain_listed child parents qs are q, chain_asked child parents qs are q)
