-- There is one list of the questions.
use Rattle.std.proofs.Common.{◌≡◌, ℕ, List, [], ◌∷◌, ◌++◌, Option, Some, None, inl, inr, refl, sym, ap, ap₂, subst, ◌∙◌}
use Rattle.std.specs.Prelude.{option_to_list}
use Rattle.cms_types.specs.SignedDataElements.{SignedDataElements}
use Rattle.x509_core.specs.OwnedCertificate.{KeptCertificate}
use Rattle.x509_types.specs.CertificateElements.{CertificateElements}
use Rattle.authenticode_core.proofs.WalkSteps.{same_certificate}
use Rattle.signature_questions.specs.Asked.{Chained, HasPath, HasStamp, IsOfLink, IsOfSigner}
use Rattle.signature_questions.specs.Listed.{AreOfAll, AreOfChain, AreOfLinks, AreQuestions, IsTheOne}
use Rattle.signature_questions.specs.Question.{Question}
use Rattle.signature_questions.proofs.OneIndex.{IsUnique, path_unique, stamp_unique}

-- at most one question, once
one_is : (Asked : Question → Type 0) (a b : Option Question) → IsTheOne Asked a → IsTheOne Asked b → a ≡ b
one_is Asked None None the own = refl
one_is Asked None (Some r) the own = absurd (the r own.0)
one_is Asked (Some q) None the own = absurd (own q the.0)
one_is Asked (Some q) (Some r) the own = ap (λ (x : Question). Some x) (sym (the.1 r own.0))

joined : (a b : Option Question) (xs ys qs rs : List Question) → qs ≡ option_to_list a ++ xs → rs ≡ option_to_list b ++ ys → a ≡ b → xs ≡ ys → qs ≡ rs
joined a b xs ys qs rs is are same others =
    is ∙ ap₂ (λ (o : Option Question) (zs : List Question). option_to_list o ++ zs) same others ∙ sym are

pub chain_once : (child : KeptCertificate) (parents : List KeptCertificate) (qs rs : List Question) → AreOfChain child parents qs
    → AreOfChain child parents rs → qs ≡ rs
chain_once child [] qs rs are own = are ∙ sym own
chain_once child (parent ∷ parents) qs rs (first, the, others, is, more) (one, own, behind, own_is, left) =
    joined first one others behind qs rs is own_is (one_is (IsOfLink parent.elements child.elements) first one the own)
    (chain_once parent parents others behind more left)

links_once : (bag : List CertificateElements) (child : CertificateElements) (places : List ℕ) (qs rs : List Question) → AreOfLinks bag child places qs
    → AreOfLinks bag child places rs → qs ≡ rs
links_once bag child [] qs rs are own = are ∙ sym own
links_once bag child (place ∷ places) qs rs (parent, stands, first, the, others, is, more) (other, there, one, own, behind, own_is, left) =
    let same : other ≡ parent = same_certificate bag place place parent other refl stands there in
    let first_own : IsTheOne (IsOfLink parent child) one = subst (λ (c : CertificateElements). IsTheOne (IsOfLink c child) one) same own in
    let left_own : AreOfLinks bag parent places behind = subst (λ (c : CertificateElements). AreOfLinks bag c places behind) same left in
    joined first one others behind qs rs is own_is (one_is (IsOfLink parent child) first one the first_own)
    (links_once bag parent places others behind more left_own)

moved_list : (a b : List CertificateElements) (c d : CertificateElements) (p r : List ℕ) (qs : List Question) → a ≡ b → c ≡ d → p ≡ r → AreOfLinks a c p qs
    → AreOfLinks b d r qs
moved_list a b c d p r qs bags certificates places are =
    subst (λ (bag : List CertificateElements). AreOfLinks bag d r qs) bags
    (subst (λ (child : CertificateElements). AreOfLinks a child r qs) certificates
    (subst (λ (ps : List ℕ). AreOfLinks a c ps qs) places are))

all_once : (Has : Chained) → IsUnique Has → (qs rs : List Question) → AreOfAll Has qs → AreOfAll Has rs → qs ≡ rs
all_once Has unique qs rs (inl (bag, child, places, has, are)) (inl (other, first, indices, own, owned)) =
    let one = unique other bag first child indices places own has in
    links_once bag child places qs rs are (moved_list other bag first child indices places rs one.0 one.1 one.2 owned)
all_once Has unique qs rs (inl (bag, child, places, has, are)) (inr (none, empty)) = absurd (none bag child places has)
all_once Has unique qs rs (inr (none, empty)) (inl (bag, child, places, has, are)) = absurd (none bag child places has)
all_once Has unique qs rs (inr (none, empty)) (inr (never, nothing)) = empty ∙ sym nothing

pub questions_once : (f : SignedDataElements) (qs rs : List Question) → AreQuestions f qs → AreQuestions f rs → qs ≡ rs
questions_once f qs rs a b =
    joined a.signer b.signer (a.path ++ a.token) (b.path ++ b.token) qs rs a.are b.are (one_is (IsOfSigner f) a.signer b.signer a.of_signer b.of_signer)
    (ap₂ (λ (xs ys : List Question). xs ++ ys)
    (all_once (HasPath f) (path_unique f) a.path b.path a.of_path b.of_path)
    (all_once (HasStamp f) (stamp_unique f) a.token b.token a.of_token b.of_token))
