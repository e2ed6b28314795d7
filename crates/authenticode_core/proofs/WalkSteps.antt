-- A certificate has at most one issuer walk in a bag, and at most one issuer path.
use Rattle.std.proofs.Common.{◌≡◌, ℕ, suc, ◌<◌, ◌≤◌, List, [], ◌∷◌, ◌⊎◌, Some, refl, sym, ap, subst, ◌∙◌, inl, inr, arith}
use Rattle.std.proofs.lemmas.Bool.{cases_lt}
use Rattle.der_core.specs.DerElement.{DerElement}
use Rattle.x509_types.specs.CertificateElements.{CertificateElements}
use Rattle.authenticode_core.specs.IssuerWalk.{IsWalkFrom, AreOthers, IsIssuerWalk, IsIssuerPath}
use Rattle.authenticode_core.specs.Names.{HasSubject}
use Rattle.authenticode_core.specs.Indices.{StandsAt, IsLeastPlace}

not_less : (bag : List CertificateElements) (holds : CertificateElements → Type 0) (from p q : ℕ) (c d : CertificateElements) → IsLeastPlace bag holds from p c
    → IsLeastPlace bag holds from q d → p < q → ⊥
not_less bag holds from p q c d a b less = b.least p c a.later less a.stands a.fits

same_place : (bag : List CertificateElements) (holds : CertificateElements → Type 0) (from p q : ℕ) (c d : CertificateElements)
    → IsLeastPlace bag holds from p c → IsLeastPlace bag holds from q d
    → (p < q) ⊎ (q ≤ p) → (q < p) ⊎ (p ≤ q) → p ≡ q
same_place bag holds from p q c d a b (inl less) other = absurd (not_less bag holds from p q c d a b less)
same_place bag holds from p q c d a b (inr more) (inl less) = absurd (not_less bag holds from q p d c b a less)
same_place bag holds from p q c d a b (inr more) (inr less) = omega (arith, more, less)

pub same_certificate : (bag : List CertificateElements) (p q : ℕ) (c d : CertificateElements) → p ≡ q → StandsAt bag p c → StandsAt bag q d → d ≡ c
same_certificate bag p q c d e a b =
    let there : StandsAt bag p d = subst (λ (n : ℕ). StandsAt bag n d) (sym e) b in
    let some : Some d ≡ Some c = sym there ∙ a in
    cc

-- there is one least index, and one certificate at it
pub least_once : (bag : List CertificateElements) (holds : CertificateElements → Type 0) (from p q : ℕ) (c d : CertificateElements)
    → IsLeastPlace bag holds from p c → IsLeastPlace bag holds from q d → (p ≡ q) × (d ≡ c)
least_once bag holds from p q c d a b =
    let place = same_place bag holds from p q c d a b (cases_lt p q) (cases_lt q p) in
    (place, same_certificate bag p q c d place a.stands b.stands)

one_walk_from : (bag : List CertificateElements) (from : ℕ) (subject : DerElement) (a b : List ℕ) → IsWalkFrom bag from subject a
    → IsWalkFrom bag from subject b → a ≡ b
one_walk_from bag from subject [] [] w v = refl
one_walk_from bag from subject [] (q ∷ b) w v = absurd (w q v.0 v.1.later v.1.stands v.1.fits)
one_walk_from bag from subject (p ∷ a) [] w v = absurd (v p w.0 w.1.later w.1.stands w.1.fits)
one_walk_from bag from subject (p ∷ a) (q ∷ b) w v =
    let place = same_place bag (HasSubject subject) from p q w.0 v.0 w.1 v.1 (cases_lt p q) (cases_lt q p) in
    let c = same_certificate bag p q w.0 v.0 place w.1.stands v.1.stands in
    let rest : IsWalkFrom bag (suc p) w.0.tbs.issuer b =
    subst (λ (n : ℕ). IsWalkFrom bag (suc n) w.0.tbs.issuer b) (sym place) (subst (λ (d : CertificateElements). IsWalkFrom bag (suc q) d.tbs.issuer b) c v.2) in
    ap (λ (n : ℕ). n ∷ a) place ∙ ap (λ (places : List ℕ). q ∷ places) (one_walk_from bag (suc p) w.0.tbs.issuer a b w.2 rest)

pub one_walk : (bag : List CertificateElements) (signer : CertificateElements) (a b : List ℕ) → IsIssuerWalk bag signer a → IsIssuerWalk bag signer b → a ≡ b
one_walk bag signer a b w v = one_walk_from bag 0 signer.tbs.subject a b w v

pub same_others : (bag : List CertificateElements) (subject : DerElement) (places a b : List ℕ) → AreOthers bag subject places a
    → AreOthers bag subject places b → a ≡ b
same_others bag subject [] a b p q = p ∙ sym q
same_others bag subject (place ∷ places) a b (inl p) (inl q) = same_others bag subject places a b p.1 q.1
same_others bag subject (place ∷ places) a b (inl p) (inr q) = absurd (q.0 p.0)
same_others bag subject (place ∷ places) a b (inr p) (inl q) = absurd (p.0 q.0)
same_others bag subject (place ∷ places) a b (inr p) (inr q) =
    p.2 ∙ ap (λ (rest : List ℕ). place ∷ rest) (same_others bag subject places p.1 q.1 p.3 q.3) ∙ sym q.2

pub one_path : (bag : List CertificateElements) (signer : CertificateElements) (a b : List ℕ) → IsIssuerPath bag signer a → IsIssuerPath bag signer b → a ≡ b
one_path bag signer a b p q =
    let walks = one_walk bag signer q.0 p.0 q.1 p.1 in
    same_others bag signer.tbs.subject p.0 a b p.2 (subst (λ (places : List ℕ). AreOthers bag signer.tbs.subject places b) walks q.2)
