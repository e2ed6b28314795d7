-- One more certificate of a chain.
use Rattle.std.proofs.Common.{◌≡◌, ℕ, ◌+◌, ◌-◌, ◌^◌, List, [], ◌∷◌, ◌++◌, map, length, inl, inr, sym, ap, subst, ◌∙◌, arith}
use Rattle.std.specs.Prelude.{min}
use Rattle.std.specs.Borrow.{Bor}
use Rattle.der_core.specs.Rules.{OrMemory, IsFirstBroken}
use Rattle.key_core.specs.Verifying.{Judge}
use Rattle.x509_core.specs.Chain.{IsLinkedChain, IsFirstUnlinked, last_of, lent}
use Rattle.x509_core.specs.OwnedCertificate.{KeptCertificate}
use Rattle.x509_core.specs.Link.{IsLink, IsCountFor, link_rules}
use Rattle.x509_core.specs.Rules.{RefusesCertBy}
use Rattle.x509_core.specs.declared.error.CertError.{CertError}
use Rattle.x509_core.specs.declared.error.CertError.TheVariants as errors
use Rattle.x509_core.specs.declared.window.Window.{Window}
use Rattle.x509_core.proofs.Chains.{linked_none, linked_more, last_more, map_more, one_more}

-- a link between stored certificates
abbrev Linking : Judge → Window → ℕ → KeptCertificate → KeptCertificate → Type 0
Linking judge w number parent child = IsLink judge w number parent.elements child.elements

pub linked_none_of : (judge : Judge) (w : Window) (checked : KeptCertificate) → IsLinkedChain judge w checked []
linked_none_of judge w checked = linked_none (Linking judge w) checked

pub grown_chain : (judge : Judge) (w : Window) (checked : KeptCertificate) (xs : List (Bor KeptCertificate)) (x : Bor KeptCertificate) (child : KeptCertificate)
    → IsLinkedChain judge w checked (map lent xs) → child ≡ last_of checked (map lent xs)
    → IsLink judge w (length (map lent xs)) x.now.elements child.elements → IsLinkedChain judge w checked (map lent (xs ++ x ∷ []))
grown_chain judge w checked xs x child linked at link =
    subst (IsLinkedChain judge w checked) (sym (map_more lent xs x))
    (linked_more (Linking judge w) checked (map lent xs) x.now linked (subst (λ (c : KeptCertificate). Linking judge w (length (map lent xs)) x.now c) at link))

pub grown_place : (checked : KeptCertificate) (xs : List (Bor KeptCertificate)) (x : Bor KeptCertificate) → x.now ≡ last_of checked (map lent (xs ++ x ∷ []))
grown_place checked xs x = sym (ap (last_of checked) (map_more lent xs x) ∙ last_more checked (map lent xs) x.now)

pub grown_count : (xs : List (Bor KeptCertificate)) (x : Bor KeptCertificate) (n m : ℕ) → IsCountFor n (length (map lent xs)) → m ≡ min (n + 1) (2 ^ 16 - 1)
    → IsCountFor m (length (map lent (xs ++ x ∷ [])))
grown_count xs x n m so_far more =
    let long : length (map lent (xs ++ x ∷ [])) ≡ length (map lent xs) + 1 = ap length (map_more lent xs x) ∙ one_more (map lent xs) x.now in
    omega (arith, so_far, more, long)

pub unlinked : (judge : Judge) (w : Window) (checked : KeptCertificate) (xs : List (Bor KeptCertificate)) (x : Bor KeptCertificate) (child : KeptCertificate)
    (e : CertError)
    → IsLinkedChain judge w checked (map lent xs) → child ≡ last_of checked (map lent xs)
    → RefusesCertBy (link_rules judge w (length (map lent xs)) x.now child) e
    → OrMemory errors.Memory (IsFirstUnlinked judge w checked (map lent (xs ++ x ∷ []))) e
unlinked judge w checked xs x child e linked at (inl broken) = inl (record {
  before = map lent xs;
  parent = x.now;
  after = [];
  are = map_more lent xs x;
  linked = linked;
  broken = subst (λ (c : KeptCertificate). IsFirstBroken (link_rules judge w (length (map lent xs)) x.now c) e) at broken;
})
unlinked judge w checked xs x child e linked at (inr memory) = inr memory
