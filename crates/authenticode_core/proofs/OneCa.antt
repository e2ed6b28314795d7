-- The name of the CA of certificates is one, and so is that of the CA of a signer.
use Rattle.std.proofs.Common.{◌≡◌, ℕ, List, [], ◌∷◌, ◌++◌, inl, inr, refl, sym, ap, subst, ◌∙◌}
use Rattle.cms_types.specs.SignedDataElements.{SignedDataElements}
use Rattle.der_core.specs.DerElement.{DerElement}
use Rattle.x509_types.specs.CertificateElements.{CertificateElements}
use Rattle.authenticode_core.specs.AuthorityName.{AreAt, HasAuthorityName, IsAuthorityName, IsLastAuthority, IsNameAt, NoneIsAuthority}
use Rattle.authenticode_core.specs.IssuerWalk.{IsIssuerWalk}
use Rattle.authenticode_core.specs.ListRules.{IsSignerCa}
use Rattle.authenticode_core.proofs.OneSigning.{same_bag, signer_once}
use Rattle.authenticode_core.proofs.WalkSteps.{one_walk, same_certificate}

-- ---- lists of certificates

same_head : (c d : CertificateElements) (a b : List CertificateElements) → c ∷ a ≡ d ∷ b → c ≡ d
same_head c d a b e = cc

same_tail : (c d : CertificateElements) (a b : List CertificateElements) → c ∷ a ≡ d ∷ b → a ≡ b
same_tail c d a b e = cc

-- ---- one last CA certificate

named_once : (c : CertificateElements) (a b : DerElement) → HasAuthorityName c a → HasAuthorityName c b → a ≡ b
named_once c a b (inl p) (inl q) = p.1 ∙ sym q.1
named_once c a b (inl p) (inr q) = absurd (p.0.1 q.0.1)
named_once c a b (inr p) (inl q) = absurd (q.0.1 p.0.1)
named_once c a b (inr p) (inr q) = p.1 ∙ sym q.1

one_among : (before after : List CertificateElements) (c : CertificateElements) (name : DerElement) → HasAuthorityName c name
    → NoneIsAuthority (before ++ c ∷ after) → ⊥
one_among [] after c name named none = none.0 name named
one_among (d ∷ before) after c name named none = one_among before after c name named none.1

last_or_none : (certificates : List CertificateElements) (name : DerElement) → IsLastAuthority certificates name → NoneIsAuthority certificates → ⊥
last_or_none certificates name last none = one_among last.before last.after last.c name last.named (subst NoneIsAuthority last.are none)

last_at : (before : List CertificateElements) (c : CertificateElements) (after front : List CertificateElements) (d : CertificateElements)
    (behind : List CertificateElements) (a b : DerElement) → before ++ c ∷ after ≡ front ++ d ∷ behind
    → HasAuthorityName c a → HasAuthorityName d b → NoneIsAuthority after → NoneIsAuthority behind → a ≡ b
last_at [] c after [] d behind a b e p q none others =
    named_once d a b (subst (λ (x : CertificateElements). HasAuthorityName x a) (same_head c d after behind e) p) q
last_at [] c after (x ∷ front) d behind a b e p q none others =
    absurd (one_among front behind d b q (subst NoneIsAuthority (same_tail c x after (front ++ d ∷ behind) e) none))
last_at (x ∷ before) c after [] d behind a b e p q none others =
    absurd (one_among before after c a p (subst NoneIsAuthority (sym (same_tail x d (before ++ c ∷ after) behind e)) others))
last_at (x ∷ before) c after (y ∷ front) d behind a b e p q none others =
    last_at before c after front d behind a b (same_tail x y (before ++ c ∷ after) (front ++ d ∷ behind) e) p q none others

last_once : (certificates : List CertificateElements) (a b : DerElement) → IsLastAuthority certificates a → IsLastAuthority certificates b → a ≡ b
last_once certificates a b p q = last_at p.before p.c p.after q.before q.c q.after a b (sym p.are ∙ q.are) p.named q.named p.last q.last

-- ---- names

authority_once : (certificates : List CertificateElements) (a b : DerElement) → IsAuthorityName certificates a → IsAuthorityName certificates b → a ≡ b
authority_once [] a b p q = absurd p
authority_once (first ∷ others) a b (inl p) (inl q) = last_once others a b p q
authority_once (first ∷ others) a b (inl p) (inr q) = absurd (last_or_none others a p q.0)
authority_once (first ∷ others) a b (inr p) (inl q) = absurd (last_or_none others b q p.0)
authority_once (first ∷ others) a b (inr p) (inr q) = p.1 ∙ sym q.1

at_once : (bag : List CertificateElements) (places : List ℕ) (x y : List CertificateElements) → AreAt bag places x → AreAt bag places y → x ≡ y
at_once bag [] x y p q = p ∙ sym q
at_once bag (place ∷ places) x y p q =
    let head : p.0 ≡ q.0 = same_certificate bag place place q.0 p.0 refl q.3 p.3 in
    p.2 ∙ ap (λ (c : CertificateElements). c ∷ p.1) head ∙ ap (λ (cs : List CertificateElements). q.0 ∷ cs) (at_once bag places p.1 q.1 p.4 q.4) ∙ sym q.2

pub name_once : (bag : List CertificateElements) (places : List ℕ) (a b : DerElement) → IsNameAt bag places a → IsNameAt bag places b → a ≡ b
name_once bag places a b p q =
    authority_once q.certificates a b
    (subst (λ (cs : List CertificateElements). IsAuthorityName cs a) (at_once bag places p.certificates q.certificates p.at q.at) p.is) q.is

pub ca_once : (f : SignedDataElements) (a b : DerElement) → IsSignerCa f a → IsSignerCa f b → a ≡ b
ca_once f a b p q =
    let bags = same_bag f p.bag q.bag p.is_bag q.is_bag in
    let same : q.certificate ≡ p.certificate =
    (signer_once f p.bag q.bag p.place q.place p.certificate q.certificate p.is_bag q.is_bag p.is_signer q.is_signer).1 in
    let walk : IsIssuerWalk q.bag q.certificate p.walk = subst (λ (c : CertificateElements). IsIssuerWalk q.bag c p.walk) (sym same)
    (subst (λ (bag : List CertificateElements). IsIssuerWalk bag p.certificate p.walk) bags p.is_walk) in
    let named : IsNameAt q.bag q.walk a = subst (λ (places : List ℕ). IsNameAt q.bag places a) (one_walk q.bag q.certificate p.walk q.walk walk q.is_walk)
    (subst (λ (bag : List CertificateElements). IsNameAt bag p.walk a) bags p.named) in
    name_once q.bag q.walk a b named q.named
