-- The certificates that the iterator walks to are those of the ancestors.
use Rattle.std.proofs.Common.{◌≡◌, ◌≤◌, ℕ, zero, suc, List, [], ◌∷◌, length, Option, Some, None, refl, sym, ap, subst, ◌∙◌, arith}
use Rattle.std.specs.List.{slice_get}
use Rattle.x509_core.specs.History.{AreAncestors, IsOrdered, IssuingStep}
use Rattle.x509_core.specs.Issued.{AreCertsAt, HasCert}
use Rattle.x509_core.specs.OwnedCertificate.{KeptCertificate}
use Rattle.x509_core.proofs.Histories.{item_at}
use Rattle.x509_core.proofs.Validity.{same_some}
use Rattle.ca_register.specs.Above.{before, certificates_above, issuer_in}
use Rattle.ca_register.specs.Entries.{HasEntry, history_of}
use Rattle.ca_register.specs.declared.entry.Entry.{Entry}
use Rattle.ca_register.proofs.Lines.{here_within}
use Rattle.ca_register.proofs.Records.{as_many, entry_of}

module _ (entries : List Entry) (certificates : List KeptCertificate) (ordered : IsOrdered (history_of entries))
    (all : length certificates ≡ length (history_of entries)) where
  abbrev Above : ℕ → Option ℕ → List KeptCertificate
  Above = certificates_above entries certificates

  one_above : (most issuer : ℕ) (cert : KeptCertificate) (entry : Entry) → HasCert certificates issuer cert → HasEntry entries issuer entry
      → Above (suc most) (Some issuer) ≡ cert ∷ Above most entry.issuer
  one_above most issuer cert entry is has =
      ap (λ (c : Option KeptCertificate). before c (Above most (issuer_in (slice_get entries issuer)))) is
      ∙ ap (λ (e : Option Entry). cert ∷ Above most (issuer_in e)) has

  pub above_are : (place : ℕ) (ancestors : List ℕ) (entry : Entry) (most : ℕ) → AreAncestors (history_of entries) place ancestors → HasEntry entries place entry
      → place ≤ most → AreCertsAt certificates ancestors (Above most entry.issuer)
  above_are place [] entry most are has enough =
      let of = entry_of entries place are.1.step are.1.is in
      let same : of.entry ≡ entry = same_some of.entry entry (sym of.has ∙ has) in
      let none : entry.issuer ≡ None = ap (λ (e : Entry). e.issuer) (sym same) ∙ ap (λ (s : IssuingStep). s.issuer) of.is ∙ are.1.unissued in
      subst (λ (o : Option ℕ). AreCertsAt certificates [] (Above most o)) (sym none) (no_more most)
    where
      no_more : (m : ℕ) → AreCertsAt certificates [] (Above m None)
      no_more zero = tt
      no_more (suc m) = tt
  above_are place (issuer ∷ ancestors) entry zero are has enough = absurd (omega (arith, enough, ordered place issuer are.0.0))
  above_are place (issuer ∷ ancestors) entry (suc most) are has enough =
      let of = entry_of entries place are.0.0.step are.0.0.is in
      let same : of.entry ≡ entry = same_some of.entry entry (sym of.has ∙ has) in
      let issued : entry.issuer ≡ Some issuer = ap (λ (e : Entry). e.issuer) (sym same) ∙ ap (λ (s : IssuingStep). s.issuer) of.is ∙ are.0.0.issued in
      let earlier = ordered place issuer are.0.0 in
      let within = here_within (history_of entries) issuer ancestors (are.0.1, are.1) in
      let cert = item_at certificates issuer (omega (arith, within, all)) in
      let above = item_at entries issuer (omega (arith, within, as_many entries)) in
      let rest = above_are issuer ancestors above.0 most (are.0.1, are.1) above.1 (omega (arith, earlier, enough)) in
      subst (λ (o : Option ℕ). AreCertsAt certificates (issuer ∷ ancestors) (Above (suc most) o)) (sym issued)
      (subst (λ (certs : List KeptCertificate). AreCertsAt certificates (issuer ∷ ancestors) certs) (sym (one_above most issuer cert.0 above.0 cert.1 above.1))
      (cert.1, rest))

-- ---- one step of the iterator

pub one_step : (entries : List Entry) (certificates : List KeptCertificate) (most left issuer : ℕ) (o next : Option ℕ) (cert : KeptCertificate)
    → o ≡ Some issuer → slice_get certificates issuer ≡ Some cert → most ≡ suc left
    → next ≡ issuer_in (slice_get entries issuer) → certificates_above entries certificates most o ≡ cert ∷ certificates_above entries certificates left next
one_step entries certificates most left issuer o next cert here is enough on =
    ap (λ (m : ℕ). certificates_above entries certificates m o) enough ∙ ap (certificates_above entries certificates (suc left)) here
    ∙ ap (λ (c : Option KeptCertificate). before c (certificates_above entries certificates left (issuer_in (slice_get entries issuer)))) is
    ∙ ap (λ (n : Option ℕ). cert ∷ certificates_above entries certificates left n) (sym on)

pub certs_once : (certificates : List KeptCertificate) (indices : List ℕ) (a b : List KeptCertificate) → AreCertsAt certificates indices a
    → AreCertsAt certificates indices b → a ≡ b
certs_once certificates [] [] [] p q = refl
certs_once certificates [] [] (y ∷ b) p q = absurd q
certs_once certificates [] (x ∷ a) b p q = absurd p
certs_once certificates (i ∷ indices) [] b p q = absurd p
certs_once certificates (i ∷ indices) (x ∷ a) [] p q = absurd q
certs_once certificates (i ∷ indices) (x ∷ a) (y ∷ b) p q =
    let same : x ≡ y = same_some x y (sym p.0 ∙ q.0) in
    let rest = certs_once certificates indices a b p.1 q.1 in
    ap (λ (c : KeptCertificate). c ∷ a) same ∙ ap (λ (cs : List KeptCertificate). y ∷ cs) rest
