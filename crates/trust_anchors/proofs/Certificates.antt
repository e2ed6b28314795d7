-- Octets are those of one list of certificates, so a command has one answer.
use Rattle.std.proofs.Common.{◌≡◌, ℕ, List, [], ◌∷◌, ◌++◌, length, map, refl, sym, ap₂, subst, ◌∙◌, arith}
use Rattle.key_core.specs.Verifying.{Judge}
use Rattle.x509_core.specs.OwnedCertificate.{KeptCertificate, kept_octets}
use Rattle.x509_core.proofs.OwnedOctets.{kept_among, same_certificates}
use Rattle.trust_anchors.specs.Commands.{HasUnread, IsAnswerTo, IsFoundAmong, IsPathOf, IsSearchResult, code_anchor}
use Rattle.trust_anchors.specs.Words.{Command}
use Rattle.trust_anchors.specs.declared.report.Answer.{Answer}
use Rattle.trust_anchors.specs.declared.report.Answer.TheVariants.{Anchored, NoPath, Unread}
use Rattle.trust_anchors.proofs.Paths.{first_once}

-- if all are certificates, none is no certificate
none_unread : (octets : List (List ℕ)) (certificates : List KeptCertificate) → map kept_octets certificates ≡ octets → HasUnread octets → ⊥
none_unread octets certificates are h =
    let kept = kept_among certificates h.ahead h.unread h.behind (are ∙ h.are) in
    h.isnt kept.0 kept.1

-- ---- one answer

split_once : {X : Type 0} (ks ls : List X) (c d : X) (ps qs : List X) → length ks ≡ length ls → ks ++ c ∷ ps ≡ ls ++ d ∷ qs → (ks ≡ ls) × (c ≡ d) × (ps ≡ qs)
split_once [] [] c d ps qs many same = (refl, cc, cc)
split_once [] (b ∷ ls) c d ps qs many same = absurd (omega (arith, many))
split_once (a ∷ ks) [] c d ps qs many same = absurd (omega (arith, many))
split_once (a ∷ ks) (b ∷ ls) c d ps qs many same =
    let first : a ≡ b = cc in
    let rest = split_once ks ls c d ps qs (omega (arith, many)) (cc) in
    (ap₂ (λ x xs. x ∷ xs) first rest.0, rest.1, rest.2)

module _ (judge : Judge) (command : Command) where
  moved : (ks ls : List KeptCertificate) (c d : KeptCertificate) (ps qs : List KeptCertificate) (answer : Answer) → ks ≡ ls → c ≡ d → ps ≡ qs
      → IsSearchResult (IsPathOf judge command ls d qs) answer → IsSearchResult (IsPathOf judge command ks c ps) answer
  moved ks ls c d ps qs answer anchors checked pool h =
      subst (λ (x : List KeptCertificate). IsSearchResult (IsPathOf judge command x c ps) answer) (sym anchors)
      (subst (λ (x : KeptCertificate). IsSearchResult (IsPathOf judge command ls x ps) answer) (sym checked)
      (subst (λ (x : List KeptCertificate). IsSearchResult (IsPathOf judge command ls d x) answer) (sym pool) h))

  one_result : (ks : List KeptCertificate) (c : KeptCertificate) (ps : List KeptCertificate) (a b : Answer)
      → IsSearchResult (IsPathOf judge command ks c ps) a → IsSearchResult (IsPathOf judge command ks c ps) b → a ≡ b
  one_result ks c ps (Anchored p) (Anchored q) h k =
      let same = first_once judge command.date c ps (map code_anchor ks) command.purpose p q h k in
      λ i. Anchored (same i)
  one_result ks c ps (Anchored p) NoPath h k = absurd (k p h.is)
  one_result ks c ps NoPath (Anchored q) h k = absurd (h q k.is)
  one_result ks c ps NoPath NoPath h k = refl
  one_result ks c ps Unread b h k = absurd h
  one_result ks c ps (Anchored p) Unread h k = absurd k
  one_result ks c ps NoPath Unread h k = absurd k

  module _ (octets : List (List ℕ)) where
    one_found : (a b : Answer) → IsFoundAmong judge command octets a → IsFoundAmong judge command octets b → a ≡ b
    one_found a b h k =
        let all = same_certificates (h.anchors ++ h.checked ∷ h.pool) (k.anchors ++ k.checked ∷ k.pool) (h.given.are ∙ sym k.given.are) in
        let same = split_once h.anchors k.anchors h.checked k.checked h.pool k.pool (h.given.count ∙ sym k.given.count) all in
        one_result h.anchors h.checked h.pool a b h.found (moved h.anchors k.anchors h.checked k.checked h.pool k.pool b same.0 same.1 same.2 k.found)

    not_unread : (a : Answer) → IsFoundAmong judge command octets a → HasUnread octets → ⊥
    not_unread a h unread = none_unread octets (h.anchors ++ h.checked ∷ h.pool) h.given.are unread

    pub one_answer : (a b : Answer) → IsAnswerTo judge command octets a → IsAnswerTo judge command octets b → a ≡ b
    one_answer Unread Unread h k = refl
    one_answer Unread (Anchored q) h k = absurd (not_unread (Anchored q) k h)
    one_answer Unread NoPath h k = absurd (not_unread NoPath k h)
    one_answer (Anchored p) Unread h k = absurd (not_unread (Anchored p) h k)
    one_answer NoPath Unread h k = absurd (not_unread NoPath h k)
    one_answer (Anchored p) (Anchored q) h k = one_found (Anchored p) (Anchored q) h k
    one_answer (Anchored p) NoPath h k = one_found (Anchored p) NoPath h k
    one_answer NoPath (Anchored q) h k = one_found NoPath (Anchored q) h k
    one_answer NoPath NoPath h k = one_found NoPath NoPath h k
