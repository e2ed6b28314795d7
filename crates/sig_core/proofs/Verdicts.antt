-- The first row decides, and a map agrees with it.
use Rattle.std.proofs.Common.{◌≡◌, ◌++◌, ◌∙◌, Bool, true, false, cond, List, [], ◌∷◌, Option, Some, None, refl, sym, ap, find, option_map}
use Rattle.std.specs.Bool.{Decides, one_answer}
use Rattle.std.specs.BTreeMap.{BTreeMap, get, is_at}
use Rattle.std.specs.Cmp.{IsTotalOrder, Equal-is, tied_itself}
use Rattle.std.specs.Option.{option_or, unwrap_or}
use Rattle.std.specs.Ordering.{is_eq}
use Rattle.std.specs.declared.cmp.Ordering.{Ordering}
use Rattle.std.specs.declared.cmp.Ordering.TheVariants.{Equal}
use Rattle.std.proofs.lemmas.Bool.Decides.{Decides-and, Decides-like}
use Rattle.std.proofs.lemmas.List.Folds.{find-append}
use Rattle.std.proofs.lemmas.Slice.Eq.{bytes_eq-Decides}
use Rattle.sig_core.specs.declared.scheme.Verdict.{Verdict}
use Rattle.sig_core.specs.declared.verdict_row.SignatureDigests.{SignatureDigests}
use Rattle.sig_core.specs.declared.verdict_row.VerdictRow.{VerdictRow}
use Rattle.sig_core.specs.Algorithm.{name_of}
use Rattle.sig_core.specs.FirstVerdicts.{HasFirstVerdicts}
use Rattle.sig_core.specs.VerdictTable.{is_same_signature, first_verdict}
use Rattle.sig_core.proofs.Names.{name_of_same}
use Rattle.sig_core.proofs.Rows.{same_parts}

-- the test decides whether two signatures are the same
pub is_same_signature-Decides : (a b : SignatureDigests) → Decides (is_same_signature a b) (a ≡ b)
is_same_signature-Decides a b =
    let alg = bytes_eq-Decides (name_of a.alg) (name_of b.alg) in
    let key = bytes_eq-Decides a.key b.key in
    let msg = bytes_eq-Decides a.msg b.msg in
    let sig = bytes_eq-Decides a.sig b.sig in
    Decides-like (is_same_signature a b)
    (λ h. same_parts a b (name_of_same a.alg b.alg h.0.0.0) h.0.0.1 h.0.1 h.1)
    (λ e. (((ap (λ r. name_of r.alg) e, ap (λ r. r.key) e), ap (λ r. r.msg) e), ap (λ r. r.sig) e))
    (Decides-and _ _ (Decides-and _ _ (Decides-and _ _ alg key) msg) sig)

-- what one more row adds
more : (rows : List VerdictRow) (row : VerdictRow) (q : SignatureDigests)
    → first_verdict (rows ++ row ∷ []) q ≡ option_or (first_verdict rows q) (cond (is_same_signature q row.signature) (Some row.verdict) None)
more rows row q =
    ap (option_map (λ r. r.verdict)) (find-append (λ r. is_same_signature q r.signature) rows (row ∷ []))
    ∙ mapped (find (λ r. is_same_signature q r.signature) rows) (is_same_signature q row.signature)
  where
    mapped : (found : Option VerdictRow) (b : Bool)
        → option_map (λ r. r.verdict) (option_or found (cond b (Some row) None)) ≡ option_or (option_map (λ r. r.verdict) found)
        (cond b (Some row.verdict) None)
    mapped None true = refl
    mapped None false = refl
    mapped (Some r) b = refl

kept_verdict : (found : Option Verdict) (v : Verdict) → Some (unwrap_or found v) ≡ option_or found (Some v)
kept_verdict None v = refl
kept_verdict (Some w) v = refl

none_more : (found : Option Verdict) → found ≡ option_or found None
none_more None = refl
none_more (Some w) = refl

module _ (cmp : SignatureDigests → SignatureDigests → Ordering) (order : IsTotalOrder cmp) (same : (a b : SignatureDigests) → cmp a b ≡ Equal → a ≡ b) where
  -- the map compares as the test does
  at_is_same : (a q : SignatureDigests) → is_at (cmp a) q ≡ is_same_signature q a
  at_is_same a q =
      one_answer (is_at (cmp a) q) (is_same_signature q a)
      (λ t. sym (same a q ((Equal-is (cmp a q)).0 t)), λ e. ap (is_at (cmp a)) e ∙ ap is_eq (tied_itself order a))
      (is_same_signature-Decides q a)

  -- one more row, whose verdict is inserted unless the map has one
  pub kept : (m n : BTreeMap SignatureDigests Verdict) (rows : List VerdictRow) (row : VerdictRow) (v : Verdict) → HasFirstVerdicts cmp rows m
      → v ≡ unwrap_or (get cmp m row.signature) row.verdict
      → ((q : SignatureDigests) → get cmp n q ≡ cond (is_at (cmp row.signature) q) (Some v) (get cmp m q))
      → HasFirstVerdicts cmp (rows ++ row ∷ []) n
  kept m n rows row v has is put q =
      put q ∙ ap (λ b. cond b (Some v) (get cmp m q)) (at_is_same row.signature q) ∙ by (is_same_signature q row.signature) refl ∙ sym (more rows row q)
    where
      by : (b : Bool) → is_same_signature q row.signature ≡ b
          → cond b (Some v) (get cmp m q) ≡ option_or (first_verdict rows q) (cond b (Some row.verdict) None)
      by true e =
          let one = (is_same_signature-Decides q row.signature).0 e in
          ap Some (is ∙ ap (λ o. unwrap_or o row.verdict) (has row.signature ∙ ap (first_verdict rows) (sym one)))
          ∙ kept_verdict (first_verdict rows q) row.verdict
      by false e = has q ∙ none_more (first_verdict rows q)

-- what compares as equal is the same, if a test that agrees with the comparison says so
pub one_of_equals : {X : Type 0} (test : X → X → Bool) (cmp : X → X → Ordering) → ((a b : X) → Decides (test a b) (a ≡ b))
    → ((a b : X) → test a b ≡ is_eq (cmp a b)) → (a b : X) → cmp a b ≡ Equal → a ≡ b
one_of_equals test cmp decides ties a b equal = (decides a b).0 (ties a b ∙ ap is_eq equal)
