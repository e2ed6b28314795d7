-- The lines of questions, one after another.
use Rattle.std.proofs.Common.{◌≡◌, ℕ, List, [], ◌∷◌, ◌++◌, append_assoc, refl, sym, ap, subst, ◌∙◌}
use Rattle.std.proofs.lemmas.List.{append-nil}
use Rattle.signature_questions.specs.Lines.{question_line, question_lines}
use Rattle.signature_questions.specs.Question.{Question}

lines_more : (seen : List Question) (q : Question) → question_lines (seen ++ q ∷ []) ≡ question_lines seen ++ question_line q
lines_more [] q = append-nil (question_line q)
lines_more (first ∷ seen) q =
    ap (λ (text : List ℕ). question_line first ++ text) (lines_more seen q) ∙ sym (append_assoc (question_line first) (question_lines seen) (question_line q))

-- The questions so far are written; with those that are left they are all.
pub record AreWritten (All Left : List Question → Type 0) (text : List ℕ) : Type 0 where
  pub seen : List Question
  pub text_is : text ≡ question_lines seen
  pub ahead : (others : List Question) → Left others → All (seen ++ others)

pub none_written : (All : List Question → Type 0) (text : List ℕ) → text ≡ [] → AreWritten All All text
none_written All text is = record { seen = []; text_is = is; ahead = λ others are. are }

pub more_written : (All Left Behind : List Question → Type 0) (text longer : List ℕ) (q : Question) → AreWritten All Left text
    → ((others : List Question) → Behind others → Left (q ∷ others))
    → longer ≡ text ++ question_line q → AreWritten All Behind longer
more_written All Left Behind text longer q h next is = record {
  seen = h.seen ++ q ∷ [];
  text_is = is ∙ ap (λ (t : List ℕ). t ++ question_line q) h.text_is ∙ sym (lines_more h.seen q);
  ahead = λ others are. subst All (sym (append_assoc h.seen (q ∷ []) others)) (h.ahead (q ∷ others) (next others are));
}

pub all_written : (All Left : List Question → Type 0) (text : List ℕ) → AreWritten All Left text → Left []
    → (qs : List Question) × All qs × (text ≡ question_lines qs)
all_written All Left text h none = (h.seen, subst All (append-nil h.seen) (h.ahead [] none), h.text_is)
