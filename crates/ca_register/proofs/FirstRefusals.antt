-- The first line that isn't issued is refused for one reason, which the lines decide.
use Rattle.std.proofs.Common.{◌≡◌, ◌⊎◌, ℕ, List, [], ◌∷◌, ◌++◌, Option, Some, None, inl, inr, refl, sym, ap, subst, ◌∙◌}
use Rattle.std.proofs.lemmas.Bool.{false≢true}
use Rattle.der_core.specs.Steps.{IsFirstUntaken}
use Rattle.der_core.proofs.TakenSteps.{HasOneError, HaveOneError}
use Rattle.ca_register.specs.Lines.{Line}
use Rattle.ca_register.specs.Issuing.{root_step}
use Rattle.ca_register.specs.LineEntries.{AreIssuable, IsFirstRefused, IsIssuable, entries_of, grant_of, steps_after}
use Rattle.ca_register.specs.declared.entry.Entry.{Entry}
use Rattle.ca_register.specs.declared.entry.Grant.{Grant}
use Rattle.ca_register.specs.declared.error.IssueError.{IssueError}
use Rattle.ca_register.specs.declared.error.IssueError.TheVariants as errors
use Rattle.ca_register.proofs.RecordSteps.{one_untaken, record_steps_decide, taken_untaken}

-- ---- the steps of a line decide

root_decides : (grant : Grant) → HasOneError (root_step grant)
root_decides grant = record {
  one = λ e other x y. x.1 ∙ sym y.1;
  none = λ e taken x. false≢true (sym x.0 ∙ taken);
}

pub steps_decide : (entries : List Entry) (issuer : Option ℕ) (grant : Grant) → HaveOneError (steps_after entries issuer grant)
steps_decide entries None grant = (root_decides grant, tt)
steps_decide entries (Some issuer) grant = record_steps_decide entries issuer

-- ---- what refuses a line

-- the reason is one of those that the lines decide
abbrev pub IsRecorded : IssueError → Type 0
IsRecorded (errors.NoIssuer issuer len) = Unit {0}
IsRecorded errors.NotCa = Unit {0}
IsRecorded (errors.TooDeep ancestor) = Unit {0}
IsRecorded (errors.Request source) = ⊥
IsRecorded (errors.Build source) = ⊥
IsRecorded (errors.WrongKey source) = ⊥
IsRecorded errors.Memory = ⊥

pub recorded : (entries : List Entry) (issuer : Option ℕ) (grant : Grant) (e : IssueError) → IsFirstUntaken (steps_after entries issuer grant) e → IsRecorded e
recorded entries None grant e (inl x) = subst IsRecorded (sym x.1) tt
recorded entries None grant e (inr (taken, none)) = absurd none
recorded entries (Some issuer) grant e (inl x) = subst IsRecorded (sym x.1) tt
recorded entries (Some issuer) grant e (inr (taken, inl x)) = subst IsRecorded (sym x.3) tt
recorded entries (Some issuer) grant e (inr (taken, inr (able, inl x))) = subst IsRecorded (sym x.2) tt
recorded entries (Some issuer) grant e (inr (taken, inr (able, inr (deep, none)))) = absurd none

-- ---- one reason

-- Two lists that begin a third one: they are the same, or one goes on with the line behind the other.
pub record Begins (ahead behind longer after : List Line) (line other : Line) : Type 0 where
  pub between : List Line
  pub is : longer ≡ ahead ++ line ∷ between

pub record IsSame (ahead longer : List Line) (line other : Line) : Type 0 where
  pub ahead_is : ahead ≡ longer
  pub line_is : line ≡ other

same_head : (x y : Line) (xs ys : List Line) → x ∷ xs ≡ y ∷ ys → x ≡ y
same_head x y xs ys e = cc

same_tail : (x y : Line) (xs ys : List Line) → x ∷ xs ≡ y ∷ ys → xs ≡ ys
same_tail x y xs ys e = cc

pub where_first : (ahead behind other after : List Line) (line next : Line) → ahead ++ line ∷ behind ≡ other ++ next ∷ after
    → IsSame ahead other line next ⊎ (Begins ahead behind other after line next ⊎ Begins other after ahead behind next line)
where_first [] behind [] after line next e = inl (record { ahead_is = refl; line_is = same_head line next behind after e })
where_first [] behind (o ∷ other) after line next e =
    inr (inl (record { between = other; is = ap (λ (l : Line). l ∷ other) (sym (same_head line o behind (other ++ next ∷ after) e)) }))
where_first (a ∷ ahead) behind [] after line next e =
    inr (inr (record { between = ahead; is = ap (λ (l : Line). l ∷ ahead) (same_head a next (ahead ++ line ∷ behind) after e) }))
where_first (a ∷ ahead) behind (o ∷ other) after line next e =
    by (where_first ahead behind other after line next (same_tail a o (ahead ++ line ∷ behind) (other ++ next ∷ after) e))
  where
    here : a ≡ o
    here = same_head a o (ahead ++ line ∷ behind) (other ++ next ∷ after) e

    by : IsSame ahead other line next ⊎ (Begins ahead behind other after line next ⊎ Begins other after ahead behind next line)
        → IsSame (a ∷ ahead) (o ∷ other) line next
        ⊎ (Begins (a ∷ ahead) behind (o ∷ other) after line next ⊎ Begins (o ∷ other) after (a ∷ ahead) behind next line)
    by (inl same) = inl (record { ahead_is = ap (λ (l : Line). l ∷ ahead) here ∙ ap (λ (ls : List Line). o ∷ ls) same.ahead_is; line_is = same.line_is })
    by (inr (inl x)) = inr (inl (record {
      between = x.between;
      is = ap (λ (ls : List Line). o ∷ ls) x.is ∙ ap (λ (l : Line). l ∷ (ahead ++ line ∷ x.between)) (sym here);
    }))
    by (inr (inr x)) = inr (inr (record {
      between = x.between;
      is = ap (λ (ls : List Line). a ∷ ls) x.is ∙ ap (λ (l : Line). l ∷ (other ++ next ∷ x.between)) here;
    }))

not_issuable : (ahead : List Line) (line : Line) (e : IssueError) → IsIssuable ahead line
    → IsFirstUntaken (steps_after (entries_of ahead) line.issuer (grant_of line)) e → ⊥
not_issuable ahead line e issuable untaken =
    taken_untaken (steps_after (entries_of ahead) line.issuer (grant_of line)) e (steps_decide (entries_of ahead) line.issuer (grant_of line)) issuable untaken

-- lines that are issued have none that is refused
pub none_refused : (lines : List Line) (e : IssueError) → AreIssuable lines → IsFirstRefused lines e → ⊥
none_refused lines e issuable first = not_issuable first.ahead first.refused e (issuable first.ahead first.behind first.refused first.are) first.reason

pub one_refusal : (lines : List Line) (e other : IssueError) → IsFirstRefused lines e → IsFirstRefused lines other → e ≡ other
one_refusal lines e other x y = by (where_first x.ahead x.behind y.ahead y.behind x.refused y.refused (sym x.are ∙ y.are))
  where
    by : IsSame x.ahead y.ahead x.refused y.refused
        ⊎ (Begins x.ahead x.behind y.ahead y.behind x.refused y.refused ⊎ Begins y.ahead y.behind x.ahead x.behind y.refused x.refused) → e ≡ other
    by (inl same) =
        let reason = subst (λ (l : Line). IsFirstUntaken (steps_after (entries_of y.ahead) l.issuer (grant_of l)) e) same.line_is
        (subst (λ (ls : List Line). IsFirstUntaken (steps_after (entries_of ls) x.refused.issuer (grant_of x.refused)) e) same.ahead_is x.reason) in
        one_untaken (steps_after (entries_of y.ahead) y.refused.issuer (grant_of y.refused)) e other
        (steps_decide (entries_of y.ahead) y.refused.issuer (grant_of y.refused)) reason y.reason
    by (inr (inl z)) = absurd (not_issuable x.ahead x.refused e (y.issued x.ahead z.between x.refused z.is) x.reason)
    by (inr (inr z)) = absurd (not_issuable y.ahead y.refused other (x.issued y.ahead z.between y.refused z.is) y.reason)
