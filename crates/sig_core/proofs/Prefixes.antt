-- What `strip_prefix` returns for texts, and that each verdict is in the list of verdicts.
use Rattle.std.proofs.Common.{◌≡◌, ℕ, true, List, ◌++◌, length, take, drop, refl, sym, ◌∙◌, ap₂, bytes_eq, Contains, lit<}
use Rattle.std.proofs.lemmas.List.{take-append-drop}
use Rattle.std.proofs.lemmas.Slice.Eq.{bytes_eq-Decides}
use Rattle.sig_core.specs.declared.scheme.Verdict.{Verdict}
use Rattle.sig_core.specs.declared.scheme.Verdict.TheVariants.{Accept, Reject, Malformed}
use Rattle.sig_core.specs.declared.verdict_row.TheConstants.{VERDICTS}

-- a text that begins with the prefix
pub stripped : (prefix text rest : List ℕ) → bytes_eq (take (length prefix) text) prefix ≡ true → rest ≡ drop (length prefix) text
    → text ≡ prefix ++ rest
stripped prefix text rest begins e =
    sym (take-append-drop (length prefix) text) ∙ ap₂ (λ x y. x ++ y) ((bytes_eq-Decides (take (length prefix) text) prefix).0 begins) (sym e)

-- the list of the verdicts has each
pub has_each_verdict : (verdict : Verdict) → Contains VERDICTS verdict
has_each_verdict Accept = (0, lit< tt, refl)
has_each_verdict Reject = (1, lit< tt, refl)
has_each_verdict Malformed = (2, lit< tt, refl)
