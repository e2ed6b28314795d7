-- A table that has the rows of the questions decides as the scheme that gave them their verdicts.
use Rattle.std.proofs.Common.{◌≡◌, ◌≢◌, ◌⊎◌, ◌∙◌, Bool, true, false, cond, List, [], ◌∷◌, ◌++◌, Option, Some, None, inl, inr, refl, sym, ap, find, option_map}
use Rattle.std.specs.Option.{unwrap_or}
use Rattle.std.specs.Prelude.{Contains}
use Rattle.std.proofs.lemmas.List.Elements.{Contains-append_cases, Contains-append_left, Contains-append_right}
use Rattle.key_core.specs.Verifying.{Judge}
use Rattle.sig_core.specs.VerdictTable.{first_verdict, is_same_signature, verdict_of}
use Rattle.sig_core.specs.declared.scheme.Verdict.{Verdict}
use Rattle.sig_core.specs.declared.scheme.Verdict.TheVariants.{Accept, Malformed, Reject}
use Rattle.sig_core.specs.declared.verdict_row.SignatureDigests.{SignatureDigests}
use Rattle.sig_core.specs.declared.verdict_row.VerdictRow.{VerdictRow}
use Rattle.sig_core.proofs.Verdicts.{is_same_signature-Decides}
use Rattle.signature_questions.specs.Agreement.{Admits, Agree}
use Rattle.signature_questions.specs.Question.{Question, verdict_on}
use Rattle.signature_questions.specs.Tables.{AreApart, AreRowsFor, HasAcceptedRowsOf, HasRowsFor, HasRowsOf, digests_of, row_of}
use Rattle.signature_questions.proofs.Members.{first_or_later, first_there, later_there, none_there}

-- a row names the signature, and its verdict is the first one; or no row does
abbrev Found : List VerdictRow → SignatureDigests → Type 0
Found rows s =
    ((row : VerdictRow) × Contains rows row × (s ≡ row.signature) × (first_verdict rows s ≡ Some row.verdict))
    ⊎ (((row : VerdictRow) → Contains rows row → s ≡ row.signature → ⊥) × (first_verdict rows s ≡ None))

module _ (row : VerdictRow) (rows : List VerdictRow) (s : SignatureDigests) where
  first : is_same_signature s row.signature ≡ true → Found (row ∷ rows) s
  first is =
      inl (
        row,
        first_there row rows,
        (is_same_signature-Decides s row.signature).0 is,
        ap (λ (b : Bool). option_map (λ (r : VerdictRow). r.verdict) (cond b (Some row) (find (λ (r : VerdictRow). is_same_signature s r.signature) rows))) is,
      )

  skipped : is_same_signature s row.signature ≡ false → first_verdict (row ∷ rows) s ≡ first_verdict rows s
  skipped is =
      ap (λ (b : Bool). option_map (λ (r : VerdictRow). r.verdict) (cond b (Some row) (find (λ (r : VerdictRow). is_same_signature s r.signature) rows))) is

  other : is_same_signature s row.signature ≡ false → s ≡ row.signature → ⊥
  other is same = let e = sym is ∙ (is_same_signature-Decides s row.signature).1 same in absurd cc

  later : is_same_signature s row.signature ≡ false → Found rows s → Found (row ∷ rows) s
  later is (inl (there, among, same, verdict)) = inl (there, later_there row rows there among, same, skipped is ∙ verdict)
  later is (inr (none, verdict)) =
      inr (
        λ there among same. elim (first_or_later row rows there among) [
          | inl e ↦ other is (same ∙ ap (λ (r : VerdictRow). r.signature) (sym e))
          | inr more ↦ none there more same
        ],
        skipped is ∙ verdict,
      )

  by : (b : Bool) → is_same_signature s row.signature ≡ b → Found rows s → Found (row ∷ rows) s
  by true is found = first is
  by false is found = later is found

found : (rows : List VerdictRow) (s : SignatureDigests) → Found rows s
found [] s = inr (λ row among same. none_there row among, refl)
found (row ∷ rows) s = by row rows s (is_same_signature s row.signature) refl (found rows s)

module _ (judge : Judge) (Asked : Question → Type 0) (IsDue : Verdict → Type 0) (rows : List VerdictRow) (has : HasRowsFor judge Asked IsDue rows) where
  -- the table has the scheme's verdict, or none, which isn't due then
  decides : (q : Question) → Asked q → Found rows (digests_of q)
      → (verdict_on (verdict_of rows) q ≡ verdict_on judge q) ⊎ ((IsDue (verdict_on judge q) → ⊥) × (verdict_on (verdict_of rows) q ≡ Reject))
  decides q asked (inl (row, among, same, verdict)) = inl (ap (λ (v : Option Verdict). unwrap_or v Reject) verdict ∙ has.judged q asked row among (sym same))
  decides q asked (inr (none, verdict)) =
      inr (λ due. none (row_of judge q) (has.due q asked due) refl, ap (λ (v : Option Verdict). unwrap_or v Reject) verdict)

  pub decided : (q : Question) → Asked q
      → (verdict_on (verdict_of rows) q ≡ verdict_on judge q) ⊎ ((IsDue (verdict_on judge q) → ⊥) × (verdict_on (verdict_of rows) q ≡ Reject))
  decided q asked = decides q asked (found rows (digests_of q))

rejected : (v w : Verdict) → (w ≢ Reject → ⊥) → v ≡ Reject → w ≡ v
rejected v Accept not is = absurd (not (λ e. absurd cc))
rejected v Reject not is = sym is
rejected v Malformed not is = absurd (not (λ e. absurd cc))

pub rows_agree : (judge : Judge) (Asked : Question → Type 0) (rows : List VerdictRow) → HasRowsOf judge Asked rows → Agree Asked judge (verdict_of rows)
rows_agree judge Asked rows has q asked = elim (decided judge Asked _ rows has q asked) [
  | inl same ↦ sym same
  | inr none ↦ rejected (verdict_on (verdict_of rows) q) (verdict_on judge q) none.0 none.1
]

pub accepted_rows_admit : (judge : Judge) (Asked : Question → Type 0) (rows : List VerdictRow) → HasAcceptedRowsOf judge Asked rows
    → Admits Asked judge (verdict_of rows)
accepted_rows_admit judge Asked rows has q asked accepts = elim (decided judge Asked _ rows has q asked) [
  | inl same ↦ same ∙ accepts
  | inr none ↦ absurd (none.0 accepts)
]

pub accepted_rows_are_admitted : (judge : Judge) (Asked : Question → Type 0) (rows : List VerdictRow) → HasAcceptedRowsOf judge Asked rows
    → Admits Asked (verdict_of rows) judge
accepted_rows_are_admitted judge Asked rows has q asked accepts = elim (decided judge Asked _ rows has q asked) [
  | inl same ↦ sym same ∙ accepts
  | inr none ↦ absurd (let e = sym accepts ∙ none.1 in cc)
]

-- ---- the rows of more questions

-- a table has the rows that it is made of
pub own_rows : (judge : Judge) (Asked : Question → Type 0) (IsDue : Verdict → Type 0) (rows : List VerdictRow) → AreRowsFor judge Asked IsDue rows
    → HasRowsFor judge Asked IsDue rows
own_rows judge Asked IsDue rows are = record {
  judged = λ q asked row among same.
      let there = are.of_questions row among in
      ap (λ (r : VerdictRow). r.verdict) there.2 ∙ are.apart there.0 q there.1 asked (sym (ap (λ (r : VerdictRow). r.signature) there.2) ∙ same);
  due = are.due;
}

-- a row of the others that names the signature of a question has the same verdict
other_row : (judge : Judge) (Asked Others : Question → Type 0) (IsDue : Verdict → Type 0) (more : List VerdictRow) → AreRowsFor judge Others IsDue more
    → AreApart judge Asked Others
    → (q : Question) → Asked q → (row : VerdictRow) → Contains more row → row.signature ≡ digests_of q → row.verdict ≡ verdict_on judge q
other_row judge Asked Others IsDue more are apart q asked row among same =
    let there = are.of_questions row among in
    ap (λ (r : VerdictRow). r.verdict) there.2 ∙ sym (apart q there.0 asked there.1 (sym same ∙ ap (λ (r : VerdictRow). r.signature) there.2))

-- two tables behind each other have the rows of both
pub joined_rows : (judge : Judge) (Asked Others : Question → Type 0) (IsDue : Verdict → Type 0) (rows more : List VerdictRow)
    → AreRowsFor judge Asked IsDue rows → AreRowsFor judge Others IsDue more → AreApart judge Asked Others
    → HasRowsFor judge Asked IsDue (rows ++ more) × HasRowsFor judge Others IsDue (rows ++ more)
joined_rows judge Asked Others IsDue rows more are also apart = (
  record {
    judged = λ q asked row among same. elim (Contains-append_cases rows more row among) [
      | inl first ↦ (own_rows judge Asked IsDue rows are).judged q asked row first same
      | inr later ↦ other_row judge Asked Others IsDue more also apart q asked row later same
    ];
    due = λ q asked due. Contains-append_left rows more (row_of judge q) (are.due q asked due);
  },
  record {
    judged = λ q asked row among same. elim (Contains-append_cases rows more row among) [
      | inl first ↦ other_row judge Others Asked IsDue rows are (λ r s others own e. sym (apart s r own others (sym e))) q asked row first same
      | inr later ↦ (own_rows judge Others IsDue more also).judged q asked row later same
    ];
    due = λ q asked due. Contains-append_right rows more (row_of judge q) (also.due q asked due);
  },
)
