-- What a table accepts, the verifier behind it accepts.
use Rattle.std.proofs.Common.{◌≡◌, ◌∙◌, Bool, true, false, cond, ℕ, List, [], ◌∷◌}
use Rattle.std.proofs.Common.{Some, inl, inr, refl, sym, ap, find, option_map, map}
use Rattle.std.specs.Option.{unwrap_or}
use Rattle.std.specs.Prelude.{Contains}
use Rattle.key_core.specs.Verifying.{Judge}
use Rattle.sig_core.specs.VerdictTable.{is_same_signature, verdict_of}
use Rattle.sig_core.specs.declared.scheme.Verdict.{Verdict}
use Rattle.sig_core.specs.declared.scheme.Verdict.TheVariants.{Accept, Reject}
use Rattle.sig_core.specs.declared.verdict_row.SignatureDigests.{SignatureDigests}
use Rattle.sig_core.specs.declared.verdict_row.VerdictRow.{VerdictRow}
use Rattle.sig_core.proofs.Verdicts.{is_same_signature-Decides}
use Rattle.signature_questions.specs.Agreement.{Admits}
use Rattle.signature_questions.specs.Question.{Question, verdict_on}
use Rattle.signature_questions.specs.Tables.{digests_of, row_of}
use Rattle.signature_questions.proofs.Members.{first_or_later, first_there, later_there, none_there}
use Rattle.sig_core.specs.declared.algorithm.SigAlg.{SigAlg}
use Rattle.vouching.specs.Verified.{AreToldApart, AreVerified, HaveOwnDigests, IsInPlay, StandsBehind}

-- an accepting row that names the signature
abbrev Accepting : List VerdictRow → SignatureDigests → Type 0
Accepting rows s = (row : VerdictRow) × Contains rows row × (row.signature ≡ s) × (row.verdict ≡ Accept)

module _ (row : VerdictRow) (rows : List VerdictRow) (s : SignatureDigests) where
  chosen : Bool → Verdict
  chosen b = unwrap_or (option_map (λ (r : VerdictRow). r.verdict)
      (cond b (Some row) (find (λ (r : VerdictRow). is_same_signature s r.signature) rows))) Reject

  by : (b : Bool) → is_same_signature s row.signature ≡ b → chosen (is_same_signature s row.signature) ≡ Accept
      → (chosen false ≡ Accept → Accepting rows s) → Accepting (row ∷ rows) s
  unfolding chosen
  by true is accepts later =
      (row, first_there row rows, sym ((is_same_signature-Decides s row.signature).0 is), sym (ap chosen is) ∙ accepts)
  by false is accepts later =
      let there = later (sym (ap chosen is) ∙ accepts) in
      (there.0, later_there row rows there.0 there.1, there.2, there.3)

-- what a table accepts, a row accepts
pub accepting : (rows : List VerdictRow) (q : Question) → verdict_on (verdict_of rows) q ≡ Accept → Accepting rows (digests_of q)
unfolding chosen
accepting [] q accepts = absurd cc
accepting (row ∷ rows) q accepts =
    by row rows (digests_of q) (is_same_signature (digests_of q) row.signature) refl accepts (accepting rows q)

pub admitted : (judge : Judge) (asked : List Question) (MayAsk : Question → Type 0) (rows : List VerdictRow) → StandsBehind judge asked MayAsk rows
    → Admits MayAsk (verdict_of rows) judge
admitted judge asked MayAsk rows behind q may accepts =
    let there = accepting rows q accepts in
    let is = behind.verified there.0 there.1 there.3 in
    let same = behind.apart q is.question (inr may) (inl is.among) (sym there.2 ∙ is.names) in
    ap (verdict_on judge) same ∙ is.accepted

-- ---- tables that a verifier stands behind

-- only the questions that were asked are in play
pub only_asked : (asked : List Question) (MayAsk : Question → Type 0) → ((q : Question) → MayAsk q → Contains asked q) → AreToldApart (Contains asked)
    → AreToldApart (IsInPlay asked MayAsk)
only_asked asked MayAsk are apart q r q_in r_in same = apart q r (within q q_in) (within r r_in) same
  where
    within : (x : Question) → IsInPlay asked MayAsk x → Contains asked x
    within x (inl h) = h
    within x (inr h) = are x h

-- each row of the verdicts on some questions is that of one
row_is : (judge : Judge) (asked : List Question) (row : VerdictRow) → Contains (map (row_of judge) asked) row
    → (q : Question) × Contains asked q × (row_of judge q ≡ row)
row_is judge [] row among = absurd (none_there row among)
row_is judge (q ∷ qs) row among = elim (first_or_later (row_of judge q) (map (row_of judge) qs) row among) [
  | inl same ↦ (q, first_there q qs, same)
  | inr more ↦ let there = row_is judge qs row more in (there.0, later_there q qs there.0 there.1, there.2)
]

pub own_rows : (judge : Judge) (asked : List Question) → AreVerified judge asked (map (row_of judge) asked)
own_rows judge asked row among accepts =
    let there = row_is judge asked row among in record {
      question = there.0;
      among = there.1;
      names = sym (ap (λ (r : VerdictRow). r.signature) there.2);
      accepted = ap (λ (r : VerdictRow). r.verdict) there.2 ∙ accepts;
    }

abbrev pub accepting_row : Question → VerdictRow
accepting_row question = record { verdict = Accept; signature = digests_of question }

pub one_verified : (judge : Judge) (question : Question) → verdict_on judge question ≡ Accept
    → AreVerified judge (question ∷ []) (accepting_row question ∷ [])
one_verified judge question accepted row among accepts = elim (first_or_later (accepting_row question) [] row among) [
  | inl is ↦ record {
    question = question;
    among = first_there question [];
    names = sym (ap (λ (r : VerdictRow). r.signature) is);
    accepted = accepted;
  }
  | inr none ↦ absurd (none_there row none)
]

pub one_apart : (question : Question) → AreToldApart (Contains (question ∷ []))
one_apart question q r q_in r_in same = sym (only q q_in) ∙ only r r_in
  where
    only : (x : Question) → Contains (question ∷ []) x → question ≡ x
    only x h = elim (first_or_later question [] x h) [
      | inl is ↦ is
      | inr none ↦ absurd (none_there x none)
    ]

-- ---- where no two parts share a digest

abbrev of_parts : SigAlg → List ℕ → List ℕ → List ℕ → Question
of_parts a k m s = record { algorithm = a; key = k; message = m; signature = s }

parts_same : (q r : Question) → digests_of q ≡ digests_of r → q.key ≡ r.key → q.message ≡ r.message → q.signature ≡ r.signature → q ≡ r
parts_same q r same key message signature =
    let algorithm = ap (λ (d : SignatureDigests). d.alg) same in
    ap (λ (a : SigAlg). of_parts a q.key q.message q.signature) algorithm ∙ ap (λ (k : List ℕ). of_parts r.algorithm k q.message q.signature) key
    ∙ ap (λ (m : List ℕ). of_parts r.algorithm r.key m q.signature) message ∙ ap (λ (s : List ℕ). of_parts r.algorithm r.key r.message s) signature

pub own_apart : (InPlay : Question → Type 0) → HaveOwnDigests InPlay → AreToldApart InPlay
own_apart InPlay own q r q_in r_in same =
    parts_same q r same
    (own q.key r.key (q, q_in, inl refl) (r, r_in, inl refl) (ap (λ (d : SignatureDigests). d.key) same))
    (own q.message r.message (q, q_in, inr (inl refl)) (r, r_in, inr (inl refl)) (ap (λ (d : SignatureDigests). d.msg) same))
    (own q.signature r.signature (q, q_in, inr (inr refl)) (r, r_in, inr (inr refl)) (ap (λ (d : SignatureDigests). d.sig) same))
