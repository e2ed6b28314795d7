-- A text is a table of one list of rows, or has one first bad line, and never both.
use Rattle.std.proofs.Common.{◌≡◌, ℕ, ◌+◌, List, [], ◌∷◌, ◌++◌, length, refl, sym, ◌∙◌, ap, ap₂, append_assoc, inl, inr}
use Rattle.std.specs.Prelude.{◌⊎◌}
use Rattle.std.specs.List.{AllByRecursion}
use Rattle.std.proofs.lemmas.List.{append-nil, append_cancel_left}
use Rattle.sig_core.specs.declared.verdict_row.TableVersion.{TableVersion}
use Rattle.sig_core.specs.declared.verdict_row.TableVersion.TheVariants.{One, Two}
use Rattle.sig_core.specs.declared.verdict_row.VerdictRow.{VerdictRow}
use Rattle.sig_core.specs.declared.verdict_table.TableError.{TableError}
use Rattle.sig_core.specs.declared.verdict_table.TableError.TheVariants.{BadLine, Memory}
use Rattle.sig_core.specs.VerdictTable.{IsTable, IsFirstBadLine, IsCause, IsRow, IsOfVersion, BeginsWithLine}
use Rattle.sig_core.specs.VerdictTable.{BeginsWithNoLine, first_line, first_number, line_of, lines_of, version_2_text}
use Rattle.sig_core.proofs.Rows.{lines_once, nothing_begins, rows_of_two}

-- a text has one version, and parses unambiguously up to where no line begins
once : (text : List ℕ) (v w : TableVersion) (ps qs : List VerdictRow) (x y : List ℕ) → IsOfVersion text v → IsOfVersion text w
    → AllByRecursion (IsRow v) ps → AllByRecursion (IsRow w) qs → BeginsWithNoLine v x → BeginsWithNoLine w y
    → text ≡ first_line v ++ lines_of v ps ++ x → text ≡ first_line w ++ lines_of w qs ++ y → (v ≡ w) × (ps ≡ qs) × (x ≡ y)
once text One One ps qs x y hv hw hp hq nx ny e f =
    let lines = lines_once One ps qs x y hp hq nx ny (sym e ∙ f) in
    (refl, lines.0, lines.1)
once text Two Two ps qs x y hv hw hp hq nx ny e f =
    let lines = lines_once Two ps qs x y hp hq nx ny
    (append_cancel_left (first_line Two) (lines_of Two ps ++ x) (lines_of Two qs ++ y)
    (sym (append_assoc (first_line Two) (lines_of Two ps) x) ∙ sym e ∙ f ∙ append_assoc (first_line Two) (lines_of Two qs) y)) in
    (refl, lines.0, lines.1)
once text One Two ps qs x y hv hw hp hq nx ny e f = absurd (hv hw.0 hw.1)
once text Two One ps qs x y hv hw hp hq nx ny e f = absurd (hw hv.0 hv.1)

-- the rows of a table are determined
pub table_once : (text : List ℕ) (a b : List VerdictRow) → IsTable text a → IsTable text b → a ≡ b
table_once text a b ha hb =
    (once text ha.version hb.version a b [] [] ha.of_version hb.of_version ha.are_rows hb.are_rows (nothing_begins ha.version) (nothing_begins hb.version)
    (ha.spelled ∙ sym (append-nil _)) (hb.spelled ∙ sym (append-nil _))).1

-- a table has no bad line
pub no_bad_line : (text : List ℕ) (rows : List VerdictRow) (number : ℕ) → IsTable text rows → IsFirstBadLine text number → ⊥
no_bad_line text rows number h bad =
    bad.more (sym (once text h.version bad.version rows bad.before [] bad.rest h.of_version bad.of_version h.are_rows bad.are_rows
    (nothing_begins h.version) bad.bad
    (h.spelled ∙ sym (append-nil _)) bad.spelled).2)

-- the first bad line is determined
pub bad_line_once : (text : List ℕ) (m n : ℕ) → IsFirstBadLine text m → IsFirstBadLine text n → m ≡ n
bad_line_once text m n a b =
    let same = once text a.version b.version a.before b.before a.rest b.rest a.of_version b.of_version a.are_rows b.are_rows a.bad b.bad a.spelled b.spelled in
    a.counted ∙ ap₂ (λ rows version. length rows + first_number version) same.1 same.0 ∙ sym b.counted

-- if a row follows the rows so far, the text begins with a row
pub begins_with_line : (text : List ℕ) (version : TableVersion) (rows : List VerdictRow) (rest : List ℕ) (row : VerdictRow) (after : List ℕ)
    → AllByRecursion (IsRow version) rows → text ≡ first_line version ++ lines_of version rows ++ rest → IsRow version row → rest ≡ line_of version row ++ after
    → BeginsWithLine text
begins_with_line text version [] rest row after are_rows spelled is_row begun =
    record {
      version = version;
      row = row;
      after = after;
      is_row = is_row;
      spelled = spelled ∙ ap₂ (λ l r. l ++ r) (append-nil (first_line version)) begun ∙ sym (append_assoc (first_line version) (line_of version row) after);
    }
begins_with_line text version (first ∷ others) rest row after are_rows spelled is_row begun =
    record {
      version = version;
      row = first;
      after = lines_of version others ++ rest;
      is_row = are_rows.0;
      spelled = spelled ∙ parts (first_line version) (line_of version first) (lines_of version others) rest;
    }
  where
    parts : (a b c d : List ℕ) → a ++ (b ++ c) ++ d ≡ a ++ b ++ (c ++ d)
    parts a b c d = ap (λ l. l ++ d) (sym (append_assoc a b c)) ∙ append_assoc (a ++ b) c d

-- a table is only refused when out of memory
pub cause_at_table : (text : List ℕ) (rows : List VerdictRow) (e : TableError) → IsTable text rows → IsCause text e → e ≡ Memory
cause_at_table text rows (BadLine number) h bad = absurd (no_bad_line text rows number h bad)
cause_at_table text rows Memory h cause = refl

-- a text with a bad line is refused for that line, or when out of memory
pub cause_at_bad_line : (text : List ℕ) (number : ℕ) (e : TableError) → IsFirstBadLine text number → IsCause text e
    → (e ≡ BadLine number) ⊎ (e ≡ Memory)
cause_at_bad_line text number (BadLine other) h bad = inl (ap BadLine (bad_line_once text other number bad h))
cause_at_bad_line text number Memory h cause = inr refl

-- a table of some rows begins with a line
pub begins_where_some : (text : List ℕ) (rows : List VerdictRow) → IsTable text rows → (rows ≡ [] → ⊥) → BeginsWithLine text
begins_where_some text [] table some = absurd (some refl)
begins_where_some text (row ∷ others) table some =
    record {
      version = table.version;
      row = row;
      after = lines_of table.version others;
      is_row = table.are_rows.0;
      spelled = table.spelled ∙ sym (append_assoc (first_line table.version) (line_of table.version row) (lines_of table.version others));
    }

-- the text written for some rows is a table of them
pub text_is_table : (rows : List VerdictRow) → AllByRecursion (IsRow Two) rows → IsTable (version_2_text rows) rows
text_is_table rows h = record { version = Two; of_version = (lines_of Two rows, refl); are_rows = h; spelled = refl }

-- the rows of a table of either version have a text of version 2
pub carried : (text : List ℕ) (rows : List VerdictRow) → IsTable text rows → IsTable (version_2_text rows) rows
carried text rows h = text_is_table rows (rows_of_two h.version rows h.are_rows)
