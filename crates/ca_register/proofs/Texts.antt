-- A text is read line by line, and in one way.
use Rattle.std.proofs.Common.{◌≡◌, ℕ, ◌<◌, ◌≤◌, List, [], ◌∷◌, ◌++◌, length, refl, sym, ◌∙◌, ap, subst, arith, append_assoc, append-nil, length-append}
use Rattle.std.specs.List.{AllByRecursion, flat_map}
use Rattle.std.specs.Str.{IsAscii}
use Rattle.std.proofs.lemmas.Str.Ascii.{IsAscii-cons, IsAscii-nil}
use Rattle.sig_core.specs.VerdictTable.{newline}
use Rattle.ca_register.specs.Lines.{HasBadLine, IsLine, IsLineOfWords, IsRegisterText, Line, line_text, line_words}
use Rattle.ca_register.proofs.Spelling.{line_in_line}

-- What is left of a text begins with a line.
pub record BeginsWithLine (rest : List ℕ) (others : List Line) : Type 0 where
  pub line : Line
  pub more : List Line
  pub are : others ≡ line ∷ more
  pub is : IsLine line
  pub each : AllByRecursion IsLine more
  pub spelled : rest ≡ line_words line ++ newline ∷ flat_map line_text more

pub begins : (rest : List ℕ) (others : List Line) → AllByRecursion IsLine others → rest ≡ flat_map line_text others → (rest ≡ [] → ⊥)
    → BeginsWithLine rest others
begins rest [] each spelled some = absurd (some spelled)
begins rest (line ∷ more) each spelled some = record {
  line = line;
  more = more;
  are = refl;
  is = each.0;
  each = each.1;
  spelled = spelled ∙ append_assoc (line_words line) (newline ∷ []) (flat_map line_text more);
}

-- So many lines of a text were read, and the rest is left.
pub record HasRead (text rest : List ℕ) (read : List Line) : Type 0 where
  pub few : length read ≤ 200
  pub each : AllByRecursion IsLine read
  pub spelled : text ≡ flat_map line_text read ++ rest
  pub left : (lines : List Line) → IsRegisterText text lines
      → (others : List Line) × (lines ≡ read ++ others) × AllByRecursion IsLine others × (rest ≡ flat_map line_text others)

pub none_read : (text : List ℕ) → HasRead text text []
none_read text = record { few = omega arith; each = tt; spelled = refl; left = λ lines is. (lines, refl, is.each, is.spelled) }

flat_more : (read : List Line) (line : Line) → flat_map line_text (read ++ line ∷ []) ≡ flat_map line_text read ++ line_text line
flat_more [] line = append-nil (line_text line)
flat_more (first ∷ read) line = ap (λ (text : List ℕ). line_text first ++ text) (flat_more read line)
    ∙ sym (append_assoc (line_text first) (flat_map line_text read) (line_text line))

each_more : (read : List Line) (line : Line) → AllByRecursion IsLine read → IsLine line → AllByRecursion IsLine (read ++ line ∷ [])
each_more [] line each is = (is, tt)
each_more (first ∷ read) line each is = (each.0, each_more read line each.1 is)

module _ (text rest : List ℕ) (read : List Line) (so_far : HasRead text rest read) (some : rest ≡ [] → ⊥) where
  next : (lines : List Line) → IsRegisterText text lines → (others : List Line) × (lines ≡ read ++ others) × BeginsWithLine rest others
  next lines is = let left = so_far.left lines is in (left.0, left.1, begins rest left.0 left.2 left.3 some)

  -- a rest that begins with no line
  pub bad_rest : ((line : Line) (more : List ℕ) → IsLine line → rest ≡ line_words line ++ newline ∷ more → ⊥) → HasBadLine text
  bad_rest none lines is = let begun = (next lines is).2 in none begun.line (flat_map line_text begun.more) begun.is begun.spelled

  -- a line too many
  pub too_many : 200 ≤ length read → HasBadLine text
  too_many full lines is =
      let left = next lines is in
      let all = ap length (left.1 ∙ ap (λ (others : List Line). read ++ others) left.2.are) ∙ length-append read (left.2.line ∷ left.2.more) in
      omega (arith, full, all, is.few)

  module _ (words behind : List ℕ) (line : Line) (is : IsLine line) (words_are : words ≡ line_words line) (cut : rest ≡ words ++ newline ∷ behind)
      (cut_once : (w r : List ℕ) → IsLineOfWords w → rest ≡ w ++ newline ∷ r → (words ≡ w) × (behind ≡ r))
      (line_once : (other : Line) → IsLine other → words ≡ line_words other → line ≡ other) where
    pub read_more : length read < 200 → HasRead text behind (read ++ line ∷ [])
    read_more room = record {
      few = omega (arith, room, length-append read (line ∷ []));
      each = each_more read line so_far.each is;
      spelled = so_far.spelled ∙ ap (λ (r : List ℕ). flat_map line_text read ++ r) (cut ∙ ap (λ (w : List ℕ). w ++ newline ∷ behind) words_are
          ∙ sym (append_assoc (line_words line) (newline ∷ []) behind))
          ∙ sym (append_assoc (flat_map line_text read) (line_text line) behind) ∙ ap (λ (t : List ℕ). t ++ behind) (sym (flat_more read line));
      left = λ lines are.
          let left = next lines are in
          let begun = left.2 in
          let same = cut_once (line_words begun.line) (flat_map line_text begun.more) (line_in_line begun.line begun.is) begun.spelled in
          let one = line_once begun.line begun.is same.0 in (
            begun.more,
            left.1 ∙ ap (λ (others : List Line). read ++ others) (begun.are ∙ ap (λ (l : Line). l ∷ begun.more) (sym one))
                ∙ sym (append_assoc read (line ∷ []) begun.more),
            begun.each,
            same.1,
          );
    }

nothing_left : (others : List Line) → [] ≡ flat_map line_text others → others ≡ []
nothing_left [] spelled = refl
nothing_left (line ∷ more) spelled =
    absurd (let long = ap length spelled ∙ length-append (line_text line) (flat_map line_text more) in
    let some = length-append (line_words line) (newline ∷ []) in
    omega (arith, long, some))

-- at the end of a text
module _ (text rest : List ℕ) (read : List Line) (so_far : HasRead text rest read) (none : rest ≡ []) where
  pub read_once : (lines : List Line) → IsRegisterText text lines → read ≡ lines
  read_once lines is =
      let left = so_far.left lines is in
      let nothing = nothing_left left.0 (sym none ∙ left.3) in
      sym (left.1 ∙ ap (λ (others : List Line). read ++ others) nothing ∙ append-nil read)

-- ---- ASCII

ascii_line : (line : List ℕ) → IsLineOfWords line → (more : List ℕ) → IsAscii more → IsAscii (line ++ newline ∷ more)
ascii_line [] is more others = IsAscii-cons newline more (omega arith) others
ascii_line (octet ∷ line) is more others = IsAscii-cons octet (line ++ newline ∷ more) is.0.1 (ascii_line line is.1 more others)

ascii_lines : (lines : List Line) → AllByRecursion IsLine lines → IsAscii (flat_map line_text lines)
ascii_lines [] each = IsAscii-nil
ascii_lines (line ∷ lines) each =
    subst IsAscii (sym (append_assoc (line_words line) (newline ∷ []) (flat_map line_text lines)))
    (ascii_line (line_words line) (line_in_line line each.0) (flat_map line_text lines) (ascii_lines lines each.1))

-- a text of lines is ASCII
pub texts_are_ascii : (text : List ℕ) → (IsAscii text → ⊥) → HasBadLine text
texts_are_ascii text none lines is = none (subst IsAscii (sym is.spelled) (ascii_lines lines is.each))

-- ---- the end

pub empty : (rest : List ℕ) → length rest ≡ 0 → rest ≡ []
empty [] none = refl
empty (octet ∷ rest) none = absurd (omega (arith, none))
