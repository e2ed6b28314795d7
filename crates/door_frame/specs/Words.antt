-- The words of a command line as one text.
use Rattle.std.specs.Prelude.{ℕ, ◌==◌, List}
use Rattle.std.specs.List.{slice_split}

-- the lines of a text: what stands between its newlines
abbrev pub lines_of : List ℕ → List (List ℕ)
lines_of text = slice_split (λ octet. octet == 10) text
