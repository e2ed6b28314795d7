-- One more line of a text is one more word.
use Rattle.std.proofs.Common.{◌≡◌, ℕ, ◌+◌, ◌<◌, List, [], ◌∷◌, ◌++◌, length, map, get_or, take, sym, ◌∙◌, ap, ap₂}
use Rattle.std.proofs.lemmas.List.{take_more, map_push}
use Rattle.door_frame.specs.Words.{lines_of}

pub one_more_line : {S : Type 0} (octets_of : S → List ℕ) (text : List ℕ) (words pushed : List S) (word : S) (line : List ℕ) (count next : ℕ)
    → map octets_of words ≡ take count (lines_of text) → pushed ≡ words ++ word ∷ [] → count < length (lines_of text)
    → line ≡ get_or (lines_of text) count line → octets_of word ≡ line → next ≡ count + 1
    → map octets_of pushed ≡ take next (lines_of text)
one_more_line octets_of text words pushed word line count next so_far push within at same step =
    ap (map octets_of) push ∙ map_push octets_of words word
    ∙ ap₂ (λ ls l. ls ++ l ∷ []) so_far (same ∙ at)
    ∙ sym (take_more (lines_of text) count line within) ∙ ap (λ k. take k (lines_of text)) (sym step)
