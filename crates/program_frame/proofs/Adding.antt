-- Adding files to a shelf in memory, and finding them by name.
use Rattle.std.proofs.Common.{◌≡◌, ℕ, zero, suc, ◌+◌, ◌<◌, List, [], ◌∷◌, ◌++◌, length, take, Bool}
use Rattle.std.proofs.Common.{true, false, Option, Some, None, refl, sym, ◌∙◌, ap, arith, string_bytes}
use Rattle.std.specs.Prelude.{bytes_eq, slice_get, if◌then◌else◌, option_map}
use Rattle.std.specs.Option.{option_or}
use Rattle.program_frame.specs.declared.stored.StoredFile.{StoredFile}
use Rattle.std.proofs.Common.{get_or}
use Rattle.std.proofs.lemmas.Option.{slice_get-get_or}
use Rattle.std.proofs.lemmas.List.{take_more}
use Rattle.program_frame.specs.Stored.{latest_file, octets_of, octets_at, found_at, or_empty}

or_cond : (b : Bool) (octets : List ℕ) (found other : Option (List ℕ))
    → option_or (if b then Some octets else found) other ≡ (if b then Some octets else option_or found other)
or_cond true octets found other = refl
or_cond false octets found other = refl

pub latest-push : (files : List StoredFile) (file : StoredFile) (name : List ℕ)
    → latest_file (files ++ file ∷ []) name ≡ (if bytes_eq (string_bytes file.name) name then Some (octets_of file) else latest_file files name)
latest-push [] file name = refl
latest-push (first ∷ later) file name =
    let other = if bytes_eq (string_bytes first.name) name then Some (octets_of first) else None in
    ap (λ (found : Option (List ℕ)). option_or found other) (latest-push later file name)
    ∙ or_cond (bytes_eq (string_bytes file.name) name) (octets_of file) (latest_file later name) other

slice_get-front : {A : Type 0} (xs ys : List A) (i : ℕ) → i < length xs
    → slice_get (xs ++ ys) i ≡ slice_get xs i
slice_get-front [] ys i within = absurd (omega arith)
slice_get-front (x ∷ xs) ys zero within = refl
slice_get-front (x ∷ xs) ys (suc i) within = slice_get-front xs ys i (omega arith)

pub octets_at-push : (files : List StoredFile) (file : StoredFile) (picked : Option ℕ)
    → ((index : ℕ) → picked ≡ Some index → index < length files)
    → octets_at (files ++ file ∷ []) picked ≡ octets_at files picked
octets_at-push files file None within = refl
octets_at-push files file (Some index) within =
    ap (λ (found : Option StoredFile). or_empty (option_map octets_of found)) (slice_get-front files (file ∷ []) index (within index refl))

-- the first files and one more: that one if it has the name
pub latest-found : (files : List StoredFile) (file : StoredFile) (place : ℕ) (name : List ℕ)
    → place < length files → file ≡ get_or files place file
    → bytes_eq (string_bytes file.name) name ≡ true
    → latest_file (take (place + 1) files) name ≡ found_at files (Some place)
latest-found files file place name within is same =
    ap (λ (l : List StoredFile). latest_file l name) (take_more files place file within
    ∙ ap (λ (f : StoredFile). take place files ++ f ∷ []) (sym is))
    ∙ latest-push (take place files) file name
    ∙ ap (λ (b : Bool). if b then Some (octets_of file) else latest_file (take place files) name) same
    ∙ ap (λ (found : Option StoredFile). option_map octets_of found) (ap Some is
    ∙ sym (slice_get-get_or files place file within))

pub latest-passed : (files : List StoredFile) (file : StoredFile) (place : ℕ) (name : List ℕ)
    → place < length files → file ≡ get_or files place file
    → bytes_eq (string_bytes file.name) name ≡ false
    → latest_file (take (place + 1) files) name ≡ latest_file (take place files) name
latest-passed files file place name within is other =
    ap (λ (l : List StoredFile). latest_file l name) (take_more files place file within
    ∙ ap (λ (f : StoredFile). take place files ++ f ∷ []) (sym is))
    ∙ latest-push (take place files) file name
    ∙ ap (λ (b : Bool). if b then Some (octets_of file) else latest_file (take place files) name) other
