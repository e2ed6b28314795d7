-- Files in one pool of octets, one after another, named by their numbers.
use Rattle.std.specs.Prelude.{ℕ, List, [], ◌∷◌, take, drop, Some, None, if◌then◌else◌, bytes_eq, codes}
use Rattle.program_frame.specs.Shelf.{Files}

-- the files of a pool under these names, which have these lengths
abbrev pub pooled_under : (names : List (List ℕ)) → (pool : List ℕ) → (lengths : List ℕ) → Files
pooled_under [] pool lengths name = None
pooled_under (first ∷ names) pool [] name = None
pooled_under (first ∷ names) pool (count ∷ lengths) name =
    if bytes_eq first name then Some (take count pool)
    else pooled_under names (drop count pool) lengths name

-- the names of the files: their numbers in decimal digits, from 0 to 31
abbrev pub numbers : List (List ℕ)
numbers =
    codes "0" ∷ codes "1" ∷ codes "2" ∷ codes "3" ∷ codes "4" ∷ codes "5" ∷ codes "6" ∷ codes "7"
    ∷ codes "8" ∷ codes "9" ∷ codes "10" ∷ codes "11" ∷ codes "12" ∷ codes "13" ∷ codes "14"
    ∷ codes "15" ∷ codes "16" ∷ codes "17" ∷ codes "18" ∷ codes "19" ∷ codes "20" ∷ codes "21"
    ∷ codes "22" ∷ codes "23" ∷ codes "24" ∷ codes "25" ∷ codes "26" ∷ codes "27" ∷ codes "28"
    ∷ codes "29" ∷ codes "30" ∷ codes "31" ∷ []

-- the files of a pool
abbrev pub pooled_files : (pool : List ℕ) → (lengths : List ℕ) → Files
pooled_files pool lengths = pooled_under numbers pool lengths
