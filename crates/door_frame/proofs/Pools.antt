-- Files of a pool behind those that there are.
use Rattle.std.proofs.Common.{◌≡◌, ℕ, List, [], ◌∷◌, ◌++◌, length, min, take, drop, Bool, true, false, Option, Some, None, inl, inr, refl, sym, ◌∙◌, ap, arith}
use Rattle.std.specs.Prelude.{if◌then◌else◌, bytes_eq}
use Rattle.std.specs.Option.{option_or}
use Rattle.std.proofs.lemmas.Bool.{cases_lt}
use Rattle.std.proofs.lemmas.List.{drop_all, take_all}
use Rattle.door_frame.specs.Files.{lent_files}
use Rattle.door_frame.specs.Pool.{pooled_under}
use Rattle.door_frame.specs.declared.files.LentFile.{LentFile}

-- the file if it has the name
abbrev pub named : LentFile → List ℕ → Option (List ℕ)
named file name = if bytes_eq file.name.now name then Some file.octets.now else None

or_none : {A : Type 0} (o : Option A) → o ≡ option_or o None
or_none None = refl
or_none (Some x) = refl

pub nothing_more : (files : List LentFile) (name : List ℕ) → lent_files files name ≡ option_or (lent_files files name) None
nothing_more files name = or_none (lent_files files name)

or_if : {A : Type 0} (b : Bool) (x : A) (r o e : Option A) → r ≡ option_or o e → (if b then Some x else r) ≡ option_or (if b then Some x else o) e
or_if true x r o e same = refl
or_if false x r o e same = same

pub lent-push : (files : List LentFile) (file : LentFile) (name : List ℕ)
    → lent_files (files ++ file ∷ []) name ≡ option_or (lent_files files name) (named file name)
lent-push [] file name = refl
lent-push (first ∷ files) file name = or_if (bytes_eq first.name.now name) first.octets.now _ _ _ (lent-push files file name)

or_named : {A : Type 0} (o p : Option A) (b : Bool) (x : A) → option_or (option_or o (if b then Some x else None)) p ≡ option_or o (if b then Some x else p)
or_named None p true x = refl
or_named None p false x = refl
or_named (Some y) p b x = refl

-- a count beyond the end is that of all
pub take_cut : (m n : ℕ) (xs : List ℕ) → m ≡ min n (length xs) → take m xs ≡ take n xs
take_cut m n xs is = elim (cases_lt n (length xs)) [
  | inl short ↦ ap (λ k. take k xs) (omega (arith, is, short))
  | inr long ↦ take_all m xs (omega (arith, is, long)) ∙ sym (take_all n xs long)
]

pub drop_cut : (m n : ℕ) (xs : List ℕ) → m ≡ min n (length xs) → drop m xs ≡ drop n xs
drop_cut m n xs is = elim (cases_lt n (length xs)) [
  | inl short ↦ ap (λ k. drop k xs) (omega (arith, is, short))
  | inr long ↦ drop_all m xs (omega (arith, is, long)) ∙ sym (drop_all n xs long)
]

pub one_more : (files pushed all : List LentFile) (file : LentFile) (first : List ℕ) (names : List (List ℕ)) (pool octets rest : List ℕ) (count : ℕ)
    (lengths : List ℕ)
    → pushed ≡ files ++ file ∷ [] → file.name.now ≡ first → file.octets.now ≡ octets → octets ≡ take count pool → rest ≡ drop count pool
    → ((name : List ℕ) → lent_files all name ≡ option_or (lent_files pushed name) (pooled_under names rest lengths name))
    → (name : List ℕ) → lent_files all name ≡ option_or (lent_files files name) (pooled_under (first ∷ names) pool (count ∷ lengths) name)
one_more files pushed all file first names pool octets rest count lengths push is_first is_octets are_octets is_rest later name =
    later name
    ∙ ap (λ fs. option_or (lent_files fs name) (pooled_under names rest lengths name)) push
    ∙ ap (λ o. option_or o (pooled_under names rest lengths name)) (lent-push files file name)
    ∙ ap (λ r. option_or (option_or (lent_files files name) (named file name)) (pooled_under names r lengths name)) is_rest
    ∙ or_named (lent_files files name) (pooled_under names (drop count pool) lengths name) (bytes_eq file.name.now name) file.octets.now
    ∙ ap (λ n. option_or (lent_files files name) (if bytes_eq n name then Some file.octets.now else pooled_under names (drop count pool) lengths name)) is_first
    ∙ ap (λ x. option_or (lent_files files name) (if bytes_eq first name then Some x else pooled_under names (drop count pool) lengths name))
    (is_octets ∙ are_octets)
