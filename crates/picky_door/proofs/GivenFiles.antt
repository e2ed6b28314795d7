-- The files of a call, with a table and without one.
use Rattle.std.proofs.Common.{◌≡◌, ℕ, List, [], ◌∷◌, ◌++◌, Bool, true, false, Option, Some, None, refl, ap, ◌∙◌}
use Rattle.std.specs.Prelude.{if◌then◌else◌, bytes_eq, codes}
use Rattle.std.specs.Option.{option_or}
use Rattle.door_frame.specs.Files.{lent_files}
use Rattle.door_frame.specs.declared.files.LentFile.{LentFile}
use Rattle.door_frame.proofs.Pools.{lent-push, named}

pub either_way : {A : Type 0} (x : A) (named : Bool) → x ≡ (if named then x else x)
either_way x true = refl
either_way x false = refl

pub with_table : (files pushed : List LentFile) (file : LentFile) (table pooled : Option (List ℕ)) (name : List ℕ)
    → pushed ≡ files ++ file ∷ [] → file.name.now ≡ codes "TABLE" → Some file.octets.now ≡ table → lent_files files name ≡ pooled
    → lent_files pushed name ≡ option_or pooled (if bytes_eq (codes "TABLE") name then table else None)
with_table files pushed file table pooled name push is_name is_table are =
    ap (λ fs. lent_files fs name) push ∙ lent-push files file name
    ∙ ap (λ o. option_or o (named file name)) are
    ∙ ap (λ n. option_or pooled (if bytes_eq n name then Some file.octets.now else None)) is_name
    ∙ ap (λ t. option_or pooled (if bytes_eq (codes "TABLE") name then t else None)) is_table

-- without a table the files are those of the pool
pub without_table : (pooled table : Option (List ℕ)) (named : Bool) → None ≡ table → pooled ≡ option_or pooled (if named then table else None)
without_table pooled table named is = none_more pooled named ∙ ap (λ t. option_or pooled (if named then t else None)) is where
  none_more : (pooled : Option (List ℕ)) (named : Bool) → pooled ≡ option_or pooled (if named then None else None)
  none_more (Some octets) named = refl
  none_more None true = refl
  none_more None false = refl
