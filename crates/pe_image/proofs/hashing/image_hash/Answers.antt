use Rattle.std.proofs.Common.{ℕ, List, subst}
use Rattle.pe_image.proofs.StatedDigest.{NamesNone}
use Rattle.pe_image.proofs.hashing.image_hash.Goals as goal

pub returns-in_default-clause-hash : goal.returns-in_default-clause-hash
returns-in_default-clause-hash c = subst (λ (table : List ℕ). NamesNone table) c.table.ensures c.in_default.ensures
