use Rattle.std.proofs.Common.{◌≢◌, ℕ, ◌<◌, map, get_or}
use Rattle.asn1_types.specs.KnownIdentifiers.{KnownRow, known_row}
use Rattle.asn1_types.proofs.oids.with_name.Given as goal

-- no row before this one has the name
abbrev pub invariant-loop-name : goal.invariant-loop-name
invariant-loop-name l =
    (k : ℕ) (d : KnownRow) → k < l.name-index
    → (get_or (map (λ row. known_row row.0.now row.1.now row.2.now) l.rows) k d).name ≢ l.wanted
