use Rattle.std.proofs.Common.{◌≡◌, ◌≢◌, List, subst}
use Rattle.std.specs.Prelude.{MatchOption}
use Rattle.std.specs.List.{All}
use Rattle.asn1_types.specs.KnownIdentifiers.{KnownRow, HasRow}
use Rattle.asn1_types.proofs.oids.by_name.Goals as goal

pub returns : goal.returns
returns c =
    subst (λ (all : List KnownRow). MatchOption c.with_name.result (All {X = KnownRow} (λ row. row.name ≢ c.args.name.now) all)
    (λ known. HasRow all known.name.now known.text.now known.contents.now × (known.name.now ≡ c.args.name.now))) c.rows.ensures c.with_name.ensures
