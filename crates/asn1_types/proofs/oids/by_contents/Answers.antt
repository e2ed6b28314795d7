use Rattle.std.proofs.Common.{◌≡◌, ◌≢◌, List, subst}
use Rattle.std.specs.Prelude.{MatchOption}
use Rattle.std.specs.List.{All}
use Rattle.asn1_types.specs.KnownIdentifiers.{KnownRow, HasRow}
use Rattle.asn1_types.proofs.oids.by_contents.Goals as goal

pub returns : goal.returns
returns c =
    subst (λ (all : List KnownRow). MatchOption c.with_contents.result (All {X = KnownRow} (λ row. row.contents ≢ c.args.contents.now) all)
    (λ known. HasRow all known.name.now known.text.now known.contents.now × (known.contents.now ≡ c.args.contents.now))) c.rows.ensures c.with_contents.ensures
