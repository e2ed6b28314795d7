use Rattle.std.proofs.Common.{inl, inr, refl, rules}
use Rattle.std.proofs.lemmas.Option.{slice_get_read, slice_get_within}
use Rattle.std.proofs.lemmas.Result.{MatchResult-weaker}
use Rattle.ca_register.proofs.depth.expect_issuer.Goals as goal

pub returns-then-not-entry : goal.returns-then-not-entry
returns-then-not-entry c =
    let entry = c.in-Some.entry.now in
    let has = slice_get_read c.args.entries.now _ c.args.issuer entry refl (search rules) c.in-Some.ensures.lookup.1 in
    inr (slice_get_within c.args.entries.now c.args.issuer entry has, inl (entry, has, c.if-not-entry.true, refl))

pub returns-else-not-entry : goal.returns-else-not-entry
returns-else-not-entry c =
    let entry = c.in-Some.entry.now in
    let has = slice_get_read c.args.entries.now _ c.args.issuer entry refl (search rules) c.in-Some.ensures.lookup.1 in
    let within = slice_get_within c.args.entries.now c.args.issuer entry has in
    let ca = c.if-not-entry.false in
    MatchResult-weaker c.expect_depth.result c.expect_depth.ensures
    (λ done none. (within, ((entry, has, ca), (none, tt))))
    (λ e deep. inr (within, inr ((entry, has, ca), inl deep)))
