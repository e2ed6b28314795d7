use Rattle.std.proofs.Common.{ℕ, List, map, refl, sym, ap, ap₂, ◌∙◌, arith}
use Rattle.std.specs.Option.{option_or}
use Rattle.std.proofs.lemmas.Result.{IfOk-weaker}
use Rattle.door_frame.specs.Files.{lent_files}
use Rattle.door_frame.specs.Pool.{pooled_under}
use Rattle.door_frame.proofs.Pools.{drop_cut, one_more, take_cut}
use Rattle.door_frame.proofs.pool.+append_under.Goals as goal

pub returns : goal.returns
returns t c = IfOk-weaker c.append_under.result _ _ (λ done later.
    let pool = c.args.pool.now in
    let count = c.in-Some-split_first.length.now in
    let more = one_more c.args.files.now.items _ c.append_under.new.files.items _ c.in-Some.name.now.now (map (λ n. n.now) c.in-Some.names.now)
    pool _ _ count c.in-Some-split_first.lengths.now
    c.in_ok-push.ensures.items refl refl
    (c.split_at.ensures.front ∙ take_cut c.min.result count pool (omega (arith, c.min.ensures)))
    (c.split_at.ensures.back ∙ drop_cut c.min.result count pool (omega (arith, c.min.ensures))) later in
    λ name. more name
    ∙ ap₂ (λ (names : List (List ℕ)) (lengths : List ℕ). option_or (lent_files c.args.files.now.items name) (pooled_under names pool lengths name))
    (ap (map (λ n. n.now)) (sym c.in-Some.ensures.cases.0)) (sym c.in-Some-split_first.ensures.cases.0)) c.append_under.ensures
