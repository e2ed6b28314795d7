use Rattle.std.proofs.Common.{◌∷◌, [], ◌+◌, ◌-◌, List, ℕ, length, map, take, drop, sym, ap, arith}
use Rattle.std.proofs.lemmas.Result.{err_from_is_err_and}
use Rattle.trust_anchors.proofs.ReadFiles.{are_given, count_front, front_of, split_by, unread_among, unread_behind}
use Rattle.trust_anchors.proofs.reading.read_given.Goals as goal

pub returns-in_err-read_anchors-clause-unread : goal.returns-in_err-read_anchors-clause-unread
returns-in_err-read_anchors-clause-unread c =
    let p = err_from_is_err_and c.from_residual.result c.from_residual.ensures.1 in
    let others = c.args.others.now in
    rw (p.1, p.2)
    (unread_among [] (c.args.first.now ∷ map (λ octets. octets.items) (take c.args.more others)) (map (λ octets. octets.items) (drop c.args.more others))
    (c.args.first.now ∷ map (λ octets. octets.items) others) c.in_err-read_anchors.field-0.0
    (ap (λ (xs : List (List ℕ)). c.args.first.now ∷ xs) (front_of (λ octets. octets.items) others c.args.more)) c.in_err-read_anchors.ensures.unread)

pub returns-in_err-checked-clause-unread : goal.returns-in_err-checked-clause-unread
returns-in_err-checked-clause-unread c =
    let p = err_from_is_err_and c.from_residual-in_err-checked.result c.from_residual-in_err-checked.ensures.1 in
    let others = c.args.others.now in
    let n = length others - (c.args.more + 1) in
    let split = split_by (λ octets. octets.items) others c.args.more n c.index-others-more.result c.deref.result.now (omega arith) c.index-others-more.is
    (sym c.deref.ensures.value) in
    rw (p.1, p.2) (unread_among (c.args.first.now ∷ map (λ octets. octets.items) (take c.args.more others)) (c.deref.result.now ∷ [])
    (map (λ octets. octets.items) (take n (drop (c.args.more + 1) others)))
    (c.args.first.now ∷ map (λ octets. octets.items) others) c.in_err-checked.field-0.0 (ap (λ (xs : List (List ℕ)). c.args.first.now ∷ xs) split)
    c.in_err-checked.ensures.unread)

pub returns-in_err-read_pool-clause-unread : goal.returns-in_err-read_pool-clause-unread
returns-in_err-read_pool-clause-unread c =
    let p = err_from_is_err_and c.from_residual-in_err-read_pool.result c.from_residual-in_err-read_pool.ensures.1 in
    let others = c.args.others.now in
    let n = length others - (c.args.more + 1) in
    let split = split_by (λ octets. octets.items) others c.args.more n c.index-others-more.result c.deref.result.now (omega arith) c.index-others-more.is
    (sym c.deref.ensures.value) in
    rw (p.1, p.2) (unread_behind (c.args.first.now ∷ map (λ octets. octets.items) (take c.args.more others)) c.deref.result.now
    (map (λ octets. octets.items) (take n (drop (c.args.more + 1) others)))
    (c.args.first.now ∷ map (λ octets. octets.items) others) c.in_err-read_pool.field-0.0 (ap (λ (xs : List (List ℕ)). c.args.first.now ∷ xs) split)
    c.in_err-read_pool.ensures.unread)

pub returns-clause-read : goal.returns-clause-read
returns-clause-read c =
    let others = c.args.others.now in
    let n = length others - (c.args.more + 1) in
    let split = split_by (λ octets. octets.items) others c.args.more n c.index-others-more.result c.deref.result.now (omega arith) c.index-others-more.is
    (sym c.deref.ensures.value) in
    are_given (c.args.more + 1) (c.args.first.now ∷ map (λ octets. octets.items) (take c.args.more others)) c.deref.result.now
    (map (λ octets. octets.items) (take n (drop (c.args.more + 1) others)))
    (c.args.first.now ∷ map (λ octets. octets.items) others) c.read_anchors.new.anchors c.in_ok-checked.checked c.read_pool.new.pool.items
    c.new-pool.result.items c.new-anchors.result
    (ap (λ (xs : List (List ℕ)). c.args.first.now ∷ xs) split) (let many = count_front (λ octets. octets.items) others c.args.more (omega arith) in
    omega (arith, many))
    c.new-anchors.ensures c.in_ok-read_anchors.ensures.read c.in_ok-checked.ensures.read c.new-pool.ensures.items c.in_ok-read_pool.ensures.read
