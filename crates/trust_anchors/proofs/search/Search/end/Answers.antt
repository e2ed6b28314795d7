use Rattle.std.proofs.Common.{◌≡◌, ◌-◌, ℕ, List, Option, Some, IsSome, length, sym, subst, ◌∙◌}
use Rattle.std.specs.Prelude.{slice_get}
use Rattle.x509_core.specs.OwnedCertificate.{KeptCertificate}
use Rattle.trust_anchors.proofs.Chains.{end_by_last, within_pool}
use Rattle.trust_anchors.proofs.search.Search.end.Goals as goal

pub at-requires : goal.at-requires
at-requires g c =
    let last : slice_get c.args.trail.now (length c.args.trail.now - 1) ≡ Some c.in-Some.index.now =
    subst (λ (xs : List ℕ). slice_get xs (length xs - 1) ≡ Some c.in-Some.index.now) c.as_slice.ensures (sym c.in-Some.ensures.value) in
    within_pool c.args.self.now.pool.now c.in-Some.index.now
    (subst (λ (o : Option KeptCertificate). IsSome o)
    (end_by_last c.args.self.now.pool.now (Some c.args.self.now.cert.now) c.args.trail.now c.in-Some.index.now last) c.requires)

pub returns-in-Some : goal.returns-in-Some
returns-in-Some g c =
    let last : slice_get c.args.trail.now (length c.args.trail.now - 1) ≡ Some c.in-Some.index.now =
    subst (λ (xs : List ℕ). slice_get xs (length xs - 1) ≡ Some c.in-Some.index.now) c.as_slice.ensures (sym c.in-Some.ensures.value) in
    end_by_last c.args.self.now.pool.now (Some c.args.self.now.cert.now) c.args.trail.now c.in-Some.index.now last ∙ c.at.ensures
