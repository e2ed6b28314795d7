use Rattle.std.proofs.Common.{List, ℕ, ap, ◌∙◌, sym}
use Rattle.std.specs.Prelude.{bytes_eq}
use Rattle.program_frame.proofs.Adding.{latest-found, latest-passed}
use Rattle.program_frame.proofs.stored.find_latest.Goals as goal
use Rattle.program_frame.proofs.stored.find_latest.Goals.{then-eq, else-eq}

pub loop-place-preserved : goal.loop-place-preserved
loop-place-preserved c =
    let file = c.index-files-place.is in
    let test = ap (λ (name : List ℕ). bytes_eq name c.args.name.now) (sym c.as_str.ensures.value) ∙ sym c.eq.ensures in
    let before = c.loop-place.invariant in
    elim c.if-eq.branch [
      | then-eq w ↦ record {
        found = rw w.found-is (latest-found _ _ _ _ c.loop-place-test.true file (test ∙ w.if-eq.true));
        within = rw w.found-is c.loop-place-test.true;
      }
      | else-eq w ↦ record {
        found = rw w.found-is (latest-passed _ _ _ _ c.loop-place-test.true file (test ∙ w.if-eq.false) ∙ before.found);
        within = rw w.found-is before.within;
      }
    ]
