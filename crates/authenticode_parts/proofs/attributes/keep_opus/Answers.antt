use Rattle.std.proofs.Common.{[], subst, ◌∙◌}
use Rattle.std.proofs.lemmas.Result.{err_from_is_err_and, MatchResult-weaker}
use Rattle.authenticode_parts.proofs.attributes.keep_opus.Goals as goal
use Rattle.cms_types.specs.OpusInfo.{opus_info}
use Rattle.der_core.specs.DerElement.{DerElement}
use Rattle.der_core.specs.Encoding.{IsDer}
use Rattle.der_core.specs.Writing.{RefusesToWrite}
use Rattle.der_core.proofs.Inner.{refuses_alone, refuses_before}

pub returns-in_err-tree : goal.returns-in_err-tree
returns-in_err-tree c =
    let p = err_from_is_err_and c.from_residual.result c.from_residual.ensures.1 in
    rw (p.1, p.2) (refuses_before [] _ _ c.in_err-tree.ensures)

pub returns : goal.returns
returns c =
    let w = c.in_ok-tree.ensures in
    MatchResult-weaker c.from_tree.result c.from_tree.ensures.kept
    (λ kept k. (k.1 ∙ w.0, subst IsDer w.0 k.0))
    (λ e refused. refuses_alone (opus_info c.args.opus.now) e (subst (λ (x : DerElement). RefusesToWrite x e) w.0 refused))
