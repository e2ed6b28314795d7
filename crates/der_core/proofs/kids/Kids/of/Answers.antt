use Rattle.std.proofs.Common.{sym, ◌∙◌}
use Rattle.der_core.proofs.Siblings.{of_tag}
use Rattle.der_core.proofs.kids.Kids.of.Goals as goal

pub returns : goal.returns
returns c = of_tag _ (λ kids. kids.are.0) _ _ (sym c.if-elem-tag.false ∙ c.args.elem.is.1.2) c.within.ensures
