use Rattle.std.proofs.Common.{sym, ◌∙◌}
use Rattle.xtest_readme.proofs.citing.questions_decide_paths.Goals as goal

pub returns : goal.returns
returns c = λ a b date checked pool anchors purpose found agree h.
    c.links_decide_paths.ensures a b date checked pool anchors purpose found
    (λ parent child above below. (
      λ signed. c.questions_decide_chains.ensures.signed a b parent.elements child.elements
          (λ q asked accepts. sym (agree parent child above below q asked) ∙ accepts) signed,
      λ signed. c.questions_decide_chains.ensures.signed b a parent.elements child.elements
          (λ q asked accepts. agree parent child above below q asked ∙ accepts) signed,
    )) h
