use Rattle.std.proofs.Common.{sym, ap, subst}
use Rattle.der_core.specs.Encoding.{encoding}
use Rattle.der_core.specs.Facts.Fronts.{formed_encoding_once}
use Rattle.der_core.proofs.laws.values_are_their_octets.Goals as goal

pub returns-clause-equal : goal.returns-clause-equal
returns-clause-equal g c = λ a b der der'.
    let grammar = g.met.T.Structure.grammar in
    let written = g.T.Structure.written in (
      λ e.
          let same = formed_encoding_once (written a) (written b) (grammar.formed a) (grammar.formed b) e in
          grammar.once (written a) a b (grammar.spelled a der) (subst (λ x. g.T.Structure.spells x b) (sym same) (grammar.spelled b der')),
      λ e. ap (λ v. encoding (written v)) e,
    )
