use Rattle.der_core.proofs.Parts.{well_formed_more}
use Rattle.der_core.proofs.new_kids.NewKids.push.Goals as goal

pub invariant_of-self : goal.invariant_of-self
invariant_of-self c = record {
  formed = well_formed_more _ _ _ c.push.result c.push.ensures.ok c.push.ensures.err c.args.self.now.formed c.requires;
}
