use Rattle.std.proofs.Common.{List, sym, subst}
use Rattle.x509_core.specs.History.{IsOrdered}
use Rattle.ca_register.specs.Entries.{history_of}
use Rattle.ca_register.specs.declared.entry.Entry.{Entry}
use Rattle.ca_register.proofs.Kept.{kept_ordered}
use Rattle.ca_register.proofs.register.Register.usable.Goals as goal

pub usable_from-requires-clause-ordered : goal.usable_from-requires-clause-ordered
usable_from-requires-clause-ordered g c =
    let register = c.args.self.now in
    subst (λ (e : List Entry). IsOrdered (history_of e)) (sym c.deref.ensures.value)
    (kept_ordered (g.S.Scheme.judge register.scheme) register.entries.items register.certificates.items register.kept)
