use Rattle.std.proofs.Common.{List, length, sym, ap, subst, ◌∙◌}
use Rattle.x509_core.proofs.Validity.{same_some}
use Rattle.ca_register.specs.Entries.{HasEntry}
use Rattle.ca_register.specs.declared.entry.Entry.{Entry}
use Rattle.ca_register.proofs.Deciding.{decided_by_entries}
use Rattle.ca_register.proofs.Verdicts.{above_at, above_is, place_has, verdict_of}
use Rattle.ca_register.proofs.register.Register.verify.Goals as goal

pub returns-clause-answer : goal.returns-clause-answer
returns-clause-answer g c = λ checked ancestors parents has are certs.
    let register = c.args.self.now in
    let judge = g.S.Scheme.judge register.scheme in
    let entries = register.entries.items in
    let certificates = register.certificates.items in
    let is_here = place_has judge entries certificates register.kept c.args.place c.requires.within c.index.result.now c.index.ensures in
    let recorded = subst (λ (l : List Entry). HasEntry l c.args.place c.entry_at.result) c.deref-3.ensures.value c.entry_at.ensures in
    let line = above_is judge entries certificates register.kept c.args.place c.requires.within c.entry_at.result recorded
    ancestors are c.deref.result.now c.deref-2.result.now c.len.result c.deref.ensures.value c.deref-2.ensures.value
    (c.len.ensures ∙ sym c.deref.ensures.len ∙ ap (λ (l : List Entry). length l) c.deref.ensures.value) parents certs in
    verdict_of judge c.args.date.now c.verify_over.result c.index.result.now checked _ parents (same_some c.index.result.now checked (sym is_here ∙ has))
    line c.verify_over.ensures

pub returns-clause-usable : goal.returns-clause-usable
returns-clause-usable g c = λ from to usable.
    let register = c.args.self.now in
    let judge = g.S.Scheme.judge register.scheme in
    let entries = register.entries.items in
    let certificates = register.certificates.items in
    let is_here = place_has judge entries certificates register.kept c.args.place c.requires.within c.index.result.now c.index.ensures in
    let recorded = subst (λ (l : List Entry). HasEntry l c.args.place c.entry_at.result) c.deref-3.ensures.value c.entry_at.ensures in
    let above = above_at judge entries certificates register.kept c.args.place c.requires.within c.entry_at.result recorded usable.ancestors usable.are in
    decided_by_entries judge entries certificates register.kept c.args.place c.args.date.now from to usable c.index.result.now is_here _ above
    c.verify_over.result
    (returns-clause-answer g c c.index.result.now usable.ancestors _ is_here usable.are above)
