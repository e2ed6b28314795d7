use Rattle.std.proofs.Common.{◌∷◌, ℕ, List, map, ap, subst, ◌∙◌, Vec, Global}
use Rattle.std.proofs.lemmas.Result.{err_from_is_err_and}
use Rattle.x509_core.specs.OwnedCertificates.{IsFirstUnread}
use Rattle.signature_questions.proofs.ReadCertificates.{chain_read, first_unread, parent_unread}
use Rattle.signature_questions.proofs.reading.read_chain.Goals as goal

pub returns-in_err-checked : goal.returns-in_err-checked
returns-in_err-checked c =
    let p = err_from_is_err_and c.from_residual.result c.from_residual.ensures.1 in
    let others = map (λ (v : Vec ℕ Global). v.items) c.args.read.now.others.items in
    rw (p.1, p.2) (subst (λ (o : List ℕ). IsFirstUnread (o ∷ others) c.in_err-checked.field-0.0) c.deref.ensures.value
    (first_unread c.deref.result.now others c.in_err-checked.field-0.0 c.in_err-checked.ensures.answer))

pub returns-in_err-parents : goal.returns-in_err-parents
returns-in_err-parents c =
    let p = err_from_is_err_and c.from_residual-in_err-parents.result c.from_residual-in_err-parents.ensures.1 in
    let unread = subst (λ (vs : List (Vec ℕ Global)). IsFirstUnread (map (λ (v : Vec ℕ Global). v.items) vs) c.in_err-parents.field-0.0)
    c.deref-2.ensures.value c.in_err-parents.ensures in
    rw (p.1, p.2) (parent_unread c.args.read.now.first.items (map (λ (v : Vec ℕ Global). v.items) c.args.read.now.others.items)
    c.in_ok-checked.checked (c.in_ok-checked.ensures.kept ∙ c.deref.ensures.value) c.in_err-parents.field-0.0 unread)

pub returns : goal.returns
returns c =
    chain_read c.args.read.now.first.items (map (λ (v : Vec ℕ Global). v.items) c.args.read.now.others.items)
    c.in_ok-checked.checked (c.in_ok-checked.ensures.kept ∙ c.deref.ensures.value) c.in_ok-parents.parents.items
    (c.in_ok-parents.ensures ∙ ap (map (λ (v : Vec ℕ Global). v.items)) c.deref-2.ensures.value)
