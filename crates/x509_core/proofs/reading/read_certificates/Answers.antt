use Rattle.std.proofs.Common.{◌≡◌, [], ◌∷◌, ℕ, List, length, Vec, Global, map, refl, sym, ap, ◌∙◌, arith}
use Rattle.std.proofs.lemmas.Result.{err_from_is_err_and}
use Rattle.x509_core.proofs.ReadCertificates.{all_read, next_read, next_unkept, next_unread}
use Rattle.x509_core.proofs.reading.read_certificates.Goals as goal

abbrev octets_of : Vec ℕ Global → List ℕ
octets_of v = v.items

-- the octets that are left begin with those that are read next
begin_with : (rest others : List (Vec ℕ Global)) (first : Vec ℕ Global) (octets : List ℕ) → rest ≡ first ∷ others → octets ≡ first.items
    → map octets_of rest ≡ octets ∷ map octets_of others
begin_with rest others first octets are is = ap (map octets_of) are ∙ ap (λ (o : List ℕ). o ∷ map octets_of others) (sym is)

nothing_left : (rest : List (Vec ℕ Global)) → length rest ≡ 0 → map octets_of rest ≡ []
nothing_left [] none = refl
nothing_left (first ∷ others) none = absurd (omega (arith, none))

pub returns-in_err-from_der : goal.returns-in_err-from_der
returns-in_err-from_der c =
    let p = err_from_is_err_and c.from_residual.result c.from_residual.ensures.1 in
    let next = begin_with c.loop-first.rest.now c.in-Some.others.now c.in-Some.first.now c.deref.result.now c.in-Some.ensures.cases.0 c.deref.ensures.value in
    rw (p.1, p.2) (next_unread (map octets_of c.args.octets.now) (map octets_of c.loop-first.rest.now) c.loop-first.certificates.items c.deref.result.now
    (map octets_of c.in-Some.others.now)
    c.loop-first.invariant next c.in_err-from_der.field-0.0 c.in_err-from_der.ensures.answer)

pub returns-in_err-push : goal.returns-in_err-push
returns-in_err-push c =
    let p = err_from_is_err_and c.from_residual-in_err-push.result c.from_residual-in_err-push.ensures.1 in
    let next = begin_with c.loop-first.rest.now c.in-Some.others.now c.in-Some.first.now c.deref.result.now c.in-Some.ensures.cases.0 c.deref.ensures.value in
    rw (p.1, p.2) (next_unkept (map octets_of c.args.octets.now) (map octets_of c.loop-first.rest.now) c.loop-first.certificates.items c.deref.result.now
    (map octets_of c.in-Some.others.now)
    c.loop-first.invariant next)

pub loop-first-preserved : goal.loop-first-preserved
loop-first-preserved c =
    let next = begin_with c.loop-first.rest.now c.in-Some.others.now c.in-Some.first.now c.deref.result.now c.in-Some.ensures.cases.0 c.deref.ensures.value in
    next_read (map octets_of c.args.octets.now) (map octets_of c.loop-first.rest.now) c.loop-first.certificates.items c.deref.result.now
    (map octets_of c.in-Some.others.now)
    c.loop-first.invariant next c.in_ok-from_der.field-0 c.push.new.self.items c.in_ok-from_der.ensures.kept c.in_ok-push.ensures.items

pub returns : goal.returns
returns c = all_read (map octets_of c.args.octets.now) (map octets_of c.loop-first.rest.now) c.loop-first.certificates.items c.loop-first.invariant
    (nothing_left c.loop-first.rest.now c.in_default.ensures.cases)
