use Rattle.std.proofs.Common.{Err, ap, subst, rules}
use Rattle.std.proofs.lemmas.Result.{err_from_is_err_and}
use Rattle.der_core.specs.declared.error.DerError.TheVariants as errors
use Rattle.der_core.proofs.Exact.{whole_once, no_fault_where_whole, refused_exactly}
use Rattle.der_core.proofs.Values.{read_in_octets}
use Rattle.der_core.proofs.structure.Structure.from_der.Goals as goal

pub returns-in_err-elem-clause-faulty : goal.returns-in_err-elem-clause-faulty
returns-in_err-elem-clause-faulty g c = λ at fault there.
    let p = err_from_is_err_and c.from_residual.result c.from_residual.ensures.1 in
    rw (p.1, p.2) (ap Err (ap errors.Malformed (refused_exactly c.args.octets.now at fault c.in_err-elem.field-0.0 there c.in_err-elem.ensures)))

pub returns-in_err-elem-clause-shapeless : goal.returns-in_err-elem-clause-shapeless
returns-in_err-elem-clause-shapeless g c = λ element der is none. absurd (no_fault_where_whole c.args.octets.now element _ _ der is c.in_err-elem.ensures)

pub returns-then-not-has_shape-clause-faulty : goal.returns-then-not-has_shape-clause-faulty
returns-then-not-has_shape-clause-faulty g c =
    λ at fault there. absurd (no_fault_where_whole c.args.octets.now _ at fault c.in_ok-elem.elem.is.1.0 c.in_ok-elem.ensures there)

pub returns-clause-faulty : goal.returns-clause-faulty
returns-clause-faulty g c = λ at fault there. absurd (no_fault_where_whole c.args.octets.now _ at fault c.in_ok-elem.elem.is.1.0 c.in_ok-elem.ensures there)

pub returns-clause-shapeless : goal.returns-clause-shapeless
returns-clause-shapeless g c = λ element der is none.
    let fit = c.has_shape.ensures.fits (search rules) in
    absurd (none fit.0
    (subst (λ e. g.Self.Structure.spells e fit.0) (whole_once c.args.octets.now _ element c.in_ok-elem.elem.is.1.0 der c.in_ok-elem.ensures is) fit.1))

pub returns-then-not-has_shape-clause-answer : goal.returns-then-not-has_shape-clause-answer
returns-then-not-has_shape-clause-answer g c = record {
  element = c.in_ok-elem.elem.is.0;
  der = c.in_ok-elem.elem.is.1.0;
  encoded = c.in_ok-elem.ensures;
  none = c.has_shape.ensures.unfit (search rules);
}

pub returns-clause-answer : goal.returns-clause-answer
returns-clause-answer g c =
    read_in_octets g.Self.Structure.spells c.args.octets.now _ c.in_ok-elem.elem.is.1.0 c.in_ok-elem.ensures c.read_at.result c.read_at.ensures
