use Rattle.std.proofs.Common.{ap, ◌∙◌}
use Rattle.std.proofs.lemmas.Result.{err_from_is_err_and}
use Rattle.authenticode_parts.specs.Carried.{elements_of}
use Rattle.cms_content.specs.IndirectData.{indirect_data_content}
use Rattle.cms_types.specs.SignedData.{signed_data_elements}
use Rattle.cms_types.specs.SignedAttributesElement.{signed_attributes}
use Rattle.cms_types.specs.declared.signed_data.pkcs7.Pkcs7Certificate.{Pkcs7Certificate}
use Rattle.authenticode_signature.specs.MadeProgram.{program_for}
use Rattle.authenticode_signature.proofs.MadeSteps.{no_attributes_of, no_content, sealed_program, sealed_taken, unsealed}
use Rattle.authenticode_signature.proofs.making.signed.Goals as goal

pub returns-in_err-indirect : goal.returns-in_err-indirect
returns-in_err-indirect g c =
    let p = err_from_is_err_and c.from_residual.result c.from_residual.ensures.1 in
    rw (p.1, p.2) (no_content (g.S.Scheme.signs c.args.scheme.now) (program_for c.args.program.now)
    c.args.private_key.now c.in_err-indirect.field-0.0 c.in_err-indirect.ensures)

pub returns-in_err-attributes : goal.returns-in_err-attributes
returns-in_err-attributes g c =
    let p = err_from_is_err_and c.from_residual-in_err-attributes.result c.from_residual-in_err-attributes.ensures.1 in
    let made = c.in_ok-indirect.ensures in
    rw (p.1, p.2) (no_attributes_of (g.S.Scheme.signs c.args.scheme.now) (program_for c.args.program.now)
    c.args.private_key.now c.in_err-attributes.field-0.0 c.deref.result.now (c.deref.ensures.value ∙ made.1) made.2 c.in_err-attributes.ensures)

pub returns-in_err-signature : goal.returns-in_err-signature
returns-in_err-signature g c =
    let p = err_from_is_err_and c.from_residual-in_err-signature.result c.from_residual-in_err-signature.ensures.1 in
    let made = c.in_ok-indirect.ensures in
    let kept = c.in_ok-attributes.ensures in
    rw (p.1, p.2) (unsealed (g.S.Scheme.signs c.args.scheme.now) (program_for c.args.program.now)
    c.args.private_key.now c.in_err-signature.field-0.0 c.args.program.now.algorithm c.deref.result.now (signed_attributes c.in_ok-attributes.attributes)
    c.requires (c.deref.ensures.value ∙ made.1) made.2 kept.0 kept.1 c.in_err-signature.ensures)

pub returns : goal.returns
returns g c =
    let made = c.in_ok-indirect.ensures in
    let kept = c.in_ok-attributes.ensures in
    let whole = c.in_ok-made.ensures in
    let program = sealed_program (g.S.Scheme.judge c.args.scheme.now) (g.S.Scheme.signs c.args.scheme.now) (g.S.Scheme.pair c.args.scheme.now)
    (elements_of c.args.bag.now) c.args.first.now.elements (program_for c.args.program.now) c.args.private_key.now
    (signed_data_elements c.from.result.signed.signed_data) (indirect_data_content c.in_ok-indirect.indirect) (signed_attributes c.in_ok-attributes.attributes)
    c.in_ok-signature.signature c.args.program.now.algorithm c.deref.result.now
    c.requires (c.deref.ensures.value ∙ made.1) made.0 kept.0 c.in_ok-signature.ensures whole.0 whole.1
    (ap (λ (v : Pkcs7Certificate). signed_data_elements v.signed_data) c.from.ensures ∙ whole.2) in (
      program,
      sealed_taken (g.S.Scheme.judge c.args.scheme.now) (g.S.Scheme.signs c.args.scheme.now) (g.S.Scheme.pair c.args.scheme.now) (elements_of c.args.bag.now)
          c.args.first.now.elements (program_for c.args.program.now) c.args.private_key.now
          (signed_data_elements c.from.result.signed.signed_data) c.deref.result.now (c.deref.ensures.value ∙ made.1) made.2 kept.1 program,
    )
