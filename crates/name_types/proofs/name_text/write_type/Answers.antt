use Rattle.name_types.proofs.TypeDescriptors.{descriptor_of_type, descriptor_of_other}
use Rattle.name_types.proofs.name_text.write_type.Goals as goal
use Rattle.std.proofs.Common.{◌∙◌, sym}
use Rattle.std.proofs.lemmas.Bool.{iff_false}

pub returns-in-Some : goal.returns-in-Some
returns-in-Some g c =
    let ty = c.args.ty.now in
    rw (descriptor_of_type c.in-Some.attr ty.contents ty.formed (c.in-Some.ensures.name ∙ c.as_bytes.ensures), ← c.descriptor.ensures)
    c.write_str.ensures.writes

pub returns : goal.returns
returns g c =
    let ty = c.args.ty.now in
    let other =
    descriptor_of_other ty.contents ty.formed (λ attr named. c.in_default.not-Some attr (c.from_contents.ensures.named attr (named ∙ sym c.as_bytes.ensures)))
    (iff_false c.is_email_address.ensures c.if-is_email_address.false) in
    rw other c.fmt.ensures.writes
