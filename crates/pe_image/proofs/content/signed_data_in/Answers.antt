use Rattle.pe_image.proofs.SignedTables.{malformed, read_in}
use Rattle.pe_image.proofs.content.signed_data_in.Goals as goal

pub returns-in-Ok-padded_element : goal.returns-in-Ok-padded_element
returns-in-Ok-padded_element c =
    read_in c.args.table.now c.in-Ok.certificate.now c.in-Ok-padded_element.elem.is.0 c.in-Ok.ensures.lent c.in-Ok-padded_element.ensures c.read.result
    c.read.ensures

pub returns-in-Err : goal.returns-in-Err
returns-in-Err c =
    malformed c.one_first_fault.ensures.instead_of_an_element c.args.table.now c.in-Ok.certificate.now c.in-Err.field-0 c.in-Ok.ensures.lent c.in-Err.ensures
