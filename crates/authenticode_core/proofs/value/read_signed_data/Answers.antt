use Rattle.authenticode_core.proofs.ValueSteps.{refuses_shape, refuses_unread}
use Rattle.authenticode_core.proofs.value.read_signed_data.Goals as goal

pub returns-in-Err-padded_element : goal.returns-in-Err-padded_element
returns-in-Err-padded_element c =
    refuses_unread c.args.bytes.now c.in-Ok.certificate.now c.in-Err-padded_element.malformed c.unread.result c.in-Ok.ensures.lent
    c.in-Err-padded_element.ensures c.unread.ensures

pub returns-in-Some : goal.returns-in-Some
returns-in-Some c = (
  c.in-Ok-padded_element.elem.is.0,
  record {
    certificate = c.in-Ok.certificate.now;
    named = c.in-Ok.ensures.lent;
    spelled = c.in-Ok-padded_element.ensures;
    is = c.in-Some.ensures;
  },
)

pub returns-in-None : goal.returns-in-None
returns-in-None c =
    refuses_shape c.args.bytes.now c.in-Ok.certificate.now c.in-Ok-padded_element.elem.is.0 c.unread-in-None.result c.in-Ok.ensures.lent
    c.in-Ok-padded_element.ensures c.in-None.ensures c.unread-in-None.ensures
