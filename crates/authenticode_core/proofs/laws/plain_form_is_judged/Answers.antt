use Rattle.authenticode_core.proofs.PlainShape.{plain_form_has_fields, plain_form_has_signed_data}
use Rattle.authenticode_core.proofs.PlainVouched.{vouched_exactly}
use Rattle.authenticode_core.proofs.laws.plain_form_is_judged.Goals as goal

pub returns : goal.returns
returns c = record { shape = plain_form_has_signed_data; form = plain_form_has_fields; vouched = vouched_exactly }
