use Rattle.std.proofs.Common.{Result, Ok, Err, IfOk, MatchResult, refl, ◌∙◌}
use Rattle.cms_types.specs.SignedData.{signed_data}
use Rattle.xtest_readme.proofs.citing.signed_data_again.Goals as goal

if_ok : {A E : Type 0} (P : A → Type 0) (Q : E → Type 0) (r : Result A E) → MatchResult r P Q → IfOk r P
if_ok P Q (Ok value) h = h
if_ok P Q (Err e) h = tt

pub returns : goal.returns
returns c =
    if_ok _ _ c.from_der.result
    (c.values_are_read_again.ensures _ c.args.value.now c.from_der.result
    (record {
      element = signed_data c.args.value.now;
      der = c.in_ok-octets.ensures.1;
      encoded = c.deref.ensures.value ∙ c.in_ok-octets.ensures.0;
      spelled = refl;
    })
    c.from_der.ensures.answer)
