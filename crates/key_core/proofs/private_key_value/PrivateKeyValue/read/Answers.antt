use Rattle.std.proofs.lemmas.Result.{err_from_is_err_and}
use Rattle.der_core.specs.Facts.Lists.{list_refused}
use Rattle.key_core.proofs.Within.{rsa_of, ec_of, ed_of, of_rsa, of_ec, of_ed, none_of_mldsa}
use Rattle.key_core.proofs.private_key_value.PrivateKeyValue.read.Goals as goal

pub returns-in_err-read_within-in-Rsa : goal.returns-in_err-read_within-in-Rsa
returns-in_err-read_within-in-Rsa c =
    let p = err_from_is_err_and c.from_residual.result c.from_residual.ensures.1 in
    rw (p.1, p.2) (list_refused _ _ _ (λ key of. of_rsa _ _ c.in-Rsa.is key of) c.in_err-read_within-in-Rsa.ensures)

pub returns-in_err-read_within-in-Ec : goal.returns-in_err-read_within-in-Ec
returns-in_err-read_within-in-Ec c =
    let p = err_from_is_err_and c.from_residual-in_err-read_within-in-Ec.result c.from_residual-in_err-read_within-in-Ec.ensures.1 in
    rw (p.1, p.2) (list_refused _ _ _ (λ key of. of_ec _ _ c.in-Ec.is key of) c.in_err-read_within-in-Ec.ensures)

pub returns-in_err-read_within-in-Ed : goal.returns-in_err-read_within-in-Ed
returns-in_err-read_within-in-Ed c =
    let p = err_from_is_err_and c.from_residual-in_err-read_within-in-Ed.result c.from_residual-in_err-read_within-in-Ed.ensures.1 in
    rw (p.1, p.2) (list_refused _ _ _ (λ key of. of_ed _ _ c.in-Ed.is key of) c.in_err-read_within-in-Ed.ensures)

pub returns-in_ok-read_within-in-Rsa : goal.returns-in_ok-read_within-in-Rsa
returns-in_ok-read_within-in-Rsa c = rsa_of _ _ c.in-Rsa.is _ c.in_ok-read_within-in-Rsa.ensures

pub returns-in_ok-read_within-in-Ec : goal.returns-in_ok-read_within-in-Ec
returns-in_ok-read_within-in-Ec c = ec_of _ _ c.in-Ec.is _ c.in_ok-read_within-in-Ec.ensures

pub returns-in_ok-read_within-in-Ed : goal.returns-in_ok-read_within-in-Ed
returns-in_ok-read_within-in-Ed c = ed_of _ _ c.in-Ed.is _ c.in_ok-read_within-in-Ed.ensures

pub returns-in-Mldsa : goal.returns-in-Mldsa
returns-in-Mldsa c = none_of_mldsa _ _ c.in-Mldsa.is
