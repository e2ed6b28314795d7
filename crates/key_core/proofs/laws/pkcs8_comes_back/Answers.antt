use Rattle.key_core.proofs.Pkcs8Keys.{comes_again, of_pkcs8, of_pkcs1}
use Rattle.key_core.proofs.ComesBack.{private_for_memory}
use Rattle.key_core.proofs.OwnedKeys.{curve_key_again}
use Rattle.key_core.proofs.laws.pkcs8_comes_back.Goals as goal

pub returns-clause-again : goal.returns-clause-again
returns-clause-again c = comes_again

pub returns-clause-memory : goal.returns-clause-memory
returns-clause-memory c = private_for_memory

pub returns-clause-of_pkcs8 : goal.returns-clause-of_pkcs8
returns-clause-of_pkcs8 c = of_pkcs8

pub returns-clause-of_pkcs1 : goal.returns-clause-of_pkcs1
returns-clause-of_pkcs1 c = of_pkcs1

pub returns-clause-of_sec1 : goal.returns-clause-of_sec1
returns-clause-of_sec1 c = λ derives octets key is. curve_key_again derives is.curve is.read key is.is

pub returns-clause-of_sec1_on : goal.returns-clause-of_sec1_on
returns-clause-of_sec1_on c = λ derives curve octets key is. curve_key_again derives curve is.read key is.is

pub returns-clause-of_sec1_on_known : goal.returns-clause-of_sec1_on_known
returns-clause-of_sec1_on_known c = λ derives curve octets key is. curve_key_again derives is.oid is.is.read key is.is.is
