use Rattle.key_core.proofs.Pkcs1Keys.{comes_back, private_comes_back}
use Rattle.key_core.proofs.laws.pkcs1_comes_back.Goals as goal

pub returns-clause-public : goal.returns-clause-public
returns-clause-public c = comes_back

pub returns-clause-private : goal.returns-clause-private
returns-clause-private c = private_comes_back
