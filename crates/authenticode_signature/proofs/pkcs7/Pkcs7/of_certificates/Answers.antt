use Rattle.authenticode_signature.proofs.GivenBags.{given_bag, given_octets}
use Rattle.authenticode_signature.proofs.pkcs7.Pkcs7.of_certificates.Goals as goal

pub returns-clause-bag : goal.returns-clause-bag
returns-clause-bag c = given_bag _ _ c.in_ok-without_signers.ensures

pub returns-clause-octets : goal.returns-clause-octets
returns-clause-octets c = given_octets _ _ c.in_ok-without_signers.ensures
