use Rattle.x509_types.proofs.FoundSoFar.{found_here, found_passed}
use Rattle.x509_types.proofs.extension.first.FirstExtensions.with.Goals as goal

pub returns-in_default : goal.returns-in_default
returns-in_default c = λ all rest more are found. record {
  subject_key = found_passed _ _ all rest more _ _ are (c.in_default.ensures _) found.subject_key;
  authority_key = found_passed _ _ all rest more _ _ are (c.in_default.ensures _) found.authority_key;
  constraints = found_passed _ _ all rest more _ _ are (c.in_default.ensures _) found.constraints;
  purposes = found_passed _ _ all rest more _ _ are (c.in_default.ensures _) found.purposes;
}

pub returns : goal.returns
returns c = λ all rest more are found. record {
  subject_key = found_here _ _ _ all rest more _ _ _ _ c.first_of.ensures are c.in-Some.ensures found.subject_key;
  authority_key = found_here _ _ _ all rest more _ _ _ _ c.first_of-2.ensures are c.in-Some.ensures found.authority_key;
  constraints = found_here _ _ _ all rest more _ _ _ _ c.first_of-3.ensures are c.in-Some.ensures found.constraints;
  purposes = found_here _ _ _ all rest more _ _ _ _ c.first_of-4.ensures are c.in-Some.ensures found.purposes;
}
