-- What is checked of a certificate and its parents, as configured.
use Rattle.std.specs.Prelude.{Bool, true}
use Rattle.x509_core.specs.declared.validator.ChainChecks.{ChainChecks}
use Rattle.x509_core.specs.declared.window.DateCheck.{DateCheck}
use Rattle.x509_core.specs.declared.window.DateCheck.TheVariants as dates

-- these dates, these of the two ends of a validity, and whether the chain and the root are checked
abbrev pub checks_of : DateCheck → Bool → Bool → Bool → Bool → ChainChecks
checks_of date not_before not_after chain root = record {
  window = record { date = date; not_before = not_before; not_after = not_after };
  chain = chain;
  root = root;
}

-- initially everything is checked, and no date is given
abbrev pub first_checks : ChainChecks
first_checks = checks_of dates.Absent true true true true

-- the checks at these dates
abbrev pub checks_at : DateCheck → ChainChecks → ChainChecks
checks_at date checks =
    checks_of date checks.window.not_before checks.window.not_after checks.chain checks.root

-- the checks, with or without that a certificate has begun to be valid
abbrev pub with_not_before : Bool → ChainChecks → ChainChecks
with_not_before asked checks =
    checks_of checks.window.date asked checks.window.not_after checks.chain checks.root

-- the checks, with or without that a certificate hasn't expired
abbrev pub with_not_after : Bool → ChainChecks → ChainChecks
with_not_after asked checks =
    checks_of checks.window.date checks.window.not_before asked checks.chain checks.root

-- the checks, with or without the chain
abbrev pub with_chain : Bool → ChainChecks → ChainChecks
with_chain asked checks =
    checks_of checks.window.date checks.window.not_before checks.window.not_after asked checks.root

-- the checks, with or without the root
abbrev pub with_root : Bool → ChainChecks → ChainChecks
with_root asked checks =
    checks_of checks.window.date checks.window.not_before checks.window.not_after checks.chain asked
