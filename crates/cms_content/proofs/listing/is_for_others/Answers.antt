use Rattle.std.proofs.Common.{◌↔◌, IsTrue, List, subst}
use Rattle.asn1_types.specs.declared.oid.ObjectIdentifier.{ObjectIdentifier}
use Rattle.cms_content.specs.First.{HoldsOfSome}
use Rattle.cms_content.specs.Listing.{IsCodeSigning}
use Rattle.cms_content.proofs.ListingSteps.{said_of, said_of_none, usage_missing}
use Rattle.cms_content.proofs.listing.is_for_others.Goals as goal

pub returns-in_default : goal.returns-in_default
returns-in_default c = said_of_none c.args.entry.now c.in_default.ensures

pub returns-in-None : goal.returns-in-None
returns-in-None c = usage_missing c.args.entry.now c.in-Some.usages.now c.in-Some.ensures c.in-None.ensures.value

pub returns-in-Some-first : goal.returns-in-Some-first
returns-in-Some-first c =
    let test = subst (λ (purposes : List ObjectIdentifier). IsTrue c.is_for_code_signing.result ↔ HoldsOfSome IsCodeSigning purposes)
    c.purposes.ensures c.is_for_code_signing.ensures in
    said_of c.args.entry.now c.in-Some.usages.now c.in-Some-first.first.now c.is_for_code_signing.result c.in-Some.ensures c.in-Some-first.ensures.value test
