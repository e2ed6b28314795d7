use Rattle.std.proofs.Common.{◌<◌, ◌↔◌, IsTrue, List, refl, length, arith, subst}
use Rattle.std.proofs.lemmas.Bool.{iff_false}
use Rattle.std.proofs.lemmas.Option.{slice_get_read}
use Rattle.cms_content.specs.declared.ctl_attribute.CTLEntryAttribute.{CTLEntryAttribute}
use Rattle.cms_content.specs.Attributes.{IsDigest}
use Rattle.cms_content.specs.First.{HoldsOfSome}
use Rattle.cms_content.proofs.FirstMembers.{first_at, none_at_all, none_yet}
use Rattle.cms_content.proofs.listing.entries.entry_of.Goals as goal

pub returns-then-has_digest : goal.returns-then-has_digest
returns-then-has_digest c =
    let less : c.loop-entry.entry-index < length c.args.entries.now = omega arith in
    let test = subst (λ (attributes : List CTLEntryAttribute). IsTrue c.has_digest.result ↔ HoldsOfSome (IsDigest c.args.digest.now) attributes)
    c.as_slice.ensures c.has_digest.ensures in
    first_at _ c.args.entries.now c.loop-entry.entry-index c.entry-item.result c.loop-entry.invariant (slice_get_read _ _ _ _ refl less c.entry-item.is)
    (test.0 c.if-has_digest.true)

pub loop-entry-preserved : goal.loop-entry-preserved
loop-entry-preserved c =
    let less : c.loop-entry.entry-index < length c.args.entries.now = omega arith in
    let test = subst (λ (attributes : List CTLEntryAttribute). IsTrue c.has_digest.result ↔ HoldsOfSome (IsDigest c.args.digest.now) attributes)
    c.as_slice.ensures c.has_digest.ensures in
    none_yet _ c.args.entries.now c.loop-entry.entry-index _ c.entry-item.result (omega arith) c.loop-entry.invariant
    (slice_get_read _ _ _ _ refl less c.entry-item.is) (iff_false test c.if-has_digest.false)

pub returns : goal.returns
returns c = none_at_all _ c.args.entries.now c.loop-entry.entry-index c.loop-entry.invariant (omega arith)
