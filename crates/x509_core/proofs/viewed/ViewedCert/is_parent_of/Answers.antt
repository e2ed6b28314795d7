use Rattle.x509_core.specs.declared.key_link.KeyLink.TheVariants as links
use Rattle.x509_core.proofs.Links.{same_link, same_test, lacking, differing}
use Rattle.x509_core.proofs.viewed.ViewedCert.is_parent_of.Goals as goal

pub expect_issuer_of-requires : goal.expect_issuer_of-requires
expect_issuer_of-requires c = (
  same_link _ _ _ _ links.Agree c.args.self.now.same c.args.child.now.same c.in-Agree.ensures,
  same_test _ _ _ _ _ c.args.self.now.same c.args.child.now.same c.names_agree-agree.ensures,
)

pub returns-in-Missing-clause-accepted : goal.returns-in-Missing-clause-accepted
returns-in-Missing-clause-accepted c =
    λ linked. absurd (lacking _ _ (same_link _ _ _ _ links.Missing c.args.self.now.same c.args.child.now.same c.in-Missing.ensures) linked)

pub returns-in-Differ-clause-accepted : goal.returns-in-Differ-clause-accepted
returns-in-Differ-clause-accepted c =
    let link = links.Differ c.in-Differ.expected c.in-Differ.actual in
    λ linked. absurd (differing _ _ c.in-Differ.expected.now c.in-Differ.actual.now
    (same_link _ _ _ _ link c.args.self.now.same c.args.child.now.same c.in-Differ.ensures) linked)
