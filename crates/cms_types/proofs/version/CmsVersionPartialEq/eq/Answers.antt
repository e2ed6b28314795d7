use Rattle.std.proofs.Common.{rules}
use Rattle.der_core.specs.Facts.Equality.{octets_decide}
use Rattle.cms_types.specs.CmsVersion.{cms_version}
use Rattle.cms_types.specs.Facts.Versions.{versions, versions_once}
use Rattle.cms_types.proofs.version.CmsVersionPartialEq.eq.Goals as goal

pub returns-clause-octets : goal.returns-clause-octets
returns-clause-octets c = octets_decide cms_version versions_once versions.formed c.args.self.now c.args.other.now _ (search rules)
