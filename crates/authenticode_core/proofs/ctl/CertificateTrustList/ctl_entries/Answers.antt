use Rattle.std.specs.Borrow.{Bor}
use Rattle.std.specs.Prelude.{List}
use Rattle.cms_content.specs.declared.ctl_entry.CTLEntry.{CTLEntry}
use Rattle.authenticode_core.proofs.OnList.{entries_or_not}
use Rattle.authenticode_core.proofs.ctl.CertificateTrustList.ctl_entries.Goals as goal

pub returns-in-Some : goal.returns-in-Some
returns-in-Some c =
    entries_or_not (λ (entries : Bor (List CTLEntry)). entries.now) c.args.self.now c.in-Some.content c.entries_in.result c.in-Some.is c.entries_in.ensures
