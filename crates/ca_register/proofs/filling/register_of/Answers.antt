use Rattle.std.proofs.Common.{map}
use Rattle.ca_register.specs.Owned.{line_held}
use Rattle.ca_register.proofs.Fillings.{no_lines}
use Rattle.ca_register.proofs.filling.register_of.Goals as goal

pub loop-place-init : goal.loop-place-init
loop-place-init c = no_lines (map line_held c.args.lines.now) c.new-register.result.entries.items c.new-register.result.certificates.items
    c.new-register.ensures.entries c.new-register.ensures.certificates
