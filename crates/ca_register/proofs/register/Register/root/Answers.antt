use Rattle.ca_register.proofs.Kept.{kept_root}
use Rattle.ca_register.proofs.register.Register.root.Goals as goal

pub add-requires : goal.add-requires
add-requires g c =
    let register = c.args.self.now in
    kept_root (g.S.Scheme.judge register.scheme) register.entries.items register.certificates.items register.kept c.args.grant c.in_ok-cert.cert
    c.if-not-grant.false c.in_ok-cert.ensures.next
