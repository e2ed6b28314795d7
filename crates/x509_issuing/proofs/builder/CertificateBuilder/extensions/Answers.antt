use Rattle.x509_issuing.specs.BuiltCertificate.{authority_of}
use Rattle.x509_issuing.proofs.WantedExtensions.{all_built}
use Rattle.x509_issuing.proofs.builder.CertificateBuilder.extensions.Goals as goal

pub returns : goal.returns
returns c =
    let names = c.in_ok-push_names.ensures in
    let keys = c.in_ok-push_keys.ensures in
    all_built c.args.self.now c.args.issuer.now c.args.own.now c.authority.result.now
    (authority_of c.args.issuer.now.self_signed c.args.self.now.authority_key_identifier c.args.own.now)
    c.in_ok-extensions.extensions c.push_names.new.extensions c.push_keys.new.extensions c.push_others.new.extensions names.0 keys.0 c.inherited.result.now
    c.in_ok-extensions.ensures names.1 names.2 keys.1 keys.2 c.authority.ensures c.inherited.ensures c.in_ok-push_others.ensures
