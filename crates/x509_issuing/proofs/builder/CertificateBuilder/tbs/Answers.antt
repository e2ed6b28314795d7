use Rattle.std.proofs.Common.{ℕ, List, subst}
use Rattle.x509_issuing.specs.BuiltCertificate.{authority_of}
use Rattle.x509_issuing.specs.MadeExtensions.{AreBuilt}
use Rattle.x509_issuing.proofs.BuiltCertificates.{tbs_by}
use Rattle.x509_issuing.proofs.builder.CertificateBuilder.tbs.Goals as goal

pub returns : goal.returns
returns c =
    tbs_by c.args.self.now c.args.issuer.now c.args.word c.args.subject.own.items c.in_ok-by.by.serial_number c.in_ok-by.by.signature c.in_ok-by.by.name.name
    c.args.validity c.args.subject.name.name c.args.subject.key.info
    c.in_ok-extensions.extensions c.joined.result c.joined.ensures c.in_ok-by.ensures
    (subst (λ (own : List ℕ). AreBuilt c.args.self.now c.args.issuer.now own
    (authority_of c.args.issuer.now.self_signed c.args.self.now.authority_key_identifier own) c.in_ok-extensions.extensions)
    c.deref.ensures.value c.in_ok-extensions.ensures)
