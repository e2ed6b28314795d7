use Rattle.std.proofs.Common.{Some, refl, ap, inl, inr}
use Rattle.x509_issuing.proofs.IssuersGiven.{authority_is, issued_under}
use Rattle.x509_issuing.proofs.builder.CertificateBuilder.issuer_cert.Goals as goal

pub returns-in_ok-from_slice-in-Some-clause-ok : goal.returns-in_ok-from_slice-in-Some-clause-ok
returns-in_ok-from_slice-in-Some-clause-ok c =
    issued_under c.args.issuer_cert.now c.args.issuer_key c.args.self.now c.set_issuer.new.self (Some c.in_ok-from_slice-in-Some.field-0) c.in_ok-name.name
    (inr (c.in-Some.key.now, c.in-Some.ensures, ap Some c.in_ok-from_slice-in-Some.ensures)) c.in_ok-name.ensures c.set_issuer.ensures

pub returns-in-None-clause-ok : goal.returns-in-None-clause-ok
returns-in-None-clause-ok c =
    issued_under c.args.issuer_cert.now c.args.issuer_key c.args.self.now c.set_issuer-in-None.new.self c.args.self.now.authority_key_identifier
    c.in_ok-name.name
    (inl (c.in-None.ensures, refl)) c.in_ok-name.ensures c.set_issuer-in-None.ensures

pub returns-in_ok-from_slice-in-Some-clause-identified : goal.returns-in_ok-from_slice-in-Some-clause-identified
returns-in_ok-from_slice-in-Some-clause-identified c =
    authority_is c.args.issuer_cert.now c.args.issuer_key c.args.self.now c.set_issuer.new.self (returns-in_ok-from_slice-in-Some-clause-ok c)

pub returns-in-None-clause-identified : goal.returns-in-None-clause-identified
returns-in-None-clause-identified c =
    authority_is c.args.issuer_cert.now c.args.issuer_key c.args.self.now c.set_issuer-in-None.new.self (returns-in-None-clause-ok c)
