use Rattle.std.proofs.Common.{List, MatchResult, subst, sym}
use Rattle.cms_types.specs.declared.signer_info.SignerInfo.{SignerInfo}
use Rattle.authenticode_signature.specs.SigningCertificate.{HasNoSigningCertificate, IsNamedOtherwise, IsSigningCertificate}
use Rattle.authenticode_signature.proofs.signature.AuthenticodeSignature.signing_certificate.Goals as goal

pub returns-clause-found : goal.returns-clause-found
returns-clause-found c =
    subst (λ (signers : List SignerInfo). MatchResult c.signing_certificate_of.result (λ k. IsSigningCertificate signers c.args.certificates.now k.now)
    (HasNoSigningCertificate signers c.args.certificates.now))
    c.signer_infos.ensures c.signing_certificate_of.ensures.found

pub returns-clause-refused : goal.returns-clause-refused
returns-clause-refused c e is =
    c.signing_certificate_of.ensures.refused e (subst (λ (signers : List SignerInfo). IsNamedOtherwise signers e) (sym c.signer_infos.ensures) is)
