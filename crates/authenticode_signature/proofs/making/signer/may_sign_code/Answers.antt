use Rattle.std.proofs.Common.{sym, subst}
use Rattle.std.proofs.lemmas.Bool.{iff_false}
use Rattle.asn1_types.specs.declared.oids.TheConstants.{KP_CODE_SIGNING}
use Rattle.x509_types.specs.CertificateElements.{CertificateElements}
use Rattle.x509_types.specs.Purposes.{NamesPurpose}
use Rattle.authenticode_signature.specs.Walk.{items_left}
use Rattle.authenticode_signature.proofs.WalkPurposes.{may_sign}
use Rattle.authenticode_signature.proofs.making.signer.may_sign_code.Goals as goal

pub returns : goal.returns
returns c =
    may_sign c.args.signer.now c.args.certificates.now (items_left c.new.result) c.asks_for_purposes.result c.new.ensures c.asks_for_purposes.ensures
    (λ names.
    iff_false c.names.ensures c.if-names.false (subst (λ (f : CertificateElements). NamesPurpose f KP_CODE_SIGNING.now) (sym c.view.ensures.elements) names))
