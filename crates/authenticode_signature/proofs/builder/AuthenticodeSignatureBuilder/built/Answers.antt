use Rattle.std.proofs.lemmas.Result.{err_from_is_err_and}
use Rattle.cms_types.specs.SignedAttributesElement.{signed_attributes}
use Rattle.authenticode_signature.specs.BuilderParts.{given_of}
use Rattle.authenticode_signature.proofs.BuilderSteps.{no_attributes, no_content, no_signature, no_signer, unsealed_as}
use Rattle.authenticode_signature.proofs.builder.AuthenticodeSignatureBuilder.built.Goals as goal

pub returns-in_err-expect_signer : goal.returns-in_err-expect_signer
returns-in_err-expect_signer g c =
    let p = err_from_is_err_and c.from_residual.result c.from_residual.ensures.1 in
    rw (p.1, p.2)
    (no_signer (g.S.Scheme.signs c.args.scheme.now) c.args.self.now (given_of c.args.given.now) c.in_err-expect_signer.field-0.0 c.in_err-expect_signer.ensures)

pub returns-in_err-content : goal.returns-in_err-content
returns-in_err-content g c =
    let p = err_from_is_err_and c.from_residual-in_err-content.result c.from_residual-in_err-content.ensures.1 in
    let signer = c.in_ok-expect_signer.ensures in
    rw (p.1, p.2) (no_content (g.S.Scheme.signs c.args.scheme.now) c.args.self.now (given_of c.args.given.now)
    c.in_err-content.field-0.0 signer.0 signer.1 c.in_err-content.ensures)

pub returns-in_err-attributes : goal.returns-in_err-attributes
returns-in_err-attributes g c =
    let p = err_from_is_err_and c.from_residual-in_err-attributes.result c.from_residual-in_err-attributes.ensures.1 in
    let signer = c.in_ok-expect_signer.ensures in
    rw (p.1, p.2) (no_attributes (g.S.Scheme.signs c.args.scheme.now) c.args.self.now (given_of c.args.given.now)
    c.in_err-attributes.field-0.0 signer.0 signer.1 c.in_ok-content.ensures.1 c.in_err-attributes.ensures)

pub returns-in_err-signature : goal.returns-in_err-signature
returns-in_err-signature g c =
    let p = err_from_is_err_and c.from_residual-in_err-signature.result c.from_residual-in_err-signature.ensures.1 in
    let signer = c.in_ok-expect_signer.ensures in
    let content = c.in_ok-content.ensures in
    let attributes = c.in_ok-attributes.ensures in
    rw (p.1, p.2) (no_signature (g.S.Scheme.signs c.args.scheme.now) c.args.self.now (given_of c.args.given.now)
    c.in_err-signature.field-0.0 signer.0 signer.1 content.1 attributes.1
    (unsealed_as c.args.self.now (given_of c.args.given.now) c.args.given.now.algorithm c.in_ok-content.content.items
    (signed_attributes c.in_ok-attributes.attributes) c.requires content.0 attributes.0 (g.S.Scheme.signs c.args.scheme.now)
    c.in_err-signature.field-0.0 c.in_err-signature.ensures))
