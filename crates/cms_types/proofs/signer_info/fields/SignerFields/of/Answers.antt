use Rattle.std.proofs.Common.{refl}
use Rattle.cms_types.specs.Levels.{IsCmsVersion, IsSignerIdentifier, IsAlgorithm, IsOctetString}
use Rattle.cms_types.proofs.SignerKids.{unfit_first, after, takes, constructed_option, signer_row}
use Rattle.cms_types.proofs.SignerKids.{signer_third, signed_taken, signed_fits, signer_ends, signer_whole}
use Rattle.cms_types.proofs.signer_info.fields.SignerFields.of.Goals as goal

pub returns-in_err-kids : goal.returns-in_err-kids
returns-in_err-kids c = rw c.from_residual.ensures (λ f of. c.in_err-kids.ensures _ of.is)

pub returns-in_err-version : goal.returns-in_err-version
returns-in_err-version c =
    rw c.from_residual-in_err-version.ensures
    (λ f of. unfit_first IsCmsVersion _ f.version _ c.in_err-version.ensures.1 (signer_row _ _ f c.in_ok-kids.ensures of) of.fields.version)

pub returns-in_err-sid : goal.returns-in_err-sid
returns-in_err-sid c =
    rw c.from_residual-in_err-sid.ensures (λ f of.
    unfit_first IsSignerIdentifier _ f.sid _ c.in_err-sid.ensures.1
    (after _ _ f.version _ _ c.in_ok-version.ensures.0 (signer_row _ _ f c.in_ok-kids.ensures of)) of.fields.sid)

pub returns-in_err-digest_algorithm : goal.returns-in_err-digest_algorithm
returns-in_err-digest_algorithm c =
    rw c.from_residual-in_err-digest_algorithm.ensures (λ f of.
    unfit_first IsAlgorithm _ f.digest_algorithm _ c.in_err-digest_algorithm.ensures.1
    (after _ _ f.sid _ _ c.in_ok-sid.ensures.0 (after _ _ f.version _ _ c.in_ok-version.ensures.0 (signer_row _ _ f c.in_ok-kids.ensures of)))
    of.fields.digest_algorithm)

pub returns-in_err-expect_list_option : goal.returns-in_err-expect_list_option
returns-in_err-expect_list_option c =
    rw c.from_residual-in_err-expect_list_option.ensures (λ f of.
    let third = signer_third _ _ _ _ _ _ _ f c.in_ok-version.ensures.0 c.in_ok-sid.ensures.0 c.in_ok-digest_algorithm.ensures.0
    (signer_row _ _ f c.in_ok-kids.ensures of) in
    c.in_err-expect_list_option.ensures (signed_fits f _ _ (signed_taken _ _ _ _ f c.next_tagged-signed_attrs.ensures of third).0 of))

pub returns-in_err-signature_algorithm : goal.returns-in_err-signature_algorithm
returns-in_err-signature_algorithm c =
    rw c.from_residual-in_err-signature_algorithm.ensures (λ f of.
    let third = signer_third _ _ _ _ _ _ _ f c.in_ok-version.ensures.0 c.in_ok-sid.ensures.0 c.in_ok-digest_algorithm.ensures.0
    (signer_row _ _ f c.in_ok-kids.ensures of) in
    unfit_first IsAlgorithm _ f.signature_algorithm _ c.in_err-signature_algorithm.ensures.1
    (signed_taken _ _ _ _ f c.next_tagged-signed_attrs.ensures of third).1 of.fields.signature_algorithm)

pub returns-in_err-signature : goal.returns-in_err-signature
returns-in_err-signature c =
    rw c.from_residual-in_err-signature.ensures (λ f of.
    let third = signer_third _ _ _ _ _ _ _ f c.in_ok-version.ensures.0 c.in_ok-sid.ensures.0 c.in_ok-digest_algorithm.ensures.0
    (signer_row _ _ f c.in_ok-kids.ensures of) in
    let tail = (signed_taken _ _ _ _ f c.next_tagged-signed_attrs.ensures of third).1 in
    unfit_first IsOctetString _ f.signature _ c.in_err-signature.ensures.1 (after _ _ f.signature_algorithm _ _ c.in_ok-signature_algorithm.ensures.0 tail)
    of.fields.signature)

pub returns-in_err-end : goal.returns-in_err-end
returns-in_err-end c =
    rw c.from_residual-in_err-end.ensures (λ f of.
    let third = signer_third _ _ _ _ _ _ _ f c.in_ok-version.ensures.0 c.in_ok-sid.ensures.0 c.in_ok-digest_algorithm.ensures.0
    (signer_row _ _ f c.in_ok-kids.ensures of) in
    let tail = (signed_taken _ _ _ _ f c.next_tagged-signed_attrs.ensures of third).1 in
    signer_ends _ _ _ _ _ _ _ _ f c.next_tagged-unsigned_attrs.ensures of tail c.in_ok-signature_algorithm.ensures.0 c.in_ok-signature.ensures.0
    c.in_err-end.ensures)

pub returns : goal.returns
returns c =
    let signed = takes 0xA0 _ _ _ c.next_tagged-signed_attrs.ensures in
    let unsigned = takes 0xA1 _ _ _ c.next_tagged-unsigned_attrs.ensures in
    record {
      is = signer_whole _ _ _ _ _ _ _ _ _ _ c.in_ok-kids.ensures c.in_ok-version.ensures.0 c.in_ok-sid.ensures.0 c.in_ok-digest_algorithm.ensures.0 signed.are
          c.in_ok-signature_algorithm.ensures.0 c.in_ok-signature.ensures.0 unsigned.are c.in_ok-end.ensures;
      fields = record {
        version = c.in_ok-version.ensures.1;
        sid = c.in_ok-sid.ensures.1;
        digest_algorithm = c.in_ok-digest_algorithm.ensures.1;
        signed_attrs = c.in_ok-expect_list_option.ensures;
        signature_algorithm = c.in_ok-signature_algorithm.ensures.1;
        signature = c.in_ok-signature.ensures.1;
        unsigned_attrs = constructed_option 0xA1 _ unsigned.tagged refl;
      };
    }
