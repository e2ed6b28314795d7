use Rattle.std.proofs.Common.{refl}
use Rattle.der_core.specs.Each.{IsListOf}
use Rattle.der_core.specs.Structure.{Fits}
use Rattle.cms_types.specs.Levels.{IsCmsVersion, IsContentInfo, IsAlgorithm}
use Rattle.cms_types.proofs.SignerKids.{unfit_first, after, no_first, not_first, takes, constructed_option, constructed_elem}
use Rattle.cms_types.proofs.SignerKids.{data_row, data_third, last_taken, no_signers, data_ends, data_whole}
use Rattle.cms_types.proofs.signed_data.fields.SignedDataFields.of.Goals as goal

pub returns-in_err-kids : goal.returns-in_err-kids
returns-in_err-kids c = rw c.from_residual.ensures (λ f of. c.in_err-kids.ensures _ of.is)

pub returns-in_err-version : goal.returns-in_err-version
returns-in_err-version c =
    rw c.from_residual-in_err-version.ensures
    (λ f of. unfit_first IsCmsVersion _ f.version _ c.in_err-version.ensures.1 (data_row _ _ f c.in_ok-kids.ensures of) of.fields.version)

pub returns-in_err-digest_algorithms : goal.returns-in_err-digest_algorithms
returns-in_err-digest_algorithms c =
    rw c.from_residual-in_err-digest_algorithms.ensures (λ f of.
    no_first _ _ _ c.in_err-digest_algorithms.ensures.0 (after _ _ f.version _ _ c.in_ok-version.ensures.0 (data_row _ _ f c.in_ok-kids.ensures of)))

pub returns-in_err-expect_list : goal.returns-in_err-expect_list
returns-in_err-expect_list c =
    rw c.from_residual-in_err-expect_list.ensures (λ f of.
    not_first (Fits (IsListOf 0x31 IsAlgorithm)) _ _ f.digest_algorithms _ _ c.in_ok-digest_algorithms.ensures
    (after _ _ f.version _ _ c.in_ok-version.ensures.0 (data_row _ _ f c.in_ok-kids.ensures of)) c.in_err-expect_list.ensures of.fields.digest_algorithms)

pub returns-in_err-content_info : goal.returns-in_err-content_info
returns-in_err-content_info c =
    rw c.from_residual-in_err-content_info.ensures (λ f of.
    unfit_first IsContentInfo _ f.content_info _ c.in_err-content_info.ensures.1
    (after _ _ f.digest_algorithms _ _ c.in_ok-digest_algorithms.ensures
    (after _ _ f.version _ _ c.in_ok-version.ensures.0 (data_row _ _ f c.in_ok-kids.ensures of))) of.fields.content_info)

pub returns-in_err-signers_infos : goal.returns-in_err-signers_infos
returns-in_err-signers_infos c =
    rw c.from_residual-in_err-signers_infos.ensures (λ f of.
    let third = data_third _ _ _ _ _ _ _ f c.in_ok-version.ensures.0 c.in_ok-digest_algorithms.ensures c.in_ok-content_info.ensures.0
    (data_row _ _ f c.in_ok-kids.ensures of) in
    no_signers _ _ f of (last_taken _ _ _ _ _ _ f c.next_tagged-certificates.ensures c.next_tagged-crls.ensures of third) c.in_err-signers_infos.ensures.1)

pub returns-in_err-end : goal.returns-in_err-end
returns-in_err-end c =
    rw c.from_residual-in_err-end.ensures (λ f of.
    let third = data_third _ _ _ _ _ _ _ f c.in_ok-version.ensures.0 c.in_ok-digest_algorithms.ensures c.in_ok-content_info.ensures.0
    (data_row _ _ f c.in_ok-kids.ensures of) in
    data_ends _ _ _ f (last_taken _ _ _ _ _ _ f c.next_tagged-certificates.ensures c.next_tagged-crls.ensures of third)
    c.in_ok-signers_infos.ensures.0 c.in_err-end.ensures)

pub returns : goal.returns
returns c =
    let certificates = takes 0xA0 _ _ _ c.next_tagged-certificates.ensures in
    let crls = takes 0xA1 _ _ _ c.next_tagged-crls.ensures in
    record {
      is = data_whole _ _ _ _ _ _ _ _ _ c.in_ok-kids.ensures c.in_ok-version.ensures.0 c.in_ok-digest_algorithms.ensures c.in_ok-content_info.ensures.0
          certificates.are crls.are c.in_ok-signers_infos.ensures.0 c.in_ok-end.ensures;
      fields = record {
        version = c.in_ok-version.ensures.1;
        digest_algorithms = c.in_ok-expect_list.ensures;
        content_info = c.in_ok-content_info.ensures.1;
        certificates = constructed_option 0xA0 _ certificates.tagged refl;
        crls = constructed_option 0xA1 _ crls.tagged refl;
        signers_infos = constructed_elem 0x31 c.in_ok-signers_infos.signers_infos c.in_ok-signers_infos.ensures.1 refl;
      };
    }
