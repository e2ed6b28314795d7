use Rattle.std.proofs.Common.{◌≡◌}
use Rattle.std.proofs.lemmas.Result.{err_from_is_err_and}
use Rattle.der_core.specs.DerElement.{DerElement}
use Rattle.der_core.specs.Each.{IsListOf}
use Rattle.der_core.specs.Facts.Lists.{list_refused}
use Rattle.cms_types.specs.Borrowed.{signed_data_at}
use Rattle.cms_types.specs.Levels.{IsAlgorithm}
use Rattle.cms_types.specs.SignedDataParts.{AreSigned}
use Rattle.cms_types.specs.SignerInfo.{signer_info}
use Rattle.cms_types.specs.declared.signer_info.SignerInfo.{SignerInfo}
use Rattle.cms_types.proofs.signed_data.parts.SignedPart.read.Goals as goal

pub returns-in_err-read_list : goal.returns-in_err-read_list
returns-in_err-read_list c =
    let p = err_from_is_err_and c.from_residual.result c.from_residual.ensures.1 in
    rw (p.1, p.2) (list_refused (IsListOf 0x31 IsAlgorithm (signed_data_at c.args.fields.now).digest_algorithms)
    (AreSigned (signed_data_at c.args.fields.now)) _ (λ value q. (value.digest_algorithms, q.digest_algorithms)) c.in_err-read_list.ensures)

pub returns-in_err-read_list-2 : goal.returns-in_err-read_list-2
returns-in_err-read_list-2 c =
    let p = err_from_is_err_and c.from_residual-in_err-read_list-2.result c.from_residual-in_err-read_list-2.ensures.1 in
    rw (p.1, p.2) (list_refused (IsListOf 0x31 (λ (element : DerElement) (signer : SignerInfo). element ≡ signer_info signer)
    (signed_data_at c.args.fields.now).signers_infos) (AreSigned (signed_data_at c.args.fields.now)) _ (λ value q. (value.signers_infos, q.signers_infos))
    c.in_err-read_list-2.ensures)
