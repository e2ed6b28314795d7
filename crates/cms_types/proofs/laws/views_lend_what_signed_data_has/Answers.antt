use Rattle.std.proofs.Common.{◌≡◌, sym, ◌∙◌}
use Rattle.cms_types.specs.Pkcs7Elements.{pkcs7_of}
use Rattle.cms_types.specs.SignedData.{signed_data_elements}
use Rattle.cms_types.specs.SignedDataElements.{SignedDataElements, signed_data_of}
use Rattle.cms_types.specs.SignedView.{data_elements}
use Rattle.cms_types.specs.SignerInfo.{signer_elements}
use Rattle.cms_types.specs.SignerView.{signer_elements_at}
use Rattle.cms_types.specs.Facts.SignedDatas.{determined_value}
use Rattle.cms_types.specs.Facts.SignerElements.{determined_data, determined_fields, same_data, same_signer}
use Rattle.cms_types.specs.Facts.SignerInfos.{determined_signer}
use Rattle.cms_types.proofs.laws.views_lend_what_signed_data_has.Goals as goal

inside : (f g : SignedDataElements) → pkcs7_of (signed_data_of f) ≡ pkcs7_of (signed_data_of g) → signed_data_of f ≡ signed_data_of g
inside f g e = cc

pub returns : goal.returns
returns c = record {
  signed = λ element view value lent is.
      let f = data_elements view in
      let g = signed_data_elements value.signed_data in
      same_data f g (determined_data f lent.fields) (determined_value value.signed_data) (inside f g (sym lent.is ∙ is));
  signers = λ element view value lent is.
      let f = signer_elements_at view in
      same_signer f (signer_elements value) (determined_fields f lent.fields) (determined_signer value) (sym lent.is ∙ is);
}
