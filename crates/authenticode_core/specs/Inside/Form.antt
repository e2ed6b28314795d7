-- The parts of signed data of the form that are read, borrowed.
use Rattle.std.specs.Prelude.{◌≡◌}
use Rattle.cms_types.specs.SignedData.{signed_data_elements}
use Rattle.cms_types.specs.SignedDataElements.{SignedDataElements}
use Rattle.cms_types.specs.SignerView.{signer_elements_at}
use Rattle.cms_types.specs.declared.signed_data.SignedData.{SignedData}
use Rattle.der_core.specs.DerElement.{DerElement}
use Rattle.der_core.specs.Elements.{sequence}
use Rattle.authenticode_core.specs.FormRules.{HasForm}
use Rattle.authenticode_core.specs.SignedFields.{HasIndirectData, IndirectData, indirect_kids}
use Rattle.authenticode_core.specs.declared.form.Content.{Content}
use Rattle.authenticode_core.specs.declared.form.Form.{Form}

-- the fields are those of a value
abbrev pub AreSpelled : SignedDataElements → Type 0
AreSpelled f = (value : SignedData) × (f ≡ signed_data_elements value)

-- The content is indirect data, with this element, algorithm and digest.
pub record IsIndirectContent (f : SignedDataElements) (d : IndirectData)
    (content : Content) : Type 0 where
  pub has : HasIndirectData f d
  pub is : content.elem.is.0 ≡ sequence (indirect_kids d)
  pub algorithm : content.algorithm.is.0 ≡ d.algorithm
  pub digest : content.digest.now ≡ d.digest

-- The signed data has the form, with this content and this signer.
pub record IsFormOf (f : SignedDataElements) (form : Form) : Type 0 where
  pub algorithm : DerElement
  pub d : IndirectData
  pub has : HasForm f algorithm d (signer_elements_at form.signer)
  pub content : IsIndirectContent f d form.content
