-- What a timestamper with one token for everything does to signed data (Windows Authenticode
-- Portable Executable Signature Format; RFC 5652 5.1, 5.3, 11.4).
use Rattle.std.specs.Prelude.{◌≡◌, ◌≢◌, ◌⊎◌, List, [], ◌∷◌, ◌++◌, Option, Some, None, Result, Ok, Err}
use Rattle.der_core.specs.Writing.{RefusesToWrite}
use Rattle.der_core.specs.declared.error.DerError.{DerError}
use Rattle.der_core.specs.declared.error.DerError.TheVariants as der
use Rattle.key_core.specs.declared.element.Element.TheVariants as structures
use Rattle.x509_core.specs.CertRefusals.{unwritten}
use Rattle.cms_types.specs.SignerInfo.{signer_info}
use Rattle.cms_types.specs.UnsignedAttribute.{signer_values}
use Rattle.cms_types.specs.declared.signed_data.SignedData.{SignedData}
use Rattle.cms_types.specs.declared.signed_data.certificate_choices.CertificateChoices.{CertificateChoices}
use Rattle.cms_types.specs.declared.signer_info.SignerInfo.{SignerInfo}
use Rattle.cms_types.specs.declared.unsigned_attribute.UnsignedAttribute.{UnsignedAttribute}
use Rattle.cms_types.specs.declared.unsigned_attribute.UnsignedAttribute.TheVariants as attributes
use Rattle.cms_types.specs.declared.unsigned_attribute.signer_values.SignerValues.{SignerValues}
use Rattle.authenticode_core.specs.declared.timestamp_error.TimestampError.{TimestampError}
use Rattle.authenticode_core.specs.declared.timestamp_error.TimestampError.TheVariants as errors
use Rattle.authenticode_signature.specs.Pkcs7.{signer_infos_of}
use Rattle.authenticode_signature.specs.declared.pkcs7.Pkcs7.{Pkcs7}

-- the items, none if the list is absent
abbrev pub items_in : {X : Type 0} → Option (List X) → List X
items_in None = []
items_in (Some items) = items

-- the items of both lists in order, absent exactly if both are
abbrev pub joined_lists : {X : Type 0} → Option (List X) → Option (List X) → Option (List X)
joined_lists None None = None
joined_lists None (Some more) = Some more
joined_lists (Some items) None = Some items
joined_lists (Some items) (Some more) = Some (items ++ more)

-- a signer with one more unsigned attribute, after its own
abbrev pub with_unsigned : SignerInfo → UnsignedAttribute → SignerInfo
with_unsigned signer attribute =
    record signer { unsigned_attrs = Some (items_in signer.unsigned_attrs ++ attribute ∷ []) }

-- The attribute is a counter-signature whose one value is the first signer.
pub record CountersignsBy (signers : List SignerInfo) (attribute : UnsignedAttribute) : Type 0 where
  pub signer : SignerInfo
  pub others : List SignerInfo
  pub first : signers ≡ signer ∷ others
  pub values : SignerValues
  pub is : attribute ≡ attributes.CounterSign values
  pub held : signer_values values ≡ signer_info signer ∷ []

-- The signers are these, except that the first of them has one more counter-signature, by the first
-- countersigner.
pub record AreStamped (countersigners before after : List SignerInfo) : Type 0 where
  pub signer : SignerInfo
  pub others : List SignerInfo
  pub first : before ≡ signer ∷ others
  pub stamp : UnsignedAttribute
  pub countersigns : CountersignsBy countersigners stamp
  pub are : after ≡ with_unsigned signer stamp ∷ others

-- the certificates of signed data
abbrev pub certificates_of : Pkcs7 → Option (List CertificateChoices)
certificates_of p = p.signed.signed_data.certificates

-- The new signed data: its first signer has one more counter-signature, by that of the token, and
-- the certificates of the token are after its own. All else is as it was.
pub record IsStampedBy (token : Pkcs7) (before after : SignedData) : Type 0 where
  pub signers : List SignerInfo
  pub stamped : AreStamped (signer_infos_of token) before.signers_infos signers
  pub is : after ≡ record before {
    certificates = joined_lists before.certificates (certificates_of token);
    signers_infos = signers;
  }

-- The first signer can't be written, for this cause.
pub record IsFirstUnwritten (signers : List SignerInfo) (source : DerError) : Type 0 where
  pub signer : SignerInfo
  pub others : List SignerInfo
  pub first : signers ≡ signer ∷ others
  pub refused : RefusesToWrite (signer_info signer) source

-- Why the first signer isn't made a counter-signature: there is none, or it can't be written.
abbrev pub RefusesCountersigner : List SignerInfo → TimestampError → Type 0
RefusesCountersigner signers errors.TimestampTokenEmpty = signers ≡ []
RefusesCountersigner signers (errors.Asn1DerError e) =
    (source : DerError) × (source ≢ der.Memory) × (e ≡ unwritten structures.Pkcs7 source)
    × IsFirstUnwritten signers source
RefusesCountersigner signers _ = ⊥

-- Why signers aren't timestamped: there are none on either side, or else the countersigner can't be
-- written.
abbrev pub RefusesTokenStamp : (countersigners signers : List SignerInfo) → TimestampError → Type 0
RefusesTokenStamp countersigners signers errors.TimestampTokenEmpty =
    (signers ≡ []) ⊎ (countersigners ≡ [])
RefusesTokenStamp countersigners signers (errors.Asn1DerError e) =
    (signers ≢ []) × RefusesCountersigner countersigners (errors.Asn1DerError e)
RefusesTokenStamp countersigners signers _ = ⊥

-- the outcome of a modification of signed data by a token
abbrev pub token_modifies : Pkcs7 → SignedData → Result SignedData TimestampError → Type 0
token_modifies token before (Ok after) = IsStampedBy token before after
token_modifies token before (Err e) =
    RefusesTokenStamp (signer_infos_of token) before.signers_infos e
