-- The signed data of a signature file: when there is one, when it vouches for the digest of a file,
-- and why not.
use Rattle.std.specs.Prelude.{◌≡◌, ◌≤◌, ◌⊎◌, ℕ, drop, replicate, List, ◌∷◌, Ok, Err}
use Rattle.cms_types.specs.Pkcs7.{pkcs7}
use Rattle.cms_types.specs.SignedData.{signed_data_elements}
use Rattle.cms_types.specs.SignedDataElements.{SignedDataElements}
use Rattle.cms_types.specs.SignedView.{IsSignedView}
use Rattle.cms_types.specs.SignerElements.{SignerElements}
use Rattle.cms_types.specs.declared.signed_data.pkcs7.Pkcs7Certificate.{Pkcs7Certificate}
use Rattle.cms_types.specs.declared.signed_data.view.SignedView.{SignedView}
use Rattle.der_core.specs.DerElement.{DerElement}
use Rattle.der_core.specs.Encoding.{IsPaddedEncoding}
use Rattle.der_core.specs.Fault.{IsFirstFault}
use Rattle.der_core.specs.Reading.{IsFirst}
use Rattle.der_core.specs.Rules.{Rule, IsFirstBroken}
use Rattle.der_core.specs.declared.error.DerError.{DerError}
use Rattle.der_core.specs.declared.error.DerError.TheVariants as der
use Rattle.der_core.specs.declared.fault.DerFault.TheVariants.{Trailing}
use Rattle.der_core.specs.declared.fault.Malformed.{Malformed}
use Rattle.key_core.specs.Verifying.{Judge}
use Rattle.key_core.specs.declared.element.Element.TheVariants.{Pkcs7}
use Rattle.wincert_core.specs.Refusal.{contents_in}
use Rattle.x509_core.specs.declared.error.CertError.TheVariants.{Asn1Deserialization}
use Rattle.authenticode_core.specs.FormRules.{HasForm, FileDiffers}
use Rattle.authenticode_core.specs.SignedFields.{HasIndirectData, IndirectData, IsFirstSigner}
use Rattle.authenticode_core.specs.SigningRules.{IsSigned, signing_rules}
use Rattle.authenticode_core.specs.declared.error.AuthenticodeError.{AuthenticodeError}
use Rattle.authenticode_core.specs.declared.error.AuthenticodeError.TheVariants.{CertError}
use Rattle.authenticode_core.specs.declared.error.CheckError.{CheckError}
use Rattle.authenticode_core.specs.declared.error.CheckError.TheVariants.{Win, Authenticode, Memory}

-- The octets begin with a WIN_CERTIFICATE whose certificate encodes signed data with these fields,
-- with at most seven zeros after it.
pub record HasSignedData (octets : List ℕ) (f : SignedDataElements) : Type 0 where
  pub certificate : List ℕ
  pub named : contents_in octets ≡ Ok certificate
  pub value : Pkcs7Certificate
  pub spelled : IsPaddedEncoding certificate (pkcs7 value)
  pub fields : f ≡ signed_data_elements value.signed_data

-- The octets begin with a WIN_CERTIFICATE whose certificate is this element, with at most seven
-- zeros after it, and the view is one of it.
pub record LiesIn (octets : List ℕ) (element : DerElement) (view : SignedView) : Type 0 where
  pub certificate : List ℕ
  pub named : contents_in octets ≡ Ok certificate
  pub spelled : IsPaddedEncoding certificate element
  pub is : IsSignedView element view

-- Signed data vouches for the digest of a file: it has the form, the digest is the expected one,
-- and the signature of its one signer, whose certificate is at this index, is good.
pub record VouchesFor (judge : Judge) (f : SignedDataElements) (file_hash : List ℕ)
    (place : ℕ) : Type 0 where
  pub algorithm : DerElement
  pub d : IndirectData
  pub g : SignerElements
  pub form : HasForm f algorithm d g
  pub binds_hash : d.digest ≡ file_hash
  pub signed : IsSigned judge f d g place

-- ---- why the octets have no signed data

-- at most seven zeros, which align a WIN_CERTIFICATE
abbrev pub IsPadding : List ℕ → Type 0
IsPadding octets = (zeros : ℕ) × (zeros ≤ 7) × (octets ≡ replicate zeros 0)

-- The octets begin with an element of this length, and what follows it is no padding.
pub record HasMoreThanPadding (octets : List ℕ) (place : ℕ) : Type 0 where
  pub element : DerElement
  pub first : IsFirst octets element place
  pub unpadded : IsPadding (drop place octets) → ⊥

-- Why the octets of a certificate are no element with at most seven zeros after it: the first fault
-- of an element, or other octets after it.
abbrev pub IsMalformedPadded : List ℕ → Malformed → Type 0
IsMalformedPadded certificate m =
    IsFirstFault certificate m.at m.fault
    ⊎ ((m.fault ≡ Trailing) × HasMoreThanPadding certificate m.at)

-- The octets are an element, with at most seven zeros after it, that isn't signed data.
pub record IsShapeless (certificate : List ℕ) : Type 0 where
  pub element : DerElement
  pub spelled : IsPaddedEncoding certificate element
  pub none : (value : Pkcs7Certificate) → element ≡ pkcs7 value → ⊥

-- why the octets of a certificate aren't signed data: they are no element, or another structure
abbrev pub IsNoSignedData : List ℕ → DerError → Type 0
IsNoSignedData certificate (der.Malformed m) = IsMalformedPadded certificate m
IsNoSignedData certificate der.Shape = IsShapeless certificate
IsNoSignedData certificate der.TooDeep = ⊥
IsNoSignedData certificate der.TooLong = ⊥
IsNoSignedData certificate der.Memory = ⊥

-- The certificate of the WIN_CERTIFICATE isn't signed data, and the error has the cause.
pub record IsUnreadSignature (octets : List ℕ) (e : AuthenticodeError) : Type 0 where
  pub certificate : List ℕ
  pub named : contents_in octets ≡ Ok certificate
  pub source : DerError
  pub cause : IsNoSignedData certificate source
  pub returned : e ≡ CertError (Asn1Deserialization Pkcs7 source)

-- ---- rules

-- the rules for the parts of signed data of the form: the digest of the file, and the signature
abbrev pub IsRefusedPart : Judge → SignedDataElements → List ℕ → Rule AuthenticodeError
IsRefusedPart judge f file_hash e =
    (d : IndirectData) × (g : SignerElements) × HasIndirectData f d × IsFirstSigner f g
    × IsFirstBroken (FileDiffers f file_hash ∷ signing_rules judge f d g) e

-- ---- results

-- Why the octets are refused for their header, or for what their certificate is. It is never out of
-- memory.
abbrev pub RefusesValue : List ℕ → CheckError → Type 0
RefusesValue octets (Win e) = contents_in octets ≡ Err e
RefusesValue octets (Authenticode e) = IsUnreadSignature octets e
RefusesValue octets Memory = ⊥
