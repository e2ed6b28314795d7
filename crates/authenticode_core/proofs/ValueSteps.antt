-- Why a certificate isn't signed data.
use Rattle.std.proofs.Common.{◌≡◌, ◌≢◌, ℕ, List, Ok, refl}
use Rattle.cms_types.specs.Pkcs7.{pkcs7}
use Rattle.cms_types.specs.declared.signed_data.pkcs7.Pkcs7Certificate.{Pkcs7Certificate}
use Rattle.der_core.specs.DerElement.{DerElement}
use Rattle.der_core.specs.Encoding.{IsPaddedEncoding}
use Rattle.der_core.specs.declared.error.DerError.{DerError}
use Rattle.der_core.specs.declared.error.DerError.TheVariants as der
use Rattle.der_core.specs.declared.fault.Malformed.{Malformed}
use Rattle.key_core.specs.declared.element.Element.TheVariants.{Pkcs7}
use Rattle.wincert_core.specs.Refusal.{contents_in}
use Rattle.x509_core.specs.declared.error.CertError.TheVariants.{Asn1Deserialization}
use Rattle.authenticode_core.specs.Basic.{IsNoSignedData, IsMalformedPadded, RefusesValue}
use Rattle.authenticode_core.specs.declared.error.AuthenticodeError.TheVariants.{CertError}
use Rattle.authenticode_core.specs.declared.error.CheckError.{CheckError}
use Rattle.authenticode_core.specs.declared.error.CheckError.TheVariants.{Authenticode}

refuses : (octets certificate : List ℕ) (source : DerError) (e : CheckError) → contents_in octets ≡ Ok certificate → IsNoSignedData certificate source
    → e ≡ Authenticode (CertError (Asn1Deserialization Pkcs7 source)) → RefusesValue octets e
refuses octets certificate source e named cause returned =
    rw returned (record { certificate = certificate; named = named; source = source; cause = cause; returned = refl })

pub refuses_unread : (octets certificate : List ℕ) (m : Malformed) (e : CheckError) → contents_in octets ≡ Ok certificate → IsMalformedPadded certificate m
    → e ≡ Authenticode (CertError (Asn1Deserialization Pkcs7 (der.Malformed m))) → RefusesValue octets e
refuses_unread octets certificate m e named cause returned = refuses octets certificate (der.Malformed m) e named cause returned

pub refuses_shape : (octets certificate : List ℕ) (element : DerElement) (e : CheckError) → contents_in octets ≡ Ok certificate
    → IsPaddedEncoding certificate element → ((value : Pkcs7Certificate) → element ≢ pkcs7 value)
    → e ≡ Authenticode (CertError (Asn1Deserialization Pkcs7 der.Shape)) → RefusesValue octets e
refuses_shape octets certificate element e named spelled none returned =
    refuses octets certificate der.Shape e named (record { element = element; spelled = spelled; none = none }) returned
