-- Why a signature has no signature file, or a file has no header.
use Rattle.std.specs.Prelude.{◌≡◌, ◌⊎◌, ℕ, List, [], ◌∷◌, Result, Ok, Err, MatchResult, Vec}
use Rattle.std.specs.declared.alloc.Global.{Global}
use Rattle.der_core.specs.DerElement.{DerElement}
use Rattle.der_core.specs.Encoding.{encoding, IsDer, IsPaddedEncoding}
use Rattle.der_core.specs.Refusals.{RefusesInner}
use Rattle.der_core.specs.Rules.{OrMemory}
use Rattle.wincert_core.specs.Refusal.{contents_in, current, encoded}
use Rattle.wincert_core.specs.declared.error.WinCertificateError.{WinCertificateError}
use Rattle.wincert_core.specs.declared.kinds.CertificateType.{CertificateType}
use Rattle.authenticode_core.specs.Basic.{RefusesValue}
use Rattle.authenticode_core.specs.ContentRefusal.{of_content, of_header}
use Rattle.authenticode_core.specs.declared.error.AuthenticodeError.{AuthenticodeError}
use Rattle.authenticode_core.specs.declared.error.CheckError.{CheckError}
use Rattle.authenticode_core.specs.declared.error.CheckError.TheVariants.{Memory}
use Rattle.authenticode_signature.specs.MadeFile.{IsSpelledWhole, wrapped}
use Rattle.authenticode_signature.specs.Pkcs7.{written}
use Rattle.authenticode_signature.specs.Refusals.{IsUnwrittenPkcs7, WrapsSignedData}
use Rattle.authenticode_signature.specs.declared.signature.AuthenticodeSignature.{AuthenticodeSignature}

-- it reports why there is no result, unless memory ran out
abbrev pub RefusesHeader : {A : Type 0} → Result A WinCertificateError → CheckError → Type 0
RefusesHeader asked =
    OrMemory Memory
    (λ e. (source : WinCertificateError) × (e ≡ of_header source) × (asked ≡ Err source))

-- the element can't be written, or it is too long for a WIN_CERTIFICATE, or for one with its
-- padding
abbrev pub RefusesFile : DerElement → CertificateType → CheckError → Type 0
RefusesFile element kind e =
    ((source : AuthenticodeError) × (e ≡ of_content source)
    × WrapsSignedData (IsUnwrittenPkcs7 (RefusesInner (element ∷ []))) source)
    ⊎ (IsDer element
    × (RefusesHeader (current (encoding element) kind) e
    ⊎ RefusesHeader (encoded (wrapped kind (encoding element))) e))

-- The result for the element of a signature: the file with it.
abbrev pub GivesFile : DerElement → CertificateType → Result (Vec ℕ Global) CheckError → Type 0
GivesFile element kind result =
    MatchResult result
    (λ octets. IsSpelledWhole octets.items (wrapped kind (encoding element)) × IsDer element)
    (RefusesFile element kind)

-- The result for octets: the signature in the file, or why it has none.
abbrev pub GivesSignature : List ℕ → Result AuthenticodeSignature CheckError → Type 0
GivesSignature octets result =
    MatchResult result
    (λ s. (certificate : List ℕ) × (contents_in octets ≡ Ok certificate)
    × IsPaddedEncoding certificate (written s.0))
    (OrMemory Memory (RefusesValue octets))
