-- The content of a signature file, and what it is read as.
use Rattle.std.proofs.Common.{◌≡◌, ◌⊎◌, List, ℕ, Bool, true, false, Result, Ok, Err, MatchResult, inl}
use Rattle.std.proofs.Common.{inr, refl, sym, ap, subst, ◌∙◌, ltb-true, nat_lt, ◌^◌, if◌then◌else◌}
use Rattle.std.specs.Prelude.{Vec}
use Rattle.std.specs.declared.alloc.Global.{Global}
use Rattle.cms_types.specs.Facts.SignedDatas.{pkcs7s}
use Rattle.cms_types.specs.Pkcs7.{pkcs7}
use Rattle.cms_types.specs.declared.signed_data.pkcs7.Pkcs7Certificate.{Pkcs7Certificate}
use Rattle.der_core.specs.DerElement.{DerElement}
use Rattle.der_core.specs.Encoding.{encoding, IsDer, IsPaddedEncoding}
use Rattle.der_core.specs.declared.error.DerError.{DerError}
use Rattle.der_core.specs.declared.error.DerError.TheVariants as der
use Rattle.x509_core.proofs.NoRefusal.{one_error}
use Rattle.wincert_core.specs.Refusal.{contents_in, current, encoded}
use Rattle.wincert_core.specs.WinCert.{WinCert, padded, spelling, stated_length, with_padding}
use Rattle.wincert_core.specs.declared.error.WinCertificateError.{WinCertificateError}
use Rattle.wincert_core.specs.declared.error.WinCertificateError.TheVariants as headers
use Rattle.wincert_core.specs.declared.kinds.CertificateType.{CertificateType}
use Rattle.authenticode_core.specs.Basic.{RefusesValue}
use Rattle.authenticode_core.specs.ContentRefusal.{of_content, of_header}
use Rattle.authenticode_core.specs.declared.error.AuthenticodeError.{AuthenticodeError}
use Rattle.authenticode_core.specs.declared.error.CheckError.{CheckError}
use Rattle.authenticode_core.specs.declared.error.CheckError.TheVariants.{Win, Authenticode, Memory}
use Rattle.authenticode_core.proofs.OneData.{one_element, same_certificate}
use Rattle.authenticode_signature.specs.FileRefusals.{GivesFile, GivesSignature, RefusesFile, RefusesHeader}
use Rattle.authenticode_signature.specs.MadeFile.{IsSpelledWhole, wrapped}
use Rattle.authenticode_signature.specs.Pkcs7.{written}
use Rattle.authenticode_signature.specs.Refusals.{IsUnreadPkcs7, WrapsSignedData, of_signed_data, unread}
use Rattle.authenticode_signature.specs.Unread.{RefusesPadded}
use Rattle.authenticode_signature.specs.declared.pkcs7.Pkcs7.{Pkcs7}
use Rattle.authenticode_signature.specs.declared.signature.AuthenticodeSignature.{AuthenticodeSignature}
use Rattle.authenticode_signature.proofs.CheckedFiles.{begins_so, contents_of, padded_so}
use Rattle.authenticode_signature.proofs.Padding.{none_for}

-- ---- headers

pub returned_so : {A : Type 0} (asked : Result A WinCertificateError) (source : WinCertificateError) (e : CheckError) → e ≡ of_header source
    → (asked ≡ Err source) ⊎ (source ≡ headers.Memory) → RefusesHeader asked e
returned_so asked source e returned (inl refused) = inl (source, returned, refused)
returned_so asked source e returned (inr out) = inr (returned ∙ ap of_header out)

-- one cause is reported as one error
pub returned_as : {A : Type 0} (a b : WinCertificateError) (e : CheckError) → ◌≡◌ {A = Result A WinCertificateError} (Err a) (Err b) → e ≡ of_header a
    → e ≡ of_header b
returned_as a b e same returned = returned ∙ ap of_header (one_error a b same)

-- ---- a file

ok_if : {A E : Type 0} (test : Bool) (x y : A) (error : E) → (if test then Ok x else Err error) ≡ Ok y → (test ≡ true) × (x ≡ y)
ok_if true x y error e = (refl, cc)
ok_if false x y error e = absurd cc

wrapped_is : (certificate : List ℕ) (kind : CertificateType) (w : WinCert) → current certificate kind ≡ Ok w → wrapped kind certificate ≡ w
wrapped_is certificate kind w e = (ok_if (nat_lt (stated_length certificate) (2 ^ 32)) (wrapped kind certificate) w headers.TooLong e).1

whole : (octets : List ℕ) (w : WinCert) → encoded w ≡ Ok octets → IsSpelledWhole octets w
whole octets w e =
    let parts = ok_if (nat_lt (stated_length (with_padding w).certificate) (2 ^ 32)) (spelling (with_padding w)) octets headers.TooLong e in
    record { fits = ltb-true _ _ parts.0; spelled = sym parts.1 }

file_of : (der : List ℕ) (element : DerElement) (kind : CertificateType) (w : WinCert) (octets : List ℕ) → der ≡ encoding element → current der kind ≡ Ok w
    → encoded w ≡ Ok octets → IsSpelledWhole octets (wrapped kind (encoding element))
file_of der element kind w octets is made spelled =
    whole octets (wrapped kind (encoding element)) (ap encoded (ap (wrapped kind) (sym is) ∙ wrapped_is der kind w made) ∙ spelled)

pub unwrapped_file : (der : List ℕ) (element : DerElement) (kind : CertificateType) (e : CheckError) → IsDer element → der ≡ encoding element
    → RefusesHeader (current der kind) e → RefusesFile element kind e
unwrapped_file der element kind e known is refused = inr (known, inl (subst (λ (d : List ℕ). RefusesHeader (current d kind) e) is refused))

unspelled_file : (der : List ℕ) (element : DerElement) (kind : CertificateType) (w : WinCert) (e : CheckError) → IsDer element → der ≡ encoding element
    → current der kind ≡ Ok w → RefusesHeader (encoded w) e → RefusesFile element kind e
unspelled_file der element kind w e known is made refused =
    inr (known, inr (subst (λ (v : WinCert). RefusesHeader (encoded v) e) (sym (ap (wrapped kind) (sym is) ∙ wrapped_is der kind w made)) refused))

pub file_or_refused : (der : List ℕ) (element : DerElement) (kind : CertificateType) (w : WinCert) (r : Result (Vec ℕ Global) CheckError) → IsDer element
    → der ≡ encoding element → current der kind ≡ Ok w
    → MatchResult r (λ octets. encoded w ≡ Ok octets.items) (RefusesHeader (encoded w)) → GivesFile element kind r
file_or_refused der element kind w (Ok octets) known is made spelled = (file_of der element kind w octets.items is made spelled, known)
file_or_refused der element kind w (Err e) known is made refused = unspelled_file der element kind w e known is made refused

-- ---- a signature

unread_or_out : (octets certificate : List ℕ) (source : DerError) → contents_in octets ≡ Ok certificate → RefusesPadded certificate source
    → RefusesValue octets (of_content (of_signed_data (unread source))) ⊎ (of_content (of_signed_data (unread source)) ≡ Memory)
unread_or_out octets certificate source named (inr out) = inr (ap (λ (s : DerError). of_content (of_signed_data (unread s))) out)
unread_or_out octets certificate (der.Malformed m) named (inl cause) = inl (record {
  certificate = certificate;
  named = named;
  source = der.Malformed m;
  cause = cause;
  returned = refl;
})
unread_or_out octets certificate der.Shape named (inl cause) =
    inl (record { certificate = certificate; named = named; source = der.Shape; cause = cause; returned = refl })
unread_or_out octets certificate der.TooDeep named (inl cause) = absurd cause
unread_or_out octets certificate der.TooLong named (inl cause) = absurd cause
unread_or_out octets certificate der.Memory named (inl cause) = absurd cause

pub unread_file : (octets certificate : List ℕ) (e : AuthenticodeError) (r : CheckError) → r ≡ of_content e → contents_in octets ≡ Ok certificate
    → WrapsSignedData (IsUnreadPkcs7 (RefusesPadded certificate)) e → RefusesValue octets r ⊎ (r ≡ Memory)
unread_file octets certificate e r returned named (source, of, (cause, is, refused)) =
    subst (λ (x : CheckError). RefusesValue octets x ⊎ (x ≡ Memory)) (sym (returned ∙ ap of_content (of ∙ ap of_signed_data is)))
    (unread_or_out octets certificate cause named refused)

returned_value : (octets : List ℕ) (source : WinCertificateError) → contents_in octets ≡ Err source
    → RefusesValue octets (of_header source) ⊎ (of_header source ≡ Memory)
returned_value octets headers.Memory refused = inr refl
returned_value octets (headers.WrongRevisionValue n) refused = inl refused
returned_value octets (headers.WrongCertificateType n) refused = inl refused
returned_value octets (headers.WrongLength n m) refused = inl refused
returned_value octets headers.CertificateDataIsEmpty refused = inl refused
returned_value octets (headers.Io n m) refused = inl refused
returned_value octets headers.TooLong refused = inl refused

pub no_header : (octets : List ℕ) (r : CheckError) → RefusesHeader (contents_in octets) r → RefusesValue octets r ⊎ (r ≡ Memory)
no_header octets r (inl (source, returned, refused)) =
    subst (λ (x : CheckError). RefusesValue octets x ⊎ (x ≡ Memory)) (sym returned) (returned_value octets source refused)
no_header octets r (inr out) = inr out

-- ---- what was made

value_once : (v : Pkcs7Certificate) (p : Pkcs7) → pkcs7 v ≡ written p → v ≡ p.signed
value_once v p e = pkcs7s.once (written p) v p.signed (sym e) refl

kept_once : (p q : Pkcs7) → written p ≡ written q → p ≡ q
kept_once p q e =
    let same : p.signed ≡ q.signed = value_once p.signed q e in
    λ i. record { signed = same i }

pub read_as_made : (octets : List ℕ) (p : Pkcs7) (kind : CertificateType) (r : Result AuthenticodeSignature CheckError) → IsDer (written p)
    → IsSpelledWhole octets (wrapped kind (encoding (written p))) → GivesSignature octets r
    → MatchResult r (λ s. s.0 ≡ p) (λ e. e ≡ Memory)
read_as_made octets p kind r known file given = by r given
  where
    certificate : List ℕ
    certificate = padded (encoding (written p))

    named : contents_in octets ≡ Ok certificate
    named = contents_of octets (with_padding (wrapped kind (encoding (written p)))) (begins_so octets (wrapped kind (encoding (written p))) file)

    spelled : IsPaddedEncoding certificate (written p)
    spelled = padded_so (encoding (written p)) (written p) known refl

    by : (r : Result AuthenticodeSignature CheckError) → GivesSignature octets r → MatchResult r (λ s. s.0 ≡ p) (λ e. e ≡ Memory)
    by (Ok s) (other, there, read) =
        let same = same_certificate octets other certificate there named in
        kept_once s.0 p (one_element certificate (written s.0) (written p) (subst (λ (c : List ℕ). IsPaddedEncoding c (written s.0)) same read) spelled)
    by (Err Memory) given = refl
    by (Err (Win e)) (inl refused) = absurd (cc (named, refused))
    by (Err (Win e)) (inr out) = absurd cc
    by (Err (Authenticode e)) (inl unread) =
        let same = same_certificate octets certificate unread.certificate named unread.named in
        absurd (none_for unread.certificate (written p) p.signed unread.source (subst (λ (c : List ℕ). IsPaddedEncoding c (written p)) same spelled)
        refl unread.cause)
    by (Err (Authenticode e)) (inr out) = absurd cc
