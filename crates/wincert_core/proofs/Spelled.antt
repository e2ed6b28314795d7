-- Octets begin with the encoding of what is read at their start, and an encoding isn't refused.
use Rattle.std.proofs.Common.{◌≡◌, ℕ, zero, suc, ◌+◌, ◌-◌, ◌<◌, ◌≤◌, ◌^◌, ◌∙◌, sym, ap, Bool, true, false, if◌then◌else◌, List, [], ◌∷◌, ◌++◌, length, drop}
use Rattle.std.proofs.Common.{slice_range, get_or, refl, arith, length-take, length-drop, length-append, ltb-true, nat_lt, append-nil, Ok, Err, Some, None}
use Rattle.std.proofs.lemmas.Grind.{common_steps}
use Rattle.std.proofs.lemmas.List.{take-append-drop}
use Rattle.std.specs.Int.{w16, w32, to_le_bytes, from_le_bytes}
use Rattle.std.proofs.lemmas.Nat.{le_bytes_2, le_bytes_4, from_le_bytes-to_le_bytes_4}
use Rattle.wincert_core.specs.declared.kinds.RevisionType.{RevisionType}
use Rattle.wincert_core.specs.declared.kinds.RevisionType.TheVariants.{WinCertificateRevision10, WinCertificateRevision20}
use Rattle.wincert_core.specs.declared.kinds.CertificateType.{CertificateType}
use Rattle.wincert_core.specs.declared.kinds.CertificateType.TheVariants.{WinCertTypeX509, WinCertTypePkcsSignedData}
use Rattle.wincert_core.specs.declared.kinds.CertificateType.TheVariants.{WinCertTypeReserved1, WinCertTypePkcs1Sign}
use Rattle.wincert_core.specs.declared.error.WinCertificateError.{WinCertificateError}
use Rattle.wincert_core.specs.declared.error.WinCertificateError.TheVariants.{TooLong, Memory}
use Rattle.wincert_core.specs.Kinds.{revision_number, revision_numbered, type_number, type_numbered}
use Rattle.wincert_core.specs.WinCert.{WinCert, stated_length, header, spelling, BeginsWith, length_field, revision_field, type_field, with_padding}
use Rattle.wincert_core.specs.Refusal.{first_refusal, encoded}

fit_2 : (a b : ℕ) → a < 256 → b < 256 → (i : ℕ) → get_or (a ∷ b ∷ []) i 0 < 256
fit_2 a b p q zero = p
fit_2 a b p q (suc zero) = q
fit_2 a b p q (suc (suc i)) = omega arith

fit_4 : (a b c d : ℕ) → a < 256 → b < 256 → c < 256 → d < 256 → (i : ℕ) → get_or (a ∷ b ∷ c ∷ d ∷ []) i 0 < 256
fit_4 a b c d p q r s zero = p
fit_4 a b c d p q r s (suc zero) = q
fit_4 a b c d p q r s (suc (suc i)) = fit_2 c d r s i

two : (a b : ℕ) → a < 256 → b < 256 → to_le_bytes w16 (from_le_bytes w16 (a ∷ b ∷ [])) ≡ a ∷ b ∷ []
two a b p q = le_bytes_2 (a ∷ b ∷ []) _ refl (fit_2 a b p q) refl

four : (a b c d : ℕ) → a < 256 → b < 256 → c < 256 → d < 256 → to_le_bytes w32 (from_le_bytes w32 (a ∷ b ∷ c ∷ d ∷ [])) ≡ a ∷ b ∷ c ∷ d ∷ []
four a b c d p q r s = le_bytes_4 (a ∷ b ∷ c ∷ d ∷ []) _ refl (fit_4 a b c d p q r s) refl

-- Octets that are long enough begin with a header with their own numbers.
begins_with_header : (octets : List ℕ) → 8 ≤ length octets → ((i : ℕ) → get_or octets i 0 < 256)
    → octets ≡ header (length_field octets) (revision_field octets) (type_field octets) ++ drop 8 octets
begins_with_header (a ∷ b ∷ c ∷ d ∷ e ∷ f ∷ g ∷ h ∷ rest) enough fits =
    cc (four a b c d (fits 0) (fits 1) (fits 2) (fits 3), two e f (fits 4) (fits 5), two g h (fits 6) (fits 7))
begins_with_header _ enough fits = absurd (omega arith)

-- A header that counts no more octets than there are delimits a certificate.
pub begins : (octets : List ℕ) → ((i : ℕ) → get_or octets i 0 < 256) → (n : ℕ) (r : RevisionType) (k : CertificateType)
    → n ≡ length_field octets → revision_number r ≡ revision_field octets → type_number k ≡ type_field octets
    → 8 ≤ n → n ≤ length octets → n < 2 ^ 32
    → BeginsWith octets (record { revision = r; certificate_type = k; certificate = slice_range octets 8 n })
begins octets fits n r k n-is r-is k-is low high short =
    let part : List ℕ = slice_range octets 8 n in
    let later : List ℕ = drop (n - 8) (drop 8 octets) in
    let long : n ≡ length (slice_range octets 8 n) + 8 = omega (arith, length-take {A = ℕ}, length-drop {A = ℕ}, low, high) in
    let enough : 8 ≤ length octets = omega (arith, low, high) in
    let front : octets ≡ header n (revision_number r) (type_number k) ++ drop 8 octets = cc (begins_with_header octets enough fits) in
    record {
      later = later;
      fits = omega (arith, long, short);
      spelled = front
          ∙ ap (λ rest. header n (revision_number r) (type_number k) ++ rest) (sym (take-append-drop (n - 8) (drop 8 octets)))
          ∙ ap (λ m. header m (revision_number r) (type_number k) ++ (part ++ later)) long;
    }

revision_numbered-number : (r : RevisionType) → revision_numbered (revision_number r) ≡ Some r
revision_numbered-number WinCertificateRevision10 = refl
revision_numbered-number WinCertificateRevision20 = refl

type_numbered-number : (k : CertificateType) → type_numbered (type_number k) ≡ Some k
type_numbered-number WinCertTypeX509 = refl
type_numbered-number WinCertTypePkcsSignedData = refl
type_numbered-number WinCertTypeReserved1 = refl
type_numbered-number WinCertTypePkcs1Sign = refl

-- A header has the numbers that it was written with.
length_field-header : (n r k : ℕ) (rest : List ℕ) → n < 2 ^ 32 → length_field (header n r k ++ rest) ≡ n
length_field-header n r k rest fits = from_le_bytes-to_le_bytes_4 n fits

revision_field-header : (n : ℕ) (r : RevisionType) (k : ℕ) (rest : List ℕ) → revision_field (header n (revision_number r) k ++ rest) ≡ revision_number r
revision_field-header n WinCertificateRevision10 k rest = refl
revision_field-header n WinCertificateRevision20 k rest = refl

type_field-header : (n r : ℕ) (k : CertificateType) (rest : List ℕ) → type_field (header n r (type_number k) ++ rest) ≡ type_number k
type_field-header n r WinCertTypeX509 rest = refl
type_field-header n r WinCertTypePkcsSignedData rest = refl
type_field-header n r WinCertTypeReserved1 rest = refl
type_field-header n r WinCertTypePkcs1Sign rest = refl

-- An encoding at the start isn't refused.
pub not_refused : (octets : List ℕ) (w : WinCert) → BeginsWith octets w → first_refusal octets ≡ None
unfolding first_refusal
not_refused octets w front =
    let rest : List ℕ = w.certificate ++ front.later in
    let n : length_field octets ≡ stated_length w.certificate =
    ap length_field front.spelled ∙ length_field-header _ (revision_number w.revision) (type_number w.certificate_type) rest front.fits in
    let r : revision_numbered (revision_field octets) ≡ Some w.revision =
    ap revision_numbered (ap revision_field front.spelled
    ∙ revision_field-header (stated_length w.certificate) w.revision (type_number w.certificate_type) rest) ∙ revision_numbered-number w.revision in
    let k : type_numbered (type_field octets) ≡ Some w.certificate_type =
    ap type_numbered (ap type_field front.spelled ∙ type_field-header (stated_length w.certificate) (revision_number w.revision) w.certificate_type rest)
    ∙ type_numbered-number w.certificate_type in
    let long : stated_length w.certificate ≤ length octets = omega (arith, ap length front.spelled, length-append {A = ℕ} w.certificate front.later) in
    grind (arith, common_steps, n, r, k, long)

ok_if : {A : Type 0} (test : Bool) (x : A) {y : A} (error : WinCertificateError) → (if test then Ok x else Err error) ≡ Ok y → (test ≡ true) × (x ≡ y)
ok_if true x error e = (refl, cc)
ok_if false x error e = absurd (cc)

-- What was written is read back.
pub read_back : (w : WinCert) (octets : List ℕ) → encoded w ≡ Ok octets → BeginsWith octets (with_padding w)
read_back w octets e =
    let parts : (nat_lt (stated_length (with_padding w).certificate) (2 ^ 32) ≡ true) × (spelling (with_padding w) ≡ octets) = ok_if _ _ TooLong e in
    record {
      later = [];
      fits = ltb-true _ _ parts.0;
      spelled = sym parts.1 ∙ sym (append-nil (spelling (with_padding w)));
    }

-- No refusal of octets is out of memory.
pub refuses_without_memory : (octets : List ℕ) → first_refusal octets ≡ Some Memory → ⊥
unfolding first_refusal
refuses_without_memory octets e = grind (arith, common_steps)
