-- The parts of a step's TBSCertificate are determined by its builder.
use Rattle.std.proofs.Common.{◌≡◌, inl, inr, Bool, true, false, nat_lt, if◌then◌else◌, ℕ, ◌+◌, ◌*◌, ◌%◌}
use Rattle.std.proofs.Common.{◌<◌, ◌≤◌, List, [], ◌∷◌, ◌++◌, Option, Some, refl, sym, ap, subst, ◌∙◌, arith}
use Rattle.std.proofs.lemmas.Bool.{cases_lt, ltb-false, ltb-true}
use Rattle.der_core.specs.DerElement.{DerElement, Primitive}
use Rattle.der_core.specs.Head.{number_from}
use Rattle.der_core.specs.BorrowedOption.{kept_option}
use Rattle.asn1_types.specs.Calendar.{IsUtcYear}
use Rattle.asn1_types.specs.Elements.{object_identifier_of, time}
use Rattle.asn1_types.specs.Integer.{IsUnsignedInteger}
use Rattle.asn1_types.specs.Time.{from_month, generalized_fields, two_digits}
use Rattle.asn1_types.specs.declared.generalized_time.GeneralizedTime.{GeneralizedTime}
use Rattle.asn1_types.specs.declared.oids.TheConstants.{SHA256_WITH_RSA_ENCRYPTION}
use Rattle.asn1_types.specs.declared.time.Time.{Time}
use Rattle.asn1_types.specs.declared.time.Time.TheVariants as times
use Rattle.key_types.specs.AlgorithmIdentifier.{algorithm_of, algorithm_identifier}
use Rattle.key_types.specs.declared.algorithm.AlgorithmIdentifier.{AlgorithmIdentifier}
use Rattle.names_core.specs.UtcDate.{IsTimeOf}
use Rattle.sig_core.specs.declared.hash.HashAlgorithm.TheVariants.{SHA2_256}
use Rattle.key_core.specs.SignatureAlgorithm.{IsWrittenAlgorithm}
use Rattle.key_core.specs.declared.signature_algorithm.SignatureAlgorithm.TheVariants.{RsaPkcs1v15}
use Rattle.key_core.specs.SmallKeys.{with_null}
use Rattle.demo_core.specs.Certificates.{small_contents, year_time}

-- ---- the validity

utc_year : (year : ℕ) (fields : List ℕ) (t : GeneralizedTime) → generalized_fields t ≡ year ∷ 1 ∷ 1 ∷ 0 ∷ 0 ∷ 0 ∷ []
    → (t.year ≡ year) × (t.month ≡ 1) × (t.day ≡ 1) × (t.hour ≡ 0) × (t.minute ≡ 0) × (t.second ≡ 0)
utc_year year fields t e =
    let y : t.year ≡ year = cc in
    let m : t.month ≡ 1 = cc in
    let d : t.day ≡ 1 = cc in
    let h : t.hour ≡ 0 = cc in
    let n : t.minute ≡ 0 = cc in
    let s : t.second ≡ 0 = cc in
    (y, m, d, h, n, s)

abbrev utc_of : (year month day hour minute second : ℕ) → DerElement
utc_of year month day hour minute second =
    Primitive 0x17 (two_digits (year % 100) ++ from_month month day hour minute second)

pub time_is : (year : ℕ) (date : GeneralizedTime) (t : Time) → IsUtcYear year → generalized_fields date ≡ year ∷ 1 ∷ 1 ∷ 0 ∷ 0 ∷ 0 ∷ []
    → IsTimeOf date t → time t ≡ year_time year
time_is year date (times.Utc t) utc is made =
    let f = utc_year year [] t.time (made.moment ∙ is) in
    ap (λ (y : ℕ). utc_of y t.time.month t.time.day t.time.hour t.time.minute t.time.second) f.0
    ∙ ap (λ (m : ℕ). utc_of year m t.time.day t.time.hour t.time.minute t.time.second) f.1
    ∙ ap (λ (d : ℕ). utc_of year 1 d t.time.hour t.time.minute t.time.second) f.2
    ∙ ap (λ (h : ℕ). utc_of year 1 1 h t.time.minute t.time.second) f.3
    ∙ ap (λ (n : ℕ). utc_of year 1 1 0 n t.time.second) f.4
    ∙ ap (λ (s : ℕ). utc_of year 1 1 0 0 s) f.5
time_is year date (times.Generalized t) utc is made =
    let y : date.year ≡ year = (utc_year year [] date is).0 in
    absurd (made.form.1 (subst IsUtcYear (sym y) utc))

-- ---- the serial number

grows : (number : ℕ) (octets : List ℕ) → number ≤ number_from number octets
grows number [] = omega arith
grows number (octet ∷ octets) = omega (arith, grows (number * 256 + octet) octets)

below_half : (test : Bool) (number : ℕ) → test ≡ true → (number ∷ []) ≡ (if test then number ∷ [] else 0 ∷ number ∷ [])
below_half true number e = refl
below_half false number e = absurd cc

above_half : (test : Bool) (number : ℕ) → test ≡ false → (0 ∷ number ∷ []) ≡ (if test then number ∷ [] else 0 ∷ number ∷ [])
above_half true number e = absurd cc
above_half false number e = refl

yes : (test : Bool) (number : ℕ) → nat_lt number 128 ≡ test → number < 128 → test ≡ true
yes true number e below = refl
yes false number e below = absurd (omega (arith, ltb-false number 128 e, below))

no : (test : Bool) (number : ℕ) → nat_lt number 128 ≡ test → 128 ≤ number → test ≡ false
no true number e above = absurd (omega (arith, ltb-true number 128 e, above))
no false number e above = refl

not_low : (first second number : ℕ) → first ≡ 0 → second ≡ number → ((first ≡ 0) × (second < 128) → ⊥) → 128 ≤ number
not_low first second number zero_first same other =
    elim (cases_lt second 128) [
      | inl low ↦ absurd (other (zero_first, low))
      | inr high ↦ omega (arith, high, same)
    ]

pub serial_is : (number : ℕ) (contents : List ℕ) → number < 256 → IsUnsignedInteger number contents → contents ≡ small_contents number
serial_is number [] small is = absurd is.shortest
serial_is number (octet ∷ []) small is =
    let same : octet ≡ number = omega (arith, is.same_number) in
    let low : octet < 128 = is.not_negative in
    ap (λ (o : ℕ). o ∷ []) same ∙ below_half (nat_lt number 128) number (yes (nat_lt number 128) number refl (omega (arith, same, low)))
serial_is number (first ∷ second ∷ []) small is =
    let zero_first : first ≡ 0 = omega (arith, is.same_number) in
    let same : second ≡ number = omega (arith, is.same_number) in
    ap (λ (f : ℕ). f ∷ second ∷ []) zero_first ∙ ap (λ (s : ℕ). 0 ∷ s ∷ []) same
    ∙ above_half (nat_lt number 128) number (no (nat_lt number 128) number refl (not_low first second number zero_first same is.shortest.0))
serial_is number (first ∷ second ∷ third ∷ octets) small is =
    let start : ℕ = ((0 * 256 + first) * 256 + second) * 256 + third in
    let total : number_from start octets ≡ number = is.same_number in
    let most : start ≤ number_from start octets = grows start octets in
    let zero_first : first ≡ 0 = omega (arith, total, most, small) in
    let zero_second : second ≡ 0 = omega (arith, total, most, small) in
    absurd (is.shortest.0 (zero_first, omega (arith, zero_second)))

-- ---- the algorithm

some_once : (a b : List ℕ) → Some a ≡ Some b → a ≡ b
some_once a b e = cc

pub algorithm_is : (id : AlgorithmIdentifier) → IsWrittenAlgorithm (RsaPkcs1v15 SHA2_256) id
    → algorithm_identifier id ≡ with_null SHA256_WITH_RSA_ENCRYPTION.now
algorithm_is id is =
    ap (λ (c : List ℕ). algorithm_of (object_identifier_of c) (kept_option id.parameters)) (sym (some_once _ _ is.identifier))
    ∙ ap (λ (p : Option DerElement). algorithm_of (object_identifier_of SHA256_WITH_RSA_ENCRYPTION.now) p) is.parameters
