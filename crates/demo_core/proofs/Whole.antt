-- The demonstration from its parts.
use Rattle.std.proofs.Common.{◌≡◌, ◌<◌, ◌≤◌, ℕ, suc, ◌+◌, List, [], ◌∷◌, ◌++◌, take, get_or, flat_map, length, Some, refl, sym, ap, ap₂, subst, ◌∙◌, arith}
use Rattle.std.specs.List.{range_with_len, slice_get}
use Rattle.std.proofs.lemmas.List.{flat_map_more, take_more}
use Rattle.std.proofs.lemmas.List.FromFn.{get_or-map-range_with_len, length-map-range_with_len}
use Rattle.std.proofs.lemmas.Option.{get_or_from_slice_get, slice_get-get_or, slice_get_within}
use Rattle.sha2.specs.Sha256.{sha256}
use Rattle.asn1_types.specs.declared.generalized_time.GeneralizedTime.{GeneralizedTime}
use Rattle.der_core.specs.Encoding.{encoding}
use Rattle.x509_core.specs.Issued.{HasCert}
use Rattle.x509_core.specs.OwnedCertificate.{KeptCertificate, kept_octets}
use Rattle.x509_core.proofs.Histories.{item_at}
use Rattle.der_core.specs.Counting.{IsCount}
use Rattle.demo_core.specs.Acceptance.{IsRootAt, IsValidCount}
use Rattle.demo_core.specs.Builders.{IsYearGiven}
use Rattle.demo_core.specs.Certificates.{demo_octets, step_certificate}
use Rattle.demo_core.specs.Demonstration.{IsDemonstration}
use Rattle.demo_core.specs.History.{AreInOrder, IsStepAt, demo_history, demo_step}
use Rattle.demo_core.specs.Issuing.{AreStepCerts, IsHistoryOf}
use Rattle.demo_core.specs.declared.demonstration.Demonstration.{Demonstration}
use Rattle.demo_core.specs.declared.history.Step.{Step}
use Rattle.demo_core.proofs.StepOrder.{step_at}

-- ---- the steps

pub history_length : (count : ℕ) → length (demo_history count) ≡ count
history_length count = length-map-range_with_len (demo_step count) 0 count

step_is : (count index : ℕ) (step : Step) → slice_get (demo_history count) index ≡ Some step → step ≡ demo_step count index
step_is count index step found =
    let within = slice_get_within (demo_history count) index step found in
    sym (get_or_from_slice_get (demo_history count) index step step found)
    ∙ get_or-map-range_with_len (demo_step count) 0 count index index step (omega (arith, within, history_length count)) (omega arith)

has_step : (count index : ℕ) → index < count → slice_get (demo_history count) index ≡ Some (demo_step count index)
has_step count index within =
    slice_get-get_or (demo_history count) index (demo_step count index) (omega (arith, within, history_length count))
    ∙ ap Some (get_or-map-range_with_len (demo_step count) 0 count index index (demo_step count index) within (omega arith))

in_order : (count : ℕ) → AreInOrder (demo_history count)
in_order count index step found = subst (IsStepAt index) (sym (step_is count index step found)) (step_at count index)

pub are_in_order : (count : ℕ) (steps : List Step) → steps ≡ demo_history count → AreInOrder steps
are_in_order count steps is = subst AreInOrder (sym is) (in_order count)

pub are_few : (count : ℕ) (steps : List Step) → steps ≡ demo_history count → count ≤ 255 → length steps ≤ 255
are_few count steps is few = omega (arith, ap length is, history_length count, few)

-- ---- the octets

abbrev pub octets_before : List KeptCertificate → ℕ → List ℕ
octets_before certificates k = flat_map kept_octets (take k certificates)

pub octets_more : (certificates : List KeptCertificate) (k : ℕ) (octets : List ℕ) → k < length certificates
    → ((cert : KeptCertificate) → HasCert certificates k cert → octets ≡ kept_octets cert)
    → octets_before certificates (k + 1) ≡ octets_before certificates k ++ octets
octets_more certificates k octets within are =
    let cert = item_at certificates k within in
    ap (flat_map kept_octets) (take_more certificates k cert.0 within)
    ∙ sym (flat_map_more kept_octets [] (take k certificates) (get_or certificates k cert.0))
    ∙ ap (λ (x : KeptCertificate). octets_before certificates k ++ kept_octets x) (get_or_from_slice_get certificates k cert.0 cert.0 cert.1)
    ∙ ap (λ (o : List ℕ). octets_before certificates k ++ o) (sym (are cert.0 cert.1))

octets_are : (certificates : List KeptCertificate) (f : ℕ → List ℕ) (from : ℕ)
    → ((index : ℕ) (cert : KeptCertificate) → HasCert certificates index cert → kept_octets cert ≡ f (from + index))
    → flat_map kept_octets certificates ≡ flat_map f (range_with_len from (length certificates))
octets_are [] f from each = refl
octets_are (cert ∷ certificates) f from each =
    let here : from + 0 ≡ from = omega arith in
    let later : (index : ℕ) (c : KeptCertificate) → HasCert certificates index c → kept_octets c ≡ f ((from + 1) + index) =
    λ index c has.
    let same : from + suc index ≡ (from + 1) + index = omega arith in
    each (suc index) c has ∙ ap f same in
    ap₂ (λ (a b : List ℕ). a ++ b) (each 0 cert refl ∙ ap f here) (octets_are certificates f (from + 1) later)

step_octets : (count : ℕ) (certificates : List KeptCertificate) → AreStepCerts (demo_history count) count certificates → (index : ℕ) (cert : KeptCertificate)
    → HasCert certificates index cert → kept_octets cert ≡ encoding (step_certificate index (demo_step count index))
step_octets count certificates made index cert has =
    let within = slice_get_within certificates index cert has in
    ap encoding (made.each index (demo_step count index) cert (has_step count index (omega (arith, within, made.of.all, made.of.issued.all))) has).is

sum_is : (count : ℕ) (certificates : List KeptCertificate) → AreStepCerts (demo_history count) count certificates
    → flat_map kept_octets certificates ≡ demo_octets count
sum_is count certificates made =
    let f : ℕ → List ℕ = λ index. encoding (step_certificate index (demo_step count index)) in
    let all : length certificates ≡ count = made.of.issued.all ∙ made.of.all in
    let none : (index : ℕ) → index ≡ 0 + index = λ index. omega arith in
    octets_are certificates f 0 (λ index cert has. step_octets count certificates made index cert has ∙ ap f (none index))
    ∙ ap (λ (n : ℕ). flat_map f (range_with_len 0 n)) all

-- ---- the whole

pub is_demonstration : (count : ℕ) (certificates : List KeptCertificate) (date : GeneralizedTime) (d : Demonstration)
    → d.steps ≡ count → AreStepCerts (demo_history count) count certificates → IsYearGiven 2025 (Some date)
    → IsCount (IsRootAt (demo_history count)) count d.roots → IsValidCount (demo_history count) certificates date count d.accepted
    → d.sum ≡ sha256 (flat_map kept_octets certificates) → IsDemonstration count d
is_demonstration count certificates date d steps made dated roots accepted sum = record {
  steps = steps;
  roots = roots;
  certificates = certificates;
  made = made;
  date = date;
  dated = dated;
  accepted = accepted made.history (subst (λ (n : ℕ). IsHistoryOf (demo_history count) n certificates made.history) (sym (history_length count)) made.of);
  sum = sum ∙ ap sha256 (sum_is count certificates made);
}

pub demonstrated : (count : ℕ) (given : List Step) (certificates : List KeptCertificate) (date : GeneralizedTime) (d : Demonstration)
    → given ≡ demo_history count
    → d.steps ≡ count → AreStepCerts given (length given) certificates → IsYearGiven 2025 (Some date)
    → IsCount (IsRootAt given) (length given) d.roots → IsValidCount given certificates date (length given) d.accepted
    → d.sum ≡ sha256 (flat_map kept_octets certificates) → IsDemonstration count d
demonstrated count given certificates date d is steps made dated roots accepted sum =
    let all = history_length count in
    is_demonstration count certificates date d steps
    (subst (λ (n : ℕ). AreStepCerts (demo_history count) n certificates) all (subst (λ (s : List Step). AreStepCerts s (length s) certificates) is made))
    dated
    (subst (λ (n : ℕ). IsCount (IsRootAt (demo_history count)) n d.roots) all (subst (λ (s : List Step). IsCount (IsRootAt s) (length s) d.roots) is roots))
    (subst (λ (n : ℕ). IsValidCount (demo_history count) certificates date n d.accepted) all
    (subst (λ (s : List Step). IsValidCount s certificates date (length s) d.accepted) is accepted))
    sum
