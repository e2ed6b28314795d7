-- Each element that is written for a certificate of a demonstration is small.
use Rattle.std.proofs.Common.{◌≡◌, Bool, true, false, ◌==◌, ◌||◌, ℕ, zero, suc, ◌+◌, ◌*◌, ◌^◌, ◌%◌}
use Rattle.std.proofs.Common.{◌<◌, ◌≤◌, nat_lt, if◌then◌else◌, List, length, Option, Some, None, arith}
use Rattle.std.specs.Prelude.{codes, decimal}
use Rattle.std.proofs.lemmas.List.{length-append}
use Rattle.std.proofs.lemmas.Fmt.{length-decimal-le}
use Rattle.std.proofs.lemmas.Nat.{mod_below}
use Rattle.sha2.proofs.Facts256.{length-sha256}
use Rattle.der_core.specs.DerElement.{DerElement}
use Rattle.der_core.specs.Encoding.{encoding, nesting}
use Rattle.extension_types.specs.BasicConstraints.{basic_constraints, constraints_with}
use Rattle.demo_core.specs.Certificates.{authority_identifier, certificate_under, elements_under, own_identifier, signature_under, signer_of}
use Rattle.demo_core.specs.Certificates.{small_contents, step_constraints, step_elements, step_extensions, step_key, step_name, step_rsa_key, step_tbs}
use Rattle.demo_core.specs.Draws.{drawn, state_after}
use Rattle.demo_core.specs.History.{demo_step, drawn_issuer}
use Rattle.der_core.specs.Size.{size, IsSmall, AreSmall}
use Rattle.demo_core.specs.Secrets.{step_modulus}
use Rattle.demo_core.specs.declared.history.Step.{Step}
use Rattle.key_core.proofs.SmallRefusals.{key_size, key_small, rsa_small}
use Rattle.demo_core.proofs.StepSubjects.{four_octets}
use Rattle.der_core.proofs.Sizes.{within_size}

either : (test : Bool) (a b : List ℕ) → length a ≤ 2 → length b ≤ 2 → length (if test then a else b) ≤ 2
either true a b p q = p
either false a b p q = q

small_number : (number : ℕ) → length (small_contents number) ≤ 2
small_number number = either (nat_lt number 128) _ _ (omega arith) (omega arith)

name_size : (index : ℕ) → index < 10 ^ 10 → size (step_name index) ≤ 100
name_size index small = omega (arith, length-append (codes "N") (decimal index), length-decimal-le 10 index (omega arith) small (omega arith))

constraints_size : (ca : Bool) (path_length : Option ℕ) → size (basic_constraints (constraints_with (Some ca) path_length)) ≤ 30
constraints_size true None = omega arith
constraints_size false None = omega arith
constraints_size true (Some number) = omega (arith, small_number number)
constraints_size false (Some number) = omega (arith, small_number number)

constraints_nested : (ca : Bool) (path_length : Option ℕ) → nesting (basic_constraints (constraints_with (Some ca) path_length)) ≤ 2
constraints_nested true None = omega arith
constraints_nested false None = omega arith
constraints_nested true (Some number) = omega arith
constraints_nested false (Some number) = omega arith

own_size : (index : ℕ) → size (own_identifier index) ≡ 38
own_size index = omega (arith, length-sha256 (encoding (step_key index)))

authority_size : (index : ℕ) → size (authority_identifier index) ≡ 44
authority_size index = omega (arith, length-sha256 (encoding (step_key index)))

extensions_size : (index signer : ℕ) (step : Step) → size (step_extensions index signer step) ≤ 300
extensions_size index signer step =
    omega (
      arith,
      within_size (step_constraints step),
      constraints_size step.ca step.path_length,
      within_size (own_identifier index),
      own_size index,
      within_size (authority_identifier signer),
      authority_size signer,
    )

tbs_size : (index signer : ℕ) (step : Step) → index < 10 ^ 10 → signer < 10 ^ 10 → size (step_tbs index signer step) ≤ 1000
tbs_size index signer step small_index small_signer =
    omega (
      arith,
      small_number (index + 1),
      name_size index small_index,
      name_size signer small_signer,
      key_size (step_modulus index) (four_octets index),
      extensions_size index signer step,
    )

certificate_size : (signer : ℕ) (tbs : DerElement) → size (certificate_under signer tbs) ≤ size tbs + 100
certificate_size signer tbs =
    let signature : length (signature_under signer (encoding tbs)) ≡ 32 = length-sha256 _ in omega (arith, signature)

pub elements_small : (index signer : ℕ) (step : Step) → index < 10 ^ 10 → signer < 10 ^ 10 → AreSmall (elements_under index signer step)
elements_small index signer step small_index small_signer =
    let tbs : size (step_tbs index signer step) ≤ 1000 = tbs_size index signer step small_index small_signer in
    let rsa : IsSmall (step_rsa_key index) = rsa_small (step_modulus index) (four_octets index) in
    let key : IsSmall (step_key index) = key_small (step_modulus index) (four_octets index) in
    let constraints : IsSmall (step_constraints step) = record {
      nested = omega (arith, constraints_nested step.ca step.path_length);
      light = omega (arith, constraints_size step.ca step.path_length);
    } in
    let own : IsSmall (own_identifier index) = record { nested = omega arith; light = omega (arith, own_size index) } in
    let authority : IsSmall (authority_identifier signer) = record { nested = omega arith; light = omega (arith, authority_size signer) } in
    let whole_tbs : IsSmall (step_tbs index signer step) = record { nested = omega arith; light = omega (arith, tbs) } in
    let certificate : IsSmall (certificate_under signer (step_tbs index signer step)) = record {
      nested = omega arith;
      light = omega (arith, tbs, certificate_size signer (step_tbs index signer step));
    } in
    (rsa, (key, (constraints, (own, (authority, (whole_tbs, (certificate, tt)))))))

either_root : (test : Bool) (index later : ℕ) → later ≤ index → signer_of index (if test then None else Some later) ≤ index
either_root true index later below = omega arith
either_root false index later below = below

-- the signer of a drawn step isn't a later step
signer_within : (index drawn : ℕ) → signer_of index (drawn_issuer index drawn) ≤ index
signer_within zero drawn = omega arith
signer_within (suc n) drawn =
    let below : drawn % suc n < suc n = mod_below drawn (suc n) (omega arith) in
    either_root (suc n == 0 || drawn % 8 == 0) (suc n) (drawn % suc n) (omega (arith, below))

pub drawn_small : (count index : ℕ) → index < count → count < 2 ^ 32 → AreSmall (step_elements index (demo_step count index))
drawn_small count index within small =
    let signer = signer_within index (drawn (state_after count (4 * index)) 0) in
    elements_small index (signer_of index (drawn_issuer index (drawn (state_after count (4 * index)) 0))) (demo_step count index) (omega arith)
    (omega (arith, signer))
