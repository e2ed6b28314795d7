-- The encoding of an element isn't longer than its size, and a small element is refused for memory
-- alone.
use Rattle.std.proofs.Common.{◌≡◌, Bool, true, false, ℕ, ◌+◌, ◌^◌, ◌<◌, ◌≤◌, nat_lt, if◌then◌else◌, List, [], ◌∷◌, ◌++◌, length, refl, subst, arith}
use Rattle.std.proofs.lemmas.List.{length-append}
use Rattle.der_core.specs.DerElement.{DerElement, Primitive, Constructed, DerElements, Nil, Cons}
use Rattle.der_core.specs.Encoding.{length_octets, framed, encoding, encodings, IsShort, AreShort}
use Rattle.der_core.specs.Refusals.{RefusesInner}
use Rattle.der_core.specs.declared.error.DerError.{DerError}
use Rattle.der_core.specs.declared.error.DerError.TheVariants as errors
use Rattle.der_core.specs.Size.{size, sizes, IsSmall, AreSmall}

either : (test : Bool) (a b : List ℕ) → length a ≤ 5 → length b ≤ 5 → length (if test then a else b) ≤ 5
either true a b p q = p
either false a b p q = q

few_octets : (n : ℕ) → length (length_octets n) ≤ 5
unfolding length_octets
few_octets n =
    either (nat_lt n (2 ^ 7)) _ _ (omega arith)
    (either (nat_lt n (2 ^ 8)) _ _ (omega arith)
    (either (nat_lt n (2 ^ 16)) _ _ (omega arith)
    (either (nat_lt n (2 ^ 24)) _ _ (omega arith) (omega arith))))

framed_within : (tag : ℕ) (contents : List ℕ) → length (framed tag contents) ≤ length contents + 6
framed_within tag contents =
    omega (arith, few_octets (length contents), length-append (length_octets (length contents)) contents)

mutual
  pub within_size : (element : DerElement) → length (encoding element) ≤ size element
  within_size (Primitive tag content) = framed_within tag content
  within_size (Constructed tag kids) = omega (arith, framed_within tag (encodings kids), within_sizes kids)

  pub within_sizes : (elements : DerElements) → length (encodings elements) ≤ sizes elements
  within_sizes Nil = omega arith
  within_sizes (Cons kid kids) = omega (arith, length-append (encoding kid) (encodings kids), within_size kid, within_sizes kids)

mutual
  pub light_short : (element : DerElement) → size element < 2 ^ 32 → IsShort element
  light_short (Primitive tag content) light = omega arith
  light_short (Constructed tag kids) light = (omega (arith, within_sizes kids), lights_short kids (omega arith))

  lights_short : (elements : DerElements) → sizes elements < 2 ^ 32 → AreShort elements
  lights_short Nil light = tt
  lights_short (Cons kid kids) light = (light_short kid (omega arith), lights_short kids (omega arith))

none_deep : (elements before : List DerElement) (element : DerElement) (after : List DerElement) → AreSmall elements → elements ≡ before ++ element ∷ after
    → IsSmall element
none_deep [] [] element after small are = absurd cc
none_deep [] (b ∷ before) element after small are = absurd cc
none_deep (x ∷ elements) [] element after small are = let same : x ≡ element = cc in subst IsSmall same small.0
none_deep (x ∷ elements) (b ∷ before) element after small are = let same : elements ≡ before ++ element ∷ after = cc in
    none_deep elements before element after small.1 same

-- small elements are refused for memory alone
pub only_memory : (elements : List DerElement) (e : DerError) → AreSmall elements → RefusesInner elements e → e ≡ errors.Memory
only_memory elements errors.TooDeep small (before, element, after, are, der, refused) =
    let one = none_deep elements before element after small are in absurd (omega (arith, one.nested, refused))
only_memory elements errors.TooLong small (before, element, after, are, der, refused) =
    let one = none_deep elements before element after small are in absurd (refused.1 (light_short element one.light))
only_memory elements errors.Memory small refused = refl
only_memory elements (errors.Malformed m) small refused = absurd refused
only_memory elements errors.Shape small refused = absurd refused
