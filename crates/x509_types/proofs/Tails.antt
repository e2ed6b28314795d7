-- The fields of a TBSCertificate that are left as they are taken off the beginning.
use Rattle.std.proofs.Common.{◌≡◌, ℕ, List, [], ◌∷◌, ◌++◌, Option, Some, None, MatchOption, refl, sym, subst, ◌∙◌, arith}
use Rattle.std.proofs.Common.{append-nil}
use Rattle.der_core.specs.DerElement.{DerElement, Primitive}
use Rattle.der_core.specs.Elements.{sequence, explicit, optional_leaf, optional_explicit}
use Rattle.der_core.specs.Optional.{TakesExplicit, HasBadTagging}
use Rattle.der_core.specs.Structure.{BeginsOtherwise, HasMore}
use Rattle.der_core.specs.Facts.Optional.{explicit_split}
use Rattle.der_core.specs.Facts.Grammars.{same_fields}
use Rattle.x509_types.specs.TbsElements.{TbsElements, tbs_tail, tbs_of}
use Rattle.x509_types.specs.Facts.TbsElements.{no_issuer, no_subject, behind}

-- what follows an element that may be absent
pub explicit_gone : (tag : ℕ) (all rest after : List DerElement) (kid given : Option DerElement)
    → TakesExplicit tag all kid rest → all ≡ optional_explicit tag given ++ after
    → (given ≡ None → BeginsOtherwise tag after) → rest ≡ after
explicit_gone tag all rest after kid given takes is other = (explicit_split tag kid given rest after takes.once other (sym takes.are ∙ is)).1

pub leaf_gone : {R : Type 0} (now : R → List ℕ) (tag : ℕ) (found : Option R) (all rest after : List DerElement) (given : Option (List ℕ))
    → MatchOption found ((rest ≡ all) × BeginsOtherwise tag all)
    (λ x. all ≡ Primitive tag (now x) ∷ rest) → all ≡ optional_leaf tag given ++ after
    → BeginsOtherwise tag after → rest ≡ after
leaf_gone now tag None all rest after None taken is other = taken.0 ∙ is
leaf_gone now tag None all rest after (Some content) taken is other = absurd (subst (BeginsOtherwise tag) is taken.1 refl)
leaf_gone now tag (Some x) all rest after None taken is other = absurd (subst (BeginsOtherwise tag) (sym is ∙ taken) other refl)
leaf_gone now tag (Some x) all rest after (Some content) taken is other = cc (taken, is)

-- the six required fields
pub six_gone : (all a b c d e rest after : List DerElement)
    (k l m n o p k' l' m' n' o' p' : DerElement) → all ≡ k ∷ a → a ≡ l ∷ b → b ≡ m ∷ c → c ≡ n ∷ d
    → d ≡ o ∷ e → e ≡ p ∷ rest
    → all ≡ k' ∷ l' ∷ m' ∷ n' ∷ o' ∷ p' ∷ after → rest ≡ after
six_gone all a b c d e rest after k l m n o p k' l' m' n' o' p' f g h i j q is = cc (f, g, h, i, j, q, is)

pub behind_version : (element : DerElement) (all rest : List DerElement)
    (version : Option DerElement) (f : TbsElements) → element ≡ sequence all
    → TakesExplicit 0xA0 all version rest → element ≡ tbs_of f → rest ≡ behind f
behind_version element all rest version f holds takes is =
    explicit_gone 0xA0 all rest (behind f) version f.version takes (same_fields all (optional_explicit 0xA0 f.version ++ behind f) (sym holds ∙ is))
    (λ none e. omega (arith, e))

pub behind_issuer : {R : Type 0} (now : R → List ℕ) (found : Option R) (all rest : List DerElement) (f : TbsElements)
    → MatchOption found ((rest ≡ all) × BeginsOtherwise 0x81 all)
    (λ x. all ≡ Primitive 0x81 (now x) ∷ rest) → all ≡ tbs_tail f
    → rest ≡ optional_leaf 0x82 f.subject_unique_id ++ optional_explicit 0xA3 f.extensions
behind_issuer now found all rest f taken is =
    leaf_gone now 0x81 found all rest
    (optional_leaf 0x82 f.subject_unique_id ++ optional_explicit 0xA3 f.extensions)
    f.issuer_unique_id taken is (no_issuer f.subject_unique_id f.extensions)

pub behind_subject : {R : Type 0} (now : R → List ℕ) (found : Option R) (all rest : List DerElement) (f : TbsElements)
    → MatchOption found ((rest ≡ all) × BeginsOtherwise 0x82 all)
    (λ x. all ≡ Primitive 0x82 (now x) ∷ rest)
    → all ≡ optional_leaf 0x82 f.subject_unique_id ++ optional_explicit 0xA3 f.extensions
    → rest ≡ optional_explicit 0xA3 f.extensions
behind_subject now found all rest f taken is =
    leaf_gone now 0x82 found all rest (optional_explicit 0xA3 f.extensions) f.subject_unique_id taken is (no_subject f.extensions)

-- an element of the tag that doesn't hold exactly one isn't that of extensions
pub no_bad_tagging : (all : List DerElement) (given : Option DerElement) → HasBadTagging 0xA3 all → all ≡ optional_explicit 0xA3 given → ⊥
no_bad_tagging all None bad is = let e : bad.kid ∷ bad.rest ≡ [] = sym bad.are ∙ is in absurd cc
no_bad_tagging all (Some x) bad is =
    let e : bad.kid ∷ bad.rest ≡ explicit 0xA3 x ∷ [] = sym bad.are ∙ is in
    let same : bad.kid ≡ explicit 0xA3 x = cc in
    bad.none x same

-- nothing follows the extensions
pub no_more : (all rest : List DerElement) (kid given : Option DerElement) → TakesExplicit 0xA3 all kid rest → HasMore rest
    → all ≡ optional_explicit 0xA3 given → ⊥
no_more all rest kid given takes more is =
    let none : rest ≡ [] = explicit_gone 0xA3 all rest [] kid given takes (is ∙ sym (append-nil (optional_explicit 0xA3 given))) (λ e. tt) in
    let e : more.kid ∷ more.rest ≡ [] = sym more.are ∙ none in
    absurd cc
