-- The rules of basic validation: what meets them, that each is reported by one error, that none
-- before an allocation reports out of memory, and which is broken first.
use Rattle.std.proofs.Common.{◌≡◌, ◌⊎◌, ℕ, List, [], ◌∷◌, Option, Some, None, Result, Ok, Err, MatchResult, inl, inr, refl, sym, ap, subst, ◌∙◌}
use Rattle.cms_types.specs.SignedDataElements.{SignedDataElements}
use Rattle.cms_types.specs.SignerElements.{SignerElements}
use Rattle.cms_types.specs.SignerView.{signer_elements_at}
use Rattle.der_core.specs.DerElement.{DerElement}
use Rattle.der_core.specs.Rules.{IsMet, IsFirstBroken}
use Rattle.der_core.proofs.RuleLists.{AreMet, AreReturnedOnce, IsReturnedOnce, NoneReturns, broken_before, broken_behind}
use Rattle.der_core.proofs.RuleLists.{met_together, none_broken, none_together, one_broken, one_of_two, returned_together}
use Rattle.key_core.specs.Verifying.{Judge}
use Rattle.authenticode_core.specs.Basic.{IsRefusedPart, VouchesFor}
use Rattle.authenticode_core.specs.FormRules.{FileDiffers, HasForm, form_rules}
use Rattle.authenticode_core.specs.Inside.Form.{IsFormOf}
use Rattle.authenticode_core.specs.Inside.PolicySteps.{IsVouchedAt}
use Rattle.authenticode_core.specs.SignedFields.{HasIndirectData, IndirectData, IsFirstSigner}
use Rattle.authenticode_core.specs.SigningRules.{IsSigned, RefusesAuthenticodeBy, signing_rules}
use Rattle.authenticode_core.specs.Trusted.{IsRefusedFor, LacksHash, basic_rules, shape_rules}
use Rattle.authenticode_core.specs.declared.error.AuthenticodeError.{AuthenticodeError}
use Rattle.authenticode_core.specs.declared.error.AuthenticodeError.TheVariants as errors
use Rattle.authenticode_core.specs.declared.form.Form.{Form}
use Rattle.authenticode_core.proofs.FormFields.{indirect_once, signer_once}
use Rattle.authenticode_core.proofs.FormOrder.{file_returned, form_met, form_returns_no_memory, form_returned}
use Rattle.authenticode_core.proofs.OneSigning.{one_signing_refusal, place_once, signed_breaks_no_rule}

-- ---- the parts after the form

file_met : (f : SignedDataElements) (d : IndirectData) (file_hash : List ℕ) → HasIndirectData f d → d.digest ≡ file_hash → IsMet (FileDiffers f file_hash)
file_met f d file_hash has binds e broken = broken.2 (ap (λ (x : IndirectData). x.digest) (indirect_once f broken.0 d broken.1 has) ∙ binds)

pub vouched_or_not : (judge : Judge) (f : SignedDataElements) (form : Form) (file_hash : List ℕ) (is : IsFormOf f form) → form.content.digest.now ≡ file_hash
    → (r : Result ℕ AuthenticodeError)
    → MatchResult r (λ place. IsSigned judge f is.d (signer_elements_at form.signer) place)
    (λ e. IsFirstBroken (signing_rules judge f is.d (signer_elements_at form.signer)) e ⊎ (e ≡ errors.Memory))
    → MatchResult r (VouchesFor judge f file_hash) (λ e. IsRefusedPart judge f file_hash e ⊎ (e ≡ errors.Memory))
vouched_or_not judge f form file_hash is binds (Ok place) signed = record {
  algorithm = is.algorithm;
  d = is.d;
  g = signer_elements_at form.signer;
  form = is.has;
  binds_hash = sym is.content.digest ∙ binds;
  signed = signed;
}
vouched_or_not judge f form file_hash is binds (Err e) (inl broken) =
    inl (
      is.d,
      signer_elements_at form.signer,
      is.has.indirect,
      is.has.signer,
      inr (file_met f is.d file_hash is.has.indirect (sym is.content.digest ∙ binds), broken),
    )
vouched_or_not judge f form file_hash is binds (Err e) (inr memory) = inr memory

one_place : (judge : Judge) (f : SignedDataElements) (file_hash : List ℕ) (p q : ℕ) → VouchesFor judge f file_hash p → VouchesFor judge f file_hash q → p ≡ q
one_place judge f file_hash p q a b =
    let d = indirect_once f a.d b.d a.form.indirect b.form.indirect in
    let g = signer_once f a.g b.g a.form.signer b.form.signer in
    place_once judge f b.d b.g p q
    (subst (λ (x : SignerElements). IsSigned judge f b.d x p) g (subst (λ (x : IndirectData). IsSigned judge f x a.g p) d a.signed)) b.signed

part_returned : (judge : Judge) (f : SignedDataElements) (file_hash : List ℕ) → IsReturnedOnce (IsRefusedPart judge f file_hash)
part_returned judge f file_hash a b p q =
    let d = indirect_once f p.0 q.0 p.2 q.2 in
    let g = signer_once f p.1 q.1 p.3 q.3 in
    let moved : IsFirstBroken (FileDiffers f file_hash ∷ signing_rules judge f q.0 q.1) a =
    subst (λ (x : SignerElements). IsFirstBroken (FileDiffers f file_hash ∷ signing_rules judge f q.0 x) a) g
    (subst (λ (x : IndirectData). IsFirstBroken (FileDiffers f file_hash ∷ signing_rules judge f x p.1) a) d p.4) in
    one_of_two (FileDiffers f file_hash) (signing_rules judge f q.0 q.1) (file_returned f file_hash) (one_signing_refusal judge f q.0 q.1) a b moved q.4

part_unbroken : (judge : Judge) (f : SignedDataElements) (file_hash : List ℕ) (place : ℕ) (d : IndirectData) (g : SignerElements) (e : AuthenticodeError)
    → HasIndirectData f d → IsFirstSigner f g → d.digest ≡ file_hash → IsSigned judge f d g place
    → IsFirstBroken (FileDiffers f file_hash ∷ signing_rules judge f d g) e → ⊥
part_unbroken judge f file_hash place d g e has first binds signed (inl p) =
    p.2 (ap (λ (x : IndirectData). x.digest) (indirect_once f p.0 d p.1 has) ∙ binds)
part_unbroken judge f file_hash place d g e has first binds signed (inr p) = signed_breaks_no_rule judge f d g place e first signed p.1

part_met : (judge : Judge) (f : SignedDataElements) (file_hash : List ℕ) (place : ℕ) → VouchesFor judge f file_hash place
    → IsMet (IsRefusedPart judge f file_hash)
part_met judge f file_hash place v = λ e p.
    let d = indirect_once f p.0 v.d p.2 v.form.indirect in
    let g = signer_once f p.1 v.g p.3 v.form.signer in
    part_unbroken judge f file_hash place v.d v.g e v.form.indirect v.form.signer v.binds_hash v.signed
    (subst (λ (x : SignerElements). IsFirstBroken (FileDiffers f file_hash ∷ signing_rules judge f v.d x) e) g
    (subst (λ (x : IndirectData). IsFirstBroken (FileDiffers f file_hash ∷ signing_rules judge f x p.1) e) d p.4))

-- ---- the given digest

same_hash : (given : Option (List ℕ)) (a b : List ℕ) → given ≡ Some a → given ≡ Some b → a ≡ b
same_hash given a b p q =
    let same : Some a ≡ Some b = sym p ∙ q in
    cc

given_or_not : (given : Option (List ℕ)) (hash : List ℕ) → given ≡ Some hash → given ≡ None → ⊥
given_or_not given hash p q =
    let same : Some hash ≡ None = sym p ∙ q in
    absurd cc

module _ (f : SignedDataElements) (given : Option (List ℕ)) where
  -- ---- the form, and that a digest is given

  hash_met : (hash : List ℕ) → given ≡ Some hash → IsMet (LacksHash given)
  hash_met hash is = λ e broken. given_or_not given hash is broken.0

  shape_met : (algorithm : DerElement) (d : IndirectData) (g : SignerElements) (hash : List ℕ) → HasForm f algorithm d g → given ≡ Some hash
      → AreMet (shape_rules f given)
  shape_met algorithm d g hash form is = met_together (form_rules f) (LacksHash given ∷ []) (form_met f algorithm d g form) (hash_met hash is, tt)

  pub shape_returned : AreReturnedOnce (shape_rules f given)
  shape_returned = returned_together (form_rules f) (LacksHash given ∷ []) (form_returned f) ((λ a b p q. p.1 ∙ sym q.1), tt)

  no_missing : errors.Memory ≡ errors.MissingExpectedFileHash → ⊥
  no_missing e = absurd cc

  pub shape_returns_no_memory : NoneReturns (shape_rules f given) errors.Memory
  shape_returns_no_memory = none_together (form_rules f) (LacksHash given ∷ []) errors.Memory (form_returns_no_memory f) ((λ p. no_missing p.1), tt)

  pub form_in_shape : (e : AuthenticodeError) → IsFirstBroken (form_rules f) e → IsFirstBroken (shape_rules f given) e
  form_in_shape e broken = broken_before (form_rules f) (LacksHash given ∷ []) e broken

  -- the refusal by a broken rule is the one that it reports
  pub refused_so : {A : Type 0} (r : Result A AuthenticodeError) (e : AuthenticodeError) → r ≡ Err e → IsFirstBroken (shape_rules f given) e
      → (x : AuthenticodeError) → IsFirstBroken (shape_rules f given) x → r ≡ Err x
  refused_so r e is broken x other = is ∙ ap Err (one_broken (shape_rules f given) shape_returned e x broken other)

  -- ---- all rules

  module _ (judge : Judge) where
    pub basic_met : (place : ℕ) → IsVouchedAt judge given f place → AreMet (basic_rules judge f given)
    basic_met place at =
        let v = at.2 in
        let part : IsMet (IsRefusedFor judge f given) = λ e broken.
        part_met judge f at.0 place v e (subst (λ (hash : List ℕ). IsRefusedPart judge f hash e) (same_hash given broken.0 at.0 broken.1 at.1) broken.2) in
        met_together (shape_rules f given) (IsRefusedFor judge f given ∷ []) (shape_met v.algorithm v.d v.g at.0 v.form at.1) (part, tt)

    for_returned : IsReturnedOnce (IsRefusedFor judge f given)
    for_returned = λ a b p q. part_returned judge f q.0 a b (subst (λ (hash : List ℕ). IsRefusedPart judge f hash a) (same_hash given p.0 q.0 p.1 q.1) p.2) q.2

    pub basic_returned : AreReturnedOnce (basic_rules judge f given)
    basic_returned = returned_together (shape_rules f given) (IsRefusedFor judge f given ∷ []) shape_returned (for_returned, tt)

    -- there is one index
    pub one_vouched_place : (p q : ℕ) → IsVouchedAt judge given f p → IsVouchedAt judge given f q → p ≡ q
    one_vouched_place p q a b = one_place judge f b.0 p q (subst (λ (hash : List ℕ). VouchesFor judge f hash p) (same_hash given a.0 b.0 a.1 b.1) a.2) b.2

    pub shape_in_basic : (e : AuthenticodeError) → IsFirstBroken (shape_rules f given) e → IsFirstBroken (basic_rules judge f given) e
    shape_in_basic e broken = broken_before (shape_rules f given) (IsRefusedFor judge f given ∷ []) e broken

    pub vouched_at_or_not : (algorithm : DerElement) (d : IndirectData) (g : SignerElements) (hash : List ℕ) → HasForm f algorithm d g → given ≡ Some hash
        → (r : Result ℕ AuthenticodeError)
        → MatchResult r (VouchesFor judge f hash) (λ e. IsRefusedPart judge f hash e ⊎ (e ≡ errors.Memory))
        → MatchResult r (IsVouchedAt judge given f) (RefusesAuthenticodeBy (basic_rules judge f given))
    vouched_at_or_not algorithm d g hash form is (Ok place) v = (hash, is, v)
    vouched_at_or_not algorithm d g hash form is (Err e) (inl part) =
        inl (broken_behind (shape_rules f given) (IsRefusedFor judge f given ∷ []) e (shape_met algorithm d g hash form is) (inl (hash, is, part)))
    vouched_at_or_not algorithm d g hash form is (Err e) (inr memory) = inr memory
