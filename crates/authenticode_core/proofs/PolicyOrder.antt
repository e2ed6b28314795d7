-- The rules of a policy: what meets them, that each is reported by one error, and which is broken
-- first.
use Rattle.std.proofs.Common.{◌≡◌, ℕ, List, [], ◌++◌, Bool, Option, Some, None, Result, Ok, Err}
use Rattle.std.proofs.Common.{MatchResult, true, false, IsTrue, inl, inr, refl, sym, ap, subst, ◌∙◌}
use Rattle.std.specs.Prelude.{IfSome}
use Rattle.cms_types.specs.SignedDataElements.{SignedDataElements}
use Rattle.der_core.specs.Rules.{Rule, IsFirstBroken}
use Rattle.der_core.proofs.RuleLists.{AreMet, AreReturnedOnce, broken_before, broken_behind, met_together, none_broken, returned_together}
use Rattle.key_core.specs.Verifying.{Judge}
use Rattle.authenticode_core.specs.Inside.PolicySteps.{IsListedAt, IsPlaceAsked, IsSignerAsked, IsVouchedAt, at_place}
use Rattle.authenticode_core.specs.Inside.SigningSteps.{HasSignerAt}
use Rattle.authenticode_core.specs.ListRules.{IsSignerListed, ca_rules}
use Rattle.authenticode_core.specs.SignerRules.{IsSignerVouched, signer_rules}
use Rattle.authenticode_core.specs.SigningRules.{RefusesAuthenticodeBy}
use Rattle.authenticode_core.specs.Trusted.{IsBasicallyVouched, IsTrusted, asked, basic_rules, policy_rules, shape_rules}
use Rattle.authenticode_core.specs.declared.accepted.Accepted.{Accepted}
use Rattle.authenticode_core.specs.declared.accepted.Excuse.TheVariants as excuses
use Rattle.authenticode_core.specs.declared.error.AuthenticodeError.{AuthenticodeError}
use Rattle.authenticode_core.specs.declared.policy.Policy.{Policy}
use Rattle.authenticode_core.proofs.BasicOrder.{basic_met, basic_returned, one_vouched_place, shape_in_basic}
use Rattle.authenticode_core.proofs.CaOrder.{ca_met, ca_returned}
use Rattle.authenticode_core.proofs.OneSignerRule.{same_accepted, signer_met, signer_returned, vouched_once}
use Rattle.authenticode_core.proofs.OneSigning.{signer_once}

-- ---- rules that are checked

on_or_off : (b : Bool) → b ≡ true → b ≡ false → ⊥
on_or_off b on off = absurd (cc (on, off))

asked_met : (b : Bool) (rules : List (Rule AuthenticodeError)) → (IsTrue b → AreMet rules) → AreMet (asked b rules)
asked_met true rules met = met refl
asked_met false rules met = tt

pub asked_returned : (b : Bool) (rules : List (Rule AuthenticodeError)) → AreReturnedOnce rules → AreReturnedOnce (asked b rules)
asked_returned true rules returned = returned
asked_returned false rules returned = tt

behind_asked : (b : Bool) (rules others : List (Rule AuthenticodeError)) (e : AuthenticodeError) → b ≡ true → AreMet rules → IsFirstBroken others e
    → IsFirstBroken (rules ++ asked b others) e
behind_asked true rules others e on met broken = broken_behind rules others e met broken
behind_asked false rules others e on met broken = absurd (cc on)

module _ (judge : Judge) (policy : Policy) (f : SignedDataElements) where
  abbrev given : Option (List ℕ)
  given = policy.file_hash

  abbrev first_rules : List (Rule AuthenticodeError)
  first_rules = asked policy.basic (basic_rules judge f policy.file_hash)

  abbrev signer_part : List (Rule AuthenticodeError)
  signer_part = asked policy.signing (signer_rules judge policy f)

  abbrev ca_part : List (Rule AuthenticodeError)
  ca_part = asked policy.against_list (ca_rules policy f)

  abbrev later_rules : List (Rule AuthenticodeError)
  later_rules = signer_part ++ ca_part

  -- ---- each is reported by one error

  later_returned : AreReturnedOnce later_rules
  later_returned =
      returned_together signer_part ca_part (asked_returned policy.signing (signer_rules judge policy f) (signer_returned judge policy f))
      (asked_returned policy.against_list (ca_rules policy f) (ca_returned policy f))

  pub policy_returned : AreReturnedOnce (policy_rules judge policy f)
  policy_returned =
      returned_together first_rules later_rules (asked_returned policy.basic (basic_rules judge f given) (basic_returned f given judge)) later_returned

  -- ---- trusted signed data breaks none

  later_met : (a : Accepted) → IsTrusted judge policy f a → AreMet later_rules
  later_met a t =
      met_together signer_part ca_part (asked_met policy.signing (signer_rules judge policy f) (λ on. signer_met judge policy f a (t.signing on)))
      (asked_met policy.against_list (ca_rules policy f) (λ on. ca_met policy f a (t.listed on)))

  trusted_met : (a : Accepted) → IsTrusted judge policy f a → AreMet (policy_rules judge policy f)
  trusted_met a t =
      met_together first_rules later_rules (asked_met policy.basic (basic_rules judge f given) (λ on. let v = t.basic on in
      basic_met f given judge v.place (v.hash, v.given, v.vouches))) (later_met a t)

  pub trusted_unbroken : (a : Accepted) (e : AuthenticodeError) → IsTrusted judge policy f a → IsFirstBroken (policy_rules judge policy f) e → ⊥
  trusted_unbroken a e t broken = none_broken (policy_rules judge policy f) (trusted_met a t) e broken

  -- ---- and has one report

  module _ (a b : Accepted) (t : IsTrusted judge policy f a) (u : IsTrusted judge policy f b) where
    same_places : IsBasicallyVouched judge given f a → IsBasicallyVouched judge given f b → a.signer ≡ b.signer
    same_places v w = v.place_is ∙ ap Some (one_vouched_place f given judge v.place w.place (v.hash, v.given, v.vouches) (w.hash, w.given, w.vouches))
        ∙ sym w.place_is

    same_listed : IsSignerListed policy f a → IsSignerListed policy f b → a.signer ≡ b.signer
    same_listed v w = v.place_is ∙ ap Some (signer_once f v.bag w.bag v.place w.place v.certificate w.certificate v.is_bag w.is_bag v.is_signer w.is_signer).0
        ∙ sym w.place_is

    unasked : policy.signing ≡ false → a.signer ≡ b.signer → a ≡ b
    unasked off signer = same_accepted judge policy f a b signer ((t.pathless off).0 ∙ sym (u.pathless off).0) ((t.pathless off).1 ∙ sym (u.pathless off).1)

    by_list : (list : Bool) → policy.basic ≡ false → policy.signing ≡ false → policy.against_list ≡ list → a ≡ b
    by_list true basic off on = unasked off (same_listed (t.listed on) (u.listed on))
    by_list false basic off none = unasked off (t.placeless basic off none ∙ sym (u.placeless basic off none))

    one_by : (basic signing : Bool) → policy.basic ≡ basic → policy.signing ≡ signing → a ≡ b
    one_by true true basic on = vouched_once judge policy f a b (t.signing on) (u.signing on)
    one_by false true basic on = vouched_once judge policy f a b (t.signing on) (u.signing on)
    one_by true false basic off = unasked off (same_places (t.basic basic) (u.basic basic))
    one_by false false basic off = by_list policy.against_list basic off refl

    pub one_trusted : a ≡ b
    one_trusted = one_by policy.basic policy.signing refl refl

  -- ---- refusals

  shape_asked : (b : Bool) (e : AuthenticodeError) → IsFirstBroken (asked b (shape_rules f given)) e → IsFirstBroken (asked b (basic_rules judge f given)) e
  shape_asked true e broken = shape_in_basic f given judge e broken
  shape_asked false e broken = absurd broken

  pub shape_in_policy : (e : AuthenticodeError) → IsFirstBroken (asked policy.basic (shape_rules f given)) e → IsFirstBroken (policy_rules judge policy f) e
  shape_in_policy e broken = broken_before first_rules later_rules e (shape_asked policy.basic e broken)

  pub basic_refuses : (e : AuthenticodeError) → RefusesAuthenticodeBy first_rules e → RefusesAuthenticodeBy (policy_rules judge policy f) e
  basic_refuses e (inl broken) = inl (broken_before first_rules later_rules e broken)
  basic_refuses e (inr memory) = inr memory

  place_met : (b : Bool) (returned : Option ℕ) → IsPlaceAsked b judge given f returned → AreMet (asked b (basic_rules judge f given))
  place_met true returned at = basic_met f given judge at.0 at.1
  place_met false returned none = tt

  -- the index that basic validation reports is that of the signer's certificate
  pub place_is_signers : (b : Bool) (returned : Option ℕ) → IsPlaceAsked b judge given f returned → IfSome returned (HasSignerAt f)
  place_is_signers true returned at =
      let s = at.1.2.signed in
      subst (λ (t : Option ℕ). IfSome t (HasSignerAt f)) (sym at.2) (s.certificate, (s.bag, s.is_bag, s.is_signer))
  place_is_signers false returned none = subst (λ (t : Option ℕ). IfSome t (HasSignerAt f)) (sym none) tt

  -- ---- acceptance

  placed : (b : Bool) (returned : Option ℕ) (a : Accepted) → IsPlaceAsked b judge given f returned → b ≡ true
      → ((place : ℕ) → IsVouchedAt judge given f place → returned ≡ Some place → a.signer ≡ Some place) → IsBasicallyVouched judge given f a
  placed true returned a at on signer = record { hash = at.1.0; given = at.1.1; place = at.0; vouches = at.1.2; place_is = signer at.0 at.1 at.2 }
  placed false returned a at on signer = absurd (cc on)

  same_signer : (a : Accepted) → (v : IsSignerVouched judge policy f a) → (place : ℕ) → IsVouchedAt judge given f place → a.signer ≡ Some place
  same_signer a v place at =
      let s = at.2.signed in
      v.place_is ∙ ap Some (signer_once f v.bag s.bag v.place place v.signer.elements s.certificate v.is.is_bag s.is_bag v.is.is_signer s.is_signer).0

  unplaced : (b : Bool) (returned : Option ℕ) → IsPlaceAsked b judge given f returned → b ≡ false → returned ≡ None
  unplaced true returned at off = absurd (cc off)
  unplaced false returned none off = none

  abbrev accepted_with : Option ℕ → List ℕ → Accepted
  accepted_with returned path = record { signer = returned; path = path; excuse = excuses.None }

  -- ---- if the signer's certificate is checked, and if it isn't

  pub signer_on : (b : Bool) (returned : Option ℕ) (r : Result Accepted AuthenticodeError) → b ≡ true
      → MatchResult r (IsSignerVouched judge policy f) (RefusesAuthenticodeBy (signer_rules judge policy f))
      → MatchResult r (IsSignerAsked b judge policy f returned) (RefusesAuthenticodeBy (asked b (signer_rules judge policy f)))
  signer_on true returned r on answer = answer
  signer_on false returned r on answer = absurd cc

  pub signer_off : (b : Bool) (returned : Option ℕ) (path : List ℕ) → b ≡ false → path ≡ []
      → IsSignerAsked b judge policy f returned (accepted_with returned path)
  signer_off true returned path off empty = absurd cc
  signer_off false returned path off empty = (refl, empty, refl)

  signer_part_met : (b : Bool) (returned : Option ℕ) (a : Accepted) → IsSignerAsked b judge policy f returned a → AreMet (asked b (signer_rules judge policy f))
  signer_part_met true returned a v = signer_met judge policy f a v
  signer_part_met false returned a v = tt

  -- the reported index is that of the signer's certificate
  pub returned_is_signers : (b : Bool) (returned : Option ℕ) (a : Accepted) → IsSignerAsked b judge policy f returned a → IfSome returned (HasSignerAt f)
      → IfSome a.signer (HasSignerAt f)
  returned_is_signers true returned a v has =
      subst (λ (t : Option ℕ). IfSome t (HasSignerAt f)) (sym v.place_is) (v.signer.elements, (v.bag, v.is.is_bag, v.is.is_signer))
  returned_is_signers false returned a v has = subst (λ (t : Option ℕ). IfSome t (HasSignerAt f)) (sym v.0) has

  pub signer_refuses : (returned : Option ℕ) → IsPlaceAsked policy.basic judge given f returned → (e : AuthenticodeError) → RefusesAuthenticodeBy signer_part e
      → RefusesAuthenticodeBy (policy_rules judge policy f) e
  signer_refuses returned at e (inl broken) =
      inl (broken_behind first_rules later_rules e (place_met policy.basic returned at) (broken_before signer_part ca_part e broken))
  signer_refuses returned at e (inr memory) = inr memory

  module _ (returned : Option ℕ) (a : Accepted) where
    returned_there : (b : Bool) → IsSignerAsked b judge policy f returned a → (place : ℕ) → IsVouchedAt judge given f place → returned ≡ Some place
        → a.signer ≡ Some place
    returned_there true v place vouched is = same_signer a v place vouched
    returned_there false v place vouched is = v.0 ∙ is

    vouched_on : (b : Bool) → IsSignerAsked b judge policy f returned a → b ≡ true → IsSignerVouched judge policy f a
    vouched_on true v on = v
    vouched_on false v on = absurd cc

    pathless_off : (b : Bool) → IsSignerAsked b judge policy f returned a → b ≡ false → (a.path ≡ []) × (a.excuse ≡ excuses.None)
    pathless_off true v off = absurd cc
    pathless_off false v off = (v.1, v.2)

    placeless_off : (b : Bool) → IsSignerAsked b judge policy f returned a → returned ≡ None → b ≡ false → a.signer ≡ None
    placeless_off true v none off = absurd cc
    placeless_off false v none off = v.0 ∙ none

    module _ (at : IsPlaceAsked policy.basic judge given f returned) where
      module _ (v : IsSignerAsked policy.signing judge policy f returned a) where
        -- ---- if its CA isn't checked

        pub without_list : policy.against_list ≡ false → IsTrusted judge policy f a
        without_list off = record {
          basic = λ on. placed policy.basic returned a at on (returned_there policy.signing v);
          signing = λ on. vouched_on policy.signing v on;
          listed = λ on. absurd (on_or_off policy.against_list on off);
          pathless = λ none. pathless_off policy.signing v none;
          placeless = λ basic signing none. placeless_off policy.signing v (unplaced policy.basic returned at basic) signing;
        }

        -- ---- and if it is

        pub ca_refuses : (e : AuthenticodeError) → policy.against_list ≡ true → RefusesAuthenticodeBy (ca_rules policy f) e
            → RefusesAuthenticodeBy (policy_rules judge policy f) e
        ca_refuses e on (inl broken) =
            inl (broken_behind first_rules later_rules e (place_met policy.basic returned at)
            (behind_asked policy.against_list signer_part (ca_rules policy f) e on (signer_part_met policy.signing returned a v) broken))
        ca_refuses e on (inr memory) = inr memory

        module _ (place : ℕ) (at_list : IsListedAt policy f place) (on : policy.against_list ≡ true) where
          abbrev there : HasSignerAt f place
          there = at_list.0

          same_as : (other : ℕ) → IsVouchedAt judge given f other → place ≡ other
          same_as other vouched =
              let s = vouched.2.signed in
              (signer_once f there.1.0 s.bag place other there.0 s.certificate there.1.1 s.is_bag there.1.2 s.is_signer).0

          vouched_there : IsSignerVouched judge policy f a → IsSignerVouched judge policy f (at_place a place)
          vouched_there w = record {
            bag = w.bag;
            place = w.place;
            signer = w.signer;
            is = w.is;
            place_is = ap Some (signer_once f there.1.0 w.bag place w.place there.0 w.signer.elements there.1.1 w.is.is_bag there.1.2 w.is.is_signer).0;
            dated = w.dated;
            valid = w.valid;
          }

          pub with_list : IsTrusted judge policy f (at_place a place)
          with_list = record {
            basic = λ basic. placed policy.basic returned (at_place a place) at basic (λ other vouched is. ap Some (same_as other vouched));
            signing = λ signing. vouched_there (vouched_on policy.signing v signing);
            listed = λ list. record {
              bag = there.1.0;
              is_bag = there.1.1;
              place = place;
              certificate = there.0;
              is_signer = there.1.2;
              place_is = refl;
              listed = at_list.1;
            };
            pathless = λ none. pathless_off policy.signing v none;
            placeless = λ basic signing none. absurd (on_or_off policy.against_list on none);
          }

  -- ---- with and without basic validation

  pub unasked_place : (b : Bool) → b ≡ false → IsPlaceAsked b judge given f None
  unasked_place true off = absurd cc
  unasked_place false off = refl

  pub unasked_shape : (b : Bool) (e : AuthenticodeError) → b ≡ false → IsFirstBroken (asked b (shape_rules f given)) e → ⊥
  unasked_shape true e off broken = absurd cc
  unasked_shape false e off broken = broken

  pub asked_place : (b : Bool) (place : ℕ) → b ≡ true → IsVouchedAt judge given f place → IsPlaceAsked b judge given f (Some place)
  asked_place true place on at = (place, at, refl)
  asked_place false place on at = absurd cc

  pub asked_refusal : (b : Bool) (e : AuthenticodeError) → b ≡ true → RefusesAuthenticodeBy (basic_rules judge f given) e
      → RefusesAuthenticodeBy (asked b (basic_rules judge f given)) e
  asked_refusal true e on refuses = refuses
  asked_refusal false e on refuses = absurd cc

  pub asked_shape : (b : Bool) (e : AuthenticodeError) → b ≡ true → IsFirstBroken (asked b (shape_rules f given)) e → IsFirstBroken (shape_rules f given) e
  asked_shape true e on broken = broken
  asked_shape false e on broken = absurd broken

-- the refusals of one result are the same error
pub returned_same : {A : Type 0} (r : Result A AuthenticodeError) (d e : AuthenticodeError) → r ≡ Err d → r ≡ Err e → d ≡ e
returned_same r d e p q =
    let same = sym p ∙ q in
    cc
