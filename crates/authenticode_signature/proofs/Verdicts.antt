-- The result for the written octets is the result for the value, and there is no other.
use Rattle.std.proofs.Common.{◌≡◌, ◌≢◌, ℕ, List, [], ◌∷◌, Result, Ok, Err, MatchResult, inl, inr, refl, sym, ap, subst, ◌∙◌}
use Rattle.cms_types.specs.SignedDataElements.{SignedDataElements}
use Rattle.cms_types.specs.SignedView.{IsSignedView, data_elements}
use Rattle.cms_types.specs.declared.signed_data.view.SignedView.{SignedView}
use Rattle.der_core.specs.DerElement.{DerElement}
use Rattle.der_core.specs.Encoding.{IsDer}
use Rattle.der_core.specs.Facts.Owned.{one_kept}
use Rattle.der_core.specs.Owned.{IsKept}
use Rattle.der_core.specs.Refusals.{RefusesInner}
use Rattle.der_core.specs.Rules.{IsMet, IsFirstBroken, AreOneUnlessMemory}
use Rattle.der_core.specs.declared.error.DerError.{DerError}
use Rattle.der_core.specs.declared.error.DerError.TheVariants as der
use Rattle.der_core.proofs.RuleLists.{IsReturnedOnce, one_broken}
use Rattle.key_core.proofs.Unwritten.{alone, one_source, written as no_cause}
use Rattle.key_core.specs.Verifying.{Judge}
use Rattle.authenticode_core.proofs.FormFields.{fields_of_view, same_fields_of}
use Rattle.authenticode_core.proofs.PolicyOrder.{one_trusted, policy_returned, trusted_unbroken}
use Rattle.authenticode_core.specs.ContentRefusal.{of_der}
use Rattle.authenticode_core.specs.SigningRules.{RefusesAuthenticodeBy}
use Rattle.authenticode_core.specs.Trusted.{IsTrusted, asked, policy_rules, shape_rules}
use Rattle.authenticode_core.specs.declared.accepted.Accepted.{Accepted}
use Rattle.authenticode_core.specs.declared.error.AuthenticodeError.{AuthenticodeError}
use Rattle.authenticode_core.specs.declared.error.AuthenticodeError.TheVariants as errors
use Rattle.authenticode_core.specs.declared.policy.Policy.{Policy}
use Rattle.authenticode_signature.specs.Pkcs7.{fields_of, written}
use Rattle.authenticode_signature.specs.Validator.{HasNoEncoding, IsVerdict, kept_rules}
use Rattle.authenticode_signature.specs.declared.pkcs7.Pkcs7.{Pkcs7}

-- ---- the element and the fields of the octets are those of the value

-- the octets have a view
pub lies_there : (octets : List ℕ) (element : DerElement) (signed : Pkcs7) → IsKept octets element → IsKept octets (written signed) → element ≡ written signed
lies_there octets element signed there kept = one_kept octets element (written signed) there kept

module _ (octets : List ℕ) (element : DerElement) (view : SignedView) (signed : Pkcs7) (there : IsKept octets element) (is : IsSignedView element view)
    (kept : IsKept octets (written signed)) where
  same_fields : data_elements view ≡ fields_of signed
  same_fields =
      fields_of_view element view is
      ∙ same_fields_of is.value.signed_data signed.signed.signed_data (sym is.spelled ∙ lies_there octets element signed there kept)

  pub answered_of : (judge : Judge) (policy : Policy) (r : Result Accepted AuthenticodeError)
      → MatchResult r (IsTrusted judge policy (data_elements view)) (RefusesAuthenticodeBy (policy_rules judge policy (data_elements view)))
      → MatchResult r (IsTrusted judge policy (fields_of signed)) (RefusesAuthenticodeBy (policy_rules judge policy (fields_of signed)))
  answered_of judge policy r answer =
      subst (λ (f : SignedDataElements). MatchResult r (IsTrusted judge policy f) (RefusesAuthenticodeBy (policy_rules judge policy f))) same_fields answer

  pub broken_there : (policy : Policy) (e : AuthenticodeError) → IsFirstBroken (asked policy.basic (shape_rules (fields_of signed) policy.file_hash)) e
      → IsFirstBroken (asked policy.basic (shape_rules (data_elements view) policy.file_hash)) e
  broken_there policy e broken =
      subst (λ (f : SignedDataElements). IsFirstBroken (asked policy.basic (shape_rules f policy.file_hash)) e) (sym same_fields) broken

-- ---- results for the value

deep_is_returned : der.TooDeep ≢ der.Memory
deep_is_returned e = absurd cc

long_is_returned : der.TooLong ≢ der.Memory
long_is_returned e = absurd cc

module _ (judge : Judge) (policy : Policy) (element : DerElement) (f : SignedDataElements) where
  -- a value without an encoding is reported so
  pub unencodable : (e : DerError) → RefusesInner (element ∷ []) e → RefusesAuthenticodeBy (kept_rules judge policy element f) (of_der e)
  unencodable (der.Malformed m) refused = absurd refused
  unencodable der.Shape refused = absurd refused
  unencodable der.TooDeep refused = inl (inl (der.TooDeep, alone element der.TooDeep deep_is_returned refused, refl))
  unencodable der.TooLong refused = inl (inl (der.TooLong, alone element der.TooLong long_is_returned refused, refl))
  unencodable der.Memory refused = inr refl

  encodable : IsDer element → IsMet (HasNoEncoding element)
  encodable is e none = no_cause element none.0 is none.1

  -- the result of the steps is returned
  pub answered_behind : (r : Result Accepted AuthenticodeError) → IsDer element
      → MatchResult r (IsTrusted judge policy f) (RefusesAuthenticodeBy (policy_rules judge policy f)) → IsVerdict judge policy element f r
  answered_behind (Ok a) is trusted = (is, trusted)
  answered_behind (Err e) is (inl broken) = inl (inr (encodable is, broken))
  answered_behind (Err e) is (inr memory) = inr memory

  -- ---- there is one

  encoding_returned : IsReturnedOnce (HasNoEncoding element)
  encoding_returned a b p q = p.2 ∙ ap errors.Asn1DerError (one_source element p.0 q.0 p.1 q.1) ∙ sym q.2

  one_refusal : (a b : AuthenticodeError) → IsFirstBroken (kept_rules judge policy element f) a → IsFirstBroken (kept_rules judge policy element f) b → a ≡ b
  one_refusal a b p q = one_broken (kept_rules judge policy element f) (encoding_returned, policy_returned judge policy f) a b p q

  not_refused : (a : Accepted) (e : AuthenticodeError) → IsDer element → IsTrusted judge policy f a → IsFirstBroken (kept_rules judge policy element f) e → ⊥
  not_refused a e is trusted (inl none) = encodable is e none
  not_refused a e is trusted (inr broken) = trusted_unbroken judge policy f a e trusted broken.1

  pub one_verdict : (a b : Result Accepted AuthenticodeError) → IsVerdict judge policy element f a → IsVerdict judge policy element f b
      → AreOneUnlessMemory errors.Memory a b
  one_verdict (Ok a) (Ok b) p q = inl (ap Ok (one_trusted judge policy f a b p.1 q.1))
  one_verdict (Ok a) (Err e) p (inl broken) = absurd (not_refused a e p.0 p.1 broken)
  one_verdict (Err e) (Ok b) (inl broken) q = absurd (not_refused b e q.0 q.1 broken)
  one_verdict (Err e) (Err other) (inl p) (inl q) = inl (ap Err (one_refusal e other p q))
  one_verdict (Err e) b (inr memory) q = inr (inl (ap Err memory))
  one_verdict a (Err e) p (inr memory) = inr (inr (ap Err memory))
