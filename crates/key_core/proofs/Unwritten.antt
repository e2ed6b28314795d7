-- Elements that can't be written, on their own.
use Rattle.std.proofs.Common.{◌≡◌, ◌≢◌, List, [], ◌∷◌, ◌++◌, refl, subst, arith}
use Rattle.der_core.specs.DerElement.{DerElement}
use Rattle.der_core.specs.Encoding.{IsDer}
use Rattle.der_core.specs.Refusals.{RefusesInner, IsFirstUnwritable}
use Rattle.der_core.specs.Writing.{RefusesToWrite}
use Rattle.der_core.specs.declared.error.DerError.{DerError}
use Rattle.der_core.specs.declared.error.DerError.TheVariants as der
use Rattle.key_core.specs.KeyRefusals.{CantBeWritten}

-- an element within limits is refused only when out of memory
pub written : (t : DerElement) (e : DerError) → IsDer t → CantBeWritten t e → ⊥
written t (der.Malformed m) bounds refuses = refuses.cause
written t der.Shape bounds refuses = refuses.cause
written t der.TooDeep bounds refuses = omega (arith, refuses.cause, bounds.nested)
written t der.TooLong bounds refuses = refuses.cause.1 bounds.short
written t der.Memory bounds refuses = refuses.not_memory refl

pub one_source : (t : DerElement) (a b : DerError) → CantBeWritten t a → CantBeWritten t b → a ≡ b
one_source t (der.Malformed m) b x y = absurd x.cause
one_source t der.Shape b x y = absurd x.cause
one_source t der.Memory b x y = absurd (x.not_memory refl)
one_source t a (der.Malformed m) x y = absurd y.cause
one_source t a der.Shape x y = absurd y.cause
one_source t a der.Memory x y = absurd (y.not_memory refl)
one_source t der.TooDeep der.TooDeep x y = refl
one_source t der.TooDeep der.TooLong x y = absurd (omega (arith, x.cause, y.cause.0))
one_source t der.TooLong der.TooDeep x y = absurd (omega (arith, x.cause.0, y.cause))
one_source t der.TooLong der.TooLong x y = refl

no_tail : (t x y : DerElement) (xs : List DerElement) → t ∷ [] ≡ x ∷ y ∷ xs → ⊥
no_tail t x y xs e = cc

same_head : (t x : DerElement) (xs : List DerElement) → t ∷ [] ≡ x ∷ xs → x ≡ t
same_head t x xs e = cc

-- of one element, that one is the first that can't be written
first_is : (t : DerElement) (e : DerError) → IsFirstUnwritable (t ∷ []) e → RefusesToWrite t e
first_is t e ([], element, after, parts, der, refused) = subst (λ (x : DerElement). RefusesToWrite x e) (same_head t element after parts) refused
first_is t e (x ∷ [], element, after, parts, der, refused) = absurd (no_tail t x element after parts)
first_is t e (x ∷ y ∷ before, element, after, parts, der, refused) = absurd (no_tail t x y (before ++ element ∷ after) parts)

refuses_one : (t : DerElement) (e : DerError) → RefusesInner (t ∷ []) e → RefusesToWrite t e
refuses_one t (der.Malformed m) refused = refused
refuses_one t der.Shape refused = refused
refuses_one t der.TooDeep refused = first_is t der.TooDeep refused
refuses_one t der.TooLong refused = first_is t der.TooLong refused
refuses_one t der.Memory refused = tt

pub alone : (t : DerElement) (e : DerError) → e ≢ der.Memory → RefusesInner (t ∷ []) e → CantBeWritten t e
alone t e memory refused = record { cause = refuses_one t e refused; not_memory = memory }

none_among : (before : List DerElement) (element : DerElement) (after : List DerElement) → [] ≡ before ++ element ∷ after → ⊥
none_among [] element after e = absurd cc
none_among (x ∷ before) element after e = absurd cc

-- without inner elements, the only cause is out of memory
pub nothing_refuses : (inner : List DerElement) (e : DerError) → RefusesInner [] e → RefusesInner inner e
nothing_refuses inner (der.Malformed m) refused = absurd refused
nothing_refuses inner der.Shape refused = absurd refused
nothing_refuses inner der.TooDeep refused = absurd (none_among refused.0 refused.1 refused.2 refused.3)
nothing_refuses inner der.TooLong refused = absurd (none_among refused.0 refused.1 refused.2 refused.3)
nothing_refuses inner der.Memory refused = tt
