-- A certificate has at most one CA flag and at most one path length, and is of one type.
use Rattle.std.proofs.Common.{◌≡◌, ◌↔◌, IsTrue, ℕ, Bool, true, false, List, [], ◌∷◌, ◌++◌, refl, sym, ap, subst, ◌∙◌}
use Rattle.std.specs.Prelude.{not, ◌==◌}
use Rattle.std.proofs.lemmas.Bool.{false≢true}
use Rattle.der_core.specs.Default.{IsBoolean, IsDefaultFalse}
use Rattle.der_core.specs.DerElement.{DerElement, Primitive}
use Rattle.der_core.specs.Elements.{sequence}
use Rattle.asn1_types.specs.declared.oids.TheConstants.{CE_BASIC_CONSTRAINTS}
use Rattle.extension_types.specs.BasicConstraints.{small_integer}
use Rattle.extension_types.specs.Facts.Constraints.{integer_once}
use Rattle.x509_types.specs.CertificateElements.{CertificateElements}
use Rattle.x509_types.specs.ExtensionParts.{HasCa, HasPathLength}
use Rattle.x509_types.proofs.FirstExtensions.{value_once}
use Rattle.x509_core.specs.CertType.{IsOfType}
use Rattle.x509_core.specs.declared.cert_type.CertType.{CertType}
use Rattle.x509_core.specs.declared.cert_type.CertType.TheVariants as types
use Rattle.x509_core.proofs.KeyIds.{first_kid}

same_octet : (m n : ℕ) → Primitive 0x01 (m ∷ []) ≡ Primitive 0x01 (n ∷ []) → m ≡ n
same_octet m n e = cc

flag_once : (x y : DerElement) (a b : Bool) → x ≡ y → IsBoolean x a → IsBoolean y b → a ≡ b
flag_once x y a b same p q = p.2 ∙ ap (λ (n : ℕ). not (n == 0)) (same_octet p.0 q.0 (sym p.1 ∙ same ∙ q.1)) ∙ sym q.2

pub ca_once : (f : CertificateElements) (a b : Bool) → HasCa f a → HasCa f b → a ≡ b
ca_once f a b p q =
    let s = p.2 in
    let t = q.2 in
    flag_once s.kid t.kid a b (first_kid s.kid t.kid s.kids t.kids (sym s.is ∙ value_once f CE_BASIC_CONSTRAINTS.now p.0 q.0 p.1 q.1 ∙ t.is)) s.says t.says

one_kid : (m n : ℕ) → sequence (small_integer m ∷ []) ≡ sequence (small_integer n ∷ []) → small_integer m ≡ small_integer n
one_kid m n e = first_kid (small_integer m) (small_integer n) [] [] e

second_kid : (x y v w : DerElement) → sequence (x ∷ v ∷ []) ≡ sequence (y ∷ w ∷ []) → v ≡ w
second_kid x y v w e = cc

one_is_not_two : (x y z : DerElement) → sequence (x ∷ []) ≡ sequence (y ∷ z ∷ []) → ⊥
one_is_not_two x y z e = absurd cc

length_once : (k l : List DerElement) (a b : Bool) (m n : ℕ) → IsDefaultFalse k a → IsDefaultFalse l b
    → sequence (k ++ small_integer m ∷ []) ≡ sequence (l ++ small_integer n ∷ []) → m ≡ n
length_once [] [] a b m n p q e = integer_once m n (one_kid m n e)
length_once [] (y ∷ []) a b m n p q e = absurd (one_is_not_two (small_integer m) y (small_integer n) e)
length_once (x ∷ []) [] a b m n p q e = absurd (one_is_not_two (small_integer n) x (small_integer m) (sym e))
length_once (x ∷ []) (y ∷ []) a b m n p q e = integer_once m n (second_kid x y (small_integer m) (small_integer n) e)
length_once [] (y ∷ z ∷ l) a b m n p q e = absurd q
length_once (x ∷ []) (y ∷ z ∷ l) a b m n p q e = absurd q
length_once (x ∷ z ∷ k) l a b m n p q e = absurd p

pub path_length_once : (f : CertificateElements) (m n : ℕ) → HasPathLength f m → HasPathLength f n → m ≡ n
path_length_once f m n p q =
    let s = p.2 in
    let t = q.2 in
    length_once s.flag t.flag s.ca t.ca m n s.flagged t.flagged (sym s.is ∙ value_once f CE_BASIC_CONSTRAINTS.now p.0 q.0 p.1 q.1 ∙ t.is)

-- the flag that is read says whether the flag is true
pub flag_is : (f g : CertificateElements) (ca : Bool) → f ≡ g → HasCa f ca → IsTrue ca ↔ HasCa g true
flag_is f g ca same has = (
  λ t. subst (λ (x : CertificateElements). HasCa x true) same (subst (HasCa f) t has),
  λ there. ca_once g ca true (subst (λ (x : CertificateElements). HasCa x ca) same has) there,
)

pub no_flag : (f g : CertificateElements) → f ≡ g → ((b : Bool) → HasCa f b → ⊥) → IsTrue false ↔ HasCa g true
no_flag f g same none = (λ t. absurd (false≢true t), λ there. absurd (none true (subst (λ (x : CertificateElements). HasCa x true) (sym same) there)))

true_is_not_false : true ≡ false → ⊥
true_is_not_false e = cc

-- a root certificate is of no other type
pub one_type : (f : CertificateElements) (a : CertType) → IsOfType f a → IsOfType f types.Root → a ≡ types.Root
one_type f types.Root is root = refl
one_type f types.Intermediate is root = absurd (is.1 root.1)
one_type f types.Leaf is root = absurd (true_is_not_false (ca_once f true false root.0 is))
one_type f types.Unknown is root = absurd (is true root.0)
