-- A link but for its signature, rule by rule.
use Rattle.std.proofs.Common.{◌↔◌, Bool, IsTrue, true, false, ℕ, Result, Ok, Err, MatchResult, refl}
use Rattle.std.specs.Prelude.{is_ok}
use Rattle.std.proofs.lemmas.Bool.{false≢true}
use Rattle.key_core.specs.Verifying.{Judge}
use Rattle.x509_core.specs.Link.{IsDeepEnough, IsLink}
use Rattle.x509_core.specs.Parent.{AgreeByKey, AgreeByName}
use Rattle.x509_core.specs.Window.{IsWithinWindow}
use Rattle.x509_core.specs.declared.window.Window.{Window}
use Rattle.x509_types.specs.CertificateElements.{CertificateElements}
use Rattle.x509_types.specs.ExtensionParts.{HasCa}
use Rattle.trust_anchors.specs.Inside.Unsigned.{IsUnsignedLink}

-- a result is Ok exactly where a fact holds that no error goes with
pub ok_where : {X E : Type 0} (r : Result X E) (P : Type 0) (Q : E → Type 0) → ((e : E) → P → Q e → ⊥) → MatchResult r (λ _. P) Q → IsTrue (is_ok r) ↔ P
ok_where (Ok x) P Q never holds = (λ test. holds, λ p. refl)
ok_where (Err e) P Q never broken = (λ test. absurd (false≢true test), λ p. absurd (never e p broken))

-- where all other rules hold, the names decide
module _ (w : Window) (number : ℕ) (parent child : CertificateElements) where
  pub holds_by : (name : Bool) → HasCa parent true → IsDeepEnough number parent → IsWithinWindow w parent → AgreeByKey parent child
      → (IsTrue name ↔ AgreeByName parent child) → IsTrue name ↔ IsUnsignedLink w number parent child
  holds_by name authority depth valid key is =
      (λ on. record { authority = authority; depth = depth; valid = valid; key = key; name = is.0 on }, λ link. is.1 link.name)

-- a link is one but for its signature
pub unsigned_of : (judge : Judge) (w : Window) (number : ℕ) (parent child : CertificateElements) → IsLink judge w number parent child
    → IsUnsignedLink w number parent child
unsigned_of judge w number parent child link =
    record { authority = link.authority; depth = link.depth; valid = link.valid; key = link.agreed.key; name = link.agreed.name }
