-- What is known about a certificate is known about an equal one.
use Rattle.std.proofs.Common.{◌≡◌, List, map, subst}
use Rattle.std.specs.Borrow.{Bor}
use Rattle.std.specs.Prelude.{Option}
use Rattle.std.specs.Iterator.{Yields}
use Rattle.der_core.specs.Rules.{OrMemory}
use Rattle.key_core.specs.Verifying.{Judge}
use Rattle.x509_core.specs.CertType.{IsOfType}
use Rattle.x509_core.specs.Chain.{IsLinkedChain, IsFirstUnlinked, last_of, lent}
use Rattle.x509_core.specs.OwnedCertificate.{KeptCertificate}
use Rattle.x509_core.specs.Window.{IsWithinWindow}
use Rattle.x509_core.specs.declared.cert_type.CertType.{CertType}
use Rattle.x509_core.specs.declared.error.CertError.{CertError}
use Rattle.x509_core.specs.declared.error.CertError.TheVariants as errors
use Rattle.x509_core.specs.declared.window.Window.{Window}

pub same_valid : (w : Window) (a b : KeptCertificate) → a ≡ b → IsWithinWindow w a.elements → IsWithinWindow w b.elements
same_valid w a b same valid = subst (λ (kept : KeptCertificate). IsWithinWindow w kept.elements) same valid

-- the refusal of a parent, or out of memory, for these certificates from the iterator
abbrev IsRefusal : {S : Type 0} → Judge → (S → Option (Bor KeptCertificate) → S → Type 0) → Window → S → CertError → KeptCertificate → Type 0
IsRefusal {S} judge steps w chain e checked =
    OrMemory errors.Memory (λ (e : CertError). (xs : List (Bor KeptCertificate)) × (rest : S) × Yields steps chain xs rest
    × IsFirstUnlinked judge w checked (map lent xs) e) e

pub same_refusal : {S : Type 0} (judge : Judge) (steps : S → Option (Bor KeptCertificate) → S → Type 0) (w : Window) (a b : KeptCertificate) (chain : S)
    (e : CertError) → a ≡ b
    → IsRefusal judge steps w chain e a → IsRefusal judge steps w chain e b
same_refusal judge steps w a b chain e same refused = subst (IsRefusal judge steps w chain e) same refused

pub same_chain : (judge : Judge) (w : Window) (a b : KeptCertificate) (xs : List (Bor KeptCertificate)) → a ≡ b → IsLinkedChain judge w a (map lent xs)
    → IsLinkedChain judge w b (map lent xs)
same_chain judge w a b xs same linked = subst (λ (kept : KeptCertificate). IsLinkedChain judge w kept (map lent xs)) same linked

pub same_kind : (a b : KeptCertificate) (xs : List (Bor KeptCertificate)) (last : CertType) → a ≡ b → IsOfType (last_of a (map lent xs)).elements last
    → IsOfType (last_of b (map lent xs)).elements last
same_kind a b xs last same is = subst (λ (kept : KeptCertificate). IsOfType (last_of kept (map lent xs)).elements last) same is
