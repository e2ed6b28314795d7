-- The trust list of a policy, if there is one.
use Rattle.std.proofs.Common.{◌≡◌, Option, Some, None, sym, ap, ◌∙◌}
use Rattle.std.specs.Borrow.{Bor}
use Rattle.std.specs.Option.{option_copied}
use Rattle.authenticode_core.specs.declared.ctl.CertificateTrustList.{CertificateTrustList}

one_given : (a b : CertificateTrustList) → Some a ≡ Some b → a ≡ b
one_given a b e = cc

pub given_once : (o : Option CertificateTrustList) (a b : CertificateTrustList) → o ≡ Some a → o ≡ Some b → a ≡ b
given_once o a b p q = one_given a b (sym p ∙ q)

pub none_given : (o : Option CertificateTrustList) (a : CertificateTrustList) → o ≡ None → o ≡ Some a → ⊥
none_given o a none some = absurd (cc (none, some))

-- as a policy borrows it
pub lent : (o : Option (Bor CertificateTrustList)) (list : Bor CertificateTrustList) → o ≡ Some list → option_copied o ≡ Some list.now
lent o list is = ap option_copied is

pub none_lent : (o : Option (Bor CertificateTrustList)) → o ≡ None → option_copied o ≡ None
none_lent o is = ap option_copied is
