-- RSA private keys by their fields.
use Rattle.std.proofs.Common.{◌≡◌, sym, ◌∙◌}
use Rattle.der_core.specs.DerElement.{DerElement}
use Rattle.asn1_types.specs.Elements.{integer}
use Rattle.key_types.specs.RsaPrivateKey.{rsa_private_key_of, rsa_private_key}
use Rattle.key_types.specs.declared.rsa_private_key.RsaPrivateKey.{RsaPrivateKey}

-- The elements are those of the numbers of a key.
pub record AreNumbersOf (key : RsaPrivateKey) (n e d p q dp dq qinv : DerElement) : Type 0 where
  pub public : (n ≡ integer key.n) × (e ≡ integer key.e)
  pub first : (d ≡ integer key.d) × (p ≡ integer key.p)
  pub second : (q ≡ integer key.q) × (dp ≡ integer key.dp)
  pub third : (dq ≡ integer key.dq) × (qinv ≡ integer key.qinv)

-- the fields of the element of a key are its numbers
pub numbers_of : (t n e d p q dp dq qinv : DerElement)
    → t ≡ rsa_private_key_of (record { n = n; e = e; d = d; p = p; q = q; dp = dp; dq = dq; qinv = qinv })
    → (key : RsaPrivateKey) → t ≡ rsa_private_key key
    → AreNumbersOf key n e d p q dp dq qinv
numbers_of t n e d p q dp dq qinv is key spells =
    let same : rsa_private_key_of (record { n = n; e = e; d = d; p = p; q = q; dp = dp; dq = dq; qinv = qinv }) ≡ rsa_private_key key = sym is ∙ spells in
    record { public = (cc, cc); first = (cc, cc); second = (cc, cc); third = (cc, cc) }
