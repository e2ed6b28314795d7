-- RSA private keys: different ones have different elements, each well formed.
use Rattle.std.proofs.Common.{◌≡◌, [], refl, arith}
use Rattle.der_core.specs.Structure.{IsGrammar}
use Rattle.der_core.specs.Facts.Grammars.{printed}
use Rattle.asn1_types.specs.Elements.{integer}
use Rattle.asn1_types.specs.Facts.Elements.{integers}
use Rattle.asn1_types.specs.declared.integer.IntegerAsn1.{IntegerAsn1}
use Rattle.key_types.specs.RsaPrivateKey.{rsa_private_key}
use Rattle.key_types.specs.declared.rsa_private_key.RsaPrivateKey.{RsaPrivateKey}

same_integer : (a b : IntegerAsn1) → integer a ≡ integer b → a ≡ b
same_integer a b same = integers.once (integer a) a b refl same

once : (a b : RsaPrivateKey) → rsa_private_key a ≡ rsa_private_key b → a ≡ b
once a b same =
    let n : a.n ≡ b.n = same_integer a.n b.n cc in
    let e : a.e ≡ b.e = same_integer a.e b.e cc in
    let d : a.d ≡ b.d = same_integer a.d b.d cc in
    let p : a.p ≡ b.p = same_integer a.p b.p cc in
    let q : a.q ≡ b.q = same_integer a.q b.q cc in
    let dp : a.dp ≡ b.dp = same_integer a.dp b.dp cc in
    let dq : a.dq ≡ b.dq = same_integer a.dq b.dq cc in
    let qinv : a.qinv ≡ b.qinv = same_integer a.qinv b.qinv cc in
    λ i. record {
      n = n i;
      e = e i;
      d = d i;
      p = p i;
      q = q i;
      dp = dp i;
      dq = dq i;
      qinv = qinv i;
    }

pub rsa_private_keys : IsGrammar (λ element key. element ≡ rsa_private_key key) rsa_private_key (λ key. [])
rsa_private_keys = printed rsa_private_key once (λ key. (
  (omega arith, omega arith, omega arith),
  refl,
  (
    ((omega arith, omega arith, omega arith), refl),
    (
      integers.formed key.n,
      (
        integers.formed key.e,
        (
          integers.formed key.d,
          (integers.formed key.p, (integers.formed key.q, (integers.formed key.dp, (integers.formed key.dq, (integers.formed key.qinv, tt))))),
        ),
      ),
    ),
  ),
))
