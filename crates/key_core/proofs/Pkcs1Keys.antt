-- What is written of an RSA key that was read.
use Rattle.std.proofs.Common.{◌≡◌, ℕ, List, sym, ◌∙◌, ap, subst}
use Rattle.der_core.specs.Encoding.{encoding}
use Rattle.key_types.specs.declared.key_info.SubjectPublicKeyInfo.{SubjectPublicKeyInfo}
use Rattle.key_core.specs.Pkcs1.{IsPkcs1Key, IsPkcs1Of}
use Rattle.key_core.specs.PrivatePkcs1.{IsPrivatePkcs1, IsPkcs1OfPrivate}
use Rattle.key_core.specs.declared.private_key.PrivateKey.{PrivateKey}

pub comes_back : (read written : List ℕ) (info : SubjectPublicKeyInfo) → IsPkcs1Key read info → IsPkcs1Of info.subject_public_key written → written ≡ read
comes_back read written info is of =
    let same = subst (λ key. IsPkcs1Of key written) is.rsa.is of in
    same.0 ∙ sym (is.within.encoded ∙ ap encoding is.within.spelled)

pub private_comes_back : (read written : List ℕ) (key : PrivateKey) → IsPrivatePkcs1 read key → IsPkcs1OfPrivate key.info.private_key written → written ≡ read
private_comes_back read written key is of =
    let same = subst (λ value. IsPkcs1OfPrivate value written) is.container.is of in
    same.0 ∙ sym (is.within.encoded ∙ ap encoding is.within.spelled)
