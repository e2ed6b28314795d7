-- What is written of a private key that was read.
use Rattle.std.proofs.Common.{◌≡◌, ℕ, List, refl, sym, subst, ap, ◌∙◌}
use Rattle.der_core.specs.Encoding.{encoding}
use Rattle.der_core.specs.Facts.Fronts.{formed_encoding_once}
use Rattle.key_core.specs.DerivedKeys.{Derivation}
use Rattle.key_core.specs.Pkcs8.{IsKeptKey, KeepsItself, IsPkcs8Key}
use Rattle.key_core.specs.PrivateKeyInfo.{private_key_info}
use Rattle.key_core.specs.PrivatePkcs1.{IsPrivatePkcs1}
use Rattle.key_core.specs.Facts.PrivateKeyInfos.{infos_once, infos_formed}
use Rattle.key_core.specs.declared.private_key.PrivateKey.{PrivateKey}
use Rattle.key_core.specs.declared.private_key_info.PrivateKeyInfo.{PrivateKeyInfo}
use Rattle.key_core.specs.declared.private_key_value.PrivateKeyValue.{PrivateKeyValue}
use Rattle.key_core.specs.declared.private_key_value.PrivateKeyValue.TheVariants as values
use Rattle.key_core.proofs.OwnedKeys.{one_kept, kept_again}

pub comes_again : (derives : Derivation) (octets : List ℕ) (key again : PrivateKey) → KeepsItself derives key → octets ≡ encoding (private_key_info key.info)
    → IsPkcs8Key derives octets again → again ≡ key
comes_again derives octets key again own written is =
    let encoded : encoding (private_key_info is.info) ≡ encoding (private_key_info key.info) = ap encoding (sym is.within.spelled.0) ∙ sym is.within.encoded
    ∙ written in
    let info = infos_once is.info key.info
    (formed_encoding_once (private_key_info is.info) (private_key_info key.info) (infos_formed is.info) (infos_formed key.info) encoded) in
    let kept = subst (λ (i : PrivateKeyInfo). IsKeptKey derives i.private_key i again) info is.kept in
    one_kept derives key.info.private_key key.info again key kept own

pub of_pkcs8 : (derives : Derivation) (octets : List ℕ) (key : PrivateKey) → IsPkcs8Key derives octets key → KeepsItself derives key
of_pkcs8 derives octets key is = kept_again derives is.info.private_key is.info refl key is.kept

pub of_pkcs1 : (derives : Derivation) (octets : List ℕ) (key : PrivateKey) → IsPrivatePkcs1 octets key → KeepsItself derives key
of_pkcs1 derives octets key is = subst (λ (v : PrivateKeyValue). IsKeptKey derives v key.info key) (sym is.container.is) (refl, is.beside)
