-- Private keys in octets, by kind.
use Rattle.std.proofs.Common.{◌≡◌, ℕ, List, refl, sym, ap, subst, ◌∙◌}
use Rattle.der_core.specs.DerElement.{DerElement}
use Rattle.der_core.specs.Elements.{octet_string}
use Rattle.der_core.specs.Encoding.{encoding, IsDer}
use Rattle.der_core.specs.Structure.{IsWithin}
use Rattle.key_types.specs.declared.key_kind.KeyKind.{KeyKind}
use Rattle.key_types.specs.declared.key_kind.KeyKind.TheVariants as kinds
use Rattle.key_types.specs.RsaPrivateKey.{rsa_private_key}
use Rattle.key_types.specs.ECPrivateKey.{ec_private_key}
use Rattle.key_types.specs.declared.rsa_private_key.RsaPrivateKey.{RsaPrivateKey}
use Rattle.key_types.specs.declared.ec_private_key.ECPrivateKey.{ECPrivateKey}
use Rattle.key_core.specs.PrivateKeyValue.{IsPrivateKeyOf}
use Rattle.key_core.specs.declared.private_key_value.PrivateKeyValue.{PrivateKeyValue}
use Rattle.key_core.specs.declared.private_key_value.PrivateKeyValue.TheVariants as values

abbrev Holds : {X : Type 0} → (X → DerElement) → List ℕ → X → Type 0
Holds {X} written octets value = IsWithin (λ (element : DerElement) (x : X). element ≡ written x) octets value

pub rsa_of : (kind : KeyKind) (octets : List ℕ) → kind ≡ kinds.Rsa → (key : RsaPrivateKey) → Holds rsa_private_key octets key
    → IsPrivateKeyOf kind octets (values.Rsa key)
rsa_of kind octets is key within = record {
  of_kind = sym is;
  encoded = within.encoded ∙ ap encoding within.spelled;
  der = subst IsDer within.spelled within.der;
}

pub ec_of : (kind : KeyKind) (octets : List ℕ) → kind ≡ kinds.Ec → (key : ECPrivateKey) → Holds ec_private_key octets key
    → IsPrivateKeyOf kind octets (values.Ec key)
ec_of kind octets is key within = record {
  of_kind = sym is;
  encoded = within.encoded ∙ ap encoding within.spelled;
  der = subst IsDer within.spelled within.der;
}

pub ed_of : (kind : KeyKind) (octets : List ℕ) → kind ≡ kinds.Ed → (key : List ℕ) → Holds octet_string octets key → IsPrivateKeyOf kind octets (values.Ed key)
ed_of kind octets is key within = record {
  of_kind = sym is;
  encoded = within.encoded ∙ ap encoding within.spelled;
  der = subst IsDer within.spelled within.der;
}

pub of_rsa : (kind : KeyKind) (octets : List ℕ) → kind ≡ kinds.Rsa → (key : PrivateKeyValue) → IsPrivateKeyOf kind octets key
    → (k : RsaPrivateKey) × Holds rsa_private_key octets k
of_rsa kind octets is (values.Rsa k) of = (k, record { element = rsa_private_key k; der = of.der; encoded = of.encoded; spelled = refl })
of_rsa kind octets is (values.Ec k) of = absurd cc (of.of_kind, is)
of_rsa kind octets is (values.Ed k) of = absurd cc (of.of_kind, is)

pub of_ec : (kind : KeyKind) (octets : List ℕ) → kind ≡ kinds.Ec → (key : PrivateKeyValue) → IsPrivateKeyOf kind octets key
    → (k : ECPrivateKey) × Holds ec_private_key octets k
of_ec kind octets is (values.Rsa k) of = absurd cc (of.of_kind, is)
of_ec kind octets is (values.Ec k) of = (k, record { element = ec_private_key k; der = of.der; encoded = of.encoded; spelled = refl })
of_ec kind octets is (values.Ed k) of = absurd cc (of.of_kind, is)

pub of_ed : (kind : KeyKind) (octets : List ℕ) → kind ≡ kinds.Ed → (key : PrivateKeyValue) → IsPrivateKeyOf kind octets key
    → (k : List ℕ) × Holds octet_string octets k
of_ed kind octets is (values.Rsa k) of = absurd cc (of.of_kind, is)
of_ed kind octets is (values.Ec k) of = absurd cc (of.of_kind, is)
of_ed kind octets is (values.Ed k) of = (k, record { element = octet_string k; der = of.der; encoded = of.encoded; spelled = refl })

pub none_of_mldsa : (kind : KeyKind) (octets : List ℕ) → kind ≡ kinds.Mldsa → (key : PrivateKeyValue) → IsPrivateKeyOf kind octets key → ⊥
none_of_mldsa kind octets is (values.Rsa k) of = absurd cc (of.of_kind, is)
none_of_mldsa kind octets is (values.Ec k) of = absurd cc (of.of_kind, is)
none_of_mldsa kind octets is (values.Ed k) of = absurd cc (of.of_kind, is)
