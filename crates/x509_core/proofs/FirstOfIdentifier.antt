-- The first extension with an OID: here, or later.
use Rattle.std.proofs.Common.{◌≡◌, ◌≢◌, ◌↔◌, IsTrue, Bool, false, ℕ, List, [], ◌∷◌, sym, ap, subst, ◌∙◌}
use Rattle.asn1_types.specs.Values.{identifier_contents}
use Rattle.x509_types.specs.FirstOfValue.{NoneHas, IsFirstWith}
use Rattle.x509_types.specs.declared.extension.Extension.{Extension}

pub here : (oid : List ℕ) (all others : List Extension) (e : Extension) → all ≡ e ∷ others → identifier_contents e.extn_id ≡ oid → IsFirstWith oid all e
here oid all others e are named = record { before = []; after = others; are = are; first = tt; named = named }

pub later : (oid : List ℕ) (all others : List Extension) (x e : Extension) → all ≡ x ∷ others → identifier_contents x.extn_id ≢ oid → IsFirstWith oid others e
    → IsFirstWith oid all e
later oid all others x e are other f = record {
  before = x ∷ f.before;
  after = f.after;
  are = are ∙ ap (λ (es : List Extension). x ∷ es) f.are;
  first = (other, f.first);
  named = f.named;
}

pub none_later : (oid : List ℕ) (all others : List Extension) (x : Extension) → all ≡ x ∷ others → identifier_contents x.extn_id ≢ oid → NoneHas oid others
    → NoneHas oid all
none_later oid all others x are other none = subst (λ (es : List Extension). NoneHas oid es) (sym are) (other, none)

-- a test that fails
pub unlike : (a b oid : List ℕ) (t : Bool) → a ≡ b → t ≡ false → (IsTrue t ↔ (b ≡ oid)) → a ≢ oid
unlike a b oid t same fails test = λ e. let yes : IsTrue false = subst IsTrue fails (test.1 (sym same ∙ e)) in absurd cc
