-- The first extension with an OID among elements is the first among the values that they encode.
use Rattle.std.proofs.Common.{◌≡◌, ℕ, List, [], ◌∷◌, ◌++◌, Option, Some, None, refl, sym, ap, subst, ◌∙◌}
use Rattle.der_core.specs.DerElement.{DerElement, Primitive}
use Rattle.der_core.specs.Each.{AreEach}
use Rattle.der_core.specs.Facts.Rows.{listed-row}
use Rattle.asn1_types.specs.Values.{identifier_contents}
use Rattle.asn1_types.specs.Elements.{object_identifier}
use Rattle.x509_types.specs.ExtensionFields.{IsExtensionOf}
use Rattle.x509_types.specs.ExtensionView.{IsValueIn}
use Rattle.x509_types.specs.Extension.{IsExtension}
use Rattle.x509_types.specs.TbsCertificate.{IsExtensions}
use Rattle.der_core.specs.Optional.{SpellsOption, members_of}
use Rattle.x509_types.specs.FirstExtension.{IsNamed, NoneIsNamed, IsFirstNamed}
use Rattle.x509_types.specs.FirstOfValue.{extensions_in, NoneHas, IsFirstWith, HoldFirst}
use Rattle.x509_types.specs.Facts.Extensions.{fields_once}
use Rattle.x509_types.specs.declared.extension.Extension.{Extension}

same_contents : (x y : List ℕ) → Primitive 0x06 x ≡ Primitive 0x06 y → x ≡ y
same_contents x y e = cc

-- an element that encodes an extension has its OID
is_named : (oid : List ℕ) (element : DerElement) (e : Extension) (is : IsExtension element e) → identifier_contents e.extn_id ≡ oid
    → IsNamed oid element is.octets
is_named oid element e is same = (e.critical, subst (λ (o : List ℕ). IsExtensionOf element (Primitive 0x06 o) e.critical is.octets) same is.fields)

-- and no other, with no other octets
same_named : (oid : List ℕ) (element : DerElement) (e : Extension) (octets : List ℕ) (is : IsExtension element e) → IsNamed oid element octets
    → (identifier_contents e.extn_id ≡ oid) × (is.octets ≡ octets)
same_named oid element e octets is named =
    let fields = fields_once element (object_identifier e.extn_id) (Primitive 0x06 oid) e.critical named.0 is.octets octets is.fields named.1 in
    (same_contents (identifier_contents e.extn_id) oid fields.0, fields.2)

had_in : (oid : List ℕ) (before : List DerElement) (x : DerElement) (after : List DerElement) (octets : List ℕ) (extensions : List Extension)
    → AreEach IsExtension (before ++ x ∷ after) extensions → NoneIsNamed oid before → IsNamed oid x octets → HoldFirst oid extensions octets
had_in oid [] x after octets [] each first named = absurd each
had_in oid [] x after octets (e ∷ extensions) each first named =
    let same = same_named oid x e octets each.0 named in
    record {
      extension = e;
      first = record { before = []; after = extensions; are = refl; first = tt; named = same.0 };
      value = subst (λ (o : List ℕ). IsValueIn o e.extn_value) same.1 each.0.value;
    }
had_in oid (k ∷ before) x after octets [] each first named = absurd each
had_in oid (k ∷ before) x after octets (e ∷ extensions) each first named =
    let rest = had_in oid before x after octets extensions each.1 first.1 named in
    record {
      extension = rest.extension;
      first = record {
        before = e ∷ rest.first.before;
        after = rest.first.after;
        are = ap (λ (es : List Extension). e ∷ es) rest.first.are;
        first = (λ same. first.0 each.0.octets (is_named oid k e each.0 same), rest.first.first);
        named = rest.first.named;
      };
      value = rest.value;
    }

lies_in : (oid : List ℕ) (elements : List DerElement) (before : List Extension) (e : Extension) (after : List Extension)
    → AreEach IsExtension elements (before ++ e ∷ after) → NoneHas oid before → identifier_contents e.extn_id ≡ oid
    → (octets : List ℕ) × IsFirstNamed oid elements octets × IsValueIn octets e.extn_value
lies_in oid [] [] e after each first named = absurd each
lies_in oid [] (b ∷ before) e after each first named = absurd each
lies_in oid (k ∷ elements) [] e after each first named = (
  each.0.octets,
  record { before = []; extension = k; after = elements; are = refl; first = tt; named = is_named oid k e each.0 named },
  each.0.value,
)
lies_in oid (k ∷ elements) (b ∷ before) e after each first named =
    let rest = lies_in oid elements before e after each.1 first.1 named in (
      rest.0,
      record {
        before = k ∷ rest.1.before;
        extension = rest.1.extension;
        after = rest.1.after;
        are = ap (λ (ks : List DerElement). k ∷ ks) rest.1.are;
        first = (λ octets is. first.0 (same_named oid k b octets each.0 is).0, rest.1.first);
        named = rest.1.named;
      },
      rest.2,
    )

-- the elements in the list encode the extensions
pub listed_each : (given : Option DerElement) (extensions : Option (List Extension)) → SpellsOption IsExtensions given extensions
    → AreEach IsExtension (members_of given) (extensions_in extensions)
listed_each None None is = tt
listed_each None (Some extensions) is = absurd is
listed_each (Some element) None is = absurd is
listed_each (Some element) (Some extensions) is =
    subst (λ (ks : List DerElement). AreEach IsExtension ks extensions)
    (sym (ap (λ (e : DerElement). members_of (Some e)) is.holds ∙ listed-row is.kids)) is.each

pub had : (oid : List ℕ) (elements : List DerElement) (extensions : List Extension) (octets : List ℕ) → AreEach IsExtension elements extensions
    → IsFirstNamed oid elements octets → HoldFirst oid extensions octets
had oid elements extensions octets each f =
    had_in oid f.before f.extension f.after octets extensions (subst (λ (ks : List DerElement). AreEach IsExtension ks extensions) f.are each) f.first f.named

pub lies : (oid : List ℕ) (elements : List DerElement) (extensions : List Extension) (e : Extension) → AreEach IsExtension elements extensions
    → IsFirstWith oid extensions e
    → (octets : List ℕ) × IsFirstNamed oid elements octets × IsValueIn octets e.extn_value
lies oid elements extensions e each f = lies_in oid elements f.before e f.after (subst (AreEach IsExtension elements) f.are each) f.first f.named
