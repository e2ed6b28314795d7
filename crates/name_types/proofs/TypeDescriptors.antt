-- The descriptors of attribute types, by the contents octets of their OIDs.
use Rattle.std.proofs.Common.{◌≡◌, ◌↔◌, ℕ, Bool, true, List, [], ◌∷◌, rules, refl, sym, ap, ◌∙◌, None}
use Rattle.std.specs.Prelude.{find, bytes_eq, if◌then◌else◌, codes}
use Rattle.std.proofs.lemmas.Bool.{false_from_ne_true}
use Rattle.std.proofs.lemmas.Slice.Eq.{bytes_eq-Decides}
use Rattle.asn1_types.specs.Subidentifier.{subidentifier}
use Rattle.asn1_types.specs.ObjectIdentifier.{IsArcs, IsIdentifier, contents_of, dotted}
use Rattle.name_types.specs.declared.name_attr.NameAttr.{NameAttr}
use Rattle.asn1_types.specs.declared.oids.TheConstants.{EMAIL_ADDRESS}
use Rattle.name_types.specs.NameAttr.{attribute_arcs, attribute_types, attribute_descriptor}
use Rattle.name_types.specs.NameText.{email_address, type_descriptor, descriptor_or_dotted}
use Rattle.name_types.proofs.AttributeTypes.{IsArcs-type, arcs_from_contents, attribute_type-arcs}

pub descriptor_of_type : (attr : NameAttr) (contents : List ℕ) (identifier : IsIdentifier contents)
    → contents_of (attribute_arcs attr) ≡ contents → type_descriptor identifier.arcs ≡ attribute_descriptor attr
descriptor_of_type attr contents identifier named =
    let arcs = arcs_from_contents contents (attribute_arcs attr) identifier (IsArcs-type attr) (sym named) in
    ap type_descriptor arcs ∙ ap (λ found. descriptor_or_dotted found (attribute_arcs attr)) (attribute_type-arcs attr)

-- nothing is found if nothing passes the test
find_none : {X : Type 0} (test : X → Bool) (xs : List X) → ((x : X) → test x ≡ true → ⊥) → find test xs ≡ None
find_none test [] fails = refl
find_none test (x ∷ xs) fails = rw (false_from_ne_true (test x) (fails x)) (find_none test xs fails)

pub descriptor_of_other : (contents : List ℕ) (identifier : IsIdentifier contents) → ((attr : NameAttr) → contents_of (attribute_arcs attr) ≡ contents → ⊥)
    → (identifier.arcs ≡ email_address → ⊥) → type_descriptor identifier.arcs ≡ dotted identifier.arcs
descriptor_of_other contents identifier other no_email =
    ap (λ found. descriptor_or_dotted found identifier.arcs)
    (find_none (λ attr. bytes_eq (attribute_arcs attr) identifier.arcs) attribute_types
    (λ attr same. other attr (ap contents_of ((bytes_eq-Decides (attribute_arcs attr) identifier.arcs).0 same) ∙ sym identifier.spelled)))
    ∙ ap (λ email. if email then codes "EMAIL" else dotted identifier.arcs)
    (false_from_ne_true (bytes_eq identifier.arcs email_address) (λ same. no_email ((bytes_eq-Decides identifier.arcs email_address).0 same)))

IsArcs-email : IsArcs email_address
IsArcs-email = search rules

contents_of-email : contents_of email_address ≡ EMAIL_ADDRESS.now
unfolding subidentifier
contents_of-email = refl

pub email_by_contents : (contents : List ℕ) (identifier : IsIdentifier contents) → (contents ≡ EMAIL_ADDRESS.now) ↔ (identifier.arcs ≡ email_address)
email_by_contents contents identifier = (
  λ same. arcs_from_contents contents email_address identifier IsArcs-email (same ∙ sym contents_of-email),
  λ same. identifier.spelled ∙ ap contents_of same ∙ contents_of-email,
)
