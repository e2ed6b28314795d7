-- The token of a signature: found, missing, and unique.
use Rattle.std.proofs.Common.{◌≡◌, ◌≢◌, List, [], ◌∷◌, Option, Some, None, MatchOption, refl, sym, ap, subst, ◌∙◌}
use Rattle.asn1_types.specs.declared.oids.TheConstants.{RFC3161_COUNTER_SIGN}
use Rattle.cms_types.specs.Pkcs7.{pkcs7}
use Rattle.cms_types.specs.SignedDataElements.{SignedDataElements}
use Rattle.cms_types.specs.SignedView.{IsSignedView, data_elements}
use Rattle.cms_types.specs.SignerElements.{SignerElements}
use Rattle.cms_types.specs.SignerInfo.{signer_info}
use Rattle.cms_types.specs.SignerView.{IsSignerView, signer_elements_at}
use Rattle.cms_types.specs.declared.signed_data.pkcs7.Pkcs7Certificate.{Pkcs7Certificate}
use Rattle.cms_types.specs.declared.signed_data.view.SignedView.{SignedView}
use Rattle.cms_types.specs.declared.signer_info.SignerInfo.{SignerInfo}
use Rattle.cms_types.specs.declared.signer_info.view.SignerView.{SignerView}
use Rattle.der_core.specs.Optional.{members_of}
use Rattle.der_core.specs.DerElement.{DerElement}
use Rattle.der_core.specs.BorrowedOption.{at_option}
use Rattle.der_core.specs.declared.elem.Elem.{Elem}
use Rattle.authenticode_core.specs.Excuses.{HasToken}
use Rattle.authenticode_core.specs.SignedFields.{IsAttributeOf, IsFirstSigner, signers_of}
use Rattle.authenticode_core.proofs.FirstAttributes.{attribute_once}
use Rattle.authenticode_core.proofs.FormFields.{fields_of_view, same_fields_of, signer_once}
use Rattle.authenticode_core.proofs.FormSteps.{signer_lies}
use Rattle.authenticode_core.proofs.SignerSteps.{heads}

-- ---- the first signer

pub no_signers : (f : SignedDataElements) → signers_of f ≡ [] → (g : SignerElements) → IsFirstSigner f g → ⊥
no_signers f none g first =
    let both : [] ≡ signer_info first.value ∷ first.others = sym none ∙ first.first in
    absurd cc

pub first_or_none : (r : Option SignerView) (f : SignedDataElements) (first : DerElement) (others : List DerElement) → signers_of f ≡ first ∷ others
    → MatchOption r ((value : SignerInfo) → first ≢ signer_info value) (IsSignerView first)
    → MatchOption r ((g : SignerElements) → IsFirstSigner f g → ⊥) (λ signer. IsFirstSigner f (signer_elements_at signer))
first_or_none None f first others are none = λ g is. none is.value (heads first (signer_info is.value) others is.others (sym are ∙ is.first))
first_or_none (Some view) f first others are is =
    record { value = is.value; others = others; is = signer_lies first view is; first = are ∙ ap (λ (x : DerElement). x ∷ others) is.spelled }

-- ---- the first of the borrowed attributes

pub first_lent : (r lent : Option Elem) (elem : Elem) (given : Option DerElement) → at_option lent ≡ given → lent ≡ Some elem
    → MatchOption r (members_of (Some elem.is.0) ≡ []) (λ first. (others : List DerElement) × (members_of (Some elem.is.0) ≡ first.is.0 ∷ others))
    → MatchOption r (members_of given ≡ []) (λ first. (others : List DerElement) × (members_of given ≡ first.is.0 ∷ others))
first_lent None lent elem given e is none = ap members_of (sym e ∙ ap at_option is) ∙ none
first_lent (Some first) lent elem given e is found = (found.0, ap members_of (sym e ∙ ap at_option is) ∙ found.1)

-- ---- the token in it

unsigned_are : (f t : SignedDataElements) (g : SignerElements) → (has : HasToken f t) → IsFirstSigner f g
    → members_of g.unsigned_attrs ≡ has.attribute ∷ has.attributes
unsigned_are f t g has first = ap (λ (x : SignerElements). members_of x.unsigned_attrs) (signer_once f g has.g first has.signer) ∙ has.unsigned

pub no_attribute : (f t : SignedDataElements) (g : SignerElements) → IsFirstSigner f g → members_of g.unsigned_attrs ≡ [] → HasToken f t → ⊥
no_attribute f t g first none has =
    let both : [] ≡ has.attribute ∷ has.attributes = sym none ∙ unsigned_are f t g has first in
    absurd cc

module _ (f t : SignedDataElements) (g : SignerElements) (attribute : DerElement) (attributes : List DerElement) (first : IsFirstSigner f g)
    (unsigned : members_of g.unsigned_attrs ≡ attribute ∷ attributes) where
  stamps_of : (has : HasToken f t) → IsAttributeOf RFC3161_COUNTER_SIGN.now attribute (has.token ∷ has.tokens)
  stamps_of has =
      subst (λ (x : DerElement). IsAttributeOf RFC3161_COUNTER_SIGN.now x (has.token ∷ has.tokens))
      (heads has.attribute attribute has.attributes attributes (sym (unsigned_are f t g has first) ∙ unsigned)) has.stamps

  pub no_stamps : ((values : List DerElement) → IsAttributeOf RFC3161_COUNTER_SIGN.now attribute values → ⊥) → HasToken f t → ⊥
  no_stamps none has = none (has.token ∷ has.tokens) (stamps_of has)

  pub values_are : (values : List DerElement) → IsAttributeOf RFC3161_COUNTER_SIGN.now attribute values → (has : HasToken f t) → values ≡ has.token ∷ has.tokens
  values_are values named has = attribute_once RFC3161_COUNTER_SIGN.now attribute values (has.token ∷ has.tokens) named (stamps_of has)

  pub no_value : (values : List DerElement) → IsAttributeOf RFC3161_COUNTER_SIGN.now attribute values → values ≡ [] → HasToken f t → ⊥
  no_value values named none has =
      let both : [] ≡ has.token ∷ has.tokens = sym none ∙ values_are values named has in
      absurd cc

  pub token_is : (values tokens : List DerElement) (token : DerElement) → IsAttributeOf RFC3161_COUNTER_SIGN.now attribute values → values ≡ token ∷ tokens
      → (has : HasToken f t) → token ≡ has.token
  token_is values tokens token named are has = heads token has.token tokens has.tokens (sym are ∙ values_are values named has)

pub token_or_none : (r : Option SignedView) (f : SignedDataElements) (g : SignerElements) (attribute token : DerElement)
    (attributes values tokens : List DerElement) → IsFirstSigner f g → members_of g.unsigned_attrs ≡ attribute ∷ attributes
    → IsAttributeOf RFC3161_COUNTER_SIGN.now attribute values → values ≡ token ∷ tokens
    → MatchOption r ((value : Pkcs7Certificate) → token ≢ pkcs7 value) (IsSignedView token)
    → MatchOption r ((t : SignedDataElements) → HasToken f t → ⊥) (λ view. HasToken f (data_elements view))
token_or_none None f g attribute token attributes values tokens first unsigned named are none = λ t has.
    none has.value (token_is f t g attribute attributes first unsigned values tokens token named are has ∙ has.spelled)
token_or_none (Some view) f g attribute token attributes values tokens first unsigned named are is = record {
  g = g;
  signer = first;
  attribute = attribute;
  attributes = attributes;
  unsigned = unsigned;
  token = token;
  tokens = tokens;
  stamps = subst (λ (vs : List DerElement). IsAttributeOf RFC3161_COUNTER_SIGN.now attribute vs) are named;
  value = is.value;
  spelled = is.spelled;
  fields = fields_of_view token view is;
}

-- ---- it is unique

pub token_once : (f s t : SignedDataElements) → HasToken f s → HasToken f t → s ≡ t
token_once f s t p q =
    let token = token_is f t p.g p.attribute p.attributes p.signer p.unsigned (p.token ∷ p.tokens) p.tokens p.token p.stamps refl q in
    p.fields ∙ same_fields_of p.value.signed_data q.value.signed_data (sym p.spelled ∙ token ∙ q.spelled) ∙ sym q.fields
