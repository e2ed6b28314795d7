-- An element is a signer, an unsigned attribute or signed data exactly where it encodes a value.
use Rattle.std.proofs.Common.{◌≡◌, ℕ, IsTrue, Bool, true, false, List, [], ◌∷◌, ◌++◌, map, Option, Some, None, zero, suc, refl, sym, ap, subst, ◌∙◌, inl, inr}
use Rattle.std.specs.Option.{option_map}
use Rattle.std.specs.Prelude.{option_to_list}
use Rattle.std.specs.Prelude.{if◌then◌else◌, bytes_eq, slice_get}
use Rattle.std.proofs.lemmas.Bool.{cases_eq}
use Rattle.std.proofs.lemmas.Slice.Eq.{bytes_eq-Decides}
use mathlib.Core.Logic.{∥∥₁_elim, ∥∥₁_prop, ∥∥₁_map, ∥∥₁_map₂}
use Rattle.der_core.specs.DerElement.{DerElement, Constructed, row, tag_of}
use Rattle.der_core.specs.Elements.{sequence, set, explicit}
use Rattle.der_core.specs.Encoding.{IsDer}
use Rattle.der_core.specs.Each.{list_element}
use Rattle.der_core.specs.Owned.{KeptElement}
use Rattle.der_core.specs.Borrowed.{AreDer}
use Rattle.der_core.specs.Refusals.{RefusesShape}
use Rattle.der_core.specs.declared.error.DerError.{DerError}
use Rattle.der_core.specs.declared.error.DerError.TheVariants as errors
use Rattle.der_core.specs.Structure.{Fits}
use Rattle.der_core.specs.Facts.Lists.{printed_list, list_printed}
use Rattle.der_core.specs.Facts.Borrowed.{kids_in_bounds}
use Rattle.der_core.specs.Facts.Rows.{listed-row}
use Rattle.asn1_types.specs.Elements.{object_identifier}
use Rattle.asn1_types.specs.Values.{identifier_contents}
use Rattle.asn1_types.specs.declared.oid.ObjectIdentifier.{ObjectIdentifier}
use Rattle.asn1_types.proofs.KnownTable.{known_is}
use Rattle.asn1_types.specs.declared.oids.TheConstants.{COUNTERSIGNATURE, RFC3161_COUNTER_SIGN}
use Rattle.key_types.specs.AlgorithmIdentifier.{algorithm_identifier}
use Rattle.cms_types.specs.CertificateChoices.{certificate_choice}
use Rattle.x509_types.specs.Attribute.{AreAttributes}
use Rattle.cms_types.specs.SignedAttributesElement.{signed_attributes}
use Rattle.cms_types.specs.Members.{element_of_kept, elements_of_kept}
use Rattle.cms_types.specs.UnsignedKind.{named_unsigned}
use Rattle.cms_types.specs.AttributeElement.{attribute_of}
use Rattle.cms_types.specs.UnsignedAttribute.{unsigned_attribute}
use Rattle.cms_types.specs.SignerElements.{SignerElements, signer_of}
use Rattle.cms_types.specs.SignedDataElements.{SignedDataElements, signed_data_of}
use Rattle.cms_types.specs.SignerInfo.{signer_elements, signer_info}
use Rattle.cms_types.specs.SignedData.{signed_data_elements, signed_data}
use Rattle.cms_types.specs.Pkcs7Elements.{pkcs7_of}
use Rattle.cms_types.specs.Pkcs7.{pkcs7}
use Rattle.cms_types.specs.Levels.{OfOption, IsConstructed, IsSignerOf, IsSignedDataOf, IsUnsignedOf}
use Rattle.cms_types.specs.Signers.{IsSignerInfo, Bare, WithUnsigned, IsUnsignedAttribute, Counter, MsCounter, Any, IsSignedData, Signed, IsPkcs7, Pkcs7}
use Rattle.cms_types.specs.Signers.{AreSignerInfos, NoSigners, MoreSigners, AreUnsignedAttributes, NoUnsigned, MoreUnsigned, ArePkcs7s, NoPkcs7s, MorePkcs7s}
use Rattle.cms_types.specs.Facts.SignerElements.{signer_tail, signer_kids, data_tail, data_kids}
use Rattle.cms_types.specs.declared.signed_data.certificate_choices.CertificateChoices.{CertificateChoices}
use Rattle.cms_types.specs.declared.signed_data.certificate_choices.CertificateChoices.TheVariants as choices
use Rattle.cms_types.specs.declared.signed_data.pkcs7.Pkcs7Certificate.{Pkcs7Certificate}
use Rattle.cms_types.specs.declared.unsigned_attribute.signer_values.SignerValues.{SignerValues}
use Rattle.cms_types.specs.declared.unsigned_attribute.token_values.TokenValues.{TokenValues}
use Rattle.cms_types.specs.declared.signed_data.SignedData.{SignedData}
use Rattle.cms_types.specs.declared.signer_info.SignerInfo.{SignerInfo}
use Rattle.cms_types.specs.declared.signer_info.signed_attributes.SignedAttributes.{SignedAttributes}
use Rattle.cms_types.specs.declared.unsigned_attribute.UnsignedAttribute.{UnsignedAttribute}
use Rattle.cms_types.specs.declared.unsigned_attribute.UnsignedAttribute.TheVariants as attributes
use Rattle.cms_types.specs.declared.unsigned_attribute.kind.UnsignedKind.{UnsignedKind}
use Rattle.cms_types.specs.declared.unsigned_attribute.kind.UnsignedKind.TheVariants as kinds
use Rattle.cms_types.proofs.Signers.{first_signer, first_pkcs7}

-- ---- elements within limits can be stored

pub inside : (tag : ℕ) (e : DerElement) (kids : List DerElement) → IsDer e → e ≡ Constructed tag (row kids) → AreDer kids
inside tag e kids der is = subst AreDer (listed-row kids) (kids_in_bounds tag (row kids) (subst IsDer is der))

pub keep_all : (es : List DerElement) → AreDer es → (kept : List KeptElement) × (es ≡ elements_of_kept kept)
keep_all [] der = ([], refl)
keep_all (e ∷ es) der =
    let others = keep_all es der.1 in
    (record { element = e; der = der.0 } ∷ others.0, ap (λ xs. e ∷ xs) others.1)

-- ---- OIDs of the kinds

counter_test : (a b : Bool) → kinds.CounterSign ≡ (if a then kinds.CounterSign else (if b then kinds.MsCounterSign else kinds.Other)) → IsTrue a
counter_test true b e = refl
counter_test false true e = absurd cc
counter_test false false e = absurd cc

ms_counter_test : (a b : Bool) → kinds.MsCounterSign ≡ (if a then kinds.CounterSign else (if b then kinds.MsCounterSign else kinds.Other)) → IsTrue b
ms_counter_test true b e = absurd cc
ms_counter_test false true e = refl
ms_counter_test false false e = absurd cc

counter_oid : (oid : List ℕ) → kinds.CounterSign ≡ named_unsigned oid → oid ≡ COUNTERSIGNATURE.now
counter_oid oid e = (bytes_eq-Decides oid COUNTERSIGNATURE.now).0 (counter_test (bytes_eq oid COUNTERSIGNATURE.now) (bytes_eq oid RFC3161_COUNTER_SIGN.now) e)

ms_counter_oid : (oid : List ℕ) → kinds.MsCounterSign ≡ named_unsigned oid → oid ≡ RFC3161_COUNTER_SIGN.now
ms_counter_oid oid e =
    (bytes_eq-Decides oid RFC3161_COUNTER_SIGN.now).0 (ms_counter_test (bytes_eq oid COUNTERSIGNATURE.now) (bytes_eq oid RFC3161_COUNTER_SIGN.now) e)

counter : ObjectIdentifier
counter = record { contents = COUNTERSIGNATURE.now; formed = known_is COUNTERSIGNATURE.now refl }

counter_is : identifier_contents counter ≡ COUNTERSIGNATURE.now
unfolding counter
counter_is = refl

ms_counter : ObjectIdentifier
ms_counter = record { contents = RFC3161_COUNTER_SIGN.now; formed = known_is RFC3161_COUNTER_SIGN.now refl }

ms_counter_is : identifier_contents ms_counter ≡ RFC3161_COUNTER_SIGN.now
unfolding ms_counter
ms_counter_is = refl

-- ---- unsigned attributes

-- an attribute with this OID and these values
unsigned_with : (ty : ObjectIdentifier) (oid : List ℕ) (kind : UnsignedKind) (e : DerElement) (values : List DerElement) → identifier_contents ty ≡ oid
    → kind ≡ named_unsigned oid → e ≡ attribute_of oid values → IsUnsignedOf e kind values
unsigned_with ty oid kind e values same named is = record {
  ty = ty;
  is = is ∙ ap (λ o. attribute_of o values) (sym same);
  named = named ∙ ap named_unsigned (sym same);
}

pub counter_of : (e : DerElement) (values : List DerElement) → e ≡ attribute_of COUNTERSIGNATURE.now values → IsUnsignedOf e kinds.CounterSign values
counter_of e values is = unsigned_with counter COUNTERSIGNATURE.now kinds.CounterSign e values counter_is refl is

pub ms_counter_of : (e : DerElement) (values : List DerElement) → e ≡ attribute_of RFC3161_COUNTER_SIGN.now values → IsUnsignedOf e kinds.MsCounterSign values
ms_counter_of e values is = unsigned_with ms_counter RFC3161_COUNTER_SIGN.now kinds.MsCounterSign e values ms_counter_is refl is

-- and conversely
pub of_counter : (e : DerElement) (values : List DerElement) → IsUnsignedOf e kinds.CounterSign values → e ≡ attribute_of COUNTERSIGNATURE.now values
of_counter e values of = of.is ∙ ap (λ o. attribute_of o values) (counter_oid (identifier_contents of.ty) of.named)

pub of_ms_counter : (e : DerElement) (values : List DerElement) → IsUnsignedOf e kinds.MsCounterSign values → e ≡ attribute_of RFC3161_COUNTER_SIGN.now values
of_ms_counter e values of = of.is ∙ ap (λ o. attribute_of o values) (ms_counter_oid (identifier_contents of.ty) of.named)

two_in : (s t e : DerElement) → IsDer e → e ≡ sequence (s ∷ t ∷ []) → IsDer t
two_in s t e der is = (inside 0x30 e (s ∷ t ∷ []) der is).1.0

unsigned_values : (e : DerElement) (kind : UnsignedKind) (values : List DerElement) → IsDer e → IsUnsignedOf e kind values
    → (kept : List KeptElement) × (values ≡ elements_of_kept kept)
unsigned_values e kind values der of = keep_all values (inside 0x31 (set values) values (two_in (object_identifier of.ty) (set values) e der of.is) refl)

pub value_of_unsigned : (e : DerElement) → IsDer e → IsUnsignedAttribute e → (a : UnsignedAttribute) × (e ≡ unsigned_attribute a)
value_of_unsigned e der (Counter {values = v} of each) =
    let kept = unsigned_values e kinds.CounterSign v der of in (
      attributes.CounterSign (record { items = kept.0; all = ∣ subst AreSignerInfos kept.1 each ∣₁ }),
      of_counter e v of ∙ ap (attribute_of COUNTERSIGNATURE.now) kept.1,
    )
value_of_unsigned e der (MsCounter {values = v} of each) =
    let kept = unsigned_values e kinds.MsCounterSign v der of in (
      attributes.MsCounterSign (record { items = kept.0; all = ∣ subst ArePkcs7s kept.1 each ∣₁ }),
      of_ms_counter e v of ∙ ap (attribute_of RFC3161_COUNTER_SIGN.now) kept.1,
    )
value_of_unsigned e der (Any {values = v} of) =
    let kept = unsigned_values e kinds.Other v der of in
    (attributes.Raw (record { ty = of.ty; values = kept.0; other = sym of.named }), of.is ∙ ap (attribute_of (identifier_contents of.ty)) kept.1)

pub unsigned_of_value : (e : DerElement) (a : UnsignedAttribute) → e ≡ unsigned_attribute a → ∥ IsUnsignedAttribute e ∥₁
unsigned_of_value e (attributes.CounterSign v) is = ∥∥₁_map v.all (λ each. Counter (counter_of e (elements_of_kept v.items) is) each)
unsigned_of_value e (attributes.MsCounterSign v) is = ∥∥₁_map v.all (λ each. MsCounter (ms_counter_of e (elements_of_kept v.items) is) each)
unsigned_of_value e (attributes.Raw r) is = ∣ Any {values = elements_of_kept r.values}
    (unsigned_with r.ty (identifier_contents r.ty) kinds.Other e (elements_of_kept r.values) refl (sym r.other) is) ∣₁

values_of_unsigned : (es : List DerElement) → AreDer es → AreUnsignedAttributes es → (us : List UnsignedAttribute) × (es ≡ map unsigned_attribute us)
values_of_unsigned es der NoUnsigned = ([], refl)
values_of_unsigned es der (MoreUnsigned {kid = k} {kids = ks} one more) =
    let a = value_of_unsigned k der.0 one in
    let others = values_of_unsigned ks der.1 more in
    (a.0 ∷ others.0, ap (λ x. x ∷ ks) a.1 ∙ ap (λ xs. unsigned_attribute a.0 ∷ xs) others.1)

unsigned_of_values : (us : List UnsignedAttribute) → ∥ AreUnsignedAttributes (map unsigned_attribute us) ∥₁
unsigned_of_values [] = ∣ NoUnsigned ∣₁
unsigned_of_values (a ∷ us) = ∥∥₁_map₂ (unsigned_of_value (unsigned_attribute a) a refl) (unsigned_of_values us) (λ one more. MoreUnsigned one more)

-- ---- the fields of signers

signed_value : (a : Option DerElement) → OfOption IsDer a → OfOption (Fits AreAttributes) a
    → (v : Option SignedAttributes) × (a ≡ option_map signed_attributes v)
signed_value None der fits = (None, refl)
signed_value (Some e) der fits = (Some (record { element = record { element = e; der = der }; list = fits.0; are = ∣ fits.1 ∣₁ }), refl)

option_der : (a : Option DerElement) (rest : List DerElement) → AreDer (option_to_list a ++ rest) → OfOption IsDer a × AreDer rest
option_der None rest der = (tt, der)
option_der (Some e) rest der = (der.0, der.1)

last_der : (a : Option DerElement) → AreDer (option_to_list a) → OfOption IsDer a
last_der None der = tt
last_der (Some e) der = der.0

-- the value of fields whose unsigned attributes are those of a value
signer_with : (e : DerElement) (f : SignerElements) (u : Option (List UnsignedAttribute)) → IsDer e → IsSignerOf e f
    → f.unsigned_attrs ≡ option_map (list_element 0xA1 unsigned_attribute) u → (s : SignerInfo) × (e ≡ signer_info s)
signer_with e f u der of unsigned =
    let kids = inside 0x30 e (signer_kids f) der of.is in
    let signed = signed_value f.signed_attrs (option_der f.signed_attrs (signer_tail f) kids.1.1.1).0 of.fields.signed_attrs in
    let fields = of.fields in
    let s : SignerInfo = record {
      version = fields.version.0;
      sid = fields.sid.0;
      digest_algorithm = fields.digest_algorithm.0;
      signed_attrs = signed.0;
      signature_algorithm = fields.signature_algorithm.0;
      signature = fields.signature.0;
      unsigned_attrs = u;
    } in
    let same : f ≡ signer_elements s = λ i. record {
      version = fields.version.1 i;
      sid = fields.sid.1 i;
      digest_algorithm = fields.digest_algorithm.1 i;
      signed_attrs = signed.1 i;
      signature_algorithm = fields.signature_algorithm.1 i;
      signature = fields.signature.1 i;
      unsigned_attrs = unsigned i;
    } in
    (s, of.is ∙ ap signer_of same)

held_der : (e : DerElement) (f : SignerElements) (u : DerElement) → IsDer e → IsSignerOf e f → f.unsigned_attrs ≡ Some u → IsDer u
held_der e f u der of some =
    let kids = inside 0x30 e (signer_kids f) der of.is in
    let tail = (option_der f.signed_attrs (signer_tail f) kids.1.1.1).1 in
    subst (OfOption IsDer) some (last_der f.unsigned_attrs tail.1.1)

pub value_of_signer : (e : DerElement) → IsDer e → IsSignerInfo e → (s : SignerInfo) × (e ≡ signer_info s)
value_of_signer e der (Bare {f = f} of none) = signer_with e f None der of none
value_of_signer e der (WithUnsigned {f = f} {attributes = a} of some each) =
    let values = values_of_unsigned a (inside 0xA1 (Constructed 0xA1 (row a)) a (held_der e f (Constructed 0xA1 (row a)) der of some) refl) each in
    signer_with e f (Some values.0) der of (some ∙ ap (λ k. Some (Constructed 0xA1 (row k))) values.1)

signed_fits : (v : Option SignedAttributes) → ∥ OfOption (Fits AreAttributes) (option_map signed_attributes v) ∥₁
signed_fits None = ∣ tt ∣₁
signed_fits (Some v) = ∥∥₁_map v.are (λ list. (v.list, list))

unsigned_held : (u : Option (List UnsignedAttribute)) → OfOption (IsConstructed 0xA1) (option_map (list_element 0xA1 unsigned_attribute) u)
unsigned_held None = tt
unsigned_held (Some u) = (map unsigned_attribute u, refl)

-- the level of a value
pub level_of_signer : (e : DerElement) (s : SignerInfo) → e ≡ signer_info s → ∥ IsSignerOf e (signer_elements s) ∥₁
level_of_signer e s is =
    ∥∥₁_map (signed_fits s.signed_attrs) (λ signed. record {
      is = is;
      fields = record {
        version = (s.version, refl);
        sid = (s.sid, refl);
        digest_algorithm = (s.digest_algorithm, refl);
        signed_attrs = signed;
        signature_algorithm = (s.signature_algorithm, refl);
        signature = (s.signature, refl);
        unsigned_attrs = unsigned_held s.unsigned_attrs;
      };
    })

with_level : (e : DerElement) (f : SignerElements) (u : Option (List UnsignedAttribute))
    → f.unsigned_attrs ≡ option_map (list_element 0xA1 unsigned_attribute) u → IsSignerOf e f → ∥ IsSignerInfo e ∥₁
with_level e f None is of = ∣ Bare of is ∣₁
with_level e f (Some u) is of = ∥∥₁_map (unsigned_of_values u) (λ each. WithUnsigned of is each)

pub signer_of_value : (e : DerElement) (s : SignerInfo) → e ≡ signer_info s → ∥ IsSignerInfo e ∥₁
signer_of_value e s is = ∥∥₁_elim (level_of_signer e s is) ∥∥₁_prop (λ of. with_level e (signer_elements s) s.unsigned_attrs refl of)

values_of_signers : (es : List DerElement) → AreDer es → AreSignerInfos es → (ss : List SignerInfo) × (es ≡ map signer_info ss)
values_of_signers es der NoSigners = ([], refl)
values_of_signers es der (MoreSigners {kid = k} {kids = ks} one more) =
    let s = value_of_signer k der.0 one in
    let others = values_of_signers ks der.1 more in
    (s.0 ∷ others.0, ap (λ x. x ∷ ks) s.1 ∙ ap (λ xs. signer_info s.0 ∷ xs) others.1)

pub signers_of_values : (ss : List SignerInfo) → ∥ AreSignerInfos (map signer_info ss) ∥₁
signers_of_values [] = ∣ NoSigners ∣₁
signers_of_values (s ∷ ss) = ∥∥₁_map₂ (signer_of_value (signer_info s) s refl) (signers_of_values ss) (λ one more. MoreSigners one more)

-- ---- signed data

pub choice_of : (k : KeptElement) → (c : CertificateChoices) × (k.element ≡ certificate_choice c)
choice_of k =
    elim (cases_eq (tag_of k.element) 0x30) [
      | inl same ↦ (choices.Certificate (record { element = k; tagged = same }), refl)
      | inr other ↦ (choices.Other (record { element = k; tagged = other }), refl)
    ]

choices_of : (kept : List KeptElement) → (cs : List CertificateChoices) × (elements_of_kept kept ≡ map certificate_choice cs)
choices_of [] = ([], refl)
choices_of (k ∷ kept) =
    let c = choice_of k in
    let others = choices_of kept in
    (c.0 ∷ others.0, ap (λ x. x ∷ elements_of_kept kept) c.1 ∙ ap (λ xs. certificate_choice c.0 ∷ xs) others.1)

certificates_of : (a : Option DerElement) → OfOption IsDer a → OfOption (IsConstructed 0xA0) a
    → (v : Option (List CertificateChoices)) × (a ≡ option_map (list_element 0xA0 certificate_choice) v)
certificates_of None der is = (None, refl)
certificates_of (Some e) der is =
    let kept = keep_all is.0 (inside 0xA0 e is.0 der is.1) in
    let cs = choices_of kept.0 in
    (Some cs.0, ap Some (is.1 ∙ ap (λ k. Constructed 0xA0 (row k)) (kept.1 ∙ cs.1)))

crls_of : (a : Option DerElement) → OfOption IsDer a → OfOption (IsConstructed 0xA1) a
    → (v : Option (List KeptElement)) × (a ≡ option_map (list_element 0xA1 element_of_kept) v)
crls_of None der is = (None, refl)
crls_of (Some e) der is =
    let kept = keep_all is.0 (inside 0xA1 e is.0 der is.1) in
    (Some kept.0, ap Some (is.1 ∙ ap (λ k. Constructed 0xA1 (row k)) kept.1))

data_der : (e : DerElement) (f : SignedDataElements) → IsDer e → IsSignedDataOf e f
    → OfOption IsDer f.certificates × OfOption IsDer f.crls × IsDer f.signers_infos
data_der e f der of =
    let kids = inside 0x30 e (data_kids f) der of.is in
    let first = option_der f.certificates (data_tail f) kids.1.1.1 in
    let second = option_der f.crls (f.signers_infos ∷ []) first.1 in
    (first.0, second.0, second.1.0)

pub value_of_data : (e : DerElement) → IsDer e → IsSignedData e → (d : SignedData) × (e ≡ signed_data d)
value_of_data e der (Signed {f = f} {signers = ss} of held each) =
    let parts = data_der e f der of in
    let certificates = certificates_of f.certificates parts.0 of.fields.certificates in
    let crls = crls_of f.crls parts.1 of.fields.crls in
    let signers = values_of_signers ss (inside 0x31 f.signers_infos ss parts.2 held) each in
    let algorithms = of.fields.digest_algorithms in
    let d : SignedData = record {
      version = of.fields.version.0;
      digest_algorithms = algorithms.0;
      content_info = of.fields.content_info.0;
      certificates = certificates.0;
      crls = crls.0;
      signers_infos = signers.0;
    } in
    let set_of = printed_list algorithm_identifier 0x31 f.digest_algorithms algorithms.0 algorithms.1 in
    let signers_set = held ∙ ap set signers.1 in
    let same : f ≡ signed_data_elements d = λ i. record {
      version = of.fields.version.1 i;
      digest_algorithms = set_of i;
      content_info = of.fields.content_info.1 i;
      certificates = certificates.1 i;
      crls = crls.1 i;
      signers_infos = signers_set i;
    } in
    (d, of.is ∙ ap signed_data_of same)

certificates_held : (c : Option (List CertificateChoices)) → OfOption (IsConstructed 0xA0) (option_map (list_element 0xA0 certificate_choice) c)
certificates_held None = tt
certificates_held (Some c) = (map certificate_choice c, refl)

crls_held : (c : Option (List KeptElement)) → OfOption (IsConstructed 0xA1) (option_map (list_element 0xA1 element_of_kept) c)
crls_held None = tt
crls_held (Some c) = (elements_of_kept c, refl)

pub level_of_data : (e : DerElement) (d : SignedData) → e ≡ signed_data d → IsSignedDataOf e (signed_data_elements d)
level_of_data e d is = record {
  is = is;
  fields = record {
    version = (d.version, refl);
    digest_algorithms =
        (d.digest_algorithms, list_printed algorithm_identifier 0x31 (list_element 0x31 algorithm_identifier d.digest_algorithms) d.digest_algorithms refl);
    content_info = (d.content_info, refl);
    certificates = certificates_held d.certificates;
    crls = crls_held d.crls;
    signers_infos = (map signer_info d.signers_infos, refl);
  };
}

pub data_of_value : (e : DerElement) (d : SignedData) → e ≡ signed_data d → ∥ IsSignedData e ∥₁
data_of_value e d is = ∥∥₁_map (signers_of_values d.signers_infos) (λ each. Signed (level_of_data e d is) refl each)

-- ---- signed data with its type

explicit_der : (inner e : DerElement) → IsDer e → e ≡ pkcs7_of inner → IsDer inner
explicit_der inner e der is =
    let content = two_in _ (explicit 0xA0 inner) e der is in
    (inside 0xA0 (explicit 0xA0 inner) (inner ∷ []) content refl).0

pub value_of_pkcs7 : (e : DerElement) → IsDer e → IsPkcs7 e → (p : Pkcs7Certificate) × (e ≡ pkcs7 p)
value_of_pkcs7 e der (Pkcs7 {signed_data = inner} is held) =
    let d = value_of_data inner (explicit_der inner e der is) held in
    (record { signed_data = d.0 }, is ∙ ap pkcs7_of d.1)

pub pkcs7_of_value : (e : DerElement) (p : Pkcs7Certificate) → e ≡ pkcs7 p → ∥ IsPkcs7 e ∥₁
pkcs7_of_value e p is = ∥∥₁_map (data_of_value (signed_data p.signed_data) p.signed_data refl) (λ held. Pkcs7 is held)

pub pkcs7s_of_values : (ps : List Pkcs7Certificate) → ∥ ArePkcs7s (map pkcs7 ps) ∥₁
pkcs7s_of_values [] = ∣ NoPkcs7s ∣₁
pkcs7s_of_values (p ∷ ps) = ∥∥₁_map₂ (pkcs7_of_value (pkcs7 p) p refl) (pkcs7s_of_values ps) (λ one more. MorePkcs7s one more)

-- knowing that there is a value is enough to refuse
pub no_value : {P : Type 0} → ∥ P ∥₁ → (P → ⊥) → ⊥
no_value p none = ∥∥₁_elim p (λ x y. absurd x) none

-- ---- members at an index

signer_at_place : (items : List KeptElement) (place : ℕ) (kept : KeptElement) → slice_get items place ≡ Some kept → AreSignerInfos (elements_of_kept items)
    → IsSignerInfo kept.element
signer_at_place [] place kept e all = absurd cc
signer_at_place (x ∷ items) zero kept e all =
    let same : x ≡ kept = cc in
    subst (λ (k : KeptElement). IsSignerInfo k.element) same (first_signer (elements_of_kept (x ∷ items)) all x.element (elements_of_kept items) refl).0
signer_at_place (x ∷ items) (suc place) kept e all =
    signer_at_place items place kept e (first_signer (elements_of_kept (x ∷ items)) all x.element (elements_of_kept items) refl).1

pkcs7_at_place : (items : List KeptElement) (place : ℕ) (kept : KeptElement) → slice_get items place ≡ Some kept → ArePkcs7s (elements_of_kept items)
    → IsPkcs7 kept.element
pkcs7_at_place [] place kept e all = absurd cc
pkcs7_at_place (x ∷ items) zero kept e all =
    let same : x ≡ kept = cc in
    subst (λ (k : KeptElement). IsPkcs7 k.element) same (first_pkcs7 (elements_of_kept (x ∷ items)) all x.element (elements_of_kept items) refl).0
pkcs7_at_place (x ∷ items) (suc place) kept e all =
    pkcs7_at_place items place kept e (first_pkcs7 (elements_of_kept (x ∷ items)) all x.element (elements_of_kept items) refl).1

-- a member can be read
pub signer_reads : (v : SignerValues) (place : ℕ) (kept : KeptElement) → slice_get v.items place ≡ Some kept
    → ((s : SignerInfo) → kept.element ≡ signer_info s → ⊥) → ⊥
signer_reads v place kept e none =
    no_value v.all (λ all. let s = value_of_signer kept.element kept.der (signer_at_place v.items place kept e all) in none s.0 s.1)

pub token_reads : (v : TokenValues) (place : ℕ) (kept : KeptElement) → slice_get v.items place ≡ Some kept
    → ((p : Pkcs7Certificate) → kept.element ≡ pkcs7 p → ⊥) → ⊥
token_reads v place kept e none =
    no_value v.all (λ all. let p = value_of_pkcs7 kept.element kept.der (pkcs7_at_place v.items place kept e all) in none p.0 p.1)

-- an element that encodes a value is refused only when out of memory
pub only_memory : {X : Type 0} (P : X → Type 0) (e : DerError) → RefusesShape P e → (((x : X) → P x → ⊥) → ⊥) → e ≡ errors.Memory
only_memory P errors.Memory refused some = refl
only_memory P errors.Shape refused some = absurd (some refused)
only_memory P (errors.Malformed m) refused some = absurd refused
only_memory P errors.TooDeep refused some = absurd refused
only_memory P errors.TooLong refused some = absurd refused
