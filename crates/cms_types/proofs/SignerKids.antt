-- The fields of signers and of signed data, taken one after another.
use Rattle.std.proofs.Common.{◌≡◌, ℕ, List, [], ◌∷◌, ◌++◌, Option, Some, None, MatchOption, sym, ap, subst, ◌∙◌, arith}
use Rattle.std.specs.Prelude.{option_to_list}
use Rattle.std.proofs.lemmas.List.{append-nil}
use Rattle.der_core.specs.DerElement.{DerElement, Primitive, Constructed, row, listed, tag_of}
use Rattle.der_core.specs.Facts.Rows.{row-listed}
use Rattle.der_core.specs.Encoding.{IsDer, form_bit}
use Rattle.der_core.specs.BorrowedOption.{at_option}
use Rattle.der_core.specs.Structure.{Fits, BeginsOtherwise, BeginsUnfit, HasMore}
use Rattle.der_core.specs.declared.elem.Elem.{Elem}
use Rattle.der_core.proofs.Parts.{same_kids}
use Rattle.x509_types.specs.Attribute.{AreAttributes}
use Rattle.cms_types.specs.SignerElements.{SignerElements, signer_of}
use Rattle.cms_types.specs.SignedDataElements.{SignedDataElements, signed_data_of}
use Rattle.cms_types.specs.Levels.{OfOption, IsConstructed, IsSignerOf, IsSignedDataOf}
use Rattle.cms_types.specs.Facts.SignerElements.{options_split, determined_fields, signer_tail, signer_kids}
use Rattle.cms_types.specs.Facts.SignerElements.{determined_data, data_tail, data_kids, no_certificates, no_crls}

-- ---- elements in order

pub unfit_first : {X : Type 0} (spells : DerElement → X → Type 0) (all : List DerElement) (x : DerElement) (rest : List DerElement) → BeginsUnfit spells all
    → all ≡ x ∷ rest → Fits spells x → ⊥
unfit_first spells all x rest unfit e fit = subst (BeginsUnfit spells) e unfit fit.0 fit.1

pub after : (all : List DerElement) (x y : DerElement) (xs ys : List DerElement) → all ≡ x ∷ xs → all ≡ y ∷ ys → xs ≡ ys
after all x y xs ys e f = let same : x ∷ xs ≡ y ∷ ys = sym e ∙ f in cc

pub front : (all : List DerElement) (x y : DerElement) (xs ys : List DerElement) → all ≡ x ∷ xs → all ≡ y ∷ ys → x ≡ y
front all x y xs ys e f = let same : x ∷ xs ≡ y ∷ ys = sym e ∙ f in cc

pub no_first : (all : List DerElement) (x : DerElement) (rest : List DerElement) → all ≡ [] → all ≡ x ∷ rest → ⊥
no_first all x rest none e = let same : [] ≡ x ∷ rest = sym none ∙ e in absurd cc

pub not_first : (P : DerElement → Type 0) (all : List DerElement) (x y : DerElement) (xs ys : List DerElement) → all ≡ x ∷ xs → all ≡ y ∷ ys
    → (P x → ⊥) → P y → ⊥
not_first P all x y xs ys e f none p = none (subst P (sym (front all x y xs ys e f)) p)

-- ---- an optional element with a tag

pub record TakesTagged (tag : ℕ) (all : List DerElement) (inner : Option DerElement) (rest : List DerElement) : Type 0 where
  pub are : all ≡ option_to_list inner ++ rest
  pub tagged : OfOption (λ e. tag_of e ≡ tag) inner
  pub once : inner ≡ None → BeginsOtherwise tag rest

pub takes : (tag : ℕ) (found : Option Elem) (old new : List DerElement)
    → MatchOption found ((new ≡ old) × BeginsOtherwise tag old) (λ elem. (old ≡ elem.is.0 ∷ new) × (tag_of elem.is.0 ≡ tag))
    → TakesTagged tag old (at_option found) new
takes tag None old new m = record { are = sym m.0; tagged = tt; once = λ none. subst (BeginsOtherwise tag) (sym m.0) m.1 }
takes tag (Some elem) old new m = record { are = m.0; tagged = m.1; once = λ none. absurd cc }

pub takes_once : (tag : ℕ) (all : List DerElement) (a b : Option DerElement) (xs ys : List DerElement) → TakesTagged tag all a xs → TakesTagged tag all b ys
    → (a ≡ b) × (xs ≡ ys)
takes_once tag all a b xs ys p q = options_split tag a b xs ys p.tagged q.tagged p.once q.once (sym p.are ∙ q.are)

-- an element within limits with a constructed tag is constructed
constructed_of : (tag : ℕ) (e : DerElement) → IsDer e → tag_of e ≡ tag → form_bit tag ≡ 1 → IsConstructed tag e
constructed_of tag (Primitive t content) der same bit = absurd (omega (arith, der.formed.1, ap form_bit same, bit))
constructed_of tag (Constructed t kids) der same bit = (listed kids, ap (λ s. Constructed s kids) same ∙ ap (Constructed tag) (sym (row-listed kids)))

pub constructed_elem : (tag : ℕ) (elem : Elem) → tag_of elem.is.0 ≡ tag → form_bit tag ≡ 1 → IsConstructed tag elem.is.0
constructed_elem tag elem same bit = constructed_of tag elem.is.0 elem.is.1.0 same bit

pub constructed_option : (tag : ℕ) (found : Option Elem) → OfOption (λ e. tag_of e ≡ tag) (at_option found) → form_bit tag ≡ 1
    → OfOption (IsConstructed tag) (at_option found)
constructed_option tag None tagged bit = tt
constructed_option tag (Some elem) tagged bit = constructed_elem tag elem tagged bit

-- ---- of a signer

pub signer_row : (e : DerElement) (kids : List DerElement) (f : SignerElements) → e ≡ Constructed 0x30 (row kids) → IsSignerOf e f → kids ≡ signer_kids f
signer_row e kids f is of = same_kids e 0x30 0x30 kids (signer_kids f) is of.is

pub signer_third : (k0 k1 k2 k3 : List DerElement) (v s d : DerElement) (f : SignerElements) → k0 ≡ v ∷ k1 → k1 ≡ s ∷ k2 → k2 ≡ d ∷ k3 → k0 ≡ signer_kids f
    → k3 ≡ option_to_list f.signed_attrs ++ signer_tail f
signer_third k0 k1 k2 k3 v s d f e0 e1 e2 is =
    let r1 = after k0 v f.version k1 (f.sid ∷ f.digest_algorithm ∷ (option_to_list f.signed_attrs ++ signer_tail f)) e0 is in
    let r2 = after k1 s f.sid k2 (f.digest_algorithm ∷ (option_to_list f.signed_attrs ++ signer_tail f)) e1 r1 in
    after k2 d f.digest_algorithm k3 (option_to_list f.signed_attrs ++ signer_tail f) e2 r2

pub signed_taken : (e : DerElement) (found : Option Elem) (k3 k4 : List DerElement) (f : SignerElements)
    → MatchOption found ((k4 ≡ k3) × BeginsOtherwise 0xA0 k3) (λ elem. (k3 ≡ elem.is.0 ∷ k4) × (tag_of elem.is.0 ≡ 0xA0))
    → IsSignerOf e f → k3 ≡ option_to_list f.signed_attrs ++ signer_tail f → (at_option found ≡ f.signed_attrs) × (k4 ≡ signer_tail f)
signed_taken e found k3 k4 f m of is =
    let fixed = determined_fields f of.fields in
    takes_once 0xA0 k3 (at_option found) f.signed_attrs k4 (signer_tail f) (takes 0xA0 found k3 k4 m)
    (record { are = is; tagged = fixed.signed_attrs; once = λ none. fixed.signature_algorithm })

pub signed_fits : (f : SignerElements) (e : DerElement) (a : Option DerElement) → a ≡ f.signed_attrs → IsSignerOf e f → OfOption (Fits AreAttributes) a
signed_fits f e a same of = subst (OfOption (Fits AreAttributes)) (sym same) of.fields.signed_attrs

nothing_more : (tag : ℕ) (found : Option Elem) (k6 k7 : List DerElement) (u : Option DerElement)
    → MatchOption found ((k7 ≡ k6) × BeginsOtherwise tag k6) (λ elem. (k6 ≡ elem.is.0 ∷ k7) × (tag_of elem.is.0 ≡ tag))
    → OfOption (λ e. tag_of e ≡ tag) u → k6 ≡ option_to_list u → k7 ≡ []
nothing_more tag found k6 k7 u m tagged is =
    (takes_once tag k6 (at_option found) u k7 [] (takes tag found k6 k7 m)
    (record { are = is ∙ sym (append-nil (option_to_list u)); tagged = tagged; once = λ none. tt })).1

constructed_tag : (a : Option DerElement) → OfOption (IsConstructed 0xA1) a → OfOption (λ e. tag_of e ≡ 0xA1) a
constructed_tag None is = tt
constructed_tag (Some x) is = ap tag_of is.1

no_more : (all : List DerElement) → HasMore all → all ≡ [] → ⊥
no_more all more none = let same : more.kid ∷ more.rest ≡ [] = sym more.are ∙ none in absurd cc

pub signer_ends : (e : DerElement) (found : Option Elem) (k4 k5 k6 k7 : List DerElement) (sa sig : DerElement) (f : SignerElements)
    → MatchOption found ((k7 ≡ k6) × BeginsOtherwise 0xA1 k6) (λ elem. (k6 ≡ elem.is.0 ∷ k7) × (tag_of elem.is.0 ≡ 0xA1))
    → IsSignerOf e f → k4 ≡ signer_tail f → k4 ≡ sa ∷ k5 → k5 ≡ sig ∷ k6 → HasMore k7 → ⊥
signer_ends e found k4 k5 k6 k7 sa sig f m of is e4 e5 more =
    let r5 = after k4 sa f.signature_algorithm k5 (f.signature ∷ option_to_list f.unsigned_attrs) e4 is in
    let r6 = after k5 sig f.signature k6 (option_to_list f.unsigned_attrs) e5 r5 in
    no_more k7 more (nothing_more 0xA1 found k6 k7 f.unsigned_attrs m (constructed_tag f.unsigned_attrs of.fields.unsigned_attrs) r6)

pub signer_whole : (e : DerElement) (k0 k1 k2 k3 k4 k5 k6 k7 : List DerElement) (f : SignerElements) → e ≡ Constructed 0x30 (row k0) → k0 ≡ f.version ∷ k1
    → k1 ≡ f.sid ∷ k2 → k2 ≡ f.digest_algorithm ∷ k3
    → k3 ≡ option_to_list f.signed_attrs ++ k4 → k4 ≡ f.signature_algorithm ∷ k5 → k5 ≡ f.signature ∷ k6 → k6 ≡ option_to_list f.unsigned_attrs ++ k7 → k7 ≡ []
    → e ≡ signer_of f
signer_whole e k0 k1 k2 k3 k4 k5 k6 k7 f is e0 e1 e2 e3 e4 e5 e6 e7 =
    let r6 : k6 ≡ option_to_list f.unsigned_attrs = e6 ∙ ap (λ k. option_to_list f.unsigned_attrs ++ k) e7 ∙ append-nil (option_to_list f.unsigned_attrs) in
    let r4 : k4 ≡ signer_tail f = e4 ∙ ap (λ k. f.signature_algorithm ∷ k) e5 ∙ ap (λ k. f.signature_algorithm ∷ f.signature ∷ k) r6 in
    let r3 : k3 ≡ option_to_list f.signed_attrs ++ signer_tail f = e3 ∙ ap (λ k. option_to_list f.signed_attrs ++ k) r4 in
    let r0 : k0 ≡ signer_kids f = e0 ∙ ap (λ k. f.version ∷ k) e1 ∙ ap (λ k. f.version ∷ f.sid ∷ k) e2
    ∙ ap (λ k. f.version ∷ f.sid ∷ f.digest_algorithm ∷ k) r3 in
    is ∙ ap (λ k. Constructed 0x30 (row k)) r0

-- ---- of signed data

pub data_row : (e : DerElement) (kids : List DerElement) (f : SignedDataElements) → e ≡ Constructed 0x30 (row kids) → IsSignedDataOf e f → kids ≡ data_kids f
data_row e kids f is of = same_kids e 0x30 0x30 kids (data_kids f) is of.is

pub data_third : (k0 k1 k2 k3 : List DerElement) (v d c : DerElement) (f : SignedDataElements) → k0 ≡ v ∷ k1 → k1 ≡ d ∷ k2 → k2 ≡ c ∷ k3 → k0 ≡ data_kids f
    → k3 ≡ option_to_list f.certificates ++ data_tail f
data_third k0 k1 k2 k3 v d c f e0 e1 e2 is =
    let r1 = after k0 v f.version k1 (f.digest_algorithms ∷ f.content_info ∷ (option_to_list f.certificates ++ data_tail f)) e0 is in
    let r2 = after k1 d f.digest_algorithms k2 (f.content_info ∷ (option_to_list f.certificates ++ data_tail f)) e1 r1 in
    after k2 c f.content_info k3 (option_to_list f.certificates ++ data_tail f) e2 r2

pub last_taken : (e : DerElement) (certificates crls : Option Elem) (k3 k4 k5 : List DerElement) (f : SignedDataElements)
    → MatchOption certificates ((k4 ≡ k3) × BeginsOtherwise 0xA0 k3) (λ elem. (k3 ≡ elem.is.0 ∷ k4) × (tag_of elem.is.0 ≡ 0xA0))
    → MatchOption crls ((k5 ≡ k4) × BeginsOtherwise 0xA1 k4) (λ elem. (k4 ≡ elem.is.0 ∷ k5) × (tag_of elem.is.0 ≡ 0xA1))
    → IsSignedDataOf e f → k3 ≡ option_to_list f.certificates ++ data_tail f → k5 ≡ f.signers_infos ∷ []
last_taken e certificates crls k3 k4 k5 f m n of is =
    let fixed = determined_data f of.fields in
    let r4 = (takes_once 0xA0 k3 (at_option certificates) f.certificates k4 (data_tail f) (takes 0xA0 certificates k3 k4 m)
    (record { are = is; tagged = fixed.certificates; once = λ none. no_certificates f.crls f.signers_infos fixed.crls fixed.signers_infos })).1 in
    (takes_once 0xA1 k4 (at_option crls) f.crls k5 (f.signers_infos ∷ []) (takes 0xA1 crls k4 k5 n)
    (record { are = r4; tagged = fixed.crls; once = λ none. no_crls f.signers_infos fixed.signers_infos })).1

pub no_signers : (e : DerElement) (k5 : List DerElement) (f : SignedDataElements) → IsSignedDataOf e f → k5 ≡ f.signers_infos ∷ [] → BeginsOtherwise 0x31 k5 → ⊥
no_signers e k5 f of is other = subst (BeginsOtherwise 0x31) is other (determined_data f of.fields).signers_infos

pub data_ends : (k5 k6 : List DerElement) (s : DerElement) (f : SignedDataElements) → k5 ≡ f.signers_infos ∷ [] → k5 ≡ s ∷ k6 → HasMore k6 → ⊥
data_ends k5 k6 s f is e5 more = no_more k6 more (after k5 s f.signers_infos k6 [] e5 is)

pub data_whole : (e : DerElement) (k0 k1 k2 k3 k4 k5 k6 : List DerElement) (f : SignedDataElements) → e ≡ Constructed 0x30 (row k0) → k0 ≡ f.version ∷ k1
    → k1 ≡ f.digest_algorithms ∷ k2 → k2 ≡ f.content_info ∷ k3
    → k3 ≡ option_to_list f.certificates ++ k4 → k4 ≡ option_to_list f.crls ++ k5 → k5 ≡ f.signers_infos ∷ k6 → k6 ≡ [] → e ≡ signed_data_of f
data_whole e k0 k1 k2 k3 k4 k5 k6 f is e0 e1 e2 e3 e4 e5 e6 =
    let r5 : k5 ≡ f.signers_infos ∷ [] = e5 ∙ ap (λ k. f.signers_infos ∷ k) e6 in
    let r3 : k3 ≡ option_to_list f.certificates ++ data_tail f =
    e3 ∙ ap (λ k. option_to_list f.certificates ++ k) (e4 ∙ ap (λ k. option_to_list f.crls ++ k) r5) in
    let r0 : k0 ≡ data_kids f = e0 ∙ ap (λ k. f.version ∷ k) e1 ∙ ap (λ k. f.version ∷ f.digest_algorithms ∷ k) e2
    ∙ ap (λ k. f.version ∷ f.digest_algorithms ∷ f.content_info ∷ k) r3 in
    is ∙ ap (λ k. Constructed 0x30 (row k)) r0
