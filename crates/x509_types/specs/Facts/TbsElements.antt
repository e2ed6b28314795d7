-- The fields of a TBSCertificate: different ones have different elements, and the element around
-- well-formed ones is well formed.
use Rattle.std.proofs.Common.{◌≡◌, ℕ, List, ◌∷◌, ◌++◌, Option, Some, None, refl, arith}
use Rattle.der_core.specs.DerElement.{DerElement, Primitive}
use Rattle.der_core.specs.Encoding.{IsWellFormed}
use Rattle.der_core.specs.Structure.{BeginsOtherwise}
use Rattle.der_core.specs.Facts.Grammars.{same_fields}
use Rattle.der_core.specs.Elements.{optional_explicit, optional_leaf}
use Rattle.x509_types.specs.TbsElements.{TbsElements, tbs_tail, tbs_of}
use Rattle.der_core.specs.Facts.Fields.{split}
use Rattle.der_core.specs.Facts.Optional.{IsFormedOption, leaf_field, leaf_once, leaf_formed, explicit_field, explicit_once, explicit_formed, last_formed}

-- extensions aren't the subject's unique identifier
pub no_subject : (extensions : Option DerElement) → BeginsOtherwise 0x82 (optional_explicit 0xA3 extensions)
no_subject None = tt
no_subject (Some kid) = λ e. omega (arith, e)

-- what follows the issuer's unique identifier isn't that
pub no_issuer : (subject : Option (List ℕ)) (extensions : Option DerElement)
    → BeginsOtherwise 0x81 (optional_leaf 0x82 subject ++ optional_explicit 0xA3 extensions)
no_issuer None None = tt
no_issuer None (Some kid) = λ e. omega (arith, e)
no_issuer (Some content) extensions = λ e. omega (arith, e)

pub record IsSameTail (f g : TbsElements) : Type 0 where
  pub issuer : f.issuer_unique_id ≡ g.issuer_unique_id
  pub subject : f.subject_unique_id ≡ g.subject_unique_id
  pub extensions : f.extensions ≡ g.extensions

same_tail : (f g : TbsElements) → tbs_tail f ≡ tbs_tail g → IsSameTail f g
same_tail f g e =
    let x = optional_explicit 0xA3 f.extensions in
    let y = optional_explicit 0xA3 g.extensions in
    let s = optional_leaf 0x82 f.subject_unique_id in
    let t = optional_leaf 0x82 g.subject_unique_id in
    let issuers = split 0x81 (optional_leaf 0x81 f.issuer_unique_id)
    (optional_leaf 0x81 g.issuer_unique_id) (s ++ x) (t ++ y)
    (leaf_field 0x81 f.issuer_unique_id) (leaf_field 0x81 g.issuer_unique_id)
    (λ none. no_issuer f.subject_unique_id f.extensions)
    (λ none. no_issuer g.subject_unique_id g.extensions) e in
    let subjects = split 0x82 s t x y (leaf_field 0x82 f.subject_unique_id)
    (leaf_field 0x82 g.subject_unique_id) (λ none. no_subject f.extensions)
    (λ none. no_subject g.extensions) issuers.1 in
    record {
      issuer = leaf_once 0x81 f.issuer_unique_id g.issuer_unique_id issuers.0;
      subject = leaf_once 0x82 f.subject_unique_id g.subject_unique_id subjects.0;
      extensions = explicit_once 0xA3 f.extensions g.extensions subjects.1;
    }

-- the fields after the version
abbrev pub behind : TbsElements → List DerElement
behind f = Primitive 0x02 f.serial_number ∷ f.signature ∷ f.issuer ∷ f.validity ∷ f.subject ∷ f.subject_public_key_info ∷ tbs_tail f

-- the fields of an element are unique
pub same_elements : (f g : TbsElements) → tbs_of f ≡ tbs_of g → f ≡ g
same_elements f g e =
    let versions = split 0xA0 (optional_explicit 0xA0 f.version) (optional_explicit 0xA0 g.version)
    (behind f) (behind g) (explicit_field 0xA0 f.version) (explicit_field 0xA0 g.version)
    (λ none t. omega (arith, t)) (λ none t. omega (arith, t))
    (same_fields (optional_explicit 0xA0 f.version ++ behind f) (optional_explicit 0xA0 g.version ++ behind g) e) in
    let kids : behind f ≡ behind g = versions.1 in
    let version : f.version ≡ g.version = explicit_once 0xA0 f.version g.version versions.0 in
    let serial_number : f.serial_number ≡ g.serial_number = cc in
    let signature : f.signature ≡ g.signature = cc in
    let issuer : f.issuer ≡ g.issuer = cc in
    let validity : f.validity ≡ g.validity = cc in
    let subject : f.subject ≡ g.subject = cc in
    let key : f.subject_public_key_info ≡ g.subject_public_key_info = cc in
    let tails : tbs_tail f ≡ tbs_tail g = cc in
    let tail = same_tail f g tails in
    λ i. record {
      version = version i;
      serial_number = serial_number i;
      signature = signature i;
      issuer = issuer i;
      validity = validity i;
      subject = subject i;
      subject_public_key_info = key i;
      issuer_unique_id = tail.issuer i;
      subject_unique_id = tail.subject i;
      extensions = tail.extensions i;
    }

-- Each field is well formed.
pub record AreFormed (f : TbsElements) : Type 0 where
  pub version : IsFormedOption f.version
  pub signature : IsWellFormed f.signature
  pub issuer : IsWellFormed f.issuer
  pub validity : IsWellFormed f.validity
  pub subject : IsWellFormed f.subject
  pub key : IsWellFormed f.subject_public_key_info
  pub extensions : IsFormedOption f.extensions

pub elements_formed : (f : TbsElements) → AreFormed f → IsWellFormed (tbs_of f)
elements_formed f formed =
    let subject = leaf_formed 0x82 f.subject_unique_id (optional_explicit 0xA3 f.extensions)
    (omega arith, omega arith, omega arith) refl
    (last_formed 0xA3 f.extensions (omega arith, omega arith, omega arith) refl formed.extensions) in
    let tail = leaf_formed 0x81 f.issuer_unique_id
    (optional_leaf 0x82 f.subject_unique_id ++ optional_explicit 0xA3 f.extensions)
    (omega arith, omega arith, omega arith) refl subject in
    let serial : IsWellFormed (Primitive 0x02 f.serial_number) = ((omega arith, omega arith, omega arith), refl) in (
      (omega arith, omega arith, omega arith),
      refl,
      explicit_formed 0xA0 f.version (behind f) (omega arith, omega arith, omega arith) refl formed.version
          (serial, (formed.signature, (formed.issuer, (formed.validity, (formed.subject, (formed.key, tail)))))),
    )
