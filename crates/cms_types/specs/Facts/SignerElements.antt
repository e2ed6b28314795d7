-- The fields of signers and of signed data: different ones have different elements, and the element
-- of well-formed ones is well formed.
use Rattle.std.proofs.Common.{◌≡◌, ◌≢◌, ℕ, List, [], ◌∷◌, ◌++◌, Option, Some, None, refl, ap, arith}
use Rattle.std.specs.Prelude.{option_to_list}
use Rattle.der_core.specs.Facts.Optional.{kept_once}
use Rattle.der_core.specs.DerElement.{DerElement, row, tag_of}
use Rattle.der_core.specs.Encoding.{IsWellFormed, AreWellFormed}
use Rattle.der_core.specs.Structure.{Fits, BeginsOtherwise}
use Rattle.der_core.specs.Facts.Fields.{IsField, split}
use Rattle.der_core.specs.Facts.Grammars.{same_fields}
use Rattle.x509_types.specs.Attribute.{AreAttributes}
use Rattle.cms_types.specs.SignerElements.{SignerElements, signer_of}
use Rattle.cms_types.specs.SignedDataElements.{SignedDataElements, signed_data_of}
use Rattle.cms_types.specs.Levels.{OfOption, IsConstructed, IsAlgorithm, AreSignerFields, AreSignedDataFields}

-- ---- optional elements

none_of : (a : Option DerElement) → option_to_list a ≡ [] → a ≡ None
none_of None e = refl
none_of (Some x) e = absurd cc

tagged_field : (tag : ℕ) (a : Option DerElement) → OfOption (λ e. tag_of e ≡ tag) a → IsField tag (option_to_list a)
tagged_field tag None tagged = tt
tagged_field tag (Some x) tagged = tagged

-- elements begin with an optional one of the tag in one way
pub options_split : (tag : ℕ) (a b : Option DerElement) (xs ys : List DerElement) → OfOption (λ e. tag_of e ≡ tag) a → OfOption (λ e. tag_of e ≡ tag) b
    → (a ≡ None → BeginsOtherwise tag xs) → (b ≡ None → BeginsOtherwise tag ys) → option_to_list a ++ xs ≡ option_to_list b ++ ys → (a ≡ b) × (xs ≡ ys)
options_split tag a b xs ys p q f g e =
    let parts = split tag (option_to_list a) (option_to_list b) xs ys (tagged_field tag a p) (tagged_field tag b q) (λ none. f (none_of a none))
    (λ none. g (none_of b none)) e in
    (kept_once a b parts.0, parts.1)

-- ---- signers

-- The optional fields have their tags.
pub record IsDetermined (f : SignerElements) : Type 0 where
  pub signed_attrs : OfOption (λ e. tag_of e ≡ 0xA0) f.signed_attrs
  pub signature_algorithm : tag_of f.signature_algorithm ≢ 0xA0

signed_tagged : (a : Option DerElement) → OfOption (Fits AreAttributes) a → OfOption (λ e. tag_of e ≡ 0xA0) a
signed_tagged None fits = tt
signed_tagged (Some x) fits = ap tag_of fits.1.holds

pub algorithm_tag : (x : DerElement) → Fits IsAlgorithm x → tag_of x ≢ 0xA0
algorithm_tag x fit = λ e. let here : tag_of x ≡ 0x30 = ap tag_of fit.1 in omega (arith, e, here)

pub determined_fields : (f : SignerElements) → AreSignerFields f → IsDetermined f
determined_fields f fields = record {
  signed_attrs = signed_tagged f.signed_attrs fields.signed_attrs;
  signature_algorithm = algorithm_tag f.signature_algorithm fields.signature_algorithm;
}

abbrev pub signer_tail : SignerElements → List DerElement
signer_tail f = f.signature_algorithm ∷ f.signature ∷ option_to_list f.unsigned_attrs

abbrev pub signer_kids : SignerElements → List DerElement
signer_kids f = f.version ∷ f.sid ∷ f.digest_algorithm ∷ (option_to_list f.signed_attrs ++ signer_tail f)

-- the element of a signer determines its fields
pub same_signer : (f g : SignerElements) → IsDetermined f → IsDetermined g → signer_of f ≡ signer_of g → f ≡ g
same_signer f g fixed fixed' e =
    let kids : signer_kids f ≡ signer_kids g = same_fields (signer_kids f) (signer_kids g) e in
    let version : f.version ≡ g.version = cc in
    let sid : f.sid ≡ g.sid = cc in
    let digest_algorithm : f.digest_algorithm ≡ g.digest_algorithm = cc in
    let others : option_to_list f.signed_attrs ++ signer_tail f ≡ option_to_list g.signed_attrs ++ signer_tail g = cc in
    let parts = options_split 0xA0 f.signed_attrs g.signed_attrs (signer_tail f) (signer_tail g) fixed.signed_attrs fixed'.signed_attrs
    (λ none. fixed.signature_algorithm) (λ none. fixed'.signature_algorithm) others in
    let tails : signer_tail f ≡ signer_tail g = parts.1 in
    let signature_algorithm : f.signature_algorithm ≡ g.signature_algorithm = cc in
    let signature : f.signature ≡ g.signature = cc in
    let last : option_to_list f.unsigned_attrs ≡ option_to_list g.unsigned_attrs = cc in
    let unsigned_attrs = kept_once f.unsigned_attrs g.unsigned_attrs last in
    λ i. record {
      version = version i;
      sid = sid i;
      digest_algorithm = digest_algorithm i;
      signed_attrs = parts.0 i;
      signature_algorithm = signature_algorithm i;
      signature = signature i;
      unsigned_attrs = unsigned_attrs i;
    }

option_formed : (a : Option DerElement) (rest : List DerElement) → OfOption IsWellFormed a → AreWellFormed (row rest)
    → AreWellFormed (row (option_to_list a ++ rest))
option_formed None rest inside formed = formed
option_formed (Some x) rest inside formed = (inside, formed)

last_formed : (a : Option DerElement) → OfOption IsWellFormed a → AreWellFormed (row (option_to_list a))
last_formed None inside = tt
last_formed (Some x) inside = (inside, tt)

-- Each field is well formed.
pub record IsFormedSigner (f : SignerElements) : Type 0 where
  pub version : IsWellFormed f.version
  pub sid : IsWellFormed f.sid
  pub digest_algorithm : IsWellFormed f.digest_algorithm
  pub signed_attrs : OfOption IsWellFormed f.signed_attrs
  pub signature_algorithm : IsWellFormed f.signature_algorithm
  pub signature : IsWellFormed f.signature
  pub unsigned_attrs : OfOption IsWellFormed f.unsigned_attrs

pub signer_formed : (f : SignerElements) → IsFormedSigner f → IsWellFormed (signer_of f)
signer_formed f formed =
    let tail : AreWellFormed (row (signer_tail f)) = (formed.signature_algorithm, (formed.signature, last_formed f.unsigned_attrs formed.unsigned_attrs)) in (
      (omega arith, omega arith, omega arith),
      refl,
      (formed.version, (formed.sid, (formed.digest_algorithm, option_formed f.signed_attrs (signer_tail f) formed.signed_attrs tail))),
    )

-- ---- signed data

pub record IsDeterminedData (f : SignedDataElements) : Type 0 where
  pub certificates : OfOption (λ e. tag_of e ≡ 0xA0) f.certificates
  pub crls : OfOption (λ e. tag_of e ≡ 0xA1) f.crls
  pub signers_infos : tag_of f.signers_infos ≡ 0x31

constructed_tag : (tag : ℕ) (a : Option DerElement) → OfOption (IsConstructed tag) a → OfOption (λ e. tag_of e ≡ tag) a
constructed_tag tag None is = tt
constructed_tag tag (Some x) is = ap tag_of is.1

pub determined_data : (f : SignedDataElements) → AreSignedDataFields f → IsDeterminedData f
determined_data f fields = record {
  certificates = constructed_tag 0xA0 f.certificates fields.certificates;
  crls = constructed_tag 0xA1 f.crls fields.crls;
  signers_infos = ap tag_of fields.signers_infos.1;
}

abbrev pub data_tail : SignedDataElements → List DerElement
data_tail f = option_to_list f.crls ++ f.signers_infos ∷ []

abbrev pub data_kids : SignedDataElements → List DerElement
data_kids f = f.version ∷ f.digest_algorithms ∷ f.content_info ∷ (option_to_list f.certificates ++ data_tail f)

-- what follows the certificates has another tag
pub no_certificates : (crls : Option DerElement) (signers : DerElement) → OfOption (λ e. tag_of e ≡ 0xA1) crls → tag_of signers ≡ 0x31
    → BeginsOtherwise 0xA0 (option_to_list crls ++ signers ∷ [])
no_certificates None signers tagged last = λ e. omega (arith, e, last)
no_certificates (Some x) signers tagged last = λ e. omega (arith, e, tagged)

pub no_crls : (signers : DerElement) → tag_of signers ≡ 0x31 → BeginsOtherwise 0xA1 (signers ∷ [])
no_crls signers last = λ e. omega (arith, e, last)

-- the element of signed data determines its fields
pub same_data : (f g : SignedDataElements) → IsDeterminedData f → IsDeterminedData g → signed_data_of f ≡ signed_data_of g → f ≡ g
same_data f g fixed fixed' e =
    let kids : data_kids f ≡ data_kids g = same_fields (data_kids f) (data_kids g) e in
    let version : f.version ≡ g.version = cc in
    let digest_algorithms : f.digest_algorithms ≡ g.digest_algorithms = cc in
    let content_info : f.content_info ≡ g.content_info = cc in
    let others : option_to_list f.certificates ++ data_tail f ≡ option_to_list g.certificates ++ data_tail g = cc in
    let certificates = options_split 0xA0 f.certificates g.certificates (data_tail f) (data_tail g) fixed.certificates fixed'.certificates
    (λ none. no_certificates f.crls f.signers_infos fixed.crls fixed.signers_infos)
    (λ none. no_certificates g.crls g.signers_infos fixed'.crls fixed'.signers_infos) others in
    let crls = options_split 0xA1 f.crls g.crls (f.signers_infos ∷ []) (g.signers_infos ∷ []) fixed.crls fixed'.crls
    (λ none. no_crls f.signers_infos fixed.signers_infos) (λ none. no_crls g.signers_infos fixed'.signers_infos) certificates.1 in
    let tails : f.signers_infos ∷ [] ≡ g.signers_infos ∷ [] = crls.1 in
    let signers_infos : f.signers_infos ≡ g.signers_infos = cc in
    λ i. record {
      version = version i;
      digest_algorithms = digest_algorithms i;
      content_info = content_info i;
      certificates = certificates.0 i;
      crls = crls.0 i;
      signers_infos = signers_infos i;
    }

-- Each field is well formed.
pub record IsFormedData (f : SignedDataElements) : Type 0 where
  pub version : IsWellFormed f.version
  pub digest_algorithms : IsWellFormed f.digest_algorithms
  pub content_info : IsWellFormed f.content_info
  pub certificates : OfOption IsWellFormed f.certificates
  pub crls : OfOption IsWellFormed f.crls
  pub signers_infos : IsWellFormed f.signers_infos

pub data_formed : (f : SignedDataElements) → IsFormedData f → IsWellFormed (signed_data_of f)
data_formed f formed =
    let tail : AreWellFormed (row (data_tail f)) = option_formed f.crls (f.signers_infos ∷ []) formed.crls (formed.signers_infos, tt) in (
      (omega arith, omega arith, omega arith),
      refl,
      (formed.version, (formed.digest_algorithms, (formed.content_info, option_formed f.certificates (data_tail f) formed.certificates tail))),
    )
