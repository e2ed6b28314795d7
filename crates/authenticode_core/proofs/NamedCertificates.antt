-- The certificate that the first signer identifies, or none.
use Rattle.std.proofs.Common.{◌≡◌, ◌≢◌, ◌⊎◌, ℕ, List, [], ◌∷◌, inl, inr, refl, sym, ap, subst, ◌∙◌}
use Rattle.asn1_types.specs.Elements.{integer}
use Rattle.asn1_types.specs.Values.{integer_contents}
use Rattle.asn1_types.specs.declared.integer.IntegerAsn1.{IntegerAsn1}
use Rattle.cms_types.specs.SignedDataElements.{SignedDataElements}
use Rattle.cms_types.specs.SignerElements.{SignerElements}
use Rattle.cms_types.specs.SignerIdentifier.{issuer_and_serial_number, signer_identifier}
use Rattle.cms_types.specs.SignerView.{LendsNamed}
use Rattle.cms_types.specs.declared.signer_info.identifier.SignerIdentifier.{SignerIdentifier}
use Rattle.cms_types.specs.declared.signer_info.identifier.SignerIdentifier.TheVariants as named
use Rattle.cms_types.specs.declared.signer_info.issuer_and_serial.IssuerAndSerialNumber.{IssuerAndSerialNumber}
use Rattle.der_core.specs.Optional.{members_of}
use Rattle.der_core.specs.DerElement.{DerElement, Primitive}
use Rattle.der_core.specs.Elements.{sequence}
use Rattle.der_core.specs.Encoding.{encoding}
use Rattle.der_core.specs.Facts.Fronts.{formed_encoding_once}
use Rattle.der_core.specs.Structure.{IsWithin}
use Rattle.der_core.specs.Rules.{IsMet}
use Rattle.name_types.specs.Facts.Names.{names}
use Rattle.name_types.specs.Name.{name}
use Rattle.names_core.specs.declared.name.DirectoryName.{DirectoryName}
use Rattle.x509_types.specs.CertificateElements.{CertificateElements}
use Rattle.authenticode_core.specs.BagSigner.{HasNoSigner}
use Rattle.authenticode_core.specs.CertificateBag.{IsBag}
use Rattle.authenticode_core.specs.Inside.SigningSteps.{ReportsName}
use Rattle.authenticode_core.specs.SignedFields.{IsFirstSigner, signers_of}
use Rattle.authenticode_core.specs.SigningRules.{HasNoCertificate, IsBagOf, IsNamedByKey, RefusesAuthenticodeBy}
use Rattle.authenticode_core.specs.declared.error.AuthenticodeError.{AuthenticodeError}
use Rattle.authenticode_core.specs.declared.error.AuthenticodeError.TheVariants as errors

-- ---- how the first signer identifies its certificate

pub sid_is : (f : SignedDataElements) (g : SignerElements) → (first : IsFirstSigner f g) → g.sid ≡ signer_identifier first.value.sid
sid_is f g first = ap (λ (x : SignerElements). x.sid) first.is

by_key : (element : DerElement) (sid : SignerIdentifier) → element ≡ signer_identifier sid
    → ((value : IssuerAndSerialNumber) → element ≢ issuer_and_serial_number value) → (octets : List ℕ) × (element ≡ Primitive 0x80 octets)
by_key element (named.IssuerAndSerialNumber value) is none = absurd (none value is)
by_key element (named.SubjectKeyIdentifier octets) is none = (octets, is)

pub is_named_by_key : (f : SignedDataElements) (g : SignerElements) → IsFirstSigner f g
    → ((value : IssuerAndSerialNumber) → g.sid ≢ issuer_and_serial_number value) → IsNamedByKey g errors.IncorrectSignerIdentifier
is_named_by_key f g first none =
    let key = by_key g.sid first.value.sid (sid_is f g first) none in
    (key.0, key.1, refl)

pub named_by_key : (f : SignedDataElements) (g : SignerElements) → IsFirstSigner f g → ((value : IssuerAndSerialNumber)
    → g.sid ≢ issuer_and_serial_number value) → RefusesAuthenticodeBy (IsNamedByKey g ∷ HasNoCertificate f g ∷ []) errors.IncorrectSignerIdentifier
named_by_key f g first none = inl (inl (is_named_by_key f g first none))

key_or_name : (octets : List ℕ) (kids : List DerElement) → Primitive 0x80 octets ≡ sequence kids → ⊥
key_or_name octets kids e = absurd cc

by_name : (element : DerElement) (kids : List DerElement) (sid : SignerIdentifier) → element ≡ signer_identifier sid → element ≡ sequence kids
    → (value : IssuerAndSerialNumber) × (element ≡ issuer_and_serial_number value)
by_name element kids (named.IssuerAndSerialNumber value) is lent = (value, is)
by_name element kids (named.SubjectKeyIdentifier octets) is lent = absurd (key_or_name octets kids (sym is ∙ lent))

heads : (x y s t : DerElement) → sequence (x ∷ s ∷ []) ≡ sequence (y ∷ t ∷ []) → x ≡ y
heads x y s t e = cc

-- the borrowed name is the one that is made of its octets
same_name : (element lent : DerElement) (issuer serial_number : List ℕ) (made : DirectoryName) (value : IssuerAndSerialNumber)
    → element ≡ issuer_and_serial_number value → element ≡ sequence (lent ∷ Primitive 0x02 serial_number ∷ [])
    → issuer ≡ encoding lent → issuer ≡ encoding (name made.name) → lent ≡ name made.name
same_name element lent issuer serial_number made value is holds octets returned =
    let head = heads lent (name value.issuer) (Primitive 0x02 serial_number) (integer value.serial_number) (sym holds ∙ is) in
    head ∙ formed_encoding_once (name value.issuer) (name made.name) (names.formed value.issuer) (names.formed made.name)
    (ap encoding (sym head) ∙ sym octets ∙ returned)

-- ---- no certificate

pub returns_name : (issuer serial_number : List ℕ) (made : DirectoryName) (number : IntegerAsn1)
    → IsWithin (λ (element : DerElement) (m : DirectoryName). element ≡ name m.name) issuer made → integer_contents number ≡ serial_number
    → ReportsName issuer serial_number (errors.NoCertificatesAssociatedWithIssuerAndSerialNumber made number)
returns_name issuer serial_number made number within is =
    record { made = made; number = number; issuer_is = within.encoded ∙ ap encoding within.spelled; number_is = is; returned = refl }

has_no_certificate : (f : SignedDataElements) (g : SignerElements) (bag : List CertificateElements) (issuer serial_number : List ℕ) (e : AuthenticodeError)
    → IsFirstSigner f g → IsBagOf f bag → HasNoSigner (signers_of f) bag
    → LendsNamed g.sid issuer serial_number → ReportsName issuer serial_number e → HasNoCertificate f g e
has_no_certificate f g bag issuer serial_number e first is none lent returns =
    let kids = lent.name ∷ Primitive 0x02 serial_number ∷ [] in
    let value = by_name g.sid kids first.value.sid (sid_is f g first) lent.is in
    let same = same_name g.sid lent.name issuer serial_number returns.made value.0 value.1 lent.is lent.octets returns.issuer_is in
    record {
      issuer = returns.made;
      serial_number = returns.number;
      named = lent.is
          ∙ ap (λ (x : DerElement). sequence (x ∷ Primitive 0x02 serial_number ∷ [])) same
          ∙ ap (λ (octets : List ℕ). sequence (name returns.made.name ∷ Primitive 0x02 octets ∷ [])) (sym returns.number_is);
      bag = bag;
      is_bag = is;
      none = none;
      returned = returns.returned;
    }

pub no_certificate : (f : SignedDataElements) (g : SignerElements) (bag : List CertificateElements) (issuer serial_number : List ℕ) (e : AuthenticodeError)
    → IsFirstSigner f g → IsBagOf f bag → HasNoSigner (signers_of f) bag
    → LendsNamed g.sid issuer serial_number → ReportsName issuer serial_number e ⊎ (e ≡ errors.Memory)
    → RefusesAuthenticodeBy (IsNamedByKey g ∷ HasNoCertificate f g ∷ []) e
no_certificate f g bag issuer serial_number e first is none lent (inl returns) =
    let met : IsMet (IsNamedByKey g) = λ x broken. key_or_name broken.0 (lent.name ∷ Primitive 0x02 serial_number ∷ []) (sym broken.1 ∙ lent.is) in
    inl (inr (met, inl (has_no_certificate f g bag issuer serial_number e first is none lent returns)))
no_certificate f g bag issuer serial_number e first is none lent (inr memory) = inr memory

-- ---- the bag

-- a bag of the members before a cursor is that of the signed data
pub bag_of : (f : SignedDataElements) (left : List DerElement) (bag : List CertificateElements) → left ≡ members_of f.certificates → IsBag left bag
    → IsBagOf f bag
bag_of f left bag same is = subst (λ (members : List DerElement). IsBag members bag) same is
