-- The certificate that the first signer identifies, among others.
use Rattle.std.proofs.Common.{◌≡◌, ◌↔◌, ℕ, suc, ◌<◌, ◌≤◌, ◌⊎◌, List, [], ◌∷◌, Some, Bool, false}
use Rattle.std.proofs.Common.{IsTrue, map, length, refl, sym, ap, subst, ◌∙◌, inl, inr, arith}
use Rattle.std.specs.Prelude.{bytes_eq, slice_get}
use Rattle.std.proofs.lemmas.Bool.{both_ways, cases_lt}
use Rattle.std.proofs.lemmas.List.{length-map}
use Rattle.std.proofs.lemmas.Option.{slice_get-map, slice_get_within}
use Rattle.std.proofs.lemmas.Slice.Eq.{bytes_eq-Decides}
use Rattle.std.specs.Option.{option_map}
use Rattle.authenticode_core.specs.declared.error.AuthenticodeError.{AuthenticodeError}
use Rattle.authenticode_core.specs.declared.error.AuthenticodeError.TheVariants as errors
use Rattle.der_core.specs.DerElement.{DerElement}
use Rattle.der_core.specs.Encoding.{encoding}
use Rattle.asn1_types.specs.Values.{integer_contents}
use Rattle.name_types.specs.Name.{name}
use Rattle.name_types.specs.declared.attribute.AttributeTypeAndValue.{AttributeTypeAndValue}
use Rattle.x509_types.specs.CertificateElements.{CertificateElements}
use Rattle.x509_core.specs.OwnedCertificate.{KeptCertificate}
use Rattle.authenticode_parts.specs.Carried.{elements_of}
use Rattle.authenticode_parts.proofs.OwnedNames.{issuer_is, serial_is}
use Rattle.cms_types.specs.Facts.SignerInfos.{signer_infos}
use Rattle.cms_types.specs.SignerInfo.{signer_info}
use Rattle.cms_types.specs.declared.signer_info.SignerInfo.{SignerInfo}
use Rattle.cms_types.specs.declared.signer_info.identifier.SignerIdentifier.{SignerIdentifier}
use Rattle.cms_types.specs.declared.signer_info.identifier.SignerIdentifier.TheVariants as named
use Rattle.cms_types.specs.declared.signer_info.issuer_and_serial.IssuerAndSerialNumber.{IssuerAndSerialNumber}
use Rattle.authenticode_core.specs.BagSigner.{IsNamedByFirst, HasNoSigner, HasIssuerAndSerial}
use Rattle.authenticode_core.specs.Indices.{HasNoPlace, HasNoPlaceBetween, IsLeastPlace, StandsAt}
use Rattle.authenticode_signature.specs.SigningCertificate.{FirstNames, IsNamedOtherwise, IsSigningCertificate}

-- ---- the index of a certificate

pub stands_at : (certificates : List KeptCertificate) (place : ℕ) (k : KeptCertificate) → slice_get certificates place ≡ Some k
    → StandsAt (elements_of certificates) place k.elements
stands_at certificates place k at = slice_get-map (λ (c : KeptCertificate). c.elements) certificates place
    ∙ ap (option_map (λ (c : KeptCertificate). c.elements)) at

-- one more index for which the rule doesn't hold
one_more : (bag : List CertificateElements) (holds : CertificateElements → Type 0) (place : ℕ) (c : CertificateElements) → HasNoPlaceBetween bag holds 0 place
    → StandsAt bag place c → (holds c → ⊥)
    → (other : ℕ) (d : CertificateElements) → other < suc place → StandsAt bag other d → holds d → (other < place) ⊎ (place ≤ other) → ⊥
one_more bag holds place c none stands fails other d before at fits (inl less) = none other d (omega arith) less at fits
one_more bag holds place c none stands fails other d before at fits (inr more) =
    let place_is : other ≡ place = omega (arith, before, more) in
    let there : StandsAt bag place d = subst (λ (n : ℕ). StandsAt bag n d) place_is at in
    let some : Some d ≡ Some c = sym there ∙ stands in
    let same : d ≡ c = cc in
    fails (subst holds same fits)

pub none_yet : (bag : List CertificateElements) (holds : CertificateElements → Type 0) (place next : ℕ) (c : CertificateElements) → next ≡ suc place
    → HasNoPlaceBetween bag holds 0 place → StandsAt bag place c → (holds c → ⊥) → HasNoPlaceBetween bag holds 0 next
none_yet bag holds place next c e none stands fails other d later before at fits =
    one_more bag holds place c none stands fails other d (omega (arith, before, e)) at fits (cases_lt other place)

pub none_at_all : (certificates : List KeptCertificate) (holds : CertificateElements → Type 0) (place : ℕ)
    → HasNoPlaceBetween (elements_of certificates) holds 0 place → length certificates ≤ place → HasNoPlace (elements_of certificates) holds 0
none_at_all certificates holds place none e at c later stands fits =
    none at c later (omega (arith, slice_get_within (elements_of certificates) at c stands, length-map certificates (λ (k : KeptCertificate). k.elements), e))
    stands fits

-- the certificate at the index is the first for which the rule holds
pub found_at : (certificates : List KeptCertificate) (holds : CertificateElements → Type 0) (place : ℕ) (k : KeptCertificate)
    → slice_get certificates place ≡ Some k → HasNoPlaceBetween (elements_of certificates) holds 0 place → holds k.elements
    → (p : ℕ) × (slice_get certificates p ≡ Some k) × IsLeastPlace (elements_of certificates) holds 0 p k.elements
found_at certificates holds place k at none fits =
    (place, at, record { later = omega arith; stands = stands_at certificates place k at; fits = fits; least = none })

-- ---- what the first signer identifies

heads : (a b : DerElement) (x y : List DerElement) → a ∷ x ≡ b ∷ y → a ≡ b
heads a b x y e = cc

one_first : (a b : SignerInfo) (x y : List SignerInfo) → a ∷ x ≡ b ∷ y → a ≡ b
one_first a b x y e = cc

values : (v w : IssuerAndSerialNumber) → named.IssuerAndSerialNumber v ≡ named.IssuerAndSerialNumber w → v ≡ w
values v w e = cc

pub first_is : (signers : List SignerInfo) (signer : SignerInfo) (sid : SignerIdentifier) → Some signer ≡ slice_get signers 0 → signer.sid ≡ sid
    → FirstNames signers sid
first_is [] signer sid at is = absurd (cc at)
first_is (x ∷ others) signer sid at is =
    let same : x ≡ signer = cc (at) in
    record { signer = x; others = others; first = refl; named = ap (λ (s : SignerInfo). s.sid) same ∙ is }

pub first_by_key : (signers : List SignerInfo) (signer : SignerInfo) (octets : List ℕ) → Some signer ≡ slice_get signers 0
    → signer.sid ≡ named.SubjectKeyIdentifier octets → (o : List ℕ) × FirstNames signers (named.SubjectKeyIdentifier o)
first_by_key signers signer octets at is = (octets, first_is signers signer (named.SubjectKeyIdentifier octets) at is)

-- it is identified in one way
pub not_otherwise : (signers : List SignerInfo) (value : IssuerAndSerialNumber) (e : AuthenticodeError) → FirstNames signers (named.IssuerAndSerialNumber value)
    → IsNamedOtherwise signers e → ⊥
not_otherwise signers value (errors.MultipleSignerInfo count) f is = let none : f.signer ∷ f.others ≡ [] = sym f.first ∙ is.0 in absurd cc
not_otherwise signers value errors.IncorrectSignerIdentifier f is =
    let signer : f.signer ≡ is.1.signer = one_first f.signer is.1.signer f.others is.1.others (sym f.first ∙ is.1.first) in
    let both : named.IssuerAndSerialNumber value ≡ named.SubjectKeyIdentifier is.0 = sym f.named ∙ ap (λ (s : SignerInfo). s.sid) signer ∙ is.1.named in
    absurd cc
not_otherwise signers value _ f is = absurd is

pub one_otherwise : (signers : List SignerInfo) (a b : AuthenticodeError) → IsNamedOtherwise signers a → IsNamedOtherwise signers b → a ≡ b
one_otherwise signers (errors.MultipleSignerInfo count) (errors.MultipleSignerInfo other) p q = ap errors.MultipleSignerInfo (p.1 ∙ sym q.1)
one_otherwise signers (errors.MultipleSignerInfo count) errors.IncorrectSignerIdentifier p q =
    let none : q.1.signer ∷ q.1.others ≡ [] = sym q.1.first ∙ p.0 in absurd cc
one_otherwise signers errors.IncorrectSignerIdentifier (errors.MultipleSignerInfo count) p q =
    let none : p.1.signer ∷ p.1.others ≡ [] = sym p.1.first ∙ q.0 in absurd cc
one_otherwise signers errors.IncorrectSignerIdentifier errors.IncorrectSignerIdentifier p q = refl
one_otherwise signers (errors.MultipleSignerInfo count) _ p q = absurd q
one_otherwise signers errors.IncorrectSignerIdentifier _ p q = absurd q
one_otherwise signers _ b p q = absurd p

same_named : (signers : List SignerInfo) (value : IssuerAndSerialNumber) (c : CertificateElements) → FirstNames signers (named.IssuerAndSerialNumber value)
    → (n : IsNamedByFirst (map signer_info signers) c) → n.value ≡ value
same_named signers value c f n =
    let element : signer_info n.signer ≡ signer_info f.signer =
    heads (signer_info n.signer) (signer_info f.signer) n.others (map signer_info f.others) (sym n.first ∙ ap (map signer_info) f.first) in
    let signer : n.signer ≡ f.signer = signer_infos.once (signer_info f.signer) n.signer f.signer (sym element) refl in
    values n.value value (sym n.sid ∙ ap (λ (s : SignerInfo). s.sid) signer ∙ f.named)

pub names_it : (signers : List SignerInfo) (value : IssuerAndSerialNumber) (c : CertificateElements) → FirstNames signers (named.IssuerAndSerialNumber value)
    → HasIssuerAndSerial value c ↔ IsNamedByFirst (map signer_info signers) c
names_it signers value c f = (
  λ by. record { signer = f.signer; others = map signer_info f.others; first = ap (map signer_info) f.first; value = value; sid = f.named; has = by },
  λ n. subst (λ (v : IssuerAndSerialNumber). HasIssuerAndSerial v c) (same_named signers value c f n) n.has,
)

pub is_signing : (signers : List SignerInfo) (value : IssuerAndSerialNumber) (certificates : List KeptCertificate) (k : KeptCertificate)
    → FirstNames signers (named.IssuerAndSerialNumber value)
    → (place : ℕ) → slice_get certificates place ≡ Some k → IsLeastPlace (elements_of certificates) (HasIssuerAndSerial value) 0 place k.elements
    → IsSigningCertificate signers certificates k
is_signing signers value certificates k f place at is = record {
  place = place;
  stands = at;
  is_signer = record {
    later = is.later;
    stands = is.stands;
    fits = (names_it signers value k.elements f).0 is.fits;
    least = λ other c later before stands fits. is.least other c later before stands ((names_it signers value c f).1 fits);
  };
}

pub no_signer : (signers : List SignerInfo) (value : IssuerAndSerialNumber) (certificates : List KeptCertificate)
    → FirstNames signers (named.IssuerAndSerialNumber value)
    → HasNoPlace (elements_of certificates) (HasIssuerAndSerial value) 0 → HasNoSigner (map signer_info signers) (elements_of certificates)
no_signer signers value certificates f none place c later stands fits = none place c later stands ((names_it signers value c f).1 fits)

-- ---- whether a certificate is identified

pub is_named_by : (value : IssuerAndSerialNumber) (kept : KeptCertificate) (test : Bool) (issuer : List (List AttributeTypeAndValue))
    → kept.certificate.tbs_certificate.serial_number ≡ value.serial_number
    → issuer ≡ kept.certificate.tbs_certificate.issuer → test ≡ bytes_eq (encoding (name issuer)) (encoding (name value.issuer))
    → IsTrue test ↔ HasIssuerAndSerial value kept.elements
is_named_by value kept test issuer serial copied e =
    let octets : encoding (name issuer) ≡ encoding kept.elements.tbs.issuer =
    ap (λ (n : List (List AttributeTypeAndValue)). encoding (name n)) copied ∙ sym (ap encoding (issuer_is kept)) in (
      λ holds. (
        sym ((bytes_eq-Decides (encoding (name issuer)) (encoding (name value.issuer))).0 (sym e ∙ holds)) ∙ octets,
        ap integer_contents (sym serial) ∙ sym (serial_is kept),
      ),
      λ by. e ∙ (bytes_eq-Decides (encoding (name issuer)) (encoding (name value.issuer))).1 (octets ∙ sym by.0),
    )

pub is_not_named : (value : IssuerAndSerialNumber) (kept : KeptCertificate) (test : Bool)
    → test ≡ bytes_eq (integer_contents kept.certificate.tbs_certificate.serial_number) (integer_contents value.serial_number) → test ≡ false
    → HasIssuerAndSerial value kept.elements → ⊥
is_not_named value kept test e fails by =
    let serial = integer_contents kept.certificate.tbs_certificate.serial_number in
    both_ways (bytes_eq serial (integer_contents value.serial_number)) (sym e ∙ fails)
    ((bytes_eq-Decides serial (integer_contents value.serial_number)).1 (sym (serial_is kept) ∙ sym by.1))
