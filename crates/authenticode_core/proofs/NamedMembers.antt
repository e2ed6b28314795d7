-- The first member of a bag that is a certificate with an issuer and a serial number.
use Rattle.std.proofs.Common.{◌≡◌, ◌≢◌, ◌↔◌, IsTrue, Bool, Option, Some, MatchOption, ℕ, List, [], ◌∷◌, ◌++◌}
use Rattle.std.proofs.Common.{inl, inr, refl, sym, ap, subst, ◌∙◌, append_assoc, arith, length, length-append}
use Rattle.asn1_types.specs.Values.{integer_contents}
use Rattle.cms_types.specs.SignedDataElements.{SignedDataElements}
use Rattle.cms_types.specs.SignerElements.{SignerElements}
use Rattle.cms_types.specs.SignerIdentifier.{issuer_and_serial_number, signer_identifier}
use Rattle.cms_types.specs.SignerInfo.{signer_elements, signer_info}
use Rattle.cms_types.specs.SignerView.{LendsNamed}
use Rattle.cms_types.specs.declared.signer_info.identifier.SignerIdentifier.{SignerIdentifier}
use Rattle.cms_types.specs.declared.signer_info.identifier.SignerIdentifier.TheVariants as named
use Rattle.cms_types.specs.declared.signer_info.issuer_and_serial.IssuerAndSerialNumber.{IssuerAndSerialNumber}
use Rattle.der_core.specs.DerElement.{DerElement, Primitive}
use Rattle.der_core.specs.Elements.{sequence}
use Rattle.der_core.specs.Encoding.{encoding}
use Rattle.name_types.specs.Name.{name}
use Rattle.x509_types.specs.CertificateElements.{CertificateElements}
use Rattle.x509_types.specs.CertificateView.{view_elements}
use Rattle.authenticode_core.specs.BagSigner.{HasNoSigner, IsNamedByFirst}
use Rattle.authenticode_core.specs.CertificateBag.{IsBag, IsMember}
use Rattle.authenticode_core.specs.Indices.{StandsAt, HasNoPlaceBetween, HasNoPlace, IsLeastPlace}
use Rattle.authenticode_core.specs.Inside.Naming.{IsFirstOfName, IsNamedAt}
use Rattle.authenticode_core.specs.SigningRules.{AsksForPurposes}
use Rattle.authenticode_core.specs.declared.bag.BagCertificate.{BagCertificate}
use Rattle.authenticode_core.specs.Inside.Wanted.{IsNamedBy}
use Rattle.authenticode_core.specs.SignedFields.{IsFirstSigner, signers_of}
use Rattle.authenticode_core.proofs.OneCertificate.{one_certificate}
use Rattle.authenticode_core.proofs.IndexSteps.{here, none_behind, none_yet}
use Rattle.authenticode_core.proofs.WalkSteps.{least_once}
use Rattle.authenticode_core.proofs.SignerSteps.{heads, same_sid, two, contents}
use Rattle.authenticode_core.proofs.NamedCertificates.{sid_is}

-- The members that are left have the end of the bag, and the rule holds for no certificate before
-- it.
pub record Unnamed (left : List DerElement) (bag : List CertificateElements) (holds : CertificateElements → Type 0) : Type 0 where
  pub before : List CertificateElements
  pub behind : List CertificateElements
  pub are : bag ≡ before ++ behind
  pub others : IsBag left behind
  pub none : HasNoPlaceBetween bag holds 0 (length before)

pub unnamed_yet : (left : List DerElement) (bag : List CertificateElements) (holds : CertificateElements → Type 0) → IsBag left bag → Unnamed left bag holds
unnamed_yet left bag holds p = record { before = []; behind = bag; are = refl; others = p; none = λ place c later less at fits. absurd (omega (arith, less)) }

stands_there : (bag before others : List CertificateElements) (c : CertificateElements) → bag ≡ before ++ c ∷ others → StandsAt bag (length before) c
stands_there bag before others c are = subst (λ (b : List CertificateElements). StandsAt b (length before) c) (sym are) (here before others c)

module _ (member : DerElement) (left : List DerElement) (bag : List CertificateElements) (holds : CertificateElements → Type 0) where
  passed : (before behind : List CertificateElements) → bag ≡ before ++ behind → HasNoPlaceBetween bag holds 0 (length before)
      → ((c : CertificateElements) → IsMember member c → holds c → ⊥) → IsBag (member ∷ left) behind → Unnamed left bag holds
  passed before behind are none refused (inl p) = record { before = before; behind = behind; are = are; others = p.1; none = none }
  passed before behind are none refused (inr p) =
      let whole : bag ≡ before ++ p.0 ∷ p.1 = are ∙ ap (λ (rest : List CertificateElements). before ++ rest) p.2 in
      record {
        before = before ++ p.0 ∷ [];
        behind = p.1;
        are = whole ∙ sym (append_assoc before (p.0 ∷ []) p.1);
        others = p.4;
        none = λ place c later less at fits.
            none_yet bag holds 0 (length before) p.0 none (stands_there bag before p.1 p.0 whole) (refused p.0 p.3) place c later
            (omega (arith, less, length-append before (p.0 ∷ []))) at fits;
      }

  found : (before behind : List CertificateElements) (c : CertificateElements) → bag ≡ before ++ behind → HasNoPlaceBetween bag holds 0 (length before)
      → IsMember member c → holds c → IsBag (member ∷ left) behind
      → (place : ℕ) × IsLeastPlace bag holds 0 place c
  found before behind c are none m fits (inl p) = absurd (p.0 c m)
  found before behind c are none m fits (inr p) =
      let same : p.0 ≡ c = one_certificate p.0 c (sym p.3.is ∙ m.is) in
      let whole : bag ≡ before ++ p.0 ∷ p.1 = are ∙ ap (λ (rest : List CertificateElements). before ++ rest) p.2 in
      let stands : StandsAt bag (length before) c =
      subst (λ (d : CertificateElements). StandsAt bag (length before) d) same (stands_there bag before p.1 p.0 whole) in
      (length before, record { later = omega arith; stands = stands; fits = fits; least = none })

pub unnamed_step : (member : DerElement) (all left : List DerElement) (bag : List CertificateElements) (holds : CertificateElements → Type 0)
    → all ≡ member ∷ left → ((c : CertificateElements) → IsMember member c → holds c → ⊥)
    → Unnamed all bag holds → Unnamed left bag holds
unnamed_step member all left bag holds e refused u =
    passed member left bag holds u.before u.behind u.are u.none refused (subst (λ (ms : List DerElement). IsBag ms u.behind) e u.others)

pub named_first : (member : DerElement) (all left : List DerElement) (bag : List CertificateElements) (holds : CertificateElements
    → Type 0) (c : CertificateElements) → all ≡ member ∷ left → IsMember member c → holds c
    → Unnamed all bag holds → (place : ℕ) × IsLeastPlace bag holds 0 place c
named_first member all left bag holds c e m fits u =
    found member left bag holds u.before u.behind c u.are u.none m fits (subst (λ (ms : List DerElement). IsBag ms u.behind) e u.others)

pub unnamed_all : (left : List DerElement) (bag : List CertificateElements) (holds : CertificateElements → Type 0) → left ≡ [] → Unnamed left bag holds
    → HasNoPlace bag holds 0
unnamed_all left bag holds e u =
    let none : u.behind ≡ [] = subst (λ (ms : List DerElement). IsBag ms u.behind) e u.others in
    none_behind bag holds 0 (length u.before) u.none (omega (arith, ap length u.are, length-append u.before u.behind, ap length none))

-- ---- identified by the first signer

named_there : (f : SignedDataElements) (g : SignerElements) (issuer serial_number : List ℕ) (c : CertificateElements) (first : IsFirstSigner f g)
    → LendsNamed g.sid issuer serial_number → IsNamedBy issuer serial_number c
    → (sid : SignerIdentifier) → first.value.sid ≡ sid → IsNamedByFirst (signers_of f) c
named_there f g issuer serial_number c first lent by (named.IssuerAndSerialNumber v) sid =
    let lies : g.sid ≡ issuer_and_serial_number v = sid_is f g first ∙ ap signer_identifier sid in
    let parts = two (name v.issuer) lent.name (Primitive 0x02 (integer_contents v.serial_number)) (Primitive 0x02 serial_number) (sym lies ∙ lent.is) in
    record {
      signer = first.value;
      others = first.others;
      first = first.first;
      value = v;
      sid = sid;
      has = (ap encoding parts.0 ∙ sym lent.octets ∙ sym by.0, contents (integer_contents v.serial_number) serial_number parts.1 ∙ sym by.1);
    }
named_there f g issuer serial_number c first lent by (named.SubjectKeyIdentifier octets) sid =
    let lies : g.sid ≡ Primitive 0x80 octets = sid_is f g first ∙ ap signer_identifier sid in
    let both : Primitive 0x80 octets ≡ sequence (lent.name ∷ Primitive 0x02 serial_number ∷ []) = sym lies ∙ lent.is in
    absurd cc

named_back : (f : SignedDataElements) (g : SignerElements) (issuer serial_number : List ℕ) (c : CertificateElements) → IsFirstSigner f g
    → LendsNamed g.sid issuer serial_number → IsNamedByFirst (signers_of f) c → IsNamedBy issuer serial_number c
named_back f g issuer serial_number c first lent n =
    let same : signer_info first.value ≡ signer_info n.signer =
    heads (signer_info first.value) (signer_info n.signer) first.others n.others (sym first.first ∙ n.first) in
    let lies : g.sid ≡ issuer_and_serial_number n.value =
    sid_is f g first ∙ same_sid (signer_elements first.value) (signer_elements n.signer) same ∙ ap signer_identifier n.sid in
    let parts =
    two (name n.value.issuer) lent.name (Primitive 0x02 (integer_contents n.value.serial_number)) (Primitive 0x02 serial_number) (sym lies ∙ lent.is) in
    (sym n.has.0 ∙ ap encoding parts.0 ∙ sym lent.octets, sym n.has.1 ∙ contents (integer_contents n.value.serial_number) serial_number parts.1)

pub named_or_not : (f : SignedDataElements) (g : SignerElements) (issuer serial_number : List ℕ) → IsFirstSigner f g → LendsNamed g.sid issuer serial_number
    → (c : CertificateElements) → IsNamedBy issuer serial_number c ↔ IsNamedByFirst (signers_of f) c
named_or_not f g issuer serial_number first lent c =
    (λ by. named_there f g issuer serial_number c first lent by first.value.sid refl, λ n. named_back f g issuer serial_number c first lent n)

-- a signer that is identified by a key has no certificate by its issuer and serial number
pub none_by_key : (f : SignedDataElements) (g : SignerElements) (bag : List CertificateElements) → IsFirstSigner f g
    → ((value : IssuerAndSerialNumber) → g.sid ≢ issuer_and_serial_number value) → HasNoSigner (signers_of f) bag
none_by_key f g bag first none = λ place c later at n.
    let same : signer_info first.value ≡ signer_info n.signer =
    heads (signer_info first.value) (signer_info n.signer) first.others n.others (sym first.first ∙ n.first) in
    none n.value (sid_is f g first ∙ same_sid (signer_elements first.value) (signer_elements n.signer) same ∙ ap signer_identifier n.sid)

-- ---- a rule that holds if another one does

pub least_as : (bag : List CertificateElements) (by holds : CertificateElements → Type 0) (place : ℕ) (c : CertificateElements)
    → ((d : CertificateElements) → by d ↔ holds d) → IsLeastPlace bag by 0 place c → IsLeastPlace bag holds 0 place c
least_as bag by holds place c same l =
    record {
      later = l.later;
      stands = l.stands;
      fits = (same c).0 l.fits;
      least = λ other d later before at fits. l.least other d later before at ((same d).1 fits);
    }

pub none_as : (bag : List CertificateElements) (by holds : CertificateElements → Type 0) → ((d : CertificateElements) → by d ↔ holds d) → HasNoPlace bag by 0
    → HasNoPlace bag holds 0
none_as bag by holds same none = λ place d later at fits. none place d later at ((same d).1 fits)

-- ---- what one pass finds

found_there : (A : Type 0) (B : BagCertificate → Type 0) (r : Option BagCertificate) (x : BagCertificate) → r ≡ Some x → MatchOption r A B → B x
found_there A B r x e m = subst (λ (o : Option BagCertificate). MatchOption o A B) e m

determined_of_same : (bag : List CertificateElements) (asks : Bool) (a b : CertificateElements) → a ≡ b → IsTrue asks ↔ AsksForPurposes bag a
    → IsTrue asks ↔ AsksForPurposes bag b
determined_of_same bag asks a b same decides = subst (λ (c : CertificateElements). IsTrue asks ↔ AsksForPurposes bag c) same decides

named_so : (bag : List CertificateElements) (issuer serial_number : List ℕ) (found : BagCertificate) (asks : Bool) (c first : CertificateElements)
    → c ≡ view_elements found.certificate
    → IsLeastPlace bag (IsNamedBy issuer serial_number) 0 found.place c → IsFirstOfName bag issuer serial_number first → IsTrue asks ↔ AsksForPurposes bag first
    → IsTrue asks ↔ AsksForPurposes bag c
named_so bag issuer serial_number found asks c first e there is decides =
    determined_of_same bag asks first c (least_once bag (IsNamedBy issuer serial_number) 0 found.place is.0 c first there is.1).1 decides

pub named_where : (bag : List CertificateElements) (issuer serial_number : List ℕ) (r : Option BagCertificate) (found : BagCertificate) (asks : Bool)
    (first : CertificateElements) → r ≡ Some found
    → MatchOption r (HasNoPlace bag (IsNamedBy issuer serial_number) 0)
    (λ k. IsLeastPlace bag (IsNamedBy issuer serial_number) 0 k.place (view_elements k.certificate))
    → IsFirstOfName bag issuer serial_number first → IsTrue asks ↔ AsksForPurposes bag first
    → IsNamedAt bag issuer serial_number (record { certificate = found; asks_for_purposes = asks })
named_where bag issuer serial_number r found asks first e least is decides =
    let B : BagCertificate → Type 0 = λ k. IsLeastPlace bag (IsNamedBy issuer serial_number) 0 k.place (view_elements k.certificate) in
    let there : B found = found_there (HasNoPlace bag (IsNamedBy issuer serial_number) 0) B r found e least in
    record { least = there; asks = named_so bag issuer serial_number found asks (view_elements found.certificate) first refl there is decides }
