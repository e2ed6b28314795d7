-- The elements of a certificate and its value agree about its key.
use Rattle.std.proofs.Common.{ℕ, List, refl, sym, subst, ◌∙◌}
use Rattle.std.specs.Prelude.{Bool}
use Rattle.der_core.specs.DerElement.{DerElement}
use Rattle.der_core.specs.Owned.{IsKept}
use Rattle.asn1_types.specs.declared.oids.TheConstants.{CE_SUBJECT_KEY_IDENTIFIER, CE_BASIC_CONSTRAINTS, CE_AUTHORITY_KEY_IDENTIFIER}
use Rattle.extension_types.specs.BasicConstraints.{IsBasicConstraints}
use Rattle.extension_types.specs.declared.basic_constraints.BasicConstraints.{BasicConstraints}
use Rattle.x509_types.specs.CertificateElements.{CertificateElements, AreCertificateFields}
use Rattle.x509_types.specs.ExtensionParts.{HasCa, HasPathLength, HasSubjectKey, HasAuthorityKey}
use Rattle.x509_types.specs.ExtensionView.{named_kind, IsOfKind, IsValueIn}
use Rattle.x509_types.specs.Facts.ExtensionViews.{holds_of, values_once}
use Rattle.x509_types.specs.FirstExtension.{extensions_of, IsFirstValue}
use Rattle.x509_types.specs.FirstOfValue.{extensions_in, IsFirstWith}
use Rattle.x509_types.specs.declared.certificate.Certificate.{Certificate}
use Rattle.x509_types.specs.declared.extension.Extension.{Extension}
use Rattle.x509_types.specs.declared.extension.view.ExtensionKind.{ExtensionKind}
use Rattle.x509_types.specs.declared.extension.view.ExtensionKind.TheVariants as kinds
use Rattle.x509_types.specs.declared.extension.view.ExtensionView.{ExtensionView}
use Rattle.x509_types.specs.declared.extension.view.ExtensionView.TheVariants as views
use Rattle.der_core.specs.Facts.Owned.{one_kept}
use Rattle.x509_types.proofs.FirstOnes.{listed_each, had, lies}
use Rattle.x509_core.specs.FirstValue.{HasFirst}
use Rattle.x509_core.specs.SaidValues.{NamesKey, HasFlag, HasLength, SayTheSame}
use Rattle.x509_core.proofs.Parts.{flag_of, begins_with_flag, length_of, ends_with_length, key_of, begins_with_key}

-- ---- the first extension, in the elements and in the value

-- The octets encode the value of the first extension with the OID, which is of the kind.
record HoldsFirst (oid : List ℕ) (extensions : List Extension) (octets : List ℕ) (kind : ExtensionKind) : Type 0 where
  extension : Extension
  first : IsFirstWith oid extensions extension
  of_kind : IsOfKind kind extension.extn_value
  value : IsValueIn octets extension.extn_value

held : (oid : List ℕ) (f : CertificateElements) (c : Certificate) (element : DerElement) → AreCertificateFields f c → (v : IsFirstValue f oid element)
    → HoldsFirst oid (extensions_in c.tbs_certificate.extensions) v.octets (named_kind oid)
held oid f c element are v =
    let h = had oid (extensions_of f) (extensions_in c.tbs_certificate.extensions) v.octets
    (listed_each f.tbs.extensions c.tbs_certificate.extensions are.tbs.extensions) v.first in
    record {
      extension = h.extension;
      first = h.first;
      of_kind = subst (λ (o : List ℕ). IsOfKind (named_kind o) h.extension.extn_value) h.first.named h.extension.agrees;
      value = h.value;
    }

-- the first extension of the value is in the elements
lying : (oid : List ℕ) (f : CertificateElements) (c : Certificate) (view : ExtensionView) → AreCertificateFields f c
    → HasFirst oid (extensions_in c.tbs_certificate.extensions) view
    → (octets : List ℕ) × ((element : DerElement) → IsKept octets element → IsFirstValue f oid element) × IsValueIn octets view
lying oid f c view are h =
    let there = lies oid (extensions_of f) (extensions_in c.tbs_certificate.extensions) h.extension
    (listed_each f.tbs.extensions c.tbs_certificate.extensions are.tbs.extensions) h.first in (
      there.0,
      λ element kept. record { octets = there.0; first = there.1; holds = kept },
      subst (IsValueIn there.0) h.valued there.2,
    )

-- ---- the subject key identifier

subject_had : (f : CertificateElements) (c : Certificate) (key : List ℕ) → AreCertificateFields f c → HasSubjectKey f key
    → HasFirst CE_SUBJECT_KEY_IDENTIFIER.now (extensions_in c.tbs_certificate.extensions) (views.SubjectKeyIdentifier key)
subject_had f c key are says =
    let h = held CE_SUBJECT_KEY_IDENTIFIER.now f c says.0 are says.1 in
    let holds = says.1.holds in
    record {
      extension = h.extension;
      first = h.first;
      valued = values_once kinds.SubjectKeyIdentifier says.1.octets h.extension.extn_value (views.SubjectKeyIdentifier key) (h.of_kind, h.value)
          (refl, record { element = says.0; der = holds.0; encoded = holds.1; spelled = says.2 });
    }

subject_lies : (f : CertificateElements) (c : Certificate) (key : List ℕ) → AreCertificateFields f c
    → HasFirst CE_SUBJECT_KEY_IDENTIFIER.now (extensions_in c.tbs_certificate.extensions) (views.SubjectKeyIdentifier key) → HasSubjectKey f key
subject_lies f c key are h =
    let there = lying CE_SUBJECT_KEY_IDENTIFIER.now f c (views.SubjectKeyIdentifier key) are h in
    let within = there.2 in
    (within.element, there.1 within.element (within.der, within.encoded), within.spelled)

-- ---- the authority key identifier

authority_had : (f : CertificateElements) (c : Certificate) (key : List ℕ) → AreCertificateFields f c → HasAuthorityKey f key
    → NamesKey (extensions_in c.tbs_certificate.extensions) key
authority_had f c key are says =
    let h = held CE_AUTHORITY_KEY_IDENTIFIER.now f c says.0 are says.1 in
    let v = holds_of kinds.AuthorityKeyIdentifier says.1.octets h.extension.extn_value (h.of_kind, h.value) in
    let same = one_kept says.1.octets says.0 v.2.element says.1.holds (v.2.der, v.2.encoded) in
    record {
      value = v.0;
      first = record { extension = h.extension; first = h.first; valued = v.1 };
      named = key_of says.0 v.0 key (same ∙ v.2.spelled) says.2;
    }

authority_lies : (f : CertificateElements) (c : Certificate) (key : List ℕ) → AreCertificateFields f c
    → NamesKey (extensions_in c.tbs_certificate.extensions) key → HasAuthorityKey f key
authority_lies f c key are names =
    let there = lying CE_AUTHORITY_KEY_IDENTIFIER.now f c (views.AuthorityKeyIdentifier names.value) are names.first in
    let within = there.2 in
    (within.element, there.1 within.element (within.der, within.encoded), begins_with_key within.element names.value key within.spelled names.named)

-- ---- basic constraints

-- The first basic constraints of the elements encode the first ones of the value.
record HadConstraints (extensions : List Extension) (element : DerElement) : Type 0 where
  value : BasicConstraints
  first : HasFirst CE_BASIC_CONSTRAINTS.now extensions (views.BasicConstraints value)
  spelled : IsBasicConstraints element value

had_constraints : (f : CertificateElements) (c : Certificate) (element : DerElement) → AreCertificateFields f c
    → IsFirstValue f CE_BASIC_CONSTRAINTS.now element → HadConstraints (extensions_in c.tbs_certificate.extensions) element
had_constraints f c element are v =
    let h = held CE_BASIC_CONSTRAINTS.now f c element are v in
    let b = holds_of kinds.BasicConstraints v.octets h.extension.extn_value (h.of_kind, h.value) in
    let same = one_kept v.octets element b.2.element v.holds (b.2.der, b.2.encoded) in
    record {
      value = b.0;
      first = record { extension = h.extension; first = h.first; valued = b.1 };
      spelled = subst (λ (x : DerElement). IsBasicConstraints x b.0) (sym same) b.2.spelled;
    }

flag_had : (f : CertificateElements) (c : Certificate) (flag : Bool) → AreCertificateFields f c → HasCa f flag
    → HasFlag (extensions_in c.tbs_certificate.extensions) flag
flag_had f c flag are says =
    let b = had_constraints f c says.0 are says.1 in
    record { value = b.value; first = b.first; flagged = flag_of says.0 b.value flag b.spelled says.2 }

flag_lies : (f : CertificateElements) (c : Certificate) (flag : Bool) → AreCertificateFields f c → HasFlag (extensions_in c.tbs_certificate.extensions) flag
    → HasCa f flag
flag_lies f c flag are h =
    let there = lying CE_BASIC_CONSTRAINTS.now f c (views.BasicConstraints h.value) are h.first in
    let within = there.2 in
    (within.element, there.1 within.element (within.der, within.encoded), begins_with_flag within.element h.value flag within.spelled h.flagged)

length_had : (f : CertificateElements) (c : Certificate) (number : ℕ) → AreCertificateFields f c → HasPathLength f number
    → HasLength (extensions_in c.tbs_certificate.extensions) number
length_had f c number are says =
    let b = had_constraints f c says.0 are says.1 in
    record { value = b.value; first = b.first; limited = length_of says.0 b.value number b.spelled says.2 }

length_lies : (f : CertificateElements) (c : Certificate) (number : ℕ) → AreCertificateFields f c
    → HasLength (extensions_in c.tbs_certificate.extensions) number → HasPathLength f number
length_lies f c number are h =
    let there = lying CE_BASIC_CONSTRAINTS.now f c (views.BasicConstraints h.value) are h.first in
    let within = there.2 in
    (within.element, there.1 within.element (within.der, within.encoded), ends_with_length within.element h.value number within.spelled h.limited)

pub say_the_same : (f : CertificateElements) (c : Certificate) → AreCertificateFields f c → SayTheSame f c
say_the_same f c are = record {
  subject_key = λ key. (subject_had f c key are, subject_lies f c key are);
  authority_key = λ key. (authority_had f c key are, authority_lies f c key are);
  flag = λ flag. (flag_had f c flag are, flag_lies f c flag are);
  length = λ number. (length_had f c number are, length_lies f c number are);
}
