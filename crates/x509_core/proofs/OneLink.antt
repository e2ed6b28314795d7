-- At most one error reports the first broken rule of a window, and of a link.
use Rattle.std.proofs.Common.{◌≡◌, ◌≢◌, ◌⊎◌, ℕ, List, Option, inl, inr, refl, sym, ap, subst, ◌∙◌}
use Rattle.asn1_types.specs.Facts.Times.{same_generalized}
use Rattle.asn1_types.specs.Values.{identifier_contents}
use Rattle.asn1_types.specs.declared.generalized_time.GeneralizedTime.{GeneralizedTime}
use Rattle.der_core.specs.DerElement.{DerElement}
use Rattle.der_core.specs.Rules.{Rule, IsFirstBroken}
use Rattle.der_core.proofs.RuleLists.{IsReturnedOnce, one_broken}
use Rattle.key_core.specs.SignatureAlgorithm.{NamesSignature}
use Rattle.key_core.specs.Verifying.{Judge, verify_rules}
use Rattle.key_core.specs.declared.signature_algorithm.SignatureAlgorithm.{SignatureAlgorithm}
use Rattle.key_core.specs.declared.signature_error.SignatureError.{SignatureError}
use Rattle.key_core.specs.declared.signature_error.SignatureError.TheVariants as signature_errors
use Rattle.key_core.specs.declared.signature_error.Unsupported.TheVariants as unsupported
use Rattle.key_core.proofs.SignatureIdentifiers.{same_algorithm}
use Rattle.key_core.proofs.Verifications.{verify_one}
use Rattle.key_types.specs.declared.algorithm.AlgorithmIdentifier.{AlgorithmIdentifier}
use Rattle.key_types.specs.declared.key_info.SubjectPublicKeyInfo.{SubjectPublicKeyInfo}
use Rattle.names_core.specs.Names.{name_of_sets}
use Rattle.names_core.specs.declared.name.DirectoryName.{DirectoryName}
use Rattle.x509_types.specs.CertificateElements.{CertificateElements}
use Rattle.x509_core.specs.OwnedCertificate.{KeptCertificate}
use Rattle.x509_core.specs.Link.{IsReportedOf, IsNoAuthority, IsTooDeep, IsNoParent, IsUnsupported, IsBadlySignedLink, signed_octets, link_rules}
use Rattle.x509_core.specs.Parent.{IsNameOf, LacksKey, DifferByKey, DifferByName, RefusesChain, RefusesLink, RefusesParent}
use Rattle.x509_core.specs.Window.{IsTimeAt, IsNotYetValid, IsOver, window_rules}
use Rattle.x509_core.specs.declared.error.CaChainError.{CaChainError}
use Rattle.x509_core.specs.declared.error.CaChainError.TheVariants as chain
use Rattle.x509_core.specs.declared.error.CertCause.{CertCause}
use Rattle.x509_core.specs.declared.error.CertCause.TheVariants as causes
use Rattle.x509_core.specs.declared.error.CertError.{CertError}
use Rattle.x509_core.specs.declared.error.CertError.TheVariants as errors
use Rattle.x509_core.specs.declared.error.ExtName.TheVariants as names
use Rattle.x509_core.specs.declared.window.Window.{Window}
use Rattle.x509_core.proofs.Depths.{path_length_once}
use Rattle.x509_core.proofs.KeyIds.{named_once, had_once}
use Rattle.x509_core.proofs.SignedParts.{one_algorithm, one_key}
use Rattle.x509_core.proofs.Validity.{same_some, one_moment}

-- ---- windows

one_time : (element : Option DerElement) (a b : GeneralizedTime) → IsTimeAt element a → IsTimeAt element b → a ≡ b
one_time element a b p q = same_generalized a b (one_moment element a b p q)

early_once : (w : Window) (f : CertificateElements) → IsReturnedOnce (IsNotYetValid w f)
early_once w f = λ a b p q.
    let begins = one_time _ p.not_before q.not_before p.begins q.begins in
    let now = same_some p.now q.now (sym p.last ∙ q.last) in
    p.returned ∙ ap (λ (t : GeneralizedTime). causes.CertificateNotYetValid t p.now) begins ∙ ap (causes.CertificateNotYetValid q.not_before) now
    ∙ sym q.returned

over_once : (w : Window) (f : CertificateElements) → IsReturnedOnce (IsOver w f)
over_once w f = λ a b p q.
    let ends = one_time _ p.not_after q.not_after p.ended.ends q.ended.ends in
    let now = same_some p.now q.now (sym p.ended.first ∙ q.ended.first) in
    p.returned ∙ ap (λ (t : GeneralizedTime). causes.CertificateExpired t p.now) ends ∙ ap (causes.CertificateExpired q.not_after) now ∙ sym q.returned

pub window_once : (w : Window) (f : CertificateElements) → IsReturnedOnce (IsFirstBroken (window_rules w f))
window_once w f = λ a b p q. one_broken (window_rules w f) (early_once w f, (over_once w f, tt)) a b p q

-- ---- names

same_name : (a b : DirectoryName) → a.name ≡ b.name → a ≡ b
same_name a b e = ap name_of_sets e

one_name : (kept : KeptCertificate) (a b : DirectoryName) → IsNameOf kept a → IsNameOf kept b → a ≡ b
one_name kept a b p q = same_name a b (p ∙ sym q)

pub returned_once : (kept : KeptCertificate) (rule : Rule CertCause) → IsReturnedOnce rule → IsReturnedOnce (IsReportedOf kept rule)
returned_once kept rule one = λ a b p q.
    p.returned ∙ ap (λ (id : DirectoryName). errors.InvalidCertificate id p.cause) (one_name kept p.id q.id p.name q.name)
    ∙ ap (errors.InvalidCertificate q.id) (one p.cause q.cause p.broken q.broken) ∙ sym q.returned

authority_once : (parent : KeptCertificate) → IsReturnedOnce (IsNoAuthority parent)
authority_once parent = λ a b p q.
    p.returned ∙ ap (λ (id : DirectoryName). errors.InvalidChain (chain.IssuerIsNotCA id)) (one_name parent p.id q.id p.name q.name) ∙ sym q.returned

depth_once : (count : ℕ) (parent : KeptCertificate) → IsReturnedOnce (IsTooDeep count parent)
depth_once count parent = λ a b p q.
    p.returned ∙ ap (λ (id : DirectoryName). errors.InvalidChain (chain.TooDeep id p.limit)) (one_name parent p.id q.id p.name q.name)
    ∙ ap (λ (limit : ℕ). errors.InvalidChain (chain.TooDeep q.id limit)) (path_length_once parent.elements p.limit q.limit p.limited q.limited) ∙ sym q.returned

-- ---- parents

module _ (parent child : KeptCertificate) where
  record Lacks (e : CertError) : Type 0 where
    id : DirectoryName
    name : IsNameOf parent id
    lacks : LacksKey parent.elements child.elements
    returned : e ≡ errors.InvalidCertificate id (causes.ExtensionNotFound names.SubjectKeyIdentifier)

  record HasOther (e : CertError) : Type 0 where
    id : DirectoryName
    expected : List ℕ
    actual : List ℕ
    name : IsNameOf child id
    differ : DifferByKey parent.elements child.elements expected actual
    returned : e ≡ errors.InvalidCertificate id (causes.InvalidChain (chain.AuthorityKeyIdMismatch expected actual))

  record IsOther (e : CertError) : Type 0 where
    id : DirectoryName
    expected : DirectoryName
    actual : DirectoryName
    name : IsNameOf child id
    differ : DifferByName parent child expected actual
    returned : e ≡ errors.InvalidCertificate id (causes.InvalidChain (chain.IssuerNameMismatch expected actual))

  -- a refusal is one of three
  abbrev Sorted : CertError → Type 0
  Sorted e = Lacks e ⊎ (HasOther e ⊎ IsOther e)

  of_chain : (id : DirectoryName) (source : CaChainError) → IsNameOf child id → RefusesChain parent child source
      → Sorted (errors.InvalidCertificate id (causes.InvalidChain source))
  of_chain id (chain.AuthorityKeyIdMismatch expected actual) name refused =
      inr (inl (record { id = id; expected = expected; actual = actual; name = name; differ = refused; returned = refl }))
  of_chain id (chain.IssuerNameMismatch expected actual) name refused =
      inr (inr (record { id = id; expected = expected; actual = actual; name = name; differ = refused; returned = refl }))
  of_chain id _ name refused = absurd refused

  of_cause : (id : DirectoryName) (cause : CertCause) → RefusesLink parent child id cause → Sorted (errors.InvalidCertificate id cause)
  of_cause id (causes.InvalidChain source) refused = of_chain id source refused.0 refused.1
  of_cause id (causes.ExtensionNotFound name) refused = inl (record {
    id = id;
    name = refused.0;
    lacks = refused.2;
    returned = ap (λ (n : _). errors.InvalidCertificate id (causes.ExtensionNotFound n)) refused.1;
  })
  of_cause id _ refused = absurd refused

  sorted : (e : CertError) → RefusesParent parent child e → e ≢ errors.Memory → Sorted e
  sorted (errors.InvalidCertificate id source) refused returned = of_cause id source refused
  sorted errors.Memory refused returned = absurd (returned refl)
  sorted _ refused returned = absurd refused

  same_lack : (a b : CertError) → Lacks a → Lacks b → a ≡ b
  same_lack a b p q =
      p.returned ∙ ap (λ (id : DirectoryName). errors.InvalidCertificate id (causes.ExtensionNotFound names.SubjectKeyIdentifier))
      (one_name parent p.id q.id p.name q.name) ∙ sym q.returned

  same_keys : (a b : CertError) → HasOther a → HasOther b → a ≡ b
  same_keys a b p q =
      p.returned ∙ ap (λ (id : DirectoryName). errors.InvalidCertificate id (causes.InvalidChain (chain.AuthorityKeyIdMismatch p.expected p.actual)))
      (one_name child p.id q.id p.name q.name)
      ∙ ap (λ (key : List ℕ). errors.InvalidCertificate q.id (causes.InvalidChain (chain.AuthorityKeyIdMismatch key p.actual)))
      (named_once child.elements p.expected q.expected p.differ.named q.differ.named)
      ∙ ap (λ (key : List ℕ). errors.InvalidCertificate q.id (causes.InvalidChain (chain.AuthorityKeyIdMismatch q.expected key)))
      (had_once parent.elements p.actual q.actual p.differ.had q.differ.had) ∙ sym q.returned

  same_names : (a b : CertError) → IsOther a → IsOther b → a ≡ b
  same_names a b p q =
      p.returned ∙ ap (λ (id : DirectoryName). errors.InvalidCertificate id (causes.InvalidChain (chain.IssuerNameMismatch p.expected p.actual)))
      (one_name child p.id q.id p.name q.name)
      ∙ ap (λ (name : DirectoryName). errors.InvalidCertificate q.id (causes.InvalidChain (chain.IssuerNameMismatch name p.actual)))
      (same_name p.expected q.expected (p.differ.expected_is ∙ sym q.differ.expected_is))
      ∙ ap (λ (name : DirectoryName). errors.InvalidCertificate q.id (causes.InvalidChain (chain.IssuerNameMismatch q.expected name)))
      (same_name p.actual q.actual (p.differ.actual_is ∙ sym q.differ.actual_is)) ∙ sym q.returned

  lacks_and_has : (a b : CertError) → Lacks a → HasOther b → ⊥
  lacks_and_has a b p q = p.lacks.none q.actual q.differ.had

  lacks_and_agrees : (a b : CertError) → Lacks a → IsOther b → ⊥
  lacks_and_agrees a b p q = p.lacks.none p.lacks.key (q.differ.key p.lacks.key p.lacks.named)

  differs_and_agrees : (a b : CertError) → HasOther a → IsOther b → ⊥
  differs_and_agrees a b p q = p.differ.other (had_once parent.elements p.expected p.actual (q.differ.key p.expected p.differ.named) p.differ.had)

  one_sort : (a b : CertError) → Sorted a → Sorted b → a ≡ b
  one_sort a b (inl p) (inl q) = same_lack a b p q
  one_sort a b (inl p) (inr (inl q)) = absurd (lacks_and_has a b p q)
  one_sort a b (inl p) (inr (inr q)) = absurd (lacks_and_agrees a b p q)
  one_sort a b (inr (inl p)) (inl q) = absurd (lacks_and_has b a q p)
  one_sort a b (inr (inl p)) (inr (inl q)) = same_keys a b p q
  one_sort a b (inr (inl p)) (inr (inr q)) = absurd (differs_and_agrees a b p q)
  one_sort a b (inr (inr p)) (inl q) = absurd (lacks_and_agrees b a q p)
  one_sort a b (inr (inr p)) (inr (inl q)) = absurd (differs_and_agrees b a q p)
  one_sort a b (inr (inr p)) (inr (inr q)) = same_names a b p q

  parent_once : IsReturnedOnce (IsNoParent parent child)
  parent_once = λ a b p q. one_sort a b (sorted a p.0 p.1) (sorted b q.0 q.1)

-- ---- signatures

unsupported_once : (child : KeptCertificate) → IsReturnedOnce (IsUnsupported child)
unsupported_once child = λ a b p q.
    p.returned ∙ ap (λ (id : AlgorithmIdentifier). errors.Signature (signature_errors.UnsupportedAlgorithm (unsupported.Oid id.oid)))
    (one_algorithm child.elements p.id q.id p.beside q.beside) ∙ sym q.returned

signature_returned_once : (judge : Judge) (parent child : CertificateElements) → IsReturnedOnce (IsBadlySignedLink judge parent child)
signature_returned_once judge parent child = λ a b p q.
    let id = one_algorithm child p.parts.id q.parts.id p.parts.beside q.parts.beside in
    let named = subst (λ (id : AlgorithmIdentifier). NamesSignature id p.algorithm) id p.parts.named in
    let algorithm = same_algorithm p.algorithm q.algorithm (identifier_contents q.parts.id.oid) named q.parts.named in
    let info = one_key parent p.info q.info p.parts.key q.parts.key in
    let refused = subst (λ (i : SubjectPublicKeyInfo). IsFirstBroken (verify_rules judge q.algorithm i (signed_octets child) child.signature) p.source) info
    (subst (λ (g : SignatureAlgorithm). IsFirstBroken (verify_rules judge g p.info (signed_octets child) child.signature) p.source) algorithm p.refused) in
    let source = one_broken (verify_rules judge q.algorithm q.info (signed_octets child) child.signature)
    (verify_one judge q.algorithm q.info (signed_octets child) child.signature) p.source q.source refused q.refused in
    p.returned ∙ ap (λ (s : SignatureError). causes.Signature s) source ∙ sym q.returned

-- ---- links

pub link_once : (judge : Judge) (w : Window) (count : ℕ) (parent child : KeptCertificate)
    → IsReturnedOnce (IsFirstBroken (link_rules judge w count parent child))
link_once judge w count parent child = λ a b p q. one_broken (link_rules judge w count parent child) (
  authority_once parent,
  (
    depth_once count parent,
    (
      returned_once parent (IsFirstBroken (window_rules w parent.elements)) (window_once w parent.elements),
      (
        parent_once parent child,
        (
          unsupported_once child,
          (returned_once child (IsBadlySignedLink judge parent.elements child.elements) (signature_returned_once judge parent.elements child.elements), tt),
        ),
      ),
    ),
  ),
) a b p q
