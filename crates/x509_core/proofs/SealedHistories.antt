-- Where keys signed no other certificates, an accepted chain to a root of the history leads back to
-- certificates that were issued.
use Rattle.std.proofs.Common.{◌≡◌, ℕ, ◌+◌, true, List, [], ◌∷◌, Some, inl, inr, refl, sym, ap, subst, ◌∙◌}
use Rattle.std.proofs.Math.Logic.{∥∥₁_elim}
use Rattle.asn1_types.specs.declared.generalized_time.GeneralizedTime.{GeneralizedTime}
use Rattle.asn1_types.specs.declared.oids.TheConstants.{CE_BASIC_CONSTRAINTS}
use Rattle.der_core.specs.Default.{IsBoolean}
use Rattle.der_core.specs.DerElement.{DerElement, Primitive, row}
use Rattle.der_core.specs.Encoding.{IsDer}
use Rattle.der_core.specs.Facts.Owned.{same_encoded}
use Rattle.der_core.specs.Facts.Borrowed.{kids_in_bounds}
use Rattle.der_core.specs.Optional.{members_of}
use Rattle.key_core.specs.Verifying.{Judge}
use Rattle.key_types.specs.declared.key_info.SubjectPublicKeyInfo.{SubjectPublicKeyInfo}
use Rattle.x509_types.specs.CertificateElements.{CertificateElements}
use Rattle.x509_types.specs.CertificateFields.{kid}
use Rattle.x509_types.specs.ExtensionParts.{HasCa, HasFirstElement, EndsWithLength}
use Rattle.x509_types.specs.Facts.TbsElements.{same_elements}
use Rattle.x509_types.specs.FirstExtension.{IsFirstNamed, Says}
use Rattle.x509_types.specs.TbsCertificate.{AreTbsFields}
use Rattle.x509_types.specs.TbsElements.{TbsElements, tbs_of}
use Rattle.x509_types.specs.declared.certificate.tbs_certificate.TbsCertificate.{TbsCertificate}
use Rattle.x509_core.specs.Chain.{IsAccepted, IsLinkedChain, IsPath, last_of}
use Rattle.x509_core.specs.CertType.{IsOfType}
use Rattle.x509_core.specs.History.{IssuingStep, History, HasStep, IsRootStep, AreAncestors, IsAllowed}
use Rattle.x509_core.specs.Issued.{HasCert, IsIssued, IsSignedUnder, IsOneOf, IsSealed, IsOfValid}
use Rattle.x509_core.specs.OwnedCertificate.{KeptCertificate}
use Rattle.x509_core.specs.Link.{HasKey, IsLink, IsDeepEnough, signed_octets}
use Rattle.x509_core.specs.Window.{IsTimeAt, IsWithinWindow}
use Rattle.x509_core.specs.declared.cert_type.CertType.TheVariants as types
use Rattle.x509_core.specs.declared.window.Window.{Window}
use Rattle.x509_core.proofs.Histories.{ancestors_once}
use Rattle.x509_core.proofs.IssuedLinks.{checks_on, window_on, during, has_flag, is_allowed, has_step}
use Rattle.x509_core.proofs.Rows.{LinkRow, HoldRow, link_row_of, holds_of_row}
use Rattle.x509_core.proofs.Validity.{same_some}

-- ---- certificates with one TBSCertificate

tbs_der : (kept : KeptCertificate) → IsDer (tbs_of kept.elements.tbs)
tbs_der kept =
    let f = kept.elements in
    (kids_in_bounds 0x30 (row (tbs_of f.tbs ∷ f.algorithm ∷ Primitive 0x03 (f.unused ∷ f.signature) ∷ [])) kept.der).0

abbrev HaveOneTbs : (a b : KeptCertificate) → Type 0
HaveOneTbs a b = a.elements.tbs ≡ b.elements.tbs

one_tbs : (a b : KeptCertificate) → signed_octets a.elements ≡ signed_octets b.elements → HaveOneTbs a b
one_tbs a b same = same_elements a.elements.tbs b.elements.tbs (same_encoded (tbs_of a.elements.tbs) (tbs_of b.elements.tbs) (tbs_der a) (tbs_der b) same)

module _ (f g : CertificateElements) (same : f.tbs ≡ g.tbs) where
  says_there : {X : Type 0} (oid : List ℕ) (part : DerElement → X → Type 0) (value : X) → Says oid part f value → Says oid part g value
  says_there oid part value (element, first, says) = (
    element,
    record {
      octets = first.octets;
      first = subst (λ (t : TbsElements). IsFirstNamed oid (members_of t.extensions) first.octets) same first.first;
      holds = first.holds;
    },
    says,
  )

  key_there : (info : SubjectPublicKeyInfo) → HasKey f info → HasKey g info
  key_there info has = ap (λ (t : TbsElements). t.subject_public_key_info) (sym same) ∙ has

  window_there : (w : Window) → IsWithinWindow w f → IsWithinWindow w g
  window_there w valid = record {
    begun =
        λ asked not_before now begins. valid.begun asked not_before now (subst (λ (t : TbsElements). IsTimeAt (kid 0 t.validity) not_before) (sym same) begins);
    lasts = λ asked not_after now ends. valid.lasts asked not_after now (subst (λ (t : TbsElements). IsTimeAt (kid 1 t.validity) not_after) (sym same) ends);
  }

ca_there : (f g : CertificateElements) → f.tbs ≡ g.tbs → HasCa f true → HasCa g true
ca_there f g same has = says_there f g same CE_BASIC_CONSTRAINTS.now (HasFirstElement IsBoolean) true has

depth_there : (f g : CertificateElements) → f.tbs ≡ g.tbs → (number : ℕ) → IsDeepEnough number f → IsDeepEnough number g
depth_there f g same number deep = λ limit has. deep limit (says_there g f (sym same) CE_BASIC_CONSTRAINTS.now EndsWithLength limit has)

-- the TBSCertificate is one
shape_of : (kept : KeptCertificate) → ∥ ((value : TbsCertificate) × AreTbsFields kept.elements.tbs value) ∥₁
shape_of kept = ∥∥₁_elim kept.spelled (λ a b. squash₁ a b) (λ are. ∣ (kept.certificate.tbs_certificate, are.tbs) ∣₁)

-- ---- back along a chain

module _ (judge : Judge) (history : History) (certificates : List KeptCertificate) (date : GeneralizedTime) (issued : IsIssued judge history certificates)
    (is_sealed : IsSealed judge history certificates) (root : ℕ) (anchor : KeptCertificate) (is_root : IsRootStep history root)
    (is_anchor : HasCert certificates root anchor) where
  abbrev Allows : ℕ → ℕ → Type 0
  Allows number index = (step : IssuingStep) → HasStep history index step → IsAllowed date number step

  abbrev LinkOf : ℕ → KeptCertificate → KeptCertificate → Type 0
  LinkOf number parent child = IsLink judge (window_on date) number parent.elements child.elements

  -- the certificate is that of an index, whose ancestors are allowed with numbers from one on
  record Trace (number : ℕ) (cert : KeptCertificate) : Type 0 where
    index : ℕ
    own : KeptCertificate
    is : HasCert certificates index own
    same : signed_octets cert.elements ≡ signed_octets own.elements
    ancestors : List ℕ
    are : AreAncestors history index ancestors
    allowed : HoldRow Allows number ancestors
    ends : last_of index ancestors ≡ root

  allows : (number : ℕ) (parent child : KeptCertificate) (t : Trace (number + 1) parent) → LinkOf number parent child → Allows number t.index
  allows number parent child t link step is =
      let same = one_tbs parent t.own t.same in
      let recorded = issued.recorded t.index step t.own is t.is in
      is_allowed date step t.own recorded number (ca_there parent.elements t.own.elements same link.authority)
      (depth_there parent.elements t.own.elements same number link.depth)
      (window_there parent.elements t.own.elements same (window_on date) link.valid)

  signed_one : (number : ℕ) (parent child : KeptCertificate) (t : Trace (number + 1) parent) → LinkOf number parent child
      → IsOneOf history certificates t.index (signed_octets child.elements)
  signed_one number parent child t link =
      let same = one_tbs parent t.own t.same in
      let signed = link.signed in
      is_sealed t.index t.own signed.info signed.algorithm child.elements.tbs child.elements.signature t.is
      (key_there parent.elements t.own.elements same signed.info signed.parts.key) (shape_of child) signed.accepted

  one_back : (number : ℕ) (parent child : KeptCertificate) → Trace (number + 1) parent → LinkOf number parent child → Trace number child
  one_back number parent child t link = by one.under
    where
      one : IsOneOf history certificates t.index (signed_octets child.elements)
      one = signed_one number parent child t link

      by : IsSignedUnder history one.index t.index → Trace number child
      by (inl under) = record {
        index = one.index;
        own = one.cert;
        is = one.is;
        same = one.signs;
        ancestors = t.index ∷ t.ancestors;
        are = ((under, t.are.0), t.are.1);
        allowed = (allows number parent child t link, t.allowed);
        ends = t.ends;
      }
      by (inr (own_root, same)) =
          let at_parent : AreAncestors history t.index [] = (tt, subst (IsRootStep history) same own_root) in
          let none : t.ancestors ≡ [] = ancestors_once history t.index t.ancestors [] t.are at_parent in
          record {
            index = one.index;
            own = one.cert;
            is = one.is;
            same = one.signs;
            ancestors = [];
            are = (tt, own_root);
            allowed = tt;
            ends = same ∙ ap (last_of t.index) (sym none) ∙ t.ends;
          }

  back : (number : ℕ) (child : KeptCertificate) (parents : List KeptCertificate) → LinkRow LinkOf number child parents
      → signed_octets (last_of child parents).elements ≡ signed_octets anchor.elements → Trace number child
  back number child [] links ends = record {
    index = root;
    own = anchor;
    is = is_anchor;
    same = ends;
    ancestors = [];
    are = (tt, is_root);
    allowed = tt;
    ends = refl;
  }
  back number child (parent ∷ parents) links ends = one_back number parent child (back (number + 1) parent parents links.1 ends) links.0

  module _ (checked parent : KeptCertificate) (parents : List KeptCertificate)
      (ends : signed_octets (last_of parent parents).elements ≡ signed_octets anchor.elements) where
    by_path : IsWithinWindow (window_on date) checked.elements → IsPath judge (checks_on date) checked (Some (parent ∷ parents))
        → IsOfValid history certificates date checked
    by_path window path =
        let given : parent ∷ parents ≡ path.parents = same_some (parent ∷ parents) path.parents path.is in
        let linked = subst (IsLinkedChain judge (window_on date) checked) (sym given) path.linked in
        let rooted = subst (λ (ps : List KeptCertificate). IsOfType (last_of checked ps).elements types.Root) (sym given) (path.rooted refl) in
        let t = back 0 checked (parent ∷ parents) (link_row_of LinkOf checked (parent ∷ parents) linked) ends in
        let found = has_step judge history certificates date issued t.index t.own t.is in
        let recorded = issued.recorded t.index found.0 t.own found.1 t.is in
        let last = last_of parent parents in
        record {
          index = t.index;
          cert = t.own;
          is = t.is;
          signs = t.same;
          valid = record {
            step = found.0;
            is = found.1;
            valid = during date found.0 t.own recorded (window_there checked.elements t.own.elements (one_tbs checked t.own t.same) (window_on date) window);
            ancestors = t.ancestors;
            are = t.are;
            allowed = λ number ancestor step at has. holds_of_row Allows t.ancestors t.allowed number ancestor at step has;
            rooted = λ step has.
                has_flag date step anchor (issued.recorded root step anchor (subst (λ (k : ℕ). HasStep history k step) t.ends has) is_anchor)
                (ca_there last.elements anchor.elements (one_tbs last anchor ends) rooted.0);
          };
        }

    pub accepted_is_of_valid : IsAccepted judge (checks_on date) checked (Some (parent ∷ parents)) → IsOfValid history certificates date checked
    accepted_is_of_valid accepted = by_path accepted.valid (accepted.chained refl)
