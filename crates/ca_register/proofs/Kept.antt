-- What every register keeps, used and kept.
use Rattle.std.proofs.Common.{◌≡◌, ℕ, IsTrue, List, [], ◌∷◌, ◌++◌, length, Some, None, sym, subst, ◌∙◌}
use Rattle.std.proofs.Math.Logic.{∥∥₁_elim, ∥∥₁_map}
use Rattle.std.proofs.Math.Nat.{ℕ_set}
use Rattle.std.specs.Coded.{le_prop}
use Rattle.der_core.specs.Steps.{AreTaken}
use Rattle.key_core.specs.Verifying.{Judge}
use Rattle.x509_types.specs.ExtensionParts.{HasSubjectKey}
use Rattle.x509_core.specs.History.{AreAncestors, IsOrdered}
use Rattle.x509_core.specs.Issued.{HasCert, IsCertifiedBy, IsNext, IsRecordedAs}
use Rattle.x509_core.specs.OwnedCertificate.{KeptCertificate}
use Rattle.x509_core.proofs.Validity.{same_some}
use Rattle.ca_register.specs.Authorities.{AreAuthorities, IsRegister}
use Rattle.ca_register.specs.Entries.{history_of, step_of}
use Rattle.ca_register.specs.Issuing.{record_steps}
use Rattle.ca_register.specs.declared.entry.Entry.{Entry}
use Rattle.ca_register.specs.declared.entry.Grant.{Grant}
use Rattle.ca_register.proofs.Records.{as_many, step_at}
use Rattle.ca_register.proofs.Registers.{authorities_above, with_certificate}

some_is_none : (x : ℕ) → Some x ≡ None → ⊥
some_is_none x e = absurd cc

module _ (judge : Judge) (entries : List Entry) (certificates : List KeptCertificate) (kept : ∥ IsRegister judge entries certificates ∥₁) where
  pub kept_ordered : IsOrdered (history_of entries)
  kept_ordered index issuer has = ∥∥₁_elim kept le_prop (λ is. is.issued.ordered index issuer has)

  pub kept_all : length certificates ≡ length entries
  kept_all = ∥∥₁_elim kept (ℕ_set (length certificates) (length entries)) (λ is. is.issued.all ∙ as_many entries)

  pub kept_root : (grant : Grant) (cert : KeptCertificate) → IsTrue grant.ca
      → ((certificates : List KeptCertificate) → IsNext judge certificates (step_of (record { issuer = None; grant = grant })) cert)
      → ∥ IsRegister judge (entries ++ record { issuer = None; grant = grant } ∷ []) (certificates ++ cert ∷ []) ∥₁
  kept_root grant cert ca next =
      ∥∥₁_map kept (λ is. with_certificate judge entries certificates is (record { issuer = None; grant = grant }) cert (next certificates) (λ none. ca)
      (λ issuer ancestors same are. absurd (some_is_none issuer (sym same))))

  module _ (issuer : ℕ) (grant : Grant) (parent cert : KeptCertificate) (taken : AreTaken (record_steps entries issuer))
      (has : HasCert certificates issuer parent) where
    abbrev Added : Entry
    Added = record { issuer = Some issuer; grant = grant }

    module _ (is : IsRegister judge entries certificates) (recorded : IsRecordedAs (step_of Added) cert)
        (by : IsCertifiedBy judge parent.elements cert.elements) where
      next : IsNext judge certificates (step_of Added) cert
      next = record {
        recorded = recorded;
        root = λ none. absurd (some_is_none issuer none);
        issued = λ other same. (parent, subst (λ (i : ℕ). HasCert certificates i parent) (same_some issuer other same) has, by);
      }

      above : (other : ℕ) (ancestors : List ℕ) → Some issuer ≡ Some other → AreAncestors (history_of entries) other ancestors
          → AreAuthorities (history_of entries) (other ∷ ancestors)
      above other ancestors same are =
          let here : other ≡ issuer = sym (same_some issuer other same) in
          subst (λ (i : ℕ). AreAuthorities (history_of entries) (i ∷ ancestors)) (sym here)
          (authorities_above judge entries certificates is issuer taken.1.0 taken.1.1.0 ancestors
          (subst (λ (i : ℕ). AreAncestors (history_of entries) i ancestors) here are))

      pub with_child : IsRegister judge (entries ++ Added ∷ []) (certificates ++ cert ∷ [])
      with_child = with_certificate judge entries certificates is Added cert next (λ none. absurd (some_is_none issuer none)) above

    pub kept_child : ((key : List ℕ) → HasSubjectKey parent.elements key
        → ∥ IsRecordedAs (step_of Added) cert × IsCertifiedBy judge parent.elements cert.elements ∥₁)
        → ∥ IsRegister judge (entries ++ Added ∷ []) (certificates ++ cert ∷ []) ∥₁
    kept_child certified = ∥∥₁_elim kept (λ a b. squash₁ a b) (λ is.
        let issuing = is.issued.recorded issuer (step_of taken.1.0.0) parent (step_at entries issuer taken.1.0.0 taken.1.0.1) has in
        ∥∥₁_map (certified issuing.key issuing.identified) (λ both. with_child is both.0 both.1))
