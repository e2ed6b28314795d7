-- The certificates at the indices of a bag, linked one after another.
use Rattle.std.proofs.Common.{◌≡◌, ◌⊎◌, ◌+◌, ◌-◌, ◌^◌, ℕ, List, [], ◌∷◌, ◌++◌, length, min, Option, Some, None}
use Rattle.std.proofs.Common.{Result, Ok, Err, MatchResult, append_assoc, inl, inr, sym, ap, subst, ◌∙◌, arith}
use Rattle.std.specs.Prelude.{unwrap_or}
use Rattle.std.proofs.lemmas.List.{append-nil}
use Rattle.der_core.specs.Rules.{IsFirstBroken}
use Rattle.key_core.specs.Verifying.{Judge}
use Rattle.x509_core.specs.Chain.{last_of}
use Rattle.x509_core.specs.OwnedCertificate.{KeptCertificate}
use Rattle.x509_core.specs.Link.{IsLink, IsCountFor, link_rules}
use Rattle.x509_core.specs.Rules.{RefusesCertBy}
use Rattle.x509_core.specs.declared.error.CertError.{CertError}
use Rattle.x509_core.specs.declared.error.CertError.TheVariants as errors
use Rattle.x509_core.specs.declared.window.Window.{Window}
use Rattle.x509_core.proofs.Chains.{linked_more, last_more, one_more}
use Rattle.x509_core.proofs.ChainSteps.{linked_none_of}
use Rattle.x509_types.specs.CertificateElements.{CertificateElements}
use Rattle.authenticode_core.specs.Excuses.{AreOthersThan, IsLinkedToken, IsUnlinkedToken, any_time}
use Rattle.authenticode_core.specs.Inside.Linking.{IsBrokenNext, IsLinkedSoFar, IsNextLink, IsNoLink}
use Rattle.authenticode_core.specs.OthersCursor.{AreLeft, IsFirstOf}
use Rattle.authenticode_core.specs.IssuerWalk.{IsIssuerPath}
use Rattle.authenticode_core.specs.LinkedPath.{StandAt, AreLinkedAt, IsUnlinkedAt, IsVouchedPath}
use Rattle.authenticode_core.specs.Indices.{StandsAt}
use Rattle.authenticode_core.specs.declared.path.Linking.{Linking}
use Rattle.authenticode_core.specs.declared.bag.others.Others.{Others}

-- out of memory may be reported whatever else may be
pub out_of_memory : {A : Type 0} (Good : A → Type 0) (Bad : CertError → Type 0) (r : Result A CertError) (e : CertError) → r ≡ Err e → e ≡ errors.Memory
    → MatchResult r Good (λ x. Bad x ⊎ (x ≡ errors.Memory))
out_of_memory {A} Good Bad r e is memory = subst (λ (x : Result A CertError). MatchResult x Good (λ x. Bad x ⊎ (x ≡ errors.Memory))) (sym is) (inr memory)

-- What is found so far is linked, and the others of the indices are left.
pub record Linked (judge : Judge) (w : Window) (bag : List CertificateElements) (checked : KeptCertificate) (all : List ℕ) (parents : Others)
    (linking : Linking) : Type 0 where
  pub so_far : IsLinkedSoFar judge w bag checked linking
  pub rest : List ℕ
  pub are : all ≡ linking.places ++ rest
  pub left : AreLeft parents bag rest

stand_more : (bag : List CertificateElements) (places : List ℕ) (below : List KeptCertificate) (place : ℕ) (parent : KeptCertificate) → StandAt bag places below
    → StandsAt bag place parent.elements → StandAt bag (places ++ place ∷ []) (below ++ parent ∷ [])
stand_more bag [] [] place parent stand stands = (stands, tt)
stand_more bag [] (k ∷ ks) place parent stand stands = absurd stand
stand_more bag (first ∷ places) [] place parent stand stands = absurd stand
stand_more bag (first ∷ places) (k ∷ ks) place parent stand stands = (stand.0, stand_more bag places ks place parent stand.1 stands)

counted_more : (below : List KeptCertificate) (parent : KeptCertificate) (n m : ℕ) → IsCountFor n (length below) → m ≡ min (n + 1) (2 ^ 16 - 1)
    → IsCountFor m (length (below ++ parent ∷ []))
counted_more below parent n m so_far more =
    let long : length (below ++ parent ∷ []) ≡ length below + 1 = one_more below parent in
    omega (arith, so_far, more, long)

pub no_link : (judge : Judge) (w : Window) (count : ℕ) (child : KeptCertificate) (c : CertificateElements) (parent : KeptCertificate) (e : CertError)
    → parent.elements ≡ c → RefusesCertBy (link_rules judge w count parent child) e → IsNoLink judge w count child c e ⊎ (e ≡ errors.Memory)
no_link judge w count child c parent e is (inl broken) = inl (record { parent = parent; is = is; broken = broken })
no_link judge w count child c parent e is (inr memory) = inr memory

module _ (judge : Judge) (w : Window) (bag : List CertificateElements) (checked : KeptCertificate) where
  -- ---- one step

  module _ (old : Linking) (c : CertificateElements) (place : ℕ) (child : KeptCertificate) (so_far : IsLinkedSoFar judge w bag checked old)
      (at : child ≡ unwrap_or old.last checked) (stands : StandsAt bag place c) where
    is_last : child ≡ last_of checked so_far.below
    is_last = at ∙ so_far.at

    pub broken_next : (e : CertError) → IsNoLink judge w (length so_far.below) child c e ⊎ (e ≡ errors.Memory)
        → IsBrokenNext judge w bag checked old c e ⊎ (e ≡ errors.Memory)
    broken_next e (inl fault) = inl (record {
      chain = so_far;
      parent = fault.parent;
      is = fault.is;
      broken = subst (λ (k : KeptCertificate). IsFirstBroken (link_rules judge w (length so_far.below) fault.parent k) e) is_last fault.broken;
    })
    broken_next e (inr memory) = inr memory

    pub linked_next : (new : Linking) (parent : KeptCertificate) → IsNextLink judge w (length so_far.below) child c parent
        → new.places ≡ old.places ++ place ∷ [] → new.last ≡ Some parent → new.number ≡ min (old.number + 1) (2 ^ 16 - 1)
        → IsLinkedSoFar judge w bag checked new
    linked_next new parent next places last more = record {
      below = so_far.below ++ parent ∷ [];
      stand = subst (λ (ps : List ℕ). StandAt bag ps (so_far.below ++ parent ∷ [])) (sym places)
          (stand_more bag old.places so_far.below place parent so_far.stand (subst (λ (d : CertificateElements). StandsAt bag place d) (sym next.is) stands));
      linked = linked_more (λ n p k. IsLink judge w n p.elements k.elements) checked so_far.below parent so_far.linked
          (subst (λ (k : KeptCertificate). IsLink judge w (length so_far.below) parent.elements k.elements) is_last next.link);
      at = ap (λ (o : Option KeptCertificate). unwrap_or o checked) last ∙ sym (last_more checked so_far.below parent);
      counted = counted_more so_far.below parent old.number new.number so_far.counted more;
    }

  -- ---- all

  module _ (all : List ℕ) where
    pub linked_none : (parents : Others) (new : Linking) → new.places ≡ [] → new.last ≡ None → new.number ≡ 0 → AreLeft parents bag all
        → Linked judge w bag checked all parents new
    linked_none parents new places last number left = record {
      so_far = record {
        below = [];
        stand = subst (λ (ps : List ℕ). StandAt bag ps []) (sym places) tt;
        linked = linked_none_of judge w checked;
        at = ap (λ (o : Option KeptCertificate). unwrap_or o checked) last;
        counted = ap (λ (n : ℕ). min n 256) number;
      };
      rest = all;
      are = ap (λ (ps : List ℕ). ps ++ all) (sym places);
      left = left;
    }

    module _ (parents : Others) (linking : Linking) (so_far : Linked judge w bag checked all parents linking) where
      -- the whole list is found
      pub linked_all : (found : List ℕ) → found ≡ linking.places → so_far.rest ≡ [] → (found ≡ all) × AreLinkedAt judge w bag checked all
      linked_all found is none =
          let whole : linking.places ≡ all = sym (so_far.are ∙ ap (λ (ps : List ℕ). linking.places ++ ps) none ∙ append-nil linking.places) in (
            is ∙ whole,
            record {
              parents = so_far.so_far.below;
              stand = subst (λ (ps : List ℕ). StandAt bag ps so_far.so_far.below) whole so_far.so_far.stand;
              linked = so_far.so_far.linked;
            },
          )

      module _ (place : ℕ) (c : CertificateElements) (behind : List ℕ) (first : IsFirstOf bag so_far.rest place c behind) where
        split : all ≡ linking.places ++ place ∷ behind
        split = so_far.are ∙ ap (λ (ps : List ℕ). linking.places ++ ps) first.are

        -- the next one isn't linked
        pub unlinked : (e : CertError) → IsBrokenNext judge w bag checked linking c e ⊎ (e ≡ errors.Memory)
            → IsUnlinkedAt judge w bag checked all e ⊎ (e ≡ errors.Memory)
        unlinked e (inl fault) = inl (record {
          before = linking.places;
          place = place;
          after = behind;
          are = split;
          below = fault.chain.below;
          stand = fault.chain.stand;
          parent = fault.parent;
          stands = subst (λ (d : CertificateElements). StandsAt bag place d) (sym fault.is) first.stands;
          linked = fault.chain.linked;
          broken = fault.broken;
        })
        unlinked e (inr memory) = inr memory

        -- the next one is linked
        pub linked_on : (others : Others) (new : Linking) → AreLeft others bag behind
            → IsLinkedSoFar judge w bag checked new × (new.places ≡ linking.places ++ place ∷ []) → Linked judge w bag checked all others new
        linked_on others new left next = record {
          so_far = next.0;
          rest = behind;
          are = split ∙ sym (append_assoc linking.places (place ∷ []) behind) ∙ ap (λ (ps : List ℕ). ps ++ behind) (sym next.1);
          left = left;
        }

-- ---- issuer paths

pub vouched : (judge : Judge) (w : Window) (bag : List CertificateElements) (signer : KeptCertificate) (f : CertificateElements) (path : List ℕ)
    (r : Result (List ℕ) CertError) → f ≡ signer.elements → IsIssuerPath bag f path
    → MatchResult r (λ found. (found ≡ path) × AreLinkedAt judge w bag signer path) (λ e. IsUnlinkedAt judge w bag signer path e ⊎ (e ≡ errors.Memory))
    → MatchResult r (IsVouchedPath judge w bag signer) (λ e. ((path : List ℕ) × IsIssuerPath bag signer.elements path × IsUnlinkedAt judge w bag signer path e)
    ⊎ (e ≡ errors.Memory))
vouched judge w bag signer f path (Ok found) same is linked = record {
  is_path = subst (λ (ps : List ℕ). IsIssuerPath bag signer.elements ps) (sym linked.0) (subst (λ (d : CertificateElements). IsIssuerPath bag d path) same is);
  linked = subst (λ (ps : List ℕ). AreLinkedAt judge w bag signer ps) (sym linked.0) linked.1;
}
vouched judge w bag signer f path (Err e) same is (inl broken) = inl (path, subst (λ (d : CertificateElements). IsIssuerPath bag d path) same is, broken)
vouched judge w bag signer f path (Err e) same is (inr memory) = inr memory

-- ---- tokens

module _ (judge : Judge) (w : Window) (bag : List CertificateElements) (first : KeptCertificate) (f : CertificateElements) (places : List ℕ)
    (untimed : w ≡ any_time) (same : f ≡ first.elements) (stands : StandsAt bag 0 first.elements) (others : AreOthersThan bag f places) where
  those : AreOthersThan bag first.elements places
  those = subst (λ (d : CertificateElements). AreOthersThan bag d places) same others

  pub linked_token : AreLinkedAt judge w bag first places → IsLinkedToken judge bag
  linked_token linked = record {
    first = first;
    stands = stands;
    places = places;
    others = those;
    linked = subst (λ (x : Window). AreLinkedAt judge x bag first places) untimed linked;
  }

  pub unlinked_token : (e : CertError) → IsUnlinkedAt judge w bag first places e ⊎ (e ≡ errors.Memory) → IsUnlinkedToken judge bag e ⊎ (e ≡ errors.Memory)
  unlinked_token e (inl broken) =
      inl (record {
        first = first;
        stands = stands;
        places = places;
        others = those;
        unlinked = subst (λ (x : Window). IsUnlinkedAt judge x bag first places e) untimed broken;
      })
  unlinked_token e (inr memory) = inr memory
