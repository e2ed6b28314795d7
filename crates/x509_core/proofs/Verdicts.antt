-- The result for a certificate and its parents, rule by rule, by what their iterator yields.
use Rattle.std.proofs.Common.{◌≡◌, ◌≢◌, IsTrue, false, List, ◌∷◌, ◌++◌, map, Option, Some, None}
use Rattle.std.proofs.Common.{Result, Ok, Err, MatchResult, inl, inr, refl, sym, ap, subst, ◌∙◌}
use Rattle.std.proofs.lemmas.Bool.{false≢true}
use Rattle.std.specs.Borrow.{Bor}
use Rattle.std.specs.Iterator.{AlwaysYields, Yields, Drains}
use Rattle.der_core.specs.Rules.{OrMemory, IsMet, IsFirstBroken}
use Rattle.key_core.specs.Verifying.{Judge}
use Rattle.x509_core.specs.CertType.{IsOfType}
use Rattle.x509_core.specs.Chain.{YieldsParents, IsDated, IsLinkedChain, IsFirstUnlinked, IsUnlinked, LacksDate}
use Rattle.x509_core.specs.Chain.{LacksChain, LacksRoot, IsAccepted, IsRooted, chain_rules, last_of, lent}
use Rattle.x509_core.specs.OwnedCertificate.{KeptCertificate}
use Rattle.x509_core.specs.Link.{IsOutside}
use Rattle.x509_core.specs.Rules.{Breaks, RefusesCertBy}
use Rattle.x509_core.specs.Window.{IsWithinWindow}
use Rattle.x509_core.specs.declared.cert_type.CertType.{CertType}
use Rattle.x509_core.specs.declared.cert_type.CertType.TheVariants as types
use Rattle.x509_core.specs.declared.error.Arg.TheVariants as arguments
use Rattle.x509_core.specs.declared.error.CaChainError.TheVariants as chain_errors
use Rattle.x509_core.specs.declared.error.CertError.{CertError}
use Rattle.x509_core.specs.declared.error.CertError.TheVariants as errors
use Rattle.x509_core.specs.declared.validator.ChainChecks.{ChainChecks}
use Rattle.x509_core.proofs.Chains.{assoc, gives_front, gives_all}
use Rattle.x509_core.proofs.Depths.{one_type}
use Rattle.x509_core.proofs.LinkRules.{window_is_met}
use Rattle.x509_core.proofs.UnbrokenLinks.{link_is_met}

none_is_not : (parents : List KeptCertificate) → ◌≡◌ {A = Option (List KeptCertificate)} None (Some parents) → ⊥
none_is_not parents e = cc

pub same_list : (a b : List KeptCertificate) → ◌≡◌ {A = Option (List KeptCertificate)} (Some a) (Some b) → a ≡ b
same_list a b e = cc

-- if an iterator is given, it yields a list
listed : {S : Type 0} (steps : S → Option (Bor KeptCertificate) → S → Type 0) (chain : S) (given : Option (List KeptCertificate))
    → YieldsParents steps (Some chain) given → (parents : List KeptCertificate) × (given ≡ Some parents) × AlwaysYields steps lent chain parents
listed steps chain None gives = absurd gives
listed steps chain (Some parents) gives = (parents, refl, gives)

-- if none is given, nothing is yielded
unlisted : {S : Type 0} (steps : S → Option (Bor KeptCertificate) → S → Type 0) (given : Option (List KeptCertificate)) → YieldsParents steps None given
    → given ≡ None
unlisted steps None gives = refl
unlisted steps (Some parents) gives = absurd gives

module _ (judge : Judge) (checks : ChainChecks) (checked : KeptCertificate) (given : Option (List KeptCertificate)) where
  abbrev Refuses : CertError → Type 0
  Refuses = RefusesCertBy (chain_rules judge checks checked given)

  pub date_is_met : IsDated checks → IsMet (LacksDate checks)
  date_is_met dated = λ e broken. dated broken.0 broken.1

  chain_is_met : (parents : List KeptCertificate) → given ≡ Some parents → IsMet (LacksChain checks given)
  chain_is_met parents is = λ e broken. none_is_not parents (sym broken.1 ∙ is)

  links_are_met : (parents : List KeptCertificate) → given ≡ Some parents → IsLinkedChain judge checks.window checked parents
      → IsMet (IsUnlinked judge checks checked given)
  links_are_met parents is linked = λ e broken.
      let same : parents ≡ broken.parents = same_list parents broken.parents (sym is ∙ broken.is) in
      let first = broken.first in
      link_is_met judge checks.window _ first.parent (last_of checked first.before) e (linked first.before first.after first.parent (same ∙ first.are))
      first.broken

  root_is_met : (parents : List KeptCertificate) → given ≡ Some parents → IsRooted checks checked parents → IsMet (LacksRoot checks checked given)
  root_is_met parents is rooted = λ e broken. broken.unrooted (subst (IsRooted checks checked) (same_list parents broken.parents (sym is ∙ broken.is)) rooted)

  -- an accepted certificate breaks no rule
  pub accepted_is_met : (e : CertError) → IsAccepted judge checks checked given → IsFirstBroken (chain_rules judge checks checked given) e → ⊥
  accepted_is_met e accepted (inl broken) = date_is_met accepted.dated e broken
  accepted_is_met e accepted (inr (a, inl broken)) = window_is_met checks.window checked accepted.valid e broken
  accepted_is_met e accepted (inr (a, inr (b, inl broken))) = let path = accepted.chained broken.0 in chain_is_met path.parents path.is e broken
  accepted_is_met e accepted (inr (a, inr (b, inr (c, inl broken)))) = let path = accepted.chained broken.asked in
      links_are_met path.parents path.is path.linked e broken
  accepted_is_met e accepted (inr (a, inr (b, inr (c, inr (d, inl broken))))) = let path = accepted.chained broken.asked in
      root_is_met path.parents path.is path.rooted e broken
  accepted_is_met e accepted (inr (a, inr (b, inr (c, inr (d, inr none))))) = none.1

  pub outside : (e : CertError) → IsDated checks → Breaks (IsOutside checks.window checked) e → Refuses e
  outside e dated (inl broken) = inl (inr (date_is_met dated, inl broken))
  outside e dated (inr memory) = inr memory

  pub unasked : IsDated checks → IsWithinWindow checks.window checked.elements → checks.chain ≡ false → IsAccepted judge checks checked given
  unasked dated valid off = record { dated = dated; valid = valid; chained = λ asked. absurd (false≢true (sym off ∙ asked)) }

  module _ (dated : IsDated checks) (valid : IsWithinWindow checks.window checked.elements) (asked : IsTrue checks.chain) where
    pub lacking_chain : given ≡ None → IsFirstBroken (chain_rules judge checks checked given) (errors.MissingBuilderArgument arguments.Chain)
    lacking_chain none = inr (date_is_met dated, inr (window_is_met checks.window checked valid, inl (asked, none, refl)))

    pub no_chain : {S : Type 0} (steps : S → Option (Bor KeptCertificate) → S → Type 0) → YieldsParents steps None given
        → Refuses (errors.MissingBuilderArgument arguments.Chain)
    no_chain steps gives = inl (lacking_chain (unlisted steps given gives))

    -- if these parents are given
    module _ (parents : List KeptCertificate) (is : given ≡ Some parents) where
      pub unlinked_over : (e : CertError) → IsFirstUnlinked judge checks.window checked parents e → IsFirstBroken (chain_rules judge checks checked given) e
      unlinked_over e first =
          inr (
            date_is_met dated,
            inr (
              window_is_met checks.window checked valid,
              inr (chain_is_met parents is, inl (record { asked = asked; parents = parents; is = is; first = first })),
            ),
          )

      module _ (linked : IsLinkedChain judge checks.window checked parents) where
        path : IsRooted checks checked parents → IsAccepted judge checks checked given
        path rooted = record { dated = dated; valid = valid; chained = λ _. record { parents = parents; is = is; linked = linked; rooted = rooted } }

        rootless : (IsRooted checks checked parents → ⊥) → IsFirstBroken (chain_rules judge checks checked given) (errors.InvalidChain chain_errors.NoRoot)
        rootless unrooted =
            inr (
              date_is_met dated,
              inr (
                window_is_met checks.window checked valid,
                inr (
                  chain_is_met parents is,
                  inr (
                    links_are_met parents is linked,
                    inl (record {
                      asked = asked;
                      parents = parents;
                      is = is;
                      unrooted = unrooted;
                      returned = refl;
                    }),
                  ),
                ),
              ),
            )

        pub verdict_over : {X : Type 0} (last : CertType) (r : Result X CertError) → IsOfType (last_of checked parents).elements last
            → MatchResult r (λ _. IsTrue checks.root → last ≡ types.Root)
            (λ e. IsTrue checks.root × (last ≢ types.Root) × (e ≡ errors.InvalidChain chain_errors.NoRoot))
            → MatchResult r (λ _. IsAccepted judge checks checked given) (IsFirstBroken (chain_rules judge checks checked given))
        verdict_over last (Ok v) is h = path (λ root. subst (IsOfType (last_of checked parents).elements) (h root) is)
        verdict_over last (Err e) is h =
            subst (IsFirstBroken (chain_rules judge checks checked given)) (sym h.2)
            (rootless (λ rooted. h.1 (one_type (last_of checked parents).elements last is (rooted h.0))))

    module _ {S : Type 0} (steps : S → Option (Bor KeptCertificate) → S → Type 0) (chain : S) (gives : YieldsParents steps (Some chain) given) where
      unlinked_by : (e : CertError) (rest : S) (xs : List (Bor KeptCertificate)) → Yields steps chain xs rest
          → IsFirstUnlinked judge checks.window checked (map lent xs) e → Refuses e
      unlinked_by e rest xs ran first =
          let l = listed steps chain given gives in
          let front = gives_front steps lent chain rest xs l.0 l.2 ran in
          inl (unlinked_over l.0 l.1 e (record {
            before = first.before;
            parent = first.parent;
            after = first.after ++ front.0;
            are = front.1 ∙ ap (λ (zs : List KeptCertificate). zs ++ front.0) first.are ∙ assoc first.before (first.parent ∷ first.after) front.0;
            linked = first.linked;
            broken = first.broken;
          }))

      pub refused_chain : (e : CertError) → OrMemory errors.Memory (λ (e : CertError). (xs : List (Bor KeptCertificate)) × (rest : S)
          × Yields steps chain xs rest × IsFirstUnlinked judge checks.window checked (map lent xs) e) e → Refuses e
      refused_chain e (inl (xs, rest, ran, first)) = unlinked_by e rest xs ran first
      refused_chain e (inr memory) = inr memory

      module _ (xs : List (Bor KeptCertificate)) (ran : Drains steps chain xs) (linked : IsLinkedChain judge checks.window checked (map lent xs)) where
        is_all : given ≡ Some (map lent xs)
        is_all = let l = listed steps chain given gives in l.1 ∙ ap Some (gives_all steps lent chain xs l.0 l.2 ran)

        returned : {X : Type 0} (r : Result X CertError)
            → MatchResult r (λ _. IsAccepted judge checks checked given) (IsFirstBroken (chain_rules judge checks checked given))
            → MatchResult r (λ _. IsAccepted judge checks checked given) Refuses
        returned (Ok v) accepted = accepted
        returned (Err e) broken = inl broken

        pub verdict : {X : Type 0} (last : CertType) (r : Result X CertError) → IsOfType (last_of checked (map lent xs)).elements last
            → MatchResult r (λ _. IsTrue checks.root → last ≡ types.Root)
            (λ e. IsTrue checks.root × (last ≢ types.Root) × (e ≡ errors.InvalidChain chain_errors.NoRoot))
            → MatchResult r (λ _. IsAccepted judge checks checked given) Refuses
        verdict last r is h = returned r (verdict_over (map lent xs) is_all linked last r is h)
