-- The result for a certificate and its parents, by what their iterator yielded in that call.
use Rattle.std.proofs.Common.{◌≡◌, ◌≢◌, IsTrue, false, List, [], map, Option, Some, None, Result, Ok, Err, MatchResult, inl, inr, refl, sym, subst, ◌∙◌}
use Rattle.std.proofs.lemmas.Bool.{false≢true}
use Rattle.std.specs.Borrow.{Bor}
use Rattle.std.specs.Prelude.{IfErr}
use Rattle.std.specs.Iterator.{Yields, Drains}
use Rattle.der_core.specs.Rules.{OrMemory, IsFirstBroken}
use Rattle.key_core.specs.Verifying.{Judge}
use Rattle.x509_core.specs.CertType.{IsOfType}
use Rattle.x509_core.specs.Chain.{GaveSoFar, IsWalked, WasAccepted, WasRefused, IsDated, IsLinkedChain}
use Rattle.x509_core.specs.Chain.{IsFirstUnlinked, LacksDate, IsAccepted, chain_rules, last_of, lent}
use Rattle.x509_core.specs.OwnedCertificate.{KeptCertificate}
use Rattle.x509_core.specs.Link.{IsOutside, link_rules}
use Rattle.x509_core.specs.Parent.{RefusesParent}
use Rattle.x509_core.specs.Rules.{Breaks}
use Rattle.x509_core.specs.Window.{IsWithinWindow}
use Rattle.x509_core.specs.declared.cert_type.CertType.{CertType}
use Rattle.x509_core.specs.declared.cert_type.CertType.TheVariants as types
use Rattle.x509_core.specs.declared.error.Arg.TheVariants as arguments
use Rattle.x509_core.specs.declared.error.CaChainError.TheVariants as chain_errors
use Rattle.x509_core.specs.declared.error.CertError.{CertError}
use Rattle.x509_core.specs.declared.error.CertError.TheVariants as errors
use Rattle.x509_core.specs.declared.validator.ChainChecks.{ChainChecks}
use Rattle.x509_core.specs.declared.window.Window.{Window}
use Rattle.x509_core.proofs.Verdicts.{date_is_met, unasked, lacking_chain, unlinked_over, verdict_over}

-- ---- where memory may run out

pub undated_is_returned : (checks : ChainChecks) (e : CertError) → LacksDate checks e → e ≡ errors.Memory → ⊥
undated_is_returned checks e lacks none = let other = lacks.2 in cc

pub where_asked : {X P : Type 0} (r : Result X CertError) → P → IfErr r (λ e. e ≡ errors.Memory → P)
where_asked (Ok v) p = tt
where_asked (Err e) p = λ none. p

-- the refusal for a missing root isn't out of memory
pub unrooted_is_returned : {X : Type 0} (P Q R N : Type 0) (r : Result X CertError)
    → MatchResult r (λ _. P) (λ e. Q × R × (e ≡ errors.InvalidChain chain_errors.NoRoot)) → IfErr r (λ e. e ≡ errors.Memory → N)
unrooted_is_returned P Q R N (Ok v) h = tt
unrooted_is_returned P Q R N (Err e) h = λ none. let other = h.2 in absurd cc

-- ---- no link reports a missing root

abbrev IsOfNoRoot : CertError → Type 0
IsOfNoRoot e = e ≡ errors.InvalidChain chain_errors.NoRoot

no_link_lacks_root : (judge : Judge) (w : Window) (count : _) (parent child : KeptCertificate) (e : CertError) → IsOfNoRoot e
    → IsFirstBroken (link_rules judge w count parent child) e → ⊥
no_link_lacks_root judge w count parent child e no_root (inl broken) = let other = broken.returned in cc
no_link_lacks_root judge w count parent child e no_root (inr (a, inl broken)) = let other = broken.returned in cc
no_link_lacks_root judge w count parent child e no_root (inr (a, inr (b, inl broken))) = let other = broken.returned in cc
no_link_lacks_root judge w count parent child e no_root (inr (a, inr (b, inr (c, inl broken)))) = of_parent e no_root broken.0
  where
    of_parent : (e : CertError) → IsOfNoRoot e → RefusesParent parent child e → ⊥
    of_parent (errors.InvalidChain source) no_root refused = refused
    of_parent _ no_root refused = cc
no_link_lacks_root judge w count parent child e no_root (inr (a, inr (b, inr (c, inr (d, inl broken))))) = let other = broken.returned in cc
no_link_lacks_root judge w count parent child e no_root (inr (a, inr (b, inr (c, inr (d, inr (f, inl broken)))))) = let other = broken.returned in cc
no_link_lacks_root judge w count parent child e no_root (inr (a, inr (b, inr (c, inr (d, inr (f, inr none)))))) = none.1

module _ {S : Type 0} (judge : Judge) (steps : S → Option (Bor KeptCertificate) → S → Type 0) (checks : ChainChecks) (checked : KeptCertificate) where
  abbrev Refused : Option S → CertError → Type 0
  Refused chain e = OrMemory errors.Memory (WasRefused judge steps checks checked chain) e

  -- the iterator wasn't run
  unstarted : (chain : Option S) → (given : Option (List KeptCertificate)) × GaveSoFar steps chain given
  unstarted None = (None, refl)
  unstarted (Some chain) = (Some [], ([], chain, refl, refl))

  lacks_date : (chain : Option S) (e : CertError) → LacksDate checks e → WasRefused judge steps checks checked chain e
  lacks_date chain e lacks = record {
    given = (unstarted chain).0;
    came = (unstarted chain).1;
    ended = λ no_root. let other = lacks.2 in absurd cc;
    broken = inl lacks;
  }

  pub undated : (chain : Option S) (e : CertError) → LacksDate checks e → Refused chain e
  undated chain e lacks = inl (lacks_date chain e lacks)

  pub invalid : (chain : Option S) (e : CertError) → IsDated checks → Breaks (IsOutside checks.window checked) e → Refused chain e
  invalid chain e dated (inl broken) = inl (record {
    given = (unstarted chain).0;
    came = (unstarted chain).1;
    ended = λ no_root. let other = broken.returned in absurd cc;
    broken = inr (date_is_met judge checks checked (unstarted chain).0 dated, inl broken);
  })
  invalid chain e dated (inr memory) = inr memory

  module _ (dated : IsDated checks) (valid : IsWithinWindow checks.window checked.elements) where
    pub unlooked : (chain : Option S) → checks.chain ≡ false → WasAccepted judge steps checks checked chain
    unlooked chain off = record {
      given = None;
      walked = λ asked. absurd (false≢true (sym off ∙ asked));
      accepted = unasked judge checks checked None dated valid off;
    }

    module _ (asked : IsTrue checks.chain) where
      pub chainless : (chain : Option S) → chain ≡ None → Refused chain (errors.MissingBuilderArgument arguments.Chain)
      chainless None none = inl (record {
        given = None;
        came = refl;
        ended = λ no_root. absurd cc;
        broken = lacking_chain judge checks checked None dated valid asked refl;
      })
      chainless (Some chain) none = absurd cc

      module _ (chain : Option S) (iterator : S) (is : chain ≡ Some iterator) where
        so_far : (xs : List (Bor KeptCertificate)) (rest : S) → Yields steps iterator xs rest → GaveSoFar steps chain (Some (map lent xs))
        so_far xs rest ran = subst (λ (c : Option S). GaveSoFar steps c (Some (map lent xs))) (sym is) (xs, rest, ran, refl)

        unlinked_walk : (e : CertError) (xs : List (Bor KeptCertificate)) (rest : S) → Yields steps iterator xs rest
            → IsFirstUnlinked judge checks.window checked (map lent xs) e
            → WasRefused judge steps checks checked chain e
        unlinked_walk e xs rest ran first = record {
          given = Some (map lent xs);
          came = so_far xs rest ran;
          ended = λ no_root. absurd (no_link_lacks_root judge checks.window _ first.parent (last_of checked first.before) e no_root first.broken);
          broken = unlinked_over judge checks checked (Some (map lent xs)) dated valid asked (map lent xs) refl e first;
        }

        pub refused_walk : (e : CertError) → OrMemory errors.Memory (λ (e : CertError). (xs : List (Bor KeptCertificate)) × (rest : S)
            × Yields steps iterator xs rest × IsFirstUnlinked judge checks.window checked (map lent xs) e) e
            → Refused chain e
        refused_walk e (inl (xs, rest, ran, first)) = inl (unlinked_walk e xs rest ran first)
        refused_walk e (inr memory) = inr memory

        module _ (xs : List (Bor KeptCertificate)) (ran : Drains steps iterator xs) where
          all_came : IsWalked steps chain (Some (map lent xs))
          all_came = record { iterator = iterator; parents = xs; is = is; ended = ran; are = refl }

          returned : {X : Type 0} (r : Result X CertError)
              → MatchResult r (λ _. IsAccepted judge checks checked (Some (map lent xs)))
              (IsFirstBroken (chain_rules judge checks checked (Some (map lent xs))))
              → MatchResult r (λ _. WasAccepted judge steps checks checked chain) (Refused chain)
          returned (Ok v) accepted = record { given = Some (map lent xs); walked = λ _. all_came; accepted = accepted }
          returned (Err e) broken = inl (record { given = Some (map lent xs); came = so_far xs ran.1.0 ran.1.1; ended = λ _. all_came; broken = broken })

          pub walk : {X : Type 0} (last : CertType) (r : Result X CertError) → IsLinkedChain judge checks.window checked (map lent xs)
              → IsOfType (last_of checked (map lent xs)).elements last
              → MatchResult r (λ _. IsTrue checks.root → last ≡ types.Root)
              (λ e. IsTrue checks.root × (last ≢ types.Root) × (e ≡ errors.InvalidChain chain_errors.NoRoot))
              → MatchResult r (λ _. WasAccepted judge steps checks checked chain) (Refused chain)
          walk last r linked is_last h =
              returned r (verdict_over judge checks checked (Some (map lent xs)) dated valid asked (map lent xs) refl linked last r is_last h)
