-- A chain that is accepted or refused under a scheme, under one that agrees with it on the questions.
use Rattle.std.proofs.Common.{◌≡◌, List, ◌∷◌, Option, Some, None, Result, Ok, Err, inl, inr, sym, subst}
use Rattle.std.specs.Prelude.{⊤, IfSome, MatchResult, length}
use Rattle.der_core.specs.Rules.{IsFirstBroken}
use Rattle.key_core.specs.Verifying.{Judge}
use Rattle.x509_core.specs.Chain.{IsAccepted, IsFirstUnlinked, IsUnlinked, chain_rules, last_of}
use Rattle.x509_core.specs.OwnedCertificate.{KeptCertificate}
use Rattle.x509_core.specs.Link.{link_rules}
use Rattle.x509_core.specs.Rules.{RefusesCertBy}
use Rattle.x509_core.specs.declared.error.CertError.{CertError}
use Rattle.x509_core.specs.declared.validator.ChainChecks.{ChainChecks}
use Rattle.x509_core.specs.declared.window.Window.{Window}
use Rattle.signature_questions.specs.Agreement.{Admits, Agree}
use Rattle.signature_questions.specs.Asked.{IsOfChain}
use Rattle.signature_questions.proofs.Admitted.{linked_chain}
use Rattle.signature_questions.proofs.Agreed.{admitted, first_broken, link_same, same, turned}
use Rattle.signature_questions.proofs.LinkedQuestions.{chain_front, of_chain}

same_parents : (a b : List KeptCertificate) → Some a ≡ Some b → a ≡ b
same_parents a b e = cc

none_given : (parents : List KeptCertificate) → None ≡ Some parents → ⊥
none_given parents e = cc

pub chain_accepted : (a b : Judge) (checks : ChainChecks) (checked : KeptCertificate) (parents : List KeptCertificate) → Admits (IsOfChain checked parents) a b
    → IsAccepted a checks checked (Some parents) → IsAccepted b checks checked (Some parents)
chain_accepted a b checks checked parents admits h = record {
  dated = h.dated;
  valid = h.valid;
  chained = λ on.
      let path = h.chained on in record {
        parents = path.parents;
        is = path.is;
        linked = linked_chain a b checks.window checked path.parents
            (subst (λ (all : List KeptCertificate). Admits (IsOfChain checked all) a b) (same_parents parents path.parents path.is) admits)
            path.linked;
        rooted = path.rooted;
      };
}

first_unlinked : (a b : Judge) (w : Window) (checked : KeptCertificate) (parents : List KeptCertificate) → Agree (IsOfChain checked parents) a b
    → (e : CertError) → IsFirstUnlinked a w checked parents e → IsFirstUnlinked b w checked parents e
first_unlinked a b w checked parents agree e h = record {
  before = h.before;
  parent = h.parent;
  after = h.after;
  are = h.are;
  linked = linked_chain a b w checked h.before
      (admitted _ a b (λ q asked.
      agree q (subst (λ (all : List KeptCertificate). IsOfChain checked all q) (sym h.are) (chain_front checked h.before (h.parent ∷ h.after) q asked))))
      h.linked;
  broken = first_broken
      (link_rules a w (length h.before) h.parent (last_of checked h.before))
      (link_rules b w (length h.before) h.parent (last_of checked h.before))
      (link_same a b w (length h.before) h.parent (last_of checked h.before)
      (λ q asked. agree q (of_chain checked parents h.before h.after h.parent h.are q asked))) e h.broken;
}

unlinked : (a b : Judge) (checks : ChainChecks) (checked : KeptCertificate) (parents : List KeptCertificate) → Agree (IsOfChain checked parents) a b
    → (e : CertError) → IsUnlinked a checks checked (Some parents) e → IsUnlinked b checks checked (Some parents) e
unlinked a b checks checked parents agree e h = record {
  asked = h.asked;
  parents = h.parents;
  is = h.is;
  first = first_unlinked a b checks.window checked h.parents
      (subst (λ (all : List KeptCertificate). Agree (IsOfChain checked all) a b) (same_parents parents h.parents h.is) agree)
      e h.first;
}

pub chain_refused : (a b : Judge) (checks : ChainChecks) (checked : KeptCertificate) (parents : List KeptCertificate) (e : CertError)
    → Agree (IsOfChain checked parents) a b
    → IsFirstBroken (chain_rules a checks checked (Some parents)) e → IsFirstBroken (chain_rules b checks checked (Some parents)) e
chain_refused a b checks checked parents e agree h =
    first_broken (chain_rules a checks checked (Some parents)) (chain_rules b checks checked (Some parents))
    (same _, (same _, (same _, ((unlinked a b checks checked parents agree, unlinked b a checks checked parents (turned _ a b agree)), (same _, tt)))))
    e h

-- without parents no question is asked
none_accepted : (a b : Judge) (checks : ChainChecks) (checked : KeptCertificate) → IsAccepted a checks checked None → IsAccepted b checks checked None
none_accepted a b checks checked h = record {
  dated = h.dated;
  valid = h.valid;
  chained = λ on. absurd (none_given (h.chained on).parents (h.chained on).is);
}

none_refused : (a b : Judge) (checks : ChainChecks) (checked : KeptCertificate) (e : CertError) → IsFirstBroken (chain_rules a checks checked None) e
    → IsFirstBroken (chain_rules b checks checked None) e
none_refused a b checks checked e h =
    first_broken (chain_rules a checks checked None) (chain_rules b checks checked None) (
      same _,
      (
        same _,
        (
          same _,
          ((λ d unlinked. absurd (none_given unlinked.parents unlinked.is), λ d unlinked. absurd (none_given unlinked.parents unlinked.is)), (same _, tt)),
        ),
      ),
    )
    e h

accepted_with : (a b : Judge) (checks : ChainChecks) (checked : KeptCertificate) (given : Option (List KeptCertificate))
    → IfSome given (λ parents. Agree (IsOfChain checked parents) a b)
    → IsAccepted a checks checked given → IsAccepted b checks checked given
accepted_with a b checks checked None agree h = none_accepted a b checks checked h
accepted_with a b checks checked (Some parents) agree h = chain_accepted a b checks checked parents (admitted _ a b agree) h

refused_with : (a b : Judge) (checks : ChainChecks) (checked : KeptCertificate) (given : Option (List KeptCertificate)) (e : CertError)
    → IfSome given (λ parents. Agree (IsOfChain checked parents) a b)
    → IsFirstBroken (chain_rules a checks checked given) e → IsFirstBroken (chain_rules b checks checked given) e
refused_with a b checks checked None e agree h = none_refused a b checks checked e h
refused_with a b checks checked (Some parents) e agree h = chain_refused a b checks checked parents e agree h

pub verified : (a b : Judge) (checks : ChainChecks) (checked : KeptCertificate) (given : Option (List KeptCertificate)) (result : Result ⊤ CertError)
    → IfSome given (λ parents. Agree (IsOfChain checked parents) a b)
    → MatchResult result (λ _. IsAccepted a checks checked given) (RefusesCertBy (chain_rules a checks checked given))
    → MatchResult result (λ _. IsAccepted b checks checked given) (RefusesCertBy (chain_rules b checks checked given))
verified a b checks checked given (Ok done) agree h = accepted_with a b checks checked given agree h
verified a b checks checked given (Err e) agree (inl broken) = inl (refused_with a b checks checked given e agree broken)
verified a b checks checked given (Err e) agree (inr memory) = inr memory
