use Rattle.std.proofs.Common.{◌≡◌, ℕ, List, Result, Ok, Err, MatchResult, sym, ap, subst, ◌∙◌}
use Rattle.std.specs.List.{AllByRecursion}
use Rattle.asn1_types.specs.declared.error.TextError.{TextError}
use Rattle.asn1_types.specs.declared.oid.ObjectIdentifier.{ObjectIdentifier}
use Rattle.asn1_types.specs.Subidentifier.{IsSubidentifier}
use Rattle.asn1_types.specs.ObjectIdentifier.{IsArcs, contents_of, IsDottedText, RefusesText, dotted}
use Rattle.asn1_types.proofs.Dotted.{arcs_once, refused_as}
use Rattle.asn1_types.proofs.Identifiers.{arcs_are}
use Rattle.asn1_types.proofs.oid.ObjectIdentifier.from_text.Goals as goal

-- the OID with these arcs is that of their text
of_text : (text arcs : List ℕ) (r : Result ObjectIdentifier TextError) → text ≡ dotted arcs → AllByRecursion IsSubidentifier arcs
    → MatchResult r (λ identifier. IsArcs arcs × (identifier.contents ≡ contents_of arcs)) (RefusesText (IsArcs arcs))
    → MatchResult r (λ identifier. text ≡ dotted identifier.formed.arcs) (RefusesText (IsDottedText text))
of_text text arcs (Ok identifier) e all made = e ∙ ap dotted (sym (arcs_are identifier.contents identifier.formed arcs made.0 made.1))
of_text text arcs (Err x) e all refused = refused_as (IsArcs arcs) (IsDottedText text) (arcs_once arcs text e all) x refused

pub returns-clause-read : goal.returns-clause-read
returns-clause-read c =
    let same = sym c.deref.ensures.value in
    of_text c.args.text.now c.deref.result.now c.from_arcs.result (c.in_ok-arcs.ensures.1 ∙ ap dotted same)
    (subst (AllByRecursion IsSubidentifier) same c.in_ok-arcs.ensures.0) c.from_arcs.ensures
