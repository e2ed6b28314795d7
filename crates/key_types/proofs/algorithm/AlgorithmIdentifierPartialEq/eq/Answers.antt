use Rattle.std.proofs.Common.{◌≡◌, ◌↔◌, IsTrue, Bool, Option, refl, sym, ap, ◌∙◌, rules}
use Rattle.std.specs.Prelude.{bytes_eq}
use Rattle.std.specs.Option.{option_eq}
use Rattle.der_core.specs.Encoding.{encoding}
use Rattle.der_core.specs.Owned.{KeptElement}
use Rattle.asn1_types.specs.declared.oid.ObjectIdentifier.{ObjectIdentifier}
use Rattle.key_types.specs.declared.algorithm.AlgorithmIdentifier.{AlgorithmIdentifier}
use Rattle.der_core.specs.Facts.Equality.{kept_same, options_same, octets_decide}
use Rattle.key_types.specs.AlgorithmIdentifier.{algorithm_identifier}
use Rattle.key_types.specs.Facts.Algorithms.{algorithms}
use Rattle.key_types.proofs.algorithm.AlgorithmIdentifierPartialEq.eq.Goals as goal

pub returns-else-eq-clause-octets : goal.returns-else-eq-clause-octets
returns-else-eq-clause-octets c = octets_decide algorithm_identifier (λ a b e. algorithms.once (algorithm_identifier a) a b refl e)
    algorithms.formed c.args.self.now c.args.other.now _ (search rules)

-- the OIDs are the same, so the algorithms are if their parameters are
by_parameters : (a b : AlgorithmIdentifier) (t : Bool) → a.oid ≡ b.oid
    → t ≡ option_eq (λ (x y : KeptElement). bytes_eq (encoding x.element) (encoding y.element)) a.parameters b.parameters → IsTrue t ↔ (a ≡ b)
by_parameters a b t oid test =
    let same = options_same _ kept_same a.parameters b.parameters in (
      λ w.
          let parameters = same.0 (sym test ∙ w) in
          ap (λ (o : ObjectIdentifier). record { oid = o; parameters = a.parameters }) oid
          ∙ ap (λ (p : Option KeptElement). record { oid = b.oid; parameters = p }) parameters,
      λ e. test ∙ same.1 (ap (λ (v : AlgorithmIdentifier). v.parameters) e),
    )

pub returns-then-eq-clause-same : goal.returns-then-eq-clause-same
returns-then-eq-clause-same c = by_parameters c.args.self.now c.args.other.now _ (c.eq.ensures.same.0 c.if-eq.true) c.eq-then-eq.ensures

pub returns-then-eq-clause-octets : goal.returns-then-eq-clause-octets
returns-then-eq-clause-octets c = octets_decide algorithm_identifier (λ a b e. algorithms.once (algorithm_identifier a) a b refl e) algorithms.formed
    c.args.self.now c.args.other.now _ (by_parameters c.args.self.now c.args.other.now _ (c.eq.ensures.same.0 c.if-eq.true) c.eq-then-eq.ensures)
