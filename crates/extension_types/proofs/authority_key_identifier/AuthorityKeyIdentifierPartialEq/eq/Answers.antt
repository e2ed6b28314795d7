use Rattle.std.proofs.Common.{refl, sym, ◌∙◌, rules}
use Rattle.der_core.specs.Facts.Equality.{octets_decide}
use Rattle.extension_types.specs.AuthorityKeyIdentifier.{authority_key_identifier}
use Rattle.extension_types.specs.Facts.AuthorityKeys.{authority_key_identifiers}
use Rattle.extension_types.proofs.AuthorityKeys.{same_octets, same_issuers, by_number}
use Rattle.extension_types.proofs.authority_key_identifier.AuthorityKeyIdentifierPartialEq.eq.Goals.{then-eq, else-eq}
use Rattle.extension_types.proofs.authority_key_identifier.AuthorityKeyIdentifierPartialEq.eq.Goals as goal

pub returns-then-eq-2-clause-same : goal.returns-then-eq-2-clause-same
returns-then-eq-2-clause-same c =
    elim c.if-eq.branch [
      | then-eq w ↦ by_number _ _ _ ((same_octets _ _).0 (sym c.eq.ensures ∙ w.if-eq.true))
          ((same_issuers _ _).0 (sym w.eq-then-eq.ensures ∙ sym w.value-is ∙ c.if-eq-2.true)) c.eq-then-eq-2.ensures
      | else-eq w ↦ absurd cc (w.value-is, c.if-eq-2.true)
    ]

pub returns-then-eq-2-clause-octets : goal.returns-then-eq-2-clause-octets
returns-then-eq-2-clause-octets c =
    octets_decide authority_key_identifier (λ a b e. authority_key_identifiers.once (authority_key_identifier a) a b refl e)
    authority_key_identifiers.formed c.args.self.now c.args.other.now _
    (elim c.if-eq.branch [
      | then-eq w ↦ by_number _ _ _ ((same_octets _ _).0 (sym c.eq.ensures ∙ w.if-eq.true))
          ((same_issuers _ _).0 (sym w.eq-then-eq.ensures ∙ sym w.value-is ∙ c.if-eq-2.true)) c.eq-then-eq-2.ensures
      | else-eq w ↦ absurd cc (w.value-is, c.if-eq-2.true)
    ])

pub returns-else-eq-2-clause-octets : goal.returns-else-eq-2-clause-octets
returns-else-eq-2-clause-octets c =
    octets_decide authority_key_identifier (λ a b e. authority_key_identifiers.once (authority_key_identifier a) a b refl e)
    authority_key_identifiers.formed c.args.self.now c.args.other.now _ (search rules)
