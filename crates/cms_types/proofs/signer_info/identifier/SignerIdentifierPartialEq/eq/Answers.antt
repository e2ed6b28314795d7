use Rattle.der_core.specs.Facts.Equality.{same_whole}
use Rattle.cms_types.specs.SignerIdentifier.{signer_identifier}
use Rattle.cms_types.specs.Facts.SignerIdentifiers.{signer_identifiers}
use Rattle.cms_types.specs.declared.signer_info.identifier.SignerIdentifier.TheVariants as named
use Rattle.cms_types.proofs.Equal.{by_octets}
use Rattle.cms_types.proofs.signer_info.identifier.SignerIdentifierPartialEq.eq.Goals as goal

pub returns-in-SubjectKeyIdentifier-SubjectKeyIdentifier-clause-octets : goal.returns-in-SubjectKeyIdentifier-SubjectKeyIdentifier-clause-octets
returns-in-SubjectKeyIdentifier-SubjectKeyIdentifier-clause-octets c =
    by_octets signer_identifier signer_identifiers _ _ _
    (same_whole named.SubjectKeyIdentifier (λ a b e. cc) _ _ _ _ _ c.in-SubjectKeyIdentifier-SubjectKeyIdentifier.is-0
    c.in-SubjectKeyIdentifier-SubjectKeyIdentifier.is-1 c.eq-in-SubjectKeyIdentifier-SubjectKeyIdentifier.ensures.same)
