-- A link of a chain breaks no rule.
use Rattle.std.proofs.Common.{ℕ, inl, inr, subst}
use Rattle.asn1_types.specs.Values.{identifier_contents}
use Rattle.key_types.specs.declared.algorithm.AlgorithmIdentifier.{AlgorithmIdentifier}
use Rattle.key_types.specs.declared.key_info.SubjectPublicKeyInfo.{SubjectPublicKeyInfo}
use Rattle.key_core.specs.SignatureAlgorithm.{NamesSignature}
use Rattle.der_core.specs.Rules.{IsMet, IsFirstBroken}
use Rattle.key_core.specs.Verifying.{Judge, verify_rules}
use Rattle.key_core.specs.declared.signature_algorithm.SignatureAlgorithm.{SignatureAlgorithm}
use Rattle.key_core.proofs.SignatureIdentifiers.{same_algorithm}
use Rattle.key_core.proofs.Verifications.{accepted_is_met}
use Rattle.x509_types.specs.CertificateElements.{CertificateElements}
use Rattle.x509_core.specs.OwnedCertificate.{KeptCertificate}
use Rattle.x509_core.specs.Link.{IsLink, IsSignedBy, IsBadlySignedLink, IsUnsupported, signed_octets, link_rules}
use Rattle.x509_core.specs.declared.error.CertCause.{CertCause}
use Rattle.x509_core.specs.declared.error.CertError.{CertError}
use Rattle.x509_core.specs.declared.window.Window.{Window}
use Rattle.x509_core.proofs.LinkRules.{authority_is_met, depth_is_met, window_is_met}
use Rattle.x509_core.proofs.Links.{parent_is_met}
use Rattle.x509_core.proofs.SignedParts.{one_algorithm, one_key}

supported_by : (judge : Judge) (parent : CertificateElements) (child : KeptCertificate) → IsSignedBy judge parent child.elements → IsMet (IsUnsupported child)
supported_by judge parent child s = λ e broken.
    broken.unnamed s.algorithm (subst (λ (id : AlgorithmIdentifier). NamesSignature id s.algorithm)
    (one_algorithm child.elements s.parts.id broken.id s.parts.beside broken.beside) s.parts.named)

well_signed : (judge : Judge) (parent child : CertificateElements) (cause : CertCause) → IsSignedBy judge parent child
    → IsBadlySignedLink judge parent child cause → ⊥
well_signed judge parent child cause s b =
    let id = one_algorithm child s.parts.id b.parts.id s.parts.beside b.parts.beside in
    let named = subst (λ (id : AlgorithmIdentifier). NamesSignature id s.algorithm) id s.parts.named in
    let algorithm = same_algorithm b.algorithm s.algorithm (identifier_contents b.parts.id.oid) b.parts.named named in
    let info = one_key parent b.info s.info b.parts.key s.parts.key in
    accepted_is_met judge s.algorithm s.info (signed_octets child) child.signature b.source s.accepted
    (subst (λ (i : SubjectPublicKeyInfo). IsFirstBroken (verify_rules judge s.algorithm i (signed_octets child) child.signature) b.source) info
    (subst (λ (a : SignatureAlgorithm). IsFirstBroken (verify_rules judge a b.info (signed_octets child) child.signature) b.source) algorithm b.refused))

pub link_is_met : (judge : Judge) (w : Window) (count : ℕ) (parent child : KeptCertificate) (e : CertError)
    → IsLink judge w count parent.elements child.elements → IsFirstBroken (link_rules judge w count parent child) e → ⊥
link_is_met judge w count parent child e link (inl broken) = authority_is_met parent link.authority e broken
link_is_met judge w count parent child e link (inr (a, inl broken)) = depth_is_met count parent link.depth e broken
link_is_met judge w count parent child e link (inr (a, inr (b, inl broken))) = window_is_met w parent link.valid e broken
link_is_met judge w count parent child e link (inr (a, inr (b, inr (c, inl broken)))) = parent_is_met parent child link.agreed e broken
link_is_met judge w count parent child e link (inr (a, inr (b, inr (c, inr (d, inl broken))))) = supported_by judge parent.elements child link.signed e broken
link_is_met judge w count parent child e link (inr (a, inr (b, inr (c, inr (d, inr (f, inl broken)))))) =
    well_signed judge parent.elements child.elements broken.cause link.signed broken.broken
link_is_met judge w count parent child e link (inr (a, inr (b, inr (c, inr (d, inr (f, inr none)))))) = none.1
