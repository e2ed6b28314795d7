-- Certificates made from a TBSCertificate, and the steps to them.
use Rattle.std.proofs.Common.{◌≡◌, ◌⊎◌, Result, Ok, Err, MatchResult, refl, sym, ap, subst, ◌∙◌, inl, inr}
use Rattle.der_core.specs.Encoding.{IsDer}
use Rattle.der_core.specs.Facts.Fronts.{formed_encoding_once}
use Rattle.der_core.specs.Borrowed.{AreDer}
use Rattle.der_core.specs.Refusals.{RefusesInner}
use Rattle.key_types.specs.declared.key_info.SubjectPublicKeyInfo.{SubjectPublicKeyInfo}
use Rattle.key_core.specs.SignatureRules.{RefusesSignatureBy}
use Rattle.key_core.specs.Signing.{Signs, Pair, IsKeyPair, arithmetic, sign_rules}
use Rattle.key_core.specs.Verifying.{Judge, Accepts}
use Rattle.key_core.specs.declared.element.Element.TheVariants as elements
use Rattle.key_core.specs.declared.private_key.PrivateKey.{PrivateKey}
use Rattle.key_core.specs.declared.signature_algorithm.SignatureAlgorithm.{SignatureAlgorithm}
use Rattle.x509_types.specs.Certificate.{certificate}
use Rattle.x509_types.specs.CertificateElements.{certificate_of}
use Rattle.x509_types.specs.Facts.Certificates.{certificates}
use Rattle.x509_types.specs.TbsCertificate.{tbs_certificate, inner_tbs}
use Rattle.x509_types.specs.declared.certificate.Certificate.{Certificate}
use Rattle.x509_types.specs.declared.certificate.tbs_certificate.TbsCertificate.{TbsCertificate}
use Rattle.x509_core.specs.CertRefusals.{IsUnwrittenCert}
use Rattle.x509_core.specs.OwnedCertificate.{KeptCertificate, kept_octets, written_octets, written_elements}
use Rattle.x509_core.specs.declared.error.CertError.{CertError}
use Rattle.x509_core.specs.declared.error.CertError.TheVariants as errors
use Rattle.der_core.specs.Refusals.{Wraps}
use Rattle.der_core.specs.Rules.{OrMemory}
use Rattle.der_core.specs.Steps.{IsFirstUntaken, RefusesBySteps}
use Rattle.x509_issuing.specs.BuildRefusals.{no_octets, no_signature}
use Rattle.x509_issuing.specs.Building.{IsMade, IsSignedCertificate, IsTbsSigned, message_of, signing_steps, tbs_written}

-- the stored element is the written one
element_is : (cert : KeptCertificate) (c : Certificate) → kept_octets cert ≡ written_octets c → certificate_of cert.elements ≡ certificate c
element_is cert c same = formed_encoding_once (certificate_of cert.elements) (certificate c) cert.der.formed (certificates.formed c) same

module _ (judge : Judge) (signs : Signs) (pair : Pair) (algorithm : SignatureAlgorithm) (key : PrivateKey) where
  -- a signed certificate is made, or it can't be written
  pub made_or_not : (tbs : TbsCertificate) (c : Certificate) (r : Result KeptCertificate CertError) → c.tbs_certificate ≡ tbs
      → c.signature_algorithm ≡ tbs.signature → c.signature_value.unused ≡ 0
      → IsDer (tbs_certificate tbs) → AreDer (inner_tbs tbs) → IsTbsSigned signs algorithm key tbs
      → ((public : SubjectPublicKeyInfo) → IsKeyPair pair key public → Accepts judge algorithm public (message_of tbs) c.signature_value.payload)
      → MatchResult r (λ cert. (kept_octets cert ≡ written_octets c) × (cert.certificate ≡ c))
      (IsUnwrittenCert elements.Certificate (RefusesInner (written_elements c)))
      → MatchResult r (IsMade (arithmetic judge signs pair) algorithm key (λ t. t ≡ tbs))
      (RefusesBySteps errors.Memory (signing_steps (arithmetic judge signs pair) algorithm key (λ t. t ≡ tbs)))
  made_or_not tbs c r is beside unused der inner signed accepted made =
      let whole : IsSignedCertificate judge pair algorithm key (λ t. t ≡ tbs) c = record {
        tbs = is;
        beside = beside ∙ ap (λ (t : TbsCertificate). t.signature) (sym is);
        unused = unused;
        accepted = λ public paired. subst (λ (t : TbsCertificate). Accepts judge algorithm public (message_of t) c.signature_value.payload) (sym is)
            (accepted public paired);
      } in
      by r whole made
    where
      by : (r : Result KeptCertificate CertError) → IsSignedCertificate judge pair algorithm key (λ t. t ≡ tbs) c
          → MatchResult r (λ cert. (kept_octets cert ≡ written_octets c) × (cert.certificate ≡ c))
          (IsUnwrittenCert elements.Certificate (RefusesInner (written_elements c)))
          → MatchResult r (IsMade (arithmetic judge signs pair) algorithm key (λ t. t ≡ tbs))
          (RefusesBySteps errors.Memory (signing_steps (arithmetic judge signs pair) algorithm key (λ t. t ≡ tbs)))
      by (Ok cert) whole (octets, value) = record {
        signed = subst (λ (x : Certificate). IsTbsSigned signs algorithm key x.tbs_certificate) (sym value)
            (subst (IsTbsSigned signs algorithm key) (sym is) signed);
        made = subst (IsSignedCertificate judge pair algorithm key (λ t. t ≡ tbs)) (sym value) whole;
        written = element_is cert c octets ∙ ap certificate (sym value);
      }
      by (Err e) whole refused = inl (inr ((tbs, refl, der, inner), inr ((tbs, refl, signed), inl (c, whole, refused))))

  -- what is known about a TBSCertificate carries over to the steps
  signed_as : (A B : TbsCertificate → Type 0) (c : Certificate) → ((t : TbsCertificate) → A t → B t) → IsSignedCertificate judge pair algorithm key A c
      → IsSignedCertificate judge pair algorithm key B c
  signed_as A B c f s = record { tbs = f c.tbs_certificate s.tbs; beside = s.beside; unused = s.unused; accepted = s.accepted }

  made_as : (A B : TbsCertificate → Type 0) (cert : KeptCertificate) → ((t : TbsCertificate) → A t → B t)
      → IsMade (arithmetic judge signs pair) algorithm key A cert → IsMade (arithmetic judge signs pair) algorithm key B cert
  made_as A B cert f m = record { signed = m.signed; made = signed_as A B cert.certificate f m.made; written = m.written }

  untaken_as : (A B : TbsCertificate → Type 0) (e : CertError) → ((t : TbsCertificate) → A t → B t)
      → IsFirstUntaken (signing_steps (arithmetic judge signs pair) algorithm key A) e
      → IsFirstUntaken (signing_steps (arithmetic judge signs pair) algorithm key B) e
  untaken_as A B e f (inl octets) = inl (octets.0, f octets.0 octets.1, octets.2)
  untaken_as A B e f (inr (octets, inl signature)) =
      inr ((octets.0, f octets.0 octets.1, octets.2, octets.3), inl (signature.0, f signature.0 signature.1, signature.2))
  untaken_as A B e f (inr (octets, inr (signature, inl whole))) =
      inr (
        (octets.0, f octets.0 octets.1, octets.2, octets.3),
        inr ((signature.0, f signature.0 signature.1, signature.2), inl (whole.0, signed_as A B whole.0 f whole.1, whole.2)),
      )
  untaken_as A B e f (inr (octets, inr (signature, inr (whole, none)))) = absurd none

  pub made_or_refused : (A B : TbsCertificate → Type 0) (r : Result KeptCertificate CertError) → ((t : TbsCertificate) → A t → B t)
      → MatchResult r (IsMade (arithmetic judge signs pair) algorithm key A)
      (RefusesBySteps errors.Memory (signing_steps (arithmetic judge signs pair) algorithm key A))
      → MatchResult r (IsMade (arithmetic judge signs pair) algorithm key B)
      (RefusesBySteps errors.Memory (signing_steps (arithmetic judge signs pair) algorithm key B))
  made_or_refused A B (Ok cert) f made = made_as A B cert f made
  made_or_refused A B (Err e) f (inl first) = inl (untaken_as A B e f first)
  made_or_refused A B (Err e) f (inr memory) = inr memory

-- the TBSCertificate can't be written, or isn't signed
pub not_made : (judge : Judge) (signs : Signs) (pair : Pair) (algorithm : SignatureAlgorithm) (key : PrivateKey) (tbs : TbsCertificate) (e : CertError)
    → OrMemory errors.Memory (λ (e : CertError). Wraps no_octets (RefusesInner (tbs_written tbs)) e
    ⊎ (IsDer (tbs_certificate tbs) × AreDer (inner_tbs tbs) × Wraps no_signature (RefusesSignatureBy (sign_rules signs algorithm key (message_of tbs))) e)) e
    → RefusesBySteps errors.Memory (signing_steps (arithmetic judge signs pair) algorithm key (λ t. t ≡ tbs)) e
not_made judge signs pair algorithm key tbs e (inr memory) = inr memory
not_made judge signs pair algorithm key tbs e (inl (inl returned)) = inl (inl (tbs, refl, returned))
not_made judge signs pair algorithm key tbs e (inl (inr (der, inner, returned))) = inl (inr ((tbs, refl, der, inner), inl (tbs, refl, returned)))
