-- The signature of the first signer, under the key of its certificate.
use Rattle.std.proofs.Common.{◌≡◌, ℕ, List, [], ◌∷◌, inl, inr, sym, ap, subst, ◌∙◌}
use Rattle.cms_types.specs.SignerElements.{SignerElements}
use Rattle.der_core.specs.DerElement.{DerElement, Primitive}
use Rattle.der_core.specs.Rules.{IsFirstBroken}
use Rattle.key_core.specs.SignatureRules.{RefusesSignatureBy}
use Rattle.key_core.specs.Verifying.{Judge, Accepts, verify_rules}
use Rattle.key_core.specs.declared.signature_algorithm.SignatureAlgorithm.TheVariants.{RsaPkcs1v15}
use Rattle.key_core.specs.declared.signature_error.SignatureError.{SignatureError}
use Rattle.key_core.specs.declared.signature_error.SignatureError.TheVariants as signature_errors
use Rattle.key_types.specs.PublicKeyInfo.{public_key_info}
use Rattle.key_types.specs.declared.key_info.SubjectPublicKeyInfo.{SubjectPublicKeyInfo}
use Rattle.sig_core.specs.declared.hash.HashAlgorithm.{HashAlgorithm}
use Rattle.x509_core.specs.Link.{HasKey}
use Rattle.x509_types.specs.CertificateElements.{CertificateElements}
use Rattle.authenticode_core.specs.ContentRefusal.{of_signatures}
use Rattle.authenticode_core.specs.SignedFields.{signed_message}
use Rattle.authenticode_core.specs.SigningRules.{IsRefusedUnder, HasSignatureBy, RefusesAuthenticodeBy}
use Rattle.authenticode_core.specs.declared.error.AuthenticodeError.{AuthenticodeError}
use Rattle.authenticode_core.specs.declared.error.AuthenticodeError.TheVariants as errors

pub has_key : (c : CertificateElements) (element : DerElement) (info kept : SubjectPublicKeyInfo) → element ≡ c.tbs.subject_public_key_info
    → element ≡ public_key_info info → kept ≡ info → HasKey c kept
has_key c element info kept at is same = sym at ∙ is ∙ ap public_key_info (sym same)

module _ (judge : Judge) (g : SignerElements) (hash : HashAlgorithm) (c : CertificateElements) (info : SubjectPublicKeyInfo) (msg sig : List ℕ) where
  pub signed_by : HasKey c info → msg ≡ signed_message g → g.signature ≡ Primitive 0x04 sig → Accepts judge (RsaPkcs1v15 hash) info msg sig
      → HasSignatureBy judge g hash c
  signed_by key message signature accepted = record {
    info = info;
    key = key;
    signature = sig;
    octets = signature;
    accepted = subst (λ (m : List ℕ). Accepts judge (RsaPkcs1v15 hash) info m sig) message accepted;
  }

  returned : (source : SignatureError) (e : AuthenticodeError) → HasKey c info → msg ≡ signed_message g → g.signature ≡ Primitive 0x04 sig
      → e ≡ errors.SignatureError source → IsFirstBroken (verify_rules judge (RsaPkcs1v15 hash) info msg sig) source
      → RefusesAuthenticodeBy (IsRefusedUnder judge g hash c ∷ []) e
  returned source e key message signature is broken =
      inl (inl (record {
        info = info;
        key = key;
        signature = sig;
        octets = signature;
        source = source;
        refused = subst (λ (m : List ℕ). IsFirstBroken (verify_rules judge (RsaPkcs1v15 hash) info m sig) source) message broken;
        returned = is;
      }))

  broken_by : (source : SignatureError) (e : AuthenticodeError) → HasKey c info → msg ≡ signed_message g → g.signature ≡ Primitive 0x04 sig
      → e ≡ of_signatures source → IsFirstBroken (verify_rules judge (RsaPkcs1v15 hash) info msg sig) source
      → RefusesAuthenticodeBy (IsRefusedUnder judge g hash c ∷ []) e
  broken_by (signature_errors.Key x) e key message signature is broken = returned (signature_errors.Key x) e key message signature is broken
  broken_by (signature_errors.Rsa x) e key message signature is broken = returned (signature_errors.Rsa x) e key message signature is broken
  broken_by (signature_errors.Ec x) e key message signature is broken = returned (signature_errors.Ec x) e key message signature is broken
  broken_by (signature_errors.Ed x) e key message signature is broken = returned (signature_errors.Ed x) e key message signature is broken
  broken_by signature_errors.BadSignature e key message signature is broken = returned signature_errors.BadSignature e key message signature is broken
  broken_by (signature_errors.UnsupportedAlgorithm x) e key message signature is broken =
      returned (signature_errors.UnsupportedAlgorithm x) e key message signature is broken
  broken_by signature_errors.Memory e key message signature is broken = inr is

  pub refused_under : (source : SignatureError) (e : AuthenticodeError) → HasKey c info → msg ≡ signed_message g → g.signature ≡ Primitive 0x04 sig
      → e ≡ of_signatures source → RefusesSignatureBy (verify_rules judge (RsaPkcs1v15 hash) info msg sig) source
      → RefusesAuthenticodeBy (IsRefusedUnder judge g hash c ∷ []) e
  refused_under source e key message signature is (inl broken) = broken_by source e key message signature is broken
  refused_under source e key message signature is (inr memory) = inr (is ∙ ap of_signatures memory)
