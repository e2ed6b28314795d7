-- A certificate has at most one authority key identifier.
use Rattle.std.proofs.Common.{◌≡◌, ℕ, List, ◌∷◌, sym, ◌∙◌, subst}
use Rattle.der_core.specs.DerElement.{DerElement, Primitive}
use Rattle.der_core.specs.Elements.{sequence}
use Rattle.asn1_types.specs.declared.oids.TheConstants.{CE_SUBJECT_KEY_IDENTIFIER, CE_AUTHORITY_KEY_IDENTIFIER}
use Rattle.x509_types.specs.CertificateElements.{CertificateElements}
use Rattle.x509_types.specs.ExtensionView.{key_identifier}
use Rattle.x509_types.specs.ExtensionParts.{HasFirstElement, IsAuthorityKeyIdentifier, HasSubjectKey, HasAuthorityKey}
use Rattle.x509_types.proofs.FirstExtensions.{value_once}
use Rattle.x509_core.specs.Parent.{AgreeByKey}

pub first_kid : (x y : DerElement) (xs ys : List DerElement) → sequence (x ∷ xs) ≡ sequence (y ∷ ys) → x ≡ y
first_kid x y xs ys e = cc

same_contents : (a b : List ℕ) → Primitive 0x80 a ≡ Primitive 0x80 b → a ≡ b
same_contents a b e = cc

begins_once : (x y : DerElement) (a b : List ℕ) → x ≡ y → HasFirstElement IsAuthorityKeyIdentifier x a → HasFirstElement IsAuthorityKeyIdentifier y b → a ≡ b
begins_once x y a b same p q = same_contents a b (sym p.says ∙ first_kid p.kid q.kid p.kids q.kids (sym p.is ∙ same ∙ q.is) ∙ q.says)

pub named_once : (f : CertificateElements) (a b : List ℕ) → HasAuthorityKey f a → HasAuthorityKey f b → a ≡ b
named_once f a b p q = begins_once p.0 q.0 a b (value_once f CE_AUTHORITY_KEY_IDENTIFIER.now p.0 q.0 p.1 q.1) p.2 q.2

-- the same identifiers agree
pub same_keys : (parent child : CertificateElements) (expected actual : List ℕ) → HasAuthorityKey child expected → HasSubjectKey parent actual
    → expected ≡ actual → AgreeByKey parent child
same_keys parent child expected actual named had same = λ key other. subst (HasSubjectKey parent) (sym same ∙ named_once child expected key named other) had

same_octets : (a b : List ℕ) → key_identifier a ≡ key_identifier b → a ≡ b
same_octets a b e = cc

-- a certificate has at most one subject key identifier
pub had_once : (f : CertificateElements) (a b : List ℕ) → HasSubjectKey f a → HasSubjectKey f b → a ≡ b
had_once f a b p q = same_octets a b (sym p.2 ∙ value_once f CE_SUBJECT_KEY_IDENTIFIER.now p.0 q.0 p.1 q.1 ∙ q.2)
