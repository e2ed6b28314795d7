-- The builders of a register's certificates, and what is refused by the steps.
use Rattle.std.proofs.Common.{◌≡◌, ℕ, Bool, true, false, List, [], ◌∷◌, ◌++◌, Option, Some, None}
use Rattle.std.proofs.Common.{Result, Ok, Err, IfOk, MatchResult, inl, inr, refl, sym, ap, subst, ◌∙◌}
use Rattle.std.specs.Borrow.{Bor}
use Rattle.der_core.specs.Refusals.{Wraps}
use Rattle.der_core.specs.Rules.{IsFirstBroken, OrMemory}
use Rattle.der_core.specs.Steps.{AreTaken, RefusesBySteps, Step}
use Rattle.key_types.specs.declared.key_info.SubjectPublicKeyInfo.{SubjectPublicKeyInfo}
use Rattle.key_types.specs.declared.algorithm.AlgorithmIdentifier.{AlgorithmIdentifier}
use Rattle.key_core.specs.SignatureAlgorithm.{NamesSignature}
use Rattle.key_core.specs.Signing.{KeyArithmetic, Pair, Signs, arithmetic}
use Rattle.key_core.specs.SignatureRules.{RefusesSignatureBy}
use Rattle.key_core.specs.Verifying.{Judge, verify_rules}
use Rattle.key_core.specs.declared.private_key.PrivateKey.{PrivateKey}
use Rattle.key_core.specs.declared.signature_algorithm.SignatureAlgorithm.{SignatureAlgorithm}
use Rattle.key_core.specs.declared.signature_error.SignatureError.{SignatureError}
use Rattle.key_core.specs.declared.signature_error.SignatureError.TheVariants as signature
use Rattle.names_core.specs.Names.{name_of_sets}
use Rattle.names_core.specs.declared.name.DirectoryName.{DirectoryName}
use Rattle.x509_types.specs.FirstOfValue.{extensions_in}
use Rattle.x509_core.specs.Issued.{HasCert}
use Rattle.x509_core.specs.OwnedCertificate.{KeptCertificate}
use Rattle.x509_core.specs.Link.{IsBadlySignedLink, IsSignedBy, IsSignedWith, signed_octets}
use Rattle.x509_core.specs.declared.error.CertCause.TheVariants as causes
use Rattle.x509_core.specs.declared.error.CertError.{CertError}
use Rattle.x509_core.specs.declared.error.CertError.TheVariants as cert_errors
use Rattle.x509_issuing.specs.Building.{IsBuilt, build_steps}
use Rattle.x509_issuing.specs.IssuedUnder.{IsIdentifiedBy, IsIssuedUnder}
use Rattle.x509_issuing.specs.TakenStep.{TakesStep}
use Rattle.x509_issuing.specs.declared.builder.CertificateBuilder.{CertificateBuilder}
use Rattle.x509_issuing.specs.declared.builder.SubjectInfos.{SubjectInfos}
use Rattle.ca_register.specs.Entries.{step_of}
use Rattle.ca_register.specs.Granting.{IsChildBuilder, IsFor, IsGranted, IsRootBuilder}
use Rattle.ca_register.specs.Issuing.{IsBuiltUnder, IsIssuedCert, root_build_step, signed_steps}
use Rattle.ca_register.specs.Refusals.{unbuilt, wrong_key}
use Rattle.ca_register.specs.declared.entry.Grant.{Grant}
use Rattle.ca_register.specs.declared.error.IssueError.{IssueError}
use Rattle.ca_register.specs.declared.error.IssueError.TheVariants as errors
use Rattle.ca_register.proofs.Children.{well_signed}

-- ---- roots

pub root_builder : (grant : Grant) (name : DirectoryName) (key : Bor PrivateKey) (before after : CertificateBuilder) → IsGranted grant before
    → after ≡ record before { issuer_infos = Some (record { name = name; key = key; self_signed = true }) } → IsRootBuilder grant name key.now after
root_builder grant name key before after g is = subst (IsRootBuilder grant name key.now) (sym is) (record {
  granted = record {
    begins = g.begins;
    ends = g.ends;
    ca = g.ca;
    path_length = g.path_length;
    serial_number = g.serial_number;
    algorithm = g.algorithm;
    method = g.method;
    key_usage = g.key_usage;
    extended_key_usage = g.extended_key_usage;
    subject_alt_name = g.subject_alt_name;
    issuer_alt_name = g.issuer_alt_name;
  };
  issuer = record { name = name; key = key; self_signed = true };
  given = refl;
  named = refl;
  keyed = refl;
  own = refl;
})

pub takes_root : (pair : Pair) (grant : Grant) (name : DirectoryName) (key : PrivateKey) (b : CertificateBuilder) (certificates : List KeptCertificate)
    → IsRootBuilder grant name key b
    → TakesStep pair b certificates (step_of (record { issuer = None; grant = grant }))
takes_root pair grant name key b certificates is = record {
  ca = sym is.granted.ca;
  pathlen = sym is.granted.path_length;
  begins = is.granted.begins;
  ends = is.granted.ends;
  issuer = is.issuer;
  given = is.given;
  by = is.own;
}

module _ (scheme : KeyArithmetic) (word : ℕ) (IsBuilder : CertificateBuilder → Type 0) (b : CertificateBuilder) (is : IsBuilder b) where
  pub root_unbuilt : (source : CertError) → RefusesBySteps cert_errors.Memory (build_steps scheme b word) source
      → RefusesBySteps errors.Memory (root_build_step scheme word IsBuilder ∷ []) (unbuilt source)
  root_unbuilt source (inl first) = inl (inl (b, is, (source, refl, first)))
  root_unbuilt source (inr memory) = inr (ap unbuilt memory)

-- ---- children

pub granted_under : (grant : Grant) (key : Bor PrivateKey) (parent : KeptCertificate) (before after : CertificateBuilder) → IsGranted grant before
    → IsIssuedUnder parent key before after → IsGranted grant after
granted_under grant key parent before after g under = subst (IsGranted grant) (sym under.is) (record {
  begins = g.begins;
  ends = g.ends;
  ca = g.ca;
  path_length = g.path_length;
  serial_number = g.serial_number;
  algorithm = g.algorithm;
  method = g.method;
  key_usage = g.key_usage;
  extended_key_usage = g.extended_key_usage;
  subject_alt_name = g.subject_alt_name;
  issuer_alt_name = g.issuer_alt_name;
})

pub child_builder : (grant : Grant) (subject : SubjectInfos) (inherits : Bool) (key : Bor PrivateKey) (parent : KeptCertificate)
    (before after : CertificateBuilder) → IsFor grant subject inherits before
    → before.authority_key_identifier ≡ None → IsIssuedUnder parent key before after → IsChildBuilder grant subject inherits key.now parent after
child_builder grant subject inherits key parent before after f unidentified under = record {
  for = record {
    granted = granted_under grant key parent before after f.granted under;
    given = ap (λ (b : CertificateBuilder). b.subject_infos) under.is ∙ f.given;
    inherited = ap (λ (b : CertificateBuilder). b.inherits) under.is ∙ f.inherited;
  };
  issuer = record { name = name_of_sets parent.certificate.tbs_certificate.subject; key = key; self_signed = false };
  given = ap (λ (b : CertificateBuilder). b.issuer_infos) under.is;
  named = refl;
  keyed = refl;
  other = refl;
  identified =
      subst (IsIdentifiedBy (extensions_in parent.certificate.tbs_certificate.extensions) None)
      (ap (λ (b : CertificateBuilder). b.authority_key_identifier) (sym under.is))
      (subst (λ (o : Option (List ℕ)). IsIdentifiedBy (extensions_in parent.certificate.tbs_certificate.extensions) o under.authority)
      unidentified under.identified);
}

module _ (scheme : KeyArithmetic) (word : ℕ) (certificates : List KeptCertificate) (issuer : ℕ) (IsBuilder : KeptCertificate → CertificateBuilder → Type 0)
    (parent : KeptCertificate) (has : HasCert certificates issuer parent) (b : CertificateBuilder) (is : IsBuilder parent b) where
  pub child_unbuilt : (source : CertError) → RefusesBySteps cert_errors.Memory (build_steps scheme b word) source
      → RefusesBySteps errors.Memory (signed_steps scheme word certificates issuer IsBuilder) (unbuilt source)
  child_unbuilt source (inl first) = inl (inl (parent, b, has, is, (source, refl, first)))
  child_unbuilt source (inr memory) = inr (ap unbuilt memory)

  module _ (cert : KeptCertificate) (built : IsBuilt scheme b word cert) where
    abbrev under : IsBuiltUnder scheme word certificates issuer IsBuilder cert
    under = record { parent = parent; has = has; by = record { builder = b; is = is; built = built } }

    pub child_signed : (r : Result KeptCertificate IssueError)
        → MatchResult r (λ signed. (signed ≡ cert) × IsSignedBy scheme.judge parent.elements cert.elements)
        (OrMemory errors.Memory (Wraps wrong_key (λ source. IsBadlySignedLink scheme.judge parent.elements cert.elements (causes.Signature source))))
        → MatchResult r (IsIssuedCert scheme word certificates issuer IsBuilder)
        (RefusesBySteps errors.Memory (signed_steps scheme word certificates issuer IsBuilder))
    child_signed (Ok signed) (same, by_key) =
        subst (IsIssuedCert scheme word certificates issuer IsBuilder) (sym same) (record { under = under; signed = by_key })
    child_signed (Err e) (inl wraps) = inl (inr ((cert, under), inl (cert, under, wraps)))
    child_signed (Err e) (inr memory) = inr memory

-- ---- a key that pairs isn't refused

pub unbuilt_is_no_key : (source : CertError) (other : SignatureError) → unbuilt source ≡ errors.WrongKey other → ⊥
unbuilt_is_no_key cert_errors.Memory other e = absurd cc
unbuilt_is_no_key _ other e = absurd cc

-- ---- the algorithm

pub names_algorithm : (judge : Judge) (signs : Signs) (pair : Pair) (b : CertificateBuilder) (word : ℕ) (cert : KeptCertificate)
    → IsBuilt (arithmetic judge signs pair) b word cert → (algorithm : SignatureAlgorithm) → b.signature_hash_type ≡ algorithm
    → NamesSignature cert.certificate.signature_algorithm algorithm
names_algorithm judge signs pair b word cert is algorithm same =
    subst (NamesSignature cert.certificate.signature_algorithm) same
    (subst (λ (id : AlgorithmIdentifier). NamesSignature id b.signature_hash_type) (sym is.made.made.beside) is.made.made.tbs.by.issued_by.signs.identifier)

-- ---- steps of two parts

pub taken_both : {E : Type 0} (a b : List (Step E)) → AreTaken a → AreTaken b → AreTaken (a ++ b)
taken_both [] b p q = q
taken_both (step ∷ a) b p q = (p.0, taken_both a b p.1 q)

pub issued_taken : (scheme : KeyArithmetic) (word : ℕ) (certificates : List KeptCertificate) (issuer : ℕ) (IsBuilder : KeptCertificate → CertificateBuilder
    → Type 0) (cert : KeptCertificate)
    → IsIssuedCert scheme word certificates issuer IsBuilder cert → AreTaken (signed_steps scheme word certificates issuer IsBuilder)
issued_taken scheme word certificates issuer IsBuilder cert is = ((cert, is.under), ((cert, is), tt))

-- ---- what the signature decides

module _ (P : KeptCertificate → Type 0) (judge : Judge) (parent cert : KeptCertificate) (r : Result KeptCertificate IssueError)
    (signed : MatchResult r (λ signed. (signed ≡ cert) × IsSignedBy judge parent.elements cert.elements)
    (OrMemory errors.Memory (Wraps wrong_key (λ source. IsBadlySignedLink judge parent.elements cert.elements (causes.Signature source))))) where
  pub if_signed : (IsSignedBy judge parent.elements cert.elements → P cert) → IfOk r P
  if_signed f = by r signed
    where
      by : (r : Result KeptCertificate IssueError) → MatchResult r (λ signed. (signed ≡ cert) × IsSignedBy judge parent.elements cert.elements)
          (OrMemory errors.Memory (Wraps wrong_key (λ source. IsBadlySignedLink judge parent.elements cert.elements (causes.Signature source)))) → IfOk r P
      by (Ok made) (same, by_key) = subst P (sym same) (f by_key)
      by (Err e) refused = tt

never_refused : (judge : Judge) (parent cert : KeptCertificate) (e : IssueError) (other : SignatureError) → IsSignedBy judge parent.elements cert.elements
    → ◌≡◌ {A = Result KeptCertificate IssueError} (Err e) (Err (errors.WrongKey other))
    → OrMemory errors.Memory (Wraps wrong_key (λ source. IsBadlySignedLink judge parent.elements cert.elements (causes.Signature source))) e → ⊥
never_refused judge parent cert e other by_key is (inl (source, same, bad)) =
    well_signed judge parent.elements cert.elements (causes.Signature source) by_key bad
never_refused judge parent cert e other by_key is (inr memory) = absurd cc

pub never_wrong : (judge : Judge) (parent cert : KeptCertificate) (r : Result KeptCertificate IssueError)
    → MatchResult r (λ signed. (signed ≡ cert) × IsSignedBy judge parent.elements cert.elements)
    (OrMemory errors.Memory (Wraps wrong_key (λ source. IsBadlySignedLink judge parent.elements cert.elements (causes.Signature source))))
    → IsSignedBy judge parent.elements cert.elements → (other : SignatureError) → r ≡ Err (errors.WrongKey other) → ⊥
never_wrong judge parent cert (Ok made) signed by_key other is = absurd cc
never_wrong judge parent cert (Err e) refused by_key other is = never_refused judge parent cert e other by_key is refused

pub signed_or_not : (judge : Judge) (parent cert : KeptCertificate) (algorithm : SignatureAlgorithm) (info : SubjectPublicKeyInfo) (msg sig : List ℕ)
    (source : SignatureError) → IsSignedWith parent.elements cert.elements algorithm info
    → msg ≡ signed_octets cert.elements → sig ≡ cert.elements.signature → RefusesSignatureBy (verify_rules judge algorithm info msg sig) source
    → OrMemory errors.Memory (Wraps wrong_key (λ s. IsBadlySignedLink judge parent.elements cert.elements (causes.Signature s))) (wrong_key source)
signed_or_not judge parent cert algorithm info msg sig source parts message signature (inl first) = inl (
  source,
  refl,
  record {
    algorithm = algorithm;
    info = info;
    source = source;
    parts = parts;
    refused = subst (λ (s : List ℕ). IsFirstBroken (verify_rules judge algorithm info (signed_octets cert.elements) s) source) signature
        (subst (λ (m : List ℕ). IsFirstBroken (verify_rules judge algorithm info m sig) source) message first);
    returned = refl;
  },
)
signed_or_not judge parent cert algorithm info msg sig source parts message signature (inr memory) = inr (ap wrong_key memory)
