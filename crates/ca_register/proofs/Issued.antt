-- A register with a certificate issued under one of its own: its builder, its entry, and what the
-- steps refuse.
use Rattle.std.proofs.Common.{◌≡◌, ◌<◌, slice_index_or, ℕ, Bool, true, List, [], ◌∷◌, length, Some, Result, Ok, Err, inl, inr, refl, sym, ap, subst, ◌∙◌}
use Rattle.std.proofs.lemmas.Option.{slice_get_read}
use Rattle.der_core.specs.Encoding.{encoding}
use Rattle.der_core.specs.Steps.{AreTaken, IsFirstUntaken, RefusesBySteps}
use Rattle.key_core.specs.Signing.{KeyArithmetic}
use Rattle.key_core.specs.Verifying.{Judge}
use Rattle.key_core.specs.declared.private_key.PrivateKey.{PrivateKey}
use Rattle.key_core.specs.declared.signature_error.SignatureError.{SignatureError}
use Rattle.x509_core.specs.declared.csr_error.CsrError.{CsrError}
use Rattle.x509_core.specs.declared.csr_error.CsrError.TheVariants as csr_errors
use Rattle.x509_core.specs.History.{IsOrdered}
use Rattle.x509_core.specs.Issued.{HasCert}
use Rattle.x509_core.specs.OwnedCertificate.{KeptCertificate}
use Rattle.x509_issuing.specs.OwnedRequest.{KeptRequest, kept_request}
use Rattle.x509_issuing.specs.declared.builder.CertificateBuilder.{CertificateBuilder}
use Rattle.x509_issuing.specs.declared.builder.SubjectInfos.{SubjectInfos}
use Rattle.x509_issuing.specs.declared.builder.SubjectInfos.TheVariants as subjects
use Rattle.ca_register.specs.Authorities.{IsRegister}
use Rattle.ca_register.specs.Entries.{history_of}
use Rattle.ca_register.specs.Granting.{IsChildBuilder, IsEnrolBuilder, IsFor, IsGranted}
use Rattle.ca_register.specs.Issuing.{IsBuiltUnder, IsIssuedCert, record_steps, request_step, signed_steps}
use Rattle.ca_register.specs.Refusals.{unread_request}
use Rattle.ca_register.specs.declared.entry.Entry.{Entry}
use Rattle.ca_register.specs.declared.entry.Grant.{Grant}
use Rattle.ca_register.specs.declared.error.IssueError.{IssueError}
use Rattle.ca_register.specs.declared.error.IssueError.TheVariants as errors
use Rattle.ca_register.proofs.Kept.{kept_all, kept_ordered}

-- ---- a subject

pub granted_for : (grant : Grant) (subject : SubjectInfos) (before after : CertificateBuilder) → IsGranted grant before
    → after ≡ record before { subject_infos = Some subject } → IsGranted grant after
granted_for grant subject before after g is = subst (IsGranted grant) (sym is) (record {
  begins = g.begins;
  ends = g.ends;
  ca = g.ca;
  path_length = g.path_length;
  serial_number = g.serial_number;
  algorithm = g.algorithm;
  method = g.method;
  key_usage = g.key_usage;
  extended_key_usage = g.extended_key_usage;
  subject_alt_name = g.subject_alt_name;
  issuer_alt_name = g.issuer_alt_name;
})

pub granted_inherits : (grant : Grant) (inherits : Bool) (before after : CertificateBuilder) → IsGranted grant before
    → after ≡ record before { inherits = inherits } → IsGranted grant after
granted_inherits grant inherits before after g is = subst (IsGranted grant) (sym is) (record {
  begins = g.begins;
  ends = g.ends;
  ca = g.ca;
  path_length = g.path_length;
  serial_number = g.serial_number;
  algorithm = g.algorithm;
  method = g.method;
  key_usage = g.key_usage;
  extended_key_usage = g.extended_key_usage;
  subject_alt_name = g.subject_alt_name;
  issuer_alt_name = g.issuer_alt_name;
})

pub for_subject : (grant : Grant) (subject : SubjectInfos) (inherits : Bool) (before after : CertificateBuilder) → IsGranted grant before
    → before.inherits ≡ inherits → after ≡ record before { subject_infos = Some subject }
    → IsFor grant subject inherits after
for_subject grant subject inherits before after g same is = record {
  granted = granted_for grant subject before after g is;
  given = ap (λ (b : CertificateBuilder). b.subject_infos) is;
  inherited = ap (λ (b : CertificateBuilder). b.inherits) is ∙ same;
}

pub for_inherited : (grant : Grant) (subject : SubjectInfos) (inherits old : Bool) (before after : CertificateBuilder) → IsFor grant subject old before
    → after ≡ record before { inherits = inherits } → IsFor grant subject inherits after
for_inherited grant subject inherits old before after f is = record {
  granted = granted_inherits grant inherits before after f.granted is;
  given = ap (λ (b : CertificateBuilder). b.subject_infos) is ∙ f.given;
  inherited = ap (λ (b : CertificateBuilder). b.inherits) is;
}

-- ---- a request

pub enrol_builder : (grant : Grant) (octets : List ℕ) (csr : KeptRequest) (key : PrivateKey) → encoding (kept_request csr) ≡ octets
    → (parent : KeptCertificate) (b : CertificateBuilder)
    → IsChildBuilder grant (subjects.Request csr) true key parent b → IsEnrolBuilder grant octets key parent b
enrol_builder grant octets csr key is parent b child = record { csr = csr; is = is; child = child }

module _ (scheme : KeyArithmetic) (word : ℕ) (certificates : List KeptCertificate) (issuer : ℕ) (A B : KeptCertificate → CertificateBuilder → Type 0)
    (f : (parent : KeptCertificate) (b : CertificateBuilder) → A parent b → B parent b) where
  abbrev under_other : (cert : KeptCertificate) → IsBuiltUnder scheme word certificates issuer A cert → IsBuiltUnder scheme word certificates issuer B cert
  under_other cert under = record {
    parent = under.parent;
    has = under.has;
    by = record { builder = under.by.builder; is = f under.parent under.by.builder under.by.is; built = under.by.built };
  }

  pub issued_by_other : (cert : KeptCertificate) → IsIssuedCert scheme word certificates issuer A cert → IsIssuedCert scheme word certificates issuer B cert
  issued_by_other cert is = record { under = under_other cert is.under; signed = is.signed }

  untaken_other : (e : IssueError) → IsFirstUntaken (signed_steps scheme word certificates issuer A) e
      → IsFirstUntaken (signed_steps scheme word certificates issuer B) e
  untaken_other e (inl (parent, b, has, is, wraps)) = inl (parent, b, has, f parent b is, wraps)
  untaken_other e (inr ((cert, under), inl (other, of, wraps))) = inr ((cert, under_other cert under), inl (other, under_other other of, wraps))
  untaken_other e (inr ((cert, under), inr (signed, none))) = absurd none

  pub refused_by_other : (e : IssueError) → RefusesBySteps errors.Memory (signed_steps scheme word certificates issuer A) e
      → RefusesBySteps errors.Memory (signed_steps scheme word certificates issuer B) e
  refused_by_other e (inl first) = inl (untaken_other e first)
  refused_by_other e (inr memory) = inr memory

-- ---- a request that is refused is no key's refusal

request_is_no_key : (source : CsrError) (other : SignatureError) → unread_request source ≡ errors.WrongKey other → ⊥
request_is_no_key csr_errors.Memory other e = absurd cc
request_is_no_key _ other e = absurd cc

memory_is_no_key : (other : SignatureError) → errors.WrongKey other ≡ errors.Memory → ⊥
memory_is_no_key other e = absurd cc

pub unread_is_no_key : (octets : List ℕ) (other : SignatureError) → RefusesBySteps errors.Memory (request_step octets ∷ []) (errors.WrongKey other) → ⊥
unread_is_no_key octets other (inl (inl (source, same, unread))) = request_is_no_key source other (sym same)
unread_is_no_key octets other (inl (inr (csr, none))) = absurd none
unread_is_no_key octets other (inr memory) = memory_is_no_key other memory

-- ---- a refusal that is returned

same_error : {T : Type 0} (y e other : IssueError) → ◌≡◌ {A = Result T IssueError} (Err y) (Err e)
    → ◌≡◌ {A = Result T IssueError} (Err y) (Err other) → e ≡ other
same_error y e other p q = cc

pub returned_key : {T : Type 0} (r : Result T IssueError) (e other : IssueError) → r ≡ Err e → r ≡ Err other → e ≡ other
returned_key (Ok x) e other p q = absurd cc
returned_key (Err y) e other p q = same_error y e other p q

-- ---- what the entries decided of the lent list

module _ (judge : Judge) (entries : List Entry) (certificates : List KeptCertificate) (kept : ∥ IsRegister judge entries certificates ∥₁) (issuer : ℕ)
    (lent : List Entry) (same : lent ≡ entries) where
  pub lent_ordered : IsOrdered (history_of lent)
  lent_ordered = subst (λ (e : List Entry). IsOrdered (history_of e)) (sym same) (kept_ordered judge entries certificates kept)

  pub kept_untaken : (e : IssueError) → IsFirstUntaken (record_steps lent issuer) e → IsFirstUntaken (record_steps entries issuer) e
  kept_untaken e first = subst (λ (l : List Entry). IsFirstUntaken (record_steps l issuer) e) same first

  module _ (taken : AreTaken (record_steps lent issuer)) where
    pub kept_taken : AreTaken (record_steps entries issuer)
    kept_taken = subst (λ (l : List Entry). AreTaken (record_steps l issuer)) same taken

    pub issuer_within : issuer < length certificates
    issuer_within = subst (λ (n : ℕ). issuer < n) (sym (kept_all judge entries certificates kept)) kept_taken.0

    pub issuer_has : (parent : KeptCertificate) → parent ≡ slice_index_or certificates issuer parent → HasCert certificates issuer parent
    issuer_has parent read = slice_get_read certificates (length certificates) issuer parent refl issuer_within read
