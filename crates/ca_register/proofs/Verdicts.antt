-- What the validator says over the certificates that the iterator walks to is what it says over
-- those of the ancestors.
use Rattle.std.proofs.Common.{◌≡◌, ◌<◌, ℕ, List, length, Result, refl, sym, ap, subst, slice_index_or, ◌∙◌, arith}
use Rattle.std.proofs.lemmas.Option.{slice_get_read}
use Rattle.asn1_types.specs.declared.generalized_time.GeneralizedTime.{GeneralizedTime}
use Rattle.key_core.specs.Verifying.{Judge}
use Rattle.x509_core.specs.History.{AreAncestors}
use Rattle.x509_core.specs.Issued.{AreCertsAt, HasCert}
use Rattle.x509_core.specs.OwnedCertificate.{KeptCertificate}
use Rattle.x509_core.specs.declared.error.CertError.{CertError}
use Rattle.ca_register.specs.Above.{certificates_above}
use Rattle.ca_register.specs.Authorities.{IsRegister}
use Rattle.ca_register.specs.Entries.{HasEntry, history_of}
use Rattle.ca_register.specs.declared.entry.Entry.{Entry}
use Rattle.ca_register.proofs.AboveCertificates.{above_are, certs_once}
use Rattle.ca_register.proofs.Deciding.{Verdict}
use Rattle.ca_register.proofs.Kept.{kept_all, kept_ordered}
use Rattle.ca_register.proofs.Records.{as_many}

pub verdict_of : {T : Type 0} (judge : Judge) (date : GeneralizedTime) (r : Result T CertError) (here checked : KeptCertificate)
    (above parents : List KeptCertificate) → here ≡ checked → above ≡ parents
    → Verdict judge date here above r → Verdict judge date checked parents r
verdict_of judge date r here checked above parents same line verdict =
    subst (λ (k : KeptCertificate). Verdict judge date k parents r) same (subst (λ (ps : List KeptCertificate). Verdict judge date here ps r) line verdict)

module _ (judge : Judge) (entries : List Entry) (certificates : List KeptCertificate) (kept : ∥ IsRegister judge entries certificates ∥₁) (place : ℕ)
    (within : place < length entries) where
  pub place_within : place < length certificates
  place_within = subst (λ (n : ℕ). place < n) (sym (kept_all judge entries certificates kept)) within

  pub place_has : (checked : KeptCertificate) → checked ≡ slice_index_or certificates place checked → HasCert certificates place checked
  place_has checked read = slice_get_read certificates (length certificates) place checked refl place_within read

  module _ (entry : Entry) (recorded : HasEntry entries place entry) (ancestors : List ℕ) (are : AreAncestors (history_of entries) place ancestors) where
    pub above_at : AreCertsAt certificates ancestors (certificates_above entries certificates (length entries) entry.issuer)
    above_at = above_are entries certificates (kept_ordered judge entries certificates kept) (kept_all judge entries certificates kept ∙ sym (as_many entries))
        place ancestors entry (length entries) are recorded (omega (arith, within))

    pub above_is : (lent : List Entry) (lent_certificates : List KeptCertificate) (most : ℕ) → lent ≡ entries → lent_certificates ≡ certificates
        → most ≡ length entries → (parents : List KeptCertificate)
        → AreCertsAt certificates ancestors parents → certificates_above lent lent_certificates most entry.issuer ≡ parents
    above_is lent lent_certificates most same_entries same_certificates all parents certs =
        ap (λ (l : List Entry). certificates_above l lent_certificates most entry.issuer) same_entries
        ∙ ap (λ (l : List KeptCertificate). certificates_above entries l most entry.issuer) same_certificates
        ∙ ap (λ (m : ℕ). certificates_above entries certificates m entry.issuer) all
        ∙ certs_once certificates ancestors (certificates_above entries certificates (length entries) entry.issuer) parents above_at certs
