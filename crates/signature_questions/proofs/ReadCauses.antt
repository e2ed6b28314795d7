-- Octets are those of one list of certificates, or refused for one cause, out of memory aside.
use Rattle.std.proofs.Common.{◌≡◌, ◌≢◌, ℕ, List, [], ◌∷◌, ◌++◌, map, refl, sym, ap, subst, ◌∙◌}
use Rattle.der_core.specs.Refusals.{RefusesOctets}
use Rattle.der_core.specs.declared.error.DerError.{DerError}
use Rattle.der_core.specs.declared.error.DerError.TheVariants as der
use Rattle.der_core.proofs.Exact.{no_fault_where_whole, refused_exactly}
use Rattle.key_core.specs.declared.element.Element.TheVariants as elements
use Rattle.x509_types.specs.Certificate.{IsCertificate}
use Rattle.x509_types.specs.declared.certificate.Certificate.{Certificate}
use Rattle.x509_core.specs.CertRefusals.{IsUnreadCert, unread}
use Rattle.x509_core.proofs.OwnedOctets.{refused_for_memory}
use Rattle.x509_core.specs.OwnedCertificate.{KeptCertificate, kept_octets}
use Rattle.x509_core.specs.declared.error.CertError.{CertError}
use Rattle.x509_core.specs.declared.error.CertError.TheVariants as cert
use Rattle.signature_questions.specs.Commands.{IsRefusedCertificate}

-- ---- octets that aren't a certificate

one_source : (octets : List ℕ) (s t : DerError) → s ≢ der.Memory → t ≢ der.Memory → RefusesOctets IsCertificate octets s
    → RefusesOctets IsCertificate octets t → s ≡ t
one_source octets (der.Malformed m) (der.Malformed n) a b p q = ap der.Malformed (refused_exactly octets n.at n.fault m q p)
one_source octets (der.Malformed m) der.Shape a b p q = absurd (no_fault_where_whole octets q.element m.at m.fault q.der q.encoded p)
one_source octets (der.Malformed m) der.TooDeep a b p q = absurd q
one_source octets (der.Malformed m) der.TooLong a b p q = absurd q
one_source octets (der.Malformed m) der.Memory a b p q = absurd (b refl)
one_source octets der.Shape (der.Malformed n) a b p q = absurd (no_fault_where_whole octets p.element n.at n.fault p.der p.encoded q)
one_source octets der.Shape der.Shape a b p q = refl
one_source octets der.Shape der.TooDeep a b p q = absurd q
one_source octets der.Shape der.TooLong a b p q = absurd q
one_source octets der.Shape der.Memory a b p q = absurd (b refl)
one_source octets der.TooDeep t a b p q = absurd p
one_source octets der.TooLong t a b p q = absurd p
one_source octets der.Memory t a b p q = absurd (a refl)

-- the cause isn't that memory ran out
not_memory : (e : CertError) (source : DerError) → e ≡ unread elements.Certificate source → e ≢ cert.Memory → source ≢ der.Memory
not_memory e source is not same = not (is ∙ ap (unread elements.Certificate) same)

abbrev Refused : List ℕ → CertError → Type 0
Refused octets e = IsUnreadCert elements.Certificate (RefusesOctets IsCertificate octets) e

one_refusal : (octets : List ℕ) (e d : CertError) → e ≢ cert.Memory → d ≢ cert.Memory → Refused octets e → Refused octets d → e ≡ d
one_refusal octets e d a b (s, is, p) (t, own, q) =
    is ∙ ap (unread elements.Certificate) (one_source octets s t (not_memory e s is a) (not_memory d t own b) p q) ∙ sym own

not_refused : (kept : KeptCertificate) (octets : List ℕ) (e : CertError) → kept_octets kept ≡ octets → e ≢ cert.Memory → Refused octets e → ⊥
not_refused kept octets e is not (s, own, p) = not_memory e s own not (refused_for_memory kept octets s is p)

-- ---- the first octets that aren't a certificate

first_is : (x y : List ℕ) (xs ys : List (List ℕ)) → x ∷ xs ≡ y ∷ ys → x ≡ y
first_is x y xs ys are = cc

others_are : (x y : List ℕ) (xs ys : List (List ℕ)) → x ∷ xs ≡ y ∷ ys → xs ≡ ys
others_are x y xs ys are = cc

one_unread : (read kept : List KeptCertificate) (u v : List ℕ) (others behind : List (List ℕ)) (e d : CertError) → e ≢ cert.Memory → d ≢ cert.Memory
    → map kept_octets read ++ u ∷ others ≡ map kept_octets kept ++ v ∷ behind → Refused u e → Refused v d → e ≡ d
one_unread [] [] u v others behind e d a b are p q =
    one_refusal v e d a b (subst (λ (o : List ℕ). Refused o e) (first_is u v others behind are) p) q
one_unread [] (k ∷ kept) u v others behind e d a b are p q =
    absurd (not_refused k u e (sym (first_is u (kept_octets k) others (map kept_octets kept ++ v ∷ behind) are)) a p)
one_unread (k ∷ read) [] u v others behind e d a b are p q =
    absurd (not_refused k v d (first_is (kept_octets k) v (map kept_octets read ++ u ∷ others) behind are) b q)
one_unread (k ∷ read) (l ∷ kept) u v others behind e d a b are p q =
    one_unread read kept u v others behind e d a b
    (others_are (kept_octets k) (kept_octets l) (map kept_octets read ++ u ∷ others) (map kept_octets kept ++ v ∷ behind) are) p q

pub one_cause : (octets : List (List ℕ)) (e d : CertError) → IsRefusedCertificate octets e → IsRefusedCertificate octets d → e ≡ d
one_cause octets e d (p, a) (q, b) =
    one_unread p.read q.read p.unread q.unread p.others q.others e d a b (sym p.are ∙ q.are) p.refused q.refused

all_read : (certificates read : List KeptCertificate) (u : List ℕ) (others : List (List ℕ)) (e : CertError) → e ≢ cert.Memory
    → map kept_octets certificates ≡ map kept_octets read ++ u ∷ others → Refused u e → ⊥
all_read [] [] u others e a are p = absurd (let none = are in cc)
all_read [] (k ∷ read) u others e a are p = absurd (let none = are in cc)
all_read (c ∷ certificates) [] u others e a are p = not_refused c u e (first_is (kept_octets c) u (map kept_octets certificates) others are) a p
all_read (c ∷ certificates) (k ∷ read) u others e a are p =
    all_read certificates read u others e a
    (others_are (kept_octets c) (kept_octets k) (map kept_octets certificates) (map kept_octets read ++ u ∷ others) are) p

-- if all are certificates, none is refused
pub none_refused : (octets : List (List ℕ)) (certificates : List KeptCertificate) (e : CertError) → map kept_octets certificates ≡ octets
    → IsRefusedCertificate octets e → ⊥
none_refused octets certificates e are (p, a) = all_read certificates p.read p.unread p.others e a (are ∙ p.are) p.refused
