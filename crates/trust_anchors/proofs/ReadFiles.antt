-- Reading the certificates of the files, one after another.
use Rattle.std.proofs.Common.{◌≡◌, ℕ, zero, suc, ◌+◌, ◌<◌, ◌≤◌, List, [], ◌∷◌, ◌++◌, map, length, length-append}
use Rattle.std.proofs.Common.{get_or, take, drop, append_assoc, refl, sym, ap, ap₂, subst, ◌∙◌, arith}
use Rattle.std.proofs.lemmas.List.{map-append, take_all, take-append-drop}
use Rattle.der_core.specs.Refusals.{RefusesOctets}
use Rattle.key_core.specs.declared.element.Element.TheVariants as elements
use Rattle.x509_types.specs.Certificate.{IsCertificate}
use Rattle.x509_core.specs.CertRefusals.{IsUnreadCert, unread}
use Rattle.x509_core.specs.OwnedCertificate.{KeptCertificate, kept_octets}
use Rattle.x509_core.specs.declared.error.CertError.{CertError}
use Rattle.x509_core.specs.declared.error.CertError.TheVariants as errors
use Rattle.trust_anchors.specs.Commands.{AreGiven, code_anchor}
use Rattle.trust_anchors.specs.Reading.{AppendsAnchors, AppendsRead, IsUnread}
use Rattle.trust_anchors.specs.declared.anchor.Anchor.{Anchor}
use Rattle.trust_anchors.specs.declared.reading.ReadError.{ReadError}
use Rattle.trust_anchors.specs.declared.reading.ReadError.TheVariants as read_error
use Rattle.x509_core.proofs.OwnedOctets.{refused_for_memory}

-- octets that are refused are no certificate, unless memory ran out
pub unread_one : (octets : List ℕ) (e : CertError) (r : ReadError) → IsUnreadCert elements.Certificate (RefusesOctets IsCertificate octets) e
    → (r ≡ read_error.NoCertificate → e ≡ errors.Memory → ⊥) → IsUnread (octets ∷ []) r
unread_one octets e read_error.Memory refused why = tt
unread_one octets e read_error.NoCertificate refused why = record {
  ahead = [];
  unread = octets;
  behind = [];
  are = refl;
  isnt = λ kept is. why refl (refused.1 ∙ ap (unread elements.Certificate) (refused_for_memory kept octets refused.0 is refused.2));
}

-- octets that aren't read are among others
pub unread_among : (ahead octets behind all : List (List ℕ)) (r : ReadError) → all ≡ ahead ++ (octets ++ behind) → IsUnread octets r → IsUnread all r
unread_among ahead octets behind all read_error.Memory are h = tt
unread_among ahead octets behind all read_error.NoCertificate are h = record {
  ahead = ahead ++ h.ahead;
  unread = h.unread;
  behind = h.behind ++ behind;
  are = are ∙ ap (λ (xs : List (List ℕ)). ahead ++ (xs ++ behind)) h.are
      ∙ ap (λ (xs : List (List ℕ)). ahead ++ xs) (append_assoc h.ahead (h.unread ∷ h.behind) behind)
      ∙ sym (append_assoc ahead h.ahead (h.unread ∷ (h.behind ++ behind)));
  isnt = h.isnt;
}

-- octets behind others aren't read
pub unread_behind : (ahead : List (List ℕ)) (one : List ℕ) (octets all : List (List ℕ)) (r : ReadError) → all ≡ ahead ++ one ∷ octets → IsUnread octets r
    → IsUnread all r
unread_behind ahead one octets all read_error.Memory are h = tt
unread_behind ahead one octets all read_error.NoCertificate are h = record {
  ahead = ahead ++ one ∷ h.ahead;
  unread = h.unread;
  behind = h.behind;
  are = are ∙ ap (λ (xs : List (List ℕ)). ahead ++ one ∷ xs) h.are ∙ sym (append_assoc ahead (one ∷ h.ahead) (h.unread ∷ h.behind));
  isnt = h.isnt;
}

-- the first isn't read
pub first_unread : (first : List ℕ) (others all : List (List ℕ)) (r : ReadError) → all ≡ first ∷ others → IsUnread (first ∷ []) r → IsUnread all r
first_unread first others all r are h = unread_among [] (first ∷ []) others all r are h

-- a later one isn't
pub later_unread : (first : List ℕ) (others all : List (List ℕ)) (r : ReadError) → all ≡ first ∷ others → IsUnread others r → IsUnread all r
later_unread first others all read_error.Memory are h = tt
later_unread first others all read_error.NoCertificate are h = record {
  ahead = first ∷ h.ahead;
  unread = h.unread;
  behind = h.behind;
  are = are ∙ ap (λ (xs : List (List ℕ)). first ∷ xs) h.are;
  isnt = h.isnt;
}

-- the first is read, and all later ones
pub read_behind : (octets : List ℕ) (others all : List (List ℕ)) (certificate : KeptCertificate) (before kept after : List KeptCertificate)
    → all ≡ octets ∷ others → kept_octets certificate ≡ octets → kept ≡ before ++ certificate ∷ [] → AppendsRead kept after others
    → AppendsRead before after all
read_behind octets others all certificate before kept after are is pushed h = (
  certificate ∷ h.0,
  h.1 ∙ ap (λ (xs : List KeptCertificate). xs ++ h.0) pushed ∙ append_assoc before (certificate ∷ []) h.0,
  ap₂ (λ (x : List ℕ) (xs : List (List ℕ)). x ∷ xs) is h.2 ∙ sym are,
)

pub anchors_behind : (octets : List ℕ) (others all : List (List ℕ)) (certificate : KeptCertificate) (before kept after : List Anchor)
    → all ≡ octets ∷ others → kept_octets certificate ≡ octets → kept ≡ before ++ code_anchor certificate ∷ [] → AppendsAnchors kept after others
    → AppendsAnchors before after all
anchors_behind octets others all certificate before kept after are is pushed h = (
  certificate ∷ h.0,
  h.1 ∙ ap (λ (xs : List Anchor). xs ++ map code_anchor h.0) pushed ∙ append_assoc before (code_anchor certificate ∷ []) (map code_anchor h.0),
  ap₂ (λ (x : List ℕ) (xs : List (List ℕ)). x ∷ xs) is h.2 ∙ sym are,
)

-- it is the last
pub last_anchor : (octets : List ℕ) (all : List (List ℕ)) (certificate : KeptCertificate) (before after : List Anchor)
    → all ≡ octets ∷ [] → kept_octets certificate ≡ octets → after ≡ before ++ code_anchor certificate ∷ [] → AppendsAnchors before after all
last_anchor octets all certificate before after are is pushed = (certificate ∷ [], pushed, ap (λ (x : List ℕ). x ∷ []) is ∙ sym are)

-- ---- all certificates of a command

-- the files after the first: other anchors, the certificate, the pool
split_from : {W : Type 0} (text : W → List ℕ) (words : List W) (more n : ℕ) (word : W) (octets : List ℕ) → length words ≡ more + 1 + n
    → word ≡ get_or words more word → text word ≡ octets
    → map text words ≡ map text (take more words) ++ octets ∷ map text (take n (drop (suc more) words))
split_from text [] more n word octets many is said = absurd (omega (arith, many))
split_from text (w ∷ words) zero n word octets many is said =
    let all = take_all n words (omega (arith, many)) in
    ap₂ (λ (x : List ℕ) (xs : List (List ℕ)). x ∷ xs) (ap text (sym is) ∙ said) (ap (map text) (sym all))
split_from text (w ∷ words) (suc more) n word octets many is said =
    ap (λ (xs : List (List ℕ)). text w ∷ xs) (split_from text words more n word octets (omega (arith, many)) is said)

pub split_by : {W : Type 0} (text : W → List ℕ) (words : List W) (more n : ℕ) (word : W) (octets : List ℕ) → length words ≡ more + 1 + n
    → word ≡ get_or words more word → text word ≡ octets
    → map text words ≡ map text (take more words) ++ octets ∷ map text (take n (drop (more + 1) words))
split_by text words more n word octets many is said =
    let one : suc more ≡ more + 1 = omega arith in
    subst (λ (k : ℕ). map text words ≡ map text (take more words) ++ octets ∷ map text (take n (drop k words))) one
    (split_from text words more n word octets many is said)

pub front_of : {W : Type 0} (text : W → List ℕ) (words : List W) (more : ℕ) → map text words ≡ map text (take more words) ++ map text (drop more words)
front_of text words more = ap (map text) (sym (take-append-drop more words)) ∙ map-append text (take more words) (drop more words)

pub count_front : {W : Type 0} (text : W → List ℕ) (words : List W) (more : ℕ) → more ≤ length words → length (map text (take more words)) ≡ more
count_front text words zero enough = refl
count_front text [] (suc more) enough = absurd (omega (arith, enough))
count_front text (w ∷ words) (suc more) enough = ap suc (count_front text words more (omega (arith, enough)))

pub no_words : {W : Type 0} (text : W → List ℕ) (words : List W) → length words < 1 → map text words ≡ []
no_words text [] none = refl
no_words text (w ∷ words) none = absurd (omega (arith, none))

same_length : (read : List KeptCertificate) (octets : List (List ℕ)) → map kept_octets read ≡ octets → length read ≡ length octets
same_length [] [] are = refl
same_length [] (o ∷ octets) are = absurd cc
same_length (r ∷ read) [] are = absurd cc
same_length (r ∷ read) (o ∷ octets) are = ap suc (same_length read octets (cc))

-- the pool has a certificate for each file behind those of the anchors and of the certificate
pub count_pool : (number : ℕ) (octets : List (List ℕ)) (anchors : List KeptCertificate) (checked : KeptCertificate) (pool : List KeptCertificate)
    → AreGiven number octets anchors checked pool
    → number + 1 + length pool ≡ length octets
count_pool number octets anchors checked pool given =
    let all : length (anchors ++ checked ∷ pool) ≡ length octets = same_length (anchors ++ checked ∷ pool) octets given.are in
    let both = length-append anchors (checked ∷ pool) in
    omega (arith, all, both, given.count)

-- what was read is given
pub are_given : (number : ℕ) (front : List (List ℕ)) (octets : List ℕ) (back all : List (List ℕ)) (store : List Anchor) (checked : KeptCertificate)
    (pool before : List KeptCertificate) (none : List Anchor)
    → all ≡ front ++ octets ∷ back → length front ≡ number → none ≡ [] → AppendsAnchors none store front → kept_octets checked ≡ octets → before ≡ []
    → AppendsRead before pool back
    → (anchors : List KeptCertificate) × (store ≡ map code_anchor anchors) × AreGiven number all anchors checked pool
are_given number front octets back all store checked pool before none are many no_anchor anchors is no_other others = (
  anchors.0,
  anchors.1 ∙ ap (λ (xs : List Anchor). xs ++ map code_anchor anchors.0) no_anchor,
  record {
    count = same_length anchors.0 front anchors.2 ∙ many;
    are = map-append kept_octets anchors.0 (checked ∷ pool)
        ∙ ap₂ (λ (xs ys : List (List ℕ)). xs ++ ys) anchors.2 (ap₂ (λ (x : List ℕ) (xs : List (List ℕ)). x ∷ xs) is
        (ap (map kept_octets) (others.1 ∙ ap (λ (xs : List KeptCertificate). xs ++ others.0) no_other) ∙ others.2))
        ∙ sym are;
  },
)
