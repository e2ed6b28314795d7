-- What is reported under a scheme is reported under one that has the same verdicts on the questions.
use Rattle.std.proofs.Common.{ℕ, List, [], ◌∷◌, ◌++◌, Option, Bool, true, false, Result, Ok, Err, inl, inr, refl, sym, ◌∙◌, subst}
use Rattle.std.specs.Prelude.{⊤, MatchResult, length}
use Rattle.cms_types.specs.SignedDataElements.{SignedDataElements}
use Rattle.cms_types.specs.SignerElements.{SignerElements}
use Rattle.der_core.specs.Rules.{Rule, IsFirstBroken}
use Rattle.key_core.specs.Verifying.{Judge, IsJudged, key_rules, verify_rules}
use Rattle.key_core.specs.declared.signature_algorithm.SignatureAlgorithm.{SignatureAlgorithm}
use Rattle.key_core.specs.declared.signature_algorithm.SignatureAlgorithm.TheVariants.{RsaPkcs1v15}
use Rattle.key_types.specs.declared.key_info.SubjectPublicKeyInfo.{SubjectPublicKeyInfo}
use Rattle.sig_core.specs.declared.scheme.Verdict.{Verdict}
use Rattle.x509_core.specs.Chain.{last_of}
use Rattle.x509_core.specs.OwnedCertificate.{KeptCertificate}
use Rattle.x509_core.specs.Link.{IsBadlySignedLink, IsReportedOf, link_rules, signed_octets}
use Rattle.x509_core.specs.declared.error.CertCause.{CertCause}
use Rattle.x509_core.specs.declared.error.CertError.{CertError}
use Rattle.x509_core.specs.declared.window.Window.{Window}
use Rattle.x509_types.specs.CertificateElements.{CertificateElements}
use Rattle.authenticode_core.specs.Basic.{HasSignedData, IsRefusedPart}
use Rattle.authenticode_core.specs.Excuses.{HasBadStamp, HasToken, IsForStamping, IsUnlinkedStamp, stamp_rules}
use Rattle.authenticode_core.specs.FormRules.{FileDiffers}
use Rattle.authenticode_core.specs.LinkedPath.{IsUnlinkedAt}
use Rattle.authenticode_core.specs.Policy.{window_of}
use Rattle.authenticode_core.specs.SignedFields.{IndirectData, IsFirstSigner, signed_message}
use Rattle.authenticode_core.specs.SignerRules.{IsBadlyStamped, IsUnvouched, IsValidOrExcusable, signer_rules}
use Rattle.authenticode_core.specs.SigningRules.{IsBadlySigned, RefusesAuthenticodeBy, signing_rules}
use Rattle.authenticode_core.specs.Trusted.{IsAnswer, IsRefusedFor, IsTrusted, asked, basic_rules, policy_rules, shape_rules}
use Rattle.authenticode_core.specs.ListRules.{ca_rules}
use Rattle.authenticode_core.specs.declared.accepted.Accepted.{Accepted}
use Rattle.authenticode_core.specs.declared.accepted.Excuse.{Excuse}
use Rattle.authenticode_core.specs.declared.accepted.Excuse.TheVariants as excuses
use Rattle.authenticode_core.specs.declared.error.AuthenticodeError.{AuthenticodeError}
use Rattle.authenticode_core.specs.declared.error.CheckError.{CheckError}
use Rattle.authenticode_core.specs.declared.error.CheckError.TheVariants.{Win, Authenticode, Memory}
use Rattle.authenticode_core.specs.declared.policy.Policy.{Policy}
use Rattle.signature_questions.specs.Agreement.{Admits, Agree}
use Rattle.signature_questions.specs.Asked.{IsOfLink, IsOfLinks, IsQuestion}
use Rattle.signature_questions.specs.Question.{Question, AsksAbout}
use Rattle.signature_questions.proofs.Admitted.{linked_chain, reason, trusted}
use Rattle.signature_questions.proofs.LinkedQuestions.{of_front, of_next, of_places}

-- ---- lists of rules that are broken alike

abbrev pub Same : {E : Type 0} → (E → Type 0) → (E → Type 0) → Type 0
Same {E} rule other = ((e : E) → rule e → other e) × ((e : E) → other e → rule e)

pub same : {E : Type 0} (rule : E → Type 0) → Same rule rule
same rule = (λ e h. h, λ e h. h)

abbrev pub AreSame : {E : Type 0} → List (E → Type 0) → List (E → Type 0) → Type 0
AreSame [] [] = ⊤
AreSame [] (other ∷ others) = ⊥
AreSame (rule ∷ rules) [] = ⊥
AreSame (rule ∷ rules) (other ∷ others) = Same rule other × AreSame rules others

are_same : {E : Type 0} (rules : List (E → Type 0)) → AreSame rules rules
are_same [] = tt
are_same (rule ∷ rules) = (same rule, are_same rules)

same_behind : {E : Type 0} (front rules others : List (E → Type 0)) → AreSame rules others → AreSame (front ++ rules) (front ++ others)
same_behind [] rules others h = h
same_behind (rule ∷ front) rules others h = (same rule, same_behind front rules others h)

same_before : {E : Type 0} (fronts others rules more : List (E → Type 0)) → AreSame fronts others → AreSame rules more
    → AreSame (fronts ++ rules) (others ++ more)
same_before [] [] rules more h k = k
same_before [] (other ∷ others) rules more h k = absurd h
same_before (front ∷ fronts) [] rules more h k = absurd h
same_before (front ∷ fronts) (other ∷ others) rules more h k = (h.0, same_before fronts others rules more h.1 k)

pub first_broken : {E : Type 0} (rules others : List (E → Type 0)) → AreSame rules others → (e : E) → IsFirstBroken rules e → IsFirstBroken others e
first_broken [] [] h e p = p
first_broken [] (other ∷ others) h e p = absurd h
first_broken (rule ∷ rules) [] h e p = absurd h
first_broken (rule ∷ rules) (other ∷ others) h e (inl p) = inl (h.0.0 e p)
first_broken (rule ∷ rules) (other ∷ others) h e (inr p) = inr (λ d q. p.0 d (h.0.1 d q), first_broken rules others h.1 e p.1)

-- ---- agreement

pub turned : (Asked : Question → Type 0) (a b : Judge) → Agree Asked a b → Agree Asked b a
turned Asked a b agree = λ q asked. sym (agree q asked)

pub admitted : (Asked : Question → Type 0) (a b : Judge) → Agree Asked a b → Admits Asked a b
admitted Asked a b agree = λ q asked accepts. sym (agree q asked) ∙ accepts

judged : (a b : Judge) (algorithm : SignatureAlgorithm) (info : SubjectPublicKeyInfo) (msg sig : List ℕ) (v : Verdict)
    → Agree (AsksAbout algorithm info msg sig) a b
    → IsJudged a algorithm info msg sig v → IsJudged b algorithm info msg sig v
judged a b algorithm info msg sig v agree h = record {
  alg = h.alg;
  bytes = h.bytes;
  fits = h.fits;
  judged = sym (agree (record { algorithm = h.alg; key = h.bytes; message = msg; signature = sig })
      (record { fits = h.fits; message_is = refl; signature_is = refl })) ∙ h.judged;
}

verify_same : (a b : Judge) (algorithm : SignatureAlgorithm) (info : SubjectPublicKeyInfo) (msg sig : List ℕ)
    → Agree (AsksAbout algorithm info msg sig) a b
    → AreSame (verify_rules a algorithm info msg sig) (verify_rules b algorithm info msg sig)
verify_same a b algorithm info msg sig agree =
    let back = turned _ a b agree in
    same_behind (key_rules algorithm info) _ _ (
      same _,
      (
        (λ e h. (judged a b algorithm info msg sig _ agree h.0, h.1), λ e h. (judged b a algorithm info msg sig _ back h.0, h.1)),
        (
          (λ e h. (judged a b algorithm info msg sig _ agree h.0, h.1), λ e h. (judged b a algorithm info msg sig _ back h.0, h.1)),
          tt,
        ),
      ),
    )

-- ---- links

badly_linked : (a b : Judge) (parent child : CertificateElements) → Agree (IsOfLink parent child) a b
    → (cause : CertCause) → IsBadlySignedLink a parent child cause → IsBadlySignedLink b parent child cause
badly_linked a b parent child agree cause h = record {
  algorithm = h.algorithm;
  info = h.info;
  source = h.source;
  parts = h.parts;
  refused = first_broken _ _ (verify_same a b h.algorithm h.info (signed_octets child) child.signature
      (λ q asked. agree q (record { algorithm = h.algorithm; info = h.info; parts = h.parts; asked = asked })))
      h.source h.refused;
  returned = h.returned;
}

reported_link : (a b : Judge) (parent child : KeptCertificate) → Agree (IsOfLink parent.elements child.elements) a b
    → (e : CertError) → IsReportedOf child (IsBadlySignedLink a parent.elements child.elements) e
    → IsReportedOf child (IsBadlySignedLink b parent.elements child.elements) e
reported_link a b parent child agree e h = record {
  cause = h.cause;
  id = h.id;
  broken = badly_linked a b parent.elements child.elements agree h.cause h.broken;
  name = h.name;
  returned = h.returned;
}

pub link_same : (a b : Judge) (w : Window) (number : ℕ) (parent child : KeptCertificate)
    → Agree (IsOfLink parent.elements child.elements) a b
    → AreSame (link_rules a w number parent child) (link_rules b w number parent child)
link_same a b w number parent child agree = (
  same _,
  (
    same _,
    (
      same _,
      (
        same _,
        (
          same _,
          ((reported_link a b parent child agree, reported_link b a parent child (turned _ a b agree)), tt),
        ),
      ),
    ),
  ),
)

unlinked_at : (a b : Judge) (w : Window) (bag : List CertificateElements) (checked : KeptCertificate) (places : List ℕ)
    → Agree (IsOfLinks bag checked.elements places) a b
    → (e : CertError) → IsUnlinkedAt a w bag checked places e → IsUnlinkedAt b w bag checked places e
unlinked_at a b w bag checked places agree e h =
    let there : (q : Question) → IsOfLinks bag checked.elements (h.before ++ h.place ∷ h.after) q → IsOfLinks bag checked.elements places q
    = λ q asked. subst (λ (all : List ℕ). IsOfLinks bag checked.elements all q) (sym h.are) asked in
    record {
      before = h.before;
      place = h.place;
      after = h.after;
      are = h.are;
      below = h.below;
      stand = h.stand;
      parent = h.parent;
      stands = h.stands;
      linked = linked_chain a b w checked h.below
          (admitted _ a b (λ q asked.
          agree q (there q (of_front bag checked.elements h.before (h.place ∷ h.after) q (of_places bag checked h.before h.below h.stand q asked))))) h.linked;
      broken = first_broken
          (link_rules a w (length h.below) h.parent (last_of checked h.below))
          (link_rules b w (length h.below) h.parent (last_of checked h.below))
          (link_same a b w (length h.below) h.parent (last_of checked h.below)
          (λ q asked. agree q (there q (of_next bag checked h.before h.below h.place h.after h.parent h.stand h.stands q asked)))) e h.broken;
    }

-- ---- signed data

module _ (f : SignedDataElements) where
  refused_under : (a b : Judge) → Agree (IsQuestion f) a b → (g : SignerElements) → IsFirstSigner f g
      → (e : AuthenticodeError) → IsBadlySigned a f g e → IsBadlySigned b f g e
  refused_under a b agree g first e h = record {
    bag = h.bag;
    is_bag = h.is_bag;
    place = h.place;
    certificate = h.certificate;
    is_signer = h.is_signer;
    hash = h.hash;
    named = h.named;
    refused = record {
      info = h.refused.info;
      key = h.refused.key;
      signature = h.refused.signature;
      octets = h.refused.octets;
      source = h.refused.source;
      refused = first_broken
          (verify_rules a (RsaPkcs1v15 h.hash) h.refused.info (signed_message g) h.refused.signature)
          (verify_rules b (RsaPkcs1v15 h.hash) h.refused.info (signed_message g) h.refused.signature)
          (verify_same a b (RsaPkcs1v15 h.hash) h.refused.info (signed_message g) h.refused.signature
          (λ q asked. agree q (inl (record {
            g = g;
            first = first;
            bag = h.bag;
            is_bag = h.is_bag;
            place = h.place;
            certificate = h.certificate;
            is_signer = h.is_signer;
            hash = h.hash;
            named = h.named;
            info = h.refused.info;
            key = h.refused.key;
            signature = h.refused.signature;
            octets = h.refused.octets;
            asked = asked;
          }))))
          h.refused.source h.refused.refused;
      returned = h.refused.returned;
    };
  }

  signing_same : (a b : Judge) → Agree (IsQuestion f) a b → (d : IndirectData) (g : SignerElements) → IsFirstSigner f g
      → AreSame (signing_rules a f d g) (signing_rules b f d g)
  signing_same a b agree d g first = (
    same _,
    (
      same _,
      (
        same _,
        (
          (refused_under a b agree g first, refused_under b a (turned _ a b agree) g first),
          (same _, (same _, (same _, (same _, tt)))),
        ),
      ),
    ),
  )

  refused_part : (a b : Judge) → Agree (IsQuestion f) a b → (hash : List ℕ) (e : AuthenticodeError)
      → IsRefusedPart a f hash e → IsRefusedPart b f hash e
  refused_part a b agree hash e (d, g, has, first, broken) = (
    d,
    g,
    has,
    first,
    first_broken
        (FileDiffers f hash ∷ signing_rules a f d g) (FileDiffers f hash ∷ signing_rules b f d g)
        (same (FileDiffers f hash), signing_same a b agree d g first) e broken,
  )

  refused_for : (a b : Judge) → Agree (IsQuestion f) a b → (file_hash : Option (List ℕ)) (e : AuthenticodeError)
      → IsRefusedFor a f file_hash e → IsRefusedFor b f file_hash e
  refused_for a b agree file_hash e (hash, given, part) = (hash, given, refused_part a b agree hash e part)

  basic_same : (a b : Judge) → Agree (IsQuestion f) a b → (file_hash : Option (List ℕ))
      → AreSame (basic_rules a f file_hash) (basic_rules b f file_hash)
  basic_same a b agree file_hash =
      same_behind (shape_rules f file_hash) (IsRefusedFor a f file_hash ∷ []) (IsRefusedFor b f file_hash ∷ [])
      ((refused_for a b agree file_hash, refused_for b a (turned _ a b agree) file_hash), tt)

  unlinked_stamp : (a b : Judge) → Agree (IsQuestion f) a b → (t : SignedDataElements) (bag : List CertificateElements) → HasToken f t → IsForStamping t bag
      → (e : AuthenticodeError) → IsUnlinkedStamp a bag e → IsUnlinkedStamp b bag e
  unlinked_stamp a b agree t bag has stamping e (cause, h, returned) = (
    cause,
    record {
      first = h.first;
      stands = h.stands;
      places = h.places;
      others = h.others;
      unlinked = unlinked_at a b _ bag h.first h.places
          (λ q asked. agree q (inr (inr (record {
            bag = bag;
            child = h.first.elements;
            places = h.places;
            has = record { t = t; has = has; stamping = stamping; stands = h.stands; others = h.others };
            asked = asked;
          }))))
          cause h.unlinked;
    },
    returned,
  )

  bad_stamp : (a b : Judge) → Agree (IsQuestion f) a b → (policy : Policy) (bag : List CertificateElements) (c : CertificateElements) (e : AuthenticodeError)
      → HasBadStamp a policy f bag c e → HasBadStamp b policy f bag c e
  bad_stamp a b agree policy bag c e h = record {
    mortal = h.mortal;
    unnamed = h.unnamed;
    t = h.t;
    has = h.has;
    stamping_bag = h.stamping_bag;
    stamping = h.stamping;
    broken = first_broken (stamp_rules a policy h.stamping_bag) (stamp_rules b policy h.stamping_bag) (
      (unlinked_stamp a b agree h.t h.stamping_bag h.has h.stamping, unlinked_stamp b a (turned _ a b agree) h.t h.stamping_bag h.has h.stamping),
      (same _, tt),
    )
        e h.broken;
  }

  badly_stamped : (a b : Judge) → Agree (IsQuestion f) a b → (policy : Policy) (e : AuthenticodeError)
      → IsBadlyStamped a policy f e → IsBadlyStamped b policy f e
  badly_stamped a b agree policy e h = record {
    bag = h.bag;
    place = h.place;
    signer = h.signer;
    is = h.is;
    expired = h.expired;
    stamp = bad_stamp a b agree policy h.bag h.signer.elements e h.stamp;
  }

  valid_or_excusable : (a b : Judge) → Agree (IsQuestion f) a b → (policy : Policy) (bag : List CertificateElements) (c : CertificateElements) (excuse : Excuse)
      → IsValidOrExcusable a policy f bag c excuse → IsValidOrExcusable b policy f bag c excuse
  valid_or_excusable a b agree policy bag c excuses.None h = h
  valid_or_excusable a b agree policy bag c excuses.Bag h = (h.0, reason a b f (admitted _ a b agree) policy bag c excuses.Bag h.1)
  valid_or_excusable a b agree policy bag c excuses.Token h = (h.0, reason a b f (admitted _ a b agree) policy bag c excuses.Token h.1)

  unvouched : (a b : Judge) → Agree (IsQuestion f) a b → (policy : Policy) (e : AuthenticodeError)
      → IsUnvouched a policy f e → IsUnvouched b policy f e
  unvouched a b agree policy e h = record {
    bag = h.bag;
    place = h.place;
    signer = h.signer;
    is = h.is;
    excuse = h.excuse;
    valid = valid_or_excusable a b agree policy h.bag h.signer.elements h.excuse h.valid;
    asked = h.asked;
    path = h.path;
    is_path = h.is_path;
    cause = h.cause;
    unlinked = unlinked_at a b (window_of policy) h.bag h.signer h.path
        (λ q asked. agree q (inr (inl (record {
          bag = h.bag;
          child = h.signer.elements;
          places = h.path;
          has = record { is_bag = h.is.is_bag; place = h.place; is_signer = h.is.is_signer; is_path = h.is_path };
          asked = asked;
        }))))
        h.cause h.unlinked;
    returned = h.returned;
  }

  signer_same : (a b : Judge) → Agree (IsQuestion f) a b → (policy : Policy)
      → AreSame (signer_rules a policy f) (signer_rules b policy f)
  signer_same a b agree policy =
      let back = turned _ a b agree in (
        same _,
        (
          same _,
          (
            same _,
            (
              same _,
              (
                same _,
                (
                  same _,
                  (
                    (badly_stamped a b agree policy, badly_stamped b a back policy),
                    ((unvouched a b agree policy, unvouched b a back policy), tt),
                  ),
                ),
              ),
            ),
          ),
        ),
      )

  asked_same : (on : Bool) (rules others : List (Rule AuthenticodeError)) → AreSame rules others → AreSame (asked on rules) (asked on others)
  asked_same true rules others h = h
  asked_same false rules others h = tt

  pub policy_same : (a b : Judge) → Agree (IsQuestion f) a b → (policy : Policy)
      → AreSame (policy_rules a policy f) (policy_rules b policy f)
  policy_same a b agree policy =
      let more = asked policy.against_list (ca_rules policy f) in
      same_before (asked policy.basic (basic_rules a f policy.file_hash)) (asked policy.basic (basic_rules b f policy.file_hash))
      (asked policy.signing (signer_rules a policy f) ++ more) (asked policy.signing (signer_rules b policy f) ++ more)
      (asked_same policy.basic (basic_rules a f policy.file_hash) (basic_rules b f policy.file_hash) (basic_same a b agree policy.file_hash))
      (same_before (asked policy.signing (signer_rules a policy f)) (asked policy.signing (signer_rules b policy f)) more more
      (asked_same policy.signing (signer_rules a policy f) (signer_rules b policy f) (signer_same a b agree policy)) (are_same more))

pub answered : (a b : Judge) (policy : Policy) (octets : List ℕ) (answer : Result Accepted CheckError)
    → ((f : SignedDataElements) → HasSignedData octets f → Agree (IsQuestion f) a b)
    → IsAnswer a policy octets answer → IsAnswer b policy octets answer
answered a b policy octets (Ok result) agree (f, has, h) =
    (f, has, trusted a b f (admitted _ a b (agree f has)) policy result h)
answered a b policy octets (Err (Win e)) agree h = h
answered a b policy octets (Err (Authenticode e)) agree (inl h) = inl h
answered a b policy octets (Err (Authenticode e)) agree (inr (f, has, broken)) =
    inr (f, has, first_broken (policy_rules a policy f) (policy_rules b policy f) (policy_same f a b (agree f has) policy) e broken)
answered a b policy octets (Err Memory) agree h = h

pub data_answered : (a b : Judge) (policy : Policy) (f : SignedDataElements) (answer : Result Accepted AuthenticodeError) → Agree (IsQuestion f) a b
    → MatchResult answer (IsTrusted a policy f) (RefusesAuthenticodeBy (policy_rules a policy f))
    → MatchResult answer (IsTrusted b policy f) (RefusesAuthenticodeBy (policy_rules b policy f))
data_answered a b policy f (Ok result) agree h = trusted a b f (admitted _ a b agree) policy result h
data_answered a b policy f (Err e) agree (inl broken) =
    inl (first_broken (policy_rules a policy f) (policy_rules b policy f) (policy_same f a b agree policy) e broken)
data_answered a b policy f (Err e) agree (inr memory) = inr memory
