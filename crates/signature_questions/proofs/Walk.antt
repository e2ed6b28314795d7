-- The questions that are still to come, one after another.
use Rattle.std.proofs.Common.{◌≡◌, ◌⊎◌, ℕ, ◌+◌, ◌<◌, List, [], ◌∷◌, ◌++◌, length, Option, Some}
use Rattle.std.proofs.Common.{None, IfSome, MatchOption, inl, inr, refl, sym, ap, subst, ◌∙◌, arith}
use Rattle.std.specs.Prelude.{option_to_list}
use Rattle.cms_types.specs.SignedDataElements.{SignedDataElements}
use Rattle.cms_types.specs.SignerElements.{SignerElements}
use Rattle.cms_types.specs.SignerInfo.{signer_elements}
use Rattle.x509_core.specs.OwnedCertificate.{KeptCertificate}
use Rattle.x509_types.specs.CertificateElements.{CertificateElements}
use Rattle.authenticode_core.specs.BagSigner.{HasNoSigner}
use Rattle.authenticode_core.specs.Excuses.{AreOthersThan, HasToken, IsForStamping}
use Rattle.authenticode_core.specs.IssuerWalk.{IsIssuerPath}
use Rattle.authenticode_core.specs.OthersCursor.{AreLeft, IsFirstOf, unread_members}
use Rattle.authenticode_core.specs.Indices.{StandsAt}
use Rattle.authenticode_core.specs.SignedFields.{IsFirstSigner, signers_of}
use Rattle.authenticode_core.specs.SigningRules.{IsBagOf, IsSignerCertificate}
use Rattle.authenticode_core.specs.declared.bag.others.Others.{Others}
use Rattle.authenticode_core.proofs.Tokens.{token_once}
use Rattle.signature_questions.specs.Ahead.{AreAhead, AreAheadOf, AreLinksAhead, left_links, one_left}
use Rattle.signature_questions.specs.Asked.{HasPath, HasStamp, IsOfLink, IsOfSigner}
use Rattle.signature_questions.specs.Borrowed.{asked, asked_option}
use Rattle.signature_questions.specs.Listed.{AreOfAll, AreOfChain, AreOfLinks, AreQuestions, IsTheOne}
use Rattle.signature_questions.specs.Question.{Question}
use Rattle.signature_questions.specs.declared.links.Links.{Links}
use Rattle.signature_questions.specs.declared.question.Question.{Question as BorrowedQuestion}
use Rattle.signature_questions.specs.declared.questions.Questions.{Questions}
use Rattle.signature_questions.proofs.OneQuestion.{no_certificate}

-- ---- certificates of a bag

module _ (child c : CertificateElements) (old new : Others) (place : ℕ)
    (steps : (bag : List CertificateElements) (places : List ℕ) → AreLeft old bag places
    → (behind : List ℕ) × IsFirstOf bag places place c behind × AreLeft new bag behind) where
  -- the question about the next certificate comes first, if there is one
  pub links_go_on : (first : Option Question) → IsTheOne (IsOfLink c child) first → (others : List Question)
      → ((bag : List CertificateElements) (places : List ℕ) → AreLeft new bag places → AreOfLinks bag c places others)
      → (bag : List CertificateElements) (places : List ℕ) → AreLeft old bag places → AreOfLinks bag child places (option_to_list first ++ others)
  links_go_on first the others more bag places left =
      let moved = steps bag places left in
      subst (λ (ps : List ℕ). AreOfLinks bag child ps (option_to_list first ++ others)) (sym moved.1.are)
      (c, moved.1.stands, first, the, others, refl, more bag moved.0 moved.2)

pub links_end : (child : CertificateElements) (old : Others) → ((bag : List CertificateElements) (places : List ℕ) → AreLeft old bag places → places ≡ [])
    → (bag : List CertificateElements) (places : List ℕ) → AreLeft old bag places → AreOfLinks bag child places []
links_end child old none bag places left = subst (λ (ps : List ℕ). AreOfLinks bag child ps []) (sym (none bag places left)) refl

-- ---- certificates of a chain

pub chain_goes_on : (child parent : KeptCertificate) (all parents : List KeptCertificate) → all ≡ parent ∷ parents → (first : Option Question)
    → IsTheOne (IsOfLink parent.elements child.elements) first
    → (others : List Question) → AreOfChain parent parents others → AreOfChain child all (option_to_list first ++ others)
chain_goes_on child parent all parents are first the others more =
    subst (λ (ps : List KeptCertificate). AreOfChain child ps (option_to_list first ++ others)) (sym are) (first, the, others, refl, more)

-- the same by borrowed certificates
pub chain_goes_on_with : (child parent : KeptCertificate) (all parents : List KeptCertificate) → all ≡ parent ∷ parents → (p c : CertificateElements)
    → p ≡ parent.elements → c ≡ child.elements
    → (first : Option Question) → IsTheOne (IsOfLink p c) first → (others : List Question) → AreOfChain parent parents others
    → AreOfChain child all (option_to_list first ++ others)
chain_goes_on_with child parent all parents are p c above below first the others more =
    let own : IsTheOne (IsOfLink parent.elements child.elements) first =
    subst (λ (d : CertificateElements). IsTheOne (IsOfLink parent.elements d) first) below
    (subst (λ (d : CertificateElements). IsTheOne (IsOfLink d c) first) above the) in
    chain_goes_on child parent all parents are first own others more

pub chain_ends : (child : KeptCertificate) (all : List KeptCertificate) → length all ≡ 0 → AreOfChain child all []
chain_ends child [] none = refl
chain_ends child (parent ∷ parents) none = absurd (omega (arith, none))

-- ---- the questions about signed data

pub nothing_ahead : (links : Option Links) → links ≡ None → AreAheadOf links []
nothing_ahead links none = subst (λ (ls : Option Links). AreAheadOf ls []) (sym none) refl

pub ahead_of : (links : Option Links) (cursor : Links) → links ≡ Some cursor → (qs : List Question) → AreLinksAhead cursor qs → AreAheadOf links qs
ahead_of links cursor is qs ahead = subst (λ (ls : Option Links). AreAheadOf ls qs) (sym is) ahead

pub fewer_of : (links : Option Links) (cursor new : Links) → links ≡ Some cursor
    → length (unread_members new.parents.source) < length (unread_members cursor.parents.source) → left_links (Some new) < left_links links
fewer_of links cursor new is fewer = subst (λ (ls : Option Links). left_links (Some new) < left_links ls) (sym is) fewer

signer_first : (found : Option BorrowedQuestion) (q : BorrowedQuestion) → found ≡ Some q → (others : List Question)
    → asked q ∷ others ≡ option_to_list (asked_option found) ++ others
signer_first found q is others = sym (ap (λ (f : Option BorrowedQuestion). option_to_list (asked_option f) ++ others) is)

no_more : (found : Option BorrowedQuestion) → found ≡ None → (others : List Question) → option_to_list (asked_option found) ++ others ≡ others
no_more found is others = ap (λ (f : Option BorrowedQuestion). option_to_list (asked_option f) ++ others) is

module _ (old new : Questions) where
  pub signer_is_first : (q : BorrowedQuestion) → old.signer ≡ Some q → new.signer ≡ None → new.path ≡ old.path → new.token ≡ old.token
      → (others : List Question) → AreAhead new others → AreAhead old (asked q ∷ others)
  signer_is_first q is gone path token others h = record {
    path = h.path;
    token = h.token;
    are = signer_first old.signer q is others
        ∙ ap (λ (qs : List Question). option_to_list (asked_option old.signer) ++ qs) (h.are ∙ no_more new.signer gone (h.path ++ h.token));
    of_path = subst (λ (links : Option Links). AreAheadOf links h.path) path h.of_path;
    of_token = subst (λ (links : Option Links). AreAheadOf links h.token) token h.of_token;
  }

  pub path_is_next : (q : Question) → old.signer ≡ None → new.signer ≡ None → new.token ≡ old.token
      → ((others : List Question) → AreAheadOf new.path others → AreAheadOf old.path (q ∷ others))
      → (others : List Question) → AreAhead new others → AreAhead old (q ∷ others)
  path_is_next q none gone token step others h = record {
    path = q ∷ h.path;
    token = h.token;
    are = ap (λ (qs : List Question). q ∷ qs) (h.are ∙ no_more new.signer gone (h.path ++ h.token)) ∙ sym (no_more old.signer none (q ∷ h.path ++ h.token));
    of_path = step h.path h.of_path;
    of_token = subst (λ (links : Option Links). AreAheadOf links h.token) token h.of_token;
  }

  pub token_is_next : (q : Question) → old.signer ≡ None → new.signer ≡ None → AreAheadOf old.path [] → new.path ≡ None
      → ((others : List Question) → AreAheadOf new.token others → AreAheadOf old.token (q ∷ others))
      → (others : List Question) → AreAhead new others → AreAhead old (q ∷ others)
  token_is_next q none gone ended path step others h = record {
    path = [];
    token = q ∷ h.token;
    are = ap (λ (qs : List Question). q ∷ qs)
        (h.are ∙ no_more new.signer gone (h.path ++ h.token)
        ∙ ap (λ (qs : List Question). qs ++ h.token) (subst (λ (links : Option Links). AreAheadOf links h.path) path h.of_path))
        ∙ sym (no_more old.signer none (q ∷ h.token));
    of_path = ended;
    of_token = step h.token h.of_token;
  }

pub none_is_ahead : (old : Questions) → old.signer ≡ None → AreAheadOf old.path [] → AreAheadOf old.token [] → AreAhead old []
none_is_ahead old none path token = record { path = []; token = []; are = sym (no_more old.signer none []); of_path = path; of_token = token }

-- where nothing is left
pub past_the_end : (cursor : Questions) → cursor.signer ≡ None → cursor.path ≡ None → cursor.token ≡ None → AreAhead cursor []
past_the_end cursor signer path token = none_is_ahead cursor signer (nothing_ahead cursor.path path) (nothing_ahead cursor.token token)

-- if the signer's question and those of its path are past
pub token_answers : (old new : Questions) (r : Option BorrowedQuestion) → old.signer ≡ None → new.signer ≡ None → AreAheadOf old.path [] → new.path ≡ None
    → MatchOption r (AreAheadOf old.token []) (λ q. (others : List Question) → AreAheadOf new.token others → AreAheadOf old.token (asked q ∷ others))
    → MatchOption r (AreAhead old []) (λ q. (others : List Question) → AreAhead new others → AreAhead old (asked q ∷ others))
token_answers old new None none gone ended path last = none_is_ahead old none ended last
token_answers old new (Some q) none gone ended path step = λ others more. token_is_next old new (asked q) none gone ended path step others more

-- ---- how many are left

pub fewer_left : (signer : Option BorrowedQuestion) (q : BorrowedQuestion) (n : ℕ) → signer ≡ Some q → one_left None + n < one_left signer + n
fewer_left signer q n is = subst (λ (s : Option BorrowedQuestion). one_left None + n < one_left s + n) (sym is) (omega arith)

pub token_fewer : (r : Option BorrowedQuestion) (one path path_now token token_now : ℕ) → path_now ≡ 0 → IfSome r (λ q. token_now < token)
    → IfSome r (λ q. one + (path_now + token_now) < one + (path + token))
token_fewer None one path path_now token token_now none fewer = tt
token_fewer (Some q) one path path_now token token_now none fewer = omega (arith, none, fewer)

-- ---- at the beginning

pub all_ahead : (f : SignedDataElements) (cursor : Questions) → IsTheOne (IsOfSigner f) (asked_option cursor.signer)
    → ((qs : List Question) → AreAheadOf cursor.path qs → AreOfAll (HasPath f) qs)
    → ((qs : List Question) → AreAheadOf cursor.token qs → AreOfAll (HasStamp f) qs) → (qs : List Question) → AreAhead cursor qs → AreQuestions f qs
all_ahead f cursor signer path token qs h = record {
  signer = asked_option cursor.signer;
  path = h.path;
  token = h.token;
  are = h.are;
  of_signer = signer;
  of_path = path h.path h.of_path;
  of_token = token h.token h.of_token;
}

-- a field of no signer names no certificate
pub no_path_of_none : (f : SignedDataElements) → ((g : SignerElements) → IsFirstSigner f g → ⊥) → (qs : List Question) → qs ≡ [] → AreOfAll (HasPath f) qs
no_path_of_none f none qs is =
    inr (
      λ bag child places has.
          let named = has.is_signer.fits in
          none (signer_elements named.signer) (record { value = named.signer; others = named.others; is = refl; first = named.first }),
      is,
    )

pub no_path_without : (f : SignedDataElements) (bag : List CertificateElements) → IsBagOf f bag → HasNoSigner (signers_of f) bag → (qs : List Question)
    → qs ≡ [] → AreOfAll (HasPath f) qs
no_path_without f bag is none qs empty = inr (λ other child places has. no_certificate f bag is none has.place child other has.is_bag has.is_signer, empty)

pub path_from : (f : SignedDataElements) (bag : List CertificateElements) (place : ℕ) (c : CertificateElements) (parents : Others) → IsBagOf f bag
    → IsSignerCertificate f bag place c
    → ((path : List ℕ) × IsIssuerPath bag c path × AreLeft parents bag path) → (qs : List Question)
    → ((other : List CertificateElements) (places : List ℕ) → AreLeft parents other places → AreOfLinks other c places qs)
    → AreOfAll (HasPath f) qs
path_from f bag place c parents is signer (path, is_path, left) qs ahead =
    inl (bag, c, path, record { is_bag = is; place = place; is_signer = signer; is_path = is_path }, ahead bag path left)

pub no_token : (f : SignedDataElements) → ((t : SignedDataElements) → HasToken f t → ⊥) → (qs : List Question) → qs ≡ [] → AreOfAll (HasStamp f) qs
no_token f none qs is = inr (λ bag child places has. none has.t has.has, is)

pub no_stamping : (f t : SignedDataElements) → HasToken f t → ((bag : List CertificateElements) → IsForStamping t bag → ⊥) → (qs : List Question) → qs ≡ []
    → AreOfAll (HasStamp f) qs
no_stamping f t has none qs is =
    inr (λ bag child places other. none bag (subst (λ (x : SignedDataElements). IsForStamping x bag) (token_once f other.t t other.has has) other.stamping), is)

pub stamp_from : (f t : SignedDataElements) → HasToken f t → (bag : List CertificateElements) → IsForStamping t bag → (first : CertificateElements)
    → StandsAt bag 0 first → (others : Others)
    → ((places : List ℕ) × AreOthersThan bag first places × AreLeft others bag places) → (qs : List Question)
    → ((other : List CertificateElements) (places : List ℕ) → AreLeft others other places → AreOfLinks other first places qs)
    → AreOfAll (HasStamp f) qs
stamp_from f t has bag stamping first stands others (places, are, left) qs ahead =
    inl (bag, first, places, record { t = t; has = has; stamping = stamping; stands = stands; others = are }, ahead bag places left)
