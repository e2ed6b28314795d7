-- The questions that are still to come.
use Rattle.std.specs.Prelude.{◌≡◌, ℕ, ◌+◌, List, [], ◌++◌, length, Option, Some, None, option_to_list}
use Rattle.x509_types.specs.CertificateElements.{CertificateElements}
use Rattle.x509_types.specs.CertificateView.{view_elements}
use Rattle.authenticode_core.specs.OthersCursor.{AreLeft, unread_members}
use Rattle.signature_questions.specs.Borrowed.{asked_option}
use Rattle.signature_questions.specs.Listed.{AreOfChain, AreOfLinks}
use Rattle.signature_questions.specs.Question.{Question}
use Rattle.signature_questions.specs.declared.chain_questions.ChainQuestions.{ChainQuestions}
use Rattle.signature_questions.specs.declared.links.Links.{Links}
use Rattle.signature_questions.specs.declared.questions.Questions.{Questions}
use Rattle.signature_questions.specs.declared.question.Question.{Question as BorrowedQuestion}

-- the questions are about the certificates that are left, at whichever indices of a bag they are
abbrev pub AreLinksAhead : Links → List Question → Type 0
AreLinksAhead links qs =
    (bag : List CertificateElements) (places : List ℕ) → AreLeft links.parents bag places
    → AreOfLinks bag (view_elements links.child) places qs

-- the same if there are any certificates
abbrev pub AreAheadOf : Option Links → List Question → Type 0
AreAheadOf None qs = qs ≡ []
AreAheadOf (Some links) qs = AreLinksAhead links qs

-- The questions that are still to come.
pub record AreAhead (cursor : Questions) (qs : List Question) : Type 0 where
  pub path : List Question
  pub token : List Question
  pub are : qs ≡ option_to_list (asked_option cursor.signer) ++ (path ++ token)
  pub of_path : AreAheadOf cursor.path path
  pub of_token : AreAheadOf cursor.token token

-- the same about the certificates of a chain that are left
abbrev pub AreChainAhead : ChainQuestions → List Question → Type 0
AreChainAhead cursor qs = AreOfChain cursor.child.now cursor.parents.now qs

-- ---- how many may still come, at most

-- the question, if it isn't returned yet
abbrev pub one_left : Option BorrowedQuestion → ℕ
one_left None = 0
one_left (Some q) = 1

-- the certificates that aren't read yet
abbrev pub left_links : Option Links → ℕ
left_links None = 0
left_links (Some links) = length (unread_members links.parents.source)

-- the signer's question, and the certificates that aren't read yet
abbrev pub left_over : Questions → ℕ
left_over cursor = one_left cursor.signer + (left_links cursor.path + left_links cursor.token)
