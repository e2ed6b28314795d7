-- The lines about the octets that a run read are those of the questions that its check may ask.
use Rattle.std.proofs.Common.{◌≡◌, ℕ, List, ◌∷◌, Option, Some, None, inl, inr, refl, sym, subst, ◌∙◌}
use Rattle.std.specs.Prelude.{Contains, IsSome}
use Rattle.cms_types.specs.SignedDataElements.{SignedDataElements}
use Rattle.key_core.specs.Verifying.{Judge}
use Rattle.pe_core.specs.Bound.{table_of}
use Rattle.sig_core.specs.declared.verdict_row.VerdictRow.{VerdictRow}
use Rattle.x509_core.specs.OwnedCertificate.{KeptCertificate}
use Rattle.x509_core.specs.OwnedCertificates.{AreKeptCertificates}
use Rattle.x509_core.proofs.OwnedOctets.{same_certificates}
use Rattle.authenticode_core.specs.Basic.{HasSignedData}
use Rattle.authenticode_core.proofs.OneData.{one_data}
use Rattle.program_frame.specs.Limits.{IsWholeFile}
use Rattle.program_frame.specs.Shelf.{Files, ShelfState, file_of}
use Rattle.signature_questions.specs.Asked.{IsOfChain, IsQuestion}
use Rattle.signature_questions.specs.Listed.{AreOfChain, AreQuestions}
use Rattle.signature_questions.specs.Question.{Question}
use Rattle.signature_questions.proofs.Listing.{are_listed, are_listed_of_chain}
use Rattle.picky_check.specs.Vouched.{IsVouched}
use Rattle.pe_image.specs.Vouched.{IsVouchedProgram}
use Rattle.vouching.specs.Listing.{IsListed, listed_questions}
use Rattle.vouching.specs.ReadSame.{IsOneFile, ReadSame, ReadsItsTable}
use Rattle.vouching.specs.Verified.{AreToldApart, AreVerified, StandsBehind}
use Rattle.vouching.specs.VouchedBy.{MayAsk, rows_of}
use Rattle.vouching.proofs.Backing.{only_asked}

pub behind : (judge : Judge) (asked : List Question) (rows : List VerdictRow) (f : SignedDataElements) → AreQuestions f asked → AreVerified judge asked rows
    → AreToldApart (Contains asked) → StandsBehind judge asked (IsQuestion f) rows
behind judge asked rows f are verified apart = record {
  verified = verified;
  apart = only_asked asked (IsQuestion f) (λ q may. (are_listed f asked are q).0 may) apart;
}

pub behind_chain : (judge : Judge) (asked : List Question) (rows : List VerdictRow) (checked : KeptCertificate) (parents : List KeptCertificate)
    → AreOfChain checked parents asked → AreVerified judge asked rows
    → AreToldApart (Contains asked) → StandsBehind judge asked (IsOfChain checked parents) rows
behind_chain judge asked rows checked parents are verified apart = record {
  verified = verified;
  apart = only_asked asked (IsOfChain checked parents) (λ q may. (are_listed_of_chain checked parents asked are q).0 may) apart;
}

-- the questions about octets are those about the signed data that the others have, which are the same
same_data : (octets others : List ℕ) (f g : SignedDataElements) (qs : List Question) → octets ≡ others → HasSignedData octets f → HasSignedData others g
    → AreQuestions f qs → AreQuestions g qs
same_data octets others f g qs same has there are =
    subst (λ (x : SignedDataElements). AreQuestions x qs)
    (one_data others f g (subst (λ (o : List ℕ). HasSignedData o f) same has) there) are

first_same : (a b : KeptCertificate) (above ahead : List KeptCertificate) → a ∷ above ≡ b ∷ ahead → a ≡ b
first_same a b above ahead same = cc

others_same : (a b : KeptCertificate) (above ahead : List KeptCertificate) → a ∷ above ≡ b ∷ ahead → above ≡ ahead
others_same a b above ahead same = cc

same_chain : (octets others : List (List ℕ)) (a b : KeptCertificate) (above ahead : List KeptCertificate) (qs : List Question) → octets ≡ others
    → AreKeptCertificates octets (a ∷ above) → AreKeptCertificates others (b ∷ ahead) → AreOfChain a above qs → AreOfChain b ahead qs
same_chain octets others a b above ahead qs same has there are =
    let one = same_certificates (a ∷ above) (b ∷ ahead) (has ∙ same ∙ sym there) in
    subst (λ (x : KeptCertificate). AreOfChain x ahead qs) (first_same a b above ahead one)
    (subst (λ (xs : List KeptCertificate). AreOfChain a xs qs) (others_same a b above ahead one) are)

module _ (asks words : List (List ℕ)) (first first_now shelf shelf_now : ShelfState) (lines lines_now held held_now : Option (List ℕ)) where
  pub behind_run : (ask : IsListed asks first first_now lines lines_now) (run : IsVouched words shelf shelf_now held held_now) (judge : Judge)
      → ReadSame ask run → AreVerified judge (listed_questions ask) (rows_of run) → AreToldApart (Contains (listed_questions ask))
      → StandsBehind judge (listed_questions ask) (MayAsk run) (rows_of run)
  behind_run (inl ask) (inl run) judge same verified apart =
      behind judge ask.questions run.rows run.signed_data
      (same_data ask.octets run.vouched.octets ask.signed_data run.signed_data ask.questions same ask.holds run.vouched.holds ask.are) verified apart
  behind_run (inl ask) (inr (inl run)) judge same verified apart =
      behind judge ask.questions run.rows run.signed_data
      (same_data ask.octets run.vouched.octets ask.signed_data run.signed_data ask.questions same ask.holds run.vouched.holds ask.are) verified apart
  behind_run (inl ask) (inr (inr run)) judge same verified apart = absurd same
  behind_run (inr ask) (inl run) judge same verified apart = absurd same
  behind_run (inr ask) (inr (inl run)) judge same verified apart = absurd same
  behind_run (inr ask) (inr (inr run)) judge same verified apart =
      behind_chain judge ask.questions run.rows run.checked run.parents
      (same_chain ask.octets run.octets ask.checked run.checked ask.parents run.parents ask.questions same ask.are_certificates run.are_certificates ask.are)
      verified apart

  pub behind_program : (ask : IsListed asks first first_now lines lines_now) (run : IsVouchedProgram words shelf shelf_now held held_now) (judge : Judge)
      → ReadsItsTable ask run → AreVerified judge (listed_questions ask) run.rows → AreToldApart (Contains (listed_questions ask))
      → StandsBehind judge (listed_questions ask) (IsQuestion run.vouched.signed_data) run.rows
  behind_program (inl ask) run judge same verified apart =
      behind judge ask.questions run.rows run.vouched.signed_data
      (same_data ask.octets (table_of run.octets) ask.signed_data run.vouched.signed_data ask.questions same ask.holds run.vouched.holds ask.are) verified apart
  behind_program (inr ask) run judge same verified apart = absurd same

-- ---- files that are exposed

exposed : (files : Option Files) (name octets : List ℕ) → file_of files name ≡ Some octets → IsSome files
exposed None name octets is = absurd cc
exposed (Some files) name octets is = refl

pub one_file : (files others : Option Files) (name other octets more : List ℕ) → IsWholeFile files name octets → IsWholeFile others other more
    → IsOneFile files others name other → octets ≡ more
one_file files others name other octets more is are (one, here, there) =
    let first : octets ≡ one = (let is_some = sym (is.as_exposed (exposed files name one here)) ∙ here in cc) in
    let second : more ≡ one = (let is_some = sym (are.as_exposed (exposed others other one there)) ∙ there in cc) in
    first ∙ sym second
