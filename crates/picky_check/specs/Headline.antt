-- Acceptance means vouched for.
use Rattle.std.specs.Prelude.{◌≡◌, ℕ, List, [], ◌∷◌, ◌+◌, length, Option, Some, None, IsSome}
use Rattle.std.specs.Borrow.{Bor}
use Rattle.asn1_types.specs.declared.generalized_time.GeneralizedTime.{GeneralizedTime}
use Rattle.cms_types.specs.SignedDataElements.{SignedDataElements}
use Rattle.sig_core.specs.declared.verdict_row.VerdictRow.{VerdictRow}
use Rattle.sig_core.specs.VerdictTable.{IsTable, verdict_of}
use Rattle.authenticode_core.specs.Basic.{HasSignedData, VouchesFor}
use Rattle.authenticode_core.specs.ListOctets.{IsTrustList}
use Rattle.authenticode_core.specs.ListRules.{IsSignerListed}
use Rattle.authenticode_core.specs.SignerRules.{IsSignerVouched}
use Rattle.authenticode_core.specs.declared.accepted.Accepted.{Accepted}
use Rattle.authenticode_core.specs.declared.accepted.Excuse.TheVariants as excuses
use Rattle.authenticode_core.specs.declared.ctl.CertificateTrustList.{CertificateTrustList}
use Rattle.program_frame.specs.Options.{CheckOptions}
use Rattle.program_frame.specs.Limits.{IsWholeFile}
use Rattle.program_frame.specs.ListOption.{AskedList}
use Rattle.picky_check.specs.Policies.{check_policy}
use Rattle.program_frame.specs.ReadFiles.{HandsOut, total_length}
use Rattle.picky_check.specs.Report.{accepted_line}
use Rattle.program_frame.specs.Shelf.{Files, ShelfState}
use Rattle.program_frame.specs.Sink.{Appends}
use Rattle.picky_check.specs.Words.{Basic, Check, AsksFor}

-- The file SIG begins with an entry around signed data, and the text of the file TABLE is a verdict
-- table, as far as the shelf exposes its files; and exactly as many octets as these and those of the
-- trust list, if there is one, have together were handed out. By the verdicts of the table the signed
-- data vouches for the digest HASH, under the key of the signer's certificate, whose index is
-- `accepted.signer`.
pub record IsVouchedFile (signature table hash : List ℕ) (lists : List (List ℕ))
    (shelf shelf_now : ShelfState) (rows : List VerdictRow) (signed_data : SignedDataElements)
    (accepted : Accepted) : Type 0 where
  -- the files
  pub octets : List ℕ
  pub text : List ℕ
  pub signature_file : IsWholeFile shelf.files signature octets
  pub table_file : IsWholeFile shelf.files table text
  pub given : HandsOut (length octets + length text + total_length lists) shelf shelf_now
  pub is_table : IsTable text rows
  -- the one signed data
  pub holds : HasSignedData octets signed_data
  pub one : (other : SignedDataElements) → HasSignedData octets other → other ≡ signed_data
  -- the signature, under the key of the certificate at the reported index
  pub place : ℕ
  pub place_is : accepted.signer ≡ Some place
  pub vouches : VouchesFor (verdict_of rows) signed_data hash place

-- The list file is signed data whose content is read as a trust list. Its octets are those of the
-- file as far as the shelf exposes its files.
pub record HasList (files : Option Files) (asked : AskedList) (lists : List (List ℕ))
    (list : Option (Bor CertificateTrustList)) : Type 0 where
  pub octets : List ℕ
  pub is_file : IsWholeFile files asked.file octets
  pub are : lists ≡ octets ∷ []
  pub given : Bor CertificateTrustList
  pub is_list : IsTrustList octets given.now
  pub list_is : list ≡ Some given

-- The trust list of the options, and its octets, if they name one.
abbrev pub IsGivenList : Option Files → Option AskedList → (lists : List (List ℕ))
    → Option (Bor CertificateTrustList) → Type 0
IsGivenList files None lists list = (lists ≡ []) × (list ≡ None)
IsGivenList files (Some asked) lists list = HasList files asked lists list

-- The words are basic SIG TABLE HASH, and these files vouch for HASH. If the sink exposes its
-- contents, exactly the line of the acceptance has been appended: the index of the signer's
-- certificate, no path and no excuse.
pub record IsVouchedFor (words : List (List ℕ)) (shelf shelf_now : ShelfState)
    (held held_now : Option (List ℕ)) : Type 0 where
  pub signature : List ℕ
  pub table : List ℕ
  pub hash : List ℕ
  pub asked : AsksFor words (Basic signature table hash)
  pub rows : List VerdictRow
  pub signed_data : SignedDataElements
  pub accepted : Accepted
  pub vouched : IsVouchedFile signature table hash [] shelf shelf_now rows signed_data accepted
  pub pathless : accepted.path ≡ []
  pub unexcused : accepted.excuse ≡ excuses.None
  pub written : Appends held (accepted_line accepted) held_now

-- The words are check SIG TABLE HASH DATE and options, and these files vouch for HASH. If the
-- sink exposes its contents, exactly the line of the acceptance has been appended: the index of
-- the signer's certificate, a path and an excuse. The validity of that certificate has begun by
-- DATE, or by the date of --until, and without an excuse it hasn't ended before DATE, except for
-- what the options leave out. The path is its issuer path, or empty under --no-chain. Each
-- certificate of the path is valid and may have issued the one before it: it is a CA
-- certificate, its path length allows those between, names and key identifiers agree, and the
-- table accepts the signature over the octets in the file. An excuse is reported only if the
-- signer's certificate has expired, excuses this, and waives the not-after date of that
-- certificate alone. Under --list the content of the list file is a trust list, the name of the
-- signer's CA is on it at SECONDS, and so is that of the CA of a token that excuses an expiry.
pub record IsVouchedSignature (words : List (List ℕ)) (shelf shelf_now : ShelfState)
    (held held_now : Option (List ℕ)) : Type 0 where
  pub signature : List ℕ
  pub table : List ℕ
  pub hash : List ℕ
  pub date : GeneralizedTime
  pub options : CheckOptions
  pub asked : AsksFor words (Check signature table hash date options)
  pub rows : List VerdictRow
  pub signed_data : SignedDataElements
  pub accepted : Accepted
  pub lists : List (List ℕ)
  pub list : Option (Bor CertificateTrustList)
  pub list_given : IsGivenList shelf.files options.list lists list
  pub vouched : IsVouchedFile signature table hash lists shelf shelf_now rows signed_data accepted
  pub signer : IsSignerVouched (verdict_of rows) (check_policy hash date options list) signed_data
      accepted
  pub listed : IsSome list
      → IsSignerListed (check_policy hash date options list) signed_data accepted
  pub written : Appends held (accepted_line accepted) held_now
