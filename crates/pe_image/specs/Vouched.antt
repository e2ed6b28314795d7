-- What acceptance of a program means.
use Rattle.std.specs.Prelude.{◌≡◌, ℕ, List, [], ◌∷◌, ◌+◌, length, Option, Some, None, IsSome}
use Rattle.std.specs.Borrow.{Bor}
use Rattle.cms_types.specs.SignedDataElements.{SignedDataElements}
use Rattle.sig_core.specs.Digest.{digest_of}
use Rattle.sig_core.specs.VerdictTable.{IsTable, verdict_of}
use Rattle.sig_core.specs.declared.hash.HashAlgorithm.{HashAlgorithm}
use Rattle.sig_core.specs.declared.verdict_row.VerdictRow.{VerdictRow}
use Rattle.authenticode_core.specs.Basic.{HasSignedData, VouchesFor}
use Rattle.authenticode_core.specs.ListRules.{IsSignerListed}
use Rattle.authenticode_core.specs.SignerRules.{IsSignerVouched}
use Rattle.authenticode_core.specs.ListOctets.{IsTrustList}
use Rattle.authenticode_core.specs.declared.accepted.Accepted.{Accepted}
use Rattle.authenticode_core.specs.declared.ctl.CertificateTrustList.{CertificateTrustList}
use Rattle.authenticode_core.specs.declared.policy.Policy.{Policy}
use Rattle.pe_core.specs.Bound.{bound_octets, table_of}
use Rattle.pe_core.specs.Image.{IsSignedImage}
use Rattle.program_frame.specs.Limits.{IsWholeFile}
use Rattle.program_frame.specs.ListOption.{AskedList}
use Rattle.program_frame.specs.ReadFiles.{HandsOut, total_length}
use Rattle.program_frame.specs.Shelf.{Files, ShelfState}
use Rattle.program_frame.specs.Sink.{Appends}
use Rattle.pe_image.specs.ImageHash.{StatesDigest}
use Rattle.pe_image.specs.PeAnswer.{policy_for}
use Rattle.pe_image.specs.ProgramPolicy.{program_policy}
use Rattle.pe_image.specs.Report.{accepted_line}
use Rattle.pe_image.specs.Words.{Command, AsksFor}

-- The list file is signed data whose content is read as a trust list. Its octets are those of the
-- file as far as the shelf exposes its files.
pub record HasList (files : Option Files) (asked : AskedList) (lists : List (List ℕ))
    (list : Option (Bor CertificateTrustList)) : Type 0 where
  pub octets : List ℕ
  pub is_file : IsWholeFile files asked.file octets
  pub are : lists ≡ octets ∷ []
  pub given : Bor CertificateTrustList
  pub is_list : IsTrustList octets given.now
  pub list_is : list ≡ Some given

-- The trust list of the options, and its octets, if they name one.
abbrev pub IsGivenList : Option Files → Option AskedList → (lists : List (List ℕ))
    → Option (Bor CertificateTrustList) → Type 0
IsGivenList files None lists list = (lists ≡ []) × (list ≡ None)
IsGivenList files (Some asked) lists list = HasList files asked lists list

-- The file is an image with a certificate table at its end. Its table begins with one signed data,
-- which states the digest of the octets of the file outside the checksum, the table's entry and the
-- table. By the verdicts of the rows the signed data vouches for this digest, under the key of the
-- signer's certificate, whose index is `accepted.signer`.
--
-- The validity of that certificate has begun at the date of the policy, and without an excuse it
-- hasn't ended before, except for what the policy leaves out. The path is its issuer path, or empty
-- if the policy leaves the chain out. Each certificate of the path is valid and may have issued the
-- one before it: it is a CA certificate, its path length allows those between, names and key
-- identifiers agree, and the rows accept the signature over the octets in the file. An excuse is
-- reported only if the signer's certificate has expired, excuses this, and waives the not-after
-- date of that certificate alone. With a trust list, the name of the signer's CA is on it at the
-- moment of the policy, and so is that of the CA of a token that excuses an expiry.
pub record IsVouchedImage (rows : List VerdictRow) (policy : Policy) (octets : List ℕ)
    (accepted : Accepted) : Type 0 where
  pub image : IsSignedImage octets
  -- the one signed data
  pub signed_data : SignedDataElements
  pub holds : HasSignedData (table_of octets) signed_data
  pub one : (other : SignedDataElements) → HasSignedData (table_of octets) other
      → other ≡ signed_data
  -- the digest of the program, which it states
  pub algorithm : HashAlgorithm
  pub hash : List ℕ
  pub hash_is : hash ≡ digest_of algorithm (bound_octets octets)
  pub stated : StatesDigest (table_of octets) algorithm hash
  -- the signature, under the key of the certificate at the reported index
  pub place : ℕ
  pub place_is : accepted.signer ≡ Some place
  pub vouches : VouchesFor (verdict_of rows) signed_data hash place
  -- the signer's certificate, its issuers and its CA
  pub signer : IsSignerVouched (verdict_of rows) (policy_for policy (Some hash)) signed_data
      accepted
  pub listed : IsSome policy.list
      → IsSignerListed (policy_for policy (Some hash)) signed_data accepted

-- The words are FILE TABLE DATE and options. The octets of FILE, the text of TABLE and the octets
-- of a trust list are those of the files as far as the shelf exposes them, and exactly as many
-- octets as these have together were handed out. The text is a verdict table, by which the program
-- is vouched for. If the sink exposes its contents, exactly the line of the acceptance has been
-- appended.
pub record IsVouchedProgram (words : List (List ℕ)) (shelf shelf_now : ShelfState)
    (held held_now : Option (List ℕ)) : Type 0 where
  pub command : Command
  pub asked : AsksFor words command
  -- the files
  pub octets : List ℕ
  pub text : List ℕ
  pub lists : List (List ℕ)
  pub program_file : IsWholeFile shelf.files command.file octets
  pub table_file : IsWholeFile shelf.files command.table text
  pub list : Option (Bor CertificateTrustList)
  pub list_given : IsGivenList shelf.files command.options.list lists list
  pub given : HandsOut (length octets + length text + total_length lists) shelf shelf_now
  -- what is in them
  pub rows : List VerdictRow
  pub is_table : IsTable text rows
  pub accepted : Accepted
  pub vouched : IsVouchedImage rows (program_policy command.date command.options list) octets accepted
  pub written : Appends held (accepted_line accepted) held_now
