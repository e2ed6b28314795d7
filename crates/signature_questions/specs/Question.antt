-- A question about a signature, and which questions the verification of one signature asks.
use Rattle.std.specs.Prelude.{◌≡◌, ℕ, List}
use Rattle.key_core.specs.Verifying.{Judge, FitsKey}
use Rattle.key_core.specs.declared.signature_algorithm.SignatureAlgorithm.{SignatureAlgorithm}
use Rattle.key_types.specs.declared.key_info.SubjectPublicKeyInfo.{SubjectPublicKeyInfo}
use Rattle.sig_core.specs.declared.algorithm.SigAlg.{SigAlg}
use Rattle.sig_core.specs.declared.scheme.Verdict.{Verdict}

-- Whether this is a signature of the message by the key: an algorithm, key bytes, a message and a
-- signature.
pub record Question : Type 0 where
  pub algorithm : SigAlg
  pub key : List ℕ
  pub message : List ℕ
  pub signature : List ℕ

-- the verdict of a scheme
abbrev pub verdict_on : Judge → Question → Verdict
verdict_on judge q = judge q.algorithm q.key q.message q.signature

-- The verification of the signature asks the question: the key fits the algorithm, and it is about
-- this message and this signature.
pub record AsksAbout (algorithm : SignatureAlgorithm) (info : SubjectPublicKeyInfo)
    (message signature : List ℕ) (q : Question) : Type 0 where
  pub fits : FitsKey algorithm info q.algorithm q.key
  pub message_is : q.message ≡ message
  pub signature_is : q.signature ≡ signature
