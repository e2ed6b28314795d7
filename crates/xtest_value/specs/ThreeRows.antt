-- A scheme of three rows.
use Rattle.std.specs.Prelude.{ℕ, List, codes, Bool, ◌&&◌, if◌then◌else◌, bytes_eq}
use Rattle.sig_core.specs.Algorithm.{name_of}
use Rattle.sig_core.specs.declared.algorithm.SigAlg.{SigAlg}
use Rattle.sig_core.specs.declared.scheme.Verdict.{Verdict}
use Rattle.sig_core.specs.declared.scheme.Verdict.TheVariants.{Accept, Reject, Malformed}

-- whether the rows are about the algorithm, the octets and the message
abbrev pub is_asked : List ℕ → SigAlg → List ℕ → List ℕ → Bool
is_asked octets alg given msg =
    bytes_eq (name_of alg) (codes "rsa-sha256") && bytes_eq given octets
    && bytes_eq msg (codes "message")

-- the three rows: `good` is accepted, `odd` is malformed, all others are rejected
abbrev pub row_verdict : List ℕ → SigAlg → List ℕ → List ℕ → List ℕ → Verdict
row_verdict key alg given msg sig =
    if is_asked key alg given msg
    then (if bytes_eq sig (codes "good") then Accept
    else (if bytes_eq sig (codes "odd") then Malformed else Reject))
    else Reject
