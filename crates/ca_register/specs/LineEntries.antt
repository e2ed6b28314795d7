-- The entries of lines, and which of the lines are refused, by the lines alone.
use Rattle.std.specs.Prelude.{◌≡◌, ℕ, List, [], ◌∷◌, ◌++◌, Option, Some, None, map}
use Rattle.der_core.specs.Steps.{AreTaken, IsFirstUntaken, Step}
use Rattle.ca_register.specs.Lines.{Line}
use Rattle.ca_register.specs.Issuing.{record_steps, root_step}
use Rattle.ca_register.specs.declared.entry.Entry.{Entry}
use Rattle.ca_register.specs.declared.entry.Grant.{Grant}
use Rattle.ca_register.specs.declared.error.IssueError.{IssueError}

-- the grant of a line
abbrev pub grant_of : Line → Grant
grant_of line = record {
  ca = line.ca;
  path_length = line.limits.path_length;
  from = line.limits.from;
  to = line.limits.to;
}

-- the entry of a line
abbrev pub entry_of : Line → Entry
entry_of line = record { issuer = line.issuer; grant = grant_of line }

-- the entries of lines, in order
abbrev pub entries_of : List Line → List Entry
entries_of = map entry_of

-- the steps of issuing the certificate of a line, those that the entries before it decide
abbrev pub steps_after : List Entry → (issuer : Option ℕ) → Grant → List (Step IssueError)
steps_after entries None grant = root_step grant ∷ []
steps_after entries (Some issuer) grant = record_steps entries issuer

-- the certificate of a line is issued after those of these lines
abbrev pub IsIssuable : (ahead : List Line) → Line → Type 0
IsIssuable ahead line = AreTaken (steps_after (entries_of ahead) line.issuer (grant_of line))

-- each of the lines is issued after those before it
abbrev pub AreIssuable : List Line → Type 0
AreIssuable lines =
    (ahead behind : List Line) (line : Line) → lines ≡ ahead ++ line ∷ behind → IsIssuable ahead line

-- The first of the lines that isn't issued is refused for this reason.
pub record IsFirstRefused (lines : List Line) (e : IssueError) : Type 0 where
  pub ahead : List Line
  pub refused : Line
  pub behind : List Line
  pub are : lines ≡ ahead ++ refused ∷ behind
  pub issued : AreIssuable ahead
  pub reason : IsFirstUntaken (steps_after (entries_of ahead) refused.issuer (grant_of refused)) e
