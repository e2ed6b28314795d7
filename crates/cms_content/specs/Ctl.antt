-- The structure of a trust list.
use Rattle.std.specs.Prelude.{◌≡◌, ◌≤◌, ⊤, List, [], ◌∷◌}
use Rattle.der_core.specs.DerElement.{DerElement, tag_of}
use Rattle.der_core.specs.Each.{IsListOf, Prints}
use Rattle.der_core.specs.Elements.{sequence, octet_string}
use Rattle.der_core.specs.Structure.{Fits}
use Rattle.asn1_types.specs.Elements.{integer}
use Rattle.key_types.specs.AlgorithmIdentifier.{algorithm_identifier}
use Rattle.cms_content.specs.CtlEntry.{ctl_entry}
use Rattle.cms_content.specs.HeldPurposes.{ArePurposes}
use Rattle.cms_content.specs.declared.ctl_entry.CTLEntry.{CTLEntry}

-- The first of the elements satisfies one predicate, and the rest the other.
pub record Begins (holds : DerElement → Type 0) (behind : List DerElement → Type 0)
    (all : List DerElement) : Type 0 where
  pub first : DerElement
  pub others : List DerElement
  pub are : all ≡ first ∷ others
  pub is : holds first
  pub rest : behind others

-- An element that satisfies the first predicate may be absent before a rest that satisfies the
-- other.
pub data MayBegin (holds : DerElement → Type 0) (behind : List DerElement → Type 0)
    (all : List DerElement) : Type 0 where
  LeftOut : behind all → MayBegin holds behind all
  Given : Begins holds behind all → MayBegin holds behind all

-- The first of the elements, if any, doesn't satisfy the predicate.
abbrev pub FirstNot : (DerElement → Type 0) → List DerElement → Type 0
FirstNot holds [] = ⊤
FirstNot holds (kid ∷ kids) = holds kid → ⊥

-- no element is left
abbrev pub IsNothing : List DerElement → Type 0
IsNothing all = all ≡ []

-- ---- the fields

-- an INTEGER, in one octet at least (X.690 8.3.1)
abbrev pub IsIntegerElement : DerElement → Type 0
IsIntegerElement = Fits (Prints integer)

-- an OCTET STRING
abbrev pub IsString : DerElement → Type 0
IsString = Fits (Prints octet_string)

-- a SEQUENCE of extended key usages
abbrev pub IsPurposeList : DerElement → Type 0
IsPurposeList = Fits ArePurposes

-- UTCTime or GeneralizedTime, of any contents
abbrev pub IsTime : DerElement → Type 0
IsTime element = (0x17 ≤ tag_of element) × (tag_of element ≤ 0x18)

-- an AlgorithmIdentifier
abbrev pub IsAlgorithmElement : DerElement → Type 0
IsAlgorithmElement = Fits (Prints algorithm_identifier)

-- The element encodes the entries, in order.
abbrev pub AreEntries : DerElement → List CTLEntry → Type 0
AreEntries = IsListOf 0x30 (Prints ctl_entry)

-- any elements in the tag
abbrev pub AreExtensions : DerElement → Type 0
AreExtensions element = tag_of element ≡ 0xA0

-- ---- the rest from each field on

-- from the entries
abbrev pub FromEntries : List CTLEntry → List DerElement → Type 0
FromEntries entries =
    Begins (λ element. AreEntries element entries) (MayBegin AreExtensions IsNothing)

-- from the algorithm
abbrev pub FromAlgorithm : List CTLEntry → List DerElement → Type 0
FromAlgorithm entries = Begins IsAlgorithmElement (FromEntries entries)

-- from the time of the update
abbrev pub FromThisUpdate : List CTLEntry → List DerElement → Type 0
FromThisUpdate entries = Begins IsTime (MayBegin IsTime (FromAlgorithm entries))

-- from the usage
abbrev pub FromUsage : List CTLEntry → List DerElement → Type 0
FromUsage entries =
    Begins IsPurposeList (MayBegin IsString (MayBegin IsIntegerElement (FromThisUpdate entries)))

-- CertificateTrustList ::= SEQUENCE { version INTEGER OPTIONAL, subjectUsage SEQUENCE OF OBJECT
-- IDENTIFIER, listIdentifier OCTET STRING OPTIONAL, sequenceNumber INTEGER OPTIONAL, ctlThisUpdate
-- ChoiceOfTime, ctlNextUpdate ChoiceOfTime OPTIONAL, subjectAlgorithm AlgorithmIdentifier,
-- trustedSubjects SEQUENCE OF TrustedSubject, ctlExtensions [0] ANY OPTIONAL } (Microsoft,
-- wincrypt.h: CTL_INFO)
pub record IsCtl (element : DerElement) (entries : List CTLEntry) : Type 0 where
  pub kids : List DerElement
  pub is : element ≡ sequence kids
  pub fields : MayBegin IsIntegerElement (FromUsage entries) kids
