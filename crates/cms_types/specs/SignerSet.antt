-- A SET of signers (RFC 5652 5.1).
use Rattle.std.specs.Prelude.{◌≡◌, List}
use Rattle.der_core.specs.DerElement.{DerElement}
use Rattle.der_core.specs.Elements.{set}
use Rattle.cms_types.specs.Signers.{AreSignerInfos}

-- The element contains these signers: SignerInfos ::= SET OF SignerInfo
abbrev pub IsSetOfSigners : DerElement → List DerElement → Type 0
IsSetOfSigners element signers = (element ≡ set signers) × AreSignerInfos signers
