-- Promises, which public contracts cite: all but those named below; first `Verifying`, `Signing`.
-- Rules, which the promises rest on: `PrivateKeyVersion`, `KeyAlgorithm`, `PrivateKeyFields`, `SchemeNames`.
-- Words of the crates above: `Keys`, `SmallKeys`.
-- Inside, which no public contract cites: `Facts`.
pub mod PrivateKeyVersion
pub mod PrivateKeyValue
pub mod KeyAlgorithm
pub mod PrivateKeyFields
pub mod Agreement
pub mod PrivateKeyInfo
pub mod CurveParameters
pub mod PrivateKey
pub mod Keys
pub mod PrivatePkcs1
pub mod KeyRefusals
pub mod EcCurve
pub mod EdAlgorithm
pub mod NamedEcCurve
pub mod NamedEdAlgorithm
pub mod MadeKeys
pub mod Pkcs1
pub mod DerivedKeys
pub mod CurveKeys
pub mod EdKeys
pub mod Pkcs8
pub mod PublicHalf
pub mod EcViews
pub mod EdViews
pub mod ErrorText
pub mod SignatureAlgorithm
pub mod SchemeNames
pub mod SignatureRules
pub mod Verifying
pub mod Signing
pub mod SmallKeys
pub mod SignatureErrorText
pub mod KeyIdentifier
pub mod Facts
