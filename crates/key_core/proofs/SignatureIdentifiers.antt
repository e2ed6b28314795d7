-- Signature algorithms correspond to their OIDs.
use Rattle.std.proofs.Common.{◌≡◌, ◌≢◌, IsTrue, ℕ, List, refl, sym, ◌∙◌, subst, lit<, Some, None}
use Rattle.std.specs.Prelude.{Bool, false, Option, Contains, find}
use Rattle.std.specs.Str.{bytes_eq}
use Rattle.asn1_types.specs.KnownIdentifiers.{is_known}
use Rattle.sig_core.specs.declared.hash.HashAlgorithm.TheVariants.{MD5, SHA1, SHA2_224, SHA2_256, SHA2_384, SHA2_512}
use Rattle.key_core.specs.SignatureAlgorithm.{signature_identifier}
use Rattle.key_core.specs.declared.signature_algorithm.SignatureAlgorithm.{SignatureAlgorithm}
use Rattle.key_core.specs.declared.signature_algorithm.SignatureAlgorithm.TheVariants.{RsaPkcs1v15, Ecdsa, Ed25519}
use Rattle.key_core.specs.declared.signature_algorithm.TheConstants.SignatureAlgorithm as constants

-- the list has each algorithm with an OID
pub has_algorithm : (algorithm : SignatureAlgorithm) → signature_identifier algorithm ≢ None → Contains constants.IDENTIFIED algorithm
has_algorithm (RsaPkcs1v15 MD5) some = (0, lit< tt, refl)
has_algorithm (RsaPkcs1v15 SHA1) some = (1, lit< tt, refl)
has_algorithm (RsaPkcs1v15 SHA2_224) some = (2, lit< tt, refl)
has_algorithm (RsaPkcs1v15 SHA2_256) some = (3, lit< tt, refl)
has_algorithm (RsaPkcs1v15 SHA2_384) some = (4, lit< tt, refl)
has_algorithm (RsaPkcs1v15 SHA2_512) some = (5, lit< tt, refl)
has_algorithm (Ecdsa MD5) some = absurd (some refl)
has_algorithm (Ecdsa SHA1) some = absurd (some refl)
has_algorithm (Ecdsa SHA2_224) some = absurd (some refl)
has_algorithm (Ecdsa SHA2_256) some = (6, lit< tt, refl)
has_algorithm (Ecdsa SHA2_384) some = (7, lit< tt, refl)
has_algorithm (Ecdsa SHA2_512) some = (8, lit< tt, refl)
has_algorithm Ed25519 some = (9, lit< tt, refl)

pub is_there : (algorithm : SignatureAlgorithm) (contents : List ℕ) → signature_identifier algorithm ≡ Some contents → signature_identifier algorithm ≢ None
is_there algorithm contents some none = cc

-- whether the OID has these contents octets
abbrev is_identifier : Option (List ℕ) → List ℕ → Bool
is_identifier None contents = false
is_identifier (Some identifier) contents = bytes_eq identifier contents

-- the algorithm with an OID
abbrev named_algorithm : List ℕ → Option SignatureAlgorithm
named_algorithm contents = find (λ algorithm. is_identifier (signature_identifier algorithm) contents) constants.IDENTIFIED

-- what holds for the octets in a table entry holds for equal octets
in_row : (P : List ℕ → Type 0) (x y : List ℕ) → ◌≡◌ {A = Option (List ℕ)} (Some x) (Some y) → P x → P y
in_row P x y e p = let same : x ≡ y = cc in subst P same p

not_there : {A : Type 0} (x : List ℕ) → ◌≡◌ {A = Option (List ℕ)} None (Some x) → A
not_there x e = absurd cc

abbrev IsNamed : SignatureAlgorithm → List ℕ → Type 0
IsNamed algorithm contents = named_algorithm contents ≡ Some algorithm

named_is : (algorithm : SignatureAlgorithm) (contents : List ℕ) → signature_identifier algorithm ≡ Some contents → IsNamed algorithm contents
named_is (RsaPkcs1v15 MD5) x e = in_row (IsNamed (RsaPkcs1v15 MD5)) _ x e refl
named_is (RsaPkcs1v15 SHA1) x e = in_row (IsNamed (RsaPkcs1v15 SHA1)) _ x e refl
named_is (RsaPkcs1v15 SHA2_224) x e = in_row (IsNamed (RsaPkcs1v15 SHA2_224)) _ x e refl
named_is (RsaPkcs1v15 SHA2_256) x e = in_row (IsNamed (RsaPkcs1v15 SHA2_256)) _ x e refl
named_is (RsaPkcs1v15 SHA2_384) x e = in_row (IsNamed (RsaPkcs1v15 SHA2_384)) _ x e refl
named_is (RsaPkcs1v15 SHA2_512) x e = in_row (IsNamed (RsaPkcs1v15 SHA2_512)) _ x e refl
named_is (Ecdsa MD5) x e = not_there x e
named_is (Ecdsa SHA1) x e = not_there x e
named_is (Ecdsa SHA2_224) x e = not_there x e
named_is (Ecdsa SHA2_256) x e = in_row (IsNamed (Ecdsa SHA2_256)) _ x e refl
named_is (Ecdsa SHA2_384) x e = in_row (IsNamed (Ecdsa SHA2_384)) _ x e refl
named_is (Ecdsa SHA2_512) x e = in_row (IsNamed (Ecdsa SHA2_512)) _ x e refl
named_is Ed25519 x e = in_row (IsNamed Ed25519) _ x e refl

-- no two algorithms share an OID
pub same_algorithm : (a b : SignatureAlgorithm) (contents : List ℕ) → signature_identifier a ≡ Some contents → signature_identifier b ≡ Some contents → a ≡ b
same_algorithm a b contents p q =
    let n = sym (named_is a contents p) ∙ named_is b contents q in cc

-- the table of OIDs has each of them
abbrev IsKnown : List ℕ → Type 0
IsKnown contents = IsTrue (is_known contents)

pub is_known-identifier : (algorithm : SignatureAlgorithm) (contents : List ℕ) → signature_identifier algorithm ≡ Some contents → IsKnown contents
is_known-identifier (RsaPkcs1v15 MD5) x e = in_row IsKnown _ x e refl
is_known-identifier (RsaPkcs1v15 SHA1) x e = in_row IsKnown _ x e refl
is_known-identifier (RsaPkcs1v15 SHA2_224) x e = in_row IsKnown _ x e refl
is_known-identifier (RsaPkcs1v15 SHA2_256) x e = in_row IsKnown _ x e refl
is_known-identifier (RsaPkcs1v15 SHA2_384) x e = in_row IsKnown _ x e refl
is_known-identifier (RsaPkcs1v15 SHA2_512) x e = in_row IsKnown _ x e refl
is_known-identifier (Ecdsa MD5) x e = not_there x e
is_known-identifier (Ecdsa SHA1) x e = not_there x e
is_known-identifier (Ecdsa SHA2_224) x e = not_there x e
is_known-identifier (Ecdsa SHA2_256) x e = in_row IsKnown _ x e refl
is_known-identifier (Ecdsa SHA2_384) x e = in_row IsKnown _ x e refl
is_known-identifier (Ecdsa SHA2_512) x e = in_row IsKnown _ x e refl
is_known-identifier Ed25519 x e = in_row IsKnown _ x e refl
