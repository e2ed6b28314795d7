-- The certificates of ancestors, as an iterator walks to them.
use Rattle.std.specs.Prelude.{ℕ, zero, suc, List, [], ◌∷◌, Option, Some, None}
use Rattle.std.specs.List.{slice_get}
use Rattle.x509_core.specs.OwnedCertificate.{KeptCertificate}
use Rattle.ca_register.specs.declared.entry.Entry.{Entry}
use Rattle.ca_register.specs.declared.ancestors.Ancestors.{Ancestors}

-- a certificate before others, if there is one
abbrev pub before : Option KeptCertificate → List KeptCertificate → List KeptCertificate
before None others = []
before (Some cert) others = cert ∷ others

-- the issuer of an entry, if there is one
abbrev pub issuer_in : Option Entry → Option ℕ
issuer_in None = None
issuer_in (Some entry) = entry.issuer

-- the certificates of so many ancestors at most, from this issuer on, the nearest first
abbrev pub certificates_above : List Entry → List KeptCertificate → (most : ℕ) → Option ℕ
    → List KeptCertificate
certificates_above entries certificates most None = []
certificates_above entries certificates zero (Some issuer) = []
certificates_above entries certificates (suc most) (Some issuer) =
    before (slice_get certificates issuer)
    (certificates_above entries certificates most (issuer_in (slice_get entries issuer)))

-- the certificates that are left
abbrev pub above_left : Ancestors → List KeptCertificate
above_left a = certificates_above a.entries.now a.certificates.now a.most a.issuer
