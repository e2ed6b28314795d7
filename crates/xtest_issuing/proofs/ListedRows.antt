-- A scheme with the signatures of a history alone is sealed.
use Rattle.std.proofs.Common.{◌≡◌, ℕ, Bool, true, false, ◌&&◌, if◌then◌else◌, List, bytes_eq, subst, ◌∙◌, refl}
use Rattle.std.specs.List.{list_any}
use Rattle.std.proofs.lemmas.List.Folds.{Any-from_list_any}
use Rattle.std.proofs.lemmas.Slice.Eq.{bytes_eq-Decides}
use Rattle.der_core.specs.Encoding.{encoding}
use Rattle.sig_core.specs.Algorithm.{name_of}
use Rattle.sig_core.specs.declared.scheme.Verdict.TheVariants.{Accept, Reject}
use Rattle.x509_core.specs.History.{History}
use Rattle.x509_core.specs.Issued.{HasCert, IsOneOf, IsSealed, IsSignedUnder}
use Rattle.x509_core.specs.OwnedCertificate.{KeptCertificate}
use Rattle.x509_types.specs.TbsElements.{tbs_of}
use Rattle.xtest_issuing.specs.Listed.{AreListed, HasKeyBytes, HaveOwnKeys, IsListed}
use Rattle.xtest_issuing.specs.WholeRow.{is_row_of, verdict_of}
use Rattle.xtest_issuing.specs.declared.whole_rows.WholeRow.{WholeRow}

accepts : (test : Bool) → (if test then Accept else Reject) ≡ Accept → test ≡ true
accepts true e = refl
accepts false e = absurd cc

-- of four tests the second and the third hold
inner : (a b c d : Bool) → (a && b && c && d) ≡ true → (b ≡ true) × (c ≡ true)
inner false b c d e = absurd cc
inner true false c d e = absurd cc
inner true true false d e = absurd cc
inner true true true d e = (refl, refl)

same : (a b : List ℕ) → bytes_eq a b ≡ true → a ≡ b
same a b e = (bytes_eq-Decides a b).0 e

module _ (rows : List WholeRow) (history : History) (certificates : List KeptCertificate) (listed : AreListed history certificates rows)
    (own : HaveOwnKeys certificates) where
  one_of : (signer : ℕ) (parent : KeptCertificate) (msg : List ℕ) (row : WholeRow) → HasCert certificates signer parent → HasKeyBytes parent row.key
      → msg ≡ row.msg
      → IsListed history certificates row → IsOneOf history certificates signer msg
  one_of signer parent msg row has key message found =
      let same_signer = own found.signer signer found.parent parent row.key found.has has found.key key in
      record {
        index = found.index;
        under = subst (λ (s : ℕ). IsSignedUnder history found.index s) same_signer found.under;
        cert = found.cert;
        is = found.is;
        signs = message ∙ found.message;
      }

  pub sealed : IsSealed (verdict_of rows) history certificates
  sealed signer parent info algorithm tbs signature has key shape accepted =
      let msg = encoding (tbs_of tbs) in
      let test = is_row_of accepted.alg accepted.bytes msg signature in
      let found = Any-from_list_any test rows (accepts (list_any test rows) accepted.judged) in
      let row = found.1 in
      let is_listed : IsListed history certificates row = subst (IsListed history certificates) found.3 (listed found.0 row found.2) in
      let parts =
      inner (bytes_eq (name_of accepted.alg) (name_of row.alg)) (bytes_eq accepted.bytes row.key) (bytes_eq msg row.msg) (bytes_eq signature row.sig) found.4 in
      let known : HasKeyBytes parent accepted.bytes = record { info = info; has = key; algorithm = algorithm; alg = accepted.alg; fits = accepted.fits } in
      one_of signer parent msg row has (subst (HasKeyBytes parent) (same accepted.bytes row.key parts.0) known) (same msg row.msg parts.1) is_listed
