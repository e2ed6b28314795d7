use Rattle.std.proofs.Common.{◌≡◌, ◌-◌, ◌≤◌, ℕ, List, [], ◌∷◌, length, get_or, map, Some, Err, inl, inr, sym, ap, ◌∙◌, arith}
use Rattle.std.proofs.lemmas.List.{take_all}
use Rattle.std.proofs.lemmas.Result.{err_from_is_err_and}
use Rattle.asn1_types.specs.declared.generalized_time.GeneralizedTime.{GeneralizedTime}
use Rattle.key_core.specs.Verifying.{Judge}
use Rattle.x509_core.specs.Chain.{chain_rules}
use Rattle.x509_core.specs.OwnedCertificate.{KeptCertificate, kept_octets}
use Rattle.x509_core.specs.OwnedCertificates.{AreKeptCertificates}
use Rattle.x509_core.specs.Rules.{RefusesCertBy}
use Rattle.x509_core.specs.declared.error.CertError.{CertError}
use Rattle.program_frame.proofs.WordLists.{behind}
use Rattle.picky_check.specs.ChainAnswer.{IsChainAnswer, all_checks}
use Rattle.picky_check.proofs.chain.check_chain.Goals as goal

-- a list by its first element and the others, as in the code
first_and_behind : {A : Type 0} (xs : List A) (x : A) → 1 ≤ length xs → x ≡ get_or xs 0 x → xs ≡ x ∷ behind xs
first_and_behind [] x some is = absurd (omega (arith, some))
first_and_behind (y ∷ ys) x some is =
    let all = take_all (length (y ∷ ys) - 1) ys (omega arith) in
    cc

-- certificates that are refused
refused : (judge : Judge) (date : GeneralizedTime) (octets : List (List ℕ)) (read lent : List KeptCertificate)
    (checked : KeptCertificate) (e : CertError) → AreKeptCertificates octets read → lent ≡ read → lent ≡ checked ∷ behind lent
    → RefusesCertBy (chain_rules judge (all_checks date) checked (Some (behind lent))) e → IsChainAnswer judge date octets (Err e)
refused judge date octets read lent checked e are same parts h =
    inr (checked ∷ behind lent, ap (map kept_octets) (sym parts ∙ same) ∙ are, h)

pub returns-in_err-read : goal.returns-in_err-read
returns-in_err-read g c =
    let p = err_from_is_err_and c.from_residual.result c.from_residual.ensures.1 in
    rw (p.1, p.2) (inl c.in_err-read.ensures)

pub returns-in_err-accept : goal.returns-in_err-accept
returns-in_err-accept g c =
    let p = err_from_is_err_and c.from_residual-in_err-accept.result c.from_residual-in_err-accept.ensures.1 in
    rw (p.1, p.2) (refused (g.S.Scheme.judge c.args.scheme.now) c.args.date.now (map (λ octets. octets.items) c.args.certificates.now)
    c.in_ok-read.read.items c.as_slice.result.now c.checked-item.result c.in_err-accept.field-0.0 c.in_ok-read.ensures c.as_slice.ensures.value
    (first_and_behind c.as_slice.result.now c.checked-item.result c.in-len1-up.len_at_least c.checked-item.is) c.in_err-accept.ensures)
