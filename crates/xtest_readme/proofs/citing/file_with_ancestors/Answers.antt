use Rattle.std.proofs.Common.{List, ◌∷◌, subst}
use Rattle.std.proofs.lemmas.Result.{MatchResult-weaker}
use Rattle.authenticode_parts.specs.Carried.{elements_of}
use Rattle.authenticode_signature.specs.Pkcs7.{HasBag}
use Rattle.wincert_core.specs.declared.kinds.CertificateType.TheVariants.{WinCertTypePkcsSignedData}
use Rattle.x509_core.specs.OwnedCertificate.{KeptCertificate}
use Rattle.xtest_readme.proofs.citing.file_with_ancestors.Goals as goal

pub returns : goal.returns
returns g c =
    MatchResult-weaker c.encode_signature.result c.encode_signature.ensures
    (λ file spelled history issued index ancestors cert parents info are w has pairs.
    let bag : HasBag c.in-Ok.bag (elements_of (cert ∷ parents)) =
    subst (λ (cs : List KeptCertificate). HasBag c.in-Ok.bag (elements_of cs)) are c.in-Ok.ensures.bag in
    let alone = c.histories_decide_made_signatures.ensures.alone (g.S.Scheme.judge c.args.scheme.now) history issued index ancestors cert parents w in
    c.in_ok-made.ensures.file cert.elements (elements_of parents) bag (record { info = info; has = has; pairs = pairs; carried = alone })
    WinCertTypePkcsSignedData file.items spelled.1 spelled.0)
    (λ e refused. tt)
