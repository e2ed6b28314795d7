use Rattle.std.proofs.Common.{ap, subst, ◌∙◌}
use Rattle.std.proofs.lemmas.Result.{MatchResult-weaker}
use Rattle.der_core.specs.Encoding.{encoding, IsDer}
use Rattle.authenticode_signature.proofs.Requests.{request_refused}
use Rattle.authenticode_signature.proofs.token_timestamper.TokenTimestamper.request.Goals as goal

pub returns : goal.returns
returns c =
    let same = c.in_ok-request.ensures in
    MatchResult-weaker c.written.result c.written.ensures
    (λ octets w. (w.0 ∙ ap encoding same, subst IsDer same w.1))
    (λ e refused. request_refused c.args.digest.now _ e same refused)
