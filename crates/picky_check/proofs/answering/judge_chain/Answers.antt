use Rattle.std.proofs.Common.{map}
use Rattle.picky_check.proofs.Verdicts.{chain_reported}
use Rattle.picky_check.proofs.answering.judge_chain.Goals as goal

pub returns : goal.returns
returns g c =
    chain_reported c.chains_break_no_rule.ensures.chain c.chains_have_one_answer.ensures.chain (g.S.Scheme.judge c.args.scheme.now) c.args.date.now
    (map (λ octets. octets.items) c.args.certificates.now) c.check_chain-answer.result c.chain_report_of.result
    c.check_chain-answer.ensures c.chain_report_of.ensures
