use Rattle.std.proofs.Common.{◌≡◌, length, map}
use Rattle.x509_core.specs.Chain.{IsLinkedChain, last_of, lent, nearest}
use Rattle.x509_core.specs.Link.{IsCountFor}
use Rattle.x509_core.proofs.validator.last_type.Given as goal

abbrev pub invariant-loop-parent : goal.invariant-loop-parent
invariant-loop-parent g l = record {
  linked : IsLinkedChain (g.S.Scheme.judge l.scheme) l.window l.checked.cert.now (map lent l.yielded);
  at : nearest l.checked.cert.now l.last ≡ last_of l.checked.cert.now (map lent l.yielded);
  counted : IsCountFor l.number (length (map lent l.yielded));
}
