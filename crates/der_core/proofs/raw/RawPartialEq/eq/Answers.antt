use Rattle.std.proofs.Common.{◌≡◌, sym, ap, ◌∙◌}
use Rattle.std.specs.Str.{bytes_eq}
use Rattle.std.proofs.lemmas.Slice.Eq.{bytes_eq-Decides}
use Rattle.der_core.specs.Encoding.{encoding}
use Rattle.der_core.specs.Owned.{KeptElement}
use Rattle.der_core.specs.Facts.Owned.{same_encoded, same_kept}
use Rattle.der_core.proofs.raw.RawPartialEq.eq.Goals as goal

pub returns-clause-same : goal.returns-clause-same
returns-clause-same c =
    let a = c.args.self.now in
    let b = c.args.other.now in
    let decided = bytes_eq-Decides (encoding a.element) (encoding b.element) in
    let answer : c.eq.result ≡ bytes_eq (encoding a.element) (encoding b.element) = cc in (
      (λ yes. same_kept a b (same_encoded a.element b.element a.der b.der (decided.0 (sym answer ∙ yes)))),
      (λ same. answer ∙ decided.1 (ap (λ (k : KeptElement). encoding k.element) same)),
    )
