use Rattle.std.proofs.Common.{◌≡◌, ℕ, List, ap, ◌∙◌}
use Rattle.std.proofs.Math.ListN.{set as put}
use Rattle.authenticode_parts.proofs.attributes.message_of.Goals as goal
use Rattle.der_core.specs.Encoding.{encoding}
use Rattle.der_core.specs.Owned.{KeptElement}

pub returns : goal.returns
returns c = λ members same.
    let own : c.in_ok-octets.octets.items ≡ encoding c.args.attributes.now.element.element =
    c.in_ok-octets.ensures.items ∙ c.as_bytes.ensures ∙ ap (λ (k : KeptElement). encoding k.element) c.element.ensures in
    ap (λ (octets : List ℕ). put octets 0 49) (own ∙ ap encoding same)
