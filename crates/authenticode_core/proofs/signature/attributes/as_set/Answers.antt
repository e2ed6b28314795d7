use Rattle.std.proofs.Common.{◌≡◌, ℕ, List, ◌∷◌, ap, ◌∙◌}
use Rattle.std.proofs.Math.ListN.{set as put}
use Rattle.der_core.specs.DerElement.{tag_of}
use Rattle.authenticode_core.proofs.SignedMessages.{same_tail}
use Rattle.authenticode_core.proofs.signature.attributes.as_set.Goals as goal

pub returns : goal.returns
returns c =
    let element = c.args.attributes.is.0 in
    let same = same_tail element c.args.attributes.is.1.0.formed c.requires in
    let own : c.in_ok-octets.octets.items ≡ tag_of element ∷ same.tail = c.in_ok-octets.ensures.items ∙ c.args.attributes.is.1.1 ∙ same.own in
    ap (λ (octets : List ℕ). put octets 0 49) own ∙ same.as_set
