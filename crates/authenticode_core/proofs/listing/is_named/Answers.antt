use Rattle.std.proofs.Common.{◌↔◌, Bool, IsTrue, sym, subst}
use Rattle.std.proofs.lemmas.Slice.Eq.{bytes_eq-Decides}
use Rattle.der_core.specs.Encoding.{encoding}
use Rattle.name_types.specs.Name.{name}
use Rattle.names_core.specs.Names.{sets_of}
use Rattle.authenticode_core.specs.ListRules.{IsNamed}
use Rattle.authenticode_core.proofs.listing.is_named.Goals as goal

pub returns : goal.returns
returns c =
    let one = c.args.one.now in
    let asked = c.args.asked.now in
    subst (λ (t : Bool). IsTrue t ↔ IsNamed (name (sets_of asked)) one) (sym c.eq.ensures.octets)
    (bytes_eq-Decides (encoding (name (sets_of one))) (encoding (name (sets_of asked))))
