use Rattle.std.proofs.Common.{IsTrue, ◌∙◌, sym, subst}
use Rattle.std.proofs.lemmas.Result.{IfOk-weaker}
use Rattle.asn1_types.specs.KnownIdentifiers.{is_known}
use Rattle.name_types.proofs.AttributeTypes.{is_known-type, type_by_contents}
use Rattle.name_types.proofs.name_attr.NameAttr.to_oid.Goals as goal

pub from_known-requires : goal.from_known-requires
from_known-requires c = subst (λ contents. IsTrue (is_known contents)) (sym c.oid_contents.ensures) (is_known-type c.args.self)

pub returns : goal.returns
returns c =
    IfOk-weaker c.from_known.result _ _
    (λ identifier contents. (type_by_contents c.args.self identifier.contents identifier.formed).0 (contents ∙ c.oid_contents.ensures))
    c.from_known.ensures
