use Rattle.std.proofs.Common.{refl, rules}
use Rattle.std.proofs.lemmas.Option.{slice_get_read}
use Rattle.cms_types.specs.SignerInfo.{signer_info}
use Rattle.cms_types.proofs.MemberLaws.{member_found, signer_refused}
use Rattle.cms_types.proofs.unsigned_attribute.signer_values.SignerValues.get.Goals as goal

pub want_of_memory-requires : goal.want_of_memory-requires
want_of_memory-requires c =
    signer_refused c.args.self.now _ _ _ _ _ c.as_slice.ensures
    (slice_get_read c.as_slice.result.now _ c.args.place c.in-Some.member.now refl (search rules) c.in-Some.ensures.lookup.1) c.elem.ensures c.in-Err.ensures

pub returns-in-Ok-clause-found : goal.returns-in-Ok-clause-found
returns-in-Ok-clause-found c =
    member_found signer_info c.args.self.now.items _ _ _ _ c.in-Ok.signer c.as_slice.ensures
    (slice_get_read c.as_slice.result.now _ c.args.place c.in-Some.member.now refl (search rules) c.in-Some.ensures.lookup.1) c.elem.ensures c.in-Ok.ensures
