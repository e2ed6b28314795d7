use Rattle.std.proofs.Common.{◌≡◌, ◌+◌, ◌≤◌, length, IfOk, List, ℕ, ◌++◌, arith, subst}
use Rattle.sig_core.specs.Digest.{digest_of}
use Rattle.pe_core.specs.Bound.{bound_octets}
use Rattle.pe_core.specs.Fields.{entry_offset, table_offset}
use Rattle.pe_core.proofs.Parts.{bound_is_parts}
use Rattle.pe_core.proofs.image.PeImage.digest.Goals as goal

pub returns-clause-digest : goal.returns-clause-digest
returns-clause-digest c =
    let image = c.args.self.now in
    let behind : entry_offset image.file.now + 8 ≤ table_offset image.file.now =
    omega (arith, image.before, image.entry_is, image.table_is) in
    let within : table_offset image.file.now ≤ length image.file.now = omega (arith, image.within, image.table_is) in
    let parts = bound_is_parts image.file.now behind within in
    let joined : c.head.result.now ++ c.middle.result.now ++ c.rest.result.now ≡ bound_octets image.file.now =
    cc (c.head.ensures, c.middle.ensures, c.rest.ensures, parts) in
    subst (λ (message : List ℕ). IfOk c.digest_of_parts.result (λ digest. digest.items ≡ digest_of c.args.algorithm message))
    joined c.digest_of_parts.ensures.digest
