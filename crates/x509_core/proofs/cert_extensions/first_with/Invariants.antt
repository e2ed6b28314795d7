use Rattle.std.proofs.Common.{length}
use Rattle.x509_types.specs.FirstOfValue.{NoneHas, IsFirstWith}
use Rattle.x509_types.specs.declared.extension.Extension.{Extension}
use Rattle.x509_core.proofs.cert_extensions.first_with.Given as goal

-- the first of the rest is the first of all, and if none of the rest has the OID, none has
abbrev pub invariant-loop-extension : goal.invariant-loop-extension
invariant-loop-extension l = record {
  first : (e : Extension) → IsFirstWith l.oid l.rest e → IsFirstWith l.oid l.fn.extensions e;
  none : NoneHas l.oid l.rest → NoneHas l.oid l.fn.extensions;
}

abbrev pub decreases-loop-extension : goal.decreases-loop-extension
decreases-loop-extension l = length l.rest
