use Rattle.std.proofs.Common.{subst, rules}
use Rattle.std.proofs.lemmas.Grind.{merely}
use Rattle.std.proofs.lemmas.Result.{err_from_is_err_and}
use Rattle.der_core.proofs.Parts.{refuses_as}
use Rattle.cms_types.specs.Signers.{AreSignerInfos, ArePkcs7s}
use Rattle.cms_types.proofs.Unsigned.{each_kept, kept_are, no_level, no_counter, no_ms_counter, counter_read, ms_counter_read, other_read}
use Rattle.cms_types.proofs.unsigned_attribute.UnsignedAttributeStructure.read_at.Goals as goal

pub returns-in_default : goal.returns-in_default
returns-in_default c = λ a is. no_level _ a is c.in_default.ensures

pub returns-in_err-items : goal.returns-in_err-items
returns-in_err-items c =
    let p = err_from_is_err_and c.from_residual.result c.from_residual.ensures.1 in
    rw (p.1, p.2) (refuses_as _ _ _ (λ none a is. let kept = each_kept _ c.in-Some.fields.values.are.1.0 in none kept.0 kept.1) c.in_err-items.ensures)

pub returns-then-not-are_signer_infos : goal.returns-then-not-are_signer_infos
returns-then-not-are_signer_infos c =
    λ a is. no_counter _ _ c.in-Some.fields.values.are.0 a is c.in-CounterSign.is c.in-Some.ensures.0 (c.are_signer_infos.ensures.unfit (search rules))

pub invariant_of-result : goal.invariant_of-result
invariant_of-result c = record {
  all = merely (subst AreSignerInfos (kept_are c.in-Some.fields.values.are.0 c.in_ok-items.items c.in_ok-items.ensures)
      (c.are_signer_infos.ensures.fits (search rules)));
}

pub returns-else-not-are_signer_infos : goal.returns-else-not-are_signer_infos
returns-else-not-are_signer_infos c =
    counter_read _ _ c.in-Some.fields.values.are.0 c.in_ok-items.items c.in-CounterSign.is c.in-Some.ensures.0 c.in_ok-items.ensures

pub returns-then-not-are_pkcs7s : goal.returns-then-not-are_pkcs7s
returns-then-not-are_pkcs7s c =
    λ a is. no_ms_counter _ _ c.in-Some.fields.values.are.0 a is c.in-MsCounterSign.is c.in-Some.ensures.0 (c.are_pkcs7s.ensures.unfit (search rules))

pub invariant_of-result-in-MsCounterSign : goal.invariant_of-result-in-MsCounterSign
invariant_of-result-in-MsCounterSign c = record {
  all = merely (subst ArePkcs7s (kept_are c.in-Some.fields.values.are.0 c.in_ok-items.items c.in_ok-items.ensures) (c.are_pkcs7s.ensures.fits (search rules)));
}

pub returns-else-not-are_pkcs7s : goal.returns-else-not-are_pkcs7s
returns-else-not-are_pkcs7s c =
    ms_counter_read _ _ c.in-Some.fields.values.are.0 c.in_ok-items.items c.in-MsCounterSign.is c.in-Some.ensures.0 c.in_ok-items.ensures

pub returns-in_ok-ty-in-Other : goal.returns-in_ok-ty-in-Other
returns-in_ok-ty-in-Other c = other_read _ c.in-Some.fields.ty.is.0 c.in-Some.fields.values.are.0 c.in_ok-ty-in-Other.ty c.in_ok-items.items c.in-Some.ensures.1
    c.in_ok-ty-in-Other.ensures c.in_ok-items.ensures
