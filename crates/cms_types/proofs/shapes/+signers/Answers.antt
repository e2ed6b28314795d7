use Rattle.std.proofs.Common.{Some, ap, sym, ◌∙◌, subst, arith, rules}
use Rattle.der_core.specs.BorrowedOption.{at_option}
use Rattle.cms_types.specs.Borrowed.{signer_at, signed_data_at}
use Rattle.cms_types.specs.Levels.{IsUnsignedOf}
use Rattle.cms_types.specs.Signers.{Bare, WithUnsigned, Counter, MsCounter, Any, Signed, Pkcs7, AreUnsignedAttributes, NoUnsigned}
use Rattle.cms_types.specs.Signers.{MoreUnsigned, AreSignerInfos, NoSigners, MoreSigners, ArePkcs7s, NoPkcs7s, MorePkcs7s}
use Rattle.cms_types.specs.declared.unsigned_attribute.kind.UnsignedKind.{UnsignedKind}
use Rattle.cms_types.proofs.Signers.{first_signer, first_unsigned, first_pkcs7, signer_unsigned, unsigned_level}
use Rattle.cms_types.proofs.Signers.{counter_values, ms_counter_values, data_signers, pkcs7_level, first_count}
use Rattle.cms_types.proofs.shapes.+signers.Goals as goal

-- ---- several

pub are_signer_infos-is_signer_info-requires : goal.are_signer_infos-is_signer_info-requires
are_signer_infos-is_signer_info-requires t c = (omega (arith, first_count _ _ _ c.in-Some.ensures, c.loop-kid.invariant.0, c.decreases), tt)

pub are_unsigned_attributes-is_unsigned_attribute-requires : goal.are_unsigned_attributes-is_unsigned_attribute-requires
are_unsigned_attributes-is_unsigned_attribute-requires t c = (omega (arith, first_count _ _ _ c.in-Some.ensures, c.loop-kid.invariant.0, c.decreases), tt)

pub are_pkcs7s-is_pkcs7-requires : goal.are_pkcs7s-is_pkcs7-requires
are_pkcs7s-is_pkcs7-requires t c = (omega (arith, first_count _ _ _ c.in-Some.ensures, c.loop-kid.invariant.0, c.decreases), tt)

pub are_signer_infos-loop-kid-preserved : goal.are_signer_infos-loop-kid-preserved
are_signer_infos-loop-kid-preserved t c =
    let e = c.in-Some.ensures in
    let one = c.is_signer_info.ensures.fits (search rules) in (
      omega (arith, first_count _ _ _ e, c.loop-kid.invariant.0),
      (λ more. c.loop-kid.invariant.1.0 (subst AreSignerInfos (sym e) (MoreSigners one more)), λ all. (first_signer _ (c.loop-kid.invariant.1.1 all) _ _ e).1),
    )

pub are_unsigned_attributes-loop-kid-preserved : goal.are_unsigned_attributes-loop-kid-preserved
are_unsigned_attributes-loop-kid-preserved t c =
    let e = c.in-Some.ensures in
    let one = c.is_unsigned_attribute.ensures.fits (search rules) in (
      omega (arith, first_count _ _ _ e, c.loop-kid.invariant.0),
      (
        λ more. c.loop-kid.invariant.1.0 (subst AreUnsignedAttributes (sym e) (MoreUnsigned one more)),
        λ all. (first_unsigned _ (c.loop-kid.invariant.1.1 all) _ _ e).1,
      ),
    )

pub are_pkcs7s-loop-kid-preserved : goal.are_pkcs7s-loop-kid-preserved
are_pkcs7s-loop-kid-preserved t c =
    let e = c.in-Some.ensures in
    let one = c.is_pkcs7.ensures.fits (search rules) in (
      omega (arith, first_count _ _ _ e, c.loop-kid.invariant.0),
      (λ more. c.loop-kid.invariant.1.0 (subst ArePkcs7s (sym e) (MorePkcs7s one more)), λ all. (first_pkcs7 _ (c.loop-kid.invariant.1.1 all) _ _ e).1),
    )

pub are_signer_infos-returns-clause-fits : goal.are_signer_infos-returns-clause-fits
are_signer_infos-returns-clause-fits t c = λ w. c.loop-kid.invariant.1.0 (subst AreSignerInfos (sym c.in_default.ensures.0) NoSigners)

pub are_unsigned_attributes-returns-clause-fits : goal.are_unsigned_attributes-returns-clause-fits
are_unsigned_attributes-returns-clause-fits t c = λ w. c.loop-kid.invariant.1.0 (subst AreUnsignedAttributes (sym c.in_default.ensures.0) NoUnsigned)

pub are_pkcs7s-returns-clause-fits : goal.are_pkcs7s-returns-clause-fits
are_pkcs7s-returns-clause-fits t c = λ w. c.loop-kid.invariant.1.0 (subst ArePkcs7s (sym c.in_default.ensures.0) NoPkcs7s)

-- ---- signed data

pub is_pkcs7-returns-in-Some-clause-fits : goal.is_pkcs7-returns-in-Some-clause-fits
is_pkcs7-returns-in-Some-clause-fits t c = λ w. Pkcs7 c.in-Some.ensures (c.is_signed_data.ensures.fits w)

pub is_pkcs7-returns-in-None-clause-unfit : goal.is_pkcs7-returns-in-None-clause-unfit
is_pkcs7-returns-in-None-clause-unfit t c = λ no p. let level = pkcs7_level _ p in c.in-None.ensures level.0 level.1

pub is_signed_data-returns-in-Some-of-clause-fits : goal.is_signed_data-returns-in-Some-of-clause-fits
is_signed_data-returns-in-Some-of-clause-fits t c = λ w. Signed c.in-Some.ensures c.in-Some-of.ensures (c.are_signer_infos.ensures.fits w)

pub is_signed_data-returns-in-Some-of-clause-unfit : goal.is_signed_data-returns-in-Some-of-clause-unfit
is_signed_data-returns-in-Some-of-clause-unfit t c =
    λ no s. c.are_signer_infos.ensures.unfit no (data_signers _ (signed_data_at c.in-Some.fields) _ s c.in-Some.ensures c.in-Some-of.ensures)

-- ---- signers

pub is_signer_info-returns-in_default-unsigned_attrs-clause-fits : goal.is_signer_info-returns-in_default-unsigned_attrs-clause-fits
is_signer_info-returns-in_default-unsigned_attrs-clause-fits t c = λ w. Bare c.in-Some.ensures (ap at_option c.in_default-unsigned_attrs.is)

pub is_signer_info-returns-in-Some-of-clause-fits : goal.is_signer_info-returns-in-Some-of-clause-fits
is_signer_info-returns-in-Some-of-clause-fits t c = λ w.
    WithUnsigned c.in-Some.ensures (ap at_option c.in-Some-unsigned_attrs.is ∙ ap Some c.in-Some-of.ensures) (c.are_unsigned_attributes.ensures.fits w)

pub is_signer_info-returns-in-Some-of-clause-unfit : goal.is_signer_info-returns-in-Some-of-clause-unfit
is_signer_info-returns-in-Some-of-clause-unfit t c = λ no s.
    c.are_unsigned_attributes.ensures.unfit no
    (signer_unsigned _ (signer_at c.in-Some.fields) _ s c.in-Some.ensures (ap at_option c.in-Some-unsigned_attrs.is ∙ ap Some c.in-Some-of.ensures))

-- ---- unsigned attributes

pub is_unsigned_attribute-returns-in_default-clause-unfit : goal.is_unsigned_attribute-returns-in_default-clause-unfit
is_unsigned_attribute-returns-in_default-clause-unfit t c = λ no u. let level = unsigned_level _ u in c.in_default.ensures level.0 level.1 level.2

pub is_unsigned_attribute-returns-in-CounterSign-clause-fits : goal.is_unsigned_attribute-returns-in-CounterSign-clause-fits
is_unsigned_attribute-returns-in-CounterSign-clause-fits t c = λ w.
    Counter (subst (λ (k : UnsignedKind). IsUnsignedOf c.args.elem.is.0 k c.in-Some.fields.values.are.0) c.in-CounterSign.is c.in-Some.ensures.0)
    (c.are_signer_infos.ensures.fits w)

pub is_unsigned_attribute-returns-in-CounterSign-clause-unfit : goal.is_unsigned_attribute-returns-in-CounterSign-clause-unfit
is_unsigned_attribute-returns-in-CounterSign-clause-unfit t c = λ no u.
    c.are_signer_infos.ensures.unfit no
    (counter_values _ _ u (subst (λ (k : UnsignedKind). IsUnsignedOf c.args.elem.is.0 k c.in-Some.fields.values.are.0) c.in-CounterSign.is c.in-Some.ensures.0))

pub is_unsigned_attribute-returns-in-MsCounterSign-clause-fits : goal.is_unsigned_attribute-returns-in-MsCounterSign-clause-fits
is_unsigned_attribute-returns-in-MsCounterSign-clause-fits t c = λ w.
    MsCounter (subst (λ (k : UnsignedKind). IsUnsignedOf c.args.elem.is.0 k c.in-Some.fields.values.are.0) c.in-MsCounterSign.is c.in-Some.ensures.0)
    (c.are_pkcs7s.ensures.fits w)

pub is_unsigned_attribute-returns-in-MsCounterSign-clause-unfit : goal.is_unsigned_attribute-returns-in-MsCounterSign-clause-unfit
is_unsigned_attribute-returns-in-MsCounterSign-clause-unfit t c = λ no u.
    c.are_pkcs7s.ensures.unfit no (ms_counter_values _ _ u
    (subst (λ (k : UnsignedKind). IsUnsignedOf c.args.elem.is.0 k c.in-Some.fields.values.are.0) c.in-MsCounterSign.is c.in-Some.ensures.0))

pub is_unsigned_attribute-returns-in-Other-clause-fits : goal.is_unsigned_attribute-returns-in-Other-clause-fits
is_unsigned_attribute-returns-in-Other-clause-fits t c =
    λ w. Any (subst (λ (k : UnsignedKind). IsUnsignedOf c.args.elem.is.0 k c.in-Some.fields.values.are.0) c.in-Other.is c.in-Some.ensures.0)
