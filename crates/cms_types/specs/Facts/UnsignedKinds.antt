-- Equality of kinds of unsigned attributes is a proposition.
use Rattle.std.specs.Prelude.{◌≡◌, ℕ, ◌==◌, if◌then◌else◌, refl}
use Rattle.std.specs.Coded.{Coded-set}
use Rattle.std.proofs.Common.{sym, ap, ◌∙◌}
use base.Stored.{Coded, gnum, num}
use Rattle.cms_types.specs.declared.unsigned_attribute.kind.UnsignedKind.{UnsignedKind}
use Rattle.cms_types.specs.declared.unsigned_attribute.kind.UnsignedKind.TheVariants as kinds

-- a number for each kind
abbrev unsigned_number : UnsignedKind → ℕ
unsigned_number kinds.CounterSign = 0
unsigned_number kinds.MsCounterSign = 1
unsigned_number kinds.Other = 2

abbrev kind_at : ℕ → UnsignedKind
kind_at number =
    if number == 0 then kinds.CounterSign
    else (if number == 1 then kinds.MsCounterSign
    else kinds.Other)

kind_of_number : (kind : UnsignedKind) → kind_at (unsigned_number kind) ≡ kind
kind_of_number kinds.CounterSign = refl
kind_of_number kinds.MsCounterSign = refl
kind_of_number kinds.Other = refl

abbrev coded_kind : Coded UnsignedKind
coded_kind = record {
  code = λ kind. gnum (unsigned_number kind);
  inj = λ a b e. sym (kind_of_number a) ∙ ap (λ v. kind_at (num v)) e ∙ kind_of_number b;
}

pub same_unsigned_kinds : (a b : UnsignedKind) → IsProp (a ≡ b)
same_unsigned_kinds a b = Coded-set coded_kind a b
