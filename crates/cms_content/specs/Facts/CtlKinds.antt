-- Equality of kinds of attributes of entries is a proposition.
use Rattle.std.specs.Prelude.{◌≡◌, ℕ, ◌==◌, if◌then◌else◌, refl}
use Rattle.std.specs.Coded.{Coded-set}
use Rattle.std.proofs.Common.{sym, ap, ◌∙◌}
use base.Stored.{Coded, gnum, num}
use Rattle.cms_content.specs.declared.ctl_kind.CtlKind.{CtlKind}
use Rattle.cms_content.specs.declared.ctl_kind.CtlKind.TheVariants as kinds

-- a number for each kind
abbrev ctl_number : CtlKind → ℕ
ctl_number kinds.CertSubjectNameMd5HashPropId = 0
ctl_number kinds.CertDisallowedFileTimePropId = 1
ctl_number kinds.UnknownReservedPropId126 = 2
ctl_number kinds.UnknownReservedPropId127 = 3
ctl_number kinds.Other = 4

abbrev kind_at : ℕ → CtlKind
kind_at number =
    if number == 0 then kinds.CertSubjectNameMd5HashPropId
    else (if number == 1 then kinds.CertDisallowedFileTimePropId
    else (if number == 2 then kinds.UnknownReservedPropId126
    else (if number == 3 then kinds.UnknownReservedPropId127
    else kinds.Other)))

kind_of_number : (kind : CtlKind) → kind_at (ctl_number kind) ≡ kind
kind_of_number kinds.CertSubjectNameMd5HashPropId = refl
kind_of_number kinds.CertDisallowedFileTimePropId = refl
kind_of_number kinds.UnknownReservedPropId126 = refl
kind_of_number kinds.UnknownReservedPropId127 = refl
kind_of_number kinds.Other = refl

abbrev coded_kind : Coded CtlKind
coded_kind = record {
  code = λ kind. gnum (ctl_number kind);
  inj = λ a b e. sym (kind_of_number a) ∙ ap (λ v. kind_at (num v)) e ∙ kind_of_number b;
}

pub same_ctl_kinds : (a b : CtlKind) → IsProp (a ≡ b)
same_ctl_kinds a b = Coded-set coded_kind a b
