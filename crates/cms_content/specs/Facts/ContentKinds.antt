-- Equality of kinds of contents is a proposition.
use Rattle.std.specs.Prelude.{◌≡◌, ℕ, ◌==◌, if◌then◌else◌, Option, Some, None, refl}
use Rattle.std.specs.Coded.{Coded-set, Unit-prop}
use Rattle.std.proofs.Common.{sym, ap, ◌∙◌}
use base.Stored.{Coded, gnum, num}
use Rattle.cms_content.specs.ContentKind.{content_number}
use Rattle.cms_content.specs.ContentValue.{kind_of_content, HasKind}
use Rattle.cms_content.specs.declared.content_kind.ContentKind.{ContentKind}
use Rattle.cms_content.specs.declared.content_kind.ContentKind.TheVariants as kinds
use Rattle.cms_content.specs.declared.content_value.ContentValue.{ContentValue}

abbrev kind_at : ℕ → ContentKind
kind_at number =
    if number == 0 then kinds.IndirectData
    else (if number == 1 then kinds.CertificateTrustList
    else (if number == 2 then kinds.Data
    else kinds.Other))

kind_of_number : (kind : ContentKind) → kind_at (content_number kind) ≡ kind
kind_of_number kinds.IndirectData = refl
kind_of_number kinds.CertificateTrustList = refl
kind_of_number kinds.Data = refl
kind_of_number kinds.Other = refl

abbrev coded_kind : Coded ContentKind
coded_kind = record {
  code = λ kind. gnum (content_number kind);
  inj = λ a b e. sym (kind_of_number a) ∙ ap (λ v. kind_at (num v)) e ∙ kind_of_number b;
}

pub kinds_by_number : (a b : ContentKind) → content_number a ≡ content_number b → a ≡ b
kinds_by_number a b e = sym (kind_of_number a) ∙ ap kind_at e ∙ kind_of_number b

pub HasKind-prop : (kind : ContentKind) (content : Option ContentValue) → IsProp (HasKind kind content)
HasKind-prop kind None = Unit-prop
HasKind-prop kind (Some content) = Coded-set coded_kind (kind_of_content content) kind
