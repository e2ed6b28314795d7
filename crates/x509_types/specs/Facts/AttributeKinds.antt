-- That two kinds of attributes are the same has at most one proof.
use Rattle.std.specs.Prelude.{◌≡◌, ℕ, ◌==◌, if◌then◌else◌, refl}
use Rattle.std.specs.Coded.{Coded-set}
use Rattle.std.proofs.Common.{sym, ap, ◌∙◌}
use base.Stored.{Coded, gnum, num}
use Rattle.x509_types.specs.AttributeKind.{attribute_number}
use Rattle.x509_types.specs.declared.attribute.kind.AttributeKind.{AttributeKind}
use Rattle.x509_types.specs.declared.attribute.kind.AttributeKind.TheVariants as kinds

abbrev kind_at : ℕ → AttributeKind
kind_at number =
    if number == 0 then kinds.ContentType
    else (if number == 1 then kinds.MessageDigest
    else (if number == 2 then kinds.ExtensionRequest
    else kinds.Other))

kind_of_number : (kind : AttributeKind) → kind_at (attribute_number kind) ≡ kind
kind_of_number kinds.ContentType = refl
kind_of_number kinds.MessageDigest = refl
kind_of_number kinds.ExtensionRequest = refl
kind_of_number kinds.Other = refl

abbrev coded_kind : Coded AttributeKind
coded_kind = record {
  code = λ kind. gnum (attribute_number kind);
  inj = λ a b e. sym (kind_of_number a) ∙ ap (λ v. kind_at (num v)) e ∙ kind_of_number b;
}

pub same_attribute_kinds : (a b : AttributeKind) → IsProp (a ≡ b)
same_attribute_kinds a b = Coded-set coded_kind a b

pub attribute_kinds_by_number : (a b : AttributeKind) → attribute_number a ≡ attribute_number b → a ≡ b
attribute_kinds_by_number a b e = sym (kind_of_number a) ∙ ap kind_at e ∙ kind_of_number b
