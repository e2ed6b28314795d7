-- The octets that aren't read as a trust list are refused under one name.
use Rattle.std.proofs.Common.{◌≡◌, ◌⊎◌, List, [], ◌∷◌, ℕ, inl, inr, refl, sym, ap, subst, ◌∙◌}
use Rattle.std.specs.Prelude.{codes, ◌++◌}
use Rattle.der_core.specs.declared.error.DerError.{DerError}
use Rattle.der_core.specs.declared.error.DerError.TheVariants as der
use Rattle.authenticode_core.specs.ContentRefusal.{of_ctl, of_content}
use Rattle.authenticode_core.specs.ListOctets.{IsUnreadList}
use Rattle.authenticode_core.specs.TrustList.{unread_list}
use Rattle.authenticode_core.specs.declared.error.CheckError.{CheckError}
use Rattle.authenticode_core.specs.declared.error.CheckError.TheVariants as check
use Rattle.picky_check.specs.Report.{refused_line}

-- the line of every refusal but out of memory
abbrev list_line : List ℕ
list_line = codes "refused FailedToParseCtl" ++ 10 ∷ []

line_of : (source : DerError)
    → (of_content (of_ctl (unread_list source)) ≡ check.Memory) ⊎ (refused_line (of_content (of_ctl (unread_list source))) ≡ list_line)
line_of (der.Malformed m) = inr refl
line_of der.Shape = inr refl
line_of der.TooDeep = inr refl
line_of der.TooLong = inr refl
line_of der.Memory = inl refl

pub unread_line : (octets : List ℕ) (e : CheckError) → IsUnreadList octets e
    → (e ≡ check.Memory) ⊎ (refused_line e ≡ codes "refused FailedToParseCtl" ++ 10 ∷ [])
unread_line octets e unread =
    subst (λ (x : CheckError). (x ≡ check.Memory) ⊎ (refused_line x ≡ list_line)) (sym (unread.2 ∙ ap (λ c. of_content (of_ctl c)) unread.1.1))
    (line_of unread.1.0)
