-- Why the octets of a trust list aren't read, as a program is refused for it.
use Rattle.std.proofs.Common.{◌≡◌, ◌⊎◌, List, [], ◌∷◌, ℕ, Result, Ok, Err, inl, inr, refl, sym, ap, subst, ◌∙◌}
use Rattle.std.specs.Prelude.{codes, ◌++◌}
use Rattle.der_core.specs.declared.error.DerError.{DerError}
use Rattle.der_core.specs.declared.error.DerError.TheVariants as der
use Rattle.authenticode_core.specs.ContentRefusal.{of_ctl, of_content}
use Rattle.authenticode_core.specs.ListOctets.{IsTrustList, IsUnreadList}
use Rattle.authenticode_core.specs.TrustList.{unread_list}
use Rattle.authenticode_core.specs.declared.accepted.Accepted.{Accepted}
use Rattle.authenticode_core.specs.declared.ctl.CertificateTrustList.{CertificateTrustList}
use Rattle.authenticode_core.specs.declared.error.CheckError.{CheckError}
use Rattle.authenticode_core.proofs.OctetsOfLists.{unread_for_memory as list_unread}
use Rattle.pe_image.specs.ListAnswer.{IsListRefusal}
use Rattle.pe_image.specs.Refusals.{of_check}
use Rattle.pe_image.specs.Report.{IsOutOfMemory, refused_line}
use Rattle.pe_image.specs.declared.error.PeCheckError.{PeCheckError}
use Rattle.pe_image.specs.declared.error.PeCheckError.TheVariants.{Memory}

-- the refusal, from why the octets aren't read as signed data
abbrev refusal_for : DerError → PeCheckError
refusal_for source = of_check (of_content (of_ctl (unread_list source)))

refusal_is : (octets : List ℕ) (cause : CheckError) (unread : IsUnreadList octets cause) → of_check cause ≡ refusal_for unread.1.0
refusal_is octets cause unread =
    ap of_check (unread.2 ∙ ap (λ c. of_content (of_ctl c)) unread.1.1)

pub wants : (e : PeCheckError) → e ≡ Memory → IsOutOfMemory (Err e)
wants e is = subst (λ (x : PeCheckError). IsOutOfMemory (Err x)) (sym is) tt

pub unread_for_memory : (octets : List ℕ) (list : CertificateTrustList) (answer : Result Accepted PeCheckError) → IsTrustList octets list
    → IsListRefusal octets answer → IsOutOfMemory answer
unread_for_memory octets list (Ok accepted) is refusal = absurd refusal
unread_for_memory octets list (Err e) is refusal =
    wants e (refusal.2 ∙ ap of_check (list_unread octets list refusal.0 is refusal.1))

-- the line of every refusal but out of memory
abbrev pub list_line : List ℕ
list_line = codes "refused FailedToParseCtl" ++ 10 ∷ []

line_of : (source : DerError) → (refusal_for source ≡ Memory) ⊎ (refused_line (refusal_for source) ≡ list_line)
line_of (der.Malformed m) = inr refl
line_of der.Shape = inr refl
line_of der.TooDeep = inr refl
line_of der.TooLong = inr refl
line_of der.Memory = inl refl

pub unread_line : (octets : List ℕ) (e : PeCheckError) → IsListRefusal octets (Err e) → (e ≡ Memory) ⊎ (refused_line e ≡ list_line)
unread_line octets e refusal =
    subst (λ (x : PeCheckError). (x ≡ Memory) ⊎ (refused_line x ≡ list_line)) (sym (refusal.2 ∙ refusal_is octets refusal.0 refusal.1)) (line_of refusal.1.1.0)
