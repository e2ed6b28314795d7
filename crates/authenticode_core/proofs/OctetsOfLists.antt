-- The octets of a trust list are read as one list, or are refused when out of memory alone.
use Rattle.std.proofs.Common.{◌≡◌, List, ℕ, refl, sym, ap, ◌∙◌}
use Rattle.cms_types.specs.Facts.SignedDatas.{pkcs7s}
use Rattle.cms_types.specs.declared.signed_data.pkcs7.Pkcs7Certificate.{Pkcs7Certificate}
use Rattle.der_core.proofs.Exact.{no_fault_where_whole, whole_once}
use Rattle.der_core.specs.Refusals.{RefusesOctets}
use Rattle.der_core.specs.declared.error.DerError.{DerError}
use Rattle.der_core.specs.declared.error.DerError.TheVariants as der
use Rattle.authenticode_core.specs.ContentRefusal.{of_ctl, of_content}
use Rattle.authenticode_core.specs.ListOctets.{IsTrustList, IsUnreadList}
use Rattle.authenticode_core.specs.TrustList.{IsSignedData, unread_list}
use Rattle.authenticode_core.specs.declared.ctl.CertificateTrustList.{CertificateTrustList}
use Rattle.authenticode_core.specs.declared.error.CheckError.{CheckError}
use Rattle.authenticode_core.specs.declared.error.CheckError.TheVariants as check

pub one_list : (octets : List ℕ) (a b : CertificateTrustList) → IsTrustList octets a → IsTrustList octets b → a ≡ b
one_list octets a b x y =
    let element = whole_once octets x.element y.element x.der y.der x.encoded y.encoded in
    let signed = pkcs7s.once y.element a.signed b.signed (sym element ∙ x.spelled) y.spelled in
    ap (λ (s : Pkcs7Certificate). record { signed = s }) signed

-- octets of a list are refused only when out of memory
pub for_memory : (octets : List ℕ) (list : CertificateTrustList) (source : DerError) → IsTrustList octets list → RefusesOctets IsSignedData octets source
    → source ≡ der.Memory
for_memory octets list (der.Malformed m) is refused = absurd (no_fault_where_whole octets is.element m.at m.fault is.der is.encoded refused)
for_memory octets list der.Shape is refused =
    let same = whole_once octets refused.element is.element refused.der is.der refused.encoded is.encoded in
    absurd (refused.none list.signed (same ∙ is.spelled))
for_memory octets list der.TooDeep is refused = absurd refused
for_memory octets list der.TooLong is refused = absurd refused
for_memory octets list der.Memory is refused = refl

pub unread_for_memory : (octets : List ℕ) (list : CertificateTrustList) (e : CheckError) → IsTrustList octets list → IsUnreadList octets e → e ≡ check.Memory
unread_for_memory octets list e is unread =
    let source = for_memory octets list unread.1.0 is unread.1.2 in
    unread.2 ∙ ap (λ c. of_content (of_ctl c)) (unread.1.1 ∙ ap unread_list source)
