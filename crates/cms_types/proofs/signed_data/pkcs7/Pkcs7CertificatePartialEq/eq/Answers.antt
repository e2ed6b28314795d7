use Rattle.std.proofs.Common.{◌≡◌, ◌↔◌, IsTrue, Bool, ap}
use Rattle.cms_types.specs.Pkcs7.{pkcs7}
use Rattle.cms_types.specs.Facts.SignedDatas.{pkcs7s}
use Rattle.cms_types.specs.declared.signed_data.SignedData.{SignedData}
use Rattle.cms_types.specs.declared.signed_data.pkcs7.Pkcs7Certificate.{Pkcs7Certificate}
use Rattle.cms_types.proofs.Equal.{by_octets}
use Rattle.cms_types.proofs.signed_data.pkcs7.Pkcs7CertificatePartialEq.eq.Goals as goal

by_data : (a b : Pkcs7Certificate) (t : Bool) → (IsTrue t ↔ (a.signed_data ≡ b.signed_data)) → IsTrue t ↔ (a ≡ b)
by_data a b t same = (λ w. ap (λ (d : SignedData). record { signed_data = d }) (same.0 w), λ e. same.1 (ap (λ (p : Pkcs7Certificate). p.signed_data) e))

pub returns-clause-octets : goal.returns-clause-octets
returns-clause-octets c = by_octets pkcs7 pkcs7s c.args.self.now c.args.other.now _ (by_data c.args.self.now c.args.other.now _ c.eq.ensures.same)
