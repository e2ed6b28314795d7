-- Digests with their algorithms: different ones have different elements, each well formed.
use Rattle.std.proofs.Common.{◌≡◌, [], refl, arith}
use Rattle.der_core.specs.Elements.{octet_string}
use Rattle.der_core.specs.Structure.{IsGrammar}
use Rattle.der_core.specs.Facts.Grammars.{printed}
use Rattle.der_core.specs.Facts.OctetStrings.{octet_strings}
use Rattle.key_types.specs.AlgorithmIdentifier.{algorithm_identifier}
use Rattle.key_types.specs.Facts.Algorithms.{algorithms}
use Rattle.cms_content.specs.DigestInfo.{digest_info}
use Rattle.cms_content.specs.declared.digest_info.DigestInfo.{DigestInfo}

infos_once : (a b : DigestInfo) → digest_info a ≡ digest_info b → a ≡ b
infos_once a b e =
    let same_oid : algorithm_identifier a.oid ≡ algorithm_identifier b.oid = cc in
    let same_digest : octet_string a.digest ≡ octet_string b.digest = cc in
    let oid : a.oid ≡ b.oid = algorithms.once (algorithm_identifier a.oid) a.oid b.oid refl same_oid in
    let digest : a.digest ≡ b.digest = octet_strings.once (octet_string a.digest) a.digest b.digest refl same_digest in
    λ i. record { oid = oid i; digest = digest i }

pub digest_infos : IsGrammar (λ element info. element ≡ digest_info info) digest_info (λ info. [])
digest_infos = printed digest_info infos_once
    (λ info. ((omega arith, omega arith, omega arith), refl, (algorithms.formed info.oid, (octet_strings.formed info.digest, tt))))
