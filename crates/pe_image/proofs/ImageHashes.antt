-- The digest for which a program is checked: it is unique, and what is trusted states it.
use Rattle.std.proofs.Common.{◌≡◌, ℕ, List, Option, Some, None, Ok, refl, sym, ap, subst, ◌∙◌}
use Rattle.cms_types.specs.SignedDataElements.{SignedDataElements}
use Rattle.key_core.specs.Verifying.{Judge}
use Rattle.pe_core.specs.Bound.{bound_octets, table_of}
use Rattle.sig_core.specs.Digest.{digest_of}
use Rattle.sig_core.specs.declared.hash.HashAlgorithm.{HashAlgorithm}
use Rattle.authenticode_core.specs.Basic.{HasSignedData}
use Rattle.authenticode_core.specs.SignedFields.{HasIndirectData, IndirectData}
use Rattle.authenticode_core.specs.SigningRules.{NamesDigest}
use Rattle.authenticode_core.specs.declared.accepted.Accepted.{Accepted}
use Rattle.authenticode_core.specs.declared.policy.Policy.{Policy}
use Rattle.authenticode_core.proofs.DigestNames.{named_once}
use Rattle.authenticode_core.proofs.FormFields.{indirect_once}
use Rattle.authenticode_core.proofs.OneData.{one_data}
use Rattle.pe_image.specs.ImageHash.{BindsImage, IsImageHash, NamesImageDigest}
use Rattle.pe_image.specs.PeAnswer.{IsTableAnswer}

-- indirect data of the table's signed data is that in which the digest is
one_indirect : (table : List ℕ) (f : SignedDataElements) (d : IndirectData) (algorithm : HashAlgorithm) → HasSignedData table f → HasIndirectData f d
    → (names : NamesImageDigest table algorithm) → names.1.d ≡ d
one_indirect table f d algorithm has indirect names =
    indirect_once f names.1.d d
    (subst (λ (x : SignedDataElements). HasIndirectData x names.1.d) (one_data table names.1.f f names.1.signed has) names.1.indirect) indirect

pub named_by : (table : List ℕ) (f : SignedDataElements) (d : IndirectData) (algorithm : HashAlgorithm) → HasSignedData table f → HasIndirectData f d
    → NamesImageDigest table algorithm → NamesDigest d.algorithm algorithm
named_by table f d algorithm has indirect names =
    subst (λ (x : IndirectData). NamesDigest x.algorithm algorithm) (one_indirect table f d algorithm has indirect names) names.1.named

one_algorithm : (table : List ℕ) (a b : HashAlgorithm) → NamesImageDigest table a → NamesImageDigest table b → a ≡ b
one_algorithm table a b p q =
    named_once q.1.d.algorithm a b (named_by table q.1.f q.1.d a q.1.signed q.1.indirect p) q.1.named

pub one_hash : (octets : List ℕ) (a b : Option (List ℕ)) → IsImageHash octets a → IsImageHash octets b → a ≡ b
one_hash octets None None p q = refl
one_hash octets None (Some b) p q = absurd (p q.0 q.1)
one_hash octets (Some a) None p q = absurd (q p.0 p.1)
one_hash octets (Some a) (Some b) p q =
    ap Some (p.2 ∙ ap (λ (algorithm : HashAlgorithm). digest_of algorithm (bound_octets octets)) (one_algorithm (table_of octets) p.0 q.0 p.1 q.1) ∙ sym q.2)

pub binds : (judge : Judge) (policy : Policy) (octets : List ℕ) (accepted : Accepted) → IsTableAnswer judge policy octets (Ok accepted) → BindsImage octets
binds judge policy octets accepted trusted =
    let f = trusted.answer.0 in
    let basic = trusted.answer.2.basic refl in
    let hash : IsImageHash octets (Some basic.hash) = subst (λ (x : Option (List ℕ)). IsImageHash octets x) basic.given trusted.hash_is in
    let d = basic.vouches.d in (
      hash.0,
      record {
        f = f;
        d = d;
        signed = trusted.answer.1;
        indirect = basic.vouches.form.indirect;
        named = named_by (table_of octets) f d hash.0 trusted.answer.1 basic.vouches.form.indirect hash.1;
        stated = basic.vouches.binds_hash ∙ hash.2;
      },
    )
