-- Links of Authenticode: different ones have different elements, each well formed.
use Rattle.std.proofs.Common.{◌≡◌, ℕ, List, [], refl, ap, arith}
use Rattle.der_core.specs.Structure.{IsGrammar}
use Rattle.der_core.specs.Facts.Grammars.{printed}
use Rattle.cms_types.specs.SpcLink.{spc_link}
use Rattle.cms_types.specs.declared.opus_info.spc_link.SpcLink.{SpcLink}

pub same_link : (a b : SpcLink) → a.url ≡ b.url → a ≡ b
same_link a b e = ap (λ (x : List ℕ). record { url = x }) e

links_once : (a b : SpcLink) → spc_link a ≡ spc_link b → a ≡ b
links_once a b e = let url : a.url ≡ b.url = cc in same_link a b url

pub spc_links : IsGrammar (λ element link. element ≡ spc_link link) spc_link (λ link. [])
spc_links = printed spc_link links_once (λ link. ((omega arith, omega arith, omega arith), refl))
