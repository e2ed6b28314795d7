-- Questions about links, among those about chains and indices of a bag.
use Rattle.std.proofs.Common.{◌≡◌, ℕ, List, [], ◌∷◌, ◌++◌, inl, inr, sym, subst}
use Rattle.x509_core.specs.Chain.{last_of}
use Rattle.x509_core.specs.OwnedCertificate.{KeptCertificate}
use Rattle.x509_types.specs.CertificateElements.{CertificateElements}
use Rattle.authenticode_core.specs.LinkedPath.{StandAt}
use Rattle.authenticode_core.specs.Indices.{StandsAt}
use Rattle.signature_questions.specs.Asked.{IsOfChain, IsOfLink, IsOfLinks}
use Rattle.signature_questions.specs.Question.{Question}

-- the link of a parent to the certificate before it is one of the chain
at_parent : (child : KeptCertificate) (before after : List KeptCertificate) (parent : KeptCertificate) (q : Question)
    → IsOfLink parent.elements (last_of child before).elements q → IsOfChain child (before ++ parent ∷ after) q
at_parent child [] after parent q asked = inl asked
at_parent child (first ∷ before) after parent q asked = inr (at_parent first before after parent q asked)

pub of_chain : (child : KeptCertificate) (parents before after : List KeptCertificate) (parent : KeptCertificate) → parents ≡ before ++ parent ∷ after
    → (q : Question)
    → IsOfLink parent.elements (last_of child before).elements q → IsOfChain child parents q
of_chain child parents before after parent are q asked =
    subst (λ (all : List KeptCertificate). IsOfChain child all q) (sym are) (at_parent child before after parent q asked)

-- the certificates at some indices as a chain
pub of_places : (bag : List CertificateElements) (child : KeptCertificate) (places : List ℕ) (parents : List KeptCertificate) → StandAt bag places parents
    → (q : Question) → IsOfChain child parents q → IsOfLinks bag child.elements places q
of_places bag child [] [] stand q asked = absurd asked
of_places bag child [] (parent ∷ parents) stand q asked = absurd stand
of_places bag child (place ∷ places) [] stand q asked = absurd stand
of_places bag child (place ∷ places) (parent ∷ parents) stand q (inl asked) = (parent.elements, stand.0, inl asked)
of_places bag child (place ∷ places) (parent ∷ parents) stand q (inr asked) =
    (parent.elements, stand.0, inr (of_places bag parent places parents stand.1 q asked))

-- the first of the indices
pub of_front : (bag : List CertificateElements) (child : CertificateElements) (front others : List ℕ) (q : Question) → IsOfLinks bag child front q
    → IsOfLinks bag child (front ++ others) q
of_front bag child [] others q asked = absurd asked
of_front bag child (place ∷ front) others q (parent, stands, inl asked) = (parent, stands, inl asked)
of_front bag child (place ∷ front) others q (parent, stands, inr asked) = (parent, stands, inr (of_front bag parent front others q asked))

-- the certificate at an index, and the one before it
pub of_next : (bag : List CertificateElements) (child : KeptCertificate) (before : List ℕ) (below : List KeptCertificate) (place : ℕ) (after : List ℕ)
    (parent : KeptCertificate) → StandAt bag before below → StandsAt bag place parent.elements
    → (q : Question) → IsOfLink parent.elements (last_of child below).elements q → IsOfLinks bag child.elements (before ++ place ∷ after) q
of_next bag child [] [] place after parent stand stands q asked = (parent.elements, stands, inl asked)
of_next bag child [] (kept ∷ below) place after parent stand stands q asked = absurd stand
of_next bag child (first ∷ before) [] place after parent stand stands q asked = absurd stand
of_next bag child (first ∷ before) (kept ∷ below) place after parent stand stands q asked =
    (kept.elements, stand.0, inr (of_next bag kept before below place after parent stand.1 stands q asked))

-- the first of the certificates
pub chain_front : (child : KeptCertificate) (front others : List KeptCertificate) (q : Question) → IsOfChain child front q → IsOfChain child (front ++ others) q
chain_front child [] others q asked = absurd asked
chain_front child (parent ∷ front) others q (inl asked) = inl asked
chain_front child (parent ∷ front) others q (inr asked) = inr (chain_front parent front others q asked)
