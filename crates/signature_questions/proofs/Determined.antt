-- The octets of a signature file, or of the certificates of a chain, determine the questions.
use Rattle.std.proofs.Common.{◌≡◌, ℕ, List, ◌∷◌, map, subst}
use Rattle.cms_types.specs.SignedDataElements.{SignedDataElements}
use Rattle.x509_core.specs.OwnedCertificate.{KeptCertificate, kept_octets}
use Rattle.x509_core.proofs.OwnedOctets.{same_certificates}
use Rattle.authenticode_core.specs.Basic.{HasSignedData}
use Rattle.authenticode_core.proofs.OneData.{one_data}
use Rattle.signature_questions.specs.Listed.{AreOfChain, AreQuestions}
use Rattle.signature_questions.specs.Question.{Question}
use Rattle.signature_questions.proofs.OneList.{chain_once, questions_once}

pub datas_once : (octets : List ℕ) (f g : SignedDataElements) (qs rs : List Question) → HasSignedData octets f → HasSignedData octets g → AreQuestions f qs
    → AreQuestions g rs → qs ≡ rs
datas_once octets f g qs rs has there are own =
    questions_once f qs rs are (subst (λ (x : SignedDataElements). AreQuestions x rs) (one_data octets g f there has) own)

first_same : (a b : KeptCertificate) (above ahead : List KeptCertificate) → a ∷ above ≡ b ∷ ahead → a ≡ b
first_same a b above ahead same = cc

others_same : (a b : KeptCertificate) (above ahead : List KeptCertificate) → a ∷ above ≡ b ∷ ahead → above ≡ ahead
others_same a b above ahead same = cc

pub chains_once : (a b : KeptCertificate) (above ahead : List KeptCertificate) (qs rs : List Question)
    → map kept_octets (a ∷ above) ≡ map kept_octets (b ∷ ahead)
    → AreOfChain a above qs → AreOfChain b ahead rs → qs ≡ rs
chains_once a b above ahead qs rs octets are own =
    let same = same_certificates (a ∷ above) (b ∷ ahead) octets in
    chain_once b ahead qs rs
    (subst (λ (x : KeptCertificate). AreOfChain x ahead qs) (first_same a b above ahead same)
    (subst (λ (xs : List KeptCertificate). AreOfChain a xs qs) (others_same a b above ahead same) are))
    own
