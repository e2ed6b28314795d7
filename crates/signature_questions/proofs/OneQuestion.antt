-- At most one question is about a signature.
use Rattle.std.proofs.Common.{◌≡◌, ℕ, List, Some, refl, sym, ap, subst, ◌∙◌}
use Rattle.cms_types.specs.SignedDataElements.{SignedDataElements}
use Rattle.cms_types.specs.SignerElements.{SignerElements}
use Rattle.der_core.specs.DerElement.{DerElement}
use Rattle.der_core.specs.Elements.{octet_string}
use Rattle.key_core.specs.SignatureAlgorithm.{NamesSignature}
use Rattle.key_core.specs.Verifying.{FitsKey}
use Rattle.key_core.specs.declared.signature_algorithm.SignatureAlgorithm.{SignatureAlgorithm}
use Rattle.key_core.specs.declared.signature_algorithm.SignatureAlgorithm.TheVariants.{RsaPkcs1v15}
use Rattle.key_core.proofs.SignatureIdentifiers.{same_algorithm}
use Rattle.key_core.proofs.Verifications.{one_fit}
use Rattle.key_types.specs.declared.algorithm.AlgorithmIdentifier.{AlgorithmIdentifier}
use Rattle.key_types.specs.declared.key_info.SubjectPublicKeyInfo.{SubjectPublicKeyInfo}
use Rattle.sig_core.specs.declared.algorithm.SigAlg.{SigAlg}
use Rattle.sig_core.specs.declared.hash.HashAlgorithm.{HashAlgorithm}
use Rattle.x509_core.specs.Link.{HasAlgorithm, HasKey, IsSignedWith, signed_octets}
use Rattle.x509_core.proofs.SignedParts.{one_algorithm, one_key}
use Rattle.x509_types.specs.CertificateElements.{CertificateElements}
use Rattle.authenticode_core.specs.BagSigner.{HasNoSigner}
use Rattle.authenticode_core.specs.SignedFields.{IsFirstSigner, signed_message, signers_of}
use Rattle.authenticode_core.specs.SigningRules.{IsBagOf, IsSignerCertificate, NamesDigest}
use Rattle.authenticode_core.proofs.DigestNames.{named_once}
use Rattle.authenticode_core.proofs.FormFields.{signer_once as one_first_signer}
use Rattle.authenticode_core.proofs.OneSigning.{same_bag, signer_once}
use Rattle.signature_questions.specs.Asked.{IsOfLink, IsOfSigner}
use Rattle.signature_questions.specs.Listed.{IsTheOne}
use Rattle.signature_questions.specs.Question.{Question, AsksAbout}

same_question : (q r : Question) → q.algorithm ≡ r.algorithm → q.key ≡ r.key → q.message ≡ r.message → q.signature ≡ r.signature → q ≡ r
same_question q r a k m s = λ i. record { algorithm = a i; key = k i; message = m i; signature = s i }

-- the same algorithm and key
asks_once : (algorithm other : SignatureAlgorithm) (info own : SubjectPublicKeyInfo) (message signature : List ℕ) (q r : Question) → algorithm ≡ other
    → info ≡ own
    → AsksAbout algorithm info message signature q → AsksAbout other own message signature r → r ≡ q
asks_once algorithm other info own message signature q r same alike p t =
    let fits : FitsKey algorithm info r.algorithm r.key =
    subst (λ (a : SignatureAlgorithm). FitsKey a info r.algorithm r.key) (sym same)
    (subst (λ (i : SubjectPublicKeyInfo). FitsKey other i r.algorithm r.key) (sym alike) t.fits) in
    let one = one_fit algorithm info r.algorithm q.algorithm r.key q.key fits p.fits in
    same_question r q one.0 one.1 (t.message_is ∙ sym p.message_is) (t.signature_is ∙ sym p.signature_is)

-- ---- a link

named_once_more : (child : CertificateElements) (a b : SignatureAlgorithm) (i j : AlgorithmIdentifier) → HasAlgorithm child i → HasAlgorithm child j
    → NamesSignature i a → NamesSignature j b → a ≡ b
named_once_more child a b i j p q m n =
    same_algorithm a b _ m (subst (λ (x : AlgorithmIdentifier). NamesSignature x b) (sym (one_algorithm child i j p q)) n)

module _ (parent child : CertificateElements) where
  link_once : (algorithm : SignatureAlgorithm) (info : SubjectPublicKeyInfo) → IsSignedWith parent child algorithm info → (q r : Question)
      → AsksAbout algorithm info (signed_octets child) child.signature q → IsOfLink parent child r → r ≡ q
  link_once algorithm info parts q r asked other =
      asks_once algorithm other.algorithm info other.info _ _ q r
      (named_once_more child algorithm other.algorithm parts.id other.parts.id parts.beside other.parts.beside parts.named other.parts.named)
      (one_key parent info other.info parts.key other.parts.key) asked other.asked

  pub no_algorithm : ((id : AlgorithmIdentifier) (algorithm : SignatureAlgorithm) → HasAlgorithm child id → NamesSignature id algorithm → ⊥)
      → (q : Question) → IsOfLink parent child q → ⊥
  no_algorithm none q asked = none asked.parts.id asked.algorithm asked.parts.beside asked.parts.named

  module _ (algorithm : SignatureAlgorithm) (id : AlgorithmIdentifier) (beside : HasAlgorithm child id) (named : NamesSignature id algorithm) where
    pub unfit_link : ((key : SubjectPublicKeyInfo) (alg : SigAlg) (bytes : List ℕ) → HasKey parent key → FitsKey algorithm key alg bytes → ⊥)
        → (q : Question) → IsOfLink parent child q → ⊥
    unfit_link none q asked =
        none asked.info q.algorithm q.key asked.parts.key
        (subst (λ (a : SignatureAlgorithm). FitsKey a asked.info q.algorithm q.key)
        (sym (named_once_more child algorithm asked.algorithm id asked.parts.id beside asked.parts.beside named asked.parts.named)) asked.asked.fits)

    pub the_link : (info : SubjectPublicKeyInfo) (q : Question) → HasKey parent info → FitsKey algorithm info q.algorithm q.key
        → q.message ≡ signed_octets child → q.signature ≡ child.signature
        → IsTheOne (IsOfLink parent child) (Some q)
    the_link info q key fits message signature =
        let parts : IsSignedWith parent child algorithm info = record { id = id; beside = beside; named = named; key = key } in
        let asked : AsksAbout algorithm info (signed_octets child) child.signature q = record { fits = fits; message_is = message; signature_is = signature } in
        (record { algorithm = algorithm; info = info; parts = parts; asked = asked }, λ r other. link_once algorithm info parts q r asked other)

    -- the same for a borrowed question
    pub the_link_of : (info : SubjectPublicKeyInfo) (alg : SigAlg) (bytes message signature : List ℕ) → HasKey parent info → FitsKey algorithm info alg bytes
        → message ≡ signed_octets child → signature ≡ child.signature
        → IsTheOne (IsOfLink parent child) (Some (record { algorithm = alg; key = bytes; message = message; signature = signature }))
    the_link_of info alg bytes message signature key fits octets own =
        the_link info (record { algorithm = alg; key = bytes; message = message; signature = signature }) key fits octets own

-- ---- the first signer

same_octets : (a b : List ℕ) → octet_string a ≡ octet_string b → a ≡ b
same_octets a b e = cc

pub no_signer : (f : SignedDataElements) → ((g : SignerElements) → IsFirstSigner f g → ⊥) → (q : Question) → IsOfSigner f q → ⊥
no_signer f none q asked = none asked.g asked.first

pub no_certificate : (f : SignedDataElements) (bag : List CertificateElements) → IsBagOf f bag → HasNoSigner (signers_of f) bag
    → (place : ℕ) (c : CertificateElements) (other : List CertificateElements) → IsBagOf f other → IsSignerCertificate f other place c → ⊥
no_certificate f bag is none place c other are signer =
    let here = subst (λ (b : List CertificateElements). IsSignerCertificate f b place c) (same_bag f other bag are is) signer in
    none place c here.later here.stands here.fits

pub no_signer_without : (f : SignedDataElements) (bag : List CertificateElements) → IsBagOf f bag → HasNoSigner (signers_of f) bag → (q : Question)
    → IsOfSigner f q → ⊥
no_signer_without f bag is none q asked = no_certificate f bag is none asked.place asked.certificate asked.bag asked.is_bag asked.is_signer

module _ (f : SignedDataElements) (g : SignerElements) (first : IsFirstSigner f g) where
  hash_once : (hash : HashAlgorithm) → NamesDigest g.digest_algorithm hash → (q : Question) (asked : IsOfSigner f q) → asked.hash ≡ hash
  hash_once hash named q asked =
      named_once g.digest_algorithm asked.hash hash
      (subst (λ (s : SignerElements). NamesDigest s.digest_algorithm asked.hash) (one_first_signer f asked.g g asked.first first) asked.named) named

  pub no_digest : ((hash : HashAlgorithm) → NamesDigest g.digest_algorithm hash → ⊥) → (q : Question) → IsOfSigner f q → ⊥
  no_digest none q asked =
      none asked.hash (subst (λ (s : SignerElements). NamesDigest s.digest_algorithm asked.hash) (one_first_signer f asked.g g asked.first first) asked.named)

  module _ (bag : List CertificateElements) (is_bag : IsBagOf f bag) (place : ℕ) (c : CertificateElements) (is_signer : IsSignerCertificate f bag place c)
      (hash : HashAlgorithm) (named : NamesDigest g.digest_algorithm hash) where
    own_key : (q : Question) (asked : IsOfSigner f q) → HasKey c asked.info
    own_key q asked =
        subst (λ (d : CertificateElements). HasKey d asked.info)
        (sym (signer_once f asked.bag bag asked.place place asked.certificate c asked.is_bag is_bag asked.is_signer is_signer).1) asked.key

    pub unfit_signer : ((key : SubjectPublicKeyInfo) (alg : SigAlg) (bytes : List ℕ) → HasKey c key → FitsKey (RsaPkcs1v15 hash) key alg bytes → ⊥)
        → (q : Question) → IsOfSigner f q → ⊥
    unfit_signer none q asked =
        none asked.info q.algorithm q.key (own_key q asked)
        (subst (λ (h : HashAlgorithm). FitsKey (RsaPkcs1v15 h) asked.info q.algorithm q.key) (hash_once hash named q asked) asked.asked.fits)

    pub the_signer : (info : SubjectPublicKeyInfo) (q : Question) → HasKey c info → FitsKey (RsaPkcs1v15 hash) info q.algorithm q.key
        → q.message ≡ signed_message g → g.signature ≡ octet_string q.signature
        → IsTheOne (IsOfSigner f) (Some q)
    the_signer info q key fits message signature =
        let asks : AsksAbout (RsaPkcs1v15 hash) info (signed_message g) q.signature q = record { fits = fits; message_is = message; signature_is = refl } in (
          record {
            g = g;
            first = first;
            bag = bag;
            is_bag = is_bag;
            place = place;
            certificate = c;
            is_signer = is_signer;
            hash = hash;
            named = named;
            info = info;
            key = key;
            signature = q.signature;
            octets = signature;
            asked = asks;
          },
          λ r asked.
              let signer = one_first_signer f asked.g g asked.first first in
              let octets = same_octets asked.signature q.signature (sym asked.octets ∙ ap (λ (s : SignerElements). s.signature) signer ∙ signature) in
              let other : AsksAbout (RsaPkcs1v15 asked.hash) asked.info (signed_message g) q.signature r = record {
                fits = asked.asked.fits;
                message_is = asked.asked.message_is ∙ ap signed_message signer;
                signature_is = asked.asked.signature_is ∙ octets;
              } in
              asks_once (RsaPkcs1v15 hash) (RsaPkcs1v15 asked.hash) info asked.info _ _ q r
              (ap (λ (h : HashAlgorithm). RsaPkcs1v15 h) (sym (hash_once hash named r asked)))
              (one_key c info asked.info key (own_key r asked)) asks other,
        )

    -- the same for a borrowed question
    pub the_signer_of : (info : SubjectPublicKeyInfo) (alg : SigAlg) (bytes message signature : List ℕ) → HasKey c info
        → FitsKey (RsaPkcs1v15 hash) info alg bytes → message ≡ signed_message g → g.signature ≡ octet_string signature
        → IsTheOne (IsOfSigner f) (Some (record { algorithm = alg; key = bytes; message = message; signature = signature }))
    the_signer_of info alg bytes message signature key fits octets own =
        the_signer info (record { algorithm = alg; key = bytes; message = message; signature = signature }) key fits octets own
