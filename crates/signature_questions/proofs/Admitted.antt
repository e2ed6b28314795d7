-- What is trusted under a scheme is trusted under one that accepts as much of the questions.
use Rattle.std.proofs.Common.{ℕ, List, Bool, true, false, inl, inr, refl}
use Rattle.cms_types.specs.SignedDataElements.{SignedDataElements}
use Rattle.cms_types.specs.SignerElements.{SignerElements}
use Rattle.key_core.specs.Verifying.{Judge, Accepts}
use Rattle.key_core.specs.declared.signature_algorithm.SignatureAlgorithm.{SignatureAlgorithm}
use Rattle.key_types.specs.declared.key_info.SubjectPublicKeyInfo.{SubjectPublicKeyInfo}
use Rattle.x509_core.specs.Chain.{IsLinkedChain}
use Rattle.x509_core.specs.OwnedCertificate.{KeptCertificate}
use Rattle.x509_core.specs.Link.{IsSignedBy}
use Rattle.x509_core.specs.declared.window.Window.{Window}
use Rattle.x509_types.specs.CertificateElements.{CertificateElements}
use Rattle.authenticode_core.specs.Basic.{VouchesFor}
use Rattle.authenticode_core.specs.Excuses.{HasReason, IsExcused, IsStamped}
use Rattle.authenticode_core.specs.LinkedPath.{AreLinkedAt, IsPathAsked}
use Rattle.authenticode_core.specs.Policy.{window_of}
use Rattle.authenticode_core.specs.SignedFields.{IndirectData, IsFirstSigner}
use Rattle.authenticode_core.specs.SignerRules.{IsKeptSigner, IsSignerVouched, IsValidAndVouched, LastsOrIsExcused}
use Rattle.authenticode_core.specs.SigningRules.{IsSigned}
use Rattle.authenticode_core.specs.Trusted.{IsBasicallyVouched, IsTrusted}
use Rattle.authenticode_core.specs.declared.accepted.Accepted.{Accepted}
use Rattle.authenticode_core.specs.declared.accepted.Excuse.{Excuse}
use Rattle.authenticode_core.specs.declared.accepted.Excuse.TheVariants as excuses
use Rattle.authenticode_core.specs.declared.policy.Policy.{Policy}
use Rattle.signature_questions.specs.Agreement.{Admits}
use Rattle.signature_questions.specs.Asked.{IsOfChain, IsOfLink, IsOfLinks, IsQuestion}
use Rattle.signature_questions.specs.Question.{AsksAbout}
use Rattle.signature_questions.proofs.LinkedQuestions.{of_chain, of_places}

module _ (a b : Judge) where
  accepted : (algorithm : SignatureAlgorithm) (info : SubjectPublicKeyInfo) (message signature : List ℕ)
      → Admits (AsksAbout algorithm info message signature) a b
      → Accepts a algorithm info message signature → Accepts b algorithm info message signature
  accepted algorithm info message signature admits h = record {
    alg = h.alg;
    bytes = h.bytes;
    fits = h.fits;
    judged = admits (record { algorithm = h.alg; key = h.bytes; message = message; signature = signature })
        (record { fits = h.fits; message_is = refl; signature_is = refl }) h.judged;
  }

  pub signed_by : (parent child : CertificateElements) → Admits (IsOfLink parent child) a b → IsSignedBy a parent child → IsSignedBy b parent child
  signed_by parent child admits h = record {
    algorithm = h.algorithm;
    info = h.info;
    parts = h.parts;
    accepted = accepted h.algorithm h.info _ _
        (λ q asked. admits q (record { algorithm = h.algorithm; info = h.info; parts = h.parts; asked = asked }))
        h.accepted;
  }

  pub linked_chain : (w : Window) (checked : KeptCertificate) (parents : List KeptCertificate) → Admits (IsOfChain checked parents) a b
      → IsLinkedChain a w checked parents → IsLinkedChain b w checked parents
  linked_chain w checked parents admits h = λ before after parent are.
      let link = h before after parent are in record {
        authority = link.authority;
        depth = link.depth;
        valid = link.valid;
        agreed = link.agreed;
        signed = signed_by _ _ (λ q asked. admits q (of_chain checked parents before after parent are q asked)) link.signed;
      }

  linked_at : (w : Window) (bag : List CertificateElements) (checked : KeptCertificate) (places : List ℕ) → Admits (IsOfLinks bag checked.elements places) a b
      → AreLinkedAt a w bag checked places → AreLinkedAt b w bag checked places
  linked_at w bag checked places admits h = record {
    parents = h.parents;
    stand = h.stand;
    linked = linked_chain w checked h.parents (λ q asked. admits q (of_places bag checked places h.parents h.stand q asked)) h.linked;
  }

  module _ (f : SignedDataElements) (admits : Admits (IsQuestion f) a b) where
    signed : (d : IndirectData) (g : SignerElements) (place : ℕ) → IsFirstSigner f g → IsSigned a f d g place → IsSigned b f d g place
    signed d g place first h = record {
      bag = h.bag;
      is_bag = h.is_bag;
      certificate = h.certificate;
      is_signer = h.is_signer;
      hash = h.hash;
      named = h.named;
      signed = record {
        info = h.signed.info;
        key = h.signed.key;
        signature = h.signed.signature;
        octets = h.signed.octets;
        accepted = accepted _ h.signed.info _ _
            (λ q asked. admits q (inl (record {
              g = g;
              first = first;
              bag = h.bag;
              is_bag = h.is_bag;
              place = place;
              certificate = h.certificate;
              is_signer = h.is_signer;
              hash = h.hash;
              named = h.named;
              info = h.signed.info;
              key = h.signed.key;
              signature = h.signed.signature;
              octets = h.signed.octets;
              asked = asked;
            })))
            h.signed.accepted;
      };
      supported = h.supported;
      bound = h.bound;
      code_signing = h.code_signing;
    }

    vouches : (hash : List ℕ) (place : ℕ) → VouchesFor a f hash place → VouchesFor b f hash place
    vouches hash place h = record {
      algorithm = h.algorithm;
      d = h.d;
      g = h.g;
      form = h.form;
      binds_hash = h.binds_hash;
      signed = signed h.d h.g place h.form.signer h.signed;
    }

    path_asked : (chain : Bool) (w : Window) (bag : List CertificateElements) (place : ℕ) (signer : KeptCertificate) (path : List ℕ)
        → IsKeptSigner f bag place signer → IsPathAsked chain a w bag signer path → IsPathAsked chain b w bag signer path
    path_asked false w bag place signer path is h = h
    path_asked true w bag place signer path is h = record {
      is_path = h.is_path;
      linked = linked_at w bag signer path
          (λ q asked. admits q (inr (inl (record {
            bag = bag;
            child = signer.elements;
            places = path;
            has = record { is_bag = is.is_bag; place = place; is_signer = is.is_signer; is_path = h.is_path };
            asked = asked;
          }))))
          h.linked;
    }

    stamped : (policy : Policy) → IsStamped a policy f → IsStamped b policy f
    stamped policy h = record {
      t = h.t;
      has = h.has;
      bag = h.bag;
      stamping = h.stamping;
      linked = record {
        first = h.linked.first;
        stands = h.linked.stands;
        places = h.linked.places;
        others = h.linked.others;
        linked = linked_at _ h.bag h.linked.first h.linked.places
            (λ q asked. admits q (inr (inr (record {
              bag = h.bag;
              child = h.linked.first.elements;
              places = h.linked.places;
              has = record { t = h.t; has = h.has; stamping = h.stamping; stands = h.linked.stands; others = h.linked.others };
              asked = asked;
            }))))
            h.linked.linked;
      };
      listed = h.listed;
    }

    pub reason : (policy : Policy) (bag : List CertificateElements) (c : CertificateElements) (excuse : Excuse) → HasReason a policy f bag c excuse
        → HasReason b policy f bag c excuse
    reason policy bag c excuses.None h = h
    reason policy bag c excuses.Bag h = h
    reason policy bag c excuses.Token h = (h.0, h.1, stamped policy h.2)

    excused : (policy : Policy) (bag : List CertificateElements) (place : ℕ) (signer : KeptCertificate) (path : List ℕ) (excuse : Excuse)
        → IsKeptSigner f bag place signer → IsExcused a policy f bag signer path excuse → IsExcused b policy f bag signer path excuse
    excused policy bag place signer path excuse is h = record {
      reason = reason policy bag signer.elements excuse h.reason;
      path_is = path_asked policy.chain (window_of policy) bag place signer path is h.path_is;
    }

    lasts : (policy : Policy) (bag : List CertificateElements) (place : ℕ) (signer : KeptCertificate) (path : List ℕ) (excuse : Excuse)
        → IsKeptSigner f bag place signer → LastsOrIsExcused a policy f bag signer path excuse → LastsOrIsExcused b policy f bag signer path excuse
    lasts policy bag place signer path excuses.None is h = h
    lasts policy bag place signer path excuses.Bag is h = (h.0, excused policy bag place signer path excuses.Bag is h.1)
    lasts policy bag place signer path excuses.Token is h = (h.0, excused policy bag place signer path excuses.Token is h.1)

    valid : (policy : Policy) (bag : List CertificateElements) (place : ℕ) (signer : KeptCertificate) (path : List ℕ) (excuse : Excuse)
        → IsKeptSigner f bag place signer → IsValidAndVouched a policy f bag signer path excuse → IsValidAndVouched b policy f bag signer path excuse
    valid policy bag place signer path excuse is h = record {
      begun = h.begun;
      lasts = lasts policy bag place signer path excuse is h.lasts;
      path_is = path_asked policy.chain (window_of policy) bag place signer path is h.path_is;
    }

    vouched_basic : (file_hash : _) (result : Accepted) → IsBasicallyVouched a file_hash f result → IsBasicallyVouched b file_hash f result
    vouched_basic file_hash result h = record {
      hash = h.hash;
      given = h.given;
      place = h.place;
      vouches = vouches h.hash h.place h.vouches;
      place_is = h.place_is;
    }

    vouched_signer : (policy : Policy) (result : Accepted) → IsSignerVouched a policy f result → IsSignerVouched b policy f result
    vouched_signer policy result h = record {
      bag = h.bag;
      place = h.place;
      signer = h.signer;
      is = h.is;
      place_is = h.place_is;
      dated = h.dated;
      valid = valid policy h.bag h.place h.signer result.path result.excuse h.is h.valid;
    }

    pub trusted : (policy : Policy) (result : Accepted) → IsTrusted a policy f result → IsTrusted b policy f result
    trusted policy result h = record {
      basic = λ on. vouched_basic policy.file_hash result (h.basic on);
      signing = λ on. vouched_signer policy result (h.signing on);
      listed = h.listed;
      pathless = h.pathless;
      placeless = h.placeless;
    }
