-- A signature file as made is accepted under basic validation alone.
use Rattle.std.proofs.Common.{◌≡◌, ℕ, ◌-◌, List, [], ◌∷◌, ◌++◌, Option, Result, Ok, Err, IfOk, MatchResult}
use Rattle.std.proofs.Common.{map, length, take, inl, inr, refl, sym, ap, subst, ◌∙◌, arith, append-nil}
use Rattle.std.specs.Prelude.{replicate, slice_range}
use Rattle.std.specs.Int.{next_multiple_of}
use Rattle.std.proofs.Math.Seq.{take-append_seam}
use Rattle.std.proofs.lemmas.Nat.{from_le_bytes-to_le_bytes_4}
use Rattle.asn1_types.specs.Values.{integer_contents}
use Rattle.asn1_types.specs.declared.oids.TheConstants.{CONTENT_TYPE, MESSAGE_DIGEST, SPC_INDIRECT_DATA, SPC_SP_OPUS_INFO}
use Rattle.cms_types.specs.DigestAlgorithm.{digest_algorithm}
use Rattle.cms_types.specs.Facts.SignerElements.{IsDetermined, same_signer}
use Rattle.cms_types.specs.Facts.SignerInfos.{determined_signer}
use Rattle.cms_types.specs.Pkcs7.{pkcs7}
use Rattle.cms_types.specs.SignedData.{signed_data_elements}
use Rattle.cms_types.specs.SignedDataElements.{SignedDataElements}
use Rattle.cms_types.specs.SignerElements.{SignerElements, signer_of}
use Rattle.cms_types.specs.SignerIdentifier.{signer_identifier}
use Rattle.cms_types.specs.SignerInfo.{signer_elements, signer_info}
use Rattle.cms_types.specs.declared.signed_data.pkcs7.Pkcs7Certificate.{Pkcs7Certificate}
use Rattle.cms_types.specs.declared.signer_info.SignerInfo.{SignerInfo}
use Rattle.cms_types.specs.declared.signer_info.identifier.SignerIdentifier.{SignerIdentifier}
use Rattle.cms_types.specs.declared.signer_info.identifier.SignerIdentifier.TheVariants as named
use Rattle.der_core.specs.Optional.{members_of}
use Rattle.der_core.specs.DerElement.{DerElement, Primitive}
use Rattle.der_core.specs.Elements.{null, sequence, octet_string}
use Rattle.der_core.specs.Encoding.{encoding, IsDer, IsPaddedEncoding}
use Rattle.der_core.specs.Facts.Rows.{listed-row}
use Rattle.der_core.specs.Rules.{AreOneUnlessMemory}
use Rattle.key_core.specs.Verifying.{Judge}
use Rattle.name_types.specs.Name.{name}
use Rattle.sig_core.specs.Digest.{digest_of}
use Rattle.sig_core.specs.ShaVariant.{hash_of}
use Rattle.wincert_core.specs.Refusal.{contents_in, unless_refused}
use Rattle.wincert_core.specs.WinCert.{BeginsWith, WinCert, length_field, padded, spelling, stated_length, with_padding}
use Rattle.wincert_core.specs.declared.error.WinCertificateError.{WinCertificateError}
use Rattle.wincert_core.proofs.Spelled.{not_refused}
use Rattle.x509_types.specs.CertificateElements.{CertificateElements, certificate_of}
use Rattle.authenticode_core.specs.BagSigner.{IsNamedByFirst}
use Rattle.authenticode_core.specs.Basic.{HasSignedData, VouchesFor}
use Rattle.authenticode_core.specs.CertificateBag.{IsBag}
use Rattle.authenticode_core.specs.FormRules.{HasForm}
use Rattle.authenticode_core.specs.SignedFields.{HasMessageDigest, IndirectData, IsAttributeOf, signers_of}
use Rattle.authenticode_core.specs.SigningRules.{IsBagOf, IsSigned, digested_octets}
use Rattle.authenticode_core.specs.Trusted.{IsAnswer, IsTrusted}
use Rattle.authenticode_core.specs.declared.accepted.Accepted.{Accepted}
use Rattle.authenticode_core.specs.declared.error.CheckError.{CheckError}
use Rattle.authenticode_core.specs.declared.error.CheckError.TheVariants.{Memory}
use Rattle.authenticode_core.specs.declared.policy.Policy.{Policy}
use Rattle.authenticode_parts.specs.MadeContent.{attribute_by, content_digest, image_element}
use Rattle.authenticode_parts.specs.MadeSignature.{SignatureParts, signature_made, signer_made}
use Rattle.authenticode_parts.specs.SignedProgram.{Program, issuer_and_serial_of, parts_for, program_of}
use Rattle.authenticode_signature.specs.MadeFile.{AreCertificates, IsBasicAlone, IsCheckedBy, IsMadeFor, IsMadeSignature, IsSpelledWhole, by_the_first, wrapped}
use Rattle.authenticode_core.proofs.OneData.{one_data}

-- ---- the bag is that of the certificates

bag_of : (certificates : List CertificateElements) → AreCertificates certificates → IsBag (map certificate_of certificates) certificates
bag_of [] fit = refl
bag_of (c ∷ certificates) fit = inr (c, certificates, refl, record { is = refl; fits = fit.0 }, bag_of certificates fit.1)

-- ---- the one signer

one_signer : (signers : List SignerInfo) (element : DerElement) → map signer_info signers ≡ element ∷ [] → (s : SignerInfo) × (signer_info s ≡ element)
one_signer [] element e = absurd (cc)
one_signer (s ∷ signers) element e = (s, cc)

-- ---- the identifier of its certificate

two : (a b x y : DerElement) → sequence (a ∷ x ∷ []) ≡ sequence (b ∷ y ∷ []) → (a ≡ b) × (x ≡ y)
two a b x y e = (cc, cc)

contents : (s t : List ℕ) → Primitive 0x02 s ≡ Primitive 0x02 t → s ≡ t
contents s t e = cc

named_by : (signers : List DerElement) (s : SignerInfo) (c : CertificateElements) → signers ≡ signer_info s ∷ [] → (sid : SignerIdentifier) → s.sid ≡ sid
    → signer_identifier sid ≡ issuer_and_serial_of c → IsNamedByFirst signers c
named_by signers s c one (named.IssuerAndSerialNumber v) sid is =
    let parts = two (name v.issuer) c.tbs.issuer (Primitive 0x02 (integer_contents v.serial_number)) (Primitive 0x02 c.tbs.serial_number) is in
    record {
      signer = s;
      others = [];
      first = one;
      value = v;
      sid = sid;
      has = (ap encoding parts.0, contents (integer_contents v.serial_number) c.tbs.serial_number parts.1);
    }
named_by signers s c one (named.SubjectKeyIdentifier octets) sid is = absurd cc

-- ---- other attributes

other_attribute : (oid : List ℕ) (value : DerElement) → (oid ≡ MESSAGE_DIGEST.now → ⊥) → (values : List DerElement)
    → IsAttributeOf MESSAGE_DIGEST.now (attribute_by oid value) values → ⊥
other_attribute oid value other values e =
    let same : oid ≡ MESSAGE_DIGEST.now = cc in
    other same

content_type_differs : CONTENT_TYPE.now ≡ MESSAGE_DIGEST.now → ⊥
content_type_differs e = absurd cc

opus_info_differs : SPC_SP_OPUS_INFO.now ≡ MESSAGE_DIGEST.now → ⊥
opus_info_differs e = absurd cc

-- ---- the signed data vouches for the digest

module _ (judge : Judge) (p : Program) (first : CertificateElements) (others : List CertificateElements) (value : Pkcs7Certificate)
    (m : IsMadeFor judge p first others value) where
  abbrev bag : List CertificateElements
  bag = first ∷ others

  abbrev parts : SignatureParts
  parts = parts_for p first bag m.signature

  abbrev fields : SignedDataElements
  fields = signature_made parts

  abbrev signer : SignerElements
  signer = signer_made parts

  abbrev indirect : IndirectData
  indirect = record { image = image_element; algorithm = digest_algorithm p.hash; digest = p.file_hash }

  determined_signer_made : IsDetermined signer
  determined_signer_made = record { signed_attrs = refl; signature_algorithm = λ e. omega (arith, e) }

  found : (s : SignerInfo) × (signer_info s ≡ signer_of signer)
  found = one_signer value.signed_data.signers_infos (signer_of signer) (sym (listed-row (map signer_info value.signed_data.signers_infos))
      ∙ ap signers_of m.fields)

  found_as : signer_elements found.0 ≡ signer
  found_as = same_signer (signer_elements found.0) signer (determined_signer found.0) determined_signer_made found.1

  alone : signers_of fields ≡ signer_info found.0 ∷ []
  alone = ap (λ (e : DerElement). e ∷ []) (sym found.1)

  form : HasForm fields (digest_algorithm p.hash) indirect signer
  form = record {
    version = refl;
    one_signer = refl;
    one_algorithm = refl;
    indirect = refl;
    first_algorithm = ([], refl);
    same_content = refl;
    signer = record { value = found.0; others = []; is = sym found_as; first = alone };
    same_signer = refl;
  }

  is_bag : IsBag (members_of fields.certificates) bag
  is_bag = subst (λ (members : List DerElement). IsBag members bag) (sym (listed-row (map certificate_of bag))) (bag_of bag m.are)

  is_named : IsNamedByFirst (signers_of fields) first
  is_named = named_by (signers_of fields) found.0 first alone found.0.sid refl (ap (λ (g : SignerElements). g.sid) found_as)

  digested : HasMessageDigest signer (digest_of (hash_of p.hash) (digested_octets indirect))
  digested = record {
    others = [];
    first = record {
      before = attribute_by CONTENT_TYPE.now (Primitive 0x06 SPC_INDIRECT_DATA.now) ∷ attribute_by SPC_SP_OPUS_INFO.now p.opus ∷ [];
      attribute = attribute_by MESSAGE_DIGEST.now (octet_string (content_digest p.hash p.file_hash));
      after = [];
      are = refl;
      first = (
        other_attribute CONTENT_TYPE.now (Primitive 0x06 SPC_INDIRECT_DATA.now) content_type_differs,
        (other_attribute SPC_SP_OPUS_INFO.now p.opus opus_info_differs, tt),
      );
      named = refl;
    };
  }

  signed : IsSigned judge fields indirect signer 0
  signed = record {
    bag = bag;
    is_bag = is_bag;
    certificate = first;
    is_signer = record { later = omega arith; stands = refl; fits = is_named; least = λ place c later before stands fits. omega (arith, before) };
    hash = hash_of p.hash;
    named = record { variant = p.hash; parameters = null ∷ []; is = refl; named = refl };
    signed = record { info = m.info; key = m.key; signature = m.signature; octets = refl; accepted = m.accepted };
    supported = m.supported;
    bound = digested;
    code_signing = m.code_signing;
  }

  pub vouches : VouchesFor judge (signed_data_elements value.signed_data) p.file_hash 0
  vouches = subst (λ (f : SignedDataElements). VouchesFor judge f p.file_hash 0) (sym m.fields) (record {
    algorithm = digest_algorithm p.hash;
    d = indirect;
    g = signer;
    form = form;
    binds_hash = refl;
    signed = signed;
  })

  pub carries : IsBagOf (signed_data_elements value.signed_data) bag
  carries = subst (λ (f : SignedDataElements). IsBagOf f bag) (sym m.fields) is_bag

-- ---- what is checked of it

pub trusted : (judge : Judge) (policy : Policy) (f : SignedDataElements) (file_hash : List ℕ) → IsBasicAlone policy file_hash → VouchesFor judge f file_hash 0
    → IsTrusted judge policy f by_the_first
trusted judge policy f file_hash asked vouched = record {
  basic = λ on. record { hash = file_hash; given = asked.given; place = 0; vouches = vouched; place_is = refl };
  signing = λ on. absurd (cc (on, asked.signing));
  listed = λ on.
      let s = vouched.signed in
      record {
        bag = s.bag;
        is_bag = s.is_bag;
        place = 0;
        certificate = s.certificate;
        is_signer = s.is_signer;
        place_is = refl;
        listed = λ list some. absurd (cc (asked.listless, some));
      };
  pathless = λ off. (refl, refl);
  placeless = λ off also none. absurd (cc (off, asked.basic));
}

-- ---- the file

pub begins_so : (octets : List ℕ) (w : WinCert) → IsSpelledWhole octets w → BeginsWith octets (with_padding w)
begins_so octets w file = record { later = []; fits = file.fits; spelled = file.spelled ∙ sym (append-nil (spelling (with_padding w))) }

stated : (octets : List ℕ) (w : WinCert) → BeginsWith octets w → length_field octets ≡ stated_length w.certificate
stated octets w front = ap length_field front.spelled ∙ from_le_bytes-to_le_bytes_4 (stated_length w.certificate) front.fits

the_rest : (certificate later : List ℕ) → take (stated_length certificate - 8) (certificate ++ later) ≡ certificate
the_rest certificate later =
    let all : stated_length certificate - 8 ≡ length certificate = omega arith in
    ap (λ (n : ℕ). take n (certificate ++ later)) all ∙ take-append_seam certificate later

pub contents_of : (octets : List ℕ) (w : WinCert) → BeginsWith octets w → contents_in octets ≡ Ok w.certificate
contents_of octets w front =
    ap (λ (r : Option WinCertificateError). unless_refused r (slice_range octets 8 (length_field octets))) (not_refused octets w front)
    ∙ ap (λ (n : ℕ). Ok (slice_range octets 8 n)) (stated octets w front)
    ∙ ap (λ (o : List ℕ). Ok (slice_range o 8 (stated_length w.certificate))) front.spelled
    ∙ ap Ok (the_rest w.certificate front.later)

pub padded_so : (octets : List ℕ) (element : DerElement) → IsDer element → octets ≡ encoding element → IsPaddedEncoding (padded octets) element
padded_so octets element der is = (
  der,
  next_multiple_of (length octets) 8 - length octets,
  omega arith,
  ap (λ (o : List ℕ). o ++ replicate (next_multiple_of (length octets) 8 - length octets) 0) is,
)

-- the signed data of the file, and the certificates that it contains
module _ (judge : Judge) (policy : Policy) (first : CertificateElements) (others : List CertificateElements) (octets file_hash : List ℕ)
    (made : IsMadeSignature judge first others octets file_hash) where
  abbrev made_data : SignedDataElements
  made_data = signed_data_elements made.value.signed_data

  held : HasSignedData octets made_data
  held = record {
    certificate = padded (encoding (pkcs7 made.value));
    named = contents_of octets (with_padding (wrapped made.kind (encoding (pkcs7 made.value))))
        (begins_so octets (wrapped made.kind (encoding (pkcs7 made.value))) made.file);
    value = made.value;
    spelled = padded_so (encoding (pkcs7 made.value)) (pkcs7 made.value) made.der refl;
    fields = refl;
  }

  vouched : VouchesFor judge made_data file_hash 0
  vouched = vouches judge (program_of made.hash file_hash made.name) first others made.value made.made

  carried : IsBagOf made_data (first ∷ others)
  carried = carries judge (program_of made.hash file_hash made.name) first others made.value made.made

  pub answers_so : IsBasicAlone policy file_hash → IsAnswer judge policy octets (Ok by_the_first)
  answers_so asked = (made_data, held, trusted judge policy made_data file_hash asked vouched)

  trusted_so : (r : Result Accepted CheckError) → IsAnswer judge policy octets r → IfOk r (IsTrusted judge policy made_data)
  trusted_so (Ok a) answer = subst (λ (f : SignedDataElements). IsTrusted judge policy f a) (one_data octets answer.0 made_data answer.1 held) answer.2
  trusted_so (Err e) answer = tt

  pub checked_so : (r : Result Accepted CheckError) → IsAnswer judge policy octets r
      → ((other : Result Accepted CheckError) → IsAnswer judge policy octets other → AreOneUnlessMemory Memory r other)
      → IsCheckedBy judge policy (first ∷ others) octets file_hash r
  checked_so r answer only = record {
    f = made_data;
    held = held;
    bag = carried;
    vouches = vouched;
    trusted = trusted_so r answer;
    accepted = λ a is. only (Ok a) (made_data, held, is);
  }

pub answered : (r : Result Accepted CheckError) → AreOneUnlessMemory Memory r (Ok by_the_first) → MatchResult r (λ a. a ≡ by_the_first) (λ e. e ≡ Memory)
answered (Ok a) (inl same) = cc
answered (Ok a) (inr (inl none)) = absurd cc
answered (Ok a) (inr (inr none)) = absurd cc
answered (Err e) (inl same) = absurd cc
answered (Err e) (inr (inl none)) = cc
answered (Err e) (inr (inr none)) = absurd cc
