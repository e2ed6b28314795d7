-- What an element encodes, by the elements of its fields.
use Rattle.std.proofs.Common.{◌≡◌, Result, Ok, Err, MatchResult, refl, sym, subst, ◌∙◌}
use Rattle.der_core.specs.DerElement.{DerElement}
use Rattle.der_core.specs.Refusals.{RefusesShape}
use Rattle.der_core.specs.Structure.{Fits}
use Rattle.der_core.specs.Facts.Lists.{list_refused}
use Rattle.der_core.specs.declared.error.DerError.{DerError}
use Rattle.asn1_types.specs.Values.{integer_contents}
use Rattle.asn1_types.specs.declared.integer.IntegerAsn1.{IntegerAsn1}
use Rattle.name_types.specs.Name.{IsName}
use Rattle.key_types.specs.AlgorithmIdentifier.{algorithm_identifier}
use Rattle.key_types.specs.PublicKeyInfo.{IsPublicKeyInfo}
use Rattle.key_types.specs.declared.algorithm.AlgorithmIdentifier.{AlgorithmIdentifier}
use Rattle.der_core.specs.Optional.{SpellsOption}
use Rattle.x509_types.specs.TbsElements.{TbsElements, tbs_of}
use Rattle.x509_types.specs.TbsCertificate.{IsVersion, IsExtensions, AreTbsFields, IsTbsCertificate}
use Rattle.x509_types.specs.TbsParts.{IsIssuedBy, IsIssuedTo, AreAdded, issued_by, issued_to, added_fields, tbs_of_parts}
use Rattle.x509_types.specs.Facts.TbsElements.{same_elements}
use Rattle.x509_types.specs.Validity.{validity}
use Rattle.x509_types.specs.declared.certificate.tbs_certificate.TbsCertificate.{TbsCertificate}
use Rattle.x509_types.specs.declared.certificate.tbs_parts.IssuedBy.{IssuedBy}
use Rattle.x509_types.specs.declared.certificate.tbs_parts.IssuedTo.{IssuedTo}
use Rattle.x509_types.specs.declared.certificate.tbs_parts.AddedFields.{AddedFields}
use Rattle.x509_types.specs.declared.certificate.validity.Validity.{Validity}

-- the elements of the fields encode the value that the element around them encodes
pub by_fields : (element : DerElement) (f : TbsElements) (tbs : TbsCertificate) → element ≡ tbs_of f → IsTbsCertificate element tbs → AreTbsFields f tbs
by_fields element f tbs is spelled = subst (λ (g : TbsElements). AreTbsFields g tbs) (same_elements spelled.elements f (sym spelled.is ∙ is)) spelled.spelled

-- and conversely
pub of_fields : (element : DerElement) (f : TbsElements) (tbs : TbsCertificate) → element ≡ tbs_of f → AreTbsFields f tbs → IsTbsCertificate element tbs
of_fields element f tbs is spelled = record { elements = f; is = is; spelled = spelled }

-- what is read of the fields is read of the element
pub read_of_fields : (element : DerElement) (f : TbsElements) (r : Result TbsCertificate DerError) → element ≡ tbs_of f
    → MatchResult r (AreTbsFields f) (RefusesShape (AreTbsFields f)) → MatchResult r (IsTbsCertificate element) (RefusesShape (IsTbsCertificate element))
read_of_fields element f (Ok tbs) is spelled = of_fields element f tbs is spelled
read_of_fields element f (Err e) is refused = list_refused (AreTbsFields f) (IsTbsCertificate element) e (λ tbs p. (tbs, by_fields element f tbs is p)) refused

-- the values that the elements encode are the fields of one value
pub all_fit : (f : TbsElements) → Fits (SpellsOption IsVersion) f.version
    → (value : IntegerAsn1) × (f.serial_number ≡ integer_contents value)
    → (a : AlgorithmIdentifier) × (f.signature ≡ algorithm_identifier a)
    → Fits IsName f.issuer → (v : Validity) × (f.validity ≡ validity v) → Fits IsName f.subject
    → Fits IsPublicKeyInfo f.subject_public_key_info
    → Fits (SpellsOption IsExtensions) f.extensions → Fits AreTbsFields f
all_fit f version serial signature issuer valid subject key extensions = (
  record {
    version = version.0;
    serial_number = serial.0;
    signature = signature.0;
    issuer = issuer.0;
    validity = valid.0;
    subject = subject.0;
    subject_public_key_info = key.0;
    issuer_unique_id = f.issuer_unique_id;
    subject_unique_id = f.subject_unique_id;
    extensions = extensions.0;
  },
  record {
    version = version.1;
    serial_number = serial.1;
    signature = signature.1;
    issuer = issuer.1;
    validity = valid.1;
    subject = subject.1;
    subject_public_key_info = key.1;
    issuer_unique_id = refl;
    subject_unique_id = refl;
    extensions = extensions.1;
  },
)

-- if a part encodes nothing, the whole encodes nothing
pub no_issued_by : (f : TbsElements) (e : DerError) → RefusesShape (IsIssuedBy f) e → RefusesShape (AreTbsFields f) e
no_issued_by f e =
    list_refused (IsIssuedBy f) (AreTbsFields f) e
    (λ tbs p. (
      issued_by tbs,
      record {
        version = p.version;
        serial_number = p.serial_number;
        signature = p.signature;
        issuer = p.issuer;
      },
    ))

pub no_issued_to : (f : TbsElements) (e : DerError) → RefusesShape (IsIssuedTo f) e → RefusesShape (AreTbsFields f) e
no_issued_to f e =
    list_refused (IsIssuedTo f) (AreTbsFields f) e
    (λ tbs p. (
      issued_to tbs,
      record {
        validity = p.validity;
        subject = p.subject;
        subject_public_key_info = p.subject_public_key_info;
      },
    ))

pub none_added : (f : TbsElements) (e : DerError) → RefusesShape (AreAdded f) e → RefusesShape (AreTbsFields f) e
none_added f e =
    list_refused (AreAdded f) (AreTbsFields f) e
    (λ tbs p. (
      added_fields tbs,
      record {
        issuer_unique_id = p.issuer_unique_id;
        subject_unique_id = p.subject_unique_id;
        extensions = p.extensions;
      },
    ))
