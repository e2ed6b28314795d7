-- One error reports a missing argument of a builder of signatures, and none does if all are given.
use Rattle.std.proofs.Common.{◌≡◌, [], Option, Some, sym, ap, ◌∙◌}
use Rattle.std.proofs.lemmas.Option.{none-some}
use Rattle.sig_core.specs.declared.error.UnsupportedHashAlgorithmError.{UnsupportedHashAlgorithmError}
use Rattle.sig_core.specs.declared.hash.HashAlgorithm.{HashAlgorithm}
use Rattle.der_core.specs.Steps.{AreTaken, IsFirstUntaken}
use Rattle.der_core.proofs.TakenSteps.{HasOneError, HaveOneError, left_behind, one_before, untaken_before}
use Rattle.authenticode_core.specs.declared.error.AuthenticodeError.TheVariants as signatures
use Rattle.authenticode_signature.specs.Building.{part_step, part_steps, supported_step}
use Rattle.authenticode_signature.specs.declared.builder.AuthenticodeSignatureBuilder.{AuthenticodeSignatureBuilder}
use Rattle.authenticode_signature.specs.declared.builder_error.AuthenticodeSignatureBuilderError.{AuthenticodeSignatureBuilderError}
use Rattle.authenticode_signature.specs.declared.builder_error.AuthenticodeSignatureBuilderError.TheVariants as errors

given_has : {X : Type 0} (missing : AuthenticodeSignatureBuilderError) (option : Option X) → HasOneError (part_step missing option)
given_has missing option = record {
  one = λ e other a b. a.1 ∙ sym b.1;
  none = λ e taken refused. none-some taken.0 (sym refused.0 ∙ taken.1);
}

abbrev of_algorithm : HashAlgorithm → UnsupportedHashAlgorithmError
of_algorithm algorithm = record { algorithm = algorithm }

abbrev unsupported : UnsupportedHashAlgorithmError → AuthenticodeSignatureBuilderError
unsupported source = errors.AuthenticodeError (signatures.UnsupportedHashAlgorithmError source)

one_hash : (hash : Option HashAlgorithm) (e other : AuthenticodeSignatureBuilderError) → (supported_step hash).refused e
    → (supported_step hash).refused other → e ≡ other
one_hash hash e other (algorithm, is, (source, returned, (bad, named))) (algorithm', is', (source', returned', (bad', named'))) =
    returned ∙ ap unsupported (ap of_algorithm (named ∙ bad ∙ sym bad' ∙ sym named')) ∙ sym returned'

no_hash : (hash : Option HashAlgorithm) (e : AuthenticodeSignatureBuilderError) → (supported_step hash).taken → (supported_step hash).refused e → ⊥
no_hash hash e taken (algorithm, is, (source, returned, (bad, named))) = taken (is ∙ ap Some bad)

have_one_error : (b : AuthenticodeSignatureBuilder) → HaveOneError (part_steps b)
have_one_error b = (
  given_has errors.MissingDigestAlgorithm b.digest_algorithm,
  (
    record { one = one_hash b.digest_algorithm; none = no_hash b.digest_algorithm },
    (
      given_has errors.MissingContentInfo b.content_info,
      (
        given_has errors.MissingSigningKey b.signing_key,
        (
          given_has errors.MissingIssuerAndSerialNumber b.named,
          (given_has errors.MissingCertificatesRequired b.certs, tt),
        ),
      ),
    ),
  ),
)

pub returned_once : (b : AuthenticodeSignatureBuilder) (e other : AuthenticodeSignatureBuilderError) → IsFirstUntaken (part_steps b) e
    → IsFirstUntaken (part_steps b) other → e ≡ other
returned_once b e other first second = one_before (part_steps b) [] e other (have_one_error b) first (untaken_before (part_steps b) [] other second)

pub not_returned : (b : AuthenticodeSignatureBuilder) (e : AuthenticodeSignatureBuilderError) → AreTaken (part_steps b) → IsFirstUntaken (part_steps b) e → ⊥
not_returned b e taken first = left_behind (part_steps b) [] e (have_one_error b) taken (untaken_before (part_steps b) [] e first)
