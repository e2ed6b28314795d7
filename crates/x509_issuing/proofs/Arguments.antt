-- One error reports a missing argument, and none does if all are given.
use Rattle.std.proofs.Common.{◌≡◌, Bool, true, false, Option, Some, None, IsSome, refl, sym, ◌∙◌, subst}
use Rattle.der_core.specs.Steps.{IsFirstUntaken}
use Rattle.der_core.proofs.TakenSteps.{HasOneError, HaveOneError, left_behind, one_before}
use Rattle.x509_core.specs.declared.error.Arg.{Arg}
use Rattle.x509_core.specs.declared.error.Arg.TheVariants as arguments
use Rattle.x509_core.specs.declared.error.CertError.{CertError}
use Rattle.x509_issuing.specs.Building.{argument_steps, arguments_by, given_step, given_steps, subject_arguments}
use Rattle.x509_issuing.specs.declared.builder.CertificateBuilder.{CertificateBuilder}
use Rattle.x509_issuing.specs.declared.builder.IssuerInfos.{IssuerInfos}

some_or_none : {X : Type 0} (option : Option X) → IsSome option → option ≡ None → ⊥
some_or_none (Some x) some none = absurd cc
some_or_none None some none = let no : false ≡ true = some in absurd cc

pub some_of : {X : Type 0} (option : Option X) (x : X) → option ≡ Some x → IsSome option
some_of {X = X} option x is = subst (λ (o : Option X). IsSome o) (sym is) refl

argument_has : {X : Type 0} (argument : Arg) (option : Option X) → HasOneError (given_step argument option)
argument_has argument option = record {
  one = λ e other a b. a.1 ∙ sym b.1;
  none = λ e taken refused. some_or_none option taken refused.0;
}

have_one_error : (b : CertificateBuilder) → HaveOneError (given_steps b)
have_one_error b =
    (argument_has arguments.ValidFrom b.valid_from, (argument_has arguments.ValidTo b.valid_to, (argument_has arguments.IssuerInfos b.issuer_infos, tt)))

-- one error reports the dates or the issuer
pub returned_once : (b : CertificateBuilder) (e other : CertError) → IsFirstUntaken (given_steps b) e → IsFirstUntaken (argument_steps b) other → e ≡ other
returned_once b e other = one_before (given_steps b) (arguments_by b b.issuer_infos) e other (have_one_error b)

-- if the dates and the issuer are given, an argument of the subject is missing
pub subject_lacks : (b : CertificateBuilder) (issuer : IssuerInfos) (e : CertError) → IsSome b.valid_from → IsSome b.valid_to → b.issuer_infos ≡ Some issuer
    → IsFirstUntaken (argument_steps b) e → IsFirstUntaken (subject_arguments issuer.self_signed b) e
subject_lacks b issuer e from to given first =
    let some : IsSome b.issuer_infos = subst (λ (o : Option IssuerInfos). IsSome o) (sym given) refl in
    subst (λ (o : Option IssuerInfos). IsFirstUntaken (arguments_by b o) e) given
    (left_behind (given_steps b) (arguments_by b b.issuer_infos) e (have_one_error b) (from, (to, (some, tt))) first)

-- if the issuer is the subject, no argument is missing
pub nothing_asked : (own : Bool) (b : CertificateBuilder) (e : CertError) → own ≡ true → IsFirstUntaken (subject_arguments own b) e → ⊥
nothing_asked true b e is first = first
nothing_asked false b e is first = let no : false ≡ true = is in absurd cc

pub asked_of_other : (own : Bool) (b : CertificateBuilder) (e : CertError) → own ≡ false → IsFirstUntaken (subject_arguments own b) e
    → IsFirstUntaken (subject_arguments false b) e
asked_of_other true b e is first = absurd first
asked_of_other false b e is first = first
