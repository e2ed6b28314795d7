use Rattle.authenticode_signature.proofs.BuilderSteps.{are_taken, has_given, no_certificates_given, no_key_given, no_name_given}
use Rattle.authenticode_signature.proofs.builder.AuthenticodeSignatureBuilder.given.Goals as goal

pub returns-in_default-signing_key : goal.returns-in_default-signing_key
returns-in_default-signing_key c = no_key_given c.args.self.now c.in-Some.content c.in_ok-hash.ensures.2 c.in-Some.is c.in_default-signing_key.is

pub returns-in_default-named : goal.returns-in_default-named
returns-in_default-named c =
    no_name_given c.args.self.now c.in-Some.content c.in-Some-signing_key.key c.in_ok-hash.ensures.2 c.in-Some.is c.in-Some-signing_key.is c.in_default-named.is

pub returns-in_default-certs : goal.returns-in_default-certs
returns-in_default-certs c =
    no_certificates_given c.args.self.now c.in-Some.content c.in-Some-signing_key.key c.in-Some-named.named c.in_ok-hash.ensures.2 c.in-Some.is
    c.in-Some-signing_key.is c.in-Some-named.is c.in_default-certs.is

pub returns : goal.returns
returns c =
    let known = c.in_ok-hash.ensures in (
      has_given c.args.self.now c.in_ok-hash.hash c.in_ok-hash.algorithm c.in-Some.content c.in-Some-signing_key.key c.in-Some-named.named
          c.in-Some-certs.certificates c.deref.result.now known.0 known.1 c.in-Some.is c.in-Some-signing_key.is c.in-Some-named.is
          c.in-Some-certs.is c.deref.ensures.value,
      are_taken c.args.self.now c.in-Some.content c.in-Some-signing_key.key c.in-Some-named.named c.in-Some-certs.certificates known.2 c.in-Some.is
          c.in-Some-signing_key.is c.in-Some-named.is c.in-Some-certs.is,
      known.1,
    )
