-- A refusal of a part is a refusal of the whole.
use Rattle.der_core.specs.declared.error.DerError.{DerError}
use Rattle.der_core.specs.declared.error.DerError.TheVariants as errors
use Rattle.der_core.specs.Writing.{RefusesLong}

pub RefusesLong-whole : {part whole : Type 0} → (whole → part) → (e : DerError) → RefusesLong part e → RefusesLong whole e
RefusesLong-whole f errors.TooLong h = λ w. h (f w)
RefusesLong-whole f errors.Memory h = tt
RefusesLong-whole f errors.TooDeep h = absurd h
RefusesLong-whole f (errors.Malformed malformed) h = absurd h
RefusesLong-whole f errors.Shape h = absurd h
