-- Public keys and their kinds.
use Rattle.key_types.specs.declared.key_kind.KeyKind.{KeyKind}
use Rattle.key_types.specs.declared.key_kind.KeyKind.TheVariants as kinds
use Rattle.key_types.specs.declared.subject_key.SubjectKey.{SubjectKey}
use Rattle.key_types.specs.declared.subject_key.SubjectKey.TheVariants as keys

-- the kind of a key
abbrev pub kind_of_key : SubjectKey → KeyKind
kind_of_key (keys.Rsa key) = kinds.Rsa
kind_of_key (keys.Ec bits) = kinds.Ec
kind_of_key (keys.Ed bits) = kinds.Ed
kind_of_key (keys.Mldsa bits) = kinds.Mldsa
