-- The names of refusals, as a report prints them.
use Rattle.std.specs.Prelude.{ℕ, List, codes}
use Rattle.authenticode_core.specs.RefusalName.{refusal_name as check_refusal_name}
use Rattle.pe_core.specs.declared.error.PeError.{PeError}
use Rattle.pe_core.specs.declared.error.PeError.TheVariants as images
use Rattle.pe_image.specs.declared.error.PeCheckError.{PeCheckError}
use Rattle.pe_image.specs.declared.error.PeCheckError.TheVariants.{Pe, Check, Memory}

-- the name of the variant
abbrev pub image_refusal_name : PeError → List ℕ
image_refusal_name images.NotMz = codes "NotMz"
image_refusal_name images.NotPe = codes "NotPe"
image_refusal_name (images.WrongMagic got) = codes "WrongMagic"
image_refusal_name images.NoDirectory = codes "NoDirectory"
image_refusal_name images.NoTable = codes "NoTable"
image_refusal_name (images.TableOutside address size len) = codes "TableOutside"

-- the name of a refusal
abbrev pub refusal_name : PeCheckError → List ℕ
refusal_name (Pe e) = image_refusal_name e
refusal_name (Check e) = check_refusal_name e
refusal_name Memory = codes "Memory"
