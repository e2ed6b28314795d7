-- Optional fields with several values.
use Rattle.std.proofs.Common.{◌≡◌, ℕ, List, Option, Some, None, refl, ap}
use Rattle.std.specs.Option.{option_map}
use Rattle.der_core.specs.DerElement.{DerElement}
use Rattle.der_core.specs.Each.{IsListOf, list_element, Prints}
use Rattle.der_core.specs.Facts.Lists.{printed_list, list_printed}
use Rattle.der_core.specs.Optional.{SpellsOption}

pub list_option_printed : {X : Type 0} (written : X → DerElement) (tag : ℕ) (o : Option DerElement) (v : Option (List X))
    → o ≡ option_map (list_element tag written) v → SpellsOption (IsListOf tag (Prints written)) o v
list_option_printed written tag None None is = tt
list_option_printed written tag None (Some v) is = absurd cc
list_option_printed written tag (Some e) None is = absurd cc
list_option_printed written tag (Some e) (Some v) is = let same : e ≡ list_element tag written v = cc in list_printed written tag e v same

pub printed_list_option : {X : Type 0} (written : X → DerElement) (tag : ℕ) (o : Option DerElement) (v : Option (List X))
    → SpellsOption (IsListOf tag (Prints written)) o v → o ≡ option_map (list_element tag written) v
printed_list_option written tag None None is = refl
printed_list_option written tag None (Some v) is = absurd is
printed_list_option written tag (Some e) None is = absurd is
printed_list_option written tag (Some e) (Some v) is = ap Some (printed_list written tag e v is)
