-- The names and contents of files, and options, as the program stores them.
use Rattle.std.specs.Prelude.{ℕ, List, [], ◌∷◌, ◌++◌, map, Option, Some, None, option_map, string_bytes}
use Rattle.std.specs.Borrow.{Bor}
use Rattle.program_frame.specs.declared.files.Contents.{Contents}
use Rattle.program_frame.specs.declared.files.Names.{Names}
use Rattle.program_frame.specs.declared.options.CheckOption.{CheckOption as HeldOption}
use Rattle.program_frame.specs.declared.options.CheckOption.TheVariants as held_option
use Rattle.program_frame.specs.declared.options.CheckOptions.{CheckOptions as HeldOptions}
use Rattle.program_frame.specs.declared.options.ListOption.{ListOption}
use Rattle.program_frame.specs.ListOption.{AskedList}
use Rattle.program_frame.specs.Options.{CheckOption, CheckOptions, Until, NoBefore, NoAfter, NoChain, TrustList}

-- the name of a last file, if there is one
abbrev pub last_held : Option (Bor (List ℕ)) → List (List ℕ)
last_held None = []
last_held (Some name) = name.now ∷ []

-- the names of files, in order
abbrev pub names_held : Names → List (List ℕ)
names_held n = n.first.now ∷ map string_bytes n.others.now ++ last_held n.last

-- the contents of files, in order
abbrev pub contents_held : Contents → List (List ℕ)
contents_held c = c.first.items ∷ map (λ octets. octets.items) c.others.items

-- the option `--list`
abbrev pub list_held : ListOption → AskedList
list_held list = record { file = string_bytes list.file.now; seconds = list.seconds }

-- an option
abbrev pub option_held : HeldOption → CheckOption
option_held (held_option.Until date) = Until date
option_held held_option.NoBefore = NoBefore
option_held held_option.NoAfter = NoAfter
option_held held_option.NoChain = NoChain
option_held (held_option.TrustList list) = TrustList (list_held list)

-- the options that are given
abbrev pub options_held : HeldOptions → CheckOptions
options_held o = record {
  until = o.until;
  no_before = o.no_before;
  no_after = o.no_after;
  no_chain = o.no_chain;
  list = option_map list_held o.list;
}
