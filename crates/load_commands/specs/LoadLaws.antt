-- Between crates: the program's answer stands on none of these definitions.
-- What holds of the list of every load.
use Rattle.std.specs.Prelude.{ℕ, ◌≤◌, length}
use Rattle.cc_base.specs.Streams.{whole_limit}
use Rattle.cue_form.specs.Records.{records_of}
use Rattle.cue_form.specs.Spelling.{SpellsList}
use Rattle.cue_form.specs.Printing.{list_bytes}
use Rattle.cue_types.specs.Listing.{IsFormed, Listing}
use Rattle.cue_lists.specs.Rules.{IsRuled}
use Rattle.cue_list_commands.specs.Planned.{IsListPlaced, Placement}
use Rattle.load_commands.specs.LoadList.{load_list, most_load}

-- it is in its form
abbrev pub LoadsAreFormed : Type 0
LoadsAreFormed = (count : ℕ) → 1 ≤ count → count ≤ most_load → IsFormed (load_list count)

-- it keeps the rules
abbrev pub LoadsAreRuled : Type 0
LoadsAreRuled = (count : ℕ) → IsRuled (load_list count)

-- what is written of a list is within the limit of a list's bytes, and spells it
pub record IsListWritten (list : Listing) : Type 0 where
  pub within : length (list_bytes list) ≤ whole_limit
  pub spelled : SpellsList (records_of (list_bytes list)) list

-- so is what is written of the list of a load
abbrev pub LoadsAreWritten : Type 0
LoadsAreWritten = (count : ℕ) → 1 ≤ count → count ≤ most_load → IsListWritten (load_list count)

-- it has room: the units of each lane have their earliest placement
abbrev pub LoadsArePlaced : Type 0
LoadsArePlaced = (count : ℕ) → 1 ≤ count → count ≤ most_load → (placed : Placement) × IsListPlaced (load_list count) placed
