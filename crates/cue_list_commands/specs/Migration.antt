-- Between crates: the program's answer stands on none of these definitions.
-- What `cues` writes of a list, in place of the list: a list of version 1 that is brought to version 2 means what it meant.
use Rattle.std.specs.Prelude.{◌≡◌, ◌≤◌, ℕ, List, length}
use Rattle.cue_lists.specs.Listing.{Listing}
use Rattle.cue_lists.specs.Printing.{in_order, list_bytes}
use Rattle.frame_carrier.specs.Planned.{Placement}
use Rattle.cc_base.specs.Streams.{whole_limit}
use Rattle.cue_list_commands.specs.Accepted.{IsAccepted}
use Rattle.cue_list_commands.specs.Output.{build_output, pairs_output}

-- what is written of a list is accepted with the same placement, and `pairs` and `build` put the same of both
pub record IsBuiltAlike (list : Listing) (placed : Placement) : Type 0 where
  pub accepted : IsAccepted (list_bytes list) (in_order list) placed
  pub pairs : pairs_output (in_order list) placed ≡ pairs_output list placed
  pub build : build_output (in_order list) placed ≡ build_output list placed

-- so it is for every list that is accepted, where what is written of it keeps to the limit of a list's bytes
abbrev pub WrittenIsBuiltAlike : Type 0
WrittenIsBuiltAlike = (bytes : List ℕ) (list : Listing) (placed : Placement) → IsAccepted bytes list placed
    → length (list_bytes list) ≤ whole_limit → IsBuiltAlike list placed
