-- Between crates: the program's answer stands on none of these definitions.
-- Steps on the way from an input to a programme: its bytes are judged as a list.
use Rattle.std.specs.Prelude.{ℕ, List, Option, Result}
use Rattle.cue_lists.specs.Listing.{Listing}
use Rattle.cue_lists.specs.declared.fault.CueFault.{CueFault}
use Rattle.cue_lists.specs.declared.fault.CueFault.TheVariants as fault
use Rattle.frame_carrier.specs.Frames.{GivesFrom, frames_left}
use Rattle.frame_carrier.specs.Plan.{Plan}
use Rattle.frame_carrier.specs.declared.programme.Programme.{Programme}
use Rattle.cue_list_commands.specs.Made.{IsProgrammeOf as IsProgrammeMade}
use Rattle.cue_list_commands.specs.Output.{IsPlacedAs, framing_of}
use Rattle.cue_list_commands.specs.Accepted.{IsGoodList, IsRefused, IsRefusedList}
use Rattle.command_base.specs.WholeInput.{ReadsInput}
use Rattle.command_base.specs.declared.status.Place.TheVariants.{Field}
use Rattle.command_base.specs.declared.status.Status.{Status}
use Rattle.command_base.specs.declared.status.Status.TheVariants as status

-- the status of a list whose form is at fault
abbrev pub form_status : CueFault → Status
form_status (fault.Memory error) = status.Memory
form_status (fault.Limit which) = status.Limit which
form_status (fault.Malformed rec field why) = status.Malformed (Field rec field) why

-- the programme is the accepted list's
abbrev pub IsProgrammeOf : List ℕ → Programme Plan → Type 0
IsProgrammeOf bytes programme = IsProgrammeMade IsPlacedAs framing_of frames_left GivesFrom bytes programme

-- an input gives the programme of its list, or is refused
abbrev pub ReadsProgramme : Option (List ℕ) → Option (List ℕ) → ℕ → ℕ → Result (Programme Plan) Status → Type 0
ReadsProgramme old new before now result = ReadsInput IsProgrammeOf IsRefused old new before now result

-- an input gives its list, or is refused
abbrev pub ReadsList : Option (List ℕ) → Option (List ℕ) → ℕ → ℕ → Result Listing Status → Type 0
ReadsList old new before now result = ReadsInput IsGoodList IsRefusedList old new before now result
