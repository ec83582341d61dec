-- Between crates: the program's answer stands on none of these definitions.
-- From the words that `build` puts of a cue list at 29.97 to their conversion: they have no misfit.
use Rattle.std.specs.Prelude.{◌≤◌, ℕ, List, length}
use Rattle.cdp_packets.specs.Packets.{Frame}
use Rattle.converted_lists.specs.ConvertedLists.{HasShortDelays}
use Rattle.cue_lists.specs.Listing.{Listing}
use Rattle.cue_list_commands.specs.Planned.{Placement}
use Rattle.convert_commands.specs.Misfits.{AreFit}
use Rattle.services_files.specs.CaptionChannel.{caption_channel}
use Rattle.words_files.specs.Offences.{IsFileUnder}
use Rattle.cue_list_commands.specs.Accepted.{IsAccepted}
use Rattle.cue_list_commands.specs.Output.{build_output}
use Rattle.convert_commands.specs.Causes.{words_limit}

-- the bytes are a words file within the limit, none of whose frames has a misfit
pub record AreFitWords (bytes : List ℕ) : Type 0 where
  pub frames : List Frame
  pub file : IsFileUnder caption_channel frames bytes
  pub within : length bytes ≤ words_limit
  pub fit : AreFit frames

-- so are the words that `build` puts of an accepted list at 29.97 whose delays have at most 166 tenths
abbrev pub BuiltWordsAreFit : Type 0
BuiltWordsAreFit = (bytes : List ℕ) (list : Listing) (placed : Placement) → IsAccepted bytes list placed → HasShortDelays list → AreFitWords (build_output list placed)
