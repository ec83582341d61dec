-- Between crates: the program's answer stands on none of these definitions.
-- From the words that `build` puts of a cue list, and `xds` with packets, to their verifying: they are verified against that list.
use Rattle.std.specs.Prelude.{ℕ, List}
use Rattle.cue_lists.specs.Listing.{Listing}
use Rattle.cue_list_commands.specs.Planned.{Placement}
use Rattle.cue_list_commands.specs.Accepted.{IsAccepted}
use Rattle.cue_list_commands.specs.Output.{build_output}
use Rattle.cue_list_commands.specs.Framing.{words_of}
use Rattle.verify_commands.specs.Verified.{AreVerified}
use Rattle.xds_commands.specs.PacketLists.{IsGoodPackets}
use Rattle.xds_commands.specs.PlacedPackets.{IsPlacedWith, PlacedPackets}
use Rattle.xds_commands.specs.XdsWords.{xds_framing}

-- the words that `build` puts of an accepted list are verified against the list
abbrev pub BuiltWordsAreVerified : Type 0
BuiltWordsAreVerified = (bytes : List ℕ) (list : Listing) (placed : Placement) → IsAccepted bytes list placed
    → AreVerified list (build_output list placed)

-- so are those that `xds` puts of one with good packets beside whose captions they have room
abbrev pub XdsWordsAreVerified : Type 0
XdsWordsAreVerified = (text bytes : List ℕ) (made : PlacedPackets) → IsGoodPackets text made.listed → IsPlacedWith made.listed bytes made
    → AreVerified made.list (words_of (xds_framing made))
