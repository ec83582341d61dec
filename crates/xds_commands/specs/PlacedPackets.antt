-- Believed: the program's answer stands on these definitions.
-- Which cue lists are accepted with packets, and why another one is refused with them.
use Rattle.std.specs.Prelude.{◌≡◌, ℕ, List}
use Rattle.command_base.specs.declared.status.Status.{Status}
use Rattle.command_base.specs.declared.status.Status.TheVariants as status
use Rattle.cue_list_commands.specs.Accepted.{IsAccepted, IsRefused, SpellGoodList}
use Rattle.cue_lists.specs.Listing.{Listing}
use Rattle.cue_list_commands.specs.Planned.{Placement}
use Rattle.xds_frames.specs.XdsFrames.{HasXdsRoom}
use Rattle.xds_frames.specs.PlanAnswer.{LacksXdsRoom}
use Rattle.xds_packets.specs.Places.{PlacedCode}
use Rattle.xds_packets.specs.Sending.{Listed}

-- a placed list, packets beside its captions, and their codes in the slots of field 2
pub record PlacedPackets : Type 0 where
  pub list : Listing
  pub placed : Placement
  pub listed : List Listed
  pub codes : List PlacedCode

-- the bytes are accepted as the list of them with these packets, which all have room beside its captions, and stand there
pub record IsPlacedWith (listed : List Listed) (bytes : List ℕ) (made : PlacedPackets) : Type 0 where
  pub accepted : IsAccepted bytes made.list made.placed
  pub listed_are : made.listed ≡ listed
  pub room : HasXdsRoom made.list made.placed made.listed
  pub codes_are : made.codes ≡ room.placed

-- the bytes are refused with this status, and with no other: as a list, for want of room for its cues, or as one that keeps the rules and
-- has a placement, for want of room for packets
abbrev pub IsXdsRefusal : List Listed → List ℕ → Status → Type 0
IsXdsRefusal listed bytes (status.NoXdsRoom packet) = SpellGoodList bytes (λ list. LacksXdsRoom list listed packet)
IsXdsRefusal listed bytes answer = IsRefused bytes answer
