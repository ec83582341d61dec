-- Believed in part: the program's answer stands on some of these definitions.
-- Why a frame can't be converted (SMPTE ST 334-2, cdp_header; CTA-708-E, cc_data()).
use Rattle.std.specs.Prelude.{◌≡◌, ◌≢◌, ℕ, ◌<◌, List, [], ◌∷◌, ◌++◌, length}
use Rattle.cc_base.specs.Rate.{rate_code}
use Rattle.cc_base.specs.declared.rate.Rate.TheVariants.{F2997}
use Rattle.cdp_packets.specs.PacketTriplets.{packet_triplets}
use Rattle.cdp_packets.specs.Packets.{Frame}
use Rattle.channel_packets.specs.ChannelPackets.{channel_triplets}
use Rattle.findings.specs.First.{IsFirstTried}
use Rattle.findings.specs.declared.misfit.Misfit.{Misfit}
use Rattle.findings.specs.declared.misfit.MisfitKind.{MisfitKind}
use Rattle.findings.specs.declared.misfit.MisfitKind.TheVariants as misfit
use Rattle.rate_convert.specs.Conversion.{IsConvertible, of_field}
use Rattle.line21_codes.specs.declared.channels.FieldNumber.TheVariants.{One, Two}
use Rattle.rate_convert.specs.Grids.{IsChanged, KeepsGrids, grid_place}

-- this holds of a frame that comes after earlier ones, with the number that was seen or the first grid that shows something else
abbrev pub Holds : List Frame → Frame → MisfitKind → Type 0
Holds earlier frame (misfit.Rate code) = (frame.rate ≢ F2997) × (code ≡ rate_code frame.rate)
Holds earlier frame (misfit.Count seen) = (seen ≢ 20) × (seen ≡ length (packet_triplets frame))
Holds earlier frame (misfit.One seen) = (1 < seen) × (seen ≡ length (of_field One (packet_triplets frame)))
Holds earlier frame (misfit.Two seen) = (1 < seen) × (seen ≡ length (of_field Two (packet_triplets frame)))
Holds earlier frame (misfit.Many seen) = (18 < seen) × (seen ≡ length (channel_triplets (packet_triplets frame)))
Holds earlier frame (misfit.Changed which) = IsFirstTried (IsChanged (earlier ++ frame ∷ [])) grid_place which

-- the order in which they are tried
abbrev pub rank : MisfitKind → ℕ
rank (misfit.Rate code) = 0
rank (misfit.Count seen) = 1
rank (misfit.One seen) = 2
rank (misfit.Two seen) = 3
rank (misfit.Many seen) = 4
rank (misfit.Changed which) = 5

-- the misfit of a frame, the first that holds, with the frame's number
abbrev pub IsMisfitAt : List Frame → Frame → Misfit → Type 0
IsMisfitAt earlier frame found = (found.frame ≡ length earlier) × IsFirstTried (Holds earlier frame) rank found.kind

-- a frame has none: it can be converted, and what is seen after it stays as it is
pub record IsFit (earlier : List Frame) (frame : Frame) : Type 0 where
  pub convertible : IsConvertible frame
  pub keeps : KeepsGrids (earlier ++ frame ∷ [])

-- so has each of frames, after those before it
abbrev pub AreFit : List Frame → Type 0
AreFit frames = (earlier : List Frame) (frame : Frame) (later : List Frame) → frames ≡ earlier ++ frame ∷ later → IsFit earlier frame

-- the last of frames has this misfit, the first of all
pub record HasMisfit (frames : List Frame) (found : Misfit) : Type 0 where
  pub earlier : List Frame
  pub last : Frame
  pub split : frames ≡ earlier ++ last ∷ []
  pub fit : AreFit earlier
  pub is : IsMisfitAt earlier last found
