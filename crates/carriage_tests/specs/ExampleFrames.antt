-- Between crates: the program's answer stands on none of these definitions.
-- Frames for the worked examples.
use Rattle.std.specs.Prelude.{ℕ, List, [], ◌∷◌}
use Rattle.cc_base.specs.declared.rate.Rate.TheVariants as rate
use Rattle.cdp_packets.specs.Packets.{Frame}

-- a frame at 29.97 frames a second that carries two triplets, of these bytes
abbrev pub example_frame : List ℕ → Frame
example_frame bytes = record { rate = rate.F2997; flags = 0x43; counter = 0; sections = (0x72 ∷ 0xE2 ∷ bytes) ∷ [] }
