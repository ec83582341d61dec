-- Between crates: the program's answer stands on none of these definitions.
-- That what a receiver shows of the services is what a cue list authors (CTA-708-E, caption windows).
use Rattle.std.specs.Prelude.{◌≡◌, ℕ, suc, ◌<◌, List, take}
use Rattle.line21_shown.specs.AuthoredServiceGrid.{authored_windows}
use Rattle.cc_receiver.specs.ReceivedServices.{received_windows}
use Rattle.cdp_packets.specs.Packets.{Frame}
use Rattle.cue_types.specs.declared.cue.Cue.{Cue}
use Rattle.cc_receiver.specs.Numbers.{IsService}

-- at a frame each service shows the authored windows, to a receiver that gets the frames up to this one
abbrev pub ShowAuthoredWindows : List Cue → List Frame → ℕ → Type 0
ShowAuthoredWindows cues frames frame = (service id : ℕ) → IsService service → id < 8
    → received_windows (take (suc frame) frames) service id ≡ authored_windows service cues frame id
