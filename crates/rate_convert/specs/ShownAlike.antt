-- Between crates: the program's answer stands on none of these definitions.
-- What a receiver shows after frames that are cut in halves: what it shows after the whole frames.
use Rattle.std.specs.Prelude.{◌≡◌, ℕ, List, []}
use Rattle.cc_receiver.specs.ReceivedServices.{received_windows}
use Rattle.cdp_packets.specs.Packets.{Frame}
use Rattle.dtvcc_screen.specs.Meaning.{start}
use Rattle.line21_codes.specs.declared.channels.Chan.{Chan}
use Rattle.services_files.specs.Events.{service_events}
use Rattle.words_files.specs.Received.{received_grids}
use Rattle.rate_convert.specs.GoodStreams.{IsGoodStream}
use Rattle.rate_convert.specs.HalvedFrames.{AllHalves}
use Rattle.rate_convert.specs.HalvedServices.{AreGood}
use Rattle.rate_convert.specs.UndelayedServices.{AreUndelayed}

-- the grids of line 21 always, and the windows of a service that gets no delay
pub record ShowTheSame (frames others : List Frame) : Type 0 where
  pub grids : (chan : Chan) → received_grids others chan ≡ received_grids frames chan
  pub windows : (service id : ℕ) → AreUndelayed start (service_events service frames) → received_windows others service id ≡ received_windows frames service id

abbrev pub HalvesShowTheSame : Type 0
HalvesShowTheSame = (frames others : List Frame) → AllHalves frames others → ShowTheSame frames others

-- the windows of a service with delays, each of which lasts twice as many frames at twice the rate, whose bytes neither reset nor cancel and
-- never fill its buffer
abbrev pub DelayedHalvesShowTheSame : Type 0
DelayedHalvesShowTheSame = (frames others : List Frame) → AllHalves frames others → (service id : ℕ)
    → IsGoodStream [] (service_events service frames) → AreGood start (service_events service frames)
    → received_windows others service id ≡ received_windows frames service id
