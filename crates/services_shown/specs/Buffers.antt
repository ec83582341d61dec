-- Believed: the program's answer stands on these definitions.
-- That no service's buffer is ever filled by the frames of words (CTA-708-E, Delay: a receiver holds what comes in a delay, and
-- a full buffer ends it).
use Rattle.std.specs.Prelude.{ℕ, List}
use Rattle.cdp_packets.specs.Packets.{Frame}
use Rattle.dtvcc_screen.specs.Meaning.{start}
use Rattle.cc_receiver.specs.Numbers.{IsService}
use Rattle.windows_shown.specs.Filling.{AllFill}
use Rattle.cc_receiver.specs.Events.{service_events}

-- at every byte of every service at most 127 bytes are held
abbrev pub BuffersNeverFill : List Frame → Type 0
BuffersNeverFill frames = (service : ℕ) → IsService service → AllFill 127 start (service_events service frames)
