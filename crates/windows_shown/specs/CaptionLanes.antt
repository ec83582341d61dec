-- Between crates: the program's answer stands on none of these definitions.
-- The lane of a service's captions and of their units, which stand in their frames (CTA-708-E, DeleteWindows, DisplayWindows
-- and Delay).
use Rattle.std.specs.Prelude.{ℕ, List, ◌++◌, option_map}
use Rattle.std.specs.List.{flat_map}
use Rattle.cc_base.specs.declared.rate.Rate.{Rate}
use Rattle.dtvcc_codes.specs.declared.commands.Command.TheVariants.{Dlw, Dsw}
use Rattle.dtvcc_codes.specs.Writing.{bytes_of_command}
use Rattle.dtvcc_author.specs.declared.caption.Caption.{Caption}
use Rattle.dtvcc_author.specs.FrameEvents.{delayed_at, is_hidden_at, is_shown_at, windows_command}
use Rattle.dtvcc_author.specs.Latest.{caption_delay}
use Rattle.frame_scheduler.specs.Chunks.{ServiceChunk}
use Rattle.frame_scheduler.specs.ServiceBytes.{loads_at}
use Rattle.windows_shown.specs.ServiceLanes.{Lane}

-- the bytes that hide windows and show them in a frame, without a delay's bytes
abbrev pub plain_events : ℕ → List Caption → List ℕ
plain_events frame cs = flat_map bytes_of_command (windows_command Dlw (is_hidden_at frame) cs ++ windows_command Dsw (is_shown_at frame) cs)

-- the lane of a service's captions and of their units, which stand in these frames
abbrev pub lane_of : Rate → List Caption → List (ServiceChunk × ℕ) → Lane
lane_of rate cs placed = record {
  rate = rate;
  events = λ frame. plain_events frame cs;
  delay = λ frame. option_map caption_delay (delayed_at frame cs);
  loads = loads_at placed;
}
