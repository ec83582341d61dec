-- Between crates: the program's answer stands on none of these definitions.
-- What is remembered of the cues so far: the number of the last cue on each channel of line 21, of each service, and in each
-- of a service's eight windows.
use Rattle.std.specs.Prelude.{◌≡◌, ℕ, zero, suc, ◌+◌, ◌-◌, ◌*◌, ◌<◌, max, Bool, if◌then◌else◌, List, Option, Some, None, slice_get, slice_index_or, slice_set}
use Rattle.std.specs.Option.{option_and_then}
use Rattle.line21_codes.specs.declared.channels.Chan.{Chan}
use Rattle.line21_codes.specs.declared.channels.Chan.TheVariants as chan
use Rattle.cue_types.specs.declared.cue.Cue.{Cue}
use Rattle.cue_types.specs.declared.cue.WinCue.{WinCue}
use Rattle.cue_lists.specs.declared.rules.formers.Formers.{Formers}
use Rattle.cue_types.specs.declared.lane.Lane.TheVariants as lane
use Rattle.cue_lists.specs.Rules.Former.{nearest_number}
use Rattle.cue_types.specs.Channels.{uses_window}
use Rattle.cue_types.specs.Lane.{on_lane}

-- the number that is remembered of a channel
abbrev pub last_on : Formers → Chan → Option ℕ
last_on formers chan.Cc1 = formers.cc1
last_on formers chan.Cc2 = formers.cc2
last_on formers chan.Cc3 = formers.cc3
last_on formers chan.Cc4 = formers.cc4

-- the number that is remembered of a service
abbrev pub last_of : Formers → ℕ → Option ℕ
last_of formers service = slice_index_or formers.services service None

-- the number that is remembered of a service's window
abbrev pub last_in : Formers → ℕ → ℕ → Option ℕ
last_in formers service id = slice_index_or formers.windows (service * 8 + id) None

-- with the number of one more cue on a channel, or in a window
abbrev pub with_channel : Formers → Chan → ℕ → Formers
with_channel formers chan.Cc1 number = record formers { cc1 = Some number }
with_channel formers chan.Cc2 number = record formers { cc2 = Some number }
with_channel formers chan.Cc3 number = record formers { cc3 = Some number }
with_channel formers chan.Cc4 number = record formers { cc4 = Some number }

abbrev pub with_window_former : Formers → WinCue → ℕ → Formers
with_window_former formers window number = record formers {
  services = slice_set formers.services window.service (Some number);
  windows = slice_set formers.windows (window.service * 8 + window.id) (Some number);
}

-- they are the numbers of the last cues before, the newest of which is first in the list
pub record Remembers (formers : Formers) (earlier : List Cue) : Type 0 where
  pub last : (channel : Chan) → last_on formers channel ≡ nearest_number (on_lane (lane.Channel channel)) earlier
  pub services : (service : ℕ) → service < 8 → last_of formers service ≡ nearest_number (on_lane (lane.Service service)) earlier
  pub windows : (service id : ℕ) → service < 8 → id < 8
      → last_in formers service id ≡ nearest_number (λ cue. uses_window service id cue.kind) earlier

-- a number, where the cue of it passes a test
abbrev pub number_if : (Cue → Bool) → Option ℕ → Option Cue → Option ℕ
number_if test number None = None
number_if test number (Some cue) = if test cue then number else None

-- the cue of a number
abbrev pub numbered_cue : List Cue → Option ℕ → Option Cue
numbered_cue cues number = option_and_then (λ n. slice_get cues (n - 1)) number

-- the greater of two numbers, of which none may be there
abbrev pub later : Option ℕ → Option ℕ → Option ℕ
later None b = b
later (Some a) None = Some a
later (Some a) (Some b) = Some (max a b)

-- of a service's windows below an ID, the greatest number whose cue passes a test
abbrev pub last_below : (Cue → Bool) → List Cue → (ℕ → Option ℕ) → ℕ → Option ℕ
last_below test cues last_in zero = None
last_below test cues last_in (suc id) = later (last_below test cues last_in id) (number_if test (last_in id) (numbered_cue cues (last_in id)))
