-- Believed in part: the program's answer stands on some of these definitions.
-- The events of a service: what it is sent in a frame to hide and to show its captions (CTA-708-E, DeleteWindows,
-- DisplayWindows, Delay).
use Rattle.std.specs.Prelude.{ℕ, ◌+◌, ◌==◌, ◌&&◌, ◌||◌, not, Bool, if◌then◌else◌, List, [], ◌∷◌, ◌++◌, Option, Some, None, find, option_map}
use Rattle.std.specs.List.{flat_map, list_any}
use Rattle.dtvcc_codes.specs.declared.commands.Command.{Command}
use Rattle.dtvcc_codes.specs.declared.commands.Command.TheVariants.{Dlw, Dly, Dsw}
use Rattle.dtvcc_codes.specs.Writing.{bit, bytes_of_command}
use Rattle.dtvcc_author.specs.declared.caption.Caption.{Caption}

-- the caption is hidden in the frame
abbrev pub is_hidden_at : ℕ → Caption → Bool
is_hidden_at frame c = c.hide == frame

-- it is shown there, and has no delay
abbrev pub is_shown_at : ℕ → Caption → Bool
is_shown_at frame c = (c.tenths == 0) && (c.starts == frame)

-- its delay starts there
abbrev pub is_delayed_at : ℕ → Caption → Bool
is_delayed_at frame c = not (c.tenths == 0) && (c.starts == frame)

-- it has an event there: it is hidden, or what shows it is sent
abbrev pub has_event_at : ℕ → Caption → Bool
has_event_at frame c = (c.hide == frame) || (c.starts == frame)

-- a byte of windows: bit n is set where window n is named
abbrev pub windows_byte : (ℕ → Bool) → ℕ
windows_byte is_named =
    bit (is_named 0) 1 + bit (is_named 1) 2 + bit (is_named 2) 4 + bit (is_named 3) 8
    + bit (is_named 4) 16 + bit (is_named 5) 32 + bit (is_named 6) 64 + bit (is_named 7) 128

-- some caption of which the test holds is in this window
abbrev pub names : (Caption → Bool) → List Caption → ℕ → Bool
names test cs id = list_any (λ c. test c && (c.id == id)) cs

-- one command for the windows of all captions of which the test holds, if there are some
abbrev pub windows_command : (ℕ → Command) → (Caption → Bool) → List Caption → List Command
windows_command command test cs =
    if list_any test cs
    then command (windows_byte (λ id. list_any (λ c. test c && (c.id == id)) cs)) ∷ []
    else []

-- a delay, and after it, to be held, what shows the caption's window alone
abbrev pub delay_commands : Option Caption → List Command
delay_commands None = []
delay_commands (Some c) = Dly c.tenths ∷ Dsw (windows_byte (λ id. c.id == id)) ∷ []

-- the caption whose delay starts in the frame
abbrev pub delayed_at : ℕ → List Caption → Option Caption
delayed_at frame cs = find (λ c. not (c.tenths == 0) && (c.starts == frame)) cs

-- the events of a frame: one DeleteWindows for all captions that are hidden there, then one DisplayWindows for all that are
-- shown there without a delay, then the delay that starts there
abbrev pub event_commands : ℕ → List Caption → List Command
event_commands frame cs =
    windows_command Dlw (λ c. c.hide == frame) cs
    ++ windows_command Dsw (λ c. (c.tenths == 0) && (c.starts == frame)) cs
    ++ delay_commands (delayed_at frame cs)

-- their bytes
abbrev pub event_bytes : ℕ → List Caption → List ℕ
event_bytes frame cs = flat_map bytes_of_command (event_commands frame cs)

-- the frame in which the delay ends that starts in the frame, if one starts there
abbrev pub delay_end : List Caption → ℕ → Option ℕ
delay_end cs frame = option_map (λ c. c.show) (delayed_at frame cs)
