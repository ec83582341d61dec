-- Between crates: the program's answer stands on none of these definitions.
-- What the laws say of a service.
use Rattle.std.specs.Prelude.{◌≡◌, ℕ, Bool, true, false, List, [], ◌∷◌, ⊤, Option, Some, None}
use Rattle.dtvcc_codes.specs.declared.commands.Command.{Command}
use Rattle.dtvcc_codes.specs.declared.commands.Command.TheVariants.{Put, Bs, Ff, Cr, Hcr, Spa, Spc, Spl, Swa}
use Rattle.dtvcc_codes.specs.Reading.{completed, open_after}
use Rattle.dtvcc_screen.specs.Commands.{on_screen}
use Rattle.dtvcc_screen.specs.Cores.{is_reset}
use Rattle.dtvcc_screen.specs.Meaning.{Event, Tick, Byte, Reset}
use Rattle.dtvcc_screen.specs.Screens.{ScreenState}
use Rattle.dtvcc_screen.specs.Shown.{grids}

-- the command that a byte completed, if it completed one, acts on the screen
abbrev pub on_screen_if : Option Command → ScreenState → ScreenState
on_screen_if None s = s
on_screen_if (Some command) s = on_screen command s

-- all act in order, as if there were no delays
abbrev pub on_screen_all : List (Option Command) → ScreenState → ScreenState
on_screen_all [] s = s
on_screen_all (first ∷ rest) s = on_screen_all rest (on_screen_if first s)

-- the bytes among events
abbrev pub bytes_among : List Event → List ℕ
bytes_among [] = []
bytes_among (Tick rate ∷ events) = bytes_among events
bytes_among (Byte byte ∷ events) = byte ∷ bytes_among events
bytes_among (Reset ∷ events) = bytes_among events

-- after these open bytes, nothing among the events resets the service
abbrev pub HasNoReset : List ℕ → List Event → Type 0
HasNoReset open_bytes [] = ⊤
HasNoReset open_bytes (Tick rate ∷ events) = HasNoReset open_bytes events
HasNoReset open_bytes (Byte byte ∷ events) =
    (is_reset (completed open_bytes byte) ≡ false) × HasNoReset (open_after open_bytes byte) events
HasNoReset open_bytes (Reset ∷ events) = ⊥

-- a command of text: its character, code or pen goes to the current window
abbrev pub is_text : Command → Bool
is_text (Put ch) = true
is_text Bs = true
is_text Ff = true
is_text Cr = true
is_text Hcr = true
is_text (Spa pen) = true
is_text (Spc colors) = true
is_text (Spl row col) = true
is_text (Swa attributes) = true
is_text _ = false

-- nothing is seen of the current window
abbrev pub IsCurrentHidden : ScreenState → Type 0
IsCurrentHidden s = (id : ℕ) → s.current ≡ Some id → grids s id ≡ None
