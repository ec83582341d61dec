-- Believed: the program's answer stands on these definitions.
-- A service that delays what it is sent (CTA-708-E, Delay, DelayCancel and Reset; what counts as held, and the cut of the
-- bytes into commands all the while, are this project's own choice).
use Rattle.std.specs.Prelude.{ℕ, ◌+◌, ◌==◌, Bool, true, false, if◌then◌else◌, List, [], ◌∷◌, ◌++◌, length, Option, Some, None}
use Rattle.cc_base.specs.Rate.{delay_frames_of}
use Rattle.dtvcc_codes.specs.declared.commands.Command.{Command}
use Rattle.dtvcc_codes.specs.declared.commands.Command.TheVariants.{Dly, Dlc, Rst}
use Rattle.dtvcc_codes.specs.Reading.{completed, open_after}
use Rattle.dtvcc_screen.specs.declared.clock.Clock.{Clock}
use Rattle.dtvcc_screen.specs.Commands.{on_screen}
use Rattle.dtvcc_screen.specs.Screens.{ScreenState, empty_screen}

-- the screen; the bytes of the unfinished command; in a delay, the frame that ends it; and what is held: of each byte the
-- command that it completed when it came, or none
pub record CoreState : Type 0 where
  pub screen : ScreenState
  pub open_bytes : List ℕ
  pub until : Option ℕ
  pub held : List (Option Command)

-- a service before its first byte, and after a reset
abbrev pub clean : CoreState
clean = record { screen = empty_screen; open_bytes = []; until = None; held = [] }

-- Reset was completed
abbrev pub is_reset : Option Command → Bool
is_reset None = false
is_reset (Some Rst) = true
is_reset (Some _) = false

-- DelayCancel was completed
abbrev pub is_cancel : Option Command → Bool
is_cancel None = false
is_cancel (Some Dlc) = true
is_cancel (Some _) = false

-- the tenths of a second for which a command puts off what follows it: Delay's, and no other's
abbrev pub tenths_of : Command → ℕ
tenths_of (Dly tenths) = tenths
tenths_of _ = 0

-- a delay ends this many frames after the frame in which it acts, at the rate of that frame; one of 0 is none
abbrev pub until_of : ℕ → Clock → Option ℕ → Option ℕ
until_of tenths clock until = if tenths == 0 then until else Some (clock.ticks + delay_frames_of clock.rate tenths)

-- a command acts
abbrev pub core_acted : Command → Clock → CoreState → CoreState
core_acted command clock core =
    record core { screen = on_screen command core.screen; until = until_of (tenths_of command) clock core.until }

abbrev pub acted_if : Option Command → Clock → CoreState → CoreState
acted_if None clock core = core
acted_if (Some command) clock core = core_acted command clock core

-- the rest acts too; but in a delay it is held
abbrev pub go_on : Option ℕ → List (Option Command) → CoreState → CoreState → CoreState
go_on None rest core all = all
go_on (Some end) rest core all = record core { held = rest }

-- what was held acts in order; a delay that starts there holds all that follows it
abbrev pub all_acted : List (Option Command) → Clock → CoreState → CoreState
all_acted [] clock core = core
all_acted (first ∷ rest) clock core =
    let next = acted_if first clock core in go_on next.until rest next (all_acted rest clock next)

-- a delay ends
abbrev pub released : Clock → CoreState → CoreState
released clock core = all_acted core.held clock (record core { until = None; held = [] })

-- a byte is held, and the one that brings them to 128 ends the delay
abbrev pub held_more : Option Command → Clock → CoreState → CoreState
held_more completion clock core =
    let next = record core { held = core.held ++ completion ∷ [] } in
    if length next.held == 128 then released clock next else next

-- outside of a delay what a byte completed acts; in one DelayCancel ends it, and any other byte is held
abbrev pub arrived_in : Option ℕ → Option Command → Clock → CoreState → CoreState
arrived_in None completion clock core = acted_if completion clock core
arrived_in (Some end) completion clock core = if is_cancel completion then released clock core else held_more completion clock core

-- Reset acts at once, in a delay too
abbrev pub arrived : Option Command → Clock → CoreState → CoreState
arrived completion clock core = if is_reset completion then clean else arrived_in core.until completion clock core

-- a byte comes
abbrev pub after_byte : ℕ → Clock → CoreState → CoreState
after_byte byte clock core =
    arrived (completed core.open_bytes byte) clock (record core { open_bytes = open_after core.open_bytes byte })

-- the delay ends in this frame
abbrev pub is_due : Option ℕ → ℕ → Bool
is_due None now = false
is_due (Some end) now = end == now

-- a frame begins, which the clock counts already
abbrev pub after_tick : Clock → CoreState → CoreState
after_tick clock core = if is_due core.until clock.ticks then released clock core else core

-- the number of held bytes at the moment in which a byte is held, itself counted and before a full buffer ends the delay;
-- 0 where it isn't held
abbrev pub fill_in : Option ℕ → Option Command → List (Option Command) → ℕ
fill_in None completion held = 0
fill_in (Some end) completion held = if is_reset completion then 0 else if is_cancel completion then 0 else length held + 1

abbrev pub fill : ℕ → CoreState → ℕ
fill byte core = fill_in core.until (completed core.open_bytes byte) core.held
