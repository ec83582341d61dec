-- Between crates: the program's answer stands on none of these definitions.
-- What holds of roll-up captions after every list of pairs (CTA-608-E, roll-up captions).
use Rattle.std.specs.Prelude.{⊤}
use Rattle.line21_screen.specs.declared.modes.Mode.{Mode}
use Rattle.line21_screen.specs.declared.modes.Mode.TheVariants.{RollUp}
use Rattle.line21_screen.specs.Windows.{IsWithin}
use Rattle.line21_screen.specs.Channels.{ChannelState}

-- in a mode of roll-up captions, no displayed cell stands outside of the window
abbrev pub IsWindowed : Mode → ChannelState → Type 0
IsWindowed (RollUp rows) s = IsWithin s.displayed rows s.base
IsWindowed _ s = ⊤

-- the same in the channel's own mode
abbrev pub IsInWindow : ChannelState → Type 0
IsInWindow s = IsWindowed s.mode s
