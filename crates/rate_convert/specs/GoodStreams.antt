-- Between crates: the program's answer stands on none of these definitions.
-- Bytes and ticks of which each byte completes something good, whatever the service makes of them.
use Rattle.std.specs.Prelude.{⊤, ℕ, List, [], ◌∷◌}
use Rattle.dtvcc_codes.specs.Reading.{completed, open_after}
use Rattle.dtvcc_screen.specs.Meaning.{Byte, Event, Reset, Tick}
use Rattle.rate_convert.specs.HalvedServices.{IsGood}

-- the bytes that begin a command are open
abbrev pub IsGoodStream : List ℕ → List Event → Type 0
IsGoodStream front [] = ⊤
IsGoodStream front (Tick rate ∷ events) = IsGoodStream front events
IsGoodStream front (Byte byte ∷ events) = IsGood (completed front byte) × IsGoodStream (open_after front byte) events
IsGoodStream front (Reset ∷ events) = ⊥
