-- Between crates: the program's answer stands on none of these definitions.
-- What is left of a delay's budget, and what the receiver holds then (CTA-708-E, Delay).
use Rattle.std.specs.Prelude.{ℕ, ◌-◌, nat_le, if◌then◌else◌, List, [], ◌∷◌}

-- the most bytes that a receiver holds in a delay: the 128th ends it
abbrev pub most_held : ℕ
most_held = 127

-- the bytes of the DisplayWindows command that a delay puts off
abbrev pub shown_bytes : ℕ
shown_bytes = 2

-- the most bytes of loads beside them
abbrev pub most_loads : ℕ
most_loads = most_held - shown_bytes

-- the number of bytes that are held, where this many are left
abbrev pub held_behind : ℕ → ℕ
held_behind left = most_held - left

-- of pieces of this many bytes, in turn, those for which enough is left
abbrev pub granted : ℕ → List ℕ → List ℕ
granted left [] = []
granted left (bytes ∷ pieces) = if nat_le bytes left then bytes ∷ granted (left - bytes) pieces else granted left pieces

-- what is left after the pieces
abbrev pub left_behind : ℕ → List ℕ → ℕ
left_behind left [] = left
left_behind left (bytes ∷ pieces) = if nat_le bytes left then left_behind (left - bytes) pieces else left_behind left pieces
