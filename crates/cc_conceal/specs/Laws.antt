-- Between crates: the program's answer stands on none of these definitions.
-- What the laws say of concealed frames.
use Rattle.std.specs.Prelude.{◌≡◌, ⊤, ℕ, true, false, List, [], ◌∷◌, ◌++◌, All}
use Rattle.line21_codes.specs.declared.channels.Chan.{Chan}
use Rattle.line21_codes.specs.declared.channels.FieldNumber.{FieldNumber}
use Rattle.line21_codes.specs.declared.pairs.Pair.{Pair}
use Rattle.line21_codes.specs.Parity.{has_odd_parity}
use Rattle.cdp_packets.specs.Packets.{Frame}
use Rattle.words_files.specs.Received.{received_grids, received_pairs}
use Rattle.cc_receiver.specs.ReceivedServices.{received_windows}
use Rattle.cc_conceal.specs.Concealed.{concealed_grids, concealed_windows, goes_on, heard_of}

-- no counter jumps
abbrev pub GoOn : List Frame → Type 0
GoOn [] = ⊤
GoOn (frame ∷ []) = ⊤
GoOn (frame ∷ (next ∷ frames)) = (goes_on frame next ≡ true) × GoOn (next ∷ frames)

-- the counter jumps between frames and those after them, where there are both
abbrev pub JumpsBetween : List Frame → List Frame → Type 0
JumpsBetween before behind = (earlier : List Frame) (former next : Frame) (later : List Frame) → before ≡ earlier ++ former ∷ [] → behind ≡ next ∷ later
    → goes_on former next ≡ false

-- of frames the last one is heard, and those before it from the last jump on: no counter jumps among these, and it jumps in front of them
abbrev pub HeardSinceTheJump : Type 0
HeardSinceTheJump = (frames : List Frame) (last : Frame) → (forgotten : List Frame) × ((heard : List Frame)
    × (heard_of (frames ++ last ∷ []) ≡ heard ++ last ∷ []) × (frames ≡ forgotten ++ heard)
    × GoOn (heard ++ last ∷ []) × JumpsBetween forgotten (heard ++ last ∷ []))

-- where no counter jumps and no pair has bad parity, what is shown is what a receiver shows
abbrev pub WholeIsReceived : Type 0
WholeIsReceived = (frames : List Frame) → GoOn frames → ((in_field : FieldNumber) → All (λ (pair : Pair). has_odd_parity pair ≡ true) (received_pairs in_field frames))
    → ((chan : Chan) → concealed_grids frames chan ≡ received_grids frames chan) × ((service id : ℕ) → concealed_windows frames service id ≡ received_windows frames service id)
