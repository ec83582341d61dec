-- Believed: the program's answer stands on these definitions.
-- The columns of a plan: what each frame carries, and the pairs of a field, frame by frame.
use Rattle.std.specs.Prelude.{ℕ, zero, suc, List, [], ◌++◌, Option, option_to_list}
use Rattle.line21_codes.specs.declared.channels.FieldNumber.{FieldNumber}
use Rattle.line21_codes.specs.declared.channels.FieldNumber.TheVariants.{One, Two}
use Rattle.line21_codes.specs.declared.pairs.Pair.{Pair}
use Rattle.frame_scheduler.specs.declared.frames.FrameBytes.{FrameBytes}

-- what each frame carries
abbrev pub Columns : Type 0
Columns = ℕ → FrameBytes

-- the pair of a frame in field 1, or in field 2, where the frame has a slot of the field
abbrev pub pair_in : FieldNumber → FrameBytes → Option Pair
pair_in One frame = frame.one
pair_in Two frame = frame.two

-- the pairs of a field in the frames below n
abbrev pub first_pairs : FieldNumber → Columns → ℕ → List Pair
first_pairs in_field columns zero = []
first_pairs in_field columns (suc n) = first_pairs in_field columns n ++ option_to_list (pair_in in_field (columns n))
