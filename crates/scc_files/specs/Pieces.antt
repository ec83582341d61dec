-- Between crates: the program's answer stands on none of these definitions.
-- What a writer puts of pairs, one after another, and where that leads.
use Rattle.std.specs.Prelude.{ℕ, Bool, List, [], ◌∷◌, ◌++◌, None}
use Rattle.line21_codes.specs.declared.pairs.Pair.{Pair}
use Rattle.scc_files.specs.Writing.{Standing, end_text, piece_of, stand_behind}

-- where a writer begins
abbrev pub standing_first : ℕ → Bool → Standing
standing_first start drop_frame = record { start = start; drop_frame = drop_frame; behind = None }

-- the text that is written of pairs
abbrev pub pieces : Standing → List (ℕ × Pair) → List ℕ
pieces w [] = []
pieces w (placed ∷ pairs) = piece_of w placed.0 placed.1 ++ pieces (stand_behind w placed.0 placed.1) pairs

-- where a writer stands after them
abbrev pub stand_after : Standing → List (ℕ × Pair) → Standing
stand_after w [] = w
stand_after w (placed ∷ pairs) = stand_after (stand_behind w placed.0 placed.1) pairs

-- the text that is written of them and of the file's end
abbrev pub text_from : Standing → List (ℕ × Pair) → List ℕ
text_from w [] = end_text w.behind
text_from w (placed ∷ pairs) = piece_of w placed.0 placed.1 ++ text_from (stand_behind w placed.0 placed.1) pairs
