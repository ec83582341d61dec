-- What is written of a channel.
use Rattle.std.proofs.Common.{◌≡◌, ◌++◌, ℕ, List, [], ◌∷◌, decimal, length, append_assoc}
use Rattle.std.proofs.lemmas.List.{append-nil}
use Rattle.std.specs.List.{flat_map}
use Rattle.line21_codes.specs.Channels.{channel_name}
use Rattle.line21_codes.specs.declared.channels.Chan.{Chan}
use Rattle.line21_screen.specs.Grid.{Grid}
use Rattle.grid_print.specs.GridTexts.{grid_text, run_line}
use Rattle.grid_print.specs.Runs.{runs}

-- the text of a grid of its parts
pub grid_joined : (before name number lines : List ℕ) (chan : Chan) (grid : Grid) → name ≡ channel_name chan → number ≡ decimal (length (runs grid)) → lines ≡ flat_map run_line (runs grid)
    → before ++ (name ++ 32 ∷ (number ++ 10 ∷ [])) ++ lines ≡ before ++ grid_text chan grid
unfolding grid_text
grid_joined before name number lines chan grid is_name is_number are_lines = rw (is_name, is_number, are_lines) (simp (append_assoc, append-nil))
