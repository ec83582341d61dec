-- Between crates: the program's answer stands on none of these definitions.
-- Worked examples: captions of CC1 of which one frame is lost, and the screens that follow the loss, each written out by hand from the
-- tables of line 21 (CTA-608-E; 47 CFR 79.101).
use Rattle.std.specs.Prelude.{◌≡◌, ℕ, ◌+◌, List, [], ◌∷◌, ◌++◌, Option, None, Some, drop, reverse, take}
use Rattle.line21_codes.specs.declared.channels.Chan.TheVariants.{Cc1}
use Rattle.line21_codes.specs.declared.channels.FieldNumber.TheVariants.{One}
use Rattle.line21_codes.specs.declared.pairs.Pair.{Pair}
use Rattle.line21_codes.specs.declared.styles.Cell.{Cell}
use Rattle.line21_codes.specs.declared.styles.Colour.TheVariants.{White}
use Rattle.cue_lists.specs.AuthoredGrid.{Picture, authored_grid}
use Rattle.cue_lists.specs.Rules.Examples.{example_cue, example_run}
use Rattle.cue_lists.specs.declared.cue.Cue.{Cue}
use Rattle.cue_lists.specs.declared.cue.Kind.TheVariants.{Pop, Roll}
use Rattle.line21_screen.specs.Meaning.{after}
use Rattle.line21_shown.specs.Examples.{Example, pair, picture_rows, twice}

-- what the receiver of field 1 displays at a frame, by the pairs from after a lost frame up to the frame's
abbrev pub displayed_behind : List Pair → ℕ → ℕ → Picture
displayed_behind pairs lost frame = (after One (reverse (drop (lost + 1) (take (frame + 1) pairs)))).first.displayed

-- the pairs after the lost frame display the screen at a frame
abbrev pub ShowsBehind : Example → ℕ → ℕ → List (List (Option Cell)) → Type 0
ShowsBehind example lost frame screen = picture_rows (displayed_behind example.pairs lost frame) ≡ screen

-- and it is authored for the frame
pub record ShowsAgain (example : Example) (lost frame : ℕ) (screen : List (List (Option Cell))) : Type 0 where
  pub authored : picture_rows (authored_grid Cc1 example.cues frame) ≡ screen
  pub displayed : ShowsBehind example lost frame screen

-- two pop-on cues of a white letter in row 15: A from frame 8 on, and B, which is loaded from frame 10 on, from 18 up to 20
abbrev pub letter_a : Cue
letter_a = example_cue (Pop Cc1) 0 8 None (example_run White 15 0 (65 ∷ []) ∷ [])

abbrev pub letter_b : Cue
letter_b = example_cue (Pop Cc1) 10 18 (Some 20) (example_run White 15 0 (66 ∷ []) ∷ [])

-- the last of the roll-up cues of two rows, which continues the one before it
abbrev pub letter_c : Cue
letter_c = example_cue (Roll Cc1 2) 16 23 (Some 25) (example_run White 11 0 (67 ∷ []) ∷ [])

abbrev pub two_letters : Example
two_letters = record {
  cues = letter_a ∷ letter_b ∷ [];
  placed = 0 ∷ 2 ∷ 4 ∷ 6 ∷ 10 ∷ 12 ∷ 14 ∷ 16 ∷ [];
  frames = 23;
  pairs =
      -- frame 0: resume caption loading, erase non-displayed memory, row 15 in white at column 0, A, nothing
      twice 0x94 0x20 ++ twice 0x94 0xAE ++ twice 0x94 0x70 ++ pair 0xC1 0x80 ∷ pair 0x80 0x80
      -- frame 8: end of caption
      ∷ twice 0x94 0x2F
      -- frame 10: the same with B
      ++ twice 0x94 0x20 ++ twice 0x94 0xAE ++ twice 0x94 0x70 ++ pair 0xC2 0x80 ∷ pair 0x80 0x80
      -- frame 18: end of caption, erase displayed memory, nothing
      ∷ twice 0x94 0x2F ++ twice 0x94 0x2C ++ pair 0x80 0x80 ∷ [];
}
