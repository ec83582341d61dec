-- Between crates: the program's answer stands on none of these definitions.
-- Worked examples of what is authored and what is seen: short cue lists of CC1, the pairs that field 1 carries frame by
-- frame, and the screens that stand, each written out by hand from the tables of line 21 (CTA-608-E; 47 CFR 79.101).
use Rattle.std.specs.Prelude.{◌≡◌, ℕ, ◌+◌, false, List, [], ◌∷◌, ◌++◌, map, replicate, reverse, take, Option, Some, None}
use Rattle.std.specs.List.{range_with_len}
use Rattle.line21_codes.specs.declared.channels.Chan.TheVariants.{Cc1}
use Rattle.line21_codes.specs.declared.channels.FieldNumber.TheVariants.{One}
use Rattle.line21_codes.specs.declared.pairs.Pair.{Pair}
use Rattle.line21_codes.specs.declared.styles.Cell.{Cell}
use Rattle.line21_codes.specs.declared.styles.Colour.{Colour}
use Rattle.line21_codes.specs.declared.styles.Colour.TheVariants.{White, Red}
use Rattle.cue_lists.specs.AuthoredGrid.{Picture, authored_grid}
use Rattle.cue_lists.specs.Rules.Examples.{example_cue, example_run}
use Rattle.cue_lists.specs.declared.cue.Cue.{Cue}
use Rattle.cue_lists.specs.declared.cue.Kind.TheVariants.{Pop, Roll}
use Rattle.line21_screen.specs.Meaning.{after}
use Rattle.frame_scheduler.specs.CueEvents.{channel_events}
use Rattle.frame_scheduler.specs.ChannelLane.{channel_chunks}
use Rattle.frame_scheduler.specs.LaneTimeline.{lane_timeline}
use Rattle.frame_scheduler.specs.Timeline.{column}
use Rattle.frame_scheduler.specs.LaneEvents.{event_at}

-- a pair, of its two bytes with their parity bits
abbrev pub pair : ℕ → ℕ → Pair
pair a b = record { a = a; b = b }

-- a control pair is sent twice
abbrev pub twice : ℕ → ℕ → List Pair
twice a b = pair a b ∷ pair a b ∷ []

-- columns without a cell
abbrev pub gap : ℕ → List (Option Cell)
gap columns = replicate columns None

-- the cells of characters in a colour, without italics and underline
abbrev pub cells : Colour → List ℕ → List (Option Cell)
cells colour text =
    map (λ ch. Some (record { ch = ch; style = record { colour = colour; italic = false; underline = false } })) text

-- rows without a cell
abbrev pub empty_rows : ℕ → List (List (Option Cell))
empty_rows rows = replicate rows (gap 32)

-- the rows of a picture from 1 to 15, each with its columns from 0 to 31
abbrev pub picture_rows : Picture → List (List (Option Cell))
picture_rows picture = map (λ row. map (picture row) (range_with_len 0 32)) (range_with_len 1 15)

-- what the receiver of field 1 displays at a frame, by the pairs up to the frame's
abbrev pub displayed_at : List Pair → ℕ → Picture
displayed_at pairs frame = (after One (reverse (take (frame + 1) pairs))).first.displayed

-- an example: the cues, the frames in which their units begin, and the pairs of all frames
pub record Example : Type 0 where
  pub cues : List Cue
  pub placed : List ℕ
  pub frames : ℕ
  pub pairs : List Pair

-- the pairs are the cues' pairs
abbrev pub ArePairsSent : Example → Type 0
ArePairsSent example =
    column (lane_timeline (event_at (channel_events Cc1 example.cues)) (channel_chunks Cc1 example.cues) example.placed) example.frames
    ≡ example.pairs

-- the screen is authored for a frame, and the pairs display it at that frame
pub record ShowsScreen (example : Example) (frame : ℕ) (screen : List (List (Option Cell))) : Type 0 where
  pub authored : picture_rows (authored_grid Cc1 example.cues frame) ≡ screen
  pub displayed : picture_rows (displayed_at example.pairs frame) ≡ screen

-- a pop-on cue of a white run, ABC in row 15 from column 1 on, and a red one, OK in row 14 from column 5 on
abbrev pub shown_cue : Cue
shown_cue = example_cue (Pop Cc1) 0 15 (Some 17) (example_run White 15 1 (65 ∷ 66 ∷ 67 ∷ []) ∷ example_run Red 14 5 (79 ∷ 75 ∷ []) ∷ [])

-- a list of it alone
abbrev pub two_colours : Example
two_colours = record {
  cues = shown_cue ∷ [];
  placed = 0 ∷ 2 ∷ 4 ∷ 6 ∷ 8 ∷ 9 ∷ 10 ∷ 12 ∷ 14 ∷ [];
  frames = 20;
  pairs =
      -- frame 0: resume caption loading, erase non-displayed memory
      twice 0x94 0x20 ++ twice 0x94 0xAE
      -- frame 4: row 15 in white at column 0, tab offset 1, AB, C
      ++ twice 0x94 0x70 ++ twice 0x97 0xA1 ++ pair 0xC1 0xC2 ∷ pair 0x43 0x80
      -- frame 10: row 14 in white at column 4, red, OK
      ∷ twice 0x94 0x52 ++ twice 0x91 0xA8 ++ pair 0x4F 0xCB
      -- frame 15: end of caption, erase displayed memory, nothing
      ∷ twice 0x94 0x2F ++ twice 0x94 0x2C ++ pair 0x80 0x80 ∷ [];
}

-- its screen: the mid-row code left of OK stands as a red space
abbrev pub two_colours_screen : List (List (Option Cell))
two_colours_screen =
    empty_rows 13
    ++ (gap 4 ++ cells Red (32 ∷ 79 ∷ 75 ∷ []) ++ gap 25)
    ∷ (gap 1 ++ cells White (65 ∷ 66 ∷ 67 ∷ []) ++ gap 28) ∷ []

-- a chain of three roll-up cues of 2 rows on base row 11: A, B and C
abbrev pub rolling : Example
rolling = record {
  cues =
      example_cue (Roll Cc1 2) 0 7 None (example_run White 11 0 (65 ∷ []) ∷ [])
      ∷ example_cue (Roll Cc1 2) 8 15 None (example_run White 11 0 (66 ∷ []) ∷ [])
      ∷ example_cue (Roll Cc1 2) 16 23 (Some 25) (example_run White 11 0 (67 ∷ []) ∷ []) ∷ [];
  placed = 0 ∷ 2 ∷ 4 ∷ 6 ∷ 8 ∷ 10 ∷ 12 ∷ 14 ∷ 16 ∷ 18 ∷ 20 ∷ 22 ∷ [];
  frames = 28;
  pairs =
      -- frame 0: roll-up captions of 2 rows, carriage return, row 11 in white at column 0, A, nothing
      twice 0x94 0x25 ++ twice 0x94 0xAD ++ twice 0x10 0xD0 ++ pair 0xC1 0x80 ∷ pair 0x80 0x80
      -- frame 8: the same with B
      ∷ twice 0x94 0x25 ++ twice 0x94 0xAD ++ twice 0x10 0xD0 ++ pair 0xC2 0x80 ∷ pair 0x80 0x80
      -- frame 16: the same with C, and nothing in frames 23 and 24
      ∷ twice 0x94 0x25 ++ twice 0x94 0xAD ++ twice 0x10 0xD0 ++ pair 0x43 0x80 ∷ pair 0x80 0x80 ∷ pair 0x80 0x80
      -- frame 25: erase displayed memory, nothing
      ∷ twice 0x94 0x2C ++ pair 0x80 0x80 ∷ [];
}

-- a white letter at column 0
abbrev pub letter_row : ℕ → List (Option Cell)
letter_row ch = cells White (ch ∷ []) ++ gap 31
