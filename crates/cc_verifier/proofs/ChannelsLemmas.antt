-- The first channel that shows another grid than is authored.
use Rattle.std.proofs.Common.{ℕ, ◌≤◌, List, arith}
use Rattle.line21_codes.specs.declared.channels.Chan.{Chan}
use Rattle.line21_codes.specs.declared.channels.Chan.TheVariants as chan
use Rattle.line21_screen.specs.Grid.{Grid}
use Rattle.cue_types.specs.Lane.{channel_number}
use Rattle.cue_types.specs.declared.cue.Cue.{Cue}
use Rattle.cc_verifier.specs.Differing.{ShowsOther}

-- a channel shows what is authored, or the frame isn't settled for it
abbrev pub ShowsIts : List Cue → ℕ → (Chan → Grid) → Chan → Type 0
ShowsIts cues frame screens channel = ShowsOther cues frame screens channel → ⊥

pub none_of_four : (cues : List Cue) (frame : ℕ) (screens : Chan → Grid) → ShowsIts cues frame screens chan.Cc1 → ShowsIts cues frame screens chan.Cc2
    → ShowsIts cues frame screens chan.Cc3 → ShowsIts cues frame screens chan.Cc4 → (channel : Chan) → ShowsIts cues frame screens channel
none_of_four cues frame screens one two three four chan.Cc1 = one
none_of_four cues frame screens one two three four chan.Cc2 = two
none_of_four cues frame screens one two three four chan.Cc3 = three
none_of_four cues frame screens one two three four chan.Cc4 = four

pub first_is_one : (cues : List Cue) (frame : ℕ) (screens : Chan → Grid) (other : Chan) → ShowsOther cues frame screens other
    → channel_number chan.Cc1 ≤ channel_number other
first_is_one cues frame screens chan.Cc1 shows = omega arith
first_is_one cues frame screens chan.Cc2 shows = omega arith
first_is_one cues frame screens chan.Cc3 shows = omega arith
first_is_one cues frame screens chan.Cc4 shows = omega arith

pub first_is_two : (cues : List Cue) (frame : ℕ) (screens : Chan → Grid) → ShowsIts cues frame screens chan.Cc1
    → (other : Chan) → ShowsOther cues frame screens other → channel_number chan.Cc2 ≤ channel_number other
first_is_two cues frame screens one chan.Cc1 shows = absurd (one shows)
first_is_two cues frame screens one chan.Cc2 shows = omega arith
first_is_two cues frame screens one chan.Cc3 shows = omega arith
first_is_two cues frame screens one chan.Cc4 shows = omega arith

pub first_is_three : (cues : List Cue) (frame : ℕ) (screens : Chan → Grid) → ShowsIts cues frame screens chan.Cc1 → ShowsIts cues frame screens chan.Cc2
    → (other : Chan) → ShowsOther cues frame screens other → channel_number chan.Cc3 ≤ channel_number other
first_is_three cues frame screens one two chan.Cc1 shows = absurd (one shows)
first_is_three cues frame screens one two chan.Cc2 shows = absurd (two shows)
first_is_three cues frame screens one two chan.Cc3 shows = omega arith
first_is_three cues frame screens one two chan.Cc4 shows = omega arith

pub first_is_four : (cues : List Cue) (frame : ℕ) (screens : Chan → Grid) → ShowsIts cues frame screens chan.Cc1 → ShowsIts cues frame screens chan.Cc2
    → ShowsIts cues frame screens chan.Cc3 → (other : Chan) → ShowsOther cues frame screens other → channel_number chan.Cc4 ≤ channel_number other
first_is_four cues frame screens one two three chan.Cc1 shows = absurd (one shows)
first_is_four cues frame screens one two three chan.Cc2 shows = absurd (two shows)
first_is_four cues frame screens one two three chan.Cc3 shows = absurd (three shows)
first_is_four cues frame screens one two three chan.Cc4 shows = omega arith
