-- Pop-on codes don't look at the displayed memory: with another one they do the same.
use Rattle.std.proofs.Common.{◌≡◌, ℕ, ◌-◌, ◌%◌, ◌==◌, Bool, true, false, if◌then◌else◌, Option, Some, None, List, [], ◌∷◌, ◌++◌, refl, sym, ap, subst, ◌∙◌}
use Rattle.std.specs.List.{filter_map, flat_map}
use Rattle.line21_codes.specs.declared.channels.Chan.{Chan}
use Rattle.line21_codes.specs.declared.characters.Spelling.{Spelling}
use Rattle.line21_codes.specs.declared.characters.Spelling.TheVariants.{Basic, Special, Extended}
use Rattle.line21_codes.specs.declared.codes.Code.{Code}
use Rattle.line21_codes.specs.declared.codes.Code.TheVariants.{Text}
use Rattle.line21_codes.specs.declared.codes.Control.TheVariants.{Rcl, Enm, Tab, MidRow, Preamble, Special as special_character, Extended as extended_character}
use Rattle.line21_codes.specs.declared.styles.Colour.{Colour}
use Rattle.line21_codes.specs.declared.styles.Style.{Style}
use Rattle.line21_codes.specs.BasicCharacters.{basic_of}
use Rattle.line21_codes.specs.SpecialCharacters.{special_of}
use Rattle.line21_codes.specs.ExtendedCharacters.{extended_of}
use Rattle.line21_codes.specs.Spellings.{spelling_of}
use Rattle.cue_lists.specs.declared.cue.Cue.{Cue}
use Rattle.cue_lists.specs.declared.cue.Kind.TheVariants.{Pop}
use Rattle.cue_lists.specs.declared.cue.Pen.{Pen}
use Rattle.cue_lists.specs.declared.cue.Pen.TheVariants.{Line21, Dtv}
use Rattle.cue_lists.specs.declared.cue.Run.{Run}
use Rattle.frame_scheduler.specs.CueCodes.{opening_codes, cue_codes}
use Rattle.frame_scheduler.specs.FirstChannel.{first_channel}
use Rattle.frame_scheduler.specs.RunCodes.{is_upright_white, white, white_approach, mid_row_colour, approach, codes_with, run_codes}
use Rattle.frame_scheduler.specs.TextCodes.{packed, text_codes}
use Rattle.line21_screen.specs.declared.modes.Mode.TheVariants.{PopOn}
use Rattle.line21_screen.specs.Channels.{ChannelState}
use Rattle.line21_screen.specs.Editing.{edited, with_pen, printed, special, extended}
use Rattle.line21_screen.specs.Fields.{after_character, after_text}
use Rattle.line21_screen.specs.Grid.{Grid, with_cell}
use Rattle.line21_screen.specs.Pens.{PenState, at_column}
use Rattle.line21_shown.specs.Doing.{does}

-- a channel with another displayed memory
abbrev pub showing : Grid → ChannelState → ChannelState
showing g s = record s { displayed = g }

-- codes, one after another, do the same whatever the displayed memory is, and leave it
abbrev pub AreBlind : List Code → ChannelState → Type 0
AreBlind [] s = Unit {0}
AreBlind (code ∷ codes) s = ((g : Grid) → does code (showing g s) ≡ showing g (does code s)) × AreBlind codes (does code s)

-- the codes that runs are written with
pub data IsWriting : Code → Type 0 where
  text : (first second : ℕ) → IsWriting (Text first second)
  special_is : (byte : ℕ) → IsWriting (first_channel (special_character byte))
  extended_is : (set byte : ℕ) → IsWriting (first_channel (extended_character set byte))
  preamble : (row col : ℕ) (style : Style) → IsWriting (first_channel (Preamble row col style))
  tab : (columns : ℕ) → IsWriting (first_channel (Tab columns))
  mid_row : (colour : Option Colour) (underline : Bool) → IsWriting (first_channel (MidRow colour underline))

-- each of the codes is one of them
abbrev pub AreWriting : List Code → Type 0
AreWriting [] = Unit {0}
AreWriting (code ∷ codes) = IsWriting code × AreWriting codes

-- pop-on captions are under way
abbrev IsPopOn : ChannelState → Type 0
IsPopOn s = (s.mode ≡ PopOn) × (s.text ≡ false)

-- a state of pop-on captions of its parts
abbrev pop_on : Grid → Grid → ℕ → PenState → ChannelState
pop_on d h b p = record { displayed = d; hidden = h; mode = PopOn; base = b; text = false; pen = p }

-- what holds of each state of its parts holds where pop-on captions are under way
by_parts : (P : ChannelState → Type 0) → ((d h : Grid) (b : ℕ) (p : PenState) → P (pop_on d h b p))
    → (s : ChannelState) → IsPopOn s → P s
by_parts P each s is =
    let mode : s.mode ≡ PopOn = is.0 in
    let captions : s.text ≡ false = is.1 in
    let parts : s ≡ pop_on s.displayed s.hidden s.base s.pen =
    subst (λ m. record s { mode = m } ≡ pop_on s.displayed s.hidden s.base s.pen) (sym mode)
    (subst (λ t. record s { mode = PopOn; text = t } ≡ pop_on s.displayed s.hidden s.base s.pen) (sym captions) refl) in
    subst P (sym parts) (each s.displayed s.hidden s.base s.pen)

-- a character of a text pair
character_blind : (o : Option ℕ) (g d h : Grid) (b : ℕ) (p : PenState)
    → after_character o (pop_on g h b p) ≡ showing g (after_character o (pop_on d h b p))
character_blind (Some ch) g d h b p = refl
character_blind None g d h b p = refl

character_pops : (o : Option ℕ) (d h : Grid) (b : ℕ) (p : PenState) → IsPopOn (after_character o (pop_on d h b p))
character_pops (Some ch) d h b p = (refl, refl)
character_pops None d h b p = (refl, refl)

-- a special character
special_blind : (o : Option ℕ) (g d h : Grid) (b : ℕ) (p : PenState)
    → special o (pop_on g h b p) ≡ showing g (special o (pop_on d h b p))
special_blind (Some ch) g d h b p = refl
special_blind None g d h b p = refl

special_pops : (o : Option ℕ) (d h : Grid) (b : ℕ) (p : PenState) → IsPopOn (special o (pop_on d h b p))
special_pops (Some ch) d h b p = (refl, refl)
special_pops None d h b p = (refl, refl)

-- backspace, by whether the pen stands at column 0
abbrev taken_back : Bool → Grid → Grid → ℕ → PenState → ChannelState
taken_back at_left d h b p =
    if at_left then pop_on d h b p
    else with_pen (at_column (p.col - 1) p) (edited (λ g. with_cell g p.row (p.col - 1) None) (pop_on d h b p))

taken_back_blind : (at_left : Bool) (ch : ℕ) (g d h : Grid) (b : ℕ) (p : PenState)
    → printed ch (taken_back at_left g h b p) ≡ showing g (printed ch (taken_back at_left d h b p))
taken_back_blind true ch g d h b p = refl
taken_back_blind false ch g d h b p = refl

taken_back_pops : (at_left : Bool) (ch : ℕ) (d h : Grid) (b : ℕ) (p : PenState)
    → IsPopOn (printed ch (taken_back at_left d h b p))
taken_back_pops true ch d h b p = (refl, refl)
taken_back_pops false ch d h b p = (refl, refl)

-- an extended character
extended_blind : (o : Option ℕ) (g d h : Grid) (b : ℕ) (p : PenState)
    → extended o (pop_on g h b p) ≡ showing g (extended o (pop_on d h b p))
extended_blind (Some ch) g d h b p = taken_back_blind (p.col == 0) ch g d h b p
extended_blind None g d h b p = refl

extended_pops : (o : Option ℕ) (d h : Grid) (b : ℕ) (p : PenState) → IsPopOn (extended o (pop_on d h b p))
extended_pops (Some ch) d h b p = taken_back_pops (p.col == 0) ch d h b p
extended_pops None d h b p = (refl, refl)

-- pop-on captions stay under way after a text pair
text_pops : (first second : ℕ) (d h : Grid) (b : ℕ) (p : PenState) → IsPopOn (after_text first second (pop_on d h b p))
text_pops first second d h b p =
    by_parts (λ s. IsPopOn (after_character (basic_of second) s)) (character_pops (basic_of second))
    (after_character (basic_of first) (pop_on d h b p)) (character_pops (basic_of first) d h b p)

-- a text pair
text_blind : (first second : ℕ) (g d h : Grid) (b : ℕ) (p : PenState)
    → after_text first second (pop_on g h b p) ≡ showing g (after_text first second (pop_on d h b p))
text_blind first second g d h b p =
    ap (after_character (basic_of second)) (character_blind (basic_of first) g d h b p)
    ∙ by_parts (λ s. after_character (basic_of second) (showing g s) ≡ showing g (after_character (basic_of second) s))
    (character_blind (basic_of second) g)
    (after_character (basic_of first) (pop_on d h b p)) (character_pops (basic_of first) d h b p)

-- pop-on captions stay under way after each code that runs are written with
code_pops : (code : Code) → IsWriting code → (d h : Grid) (b : ℕ) (p : PenState) → IsPopOn (does code (pop_on d h b p))
code_pops code (text first second) d h b p = text_pops first second d h b p
code_pops code (special_is byte) d h b p = special_pops (special_of byte) d h b p
code_pops code (extended_is set byte) d h b p = extended_pops (extended_of set byte) d h b p
code_pops code (preamble row col style) d h b p = (refl, refl)
code_pops code (tab columns) d h b p = (refl, refl)
code_pops code (mid_row colour underline) d h b p = (refl, refl)

-- and each of them does the same whatever the displayed memory is
code_blind : (code : Code) → IsWriting code → (g d h : Grid) (b : ℕ) (p : PenState)
    → does code (pop_on g h b p) ≡ showing g (does code (pop_on d h b p))
code_blind code (text first second) g d h b p = text_blind first second g d h b p
code_blind code (special_is byte) g d h b p = special_blind (special_of byte) g d h b p
code_blind code (extended_is set byte) g d h b p = extended_blind (extended_of set byte) g d h b p
code_blind code (preamble row col style) g d h b p = refl
code_blind code (tab columns) g d h b p = refl
code_blind code (mid_row colour underline) g d h b p = refl

-- codes, one after another
codes_blind : (codes : List Code) → AreWriting codes → (s : ChannelState) → IsPopOn s → AreBlind codes s
codes_blind [] writing s is = tt
codes_blind (code ∷ codes) writing s is = (
  λ g. by_parts (λ x. does code (showing g x) ≡ showing g (does code x)) (code_blind code writing.0 g) s is,
  codes_blind codes writing.1 (does code s) (by_parts (λ x. IsPopOn (does code x)) (code_pops code writing.0) s is),
)

-- codes after codes
AreWriting-append : (codes more : List Code) → AreWriting codes → AreWriting more → AreWriting (codes ++ more)
AreWriting-append [] more writing too = too
AreWriting-append (code ∷ codes) more writing too = (writing.0, AreWriting-append codes more writing.1 too)

-- the codes of spellings
packed_writing : (waiting : Option ℕ) (spellings : List Spelling) → AreWriting (packed waiting spellings)
packed_writing None [] = tt
packed_writing (Some first) [] = (text first 0, tt)
packed_writing None (Basic byte ∷ rest) = packed_writing (Some byte) rest
packed_writing (Some first) (Basic byte ∷ rest) = (text first byte, packed_writing None rest)
packed_writing None (Special byte ∷ rest) = (special_is byte, packed_writing None rest)
packed_writing (Some first) (Special byte ∷ rest) = (text first 0, (special_is byte, packed_writing None rest))
packed_writing None (Extended fallback set byte ∷ rest) = (text fallback 0, (extended_is set byte, packed_writing None rest))
packed_writing (Some first) (Extended fallback set byte ∷ rest) =
    (text first fallback, (extended_is set byte, packed_writing None rest))

-- a tab offset, by whether one is needed
tab_writing : (none : Bool) (columns : ℕ) → AreWriting (if none then [] else first_channel (Tab columns) ∷ [])
tab_writing true columns = tt
tab_writing false columns = (tab columns, tt)

-- the codes that lead to a place in white
white_writing : (row col : ℕ) (underline : Bool) → AreWriting (white_approach row col underline)
white_writing row col underline =
    (preamble row (col - col % 4) (white underline), tab_writing (col % 4 == 0) (col % 4))

-- the codes that lead to a place and style, by whether the style is upright white and the column the first
approach_writing : (plain at_left : Bool) (row col : ℕ) (style : Style)
    → AreWriting
    (if plain then white_approach row col style.underline
    else if at_left then first_channel (Preamble row 0 style) ∷ []
    else white_approach row (col - 1) false ++ first_channel (MidRow (mid_row_colour style) style.underline) ∷ [])
approach_writing true at_left row col style = white_writing row col style.underline
approach_writing false true row col style = (preamble row 0 style, tt)
approach_writing false false row col style =
    AreWriting-append (white_approach row (col - 1) false) (first_channel (MidRow (mid_row_colour style) style.underline) ∷ [])
    (white_writing row (col - 1) false) (mid_row (mid_row_colour style) style.underline, tt)

-- the codes of a run
run_writing : (pen : Pen) (run : Run) → AreWriting (codes_with pen run)
run_writing (Line21 style) run =
    AreWriting-append (approach run.row run.col style) (text_codes run.text)
    (approach_writing (is_upright_white style) (run.col == 0) run.row run.col style)
    (packed_writing None (filter_map spelling_of run.text))
run_writing (Dtv italic underline) run = tt

-- the codes of runs
pub runs_writing : (runs : List Run) → AreWriting (flat_map run_codes runs)
runs_writing [] = tt
runs_writing (run ∷ runs) =
    AreWriting-append (run_codes run) (flat_map run_codes runs) (run_writing run.pen run) (runs_writing runs)

-- where pop-on captions are under way, the codes of runs don't look at the displayed memory
pub runs_blind : (runs : List Run) (s : ChannelState) → s.mode ≡ PopOn → s.text ≡ false → AreBlind (flat_map run_codes runs) s
runs_blind runs s mode captions = codes_blind (flat_map run_codes runs) (runs_writing runs) s (mode, captions)

-- the codes of a pop-on cue don't look at the displayed memory: they begin pop-on captions
pub pop_blind : (channel : Chan) (cue : Cue) (s : ChannelState) → cue.kind ≡ Pop channel → AreBlind (cue_codes cue) s
pop_blind channel cue s kind =
    subst (λ k. AreBlind (opening_codes k ++ flat_map run_codes cue.runs) s) (sym kind)
    (λ g. refl, (λ g. refl, runs_blind cue.runs (does (first_channel Enm) (does (first_channel Rcl) s)) refl refl))
