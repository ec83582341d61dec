-- Believed in part: the program's answer stands on some of these definitions.
-- The form of cue lists, in words that both the reading and the first fault speak in: the kinds of records, where each
-- may stand, and what a field must be in the light of the records before it.
use Rattle.std.specs.Prelude.{ℕ, ◌-◌, ◌==◌, Bool, true, false, not, ◌&&◌, nat_le, if◌then◌else◌, List, [], ◌∷◌, length, codes, Option, Some, None, option_map, is_some, is_none}
use Rattle.line21_codes.specs.Spellings.{spelling_of}
use Rattle.dtvcc_codes.specs.CharacterSpellings.{dtvcc_spelling as dtv_spelling_of}
use Rattle.cue_form.specs.Begun.{Begun, awaits_run, no_runs}
use Rattle.cue_form.specs.Fields.{frame_field, named, pen_field, plain_words}
use Rattle.cue_types.specs.Line21Cues.{base_row}
use Rattle.cue_form.specs.Records.{Field}
use Rattle.cue_types.specs.declared.cue.Cue.{Cue}
use Rattle.cue_types.specs.declared.cue.Kind.{Kind}
use Rattle.cue_types.specs.declared.cue.Kind.TheVariants as kind
use Rattle.cue_types.specs.declared.cue.Pen.{Pen}
use Rattle.cue_types.specs.declared.cue.Pen.TheVariants as pen
use Rattle.cue_types.specs.declared.cue.Run.{Run}
use Rattle.cue_types.specs.declared.head.Head.{Head}
use Rattle.cue_types.specs.declared.head.Version.{Version}
use Rattle.cue_types.specs.declared.head.Version.TheVariants as version
use Rattle.cue_form.specs.declared.record_kind.RecordKind.{RecordKind}
use Rattle.cue_form.specs.declared.record_kind.RecordKind.TheVariants as record_kind

-- the versions, each by its word
abbrev pub version_words : List (Field × Version)
version_words = (codes "1", version.One) ∷ (codes "2", version.Two) ∷ []

-- the kinds of records, each by its word
abbrev pub kind_words : List (Field × RecordKind)
kind_words =
    (codes "ccsuite", record_kind.Ccsuite)
    ∷ (codes "share", record_kind.Share)
    ∷ (codes "pop", record_kind.Pop)
    ∷ (codes "paint", record_kind.Paint)
    ∷ (codes "roll", record_kind.Roll)
    ∷ (codes "win", record_kind.Win)
    ∷ (codes "attr", record_kind.Attr)
    ∷ (codes "run", record_kind.Run)
    ∷ (codes "colour", record_kind.Colour)
    ∷ []

-- the kind of a record, by its first field
abbrev pub record_kind_of : Field → Option RecordKind
record_kind_of word = named kind_words word

-- the list is of version 2
abbrev pub is_second : Option Head → Bool
is_second None = false
is_second (Some head) = is_two head.version
  where
    is_two : Version → Bool
    is_two version.One = false
    is_two version.Two = true

-- a window that has no attributes of its own
abbrev pub is_bare_window : Kind → Bool
is_bare_window (kind.Pop channel) = false
is_bare_window (kind.Paint channel) = false
is_bare_window (kind.Roll channel rows) = false
is_bare_window (kind.Win window) = is_none window.attr

-- the last record was a window's
abbrev pub awaits_attributes : Option Cue → Bool
awaits_attributes None = false
awaits_attributes (Some cue) = no_runs cue.runs && is_bare_window cue.kind

-- a window cue
abbrev pub is_window : Kind → Bool
is_window (kind.Pop channel) = false
is_window (kind.Paint channel) = false
is_window (kind.Roll channel rows) = false
is_window (kind.Win window) = true

-- the last of the runs has no colours of its own
abbrev pub last_is_plain : List Run → Bool
last_is_plain [] = false
last_is_plain (run ∷ []) = is_none run.colors
last_is_plain (run ∷ (next ∷ runs)) = last_is_plain (next ∷ runs)

-- the last record was a run's, in a window
abbrev pub awaits_colours : Option Cue → Bool
awaits_colours None = false
awaits_colours (Some cue) = is_window cue.kind && last_is_plain cue.runs

-- where a record of a kind may stand: the head first, shares before the first cue, attributes directly below a window, runs
-- below a cue, colours directly below a run in a window, cues below a run
abbrev pub may_stand : Begun → RecordKind → Bool
may_stand b record_kind.Ccsuite = is_none b.head
may_stand b record_kind.Share = is_some b.head && is_none b.last
may_stand b record_kind.Attr = is_second b.head && awaits_attributes b.last
may_stand b record_kind.Run = is_some b.last
may_stand b record_kind.Colour = is_second b.head && awaits_colours b.last
may_stand b _ = is_some b.head && not (awaits_run b.last)

-- the frame of a HIDE that may be empty
abbrev pub frame_or_none_field : Field → Option (Option ℕ)
frame_or_none_field text = if length text == 0 then Some None else option_map (λ frame. Some frame) (frame_field text)

-- the rows of a cue's runs: 1 to 15 in line 21, and in a window from 0
abbrev pub first_row : Kind → ℕ
first_row (kind.Pop channel) = 1
first_row (kind.Paint channel) = 1
first_row (kind.Roll channel rows) = 1
first_row (kind.Win window) = 0

abbrev pub last_row : Kind → ℕ
last_row (kind.Pop channel) = 15
last_row (kind.Paint channel) = 15
last_row (kind.Roll channel rows) = 15
last_row (kind.Win window) = window.rows - 1

-- the columns of a cue's rows
abbrev pub cue_columns : Kind → ℕ
cue_columns (kind.Pop channel) = 32
cue_columns (kind.Paint channel) = 32
cue_columns (kind.Roll channel rows) = 32
cue_columns (kind.Win window) = window.cols

-- the row of a run suits its cue: a roll-up cue's runs stand on the row of the first, with room for its rows
abbrev pub suits_row : Kind → List Run → ℕ → Bool
suits_row (kind.Pop channel) runs row = true
suits_row (kind.Paint channel) runs row = true
suits_row (kind.Roll channel rows) runs row = nat_le rows row && (if no_runs runs then true else row == base_row runs)
suits_row (kind.Win window) runs row = true

-- the pen of a run in a cue of its kind
abbrev pub run_pen_field : Kind → Field → Option Pen
run_pen_field (kind.Pop channel) text = option_map (λ style. pen.Line21 style) (pen_field text)
run_pen_field (kind.Paint channel) text = option_map (λ style. pen.Line21 style) (pen_field text)
run_pen_field (kind.Roll channel rows) text = option_map (λ style. pen.Line21 style) (pen_field text)
run_pen_field (kind.Win window) text = named plain_words text

-- there is a code for the character, in a cue of the kind
unfoldable pub is_coded : Kind → ℕ → Bool
is_coded (kind.Pop channel) ch = is_some (spelling_of ch)
is_coded (kind.Paint channel) ch = is_some (spelling_of ch)
is_coded (kind.Roll channel rows) ch = is_some (spelling_of ch)
is_coded (kind.Win window) ch = is_some (dtv_spelling_of ch)
