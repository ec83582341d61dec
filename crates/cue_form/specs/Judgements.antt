-- Between crates: the program's answer stands on none of these definitions.
-- What is judged of each record, in the order in which it is judged: what may stand there, then the number of its fields,
-- then its fields from the left. Each judgement has the offence that comes if it isn't good.
use Rattle.std.specs.Prelude.{ℕ, ◌+◌, ◌-◌, ◌==◌, Bool, false, not, ◌&&◌, nat_lt, nat_le, List, [], ◌∷◌, length, chars, Option, Some, None, is_some}
use Rattle.std.specs.List.{list_any, list_all}
use Rattle.std.specs.Str.{is_utf8}
use Rattle.cc_base.specs.declared.limit_of.LimitOf.{LimitOf}
use Rattle.cc_base.specs.declared.limit_of.LimitOf.TheVariants as limit
use Rattle.cc_base.specs.declared.why.Why.TheVariants as why
use Rattle.cc_base.specs.Options.{passes}
use Rattle.cue_form.specs.Begun.{Begun, cues_of}
use Rattle.cue_form.specs.Fields.{channel_field, fill_field, frame_field, named, number_field, number_within, rate_field, rgb_field}
use Rattle.cue_form.specs.Form.{cue_columns, first_row, frame_or_none_field, is_coded, last_row, may_stand, record_kind_of, run_pen_field, suits_row, version_words}
pub use Rattle.cue_form.specs.FieldForms.{room_at}
pub use Rattle.cue_form.specs.RecordJudgements.{Judgement, count_judgement, first_offence, judge, within}
use Rattle.cue_form.specs.Records.{Record, field}
use Rattle.cue_types.specs.Listing.{most_cues, most_frames}
use Rattle.cue_types.specs.Shares.{shares_taken}
use Rattle.cue_types.specs.declared.cue.Cue.{Cue}
use Rattle.cue_types.specs.declared.cue.Kind.{Kind}
use Rattle.cue_types.specs.declared.cue.Run.{Run}
use Rattle.cue_types.specs.declared.list.Share.{Share}
use Rattle.cue_form.specs.declared.offence.Offence.TheVariants as offence
use Rattle.cue_form.specs.declared.record_kind.RecordKind.{RecordKind}
use Rattle.cue_form.specs.declared.record_kind.RecordKind.TheVariants as record_kind

-- of a limit
abbrev pub bound : Bool → LimitOf → Judgement
bound good which = record { good = good; offence = offence.Limit which }

-- the number of a frame
abbrev pub in_time : Record → ℕ → Judgement
in_time r place = judge (is_some (frame_field (field r place))) (place + 1) why.Field

-- ccsuite,VERSION,RATE,FRAMES
abbrev pub head_judgements : Record → List Judgement
head_judgements r =
    count_judgement r 4
    ∷ judge (is_some (named version_words (field r 1))) 2 why.Field
    ∷ judge (is_some (rate_field (field r 2))) 3 why.Field
    ∷ judge (passes (nat_le 1) (number_field (field r 3))) 4 why.Field
    ∷ bound (passes (λ frames. nat_le frames most_frames) (number_field (field r 3))) limit.Frames
    ∷ []

-- share,SERVICE,BYTES after these shares, which have so much room
abbrev pub share_judgements : ℕ → List Share → Record → List Judgement
share_judgements room shares r =
    count_judgement r 3
    ∷ within r 1 1 6
    ∷ judge (passes (λ service. not (list_any (λ share. share.service == service) shares)) (number_within 1 6 (field r 1))) 2 why.Field
    ∷ within r 2 8 31
    ∷ judge (passes (λ bytes. nat_le (shares_taken shares + (bytes + 1)) room) (number_within 8 31 (field r 2))) 3 why.Field
    ∷ []

-- pop,CH,LOAD,SHOW,HIDE and paint,CH,LOAD,SHOW,HIDE
abbrev pub shown_judgements : Record → List Judgement
shown_judgements r =
    count_judgement r 5
    ∷ judge (is_some (channel_field (field r 1))) 2 why.Field
    ∷ in_time r 2
    ∷ in_time r 3
    ∷ in_time r 4
    ∷ []

-- roll,CH,N,LOAD,SHOW,HIDE
abbrev pub rolled_judgements : Record → List Judgement
rolled_judgements r =
    count_judgement r 6
    ∷ judge (is_some (channel_field (field r 1))) 2 why.Field
    ∷ within r 2 2 4
    ∷ in_time r 3
    ∷ in_time r 4
    ∷ judge (is_some (frame_or_none_field (field r 5))) 6 why.Field
    ∷ []

-- win,SERVICE,ID,LOAD,SHOW,HIDE,DELAY,ANCHOR,AV,AH,ROWS,COLS,PRIORITY,WS,PS
abbrev pub window_judgements : Record → List Judgement
window_judgements r =
    count_judgement r 15
    ∷ within r 1 1 6
    ∷ within r 2 0 7
    ∷ in_time r 3
    ∷ in_time r 4
    ∷ in_time r 5
    ∷ within r 6 0 255
    ∷ within r 7 0 8
    ∷ within r 8 0 74
    ∷ within r 9 0 209
    ∷ within r 10 1 12
    ∷ within r 11 1 42
    ∷ within r 12 0 7
    ∷ within r 13 1 7
    ∷ within r 14 1 7
    ∷ []

-- attr,JUSTIFY,PRINT,SCROLL,WRAP,EFFECT,DIR,SPEED,FILL,KIND,BORDER
abbrev pub attribute_judgements : Record → List Judgement
attribute_judgements r =
    count_judgement r 11
    ∷ within r 1 0 3
    ∷ within r 2 0 3
    ∷ within r 3 0 3
    ∷ within r 4 0 1
    ∷ within r 5 0 2
    ∷ within r 6 0 3
    ∷ within r 7 0 15
    ∷ judge (is_some (fill_field (field r 8))) 9 why.Field
    ∷ within r 9 0 5
    ∷ judge (is_some (rgb_field (field r 10))) 11 why.Field
    ∷ []

-- run,ROW,COL,PEN,TEXT of a cue of a kind, after these runs: the text is judged for its bytes, for its characters, and for
-- its length
abbrev pub run_judgements : Kind → List Run → Record → List Judgement
run_judgements kind runs r =
    count_judgement r 5
    ∷ within r 1 (first_row kind) (last_row kind)
    ∷ judge (passes (suits_row kind runs) (number_within (first_row kind) (last_row kind) (field r 1))) 2 why.Field
    ∷ within r 2 0 (cue_columns kind - 1)
    ∷ judge (is_some (run_pen_field kind (field r 3))) 4 why.Field
    ∷ judge (is_utf8 (field r 4) && nat_lt 0 (length (field r 4))) 5 why.Field
    ∷ judge (list_all (is_coded kind) (chars (field r 4))) 5 why.NoCode
    ∷ judge (passes (λ col. nat_le (col + length (chars (field r 4))) (cue_columns kind)) (number_within 0 (cue_columns kind - 1) (field r 2))) 5 why.Field
    ∷ []

-- colour,FG,BG,EDGE
abbrev pub colour_judgements : Record → List Judgement
colour_judgements r =
    count_judgement r 4
    ∷ judge (is_some (fill_field (field r 1))) 2 why.Field
    ∷ judge (is_some (fill_field (field r 2))) 3 why.Field
    ∷ judge (is_some (rgb_field (field r 3))) 4 why.Field
    ∷ []

-- a cue more: 20,000 at most
abbrev pub room_judgement : Begun → Judgement
room_judgement b = bound (nat_lt (length (cues_of b)) most_cues) limit.Cues

-- a run of the last cue, if there is one
abbrev pub last_judgements : Option Cue → Record → List Judgement
last_judgements None r = judge false 1 why.Field ∷ []
last_judgements (Some cue) r = run_judgements cue.kind cue.runs r

-- what follows the kind word
abbrev pub field_judgements : Begun → RecordKind → Record → List Judgement
field_judgements b record_kind.Ccsuite r = head_judgements r
field_judgements b record_kind.Share r = share_judgements (room_at b.head) b.shares r
field_judgements b record_kind.Pop r = room_judgement b ∷ shown_judgements r
field_judgements b record_kind.Paint r = room_judgement b ∷ shown_judgements r
field_judgements b record_kind.Roll r = room_judgement b ∷ rolled_judgements r
field_judgements b record_kind.Win r = room_judgement b ∷ window_judgements r
field_judgements b record_kind.Attr r = attribute_judgements r
field_judgements b record_kind.Run r = last_judgements b.last r
field_judgements b record_kind.Colour r = colour_judgements r

-- a record of the kind may stand here
abbrev pub standing_judgement : Begun → RecordKind → Judgement
standing_judgement b kind = judge (may_stand b kind) 1 why.Field

-- a record's judgements in their order
abbrev pub judgements_by_kind : Begun → Option RecordKind → Record → List Judgement
judgements_by_kind b None r = judge false 1 why.Field ∷ []
judgements_by_kind b (Some kind) r = standing_judgement b kind ∷ field_judgements b kind r

abbrev pub judgements : Begun → Record → List Judgement
judgements b r = judgements_by_kind b (record_kind_of (field r 0)) r
