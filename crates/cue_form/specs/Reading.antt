-- Believed in part: the program's answer stands on some of these definitions.
-- Reading a cue list record by record: the list that they spell, or the first fault. A record is refused with the first of
-- its judgements that isn't good; else its fields have these values.
use Rattle.std.specs.Prelude.{ℕ, ◌+◌, ◌-◌, ◌==◌, false, if◌then◌else◌, List, [], ◌∷◌, ◌++◌, chars, Option, Some, None, unwrap_or, option_map, Result, Ok, Err}
use Rattle.cc_base.specs.declared.rate.Rate.TheVariants as rate
use Rattle.cc_base.specs.declared.why.Why.TheVariants as why
use Rattle.line21_codes.specs.declared.channels.Chan.{Chan}
use Rattle.line21_codes.specs.declared.channels.Chan.TheVariants as chan
use Rattle.dtvcc_codes.specs.declared.pens.Fill.{Fill}
use Rattle.dtvcc_codes.specs.declared.pens.PenColors.{PenColors}
use Rattle.dtvcc_codes.specs.declared.pens.Rgb.{Rgb}
use Rattle.dtvcc_codes.specs.declared.windows.WinAttr.{WinAttr}
use Rattle.cue_form.specs.Begun.{Begun, nothing, cues_of, with_cue, cue_with_run, cue_with_attributes, cue_with_colours, awaits_run}
use Rattle.cue_form.specs.Fields.{channel_field, fill_field, frame_field, named, number_field, rate_field, rgb_field}
use Rattle.cue_form.specs.Form.{cue_columns, first_row, frame_or_none_field, last_row, record_kind_of, run_pen_field, version_words}
use Rattle.cue_form.specs.Judgements.{attribute_judgements, colour_judgements, head_judgements, rolled_judgements, room_at, room_judgement, run_judgements, share_judgements, shown_judgements, standing_judgement, window_judgements}
pub use Rattle.cue_form.specs.RecordJudgements.{judged_value, number, on_ok, unless}
use Rattle.cue_form.specs.Records.{Record, field, records_of}
use Rattle.cue_types.specs.Listing.{Listing}
use Rattle.cue_types.specs.declared.cue.Cue.{Cue}
use Rattle.cue_types.specs.declared.cue.Kind.{Kind}
use Rattle.cue_types.specs.declared.cue.Kind.TheVariants as kind
use Rattle.cue_types.specs.declared.cue.Pen.TheVariants as pen
use Rattle.cue_types.specs.declared.cue.Run.{Run}
use Rattle.cue_types.specs.declared.head.Head.{Head}
use Rattle.cue_types.specs.declared.head.Version.TheVariants as version
use Rattle.cue_types.specs.declared.list.Share.{Share}
use Rattle.cue_form.specs.declared.fault.CueFault.{CueFault}
use Rattle.cue_form.specs.declared.fault.CueFault.TheVariants as fault
use Rattle.cue_form.specs.declared.offence.Offence.{Offence}
use Rattle.cue_form.specs.declared.offence.Offence.TheVariants as offence
use Rattle.cue_form.specs.declared.record_kind.RecordKind.{RecordKind}
use Rattle.cue_form.specs.declared.record_kind.RecordKind.TheVariants as record_kind

-- the number of a frame
abbrev pub frame : Record → ℕ → ℕ
frame r place = unwrap_or (frame_field (field r place)) 0

-- colours of their digits
abbrev pub record_fill : Record → ℕ → Fill
record_fill r place = unwrap_or (fill_field (field r place)) (record { opacity = 0; r = 0; g = 0; b = 0 })

abbrev pub rgb : Record → ℕ → Rgb
rgb r place = unwrap_or (rgb_field (field r place)) (record { r = 0; g = 0; b = 0 })

-- ccsuite,VERSION,RATE,FRAMES
abbrev pub head_of : Record → Result Head Offence
head_of r = judged_value (head_judgements r) (record {
  version = unwrap_or (named version_words (field r 1)) version.One;
  rate = unwrap_or (rate_field (field r 2)) rate.F2997;
  frames = unwrap_or (number_field (field r 3)) 0;
})

-- share,SERVICE,BYTES
abbrev pub share_record_of : ℕ → List Share → Record → Result Share Offence
share_record_of room shares r =
    judged_value (share_judgements room shares r) (record { service = number r 1 1 6; bytes = number r 2 8 31 })

-- the channel of a cue
abbrev pub record_channel : Record → Chan
record_channel r = unwrap_or (channel_field (field r 1)) chan.Cc1

-- pop,CH,LOAD,SHOW,HIDE and paint,CH,LOAD,SHOW,HIDE, as a cue which has no run yet
abbrev pub shown_cue_of : (Chan → Kind) → Record → Result Cue Offence
shown_cue_of kind r = judged_value (shown_judgements r) (record {
  load = frame r 2;
  show = frame r 3;
  hide = Some (frame r 4);
  kind = kind (record_channel r);
  runs = [];
})

-- roll,CH,N,LOAD,SHOW,HIDE
abbrev pub rolled_cue_of : Record → Result Cue Offence
rolled_cue_of r = judged_value (rolled_judgements r) (record {
  load = frame r 3;
  show = frame r 4;
  hide = unwrap_or (frame_or_none_field (field r 5)) None;
  kind = kind.Roll (record_channel r) (number r 2 2 4);
  runs = [];
})

-- win,SERVICE,ID,LOAD,SHOW,HIDE,DELAY,ANCHOR,AV,AH,ROWS,COLS,PRIORITY,WS,PS
abbrev pub window_cue_of : Record → Result Cue Offence
window_cue_of r = judged_value (window_judgements r) (record {
  load = frame r 3;
  show = frame r 4;
  hide = Some (frame r 5);
  kind = kind.Win (record {
    service = number r 1 1 6;
    id = number r 2 0 7;
    delay = number r 6 0 255;
    anchor = number r 7 0 8;
    av = number r 8 0 74;
    ah = number r 9 0 209;
    rows = number r 10 1 12;
    cols = number r 11 1 42;
    priority = number r 12 0 7;
    ws = number r 13 1 7;
    ps = number r 14 1 7;
    attr = None;
  });
  runs = [];
})

-- attr,JUSTIFY,PRINT,SCROLL,WRAP,EFFECT,DIR,SPEED,FILL,KIND,BORDER
abbrev pub attributes_of : Record → Result WinAttr Offence
attributes_of r = judged_value (attribute_judgements r) (record {
  justify = number r 1 0 3;
  print = number r 2 0 3;
  scroll = number r 3 0 3;
  wrap = number r 4 0 1 == 1;
  effect = number r 5 0 2;
  effect_dir = number r 6 0 3;
  effect_speed = number r 7 0 15;
  fill = record_fill r 8;
  border_kind = number r 9 0 5;
  border = rgb r 10;
})

-- run,ROW,COL,PEN,TEXT of a cue of a kind, after these runs
abbrev pub run_of : Kind → List Run → Record → Result Run Offence
run_of kind runs r = judged_value (run_judgements kind runs r) (record {
  row = number r 1 (first_row kind) (last_row kind);
  col = number r 2 0 (cue_columns kind - 1);
  pen = unwrap_or (run_pen_field kind (field r 3)) (pen.Dtv false false);
  text = chars (field r 4);
  colors = None;
})

-- colour,FG,BG,EDGE
abbrev pub colours_of : Record → Result PenColors Offence
colours_of r = judged_value (colour_judgements r) (record { fg = record_fill r 1; bg = record_fill r 2; edge = rgb r 3 })

-- the cue of a record of its kind
abbrev pub cue_of : RecordKind → Record → Result Cue Offence
cue_of record_kind.Pop r = shown_cue_of kind.Pop r
cue_of record_kind.Paint r = shown_cue_of kind.Paint r
cue_of record_kind.Roll r = rolled_cue_of r
cue_of _ r = window_cue_of r

-- the list with one cue more, of which there are 20,000 at most
abbrev pub opens : Begun → RecordKind → Record → Result Begun Offence
opens b kind r = on_ok (judged_value (room_judgement b ∷ []) b) (λ b. on_ok (cue_of kind r) (λ cue. Ok (with_cue b cue)))

-- the list with one run more
abbrev pub runs_on : Begun → Option Cue → Record → Result Begun Offence
runs_on b None r = Err (offence.At 1 why.Field)
runs_on b (Some cue) r = on_ok (run_of cue.kind cue.runs r) (λ run. Ok (record b { last = Some (cue_with_run cue run) }))

-- the list with a record of a kind more
abbrev pub adds : Begun → RecordKind → Record → Result Begun Offence
adds b record_kind.Ccsuite r = on_ok (head_of r) (λ head. Ok (record b { head = Some head }))
adds b record_kind.Share r = on_ok (share_record_of (room_at b.head) b.shares r) (λ share. Ok (record b { shares = b.shares ++ share ∷ [] }))
adds b record_kind.Attr r = on_ok (attributes_of r) (λ attributes. Ok (record b { last = option_map (cue_with_attributes attributes) b.last }))
adds b record_kind.Run r = runs_on b b.last r
adds b record_kind.Colour r = on_ok (colours_of r) (λ colours. Ok (record b { last = option_map (cue_with_colours colours) b.last }))
adds b kind r = opens b kind r

-- the list with a record more of a kind that is known, where it may stand
abbrev pub next_of_kind : Begun → Option RecordKind → Record → Result Begun Offence
next_of_kind b None r = Err (offence.At 1 why.Field)
next_of_kind b (Some kind) r = on_ok (judged_value (standing_judgement b kind ∷ []) b) (λ b. adds b kind r)

-- the list with a record more: its kind word is judged first, then the number of its fields, then its fields from the left
abbrev pub next : Begun → Record → Result Begun Offence
next b r = next_of_kind b (record_kind_of (field r 0)) r

-- the fault of the record of this number
abbrev pub in_record : ℕ → Offence → CueFault
in_record number (offence.At place why) = fault.Malformed number place why
in_record number (offence.Limit which) = fault.Limit which
in_record number (offence.Memory error) = fault.Memory error

-- the list at its end, where the next record would have this number: it has a head, and its last cue has a run
abbrev pub list_ended : Begun → Option Head → ℕ → Result Listing CueFault
list_ended b None number = Err (fault.Malformed number 1 why.Field)
list_ended b (Some head) number =
    if awaits_run b.last
    then Err (fault.Malformed number 1 why.Field)
    else Ok (record { rate = head.rate; frames = head.frames; shares = b.shares; cues = cues_of b })

-- what goes on from the list with the record of this number, unless that has a fault
abbrev pub read_on : ℕ → Result Begun Offence → (Begun → Result Listing CueFault) → Result Listing CueFault
read_on number (Ok b) rest = rest b
read_on number (Err offence) rest = Err (in_record number offence)

-- the list that these records give after those before, the first of them of this number
abbrev pub read_from : Begun → ℕ → List Record → Result Listing CueFault
read_from b number [] = list_ended b b.head number
read_from b number (r ∷ rs) = read_on number (next b r) (λ more. read_from more (number + 1) rs)

-- the cue list that records spell, or their first fault
abbrev pub spelled_list : List Record → Result Listing CueFault
spelled_list records = read_from nothing 1 records

-- the cue list that bytes spell, or the first fault of their records
abbrev pub read_list : List ℕ → Result Listing CueFault
read_list bytes = spelled_list (records_of bytes)
