-- Believed: the program's answer stands on these definitions.
-- What the fields of a record are after its kind word, and where a record of a kind may stand, in the light of the list that the
-- records before it begin.
use Rattle.std.specs.Prelude.{◌≡◌, ◌≢◌, ◌+◌, ◌-◌, ◌≤◌, ℕ, max, min, true, List, [], ◌∷◌, ◌++◌, length, codes, decimal, encode_utf8_all, chars, IsUtf8, All, Option, Some, None, IfSome, IsSome, IsSomeAnd}
use Rattle.cc_base.specs.declared.rate.Rate.{Rate}
use Rattle.line21_codes.specs.Channels.{channel_name}
use Rattle.line21_codes.specs.declared.channels.Chan.{Chan}
use Rattle.dtvcc_codes.specs.Spellable.{IsFill, IsRgb}
use Rattle.dtvcc_codes.specs.declared.pens.Fill.{Fill}
use Rattle.dtvcc_codes.specs.declared.pens.Rgb.{Rgb}
use Rattle.cue_form.specs.Begun.{Begun}
use Rattle.cue_form.specs.Form.{cue_columns, is_coded}
use Rattle.cue_form.specs.Records.{Field, Record, field}
use Rattle.cue_form.specs.Spelling.{fill_word, hide_word, pen_word, rate_word, rgb_word, version_word}
use Rattle.cue_types.specs.Cues.{IsFrameOrNone}
use Rattle.cue_types.specs.Line21Cues.{IsAuthoredChannel, IsLine21Pen}
use Rattle.cue_types.specs.Listing.{IsListRate}
use Rattle.cue_types.specs.Shares.{share_room, shares_taken}
use Rattle.cue_types.specs.Windows.{IsWindowPen}
use Rattle.cue_types.specs.declared.cue.Cue.{Cue}
use Rattle.cue_types.specs.declared.cue.Kind.{Kind}
use Rattle.cue_types.specs.declared.cue.Kind.TheVariants as kind
use Rattle.cue_types.specs.declared.cue.Pen.{Pen}
use Rattle.cue_types.specs.declared.cue.Run.{Run}
use Rattle.cue_types.specs.declared.cue.WinCue.{WinCue}
use Rattle.cue_types.specs.declared.head.Head.{Head}
use Rattle.cue_types.specs.declared.head.Version.{Version}
use Rattle.cue_types.specs.declared.head.Version.TheVariants as version
use Rattle.cue_types.specs.declared.list.Share.{Share}
use Rattle.cue_form.specs.declared.record_kind.RecordKind.{RecordKind}
use Rattle.cue_form.specs.declared.record_kind.RecordKind.TheVariants as record_kind

-- what is written in a field
pub data FieldForm : Type 0 where
  -- the word of a version, of a rate of lists, and of a channel that cues are authored on
  VersionField : FieldForm
  RateField : FieldForm
  ChannelField : FieldForm
  -- a number from the first to the second
  NumberField : ℕ → ℕ → FieldForm
  -- a service, 1 to 6, that has none of these shares
  ServiceField : List Share → FieldForm
  -- the number of a frame, or nothing
  HideField : FieldForm
  -- digits from 0 to 3: opacity, red, green and blue, or these three alone
  FillField : FieldForm
  RgbField : FieldForm
  -- the pen and the characters of a run of a cue, beside the field of its COL
  PenField : Kind → FieldForm
  TextField : Kind → Field → FieldForm

-- a pen of a cue of the kind
abbrev pub IsPenOf : Kind → Pen → Type 0
IsPenOf (kind.Win window) pen = IsWindowPen pen
IsPenOf _ pen = IsLine21Pen pen

-- a field has its form. A text has one character at least, each with a code in a cue of the kind, and fits from its column on
abbrev pub HasForm : FieldForm → Field → Type 0
HasForm VersionField field = (v : Version) × (field ≡ version_word v)
HasForm RateField field = (r : Rate) × IsListRate r × (field ≡ rate_word r)
HasForm ChannelField field =
    (channel : Chan) × IsAuthoredChannel channel × (field ≡ channel_name channel)
HasForm (NumberField low high) field = (n : ℕ) × (low ≤ n) × (n ≤ high) × (field ≡ decimal n)
HasForm (ServiceField shares) field =
    (n : ℕ) × (1 ≤ n) × (n ≤ 6) × All (λ (share : Share). share.service ≢ n) shares
    × (field ≡ decimal n)
HasForm HideField field = (hide : Option ℕ) × IsFrameOrNone hide × (field ≡ hide_word hide)
HasForm FillField field = (fill : Fill) × IsFill fill × (field ≡ fill_word fill)
HasForm RgbField field = (rgb : Rgb) × IsRgb rgb × (field ≡ rgb_word rgb)
HasForm (PenField kind) field = (pen : Pen) × IsPenOf kind pen × (field ≡ pen_word pen)
HasForm (TextField kind at) field =
    (col : ℕ) × (text : List ℕ) × (at ≡ decimal col) × (field ≡ encode_utf8_all text)
    × (1 ≤ length text) × All (λ ch. is_coded kind ch ≡ true) text
    × (col + length text ≤ cue_columns kind)

-- the kind word of a record
abbrev pub kind_word : RecordKind → Field
kind_word record_kind.Ccsuite = codes "ccsuite"
kind_word record_kind.Share = codes "share"
kind_word record_kind.Pop = codes "pop"
kind_word record_kind.Paint = codes "paint"
kind_word record_kind.Roll = codes "roll"
kind_word record_kind.Win = codes "win"
kind_word record_kind.Attr = codes "attr"
kind_word record_kind.Run = codes "run"
kind_word record_kind.Colour = codes "colour"

-- where a record of a kind may stand: the head first, shares before the first cue, attributes directly below a window and colours
-- directly below a run in one, both in version 2, runs below a cue, and a cue below the run of another
abbrev pub MayStand : Begun → RecordKind → Type 0
MayStand b record_kind.Ccsuite = b.head ≡ None
MayStand b record_kind.Share = IsSome b.head × (b.last ≡ None)
MayStand b record_kind.Attr =
    IsSomeAnd b.head (λ head. head.version ≡ version.Two)
    × IsSomeAnd b.last
    (λ cue. (cue.runs ≡ [])
    × ((window : WinCue) × (cue.kind ≡ kind.Win window) × (window.attr ≡ None)))
MayStand b record_kind.Run = IsSome b.last
MayStand b record_kind.Colour =
    IsSomeAnd b.head (λ head. head.version ≡ version.Two)
    × IsSomeAnd b.last (λ cue. ((window : WinCue) × (cue.kind ≡ kind.Win window))
    × ((runs : List Run) × (run : Run) × (cue.runs ≡ runs ++ run ∷ []) × (run.colors ≡ None)))
MayStand b _ = IsSome b.head × IfSome b.last (λ cue. cue.runs ≢ [])

-- the bytes that shares may take at the rate of the head
abbrev pub room_at : Option Head → ℕ
room_at None = 0
room_at (Some head) = share_room head.rate

-- a frame
abbrev pub frame_form : FieldForm
frame_form = NumberField 0 4294967295

-- ROW of a run: in line 21 from 1 to 15, in a roll-up cue its first run's, with room for its rows, and in a window from 0
abbrev pub row_form : Kind → List Run → FieldForm
row_form (kind.Pop channel) runs = NumberField 1 15
row_form (kind.Paint channel) runs = NumberField 1 15
row_form (kind.Roll channel rows) [] = NumberField (max 1 rows) 15
row_form (kind.Roll channel rows) (run ∷ runs) =
    NumberField (max (max 1 rows) run.row) (min 15 run.row)
row_form (kind.Win window) runs = NumberField 0 (window.rows - 1)

-- run,ROW,COL,PEN,TEXT of the last cue
abbrev pub run_forms : Option Cue → Record → List FieldForm
run_forms None r = []
run_forms (Some cue) r =
    row_form cue.kind cue.runs ∷ NumberField 0 (cue_columns cue.kind - 1) ∷ PenField cue.kind
    ∷ TextField cue.kind (field r 2) ∷ []

-- the fields of a record after its kind word
abbrev pub forms_of : Begun → RecordKind → Record → List FieldForm
forms_of b record_kind.Ccsuite r = VersionField ∷ RateField ∷ NumberField 1 9999999999 ∷ []
forms_of b record_kind.Share r =
    ServiceField b.shares
    ∷ NumberField 8 (min 31 (room_at b.head - (shares_taken b.shares + 1)))
    ∷ []
forms_of b record_kind.Pop r = ChannelField ∷ frame_form ∷ frame_form ∷ frame_form ∷ []
forms_of b record_kind.Paint r = ChannelField ∷ frame_form ∷ frame_form ∷ frame_form ∷ []
forms_of b record_kind.Roll r =
    ChannelField ∷ NumberField 2 4 ∷ frame_form ∷ frame_form ∷ HideField ∷ []
forms_of b record_kind.Win r =
    NumberField 1 6 ∷ NumberField 0 7 ∷ frame_form ∷ frame_form ∷ frame_form ∷ NumberField 0 255
    ∷ NumberField 0 8 ∷ NumberField 0 74 ∷ NumberField 0 209 ∷ NumberField 1 12 ∷ NumberField 1 42
    ∷ NumberField 0 7 ∷ NumberField 1 7 ∷ NumberField 1 7 ∷ []
forms_of b record_kind.Attr r =
    NumberField 0 3 ∷ NumberField 0 3 ∷ NumberField 0 3 ∷ NumberField 0 1 ∷ NumberField 0 2
    ∷ NumberField 0 3 ∷ NumberField 0 15 ∷ FillField ∷ NumberField 0 5 ∷ RgbField ∷ []
forms_of b record_kind.Run r = run_forms b.last r
forms_of b record_kind.Colour r = FillField ∷ FillField ∷ RgbField ∷ []

-- a field of characters, of which one has no code in a cue of the kind
abbrev pub LacksCode : FieldForm → Field → Type 0
LacksCode (TextField kind at) field =
    IsUtf8 field × (1 ≤ length (chars field))
    × (All (λ ch. is_coded kind ch ≡ true) (chars field) → ⊥)
LacksCode _ field = ⊥
