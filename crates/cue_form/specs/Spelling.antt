-- Believed: the program's answer stands on these definitions.
-- The records that spell a cue list: its head, then its shares, then each cue with its attributes and its runs. A number is spelled in
-- decimal digits, a text in UTF-8.
use Rattle.std.specs.Prelude.{◌≡◌, ℕ, if◌then◌else◌, List, [], ◌∷◌, ◌++◌, map, flat_map, codes, decimal, encode_utf8_all, Option, Some, None, option_to_list}
use Rattle.cc_base.specs.declared.rate.Rate.{Rate}
use Rattle.cc_base.specs.declared.rate.Rate.TheVariants as rate
use Rattle.line21_codes.specs.Channels.{channel_name}
use Rattle.line21_codes.specs.PenWords.{colour_word, italic_mark, underline_mark}
use Rattle.dtvcc_codes.specs.declared.pens.Fill.{Fill}
use Rattle.dtvcc_codes.specs.declared.pens.PenColors.{PenColors}
use Rattle.dtvcc_codes.specs.declared.pens.Rgb.{Rgb}
use Rattle.dtvcc_codes.specs.declared.windows.WinAttr.{WinAttr}
use Rattle.cue_form.specs.Begun.{AreOfVersion, Begun, cues_of}
use Rattle.cue_types.specs.Listing.{Listing, IsFormed}
use Rattle.cue_form.specs.Records.{Field, Record}
use Rattle.cue_types.specs.declared.cue.Cue.{Cue}
use Rattle.cue_types.specs.declared.cue.Kind.{Kind}
use Rattle.cue_types.specs.declared.cue.Kind.TheVariants as kind
use Rattle.cue_types.specs.declared.cue.Pen.{Pen}
use Rattle.cue_types.specs.declared.cue.Pen.TheVariants as pen
use Rattle.cue_types.specs.declared.cue.Run.{Run}
use Rattle.cue_types.specs.declared.head.Head.{Head}
use Rattle.cue_types.specs.declared.head.Version.{Version}
use Rattle.cue_types.specs.declared.head.Version.TheVariants as version
use Rattle.cue_types.specs.declared.list.Share.{Share}

-- the word of a rate
abbrev pub rate_word : Rate → Field
rate_word rate.F2997 = codes "29.97"
rate_word rate.F30 = codes "30"
rate_word rate.F5994 = codes "59.94"
rate_word rate.F60 = codes "60"
rate_word _ = []

-- the word of a pen
abbrev pub pen_word : Pen → Field
pen_word (pen.Line21 style) = colour_word style.colour ++ italic_mark style.italic ++ underline_mark style.underline
pen_word (pen.Dtv italic underline) = codes "plain" ++ italic_mark italic ++ underline_mark underline

-- the word of a HIDE, which may be empty
abbrev pub hide_word : Option ℕ → Field
hide_word None = []
hide_word (Some hide) = decimal hide

-- the word of a version
abbrev pub version_word : Version → Field
version_word version.One = codes "1"
version_word version.Two = codes "2"

-- ccsuite,VERSION,RATE,FRAMES
abbrev pub head_record : Head → Record
head_record head = codes "ccsuite" ∷ version_word head.version ∷ rate_word head.rate ∷ decimal head.frames ∷ []

-- share,SERVICE,BYTES
abbrev pub share_record : Share → Record
share_record share = codes "share" ∷ decimal share.service ∷ decimal share.bytes ∷ []

-- pop,CH,LOAD,SHOW,HIDE
-- paint,CH,LOAD,SHOW,HIDE
-- roll,CH,N,LOAD,SHOW,HIDE
-- win,SERVICE,ID,LOAD,SHOW,HIDE,DELAY,ANCHOR,AV,AH,ROWS,COLS,PRIORITY,WS,PS
abbrev pub cue_record : Kind → Cue → Record
cue_record (kind.Pop channel) cue =
    codes "pop" ∷ channel_name channel ∷ decimal cue.load ∷ decimal cue.show ∷ hide_word cue.hide ∷ []
cue_record (kind.Paint channel) cue =
    codes "paint" ∷ channel_name channel ∷ decimal cue.load ∷ decimal cue.show ∷ hide_word cue.hide ∷ []
cue_record (kind.Roll channel rows) cue =
    codes "roll" ∷ channel_name channel ∷ decimal rows ∷ decimal cue.load ∷ decimal cue.show ∷ hide_word cue.hide ∷ []
cue_record (kind.Win w) cue =
    codes "win" ∷ decimal w.service ∷ decimal w.id ∷ decimal cue.load ∷ decimal cue.show ∷ hide_word cue.hide
    ∷ decimal w.delay ∷ decimal w.anchor ∷ decimal w.av ∷ decimal w.ah ∷ decimal w.rows ∷ decimal w.cols
    ∷ decimal w.priority ∷ decimal w.ws ∷ decimal w.ps ∷ []

-- run,ROW,COL,PEN,TEXT
abbrev pub run_record : Run → Record
run_record run = codes "run" ∷ decimal run.row ∷ decimal run.col ∷ pen_word run.pen ∷ encode_utf8_all run.text ∷ []

-- the digits of a colour
abbrev pub rgb_word : Rgb → Field
rgb_word rgb = decimal rgb.r ++ decimal rgb.g ++ decimal rgb.b

abbrev pub fill_word : Fill → Field
fill_word fill = decimal fill.opacity ++ decimal fill.r ++ decimal fill.g ++ decimal fill.b

-- attr,JUSTIFY,PRINT,SCROLL,WRAP,EFFECT,DIR,SPEED,FILL,KIND,BORDER
abbrev pub attribute_record : WinAttr → Record
attribute_record a =
    codes "attr" ∷ decimal a.justify ∷ decimal a.print ∷ decimal a.scroll ∷ decimal (if a.wrap then 1 else 0) ∷ decimal a.effect
    ∷ decimal a.effect_dir ∷ decimal a.effect_speed ∷ fill_word a.fill ∷ decimal a.border_kind ∷ rgb_word a.border ∷ []

-- colour,FG,BG,EDGE
abbrev pub colour_record : PenColors → Record
colour_record colors = codes "colour" ∷ fill_word colors.fg ∷ fill_word colors.bg ∷ rgb_word colors.edge ∷ []

-- the record of a window's own attributes, where it has them
abbrev pub attribute_records : Kind → List Record
attribute_records (kind.Pop channel) = []
attribute_records (kind.Paint channel) = []
attribute_records (kind.Roll channel rows) = []
attribute_records (kind.Win window) = map attribute_record (option_to_list window.attr)

-- a run, and its own colours directly after it, where it has them
abbrev pub run_records : Run → List Record
run_records run = run_record run ∷ map colour_record (option_to_list run.colors)

-- a cue, its window's attributes directly after it, and its runs
abbrev pub cue_records : Cue → List Record
cue_records cue = cue_record cue.kind cue ∷ (attribute_records cue.kind ++ flat_map run_records cue.runs)

-- a cue list of a version: the head, the shares, the cues
abbrev pub list_records : Version → Listing → List Record
list_records version l =
    head_record (record { version = version; rate = l.rate; frames = l.frames })
    ∷ (map share_record l.shares ++ flat_map cue_records l.cues)

-- these records spell this cue list, in a version that has what it has
pub record SpellsList (records : List Record) (l : Listing) : Type 0 where
  pub version : Version
  pub are : records ≡ list_records version l
  pub formed : IsFormed l
  pub allowed : AreOfVersion version l.cues

-- a begun list
abbrev pub begun_records : Begun → List Record
begun_records b = map head_record (option_to_list b.head) ++ (map share_record b.shares ++ flat_map cue_records (cues_of b))
