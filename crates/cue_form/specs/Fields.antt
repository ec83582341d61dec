-- Believed in part: the program's answer stands on some of these definitions.
-- The values of fields: numbers, rates, channels and pens.
use Rattle.std.specs.Prelude.{ℕ, ◌-◌, Bool, true, false, ◌&&◌, nat_le, if◌then◌else◌, List, [], ◌∷◌, length, take, drop, codes, bytes_eq, Option, Some, None, option_map}
use Rattle.cc_base.specs.declared.rate.Rate.{Rate}
use Rattle.cc_base.specs.declared.rate.Rate.TheVariants as rate
use Rattle.line21_codes.specs.declared.channels.Chan.{Chan}
use Rattle.line21_codes.specs.declared.channels.Chan.TheVariants as chan
use Rattle.line21_codes.specs.declared.styles.Colour.{Colour}
use Rattle.line21_codes.specs.declared.styles.Colour.TheVariants as colour
use Rattle.line21_codes.specs.declared.styles.Style.{Style}
use Rattle.dtvcc_codes.specs.declared.pens.Fill.{Fill}
use Rattle.dtvcc_codes.specs.declared.pens.Rgb.{Rgb}
use Rattle.cue_types.specs.declared.cue.Pen.{Pen}
use Rattle.cue_types.specs.declared.cue.Pen.TheVariants as pen
pub use Rattle.cue_form.specs.Numbers.{number_field, number_within}
use Rattle.cue_form.specs.Records.{Field}

-- the number of a frame
abbrev pub frame_field : Field → Option ℕ
frame_field text = number_within 0 4294967295 text

-- what a word names in a table of words
abbrev pub named : {A : Type 0} → List (Field × A) → Field → Option A
named [] text = None
named (entry ∷ table) text = if bytes_eq text entry.0 then Some entry.1 else named table text

-- the rates of lists, each by its word
abbrev pub rate_words : List (Field × Rate)
rate_words = (codes "29.97", rate.F2997) ∷ (codes "30", rate.F30) ∷ (codes "59.94", rate.F5994) ∷ (codes "60", rate.F60) ∷ []

-- a rate of lists
abbrev pub rate_field : Field → Option Rate
rate_field text = named rate_words text

-- the channels that cues are authored on, each by its word
abbrev pub channel_words : List (Field × Chan)
channel_words = (codes "CC1", chan.Cc1) ∷ (codes "CC3", chan.Cc3) ∷ []

abbrev pub channel_field : Field → Option Chan
channel_field text = named channel_words text

-- the pens of line 21 before their underline, each by its word: a colour, and whether it is in italics
abbrev pub line21_words : List (Field × (Colour × Bool))
line21_words =
    (codes "white", (colour.White, false))
    ∷ (codes "green", (colour.Green, false))
    ∷ (codes "blue", (colour.Blue, false))
    ∷ (codes "cyan", (colour.Cyan, false))
    ∷ (codes "red", (colour.Red, false))
    ∷ (codes "yellow", (colour.Yellow, false))
    ∷ (codes "magenta", (colour.Magenta, false))
    ∷ (codes "white-i", (colour.White, true))
    ∷ []

-- the style of such a pen, underlined or not
abbrev pub plain_pen_field : Bool → Field → Option Style
plain_pen_field underline text =
    option_map (λ plain. record { colour = plain.0; italic = plain.1; underline = underline }) (named line21_words text)

-- the style of a line 21 pen; -u at the end underlines
abbrev pub pen_field : Field → Option Style
pen_field text =
    if bytes_eq (drop (length text - 2) text) (codes "-u")
    then plain_pen_field true (take (length text - 2) text)
    else plain_pen_field false text

-- the pens of windows, each by its word
abbrev pub plain_words : List (Field × Pen)
plain_words =
    (codes "plain", pen.Dtv false false)
    ∷ (codes "plain-i", pen.Dtv true false)
    ∷ (codes "plain-u", pen.Dtv false true)
    ∷ (codes "plain-i-u", pen.Dtv true true)
    ∷ []

-- a digit from 0 to 3
abbrev pub is_two_bits : ℕ → Bool
is_two_bits digit = nat_le 48 digit && nat_le digit 51

-- three digits: red, green and blue
abbrev pub rgb_field : Field → Option Rgb
rgb_field (r ∷ (g ∷ (b ∷ []))) =
    if is_two_bits r && is_two_bits g && is_two_bits b then Some (record { r = r - 48; g = g - 48; b = b - 48 }) else None
rgb_field _ = None

-- four digits: opacity, red, green and blue
abbrev pub fill_field : Field → Option Fill
fill_field (o ∷ (r ∷ (g ∷ (b ∷ [])))) =
    if is_two_bits o && is_two_bits r && is_two_bits g && is_two_bits b
    then Some (record { opacity = o - 48; r = r - 48; g = g - 48; b = b - 48 })
    else None
fill_field _ = None
