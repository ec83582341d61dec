-- The words of rates, channels, pens and of a HIDE are read as what they spell.
use Rattle.std.proofs.Common.{◌≡◌, ℕ, ◌==◌, Bool, true, false, length, Option, Some, None, decimal, refl, arith, ne_eqb}
use Rattle.std.proofs.lemmas.Fmt.{decimal_nonempty}
use Rattle.cc_base.specs.declared.rate.Rate.{Rate}
use Rattle.cc_base.specs.declared.rate.Rate.TheVariants as rate
use Rattle.line21_codes.specs.declared.channels.Chan.{Chan}
use Rattle.line21_codes.specs.declared.channels.Chan.TheVariants as chan
use Rattle.line21_codes.specs.declared.styles.Colour.{Colour}
use Rattle.line21_codes.specs.declared.styles.Colour.TheVariants as colour
use Rattle.line21_codes.specs.Channels.{channel_name}
use Rattle.cue_types.specs.Cues.{IsFrameOrNone}
use Rattle.cue_form.specs.Fields.{channel_field, pen_field, rate_field}
use Rattle.cue_form.specs.Form.{frame_or_none_field}
use Rattle.cue_types.specs.Line21Cues.{IsAuthoredChannel}
use Rattle.cue_types.specs.Listing.{IsListRate}
use Rattle.cue_form.specs.Spelling.{hide_word, pen_word, rate_word}
use Rattle.cue_types.specs.declared.cue.Pen.TheVariants as pen
use Rattle.cue_form.proofs.NumberFacts.{frame_field-decimal}

-- a rate's word is read
pub rate_field-rate_word : (r : Rate) → IsListRate r → rate_field (rate_word r) ≡ Some r
rate_field-rate_word rate.F2997 is = refl
rate_field-rate_word rate.F30 is = refl
rate_field-rate_word rate.F23976 is = absurd is
rate_field-rate_word rate.F24 is = absurd is
rate_field-rate_word rate.F25 is = absurd is
rate_field-rate_word rate.F50 is = absurd is
rate_field-rate_word rate.F5994 is = refl
rate_field-rate_word rate.F60 is = refl

-- a channel's word is read
pub channel_field-channel_name : (c : Chan) → IsAuthoredChannel c → channel_field (channel_name c) ≡ Some c
channel_field-channel_name chan.Cc1 is = refl
channel_field-channel_name chan.Cc3 is = refl
channel_field-channel_name chan.Cc2 is = absurd is
channel_field-channel_name chan.Cc4 is = absurd is

-- a pen's word is read
pub pen_field-pen_word : (c : Colour) (i u : Bool) → (i ≡ true → c ≡ colour.White)
    → pen_field (pen_word (pen.Line21 (record { colour = c; italic = i; underline = u }))) ≡ Some (record { colour = c; italic = i; underline = u })
pen_field-pen_word colour.White false false white = refl
pen_field-pen_word colour.White false true white = refl
pen_field-pen_word colour.White true false white = refl
pen_field-pen_word colour.White true true white = refl
pen_field-pen_word colour.Green false false white = refl
pen_field-pen_word colour.Green false true white = refl
pen_field-pen_word colour.Green true u white = let q = white refl in cc
pen_field-pen_word colour.Blue false false white = refl
pen_field-pen_word colour.Blue false true white = refl
pen_field-pen_word colour.Blue true u white = let q = white refl in cc
pen_field-pen_word colour.Cyan false false white = refl
pen_field-pen_word colour.Cyan false true white = refl
pen_field-pen_word colour.Cyan true u white = let q = white refl in cc
pen_field-pen_word colour.Red false false white = refl
pen_field-pen_word colour.Red false true white = refl
pen_field-pen_word colour.Red true u white = let q = white refl in cc
pen_field-pen_word colour.Yellow false false white = refl
pen_field-pen_word colour.Yellow false true white = refl
pen_field-pen_word colour.Yellow true u white = let q = white refl in cc
pen_field-pen_word colour.Magenta false false white = refl
pen_field-pen_word colour.Magenta false true white = refl
pen_field-pen_word colour.Magenta true u white = let q = white refl in cc

-- a HIDE's word is read, an empty one too
pub frame_or_none_field-hide_word : (hide : Option ℕ) → IsFrameOrNone hide → frame_or_none_field (hide_word hide) ≡ Some hide
frame_or_none_field-hide_word None fits = refl
frame_or_none_field-hide_word (Some frame) fits =
    let some = decimal_nonempty frame (omega arith) in
    let long : (length (decimal frame) == 0) ≡ false = ne_eqb (length (decimal frame)) 0 (omega arith) in
    rw (long, frame_field-decimal frame fits) refl
