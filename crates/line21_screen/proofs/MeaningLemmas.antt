-- The meaning of a list of pairs, a pair at a time.
use Rattle.std.proofs.Common.{◌≡◌, true, false, List, [], ◌∷◌, refl, sym, ◌∙◌}
use Rattle.line21_codes.specs.declared.channels.FieldNumber.{FieldNumber}
use Rattle.line21_codes.specs.declared.channels.DataChannel.TheVariants.{One}
use Rattle.line21_codes.specs.declared.codes.Code.{Code}
use Rattle.line21_codes.specs.declared.pairs.Pair.{Pair}
use Rattle.line21_codes.specs.Reading.{code_of}
use Rattle.line21_codes.specs.Repeats.{is_ignored}
use Rattle.line21_screen.specs.Channels.{ChannelState, new_channel}
use Rattle.line21_screen.specs.Fields.{FieldState, after_code}
use Rattle.line21_screen.specs.Meaning.{after}

-- a field of two new channels had no pair
pub after-none : (f : FieldNumber) (first second : ChannelState) → first ≡ new_channel → second ≡ new_channel → record { first = first; second = second; selected = One; xds = false } ≡ after f []
unfolding after
after-none f first second first_new second_new = rw (first_new, second_new) refl

-- a pair that is no repeat does what its code says
pub after-acts : (f : FieldNumber) (before : List Pair) (pair : Pair) → is_ignored before pair ≡ false → after f (pair ∷ before) ≡ after_code f (code_of pair) (after f before)
unfolding after
after-acts f before pair acts = rw acts refl

-- a repeat does nothing
pub after-ignored : (f : FieldNumber) (before : List Pair) (pair : Pair) → is_ignored before pair ≡ true → after f (pair ∷ before) ≡ after f before
unfolding after
after-ignored f before pair ignored = rw ignored refl

-- a step of the object that is a step of the meaning
pub stepped : (f own : FieldNumber) (code : Code) (before : List Pair) (pair : Pair) (s next : FieldState) → own ≡ f → code ≡ code_of pair → s ≡ after f before → false ≡ is_ignored before pair → next ≡ after_code own code s → next ≡ after f (pair ∷ before)
stepped f own code before pair s next of_field is state acts step =
    step ∙ rw (of_field, is, state) (sym (after-acts f before pair (sym acts)))
