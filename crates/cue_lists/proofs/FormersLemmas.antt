-- Before the first cue nothing is remembered.
use Rattle.std.proofs.Common.{◌≡◌, ℕ, zero, suc, ◌+◌, ◌*◌, ◌&&◌, Bool, true, List, [], ◌∷◌, Option, Some, None, refl}
use Rattle.std.specs.Prelude.{is_none, slice_index_or}
use Rattle.line21_codes.specs.declared.channels.Chan.{Chan}
use Rattle.line21_codes.specs.declared.channels.Chan.TheVariants as chan
use Rattle.cue_lists.specs.Rules.Formers.{Remembers, last_on}
use Rattle.cue_lists.specs.declared.rules.formers.Formers.{Formers}

-- no number is there
abbrev pub are_none : List (Option ℕ) → Bool
are_none [] = true
are_none (number ∷ numbers) = is_none number && are_none numbers

none_at : (numbers : List (Option ℕ)) → are_none numbers ≡ true → (place : ℕ) → slice_index_or numbers place None ≡ None
none_at [] none place = refl
none_at (None ∷ numbers) none zero = refl
none_at (None ∷ numbers) none (suc place) = none_at numbers none place
none_at (Some number ∷ numbers) none place = cc

pub remembers_none : (f : Formers) → f.cc1 ≡ None → f.cc2 ≡ None → f.cc3 ≡ None → f.cc4 ≡ None → are_none f.services ≡ true → are_none f.windows ≡ true
    → Remembers f []
remembers_none f one two three four services windows = record {
  last = of_channel;
  services = λ service below. none_at f.services services service;
  windows = λ service id below within. none_at f.windows windows (service * 8 + id);
}
  where
    of_channel : (channel : Chan) → last_on f channel ≡ None
    of_channel chan.Cc1 = one
    of_channel chan.Cc2 = two
    of_channel chan.Cc3 = three
    of_channel chan.Cc4 = four
