-- Doubled codes, null pairs and end of caption codes.
use Rattle.std.proofs.Common.{◌≡◌, ℕ, ◌+◌, ◌%◌, ◌==◌, ◌&&◌, Bool, true, false, if◌then◌else◌, List, ◌∷◌, refl, sym, ap, ◌∙◌, arith}
use Rattle.std.proofs.lemmas.Bool.Decides.{nat_tests, Decides-eqb}
use Rattle.std.specs.Cmp.Derive.{both_true}
use Rattle.line21_codes.specs.declared.channels.FieldNumber.{FieldNumber}
use Rattle.line21_codes.specs.Channels.{numbered_channel}
use Rattle.line21_codes.specs.declared.codes.Code.TheVariants.{Null, Control}
use Rattle.line21_codes.specs.declared.codes.Control.TheVariants.{Eoc}
use Rattle.line21_codes.specs.declared.pairs.Pair.{Pair}
use Rattle.line21_codes.specs.ControlPairs.{is_control}
use Rattle.line21_codes.specs.Reading.{code_of}
use Rattle.line21_codes.specs.Repeats.{is_ignored, number_behind, same_pair}
use Rattle.line21_codes.proofs.CodeLemmas.{is_control-code_of}
use Rattle.line21_screen.specs.Fields.{FieldState, channel, after_code}
use Rattle.line21_screen.specs.Meaning.{after}
use Rattle.line21_screen.proofs.MeaningLemmas.{after-acts, after-ignored}

-- a pair equals itself
same_pair-self : (p : Pair) → same_pair p p ≡ true
same_pair-self p = both_true ((Decides-eqb p.a p.a).1 refl) ((Decides-eqb p.b p.b).1 refl)

-- a pair is ignored by its number
ignored_by : (before : List Pair) (p : Pair) → is_ignored before p ≡ (is_control p && number_behind before p % 2 == 1)
unfolding is_ignored
ignored_by before p = refl

-- the number of a pair after its equal
number_next : (before : List Pair) (p : Pair) → number_behind (p ∷ before) p ≡ (if same_pair p p then number_behind before p + 1 else 0)
unfolding number_behind
number_next before p = refl

-- one more than an even number is odd
odd_next : (n : ℕ) → (n % 2 == 1) ≡ false → ((n + 1) % 2 == 1) ≡ true
odd_next n even = grind (arith, nat_tests)

-- one more than an odd number is even
even_next : (n : ℕ) → (n % 2 == 1) ≡ true → ((n + 1) % 2 == 1) ≡ false
even_next n odd = grind (arith, nat_tests)

-- the number of a control pair decides
number_decides : (before : List Pair) (p : Pair) → is_control p ≡ true → is_ignored before p ≡ (number_behind before p % 2 == 1)
number_decides before p control = rw (ignored_by before p, control) refl

-- the number of a pair after its equal is one more
number_more : (before : List Pair) (p : Pair) → number_behind (p ∷ before) p ≡ number_behind before p + 1
number_more before p = rw (number_next before p, same_pair-self p) refl

-- after a control pair that acts, its equal is ignored
pub repeat_is_ignored : (before : List Pair) (p : Pair) → is_control p ≡ true → is_ignored before p ≡ false → is_ignored (p ∷ before) p ≡ true
repeat_is_ignored before p control acts =
    rw (number_decides (p ∷ before) p control, number_more before p)
    (odd_next (number_behind before p) (sym (number_decides before p control) ∙ acts))

-- after a repeat, its equal acts again
pub third_acts : (before : List Pair) (p : Pair) → is_control p ≡ true → is_ignored before p ≡ true → is_ignored (p ∷ before) p ≡ false
third_acts before p control ignored =
    rw (number_decides (p ∷ before) p control, number_more before p)
    (even_next (number_behind before p) (sym (number_decides before p control) ∙ ignored))

-- a control code that is sent twice acts once
pub doubled_acts_once : (f : FieldNumber) (before : List Pair) (p : Pair) → is_control p ≡ true → is_ignored before p ≡ false → after f (p ∷ p ∷ before) ≡ after_code f (code_of p) (after f before)
doubled_acts_once f before p control acts =
    after-ignored f (p ∷ before) p (repeat_is_ignored before p control acts) ∙ after-acts f before p acts

-- a null pair does nothing, whether or not it is ignored
null_by : (f : FieldNumber) (before : List Pair) (p : Pair) (ignored : Bool) → is_ignored before p ≡ ignored → code_of p ≡ Null → after f (p ∷ before) ≡ after f before
null_by f before p true is null = after-ignored f before p is
null_by f before p false is null = after-acts f before p is ∙ rw null refl

-- a null pair does nothing
pub null_does_nothing : (f : FieldNumber) (before : List Pair) (p : Pair) → code_of p ≡ Null → after f (p ∷ before) ≡ after f before
null_does_nothing f before p null = null_by f before p (is_ignored before p) refl null

-- two end of caption codes
two_flips : (f : FieldNumber) (second : Bool) (before : List Pair) (eoc : Pair) → code_of eoc ≡ Control second Eoc → is_ignored before eoc ≡ false → after f (eoc ∷ eoc ∷ eoc ∷ eoc ∷ before) ≡ after_code f (Control second Eoc) (after_code f (Control second Eoc) (after f before))
two_flips f second before eoc code acts =
    let control : is_control eoc ≡ true = is_control-code_of eoc ∙ rw code refl in
    let repeat : is_ignored (eoc ∷ before) eoc ≡ true = repeat_is_ignored before eoc control acts in
    let again : is_ignored (eoc ∷ eoc ∷ before) eoc ≡ false = third_acts (eoc ∷ before) eoc control repeat in
    let last : after f (eoc ∷ eoc ∷ eoc ∷ eoc ∷ before) ≡ after_code f (code_of eoc) (after f (eoc ∷ eoc ∷ before)) = doubled_acts_once f (eoc ∷ eoc ∷ before) eoc control again in
    let first : after f (eoc ∷ eoc ∷ before) ≡ after_code f (code_of eoc) (after f before) = doubled_acts_once f before eoc control acts in
    rw (last, first, code) refl

-- they bring the displayed memory back
back_displayed : (f : FieldNumber) (second : Bool) (s : FieldState) → (channel (numbered_channel second) (after_code f (Control second Eoc) (after_code f (Control second Eoc) s))).displayed ≡ (channel (numbered_channel second) s).displayed
back_displayed f true s = refl
back_displayed f false s = refl

-- and the hidden one
back_hidden : (f : FieldNumber) (second : Bool) (s : FieldState) → (channel (numbered_channel second) (after_code f (Control second Eoc) (after_code f (Control second Eoc) s))).hidden ≡ (channel (numbered_channel second) s).hidden
back_hidden f true s = refl
back_hidden f false s = refl

-- two doubled end of caption codes bring the displayed memory back
pub flips-displayed : (f : FieldNumber) (second : Bool) (before : List Pair) (eoc : Pair) → code_of eoc ≡ Control second Eoc → is_ignored before eoc ≡ false → (channel (numbered_channel second) (after f (eoc ∷ eoc ∷ eoc ∷ eoc ∷ before))).displayed ≡ (channel (numbered_channel second) (after f before)).displayed
flips-displayed f second before eoc code acts =
    ap (λ s. (channel (numbered_channel second) s).displayed) (two_flips f second before eoc code acts) ∙ back_displayed f second (after f before)

-- and the hidden one
pub flips-hidden : (f : FieldNumber) (second : Bool) (before : List Pair) (eoc : Pair) → code_of eoc ≡ Control second Eoc → is_ignored before eoc ≡ false → (channel (numbered_channel second) (after f (eoc ∷ eoc ∷ eoc ∷ eoc ∷ before))).hidden ≡ (channel (numbered_channel second) (after f before)).hidden
flips-hidden f second before eoc code acts =
    ap (λ s. (channel (numbered_channel second) s).hidden) (two_flips f second before eoc code acts) ∙ back_hidden f second (after f before)
