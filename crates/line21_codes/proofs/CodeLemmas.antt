-- Each code that can be written is read back, in both fields; and what is read can be written or is skipped.
use Rattle.std.proofs.Common.{◌≡◌, ℕ, ◌+◌, ◌<◌, ◌≤◌, ◌&&◌, ◌||◌, Bool, true, false, nat_lt, nat_le, if◌then◌else◌, refl, sym, ap, subst, ◌∙◌, ◌↔◌, arith}
use Rattle.std.proofs.lemmas.Bool.Decides.{nat_tests}
use Rattle.std.proofs.lemmas.Bool.{and_parts}
use Rattle.std.specs.Bool.{beq}
use Rattle.std.specs.Cmp.{booleans_Decides}
use Rattle.line21_codes.specs.declared.channels.FieldNumber.{FieldNumber}
use Rattle.line21_codes.specs.declared.channels.FieldNumber.TheVariants.{One}
use Rattle.line21_codes.specs.declared.codes.Code.{Code}
use Rattle.line21_codes.specs.declared.codes.Code.TheVariants.{Null, Text, Xds, Control}
use Rattle.line21_codes.specs.declared.codes.Control.{Control as ControlCode}
use Rattle.line21_codes.specs.declared.codes.Control.TheVariants.{Skipped}
use Rattle.line21_codes.specs.declared.pairs.Pair.{Pair}
use Rattle.line21_codes.specs.Parity.{with_parity, low_bits, has_odd_parity}
use Rattle.line21_codes.specs.ControlPairs.{are_control, is_control, control_at}
use Rattle.line21_codes.specs.Reading.{code_at, code_of}
use Rattle.line21_codes.specs.SkippedPairs.{is_listed}
use Rattle.line21_codes.specs.Writing.{control_bytes, code_bytes, pair_of_code}
use Rattle.line21_codes.specs.Writable.{IsWritable, IsText, is_skipped, IsReadable, is_doubled}
use Rattle.line21_codes.proofs.Tables.{all_below, at_each, implies, implies-true}
use Rattle.line21_codes.proofs.ParityLemmas.{with_parity-odd, with_parity-bits, with_parity-byte}
use Rattle.line21_codes.specs.SameStyles.{same_colour, same_style}
use Rattle.line21_codes.proofs.Same.{same_choice, same_control, same_control-true, same_code, same_code-true}
use Rattle.line21_codes.proofs.WritableLemmas.{is_white, goes_with, is_preamble, is_writable_control, is_text, IsText-true, is_writable, is_writable-true}
use Rattle.line21_codes.proofs.ControlLemmas.{reads_back, reads_back-true}

-- bytes of data channel 1, and 8 more in data channel 2, are read as their control code
channels_agree : ℕ → ℕ → Bool
channels_agree first second =
    implies (nat_le 0x10 first && nat_lt first 0x18 && nat_le 0x20 second)
    (same_code (code_at first second) (Control false (control_at first second)) && same_code (code_at (first + 8) second) (Control true (control_at first second)))

-- the whole table of control pairs
channels_test : all_below (λ first. all_below (channels_agree first) 128) 24 ≡ true
unfolding all_below channels_agree implies same_code same_control same_choice same_style same_colour
channels_test = refl

-- text pairs are read as text
text_back : ℕ → ℕ → Bool
text_back first second = implies (is_text first second) (same_code (code_at first second) (Text first second))

-- the whole table of text pairs
text_test : all_below (λ first. all_below (text_back first) 128) 128 ≡ true
unfolding all_below text_back implies is_text same_code same_control same_choice same_style same_colour
text_test = refl

-- pairs of extended data services are read as such
xds_back : ℕ → ℕ → Bool
xds_back first second = implies (nat_le 1 first) (same_code (code_at first second) (Xds first second))

-- the whole table of pairs of extended data services
xds_test : all_below (λ first. all_below (xds_back first) 128) 16 ≡ true
unfolding all_below xds_back implies same_code same_control same_choice same_style same_colour
xds_test = refl

-- every two bytes are read as a code that can be written or is skipped
is_covered : ℕ → ℕ → Bool
is_covered first second = is_skipped (code_at first second) || is_writable (code_at first second)

-- the whole table of pairs
covered_test : all_below (λ first. all_below (is_covered first) 128) 128 ≡ true
unfolding all_below is_covered is_writable is_writable_control is_preamble goes_with is_white is_text
covered_test = refl

-- two bytes are a control pair exactly where their code is sent twice
is_told : ℕ → ℕ → Bool
is_told first second = beq (are_control first second) (is_doubled (code_at first second))

-- the whole table of pairs
told_test : all_below (λ first. all_below (is_told first) 128) 128 ≡ true
unfolding all_below is_told
told_test = refl

-- a code's two bytes are below 128 and are read as the code
pub record ReadsBack (in_field : FieldNumber) (code : Code) : Type 0 where
  pub first : (code_bytes in_field code).0 < 128
  pub second : (code_bytes in_field code).1 < 128
  pub is : code_at (code_bytes in_field code).0 (code_bytes in_field code).1 ≡ code

-- a text pair
text_reads_back : (f : FieldNumber) (first second : ℕ) → IsText first second → ReadsBack f (Text first second)
unfolding text_back
text_reads_back f first second h =
    record {
      first = h.0;
      second = h.1;
      is = same_code-true (code_at first second) (Text first second)
          (implies-true (is_text first second) (same_code (code_at first second) (Text first second))
          (at_each (text_back first) 128 (at_each (λ first. all_below (text_back first) 128) 128 text_test first h.0) second h.1) (IsText-true first second h));
    }

-- a pair of extended data services
xds_reads_back : (f : FieldNumber) (first second : ℕ) → 1 ≤ first → first < 0x10 → second < 128 → ReadsBack f (Xds first second)
unfolding xds_back
xds_reads_back f first second from to below =
    record {
      first = omega arith;
      second = below;
      is = same_code-true (code_at first second) (Xds first second)
          (implies-true (nat_le 1 first) (same_code (code_at first second) (Xds first second))
          (at_each (xds_back first) 128 (at_each (λ first. all_below (xds_back first) 128) 16 xds_test first to) second below) (grind (arith, nat_tests)));
    }

-- what the bytes of a control code are
pub record ControlReadsBack (in_field : FieldNumber) (control : ControlCode) : Type 0 where
  pub from : 0x10 ≤ (control_bytes in_field control).0
  pub to : (control_bytes in_field control).0 < 0x18
  pub second_from : 0x20 ≤ (control_bytes in_field control).1
  pub second_to : (control_bytes in_field control).1 < 0x80
  pub is : control_at (control_bytes in_field control).0 (control_bytes in_field control).1 ≡ control

-- the test of a control code, as facts
control_reads_back : (f : FieldNumber) (control : ControlCode) → reads_back f control ≡ true → ControlReadsBack f control
unfolding reads_back
control_reads_back f control h =
    record {
      from = grind (arith, nat_tests, h);
      to = grind (arith, nat_tests, h);
      second_from = grind (arith, nat_tests, h);
      second_to = grind (arith, nat_tests, h);
      is = same_control-true (control_at (control_bytes f control).0 (control_bytes f control).1) control (grind (arith, nat_tests, h));
    }

-- both data channels
channels_at : (first second : ℕ) → 0x10 ≤ first → first < 0x18 → 0x20 ≤ second → second < 0x80
    → (code_at first second ≡ Control false (control_at first second)) × (code_at (first + 8) second ≡ Control true (control_at first second))
unfolding channels_agree
channels_at first second from to second_from second_to =
    let row = at_each (λ first. all_below (channels_agree first) 128) 24 channels_test first to in
    let both = implies-true (nat_le 0x10 first && nat_lt first 0x18 && nat_le 0x20 second) _ (at_each (channels_agree first) 128 row second second_to) (grind (arith, nat_tests)) in
    let parts = and_parts (same_code (code_at first second) (Control false (control_at first second))) (same_code (code_at (first + 8) second) (Control true (control_at first second))) both in
    (same_code-true (code_at first second) (Control false (control_at first second)) parts.0, same_code-true (code_at (first + 8) second) (Control true (control_at first second)) parts.1)

-- a control code of either data channel
control_code_reads_back : (f : FieldNumber) (second : Bool) (control : ControlCode) → ControlReadsBack f control → ReadsBack f (Control second control)
control_code_reads_back f false control h =
    let at = channels_at (control_bytes f control).0 (control_bytes f control).1 h.from h.to h.second_from h.second_to in
    record { first = omega (arith, h.to); second = h.second_to; is = at.0 ∙ ap (λ k. Control false k) h.is }
control_code_reads_back f true control h =
    let at = channels_at (control_bytes f control).0 (control_bytes f control).1 h.from h.to h.second_from h.second_to in
    record { first = omega (arith, h.to); second = h.second_to; is = at.1 ∙ ap (λ k. Control true k) h.is }

-- every code that can be written is read back from its bytes
pub reads_back_at : (f : FieldNumber) (code : Code) → IsWritable code → ReadsBack f code
reads_back_at f Null h = record { first = omega arith; second = omega arith; is = refl }
reads_back_at f (Text first second) h = text_reads_back f first second h
reads_back_at f (Xds first second) h = xds_reads_back f first second h.0 h.1 h.2
reads_back_at f (Control second control) h = control_code_reads_back f second control (control_reads_back f control (reads_back-true f control h))

-- the pair of two bytes below 128 is read as their code
code_of_parity : (first second : ℕ) → first < 128 → second < 128 → code_of (record { a = with_parity first; b = with_parity second }) ≡ code_at first second
unfolding code_of
code_of_parity first second below second_below =
    rw (with_parity-odd first below, with_parity-odd second second_below, with_parity-bits first below, with_parity-bits second second_below) refl

-- what is written is read back
pub written-code_of : (f : FieldNumber) (code : Code) → IsWritable code → code_of (pair_of_code f code) ≡ code
unfolding pair_of_code
written-code_of f code h =
    let back = reads_back_at f code h in
    code_of_parity (code_bytes f code).0 (code_bytes f code).1 back.first back.second ∙ back.is

-- what is written has odd parity
pub written-odd : (f : FieldNumber) (code : Code) → IsWritable code → has_odd_parity (pair_of_code f code) ≡ true
unfolding pair_of_code
written-odd f code h =
    let back = reads_back_at f code h in
    rw (with_parity-odd (code_bytes f code).0 back.first, with_parity-odd (code_bytes f code).1 back.second) refl

-- the first byte is a byte
pub written-a : (f : FieldNumber) (code : Code) → IsWritable code → (pair_of_code f code).a < 256
unfolding pair_of_code
written-a f code h = with_parity-byte (code_bytes f code).0 (reads_back_at f code h).first

-- the second byte is a byte
pub written-b : (f : FieldNumber) (code : Code) → IsWritable code → (pair_of_code f code).b < 256
unfolding pair_of_code
written-b f code h = with_parity-byte (code_bytes f code).1 (reads_back_at f code h).second

-- a control pair is one whose code is sent twice
control_at_bytes : (first second : ℕ) → first < 128 → second < 128 → are_control first second ≡ is_doubled (code_at first second)
unfolding is_told
control_at_bytes first second below second_below =
    (booleans_Decides (are_control first second) (is_doubled (code_at first second))).0
    (at_each (is_told first) 128 (at_each (λ first. all_below (is_told first) 128) 128 told_test first below) second second_below)

-- also where bad parity counts as null
doubled_if : (odd : Bool) (a b : ℕ) → a < 128 → b < 128 → (odd && are_control a b) ≡ is_doubled (if odd then code_at a b else Null)
doubled_if true a b below second_below = control_at_bytes a b below second_below
doubled_if false a b below second_below = refl

-- a control pair is one whose code is sent twice
pub is_control-code_of : (pair : Pair) → is_control pair ≡ is_doubled (code_of pair)
unfolding is_control code_of
is_control-code_of pair = doubled_if (has_odd_parity pair) (low_bits pair.a) (low_bits pair.b) (omega arith) (omega arith)

-- a control pair is written exactly for the codes that are sent twice
pub is_control-written : (f : FieldNumber) (code : Code) → IsWritable code → is_control (pair_of_code f code) ≡ is_doubled code
is_control-written f code h = is_control-code_of (pair_of_code f code) ∙ ap is_doubled (written-code_of f code h)

-- what is read and not skipped can be written
covered_at : (first second : ℕ) → first < 128 → second < 128 → is_skipped (code_at first second) ≡ false → IsWritable (code_at first second)
unfolding is_covered
covered_at first second below second_below kept =
    let row = at_each (λ first. all_below (is_covered first) 128) 128 covered_test first below in
    let test = at_each (is_covered first) 128 row second second_below in
    is_writable-true (code_at first second) (grind (arith, nat_tests, test, kept))

-- also where bad parity counts as null
code_of-writable : (odd : Bool) (a b : ℕ) → a < 128 → b < 128 → is_skipped (if odd then code_at a b else Null) ≡ false → IsWritable (if odd then code_at a b else Null)
code_of-writable true a b below second_below kept = covered_at a b below second_below kept
code_of-writable false a b below second_below kept = tt

-- what is read and not skipped can be written
pub writable_from_read : (pair : Pair) → is_skipped (code_of pair) ≡ false → IsWritable (code_of pair)
unfolding code_of
writable_from_read pair kept = code_of-writable (has_odd_parity pair) (low_bits pair.a) (low_bits pair.b) (omega arith) (omega arith) kept

-- a code that can be written is not skipped
pub IsWritable-kept : (code : Code) → IsWritable code → is_skipped code ≡ false
IsWritable-kept (Control second Skipped) h = absurd h
IsWritable-kept _ h = refl

-- the codes that can be written are those that can be read and are not skipped
pub writable_iff_readable : (code : Code) → IsWritable code ↔ (IsReadable code × (is_skipped code ≡ false))
writable_iff_readable code = (
  λ h. ((pair_of_code One code, written-a One code h, written-b One code h, written-odd One code h, written-code_of One code h), IsWritable-kept code h),
  λ (h : IsReadable code × (is_skipped code ≡ false)). let is : code_of h.0.0 ≡ code = h.0.4 in subst IsWritable is (writable_from_read h.0.0 (subst (λ c. is_skipped c ≡ false) (sym is) h.1)),
)

-- the same of any pair that is the written one
pub written_is_read : (f : FieldNumber) (code : Code) (pair : Pair) → pair ≡ pair_of_code f code → IsWritable code → code_of pair ≡ code
written_is_read f code pair is h = ap code_of is ∙ written-code_of f code h

-- the skipped bytes are the listed ones
is_as_listed : ℕ → ℕ → Bool
is_as_listed first second = beq (is_skipped (code_at first second)) (are_control first second && is_listed first second)

-- the whole table of pairs
listed_test : all_below (λ first. all_below (is_as_listed first) 128) 128 ≡ true
unfolding all_below is_as_listed
listed_test = refl

-- the skipped bytes, at each two bytes
listed_at : (first second : ℕ) → first < 128 → second < 128 → is_skipped (code_at first second) ≡ (are_control first second && is_listed first second)
unfolding is_as_listed
listed_at first second below second_below =
    (booleans_Decides (is_skipped (code_at first second)) (are_control first second && is_listed first second)).0
    (at_each (is_as_listed first) 128 (at_each (λ first. all_below (is_as_listed first) 128) 128 listed_test first below) second second_below)

-- also where bad parity counts as null
listed_if : (odd : Bool) (a b : ℕ) → a < 128 → b < 128 → is_skipped (if odd then code_at a b else Null) ≡ (odd && are_control a b && is_listed a b)
listed_if true a b below second_below = listed_at a b below second_below
listed_if false a b below second_below = refl

-- the skipped pairs are the control pairs of the list
pub skipped-listed : (pair : Pair) → is_skipped (code_of pair) ≡ (is_control pair && is_listed (low_bits pair.a) (low_bits pair.b))
unfolding is_control code_of
skipped-listed pair = listed_if (has_odd_parity pair) (low_bits pair.a) (low_bits pair.b) (omega arith) (omega arith)
