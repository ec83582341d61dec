-- Where a packet ends, in words.
use Rattle.std.proofs.Common.{◌≡◌, ℕ, suc, ◌+◌, ◌-◌, ◌*◌, ◌/◌, ◌%◌, ◌≤◌, nat_le, nat_lt, Bool, true, false, List, [], ◌∷◌, ◌++◌, length, Option, Some, None, refl, sym, ap, ◌∙◌, subst, arith}
use Rattle.std.specs.Prelude.{if◌then◌else◌, not, ◌==◌, ◌&&◌, ◌||◌}
use Rattle.std.specs.List.{All, filter, flat_map, list_any, sum}
use Rattle.std.proofs.lemmas.Bool.Decides.{nat_tests}
use Rattle.std.proofs.lemmas.List.Elements.{All-append, All-cons, All-nil}
use Rattle.std.proofs.lemmas.List.Folds.{list_any_none}
use Rattle.line21_codes.specs.declared.codes.Code.{Code}
use Rattle.line21_codes.specs.declared.codes.Code.TheVariants.{Null, Text, Xds, Control}
use Rattle.xds_packets.specs.declared.packets.XdsPacket.{XdsPacket}
use Rattle.xds_packets.specs.Segments.{Segment, data_bytes, first_mark, is_ended, is_of_type, open_of, opened, segments, segments_text, since_start, starts_class, stretch}
use Rattle.xds_packets.specs.Reading.{checks, closed_by, from_start, judged, of_packet}
use Rattle.xds_packets.specs.EndsOfPackets.{EndPairsAloneEnd, EndsBehind, IsOpenOf, PacketsEndHere}

both_true : (a b : Bool) → (a && b) ≡ true → (a ≡ true) × (b ≡ true)
both_true true b is = (refl, is)
both_true false b is = cc

not_true : (b : Bool) → not b ≡ true → b ≡ false
not_true true is = cc
not_true false is = refl

or_true : (b c : Bool) → c ≡ true → (b || c) ≡ true
or_true true c is = refl
or_true false c is = is

none_all : (test : Segment → Bool) (ss : List Segment) → list_any test ss ≡ false → All (λ s. test s ≡ false) ss
none_all test [] is = All-nil (λ s. test s ≡ false)
none_all test (s ∷ ss) is = by_test (test s) refl (none_all test ss)
  where
    by_test : (b : Bool) → test s ≡ b → (list_any test ss ≡ false → All (λ t. test t ≡ false) ss) → All (λ t. test t ≡ false) (s ∷ ss)
    by_test true at more = let wrong : true ≡ false = sym (ap (λ b. b || list_any test ss) at) ∙ is in absurd (cc)
    by_test false at more = All-cons (λ t. test t ≡ false) s ss at (more (sym (ap (λ b. b || list_any test ss) at) ∙ is))

-- the last start pair of a class
record IsLastStart (class : ℕ) (ss : List Segment) (start : Segment) (later : List Segment) : Type 0 where
  earlier : List Segment
  are : ss ≡ earlier ++ start ∷ later
  is_start : starts_class class start ≡ true
  is_last : All (λ s. starts_class class s ≡ false) later

first_is : (s t : Segment) (ss ts : List Segment) → s ∷ ss ≡ t ∷ ts → s ≡ t
first_is s t ss ts is = cc

others_are : (s t : Segment) (ss ts : List Segment) → s ∷ ss ≡ t ∷ ts → ss ≡ ts
others_are s t ss ts is = cc

last_start : (class : ℕ) (ss : List Segment) (start : Segment) (later : List Segment) → since_start class ss ≡ start ∷ later → IsLastStart class ss start later
last_start class [] start later is = cc
last_start class (s ∷ ss) start later is = by_test (starts_class class s && not (list_any (starts_class class) ss)) refl (last_start class ss start later)
  where
    by_test : (b : Bool) → (starts_class class s && not (list_any (starts_class class) ss)) ≡ b → (since_start class ss ≡ start ∷ later → IsLastStart class ss start later) → IsLastStart class (s ∷ ss) start later
    by_test true at more =
        let it : s ∷ ss ≡ start ∷ later = sym (ap (λ b. if b then s ∷ ss else since_start class ss) at) ∙ is in
        let tests = both_true (starts_class class s) (not (list_any (starts_class class) ss)) at in
        record {
          earlier = [];
          are = it;
          is_start = subst (λ t. starts_class class t ≡ true) (first_is s start ss later it) tests.0;
          is_last = subst (λ ts. All (λ t. starts_class class t ≡ false) ts) (others_are s start ss later it) (none_all (starts_class class) ss (not_true (list_any (starts_class class) ss) tests.1));
        }
    by_test false at more =
        let rest = more (sym (ap (λ b. if b then s ∷ ss else since_start class ss) at) ∙ is) in
        record { earlier = s ∷ rest.earlier; are = ap (λ r. s ∷ r) rest.are; is_start = rest.is_start; is_last = rest.is_last }

some_start : (class : ℕ) (earlier : List Segment) (start : Segment) (later : List Segment) → starts_class class start ≡ true → list_any (starts_class class) (earlier ++ start ∷ later) ≡ true
some_start class [] start later is = ap (λ b. b || list_any (starts_class class) later) is
some_start class (s ∷ earlier) start later is = or_true (starts_class class s) (list_any (starts_class class) (earlier ++ start ∷ later)) (some_start class earlier start later is)

since_last : (class : ℕ) (earlier : List Segment) (start : Segment) (later : List Segment) → starts_class class start ≡ true → All (λ s. starts_class class s ≡ false) later
    → since_start class (earlier ++ start ∷ later) ≡ start ∷ later
since_last class [] start later is none =
    ap (λ b. if b && not (list_any (starts_class class) later) then start ∷ later else since_start class later) is
    ∙ ap (λ b. if not b then start ∷ later else since_start class later) (list_any_none (starts_class class) later none)
since_last class (s ∷ earlier) start later is none =
    ap (λ b. if starts_class class s && not b then s ∷ (earlier ++ start ∷ later) else since_start class (earlier ++ start ∷ later)) (some_start class earlier start later is)
    ∙ by_test (starts_class class s) (since_last class earlier start later is none)
  where
    by_test : (b : Bool) → since_start class (earlier ++ start ∷ later) ≡ start ∷ later
        → (if b && not true then s ∷ (earlier ++ start ∷ later) else since_start class (earlier ++ start ∷ later)) ≡ start ∷ later
    by_test true more = more
    by_test false more = more

-- a class that is started is at least 1
abbrev IsFromOne : Segment → Type 0
IsFromOne s = s.is_start ≡ true → 1 ≤ s.class

opened_from_one : (code : Code) (codes : List Code) → All IsFromOne (opened code codes)
opened_from_one Null codes = All-nil IsFromOne
opened_from_one (Text first second) codes = All-nil IsFromOne
opened_from_one (Control second control) codes = All-nil IsFromOne
opened_from_one (Xds first second) codes = by_first (nat_lt first 0x0F)
  where
    the : Segment
    the = record { class = (first + 1) / 2; kind = second; is_start = first % 2 == 1; bytes = flat_map data_bytes (stretch codes); end = first_mark codes }

    by_first : (b : Bool) → All IsFromOne (if b then the ∷ [] else [])
    by_first true = All-cons IsFromOne the [] (λ odd. grind (arith, nat_tests)) (All-nil IsFromOne)
    by_first false = All-nil IsFromOne

all_from_one : (codes : List Code) → All IsFromOne (segments codes)
all_from_one [] = All-nil IsFromOne
all_from_one (code ∷ codes) = All-append IsFromOne (opened code codes) (segments codes) (opened_from_one code codes) (all_from_one codes)

one_of : (earlier : List Segment) (start : Segment) (later : List Segment) → All IsFromOne (earlier ++ start ∷ later) → IsFromOne start
one_of [] start later all = all 0 start (omega arith)
one_of (s ∷ earlier) start later all = one_of earlier start later (λ k d low. all (suc k) d (omega (arith, low)))

-- the packet that is judged
record IsJudged (class kind : ℕ) (own : List Segment) (check : ℕ) (packet : XdsPacket) : Type 0 where
  packet_is : record { class = class; kind = kind; text = segments_text own } ≡ packet
  unended : list_any is_ended own ≡ false
  fits : length (segments_text own) ≤ 32
  sums : checks class kind (segments_text own) check ≡ true

some_is : (one two : XdsPacket) → Some one ≡ Some two → one ≡ two
some_is one two is = cc

is_judged : (class kind : ℕ) (own : List Segment) (check : ℕ) (packet : XdsPacket) → judged class kind (Some own) check ≡ Some packet → IsJudged class kind own check packet
is_judged class kind own check packet is = by_test (not (list_any is_ended own) && (nat_le (length (segments_text own)) 32 && checks class kind (segments_text own) check)) refl
  where
    the : XdsPacket
    the = record { class = class; kind = kind; text = segments_text own }

    by_test : (b : Bool) → (not (list_any is_ended own) && (nat_le (length (segments_text own)) 32 && checks class kind (segments_text own) check)) ≡ b → IsJudged class kind own check packet
    by_test true at =
        let tests = both_true (not (list_any is_ended own)) (nat_le (length (segments_text own)) 32 && checks class kind (segments_text own) check) at in
        let rest = both_true (nat_le (length (segments_text own)) 32) (checks class kind (segments_text own) check) tests.1 in
        let low : nat_le (length (segments_text own)) 32 ≡ true = rest.0 in
        record {
          packet_is = some_is the packet (sym (ap (λ b. if b then Some the else None) at) ∙ is);
          unended = not_true (list_any is_ended own) tests.0;
          fits = grind (arith, nat_tests);
          sums = rest.1;
        }
    by_test false at = let wrong : None ≡ Some packet = sym (ap (λ b. if b then Some the else None) at) ∙ is in absurd (cc)

sums_forward : (class kind total check : ℕ) → 1 ≤ class → ((2 * class + kind + total + 0x0E + check) % 128 == 0) ≡ true → ((2 * class - 1) + kind + total + 0x0F + check) % 128 ≡ 0
sums_forward class kind total check low is =
    let same : (2 * class - 1) + kind + total + 0x0F + check ≡ 2 * class + kind + total + 0x0E + check = omega arith in
    let zero_is : (2 * class + kind + total + 0x0E + check) % 128 ≡ 0 = grind (arith, nat_tests) in
    ap (λ n. n % 128) same ∙ zero_is

sums_backward : (class kind total check : ℕ) → 1 ≤ class → ((2 * class - 1) + kind + total + 0x0F + check) % 128 ≡ 0 → ((2 * class + kind + total + 0x0E + check) % 128 == 0) ≡ true
sums_backward class kind total check low is =
    let same : (2 * class - 1) + kind + total + 0x0F + check ≡ 2 * class + kind + total + 0x0E + check = omega arith in
    let zero_is : (2 * class + kind + total + 0x0E + check) % 128 ≡ 0 = sym (ap (λ n. n % 128) same) ∙ is in
    grind (arith, nat_tests)

starts_are : (class : ℕ) (s : Segment) → starts_class class s ≡ true → (s.is_start ≡ true) × (s.class ≡ class)
starts_are class s is =
    let tests = both_true s.is_start (s.class == class) is in
    let at : (s.class == class) ≡ true = tests.1 in
    (tests.0, grind (arith, nat_tests))

kind_same : (s t : ℕ) → (t == s) ≡ true → t ≡ s
kind_same s t is = grind (arith, nat_tests)

module _ (codes : List Code) (check : ℕ) (packet : XdsPacket) where
  abbrev ss : List Segment
  ss = segments codes

  class_low : (start : Segment) (later : List Segment) (class : ℕ) → IsLastStart class ss start later → 1 ≤ class
  class_low start later class last =
      let is = starts_are class start last.is_start in
      let low : 1 ≤ start.class = one_of last.earlier start later (subst (All IsFromOne) last.are (all_from_one codes)) is.0 in
      subst (λ c. 1 ≤ c) is.1 low

  built : (s start : Segment) (later : List Segment) → open_of ss ≡ Some s → IsLastStart s.class ss start later → start.kind ≡ s.kind
      → IsJudged s.class s.kind (filter (is_of_type s.class s.kind) (start ∷ later)) check packet → EndsBehind ss check packet
  built s start later at last kind it = subst (EndsBehind ss check) it.packet_is (record {
    closes = subst (IsOpenOf (record { class = s.class; kind = s.kind; text = segments_text (filter (is_of_type s.class s.kind) (start ∷ later)) })) (sym at) (refl, refl);
    earlier = last.earlier;
    start = start;
    later = later;
    segments_are = last.are;
    is_start = last.is_start;
    is_last = last.is_last;
    kind_is = kind;
    unended = none_all is_ended (filter (is_of_type s.class s.kind) (start ∷ later)) it.unended;
    text_is = refl;
    fits = it.fits;
    sums = sums_forward s.class s.kind (sum (segments_text (filter (is_of_type s.class s.kind) (start ∷ later)))) check (class_low start later s.class last) it.sums;
  })

  forward_from : (s : Segment) → open_of ss ≡ Some s → (since : List Segment) → since_start s.class ss ≡ since → judged s.class s.kind (from_start s.class s.kind since) check ≡ Some packet → EndsBehind ss check packet
  forward_from s here [] at is = cc
  forward_from s here (start ∷ later) at is = by_kind (start.kind == s.kind) refl
    where
      by_kind : (b : Bool) → (start.kind == s.kind) ≡ b → EndsBehind ss check packet
      by_kind true same = built s start later here (last_start s.class ss start later at) (kind_same s.kind start.kind same)
          (is_judged s.class s.kind (filter (is_of_type s.class s.kind) (start ∷ later)) check packet
          (sym (ap (λ b. judged s.class s.kind (if b then Some (filter (is_of_type s.class s.kind) (start ∷ later)) else None) check) same) ∙ is))
      by_kind false other =
          let wrong : None ≡ Some packet = sym (ap (λ b. judged s.class s.kind (if b then Some (filter (is_of_type s.class s.kind) (start ∷ later)) else None) check) other) ∙ is in absurd (cc)

  forward : (one : Option Segment) → open_of ss ≡ one → closed_by one ss check ≡ Some packet → EndsBehind ss check packet
  forward None at is = cc
  forward (Some s) at is = forward_from s at (since_start s.class ss) refl is

  judged_is : (own : List Segment) → list_any is_ended own ≡ false → packet.text ≡ segments_text own → length packet.text ≤ 32 → checks packet.class packet.kind packet.text check ≡ true
      → judged packet.class packet.kind (Some own) check ≡ Some packet
  judged_is own none text fits sums =
      let low : nat_le (length packet.text) 32 ≡ true = grind (arith, nat_tests) in
      ap (λ b. if not b && (nat_le (length (segments_text own)) 32 && checks packet.class packet.kind (segments_text own) check) then Some (record { class = packet.class; kind = packet.kind; text = segments_text own }) else None) none
      ∙ ap (λ t. if nat_le (length t) 32 && checks packet.class packet.kind t check then Some (record { class = packet.class; kind = packet.kind; text = t }) else None) (sym text)
      ∙ ap (λ b. if b && checks packet.class packet.kind packet.text check then Some packet else None) low
      ∙ ap (λ b. if b then Some packet else None) sums

  backward_at : EndsBehind ss check packet → judged packet.class packet.kind (of_packet packet.class packet.kind ss) check ≡ Some packet
  backward_at e =
      let since : since_start packet.class ss ≡ e.start ∷ e.later = ap (since_start packet.class) e.segments_are ∙ since_last packet.class e.earlier e.start e.later e.is_start e.is_last in
      let kind : (e.start.kind == packet.kind) ≡ true = let is = e.kind_is in grind (arith, nat_tests) in
      let last : IsLastStart packet.class ss e.start e.later = record { earlier = e.earlier; are = e.segments_are; is_start = e.is_start; is_last = e.is_last } in
      ap (λ l. judged packet.class packet.kind (from_start packet.class packet.kind l) check) since
      ∙ ap (λ b. judged packet.class packet.kind (if b then Some (filter (is_of_type packet.class packet.kind) (e.start ∷ e.later)) else None) check) kind
      ∙ judged_is (filter (is_of_type packet.class packet.kind) (e.start ∷ e.later)) (list_any_none is_ended (filter (is_of_type packet.class packet.kind) (e.start ∷ e.later)) e.unended) e.text_is e.fits
      (sums_backward packet.class packet.kind (sum packet.text) check (class_low e.start e.later packet.class last) e.sums)

  backward : (one : Option Segment) → IsOpenOf packet one → judged packet.class packet.kind (of_packet packet.class packet.kind ss) check ≡ Some packet → closed_by one ss check ≡ Some packet
  backward None of is = absurd of
  backward (Some s) of is = ap (λ c. judged c s.kind (of_packet c s.kind ss) check) of.0 ∙ ap (λ k. judged packet.class k (of_packet packet.class k ss) check) of.1 ∙ is

pub packets_end_here : PacketsEndHere
packets_end_here before check packet = (
  λ is. forward before check packet (open_of (segments before)) refl is,
  λ e. backward before check packet (open_of (segments before)) e.closes (backward_at before check packet e),
)

at_end : (first second : ℕ) (before : List Code) (packet : XdsPacket) (b : Bool) → (first == 0x0F) ≡ b
    → (if b then closed_by (open_of (segments before)) (segments before) second else None) ≡ Some packet → (check : ℕ) × (Xds first second ≡ Xds 0x0F check)
at_end first second before packet true at is = let same : first ≡ 0x0F = grind (arith, nat_tests) in (second, ap (λ n. Xds n second) same)
at_end first second before packet false at is = cc

pub end_pairs_alone_end : EndPairsAloneEnd
end_pairs_alone_end before Null packet is = cc
end_pairs_alone_end before (Text first second) packet is = cc
end_pairs_alone_end before (Control second control) packet is = cc
end_pairs_alone_end before (Xds first second) packet is = at_end first second before packet (first == 0x0F) refl is
