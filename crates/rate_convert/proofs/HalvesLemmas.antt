-- The halves of a frame's sorted triplets, and their bytes.
use Rattle.std.proofs.Common.{◌≡◌, ℕ, zero, suc, ◌+◌, ◌-◌, ◌*◌, ◌%◌, ◌<◌, ◌&&◌, ◌||◌, ◌==◌, Bool, true, false, List, [], ◌∷◌, ◌++◌, All, drop, length, replicate, take, refl, sym, ap, ◌∙◌, arith}
use Rattle.std.specs.Prelude.{if◌then◌else◌, filter, get_or}
use Rattle.std.proofs.lemmas.Bool.{true≢false}
use Rattle.std.proofs.lemmas.Bool.Decides.{Decides-eqb}
use Rattle.std.proofs.lemmas.List.Elements.{All-append, All-cons, All-drop, All-head, All-nil, All-replicate, All-take}
use Rattle.cc_base.specs.declared.rate.Rate.TheVariants.{F5994}
use Rattle.cc_data.specs.Triplets.{filler}
use Rattle.cc_data.specs.declared.triplet.Triplet.{Triplet}
use Rattle.channel_packets.specs.ChannelPackets.{channel_triplets, continues_packet, starts}
use Rattle.rate_convert.specs.Conversion.{first_half, is_of, of_field, second_half, ten_triplets}
use Rattle.line21_codes.specs.declared.channels.FieldNumber.{FieldNumber}
use Rattle.line21_codes.specs.declared.channels.FieldNumber.TheVariants.{One, Two}
use Rattle.words_files.specs.CarriedWords.{carried_words, triplets_packet}
use Rattle.words_files.proofs.CarriedWordsLemmas.{length-carried_triplets, same_counter}

-- the words that carry ten triplets have a hundred bytes
pub half_size : (number : ℕ) (triplets : List Triplet) → length triplets ≡ 10 → length (carried_words (triplets_packet F5994 number triplets)) ≡ 100
half_size number triplets ten = let all = length-carried_triplets F5994 number triplets in omega (arith, all, ten)

-- fillers after some
pub drop_fillers : (n k : ℕ) → drop n (replicate k filler) ≡ replicate (k - n) filler
drop_fillers zero k = let e : k ≡ k - 0 = omega arith in ap (λ m. replicate m filler) e
drop_fillers (suc n) zero = let e : 0 ≡ 0 - suc n = omega arith in ap (λ m. replicate m filler) e
drop_fillers (suc n) (suc k) = let e : k - n ≡ suc k - suc n = omega arith in drop_fillers n k ∙ ap (λ m. replicate m filler) e

-- the triplets that are kept of some have kinds
abbrev pub IsKind : Triplet → Type 0
IsKind t = t.kind < 4

passing : (p : Triplet → Bool) → ((t : Triplet) → p t ≡ true → IsKind t) → (ts : List Triplet) → All IsKind (filter p ts)
passing p of [] = All-nil IsKind
passing p of (t ∷ ts) = by_test (p t) refl (passing p of ts)
  where
    by_test : (b : Bool) → p t ≡ b → All IsKind (filter p ts) → All IsKind (if b then t ∷ filter p ts else filter p ts)
    by_test true is rest = All-cons IsKind t (filter p ts) (of t is) rest
    by_test false is rest = rest

kind_is : (valid : Bool) (kind n : ℕ) → n < 4 → (valid && (kind == n)) ≡ true → kind < 4
kind_is true kind n small is = let same : kind ≡ n = (Decides-eqb kind n).0 is in omega arith
kind_is false kind n small is = absurd (true≢false (sym is))

either : (one two : Bool) (P : Type 0) → (one ≡ true → P) → (two ≡ true → P) → (one || two) ≡ true → P
either true two P first second is = first refl
either false two P first second is = second is

field_kinds : (in_field : FieldNumber) (ts : List Triplet) → All IsKind (of_field in_field ts)
field_kinds One ts = passing (is_of One) (λ t is. kind_is t.valid t.kind 0 (omega arith) is) ts
field_kinds Two ts = passing (is_of Two) (λ t is. kind_is t.valid t.kind 1 (omega arith) is) ts

channel_kinds : (ts : List Triplet) → All IsKind (channel_triplets ts)
channel_kinds ts =
    passing (λ triplet. starts triplet || continues_packet triplet)
    (λ t is. either (starts t) (continues_packet t) (IsKind t) (λ one. kind_is t.valid t.kind 3 (omega arith) one) (λ two. kind_is t.valid t.kind 2 (omega arith) two) is) ts

-- and so have the triplets of both halves
one_kind : (ts : List Triplet) → All IsKind ts → IsKind (get_or ts 0 filler)
one_kind [] all = omega arith
one_kind (t ∷ ts) all = All-head IsKind t ts all

ten_kinds : (field channel : List Triplet) → All IsKind field → All IsKind channel → All IsKind (ten_triplets field channel)
ten_kinds field channel one more =
    All-cons IsKind (get_or field 0 filler) (channel ++ replicate (9 - length channel) filler) (one_kind field one)
    (All-append IsKind channel (replicate (9 - length channel) filler) more (All-replicate IsKind (9 - length channel) filler (omega arith)))

pub first_kinds : (ts : List Triplet) → All IsKind (first_half ts)
first_kinds ts = ten_kinds (of_field One ts) (take 9 (channel_triplets ts)) (field_kinds One ts) (All-take IsKind 9 (channel_triplets ts) (channel_kinds ts))

pub second_kinds : (ts : List Triplet) → All IsKind (second_half ts)
second_kinds ts = ten_kinds (of_field Two ts) (drop 9 (channel_triplets ts)) (field_kinds Two ts) (All-drop IsKind 9 (channel_triplets ts) (channel_kinds ts))

-- some triplets between the first and fillers
pub ten_are : (field channel copied behind : List Triplet) (first : Triplet) → first ≡ get_or field 0 filler → copied ≡ channel
    → behind ≡ drop (length channel) (replicate 9 filler) → first ∷ (copied ++ behind) ≡ ten_triplets field channel
ten_are field channel copied behind first one same rest =
    ap (λ (t : Triplet). t ∷ (copied ++ behind)) one
    ∙ ap (λ (l : List Triplet). get_or field 0 filler ∷ (l ++ behind)) same
    ∙ ap (λ (l : List Triplet). get_or field 0 filler ∷ (channel ++ l)) (rest ∙ drop_fillers (length channel) 9)

-- the words of one packet after another's
pub words_are : (counter next frame : ℕ) (first second : List Triplet) (none one two : List ℕ) → counter ≡ (2 * frame) % 65536 → next ≡ (2 * frame + 1) % 65536
    → none ≡ [] → one ≡ none ++ carried_words (triplets_packet F5994 counter first) → two ≡ one ++ carried_words (triplets_packet F5994 next second)
    → two ≡ carried_words (triplets_packet F5994 (2 * frame) first) ++ carried_words (triplets_packet F5994 (2 * frame + 1) second)
words_are counter next frame first second none one two low high empty first_is second_is =
    let behind = carried_words (triplets_packet F5994 next second) in
    second_is ∙ ap (λ (l : List ℕ). l ++ behind) (first_is ∙ ap (λ (l : List ℕ). l ++ carried_words (triplets_packet F5994 counter first)) empty)
    ∙ ap (λ (l : List ℕ). l ++ behind) (same_counter F5994 (2 * frame) counter first low)
    ∙ ap (λ (l : List ℕ). carried_words (triplets_packet F5994 (2 * frame) first) ++ l) (same_counter F5994 (2 * frame + 1) next second high)
