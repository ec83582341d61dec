-- The tests' bytes: what is computed of them, and that they are bytes.
use Rattle.std.proofs.Common.{◌≡◌, ℕ, zero, suc, ◌%◌, ◌^◌, ◌<◌, ◌≤◌, ◌&&◌, inl, inr, nat_lt, Bool, true, false, List, [], ◌∷◌, length, map, take, drop, Option, Some, None, refl, sym, ap, subst, ◌∙◌, arith}
use Rattle.std.proofs.lemmas.Bool.{cases_eq}
use Rattle.std.proofs.lemmas.Bool.Decides.{nat_tests}
use Rattle.std.proofs.lemmas.List.{length-map, length-reverse, length-take-le, take-append-drop}
use Rattle.std.proofs.lemmas.List.Elements.{All-cons, All-nil, All-take}
use Rattle.std.specs.List.{All}
use Rattle.cc_base.specs.Syntax.{open_behind}
use Rattle.cc_base.specs.declared.refusal.Refusal.{Refusal}
use Rattle.cc_base.specs.declared.why.Why.TheVariants as why
use Rattle.anc_words.specs.Reading.{Open, anc_syntax, nothing_open}
use Rattle.cdp_packets.specs.PacketParts.{packet_parts}
use Rattle.cdp_packets.specs.Packets.{Frame}
use Rattle.words_files.specs.Catching.{Caught, caught_in, never, refusal_of}
use Rattle.carriage_tests.specs.ExampleWords.{frame_without_captions}
use Rattle.words_files.specs.Offences.{FirstOffendingWord, IsCutShort, IsFileUnder}
use Rattle.words_files.specs.Verdicts.{layers_of}
use Rattle.words_files.proofs.CaughtLemmas.{caught_file, file_caught}
use Rattle.words_files.proofs.EndingLemmas.{open_is_cut_short, truncated}
use Rattle.words_files.proofs.OffenceLemmas.{never_takes, refusal-before, refused_offends}

abbrev pub IsByte : ℕ → Type 0
IsByte byte = byte < 256

abbrev pub are_bytes : List ℕ → Bool
are_bytes [] = true
are_bytes (byte ∷ bytes) = nat_lt byte 256 && are_bytes bytes

both_true : (b c : Bool) → (b && c) ≡ true → (b ≡ true) × (c ≡ true)
both_true true c both = (refl, both)
both_true false c both = absurd cc

bytes-are : (bytes : List ℕ) → are_bytes bytes ≡ true → All IsByte bytes
bytes-are [] test = All-nil IsByte
bytes-are (byte ∷ bytes) test =
    let (one, rest) = both_true (nat_lt byte 256) (are_bytes bytes) test in
    All-cons IsByte byte bytes (grind (arith, nat_tests)) (bytes-are bytes rest)

pub offends : (bytes : List ℕ) (refusal : Refusal) → are_bytes bytes ≡ true → refusal_of never bytes ≡ Some refusal → FirstOffendingWord (layers_of never) bytes refusal
offends bytes refusal test some = refused_offends never never_takes bytes refusal (bytes-are bytes test) some

-- half a word is open, or words of a packet
abbrev pub some_open : Option ℕ → List ℕ → Bool
some_open None [] = false
some_open _ _ = true

open_cut_short : (bytes : List ℕ) → All IsByte bytes → refusal_of never bytes ≡ None
    → some_open (open_behind anc_syntax bytes).high (open_behind anc_syntax bytes).words ≡ true → IsCutShort (layers_of never) bytes (truncated bytes)
open_cut_short bytes are none opens =
    open_is_cut_short never never_takes bytes are none (λ same.
    let clash : true ≡ false = sym opens ∙ ap (λ (o : Open). some_open o.high o.words) same in absurd cc)

pub is_cut_short : (bytes : List ℕ) → are_bytes bytes ≡ true → refusal_of never bytes ≡ None
    → some_open (open_behind anc_syntax bytes).high (open_behind anc_syntax bytes).words ≡ true → IsCutShort (layers_of never) bytes (truncated bytes)
is_cut_short bytes test none opens = open_cut_short bytes (bytes-are bytes test) none opens

-- something is open after each number of bytes from 1 up to this one
abbrev opens_up_to : List ℕ → ℕ → Bool
opens_up_to bytes zero = true
opens_up_to bytes (suc n) =
    let front = open_behind anc_syntax (take (suc n) bytes) in
    some_open front.high front.words && opens_up_to bytes n

opens_at : (bytes : List ℕ) (n k : ℕ) → opens_up_to bytes n ≡ true → 0 < k → k ≤ n
    → some_open (open_behind anc_syntax (take k bytes)).high (open_behind anc_syntax (take k bytes)).words ≡ true
opens_at bytes zero k test some below = absurd (omega arith)
opens_at bytes (suc n) k test some below =
    let front = λ (m : ℕ). open_behind anc_syntax (take m bytes) in
    let (here, rest) = both_true (some_open (front (suc n)).high (front (suc n)).words) (opens_up_to bytes n) test in
    elim (cases_eq k (suc n)) [
      | inl last ↦ ap (λ m. some_open (front m).high (front m).words) last ∙ here
      | inr other ↦ opens_at bytes n k rest some (omega arith)
    ]

-- the packet of a frame without captions isn't refused, leaves nothing open, and makes one frame
unrefused : refusal_of never frame_without_captions ≡ None
unfolding lib.Count.ones
unrefused = refl

one_frame : length (caught_in never frame_without_captions).frames ≡ 1
unfolding lib.Count.ones
one_frame = refl

closed : open_behind anc_syntax frame_without_captions ≡ nothing_open
unfolding lib.Count.ones
closed = refl

opens : opens_up_to frame_without_captions 159 ≡ true
unfolding lib.Count.ones
opens = refl

-- it is a file of one frame
pub is_file : (frames : List Frame) × IsFileUnder (layers_of never) frames frame_without_captions × (length frames ≡ 1)
is_file =
    let (frames, file) = caught_file never frame_without_captions (bytes-are frame_without_captions refl) unrefused closed in
    let caught = (file_caught never frames frame_without_captions file).0 in
    let many = sym (length-map frames packet_parts) ∙ sym (length-reverse (map packet_parts frames)) ∙ ap (λ (c : Caught). length c.frames) (sym caught) in
    (frames, file, many ∙ one_frame)

-- and cut short, wherever it is cut
pub cut_anywhere : (k : ℕ) → 0 < k → k < 160 → IsCutShort (layers_of never) (take k frame_without_captions) (record { place = k; why = why.Truncated })
cut_anywhere k some below =
    let front = take k frame_without_captions in
    let are = All-take IsByte k frame_without_captions (bytes-are frame_without_captions refl) in
    let whole = take-append-drop k frame_without_captions in
    let none = refusal-before never front (drop k frame_without_captions) (ap (refusal_of never) whole ∙ unrefused) in
    let long : length front ≡ k = length-take-le k frame_without_captions (omega arith) in
    let place : length front % 2 ^ 64 ≡ k = ap (λ n. n % 2 ^ 64) long ∙ omega arith in
    subst (λ n. IsCutShort (layers_of never) front (record { place = n; why = why.Truncated })) place
    (open_cut_short front are none (opens_at frame_without_captions 159 k opens some (omega arith)))
