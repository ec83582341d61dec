-- A receiver while the bytes of one call are read.
use Rattle.std.proofs.Common.{arith, ◌≡◌, ◌≢◌, ℕ, ◌+◌, ◌-◌, ◌<◌, ◌≤◌, ◌++◌, List, [], ◌∷◌, length, take, drop, min, None, refl, ap, sym, subst, ◌∙◌, append_assoc, slice_index_or, zero, suc, nat_le, Bool, true, false}
use Rattle.std.proofs.Math.Seq.{take-add, take-append_seam}
use Rattle.std.proofs.lemmas.List.{length-drop, length-take}
use Rattle.std.proofs.lemmas.List.Elements.{All-from_get_or}
use Rattle.std.proofs.lemmas.Bool.Decides.{nat_tests}
use Rattle.std.proofs.lemmas.Grind.{common_steps}
use Rattle.std.specs.List.{All}
use Rattle.cc_base.specs.Syntax.{open_behind}
use Rattle.anc_words.specs.Ending.{bytes_to_end}
use Rattle.anc_words.specs.Packets.{AncillaryPacket}
use Rattle.anc_words.specs.Reading.{anc_syntax}
use Rattle.anc_words.specs.WordsFiles.{IsWordsFile}
use Rattle.anc_words.proofs.EndingLemmas.{ends_no_sooner}
use Rattle.services_files.specs.Catching.{refusal_of}
use Rattle.services_files.specs.Services.{services_say}
use Rattle.cc_receiver.specs.declared.receiver.Ended.{Ended}
use Rattle.cc_receiver.specs.declared.receiver.Ended.TheVariants as ended
use Rattle.cc_receiver.specs.declared.receiver.Receiver.{Receiver}
use Rattle.cc_receiver.specs.Feeds.{Counts}
use Rattle.cc_receiver.specs.Receivers.{HasReceived}

-- this many of the bytes were read after those before: none was refused, and none of them ended a packet
pub record Underway (before bytes : List ℕ) (count : ℕ) (receiver : Receiver) : Type 0 where
  pub received : HasReceived (before ++ take count bytes) receiver
  pub none : refusal_of services_say (before ++ take count bytes) ≡ None
  pub within : (packets : List AncillaryPacket) (fewer : ℕ) → 0 < fewer → fewer ≤ count → IsWordsFile packets (before ++ take fewer bytes) → ⊥

-- a piece after the bytes that were read
pub with_piece : (before bytes : List ℕ) (count more : ℕ) → (before ++ take count bytes) ++ take more (drop count bytes) ≡ before ++ take (count + more) bytes
with_piece before bytes count more =
    append_assoc before (take count bytes) (take more (drop count bytes)) ∙ ap (λ bs. before ++ bs) (sym (take-add count more bytes))

-- no fewer bytes than these end a packet
pub within_piece : (before bytes : List ℕ) (count more : ℕ) → count + more ≤ length bytes → more ≤ bytes_to_end (open_behind anc_syntax (before ++ take count bytes))
    → ((packets : List AncillaryPacket) (fewer : ℕ) → 0 < fewer → fewer ≤ count → IsWordsFile packets (before ++ take fewer bytes) → ⊥)
    → (packets : List AncillaryPacket) (fewer : ℕ) → 0 < fewer → fewer < count + more → IsWordsFile packets (before ++ take fewer bytes) → ⊥
within_piece before bytes count more within_bytes few none_before packets fewer some less is =
    let cases : (test : Bool) → nat_le fewer count ≡ test → ⊥ = elim [
      | true ↦ λ at. none_before packets fewer some (grind (arith, nat_tests)) is
      | false ↦ λ at.
          let past : count < fewer = grind (arith, nat_tests) in
          let long = length-drop count bytes in
          let size = length-take (fewer - count) (drop count bytes) in
          let same : count + (fewer - count) ≡ fewer = omega (arith, past) in
          ends_no_sooner (before ++ take count bytes) (take (fewer - count) (drop count bytes)) packets (omega (arith, past, size, long, less, within_bytes))
          (omega (arith, past, size, long, less, within_bytes, few))
          (subst (IsWordsFile packets) (ap (λ n. before ++ take n bytes) (sym same) ∙ sym (with_piece before bytes count (fewer - count))) is)
    ] in cases _ refl

-- a list is its front and its back
cut : (n : ℕ) (xs : List ℕ) → take n xs ++ drop n xs ≡ xs
cut n [] = grind (arith, common_steps)
cut zero (x ∷ xs) = refl
cut (suc n) (x ∷ xs) = ap (λ ys. x ∷ ys) (cut n xs)

-- the bytes that were read, and those after them
pub bytes-cut : (before bytes : List ℕ) (count : ℕ) → (before ++ take count bytes) ++ drop count bytes ≡ before ++ bytes
bytes-cut before bytes count = append_assoc before (take count bytes) (drop count bytes) ∙ ap (λ xs. before ++ xs) (cut count bytes)

-- the bytes of a slice are bytes
pub bytes_fit : (bytes : List ℕ) → ((k : ℕ) → k < length bytes → slice_index_or bytes k 0 < 256) → All (λ byte. byte < 256) bytes
bytes_fit bytes fits = All-from_get_or (λ byte. byte < 256) bytes 0 fits

-- the piece that comes next
pub piece_few : (used more least most : ℕ) (bytes : List ℕ) → more ≡ min least (length bytes - used) → least ≡ most
    → length (take (used + more - used) (drop used bytes)) ≤ most
piece_few used more least most bytes is same =
    let size = length-take (used + more - used) (drop used bytes) in
    omega (arith, size, is, same)

pub piece_is : (before bytes : List ℕ) (used more : ℕ)
    → (before ++ take used bytes) ++ take (used + more - used) (drop used bytes) ≡ before ++ take (used + more) bytes
piece_is before bytes used more =
    let same : used + more - used ≡ more = omega arith in
    ap (λ n. (before ++ take used bytes) ++ take n (drop used bytes)) same ∙ with_piece before bytes used more

pub piece_most : (more least most rest : ℕ) → more ≡ min least rest → least ≡ most → more ≤ most
piece_most more least most rest is same = omega (arith, is, same)

-- nor do these, where they end none
pub up_to : (before bytes : List ℕ) (count : ℕ)
    → ((packets : List AncillaryPacket) (fewer : ℕ) → 0 < fewer → fewer < count → IsWordsFile packets (before ++ take fewer bytes) → ⊥)
    → ((packets : List AncillaryPacket) → IsWordsFile packets (before ++ take count bytes) → ⊥)
    → (packets : List AncillaryPacket) (fewer : ℕ) → 0 < fewer → fewer ≤ count → IsWordsFile packets (before ++ take fewer bytes) → ⊥
up_to before bytes count none_before none_there packets fewer some most is =
    let cases : (test : Bool) → nat_le count fewer ≡ test → ⊥ = elim [
      | true ↦ λ at.
          let same : fewer ≡ count = grind (arith, nat_tests) in
          none_there packets (subst (λ n. IsWordsFile packets (before ++ take n bytes)) same is)
      | false ↦ λ at. none_before packets fewer some (grind (arith, nat_tests)) is
    ] in cases _ refl

-- the front of a list that begins with another one
pub front_of : (out front rest : List ℕ) (n : ℕ) → out ≡ front ++ rest → n ≡ length front → take n out ≡ front
front_of out front rest n is long = ap (λ m. take m out) long ∙ ap (take (length front)) is ∙ take-append_seam front rest

-- a count of frames, by whether the packet that ended is one of captions
pub counts_by : (answer : Ended) (before now : ℕ) → (answer ≡ ended.Caption → now ≡ before + 1) → (answer ≢ ended.Caption → now ≡ before) → Counts before now answer
counts_by ended.No before now more same = same (λ is. cc)
counts_by ended.Foreign before now more same = same (λ is. cc)
counts_by ended.Caption before now more same = more refl
