-- Where a word is refused, and that no packet ends before it.
use Rattle.std.proofs.Common.{◌≡◌, ℕ, ◌+◌, ◌-◌, ◌<◌, ◌≤◌, inl, inr, List, [], ◌∷◌, ◌++◌, length, take, ap, sym, subst, ◌∙◌, append_assoc, append-nil, length-append, arith}
use Rattle.std.proofs.lemmas.List.{take-append-le}
use Rattle.std.proofs.Math.Seq.{take-append-add}
use Rattle.anc_words.specs.Packets.{AncillaryPacket}
use Rattle.anc_words.specs.WordsFiles.{IsWordsFile}
use Rattle.cc_base.specs.declared.refusal.Refusal.{Refusal}
use Rattle.cdp_packets.specs.Packets.{Frame}
use Rattle.words_files.specs.FramesOf.{AreFramesOf}
use Rattle.words_files.specs.Offences.{AreWholeWords, Begins, FirstOffendingWord, IsFileUnder}
use Rattle.cc_receiver.specs.CaptionChannel.{caption_channel}
use Rattle.words_files.proofs.OffenceLemmas.{past_offence}
use Rattle.words_files.proofs.WordLemmas.{AreWords-whole, front_of}
use Rattle.words_reading.specs.OpenPackets.{NoPacketEnds, OffendsBehind, RefusesWord}
use Rattle.words_reading.proofs.PacketEndLemmas.{no_more, not_longer, tail_same}

-- a file is of whole words
even_file : (packets : List AncillaryPacket) (file : List ℕ) → IsWordsFile packets file → AreWholeWords file
even_file packets file is = AreWords-whole file is.words is.spelled

-- a file begins with itself
file_begins : (frames : List Frame) (file : List ℕ) → IsFileUnder caption_channel frames file → Begins caption_channel file
file_begins frames file is = record { more = []; frames = frames; is_file = subst (IsFileUnder caption_channel frames) (sym (append-nil file)) is }

-- a word was refused in the bytes that came, before which none of them ends a packet
pub refused_behind : (frames : List Frame) (file held bytes : List ℕ) (refusal : Refusal) → IsFileUnder caption_channel frames file → NoPacketEnds file held
    → (offends : FirstOffendingWord caption_channel ((file ++ held) ++ bytes) refusal)
    → ((packets : List AncillaryPacket) (n : ℕ) → 0 < n → length (file ++ held) + n ≤ length offends.before → IsWordsFile packets ((file ++ held) ++ take n bytes) → ⊥)
    → RefusesWord file (held ++ bytes) refusal
refused_behind frames file held bytes refusal under none offends first =
    let before = offends.before in
    let word = offends.high ∷ offends.low ∷ offends.rest in
    let spelled : file ++ (held ++ bytes) ≡ before ++ word = sym (append_assoc file held bytes) ∙ offends.spelled in
    let not_before : length before + 2 ≤ length file → ⊥ = λ long.
    past_offence caption_channel file (held ++ bytes) ((file ++ held) ++ bytes) refusal offends (sym (append_assoc file held bytes)) long (file_begins frames file under) in
    let whole = offends.whole in
    let even = even_file under.file.packets file under.file.file in
    let long : length file ≤ length before = omega (arith, not_before, whole, even) in
    let (behind, parted) = front_of file before (held ++ bytes) word spelled long in
    let all : held ++ bytes ≡ behind ++ word =
    tail_same file (held ++ bytes) (behind ++ word) (spelled ∙ ap (λ b. b ++ word) parted ∙ append_assoc file behind word) in
    record {
      behind = behind;
      rest = word;
      spelled = all;
      stands = record {
        offends = record {
          before = before;
          high = offends.high;
          low = offends.low;
          rest = offends.rest;
          spelled = ap (λ b. b ++ word) (sym parted);
          whole = offends.whole;
          begins = offends.begins;
          offends = offends.offends;
          place_is = offends.place_is;
          why_is = offends.why_is;
        };
        before = parted;
        none = λ others n some fits is.
            let cut : take n behind ≡ take n (held ++ bytes) = sym (take-append-le n behind word fits) ∙ ap (take n) (sym all) in
            let there = subst (λ b. IsWordsFile others (file ++ b)) cut is in
            elim (no_more n (length held)) [
              | inl short ↦ none others n some short (subst (λ b. IsWordsFile others (file ++ b)) (take-append-le n held bytes short) there)
              | inr past ↦
                  let k = n - length held in
                  let sum : length held + k ≡ n = omega (arith, past) in
                  let front : take n (held ++ bytes) ≡ held ++ take k bytes = ap (λ m. take m (held ++ bytes)) (sym sum) ∙ take-append-add held bytes k in
                  first others k (omega (arith, past)) (omega (arith, fits, sum, length-append file held, ap length parted, length-append file behind))
                  (subst (IsWordsFile others) (ap (λ b. file ++ b) front ∙ sym (append_assoc file held (take k bytes))) there)
            ];
      };
    }

-- no longer file goes on up to the word that offends and past it
pub no_longer : (refusal : Refusal) (file behind rest : List ℕ) → OffendsBehind refusal file behind rest → (others : List Frame) (other after : List ℕ)
    → (file ++ behind) ++ rest ≡ other ++ after → IsFileUnder caption_channel others other → length other ≤ length file
no_longer refusal file behind rest stands others other after spelled is = elim (no_more (length other) (length (file ++ behind))) [
  | inl within ↦
      let (tail, parted) = front_of other (file ++ behind) after rest (sym spelled) within in
      not_longer file behind other tail stands.none parted is.file.packets is.file.file
  | inr past ↦
      let whole = stands.offends.whole in
      let same = ap length stands.before in
      let even = even_file is.file.packets other is.file.file in
      absurd (past_offence caption_channel other after ((file ++ behind) ++ rest) refusal stands.offends (sym spelled) (omega (arith, past, whole, same, even))
      (file_begins others other is))
]

-- bytes up to a word that offends, before which no packet ends after a file, have the file's frames
abbrev pub frames_up_to : (refusal : Refusal) (frames : List Frame) (file behind rest : List ℕ) → IsFileUnder caption_channel frames file → OffendsBehind refusal file behind rest
    → AreFramesOf caption_channel frames ((file ++ behind) ++ rest)
frames_up_to refusal frames file behind rest under stands = record {
  file = file;
  behind = behind ++ rest;
  spelled = append_assoc file behind rest;
  is_file = under;
  longest = no_longer refusal file behind rest stands;
}
