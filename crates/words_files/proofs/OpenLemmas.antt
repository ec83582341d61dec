-- The words that are open after bytes are those that the reader keeps.
use Rattle.std.proofs.Common.{◌≡◌, ℕ, ◌%◌, ◌<◌, ◌≤◌, List, [], ◌∷◌, ◌++◌, length, ap, sym, subst, ◌∙◌, append_assoc, arith, length-append}
use Rattle.std.specs.List.{All}
use Rattle.cc_base.specs.Steps.{front_from}
use Rattle.cc_base.specs.Syntax.{AllRead, AllTaken, open_behind}
use Rattle.cc_base.proofs.StepLemmas.{front_from-append}
use Rattle.cc_base.proofs.SyntaxLemmas.{AllTaken-split}
use Rattle.anc_words.specs.Packets.{AncillaryPacket, IsPacket}
use Rattle.anc_words.specs.Reading.{Open, anc_syntax, nothing_open, open_after, word_syntax, words_after}
use Rattle.anc_words.specs.Words.{AreWords, words_of}
use Rattle.anc_words.specs.WordsFiles.{ArePackets}
use Rattle.anc_words.proofs.ByteLemmas.{file_is_read, open-words_of, words_of-taken}
use Rattle.anc_words.proofs.SoundLemmas.{IsBegun, IsBody, sound}
use Rattle.anc_words.proofs.WordLemmas.{AreWords-split, AreWords-words}
use Rattle.words_files.specs.Offences.{AreWholeWords}
use Rattle.words_files.specs.Reasons.{AreOpenBehind}
use Rattle.words_files.proofs.WordLemmas.{are_spelled}

-- no whole packet begins with words that begin one
begun_none : (words : List ℕ) → IsBegun words → (packet : AncillaryPacket) (front rest : List ℕ) → words ≡ front ++ rest → IsPacket packet front → ⊥
begun_none words begun p front rest spelled is =
    let user = (p.user ++ is.checksum ∷ []) ++ rest in
    let long : words ≡ 0x000 ∷ 0x3FF ∷ 0x3FF ∷ is.did ∷ is.sdid ∷ is.count ∷ user = spelled ∙ ap (λ ws. ws ++ rest) is.spelled in
    let body : IsBody 0x000 0x3FF 0x3FF is.did is.sdid is.count user = subst IsBegun long begun in
    let few : length user ≤ is.count % 256 = body.few in
    let many : is.count % 256 ≡ length p.user = is.has_count.low_bits in
    omega (arith, few, many, length-append (p.user ++ is.checksum ∷ []) rest, length-append p.user (is.checksum ∷ []))

-- after whole words none of which is refused
pub open_exists : (bytes : List ℕ) → All (λ byte. byte < 256) bytes → AllRead anc_syntax bytes → AreWholeWords bytes
    → AreOpenBehind (open_behind anc_syntax bytes).words bytes
open_exists bytes are read whole =
    let behind = front_from words_after [] (words_of bytes) in
    let splits = sound (words_of bytes) (words_of-taken [] bytes read) in
    let (file, back, cut, first, second) = AreWords-split bytes splits.whole behind (subst (AreWords bytes) splits.spelled (are_spelled bytes are read whole)) in
    let is : AreOpenBehind behind bytes = record {
      packets = splits.packets;
      file = file;
      behind = back;
      spelled = cut;
      whole = record { words = splits.whole; spelled = first; are_packets = splits.are };
      are = second;
      none_whole = begun_none behind splits.begun;
    } in
    subst (λ ws. AreOpenBehind ws bytes) (sym (ap (λ (o : Open). o.words) (open-words_of [] bytes))) is

-- words with which no whole packet begins stay open
stay_open : (words : List ℕ) → AllTaken word_syntax [] words → ((packet : AncillaryPacket) (front rest : List ℕ) → words ≡ front ++ rest → IsPacket packet front → ⊥)
    → front_from words_after [] words ≡ words
stay_open words taken none_whole =
    let behind = front_from words_after [] words in
    let splits = sound words taken in
    let cases : (ps : List AncillaryPacket) → ArePackets ps splits.whole → behind ≡ words = elim [
      | [] ↦ λ empty. sym (splits.spelled ∙ ap (λ ws. ws ++ behind) empty)
      | (p ∷ ps) ↦ λ are.
          let (front, rest, spelled, is, _) = are in
          absurd (none_whole p front (rest ++ behind) (splits.spelled ∙ ap (λ ws. ws ++ behind) spelled ∙ append_assoc front rest behind) is)
    ] in cases splits.packets splits.are

-- so the words that are open are those that the reader keeps
pub open_once : (words bytes : List ℕ) → AreOpenBehind words bytes → AllRead anc_syntax bytes → (open_behind anc_syntax bytes).words ≡ words
open_once words bytes is read =
    let reads = file_is_read is.packets is.file is.whole in
    let (_, rest) = AllTaken-split anc_syntax nothing_open is.file is.behind (subst (AllRead anc_syntax) is.spelled read) in
    let spelled : words_of is.behind ≡ words = AreWords-words is.behind words is.are in
    let taken = subst (AllTaken word_syntax []) spelled (words_of-taken [] is.behind (subst (λ f. AllTaken anc_syntax f is.behind) reads.leads rest)) in
    ap (λ bs. (open_behind anc_syntax bs).words) is.spelled
    ∙ ap (λ (o : Open). o.words) (front_from-append open_after nothing_open is.file is.behind)
    ∙ ap (λ (f : Open). (front_from open_after f is.behind).words) reads.leads
    ∙ ap (λ (o : Open). o.words) (open-words_of [] is.behind)
    ∙ ap (front_from words_after []) spelled
    ∙ stay_open words taken is.none_whole
