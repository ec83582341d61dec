-- Words are heard one piece after another.
use Rattle.std.proofs.Common.{◌≡◌, ◌≢◌, ℕ, ◌+◌, ◌<◌, ◌≤◌, List, [], ◌∷◌, ◌++◌, length, take, drop, refl, ap, sym, subst, ◌∙◌, append_assoc, append-nil, length-append, length-drop, arith}
use Rattle.std.proofs.lemmas.List.{length-take-le, take-append-drop}
use Rattle.cc_base.specs.declared.refusal.Refusal.{Refusal}
use Rattle.words_reading.specs.Feeds.{HasFed, HasRefused}
use Rattle.words_reading.specs.Receivers.{HasReceived, frame_count}
use Rattle.words_reading.specs.Ended.TheVariants as ended
use Rattle.words_reading.specs.Fed.{Fed}
use Rattle.words_reading.specs.Receiver.{Receiver}
use Rattle.words_reading.proofs.FedFrames.{counted_nothing, counts_one, moves_by, nothing_is_file, nothing_offends}
use Rattle.services_files.specs.CaptionChannel.{caption_channel}
use Rattle.words_files.specs.Offences.{FirstOffendingWord}
use Rattle.mcc_files.specs.Readers.{HasRead, state_of}
use Rattle.mcc_files.specs.Reading.{State, at_first}
use Rattle.mcc_files.specs.declared.reader.MccReader.{MccReader}
use Rattle.mcc_files.proofs.RunLemmas.{ok_same}
use Rattle.mcc_commands.specs.Importing.{HasHeard, HasImported, IsMade}
use Rattle.mcc_commands.specs.Words.{state_words}
use Rattle.mcc_commands.specs.declared.hearing.Hearer.{Hearer}
use Rattle.mcc_commands.specs.declared.importing.Importing.{Importing}
use Rattle.mcc_commands.proofs.ImportOffenceLemmas.{no_word_first}
use Rattle.mcc_commands.proofs.TakeLemmas.{no_lines}

-- a front of words was heard, and the rest is to come
pub record HeardFront (words rest : List ℕ) (first now : Hearer) : Type 0 where
  pub front : List ℕ
  pub spelled : words ≡ front ++ rest
  pub few : now.heard + length rest < 4294967295
  pub heard : (before : List ℕ) → HasHeard before first → HasHeard (before ++ front) now

pub none_heard : (words : List ℕ) (first : Hearer) → first.heard + length words < 4294967295 → HeardFront words words first first
none_heard words first few = record {
  front = [];
  spelled = refl;
  few = few;
  heard = λ before had. subst (λ (w : List ℕ). HasHeard w first) (sym (append-nil before)) had;
}

-- a hearer of nothing
pub nothing_heard : (hearer : Hearer) → HasReceived [] hearer.receiver → hearer.heard ≡ 0 → HasHeard [] hearer
nothing_heard hearer received none =
    let count = counted_nothing hearer.receiver received in record { received = received; unoffending = nothing_offends; few = omega (arith, count); counted = none }

-- more were heard
fed_on : (before rest : List ℕ) (old new : Hearer) (fed : Fed) → fed.used ≤ length rest → 0 < fed.used → HasHeard before old → HasFed before rest old.receiver new.receiver fed
    → new.heard ≡ old.heard + fed.used → HasHeard (before ++ take fed.used rest) new
fed_on before rest old new fed within moves had feeds count =
    let one = counts_one (frame_count old.receiver) (frame_count new.receiver) fed.ended feeds.counts in
    let few = had.few in
    let counted = had.counted in
    let long = length-append before (take fed.used rest) in
    let size = length-take-le fed.used rest within in
    record { received = feeds.received; unoffending = feeds.unoffending; few = omega (arith, one, few, long, size, moves); counted = omega (arith, count, counted, long, size) }

pub moved : (rest : List ℕ) (fed : Fed) → (fed.ended ≡ ended.No → fed.used ≡ length rest) → (fed.ended ≢ ended.No → 0 < fed.used) → 0 < length rest → 0 < fed.used
moved rest fed all some any = moves_by fed.used (length rest) fed.ended all some any

pub heard_on : (words rest : List ℕ) (first old new : Hearer) (fed : Fed) → HeardFront words rest first old → fed.used ≤ length rest → 0 < fed.used
    → ((before : List ℕ) → HasReceived before old.receiver → HasFed before rest old.receiver new.receiver fed) → new.heard ≡ old.heard + fed.used
    → HeardFront words (drop fed.used rest) first new
heard_on words rest first old new fed so within moves feeds count =
    let few = so.few in
    let left = length-drop fed.used rest in
    record {
      front = so.front ++ take fed.used rest;
      spelled = so.spelled ∙ (ap (λ r. so.front ++ r) (sym (take-append-drop fed.used rest)) ∙ sym (append_assoc so.front (take fed.used rest) (drop fed.used rest)));
      few = omega (arith, few, left, count, within);
      heard = λ before had.
          let here = so.heard before had in
          subst (λ (w : List ℕ). HasHeard w new) (append_assoc before so.front (take fed.used rest))
          (fed_on (before ++ so.front) rest old new fed within moves here (feeds (before ++ so.front) here.received) count);
    }

pub all_heard : (words rest before : List ℕ) (first now : Hearer) → HeardFront words rest first now → length rest ≡ 0 → HasHeard before first → HasHeard (before ++ words) now
all_heard words [] before first now so none had =
    subst (λ (w : List ℕ). HasHeard (before ++ w) now) (sym (so.spelled ∙ append-nil so.front)) (so.heard before had)
all_heard words (b ∷ rest) before first now so none had = absurd (omega (arith, none))

pub front_refused : (words rest before : List ℕ) (first old : Hearer) (new : Receiver) (refusal : Refusal) → HeardFront words rest first old → HasHeard before first
    → ((bytes : List ℕ) → HasReceived bytes old.receiver → HasRefused bytes rest old.receiver new refusal) → FirstOffendingWord caption_channel (before ++ words) refusal
front_refused words rest before first old new refusal so had feeds =
    let here = so.heard before had in
    let refused = feeds (before ++ so.front) here.received in
    subst (λ (w : List ℕ). FirstOffendingWord caption_channel w refusal) (append_assoc before so.front rest ∙ ap (λ w. before ++ w) (sym so.spelled)) refused.offence

-- an import that took nothing
fresh_words : (reader : MccReader) → HasRead [] [] reader → [] ≡ state_words (state_of reader [])
fresh_words reader read = ap (λ (s : State). state_words s) (ok_same at_first (state_of reader []) read)

pub nothing_imported : (importing : Importing) → HasRead [] [] importing.reader → HasHeard [] importing.hearer → IsMade [] [] importing.made → importing.place ≡ 0
    → HasImported [] [] importing
nothing_imported importing read heard made place = record {
  placed = [];
  read = read;
  lines = no_lines;
  no_word = no_word_first;
  heard = subst (λ (w : List ℕ). HasHeard w importing.hearer) (fresh_words importing.reader read) heard;
  file = record { frames = []; under = nothing_is_file };
  made = made;
  place_is = place;
}
