-- An import goes on by a byte.
use Rattle.std.proofs.Common.{add-one, ◌≡◌, ℕ, zero, suc, ◌+◌, ◌-◌, ◌<◌, drop, slice_index, take, inl, inr, List, [], ◌∷◌, ◌++◌, append_assoc, append-nil, length, length-append, Option, Result, Ok, Err, refl, ap, sym, ◌∙◌, subst, arith}
use Rattle.std.proofs.lemmas.List.{take-append-drop}
use Rattle.cc_base.specs.declared.refusal.Refusal.{Refusal}
use Rattle.mcc_commands.specs.declared.hearing.Hearer.{Hearer}
use Rattle.mcc_files.specs.MccFiles.{IsMccFile, TimedPackets}
use Rattle.mcc_files.specs.Offences.{IsFirstOffence}
use Rattle.mcc_files.specs.Readers.{HasRead, HasWholeBytes, packet_in, state_of}
use Rattle.mcc_files.specs.declared.phase.Phase.TheVariants as phase
use Rattle.mcc_files.specs.declared.reader.MccReader.{MccReader}
use Rattle.mcc_files.specs.Payloads.{Payload}
use Rattle.mcc_files.specs.declared.payload_reader.Offence.{Offence}
use Rattle.mcc_words.specs.Close.{words_as_they_came}
use Rattle.scc_files.specs.Offences.{EndsLine}
use Rattle.text_output.specs.Gathered.{IsGathered}
use Rattle.words_reading.specs.declared.judge.Stop.{Stop}
use Rattle.words_reading.specs.declared.judge.Stop.TheVariants as stopped
use Rattle.mcc_commands.specs.ImportMcc.{RefusesAt}
use Rattle.mcc_commands.specs.Importing.{AddsPacket, AreFile, EndsFile, HasEnded, HasHalted, HasHeard, HasImported, HasLines, IsMade, JudgesItem, MayTake, MayTakeAll, TakesBytes, TakesNext, step_item}
use Rattle.mcc_commands.specs.Offences.{NoWordOffends}
use Rattle.mcc_commands.specs.Words.{is_open, state_words, words_with}
use Rattle.mcc_commands.specs.declared.importing.Importing.{Importing}
use Rattle.mcc_commands.specs.declared.made.Made.{Made}
use Rattle.mcc_commands.specs.declared.import_stop.MccStop.{MccStop}
use Rattle.mcc_commands.specs.declared.import_stop.MccStop.TheVariants as stop
use Rattle.mcc_commands.proofs.ImportOffenceLemmas.{no_word_more}
use Rattle.mcc_commands.proofs.ReadLemmas.{says_lines, within_of}
use Rattle.mcc_commands.proofs.TakeLemmas.{byte_offends, cut_short, line_words, started_file, started_words, taken_lines, taken_step}

-- the words with a byte more were heard
heard_step : (bytes : List ℕ) (byte : ℕ) (placed later : TimedPackets) (old new : MccReader) (hearer : Hearer) → HasRead bytes placed old → HasRead (bytes ++ byte ∷ []) later new
    → HasHeard (words_with (state_of old placed) (step_item old byte)) hearer → HasHeard (state_words (state_of new later)) hearer
heard_step bytes byte placed later old new hearer was now heard =
    subst (λ (w : List ℕ). HasHeard w hearer) (sym (taken_step bytes byte placed later old new was now).words) heard

no_word_step : (bytes words : List ℕ) (byte : ℕ) (old : Importing) (hearer : Hearer) (had : HasImported bytes words old)
    → HasHeard (words_with (state_of old.reader had.placed) (step_item old.reader byte)) hearer → NoWordOffends (bytes ++ byte ∷ [])
no_word_step bytes words byte old hearer had heard = no_word_more bytes (state_of old.reader had.placed) byte had.read had.no_word heard.unoffending

place_more : (bytes : List ℕ) (byte was mid now : ℕ) → was ≡ length bytes → mid ≡ was → now ≡ mid + 1 → now ≡ length (bytes ++ byte ∷ [])
place_more bytes byte was mid now is same more = omega (arith, is, same, more, length-append bytes (byte ∷ []))

-- no packet's line has ended
pub byte_taken : (bytes words : List ℕ) (byte : ℕ) (old mid new : Importing) (had : HasImported bytes words old) → JudgesItem bytes had.placed byte old mid (Ok tt)
    → HasRead (bytes ++ byte ∷ []) had.placed new.reader → new.hearer ≡ mid.hearer → new.made ≡ mid.made → new.place ≡ mid.place + 1
    → HasImported (bytes ++ byte ∷ []) words new
byte_taken bytes words byte old mid new had (reader, made, place, heard) read hearer_same made_same place_is = record {
  placed = had.placed;
  read = read;
  lines = taken_lines bytes byte had.placed had.placed old.reader new.reader had.read read had.lines;
  no_word = no_word_step bytes words byte old mid.hearer had heard;
  heard = subst (λ (h : Hearer). HasHeard (state_words (state_of new.reader had.placed)) h) (sym hearer_same)
      (heard_step bytes byte had.placed had.placed old.reader new.reader mid.hearer had.read read heard);
  file = had.file;
  made = subst (λ (m : Made). IsMade had.placed words m) (sym (made_same ∙ made)) had.made;
  place_is = place_more bytes byte old.place mid.place new.place had.place_is place place_is;
}

-- the list with a packet more isn't the list without it
pub longer_not : (placed : TimedPackets) (one : ℕ × Payload) → placed ++ one ∷ [] ≡ placed → ⊥
longer_not placed one same = omega (arith, ap length same, length-append placed (one ∷ []))

pub record LineTaken (bytes words : List ℕ) (byte : ℕ) (placed : TimedPackets) (now : Importing) : Type 0 where
  pub read : HasRead (bytes ++ byte ∷ []) (placed ++ packet_in now.reader ∷ []) now.reader
  pub start : (state_of now.reader (placed ++ packet_in now.reader ∷ [])).phase ≡ phase.Start
  pub ends : EndsLine (bytes ++ byte ∷ [])
  pub lines : HasLines (bytes ++ byte ∷ []) (placed ++ packet_in now.reader ∷ [])
  pub no_word : NoWordOffends (bytes ++ byte ∷ [])
  pub ended : HasEnded placed now.reader now.hearer
  pub made : IsMade placed words now.made
  pub place_is : now.place ≡ length (bytes ++ byte ∷ [])

pub line_taken : (bytes words : List ℕ) (byte : ℕ) (old mid now : Importing) (had : HasImported bytes words old) → JudgesItem bytes had.placed byte old mid (Ok tt)
    → HasRead (bytes ++ byte ∷ []) (had.placed ++ packet_in now.reader ∷ []) now.reader → now.hearer ≡ mid.hearer → now.made ≡ mid.made → now.place ≡ mid.place + 1
    → LineTaken bytes words byte had.placed now
line_taken bytes words byte old mid now had (reader, made, place, heard) read hearer_same made_same place_is =
    let later = had.placed ++ packet_in now.reader ∷ [] in
    let step = taken_step bytes byte had.placed later old.reader now.reader had.read read in
    let start : (state_of now.reader later).phase ≡ phase.Start = elim step.line [
      | inl line ↦ line.1
      | inr line ↦ absurd (longer_not had.placed (packet_in now.reader) line.1)
    ] in
    let ends : EndsLine (bytes ++ byte ∷ []) = elim step.line [
      | inl line ↦ (bytes, ap (λ b. bytes ++ b ∷ []) line.0)
      | inr line ↦ absurd (longer_not had.placed (packet_in now.reader) line.1)
    ] in
    let words_heard = heard_step bytes byte had.placed later old.reader now.reader mid.hearer had.read read heard in
    let came = started_words later now.reader (ap is_open start) in
    record {
      read = read;
      start = start;
      ends = ends;
      lines = taken_lines bytes byte had.placed later old.reader now.reader had.read read had.lines;
      no_word = no_word_step bytes words byte old mid.hearer had heard;
      ended = record {
        file = had.file;
        heard = subst (λ (h : Hearer). HasHeard (words_as_they_came later) h) (sym hearer_same) (subst (λ (w : List ℕ). HasHeard w mid.hearer) came words_heard);
      };
      made = subst (λ (m : Made). IsMade had.placed words m) (sym (made_same ∙ made)) had.made;
      place_is = place_more bytes byte old.place mid.place now.place had.place_is place place_is;
    }

-- its packet was added
pub packet_taken : (bytes words more : List ℕ) (byte : ℕ) (placed : TimedPackets) (now new : Importing) → LineTaken bytes words byte placed now
    → AreFile (placed ++ packet_in now.reader ∷ []) → IsMade (placed ++ packet_in now.reader ∷ []) (words ++ more) new.made
    → new.reader ≡ now.reader → new.hearer ≡ now.hearer → new.place ≡ now.place → HasImported (bytes ++ byte ∷ []) (words ++ more) new
packet_taken bytes words more byte placed now new line file made reader hearer place =
    let later = placed ++ packet_in now.reader ∷ [] in
    let heard : HasHeard (state_words (state_of now.reader later)) now.hearer =
    subst (λ (w : List ℕ). HasHeard w now.hearer) (sym (started_words later now.reader (ap is_open line.start))) line.ended.heard in
    record {
      placed = later;
      read = subst (λ (r : MccReader). HasRead (bytes ++ byte ∷ []) later r) (sym reader) line.read;
      lines = line.lines;
      no_word = line.no_word;
      heard = subst (λ (h : Hearer). HasHeard (state_words (state_of new.reader later)) h) (sym hearer)
          (subst (λ (r : MccReader). HasHeard (state_words (state_of r later)) now.hearer) (sym reader) heard);
      file = file;
      made = made;
      place_is = place ∙ line.place_is;
    }

-- the result of its line
pub line_result : (bytes words : List ℕ) (byte : ℕ) (placed : TimedPackets) (start then : Option (List ℕ)) (after : List ℕ) (now new : Importing) (result : Result (Unit {0}) (Stop MccStop))
    → LineTaken bytes words byte placed now → AreFile (placed ++ packet_in now.reader ∷ []) → AddsPacket placed words (packet_in now.reader) start then after new.made result
    → new.reader ≡ now.reader → new.hearer ≡ now.hearer → new.place ≡ now.place → TakesBytes start then after (bytes ++ byte ∷ []) new result
line_result bytes words byte placed start then after now new (Ok done) line file (more, made, way) reader hearer place =
    (words ++ more, packet_taken bytes words more byte placed now new line file made reader hearer place, way)
line_result bytes words byte placed start then after now new (Err stopped.WriteFault) line file (more, within, failed) reader hearer place = record {
  judged = bytes ++ byte ∷ [];
  unjudged = [];
  words = words ++ more;
  spelled = sym (append-nil (bytes ++ byte ∷ []));
  cause = (
    record {
      lines = line.lines.lines;
      rest = line.lines.rest;
      placed = placed ++ packet_in now.reader ∷ [];
      spelled = line.lines.spelled;
      ended = line.lines.ended;
      open_line = line.lines.open_line;
      within = within;
    },
    failed,
  );
}
line_result bytes words byte placed start then after now new (Err (stopped.Own (stop.Passes which))) line file (passes, way) reader hearer place = record {
  judged = bytes ++ byte ∷ [];
  unjudged = [];
  words = words;
  spelled = sym (append-nil (bytes ++ byte ∷ []));
  cause = (
    record {
      placed = placed;
      last = packet_in now.reader;
      file = started_file (bytes ++ byte ∷ []) (placed ++ packet_in now.reader ∷ []) now.reader line.read line.start;
      no_word = line.no_word;
      within = within_of placed words now.made line.made;
      longer = passes.longer;
      are = passes.are;
      passes = passes.passes;
    },
    line.ends,
    way,
  );
}
line_result bytes words byte placed start then after now new (Err (stopped.Own (stop.Offends refusal))) line file is reader hearer place = absurd is
line_result bytes words byte placed start then after now new (Err stopped.ReadFault) line file is reader hearer place = absurd is
line_result bytes words byte placed start then after now new (Err stopped.Limit) line file is reader hearer place = absurd is
line_result bytes words byte placed start then after now new (Err (stopped.Refused refusal)) line file is reader hearer place = absurd is

-- something offends
pub halts_at : (bytes words : List ℕ) (byte : ℕ) (start then : Option (List ℕ)) (after : List ℕ) (refusal : Refusal) → RefusesAt refusal (bytes ++ byte ∷ []) words
    → IsGathered start then after words → HasHalted start then after (bytes ++ byte ∷ []) (stopped.Own (stop.Offends refusal))
halts_at bytes words byte start then after refusal refuses way =
    record { judged = bytes ++ byte ∷ []; unjudged = []; words = words; spelled = sym (append-nil (bytes ++ byte ∷ [])); cause = (refuses, tt, way) }

pub word_halts : (bytes words : List ℕ) (byte : ℕ) (importing : Importing) (start then : Option (List ℕ)) (after : List ℕ) (why : MccStop) (had : HasImported bytes words importing)
    → (mid : Importing) → JudgesItem bytes had.placed byte importing mid (Err why) → IsGathered start then after words → HasHalted start then after (bytes ++ byte ∷ []) (stopped.Own why)
word_halts bytes words byte importing start then after why had mid (refusal, same, offends) way =
    subst (λ (w : MccStop). HasHalted start then after (bytes ++ byte ∷ []) (stopped.Own w)) (sym same)
    (halts_at bytes words byte start then after refusal
    (record { offends = inl offends; front = bytes; last = byte; spelled = refl; says = says_lines bytes words importing had }) way)

pub byte_halts : (bytes words : List ℕ) (byte : ℕ) (old mid : Importing) (start then : Option (List ℕ)) (after : List ℕ) (offence : Offence) (had : HasImported bytes words old)
    → JudgesItem bytes had.placed byte old mid (Ok tt)
    → IsFirstOffence (bytes ++ byte ∷ []) (record { place = length bytes - offence.back; why = offence.why }) → IsGathered start then after words
    → HasHalted start then after (bytes ++ byte ∷ []) (stopped.Own (stop.Offends (record { place = mid.place - offence.back; why = offence.why })))
byte_halts bytes words byte old mid start then after offence had (reader, made, place, heard) first way =
    let at : length bytes ≡ mid.place = sym (place ∙ had.place_is) in
    let refusal : Refusal = record { place = length bytes - offence.back; why = offence.why } in
    let b = byte_offends bytes byte refusal offence.back refl first in
    subst (λ (n : ℕ). HasHalted start then after (bytes ++ byte ∷ []) (stopped.Own (stop.Offends (record { place = n - offence.back; why = offence.why })))) at
    (halts_at bytes words byte start then after refusal
    (record { offends = inr (b, no_word_step bytes words byte old mid.hearer had heard); front = bytes; last = byte; spelled = refl; says = says_lines bytes words old had }) way)

-- the bytes end
pub none_ends : (bytes words : List ℕ) (importing : Importing) (start then : Option (List ℕ)) (after : List ℕ) (had : HasImported bytes words importing) → IsMccFile had.placed bytes
    → IsGathered start then after words → EndsFile start then after bytes (Ok tt)
none_ends bytes words importing start then after had file way =
    (words, record { placed = had.placed; file = file; frames = had.file.frames; words = had.file.under; within = within_of had.placed words importing.made had.made }, way)

pub cut_ends : (bytes words : List ℕ) (importing : Importing) (start then : Option (List ℕ)) (after : List ℕ) (refusal : Refusal) (had : HasImported bytes words importing)
    → IsFirstOffence bytes refusal → IsGathered start then after words → EndsFile start then after bytes (Err (stopped.Refused refusal))
cut_ends bytes words importing start then after refusal had first way =
    (words, says_lines bytes words importing had, cut_short bytes (state_of importing.reader had.placed) refusal had.read had.no_word first, way)

pub line_ended : (bytes words : List ℕ) (importing : Importing) (had : HasImported bytes words importing) → IsMccFile (had.placed ++ packet_in importing.reader ∷ []) bytes
    → HasWholeBytes importing.reader → HasEnded had.placed importing.reader importing.hearer
line_ended bytes words importing had file whole = record {
  file = had.file;
  heard = subst (λ (w : List ℕ). HasHeard w importing.hearer) (line_words bytes had.placed importing.reader had.read file whole) had.heard;
}

pub packet_ends : (bytes words : List ℕ) (old new : Importing) (start then : Option (List ℕ)) (after : List ℕ) (result : Result (Unit {0}) (Stop MccStop)) (had : HasImported bytes words old)
    → IsMccFile (had.placed ++ packet_in old.reader ∷ []) bytes → AreFile (had.placed ++ packet_in old.reader ∷ [])
    → AddsPacket had.placed words (packet_in old.reader) start then after new.made result → EndsFile start then after bytes result
packet_ends bytes words old new start then after (Ok done) had file are (more, made, way) = (
  words ++ more,
  record {
    placed = had.placed ++ packet_in old.reader ∷ [];
    file = file;
    frames = are.frames;
    words = are.under;
    within = within_of (had.placed ++ packet_in old.reader ∷ []) (words ++ more) new.made made;
  },
  way,
)
packet_ends bytes words old new start then after (Err stopped.WriteFault) had file are (more, within, failed) = (
  words ++ more,
  record { placed = had.placed ++ packet_in old.reader ∷ []; file = file; frames = are.frames; words = are.under; within = within },
  failed,
)
packet_ends bytes words old new start then after (Err (stopped.Own (stop.Passes which))) had file are (passes, way) = (
  words,
  record {
    placed = had.placed;
    last = packet_in old.reader;
    file = file;
    no_word = had.no_word;
    within = within_of had.placed words old.made had.made;
    longer = passes.longer;
    are = passes.are;
    passes = passes.passes;
  },
  way,
)
packet_ends bytes words old new start then after (Err (stopped.Own (stop.Offends refusal))) had file are is = absurd is
packet_ends bytes words old new start then after (Err stopped.ReadFault) had file are is = absurd is
packet_ends bytes words old new start then after (Err stopped.Limit) had file are is = absurd is
packet_ends bytes words old new start then after (Err (stopped.Refused refusal)) had file are is = absurd is

-- bytes one by one
next_suc : (before all : List ℕ) (i : ℕ) → i < length all → (before ++ take i all) ++ slice_index all i ∷ [] ≡ before ++ take (suc i) all
next_suc before all i below = append_assoc before (take i all) (slice_index all i ∷ []) ∙ ap (λ l. before ++ l) (one_more all i below)
  where
    one_more : (all : List ℕ) (i : ℕ) → i < length all → take i all ++ slice_index all i ∷ [] ≡ take (suc i) all
    one_more [] i below = absurd (omega (arith, below))
    one_more (x ∷ xs) zero below = refl
    one_more (x ∷ xs) (suc i) below = ap (λ l. x ∷ l) (one_more xs i (omega (arith, below)))

pub next_taken : (before all : List ℕ) (i : ℕ) → i < length all → (before ++ take i all) ++ slice_index all i ∷ [] ≡ before ++ take (i + 1) all
next_taken before all i below = next_suc before all i below ∙ ap (λ (n : ℕ). before ++ take n all) (sym (add-one i))

pub halted_more : (start then : Option (List ℕ)) (after front rest : List ℕ) (why : Stop MccStop) → HasHalted start then after front why → HasHalted start then after (front ++ rest) why
halted_more start then after front rest why had = record {
  judged = had.judged;
  unjudged = had.unjudged ++ rest;
  words = had.words;
  spelled = ap (λ b. b ++ rest) had.spelled ∙ append_assoc had.judged had.unjudged rest;
  cause = had.cause;
}

-- a front of bytes was taken, and the rest is to come
pub record TakenFront (bytes rest : List ℕ) (first now : Importing) (was then : Option (List ℕ)) (held after : List ℕ) : Type 0 where
  pub front : List ℕ
  pub spelled : bytes ≡ front ++ rest
  pub takes : (before words : List ℕ) (start : Option (List ℕ)) → HasImported before words first → IsGathered start was held words
      → (more : List ℕ) × HasImported (before ++ front) more now × IsGathered start then after more

pub none_taken : (bytes : List ℕ) (first : Importing) (was : Option (List ℕ)) (held : List ℕ) → TakenFront bytes bytes first first was was held held
none_taken bytes first was held = record {
  front = [];
  spelled = refl;
  takes = λ before words start had way. (words, subst (λ (b : List ℕ). HasImported b words first) (sym (append-nil before)) had, way);
}

pub front_may : (bytes rest : List ℕ) (first now : Importing) (was then : Option (List ℕ)) (held after : List ℕ) → TakenFront bytes rest first now was then held after
    → MayTakeAll was held first (length bytes) → MayTake now (length rest)
front_may bytes rest first now was then held after so all =
    let may = all.may in
    let (words, had, way) = so.takes may.bytes may.words all.start may.had all.way in
    let within = may.within in
    let long = ap length so.spelled ∙ length-append so.front rest in
    record { bytes = may.bytes ++ so.front; words = words; had = had; within = omega (arith, within, long, length-append may.bytes so.front) }

pub front_more : (bytes rest : List ℕ) (count : ℕ) (first mid new : Importing) (was then later : Option (List ℕ)) (held between after : List ℕ)
    → TakenFront bytes rest first mid was then held between
    → ((before words : List ℕ) (start : Option (List ℕ)) → HasImported before words mid → IsGathered start then between words → TakesNext start later after before rest new (Ok count))
    → TakenFront bytes (drop count rest) first new was later held after
front_more bytes rest count first mid new was then later held between after so next = record {
  front = so.front ++ take count rest;
  spelled = so.spelled ∙ (ap (λ (r : List ℕ). so.front ++ r) (sym (take-append-drop count rest)) ∙ sym (append_assoc so.front (take count rest) (drop count rest)));
  takes = λ before words start had way.
      let (more, here, there) = so.takes before words start had way in
      let (now, taken, gathered) = next (before ++ so.front) more start here there in
      (now, subst (λ (b : List ℕ). HasImported b now new) (append_assoc before so.front (take count rest)) taken, gathered);
}

pub front_halts : (bytes rest before words : List ℕ) (first mid new : Importing) (start was then later : Option (List ℕ)) (held between after : List ℕ) (why : Stop MccStop)
    → TakenFront bytes rest first mid was then held between
    → ((before words : List ℕ) (start : Option (List ℕ)) → HasImported before words mid → IsGathered start then between words → TakesNext start later after before rest new (Err why))
    → HasImported before words first → IsGathered start was held words → HasHalted start later after (before ++ bytes) why
front_halts bytes rest before words first mid new start was then later held between after why so next had way =
    let (more, here, there) = so.takes before words start had way in
    subst (λ (b : List ℕ). HasHalted start later after b why) (append_assoc before so.front rest ∙ ap (λ (b : List ℕ). before ++ b) (sym so.spelled))
    (next (before ++ so.front) more start here there)

pub front_all : (bytes rest before words : List ℕ) (first now : Importing) (start was then : Option (List ℕ)) (held after : List ℕ) → TakenFront bytes rest first now was then held after
    → length rest ≡ 0 → HasImported before words first → IsGathered start was held words → TakesBytes start then after (before ++ bytes) now (Ok tt)
front_all bytes [] before words first now start was then held after so none had way =
    let (more, here, there) = so.takes before words start had way in
    (more, subst (λ (b : List ℕ). HasImported (before ++ b) more now) (sym (so.spelled ∙ append-nil so.front)) here, there)
front_all bytes (byte ∷ rest) before words first now start was then held after so none had way = absurd (omega (arith, none))

-- the first byte
pub first_taken : (before bytes : List ℕ) → 0 < length bytes → before ++ slice_index bytes 0 ∷ [] ≡ before ++ take 1 bytes
first_taken before [] some = absurd (omega (arith, some))
first_taken before (byte ∷ bytes) some = refl

pub first_halts : (start then : Option (List ℕ)) (after before bytes : List ℕ) (why : Stop MccStop) → 0 < length bytes → HasHalted start then after (before ++ slice_index bytes 0 ∷ []) why
    → HasHalted start then after (before ++ bytes) why
first_halts start then after before [] why some had = absurd (omega (arith, some))
first_halts start then after before (byte ∷ bytes) why some had =
    subst (λ (b : List ℕ). HasHalted start then after b why) (append_assoc before (byte ∷ []) bytes) (halted_more start then after (before ++ byte ∷ []) bytes why had)
