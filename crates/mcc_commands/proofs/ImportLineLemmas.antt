-- A packet's line is taken at once.
use Rattle.std.proofs.Common.{◌≡◌, ℕ, ◌+◌, ◌-◌, ◌*◌, ◌<◌, ◌≤◌, ◌==◌, inl, inr, not, Bool, true, false, List, [], ◌∷◌, ◌++◌, append_assoc, append-nil, drop, length, length-append, slice_index, take, Option, Result, Ok, Err, is_err, refl, ap, sym, ◌∙◌, subst, arith}
use Rattle.std.proofs.lemmas.Bool.{cases_Bool, cases_lt}
use Rattle.std.proofs.lemmas.List.{length-take-le, take-append-drop, take_all}
use Rattle.std.proofs.lemmas.List.Folds.{list_all-append}
use Rattle.cc_base.specs.declared.refusal.Refusal.{Refusal}
use Rattle.mcc_files.specs.Lines.{HaveNoLf}
use Rattle.mcc_files.specs.MccFiles.{TimedPackets}
use Rattle.mcc_files.specs.Readers.{HasRead, IsBehindLine, TakesOn, is_at_start, item_in, packet_in, state_of}
use Rattle.mcc_files.specs.Offences.{IsFirstOffence}
use Rattle.mcc_files.specs.Reading.{State, at_first, run, take_byte}
use Rattle.mcc_files.specs.declared.phase.Phase.{Phase}
use Rattle.mcc_files.specs.declared.phase.Phase.TheVariants as phase
use Rattle.mcc_files.specs.declared.reader.MccReader.{MccReader}
use Rattle.mcc_files.proofs.RunLemmas.{ok_one, run_both, run_more, run_on, went}
use Rattle.mcc_files.specs.Payloads.{checksum_byte}
use Rattle.mcc_files.specs.PayloadWords.{payload_words}
use Rattle.mcc_files.specs.PayloadReading.{is_whole, joined}
use Rattle.mcc_files.specs.declared.payload_reader.Offence.{Offence}
use Rattle.mcc_words.specs.Close.{words_as_they_came}
use Rattle.services_files.specs.CaptionChannel.{caption_channel}
use Rattle.text_output.specs.Gathered.{IsGathered}
use Rattle.words_files.specs.Offences.{FirstOffendingWord}
use Rattle.words_reading.specs.declared.judge.Stop.{Stop}
use Rattle.words_reading.specs.declared.judge.Stop.TheVariants as stopped
use Rattle.mcc_commands.specs.Importing.{HasHalted, HasHeard, HasImported, HasLines, IsFirstLine, IsMade, LineOffends, ReadsLine, step_back, step_item}
use Rattle.mcc_commands.specs.Offences.{ItemWordOffends, NoWordOffends}
use Rattle.mcc_commands.specs.Words.{is_open, open_part, open_words, state_words, words_with}
use Rattle.mcc_commands.specs.declared.importing.Importing.{Importing}
use Rattle.mcc_commands.specs.declared.made.Made.{Made}
use Rattle.mcc_commands.specs.declared.import_stop.MccStop.{MccStop}
use Rattle.mcc_commands.specs.declared.import_stop.MccStop.TheVariants as stop
use Rattle.mcc_commands.proofs.ImportFrontLemmas.{item_has, no_word_line, offence_at, offends_front, words_on}
use Rattle.mcc_commands.proofs.ItemLemmas.{whole_bytes}
use Rattle.mcc_commands.proofs.JudgeLemmas.{item_facts}
use Rattle.mcc_commands.proofs.ImportMadeLemmas.{came_fewer}
use Rattle.mcc_commands.proofs.ImportOffenceLemmas.{no_front_offends}
use Rattle.mcc_commands.proofs.ReadLemmas.{within_of}
use Rattle.mcc_commands.proofs.StateLemmas.{came_more, none_with}
use Rattle.mcc_commands.proofs.ImportStepLemmas.{LineTaken, halted_more, halts_at, longer_not, next_taken}
use Rattle.mcc_commands.proofs.TakeLemmas.{lines_by, no_byte_offends, started_words, taken_lines, taken_step}
use Rattle.mcc_commands.proofs.ImportWordsLemmas.{eight_long, on_none, open_not_yet, whole_words, words_long}

-- the words of bytes have two bytes each, and the flag's too
open_size : (bytes : List ℕ) → joined true [] bytes ≡ Ok bytes → 0 < length bytes → length (open_words bytes) ≡ 6 + 2 * length bytes
open_size [] join some = absurd (omega (arith, some))
open_size (b ∷ bytes) join some = elim (cases_Bool (is_whole (b ∷ bytes))) [
  | inl whole ↦
      let w = whole_bytes (b ∷ bytes) join whole in
      let words = ap (λ (x : List ℕ). length (open_words x)) w.are ∙ ap length (whole_words w.payload) in
      let long = ap length w.are in
      let own = length-append w.payload.user (checksum_byte w.payload ∷ []) in
      let size = words_long w.payload in
      omega (arith, words, long, own, size)
  | inr not_yet ↦
      let each = eight_long (b ∷ bytes) in
      let same = ap length (open_not_yet b bytes not_yet) in
      omega (arith, each, same)
]

grows : (came bytes fit : List ℕ) (more : ℕ) → joined true [] (bytes ++ fit) ≡ Ok (bytes ++ fit) → is_whole bytes ≡ false → 0 < length fit → (length bytes ≡ 0 → more ≡ 6 + 2 * length fit)
    → (0 < length bytes → more ≡ 2 * length fit) → length (came ++ open_words bytes) + more ≡ length (came ++ open_words (bytes ++ fit))
grows came [] fit more join not_yet some begun on =
    let size = open_size fit join some in
    let is = begun refl in
    omega (arith, size, is, length-append came [], length-append came (open_words fit))
grows came (b ∷ bytes) fit more join not_yet some begun on =
    let both = length-append (b ∷ bytes) fit in
    let size = open_size ((b ∷ bytes) ++ fit) join (omega (arith, both)) in
    let each = eight_long (b ∷ bytes) in
    let same = ap length (open_not_yet b bytes not_yet) in
    let is = on (omega arith) in
    omega (arith, both, size, each, same, is, length-append came (open_words (b ∷ bytes)), length-append came (open_words ((b ∷ bytes) ++ fit)))

-- this many bytes of words more does an item bring
pub words_grow : (before : List ℕ) (s : State) (byte heard more : ℕ) → run at_first before ≡ Ok s → heard ≡ length (state_words s) → (length (item_in s.phase s.payload byte) ≡ 0 → more ≡ 0)
    → (0 < length (item_in s.phase s.payload byte) → length s.payload.bytes ≡ 0 → more ≡ 6 + 2 * length (item_in s.phase s.payload byte))
    → (0 < length s.payload.bytes → more ≡ 2 * length (item_in s.phase s.payload byte)) → heard + more ≡ length (words_with s (item_in s.phase s.payload byte))
words_grow before s byte heard more reads heard_is none begun on = by_item (item_in s.phase s.payload byte) refl
  where
    by_item : (item : List ℕ) → item_in s.phase s.payload byte ≡ item → heard + more ≡ length (words_with s (item_in s.phase s.payload byte))
    by_item [] is =
        let same = ap length (none_with s (item_in s.phase s.payload byte) is) in
        let zero_is = none (ap length is) in
        omega (arith, same, zero_is, heard_is)
    by_item (first ∷ item) is =
        let size = ap length is in
        let facts = item_facts before s byte reads (λ empty. let long = ap length empty in omega (arith, size, long)) in
        let open_is : is_open s.phase ≡ true = ap is_open facts.at in
        let fit = item_in s.phase s.payload byte in
        let came = words_as_they_came s.placed in
        let some : 0 < length fit = omega (arith, size) in
        let grow = grows came s.payload.bytes fit more facts.join facts.not_yet some (begun some) on in
        let was : length (state_words s) ≡ length (came ++ open_words s.payload.bytes) = ap (λ (b : Bool). length (came ++ open_part b s.payload.bytes)) open_is in
        let now : length (words_with s fit) ≡ length (came ++ open_words (s.payload.bytes ++ fit)) = ap (λ (b : Bool). length (came ++ open_part b (s.payload.bytes ++ fit))) open_is in
        omega (arith, grow, was, now, heard_is)

pub item_grows : (before : List ℕ) (s : State) (byte heard more count first : ℕ) → run at_first before ≡ Ok s → heard ≡ length (state_words s) → count ≡ length (item_in s.phase s.payload byte)
    → first ≡ length s.payload.bytes → (count ≡ 0 → more ≡ 0) → (0 < count → first ≡ 0 → more ≡ 6 + 2 * count) → (0 < first → more ≡ 2 * count)
    → heard + more ≡ length (words_with s (item_in s.phase s.payload byte))
item_grows before s byte heard more count first reads heard_is count_is first_is none begun on =
    words_grow before s byte heard more reads heard_is (λ empty. none (count_is ∙ empty))
    (λ some closed. let is = begun (omega (arith, some, count_is)) (first_is ∙ closed) in omega (arith, is, count_is))
    (λ some. let is = on (omega (arith, some, first_is)) in omega (arith, is, count_is))

-- a line begins
pub start_is : (p : Phase) → is_at_start p ≡ true → p ≡ phase.Start
start_is phase.Start is = refl
start_is p is = absurd (cc)

-- a byte more of a line was read
pub byte_read : (before : List ℕ) (placed : TimedPackets) (bytes : List ℕ) (i : ℕ) (old new : MccReader) → i < length bytes → HasRead (before ++ take i bytes) placed old
    → HasLines (before ++ take i bytes) placed → HasRead ((before ++ take i bytes) ++ slice_index bytes i ∷ []) placed new
    → HasRead (before ++ take (i + 1) bytes) placed new × HasLines (before ++ take (i + 1) bytes) placed
byte_read before placed bytes i old new below was lines read =
    let all = next_taken before bytes i below in (
      subst (λ (b : List ℕ). HasRead b placed new) all read,
      subst (λ (b : List ℕ). HasLines b placed) all (taken_lines (before ++ take i bytes) (slice_index bytes i) placed placed old new was read lines),
    )

-- a packet's line was read
pub line_read : (before : List ℕ) (placed : TimedPackets) (bytes : List ℕ) (i count : ℕ) (old new : MccReader) → i < length bytes → count ≡ i + 1 → HasRead (before ++ take i bytes) placed old
    → HasLines (before ++ take i bytes) placed → TakesOn (before ++ take i bytes) placed (slice_index bytes i) new (Ok true) → IsFirstLine before placed bytes count new
line_read before placed bytes i count old new below count_is was lines (read, whole) =
    let byte = slice_index bytes i in
    let front = before ++ take i bytes in
    let later = placed ++ packet_in new ∷ [] in
    let step = taken_step front byte placed later old new was read in
    let (ten, start) = elim step.line as (λ _. (byte ≡ 10) × ((state_of new later).phase ≡ phase.Start)) [
      | inl line ↦ line
      | inr line ↦ absurd (longer_not placed (packet_in new) line.1)
    ] in
    let all : front ++ byte ∷ [] ≡ before ++ take count bytes = next_taken before bytes i below ∙ ap (λ (n : ℕ). before ++ take n bytes) (sym count_is) in
    let line : take i bytes ++ byte ∷ [] ≡ take count bytes = next_taken [] bytes i below ∙ ap (λ (n : ℕ). take n bytes) (sym count_is) in
    record {
      within = omega (arith, below, count_is);
      some = omega (arith, count_is);
      line = record {
        front = take i bytes;
        spelled = sym line ∙ ap (λ (b : ℕ). take i bytes ++ b ∷ []) ten;
        open_lines = lines;
        read = subst (λ (b : List ℕ). HasRead b later new) all read;
        whole = whole;
        start = start;
        lines = subst (λ (b : List ℕ). HasLines b later) all (taken_lines front byte placed later old new was read lines);
      };
    }

-- bytes within a line more
lines_on : (before front : List ℕ) (placed : TimedPackets) → HasLines before placed → HaveNoLf front → HasLines (before ++ front) placed
lines_on before front placed was none = record {
  lines = was.lines;
  rest = was.rest ++ front;
  spelled = ap (λ (b : List ℕ). b ++ front) was.spelled ∙ append_assoc was.lines was.rest front;
  ended = was.ended;
  open_line = list_all-append (λ byte. not (byte == 10)) was.rest front ∙ rw (was.open_line, none) refl;
}

-- a packet's line was read in one go
pub line_behind : (before : List ℕ) (placed : TimedPackets) (bytes : List ℕ) (count : ℕ) (old new : MccReader) → HasRead before placed old → HasLines before placed
    → IsBehindLine old bytes count new → IsFirstLine before placed bytes count new
line_behind before placed bytes count old new was lines behind =
    let later = placed ++ packet_in new ∷ [] in
    let front = before ++ behind.front in
    let spelled = behind.spelled in
    let within = behind.within in
    let all : front ++ 10 ∷ [] ≡ before ++ take count bytes = append_assoc before behind.front (10 ∷ []) ∙ ap (λ (l : List ℕ). before ++ l) (sym spelled) in
    let read : HasRead (before ++ take count bytes) later new = run_both at_first before (take count bytes) (state_of old placed) (state_of new later) was (behind.goes placed) in
    let open_lines = lines_on before behind.front placed lines behind.no_lf in
    record {
      within = within;
      some = omega (arith, ap length spelled, length-append behind.front (10 ∷ []), length-take-le count bytes within);
      line = record {
        front = behind.front;
        spelled = spelled;
        open_lines = open_lines;
        read = read;
        whole = behind.whole;
        start = behind.start;
        lines = subst (λ (b : List ℕ). HasLines b later) all
            (lines_by front 10 placed later new (subst (λ (b : List ℕ). HasRead b later new) (sym all) read) open_lines (inl (refl, behind.start)));
      };
    }

-- with another reader ahead the same was taken
abbrev pub with_ahead : (bytes words : List ℕ) (importing : Importing) (ahead : MccReader) → HasImported bytes words importing → HasImported bytes words (record importing { ahead = ahead })
with_ahead bytes words importing ahead had = record {
  placed = had.placed;
  read = had.read;
  lines = had.lines;
  no_word = had.no_word;
  heard = had.heard;
  file = had.file;
  made = had.made;
  place_is = had.place_is;
}

-- the words before a line are few
pub line_few : (bytes words : List ℕ) (importing : Importing) (more : ℕ) (had : HasImported bytes words importing) → importing.reader.phase ≡ phase.Start → more ≤ 524
    → importing.hearer.heard + more < 4294967295
line_few bytes words importing more had start fits =
    let came = came_fewer had.placed words _ _ had.made.has in
    let put = had.made.bytes_are in
    let short = importing.made.short in
    let counted = had.heard.counted in
    let all = ap length (started_words had.placed importing.reader (ap is_open start)) in
    omega (arith, came, put, short, counted, all, fits)

-- its words are its packet's
pub line_words : (bytes words line out : List ℕ) (importing : Importing) (ahead : MccReader) (had : HasImported bytes words importing) → importing.reader.phase ≡ phase.Start
    → ReadsLine bytes had.placed line ahead → out ≡ payload_words (packet_in ahead).1
    → state_words (state_of importing.reader had.placed) ++ out ≡ state_words (state_of ahead (had.placed ++ packet_in ahead ∷ []))
line_words bytes words line out importing ahead had start reads out_is =
    ap (λ (w : List ℕ). w ++ out) (started_words had.placed importing.reader (ap is_open start))
    ∙ (ap (λ (o : List ℕ). words_as_they_came had.placed ++ o) out_is
    ∙ (sym (came_more had.placed (packet_in ahead)) ∙ sym (started_words (had.placed ++ packet_in ahead ∷ []) ahead (ap is_open reads.start))))

-- one of them offends
abbrev pub line_offends : (bytes words line out : List ℕ) (importing : Importing) (ahead : MccReader) (heard : ℕ) (word : Refusal) (had : HasImported bytes words importing)
    → importing.reader.phase ≡ phase.Start → (reads : ReadsLine bytes had.placed line ahead) → out ≡ payload_words (packet_in ahead).1 → length out ≤ 524 → heard ≡ importing.hearer.heard
    → length (bytes ++ line) ≤ 2147483647 → FirstOffendingWord caption_channel (state_words (state_of importing.reader had.placed) ++ out) word
    → LineOffends importing.reader line importing.place heard word
line_offends bytes words line out importing ahead heard word had start reads out_is fits heard_is within offends =
    let all = line_words bytes words line out importing ahead had start reads out_is in
    let few = line_few bytes words importing (length out) had start fits in
    let counted = had.heard.counted in
    let long = ap length (sym all) ∙ length-append (state_words (state_of importing.reader had.placed)) out in
    record {
      before = bytes;
      placed = had.placed;
      to = state_of ahead (had.placed ++ packet_in ahead ∷ []);
      read = had.read;
      goes = reads.read;
      unoffending = had.heard.unoffending;
      offends = subst (λ (w : List ℕ). FirstOffendingWord caption_channel w word) all offends;
      few = omega (arith, few, counted, long);
      heard_is = heard_is ∙ counted;
      place_is = had.place_is;
      within = within;
    }

-- and so the run stops
pub line_halts : (bytes words line : List ℕ) (importing : Importing) (ahead : MccReader) (start then : Option (List ℕ)) (after : List ℕ) (refusal : Refusal) (had : HasImported bytes words importing)
    → ReadsLine bytes had.placed line ahead → ItemWordOffends (bytes ++ line) refusal → IsGathered start then after words
    → HasHalted start then after (bytes ++ line) (stopped.Own (stop.Offends refusal))
line_halts bytes words line importing ahead start then after refusal had reads offends way =
    let all : (bytes ++ reads.front) ++ 10 ∷ [] ≡ bytes ++ line = append_assoc bytes reads.front (10 ∷ []) ∙ ap (λ (l : List ℕ). bytes ++ l) (sym reads.spelled) in
    let open_lines = reads.open_lines in
    subst (λ (b : List ℕ). HasHalted start then after b (stopped.Own (stop.Offends refusal))) all
    (halts_at (bytes ++ reads.front) words 10 start then after refusal
    (record {
      offends = inl (subst (λ (b : List ℕ). ItemWordOffends b refusal) (sym all) offends);
      front = bytes ++ reads.front;
      last = 10;
      spelled = refl;
      says = record {
        lines = open_lines.lines;
        rest = open_lines.rest;
        placed = had.placed;
        spelled = open_lines.spelled;
        ended = open_lines.ended;
        open_line = open_lines.open_line;
        within = within_of had.placed words importing.made had.made;
      };
    })
    way)

-- or they were heard
pub line_heard : (bytes words line out : List ℕ) (old now : Importing) (had : HasImported bytes words old) → old.reader.phase ≡ phase.Start
    → (reads : ReadsLine bytes had.placed line now.reader) → out ≡ payload_words (packet_in now.reader).1
    → HasHeard (state_words (state_of old.reader had.placed) ++ out) now.hearer → now.made ≡ old.made → now.place ≡ old.place + length line
    → LineTaken (bytes ++ reads.front) words 10 had.placed now
line_heard bytes words line out old now had start reads out_is heard made place =
    let later = had.placed ++ packet_in now.reader ∷ [] in
    let all : bytes ++ line ≡ (bytes ++ reads.front) ++ 10 ∷ [] = ap (λ (l : List ℕ). bytes ++ l) reads.spelled ∙ sym (append_assoc bytes reads.front (10 ∷ [])) in
    let t = state_of now.reader later in
    let put = line_words bytes words line out old now.reader had start reads out_is in
    let hears : HasHeard (state_words t) now.hearer = subst (λ (w : List ℕ). HasHeard w now.hearer) put heard in
    let goes : run (state_of old.reader had.placed) line ≡ Ok t = sym (run_on at_first bytes line (state_of old.reader had.placed) had.read) ∙ reads.read in
    let none = no_word_line line bytes (state_of old.reader had.placed) t had.read goes had.no_word hears.unoffending in
    let was = had.place_is in
    record {
      read = subst (λ (b : List ℕ). HasRead b later now.reader) all reads.read;
      start = reads.start;
      ends = (bytes ++ reads.front, refl);
      lines = subst (λ (b : List ℕ). HasLines b later) all reads.lines;
      no_word = subst (λ (b : List ℕ). NoWordOffends b) all none;
      ended = record {
        file = had.file;
        heard = subst (λ (w : List ℕ). HasHeard w now.hearer) (started_words later now.reader (ap is_open reads.start)) hears;
      };
      made = subst (λ (m : Made). IsMade had.placed words m) (sym made) had.made;
      place_is = omega (arith, place, was, length-append bytes line) ∙ ap length all;
    }

-- by the reader that was ahead
pub line_taken : (bytes words line out : List ℕ) (old now : Importing) (had : HasImported bytes words old) → old.reader.phase ≡ phase.Start
    → ReadsLine bytes had.placed line old.ahead → out ≡ payload_words (packet_in old.ahead).1 → now.reader ≡ old.ahead
    → HasHeard (state_words (state_of old.reader had.placed) ++ out) now.hearer → now.made ≡ old.made → now.place ≡ old.place + length line
    → (front : List ℕ) × (line ≡ front ++ 10 ∷ []) × LineTaken (bytes ++ front) words 10 had.placed now
line_taken bytes words line out old now had start reads out_is same heard made place =
    let ahead : ReadsLine bytes had.placed line now.reader = subst (λ (r : MccReader). ReadsLine bytes had.placed line r) (sym same) reads in
    let words_are : out ≡ payload_words (packet_in now.reader).1 = subst (λ (r : MccReader). out ≡ payload_words (packet_in r).1) (sym same) out_is in
    (ahead.front, ahead.spelled, line_heard bytes words line out old now had start ahead words_are heard made place)

-- a line is read on to the item that has an offending word
pub record ReadsOn (reader : MccReader) (line : List ℕ) (place heard : ℕ) (word : Refusal) (had : LineOffends reader line place heard word) (i : ℕ) (ahead : MccReader) (now : ℕ) : Type 0 where
  pub placed : TimedPackets
  pub read : HasRead (had.before ++ take i line) placed ahead
  pub heard_is : now ≡ length (state_words (state_of ahead placed))
  pub within : now ≤ word.place + 1

-- the words before the line don't offend, so they are before the offending one
pub begins_before : (reader copied : MccReader) (line : List ℕ) (place heard : ℕ) (word : Refusal) (had : LineOffends reader line place heard word)
    → ((before : List ℕ) (placed : TimedPackets) → HasRead before placed reader → HasRead before placed copied) → ReadsOn reader line place heard word had 0 copied heard
begins_before reader copied line place heard word had same =
    let s = state_of reader had.placed in
    let read = same had.before had.placed had.read in
    let also : s ≡ state_of copied had.placed = ok_one (run at_first had.before) s (state_of copied had.placed) had.read read in
    let goes : run s line ≡ Ok had.to = sym (run_on at_first had.before line s had.read) ∙ had.goes in
    let on = words_on line had.before s had.to had.read goes in
    record {
      placed = had.placed;
      read = subst (λ (b : List ℕ). HasRead b had.placed copied) (sym (append-nil had.before)) read;
      heard_is = had.heard_is ∙ ap (λ (x : State). length (state_words x)) also;
      within = elim (cases_lt (word.place + 1) heard) [
        | inl past ↦
            let is = had.heard_is in
            absurd (no_front_offends (state_words s) (state_words s) word had.unoffending (on_none (state_words s) (state_words s) refl)
            (offends_front (state_words s) (state_words had.to) word on had.offends had.few (omega (arith, past, is))))
        | inr within ↦ within
      ];
    }

-- the words that were read are few
pub on_few : (reader : MccReader) (line : List ℕ) (place heard : ℕ) (word : Refusal) (had : LineOffends reader line place heard word) (i : ℕ) (ahead : MccReader) (now : ℕ)
    → ReadsOn reader line place heard word had i ahead now → (word.place + 1 < 4294967295) × (now < 4294967295)
on_few reader line place heard word had i ahead now on =
    let at = offence_at (state_words had.to) word had.offends had.few in
    let place_is = at.0 in
    let stands = at.1 in
    let few = had.few in
    let within = on.within in
    (omega (arith, place_is, stands, few), omega (arith, place_is, stands, few, within))

-- the line is within the limit
pub line_within : (reader : MccReader) (line : List ℕ) (place heard : ℕ) (word : Refusal) → LineOffends reader line place heard word → (i : ℕ) → i < length line → place + i < 2147483647
line_within reader line place heard word had i below =
    let place_is = had.place_is in
    let within = had.within in
    omega (arith, place_is, within, below, length-append had.before line)

-- the bytes of a line after some of them
line_split : (before line : List ℕ) (i : ℕ) → i < length line → before ++ line ≡ (before ++ take i line) ++ slice_index line i ∷ drop (i + 1) line
line_split before line i below =
    ap (λ (l : List ℕ). before ++ l) (sym (take-append-drop (i + 1) line))
    ∙ (sym (append_assoc before (take (i + 1) line) (drop (i + 1) line))
    ∙ (ap (λ (b : List ℕ). b ++ drop (i + 1) line) (sym (next_taken before line i below)) ∙ append_assoc (before ++ take i line) (slice_index line i ∷ []) (drop (i + 1) line)))

pub record At (reader : MccReader) (line : List ℕ) (place heard : ℕ) (word : Refusal) (had : LineOffends reader line place heard word) (i : ℕ) (s : State) : Type 0 where
  pub spelled : had.before ++ line ≡ (had.before ++ take i line) ++ slice_index line i ∷ drop (i + 1) line
  pub goes : run s (slice_index line i ∷ drop (i + 1) line) ≡ Ok had.to

pub at_byte : (reader : MccReader) (line : List ℕ) (place heard : ℕ) (word : Refusal) (had : LineOffends reader line place heard word) (i : ℕ) (s : State) → i < length line
    → run at_first (had.before ++ take i line) ≡ Ok s → At reader line place heard word had i s
at_byte reader line place heard word had i s below reads =
    let split = line_split had.before line i below in
    record {
      spelled = split;
      goes = sym (run_on at_first (had.before ++ take i line) (slice_index line i ∷ drop (i + 1) line) s reads) ∙ subst (λ (b : List ℕ). run at_first b ≡ Ok had.to) split had.goes;
    }

-- the item is found
pub item_found : (reader : MccReader) (line : List ℕ) (place heard : ℕ) (word : Refusal) (had : LineOffends reader line place heard word) (i : ℕ) (ahead : MccReader) (now more at : ℕ)
    → i < length line → (on : ReadsOn reader line place heard word had i ahead now)
    → now + more ≡ length (words_with (state_of ahead on.placed) (step_item ahead (slice_index line i))) → word.place + 1 < now + more
    → at ≡ (place + i) - step_back ahead → ItemWordOffends (had.before ++ line) (record { place = at; why = word.why })
item_found reader line place heard word had i ahead now more at below on grown past at_is =
    let s = state_of ahead on.placed in
    let byte = slice_index line i in
    let front = had.before ++ take i line in
    let here = at_byte reader line place heard word had i s below on.read in
    let long = length-append had.before (take i line) in
    let size = length-take-le i line (omega (arith, below)) in
    let place_is = had.place_is in
    let heard_is = on.heard_is in
    let within = on.within in
    let there : at ≡ length front - step_back ahead = at_is ∙ ap (λ (n : ℕ). n - step_back ahead) (omega (arith, long, size, place_is)) in
    let found = item_has front (drop (i + 1) line) s had.to byte word on.read here.goes had.offends had.few (omega (arith, heard_is, within)) (omega (arith, grown, past)) in
    subst (λ (b : List ℕ). ItemWordOffends b (record { place = at; why = word.why })) (sym here.spelled)
    (subst (λ (n : ℕ). ItemWordOffends (front ++ byte ∷ drop (i + 1) line) (record { place = n; why = word.why })) (sym there) found)

-- no byte of the line is refused
no_offence_at : (before : List ℕ) (byte : ℕ) (rest : List ℕ) (s t : State) (refusal : Refusal) → refusal.place ≤ length before → run at_first before ≡ Ok s → run s (byte ∷ rest) ≡ Ok t
    → IsFirstOffence (before ++ byte ∷ []) refusal → ⊥
no_offence_at before byte rest s t refusal within reads goes first =
    let w = went (take_byte s byte) (λ n. run n rest) t goes in
    let all = run_more at_first before s byte w.next reads w.stepped in
    by_case first all
  where
    by_case : {u : State} → IsFirstOffence (before ++ byte ∷ []) refusal → run at_first (before ++ byte ∷ []) ≡ Ok u → ⊥
    by_case {u} (inl b) all = no_byte_offends (before ++ byte ∷ []) u refusal all b
    by_case {u} (inr e) all = let at = e.place_is in omega (arith, at, within, length-append before (byte ∷ []))

pub took : (before : List ℕ) (placed : TimedPackets) (byte : ℕ) (rest : List ℕ) (t : State) (old new : MccReader) (result : Result Bool Offence) → HasRead before placed old
    → run (state_of old placed) (byte ∷ rest) ≡ Ok t → TakesOn before placed byte new result → is_err result ≡ true → ⊥
took before placed byte rest t old new (Ok ended) was goes takes err = absurd (cc)
took before placed byte rest t old new (Err offence) was goes takes err =
    no_offence_at before byte rest (state_of old placed) t (record { place = length before - offence.back; why = offence.why }) (omega arith) was goes (takes [])

-- a byte more of the line
more_read : (reader : MccReader) (line : List ℕ) (place heard : ℕ) (word : Refusal) (had : LineOffends reader line place heard word) (i : ℕ) (old new : MccReader) (was now : ℕ)
    (later : TimedPackets) → i < length line → (on : ReadsOn reader line place heard word had i old was)
    → now ≡ length (words_with (state_of old on.placed) (step_item old (slice_index line i))) → now ≤ word.place + 1
    → HasRead ((had.before ++ take i line) ++ slice_index line i ∷ []) later new → ReadsOn reader line place heard word had (i + 1) new now
more_read reader line place heard word had i old new was now later below on grown within read =
    let step = taken_step (had.before ++ take i line) (slice_index line i) on.placed later old new on.read read in
    record {
      placed = later;
      read = subst (λ (b : List ℕ). HasRead b later new) (next_taken had.before line i below) read;
      heard_is = grown ∙ sym (ap length step.words);
      within = within;
    }

-- the line goes on
pub goes_on : (reader : MccReader) (line : List ℕ) (place heard : ℕ) (word : Refusal) (had : LineOffends reader line place heard word) (i : ℕ) (old new : MccReader) (was now : ℕ)
    (result : Result Bool Offence) → i < length line → (on : ReadsOn reader line place heard word had i old was)
    → now ≡ length (words_with (state_of old on.placed) (step_item old (slice_index line i))) → now ≤ word.place + 1
    → TakesOn (had.before ++ take i line) on.placed (slice_index line i) new result → is_err result ≡ false → ReadsOn reader line place heard word had (i + 1) new now
goes_on reader line place heard word had i old new was now (Ok false) below on grown within takes ok =
    more_read reader line place heard word had i old new was now on.placed below on grown within takes
goes_on reader line place heard word had i old new was now (Ok true) below on grown within takes ok =
    more_read reader line place heard word had i old new was now (on.placed ++ packet_in new ∷ []) below on grown within takes.0
goes_on reader line place heard word had i old new was now (Err offence) below on grown within takes ok = absurd (cc)

-- all of it was read, and the offending word is among its words
pub not_past : (reader : MccReader) (line : List ℕ) (place heard : ℕ) (word : Refusal) (had : LineOffends reader line place heard word) (i : ℕ) (ahead : MccReader) (now : ℕ)
    → length line ≤ i → ReadsOn reader line place heard word had i ahead now → ⊥
not_past reader line place heard word had i ahead now past on =
    let read = subst (λ (b : List ℕ). run at_first b ≡ Ok (state_of ahead on.placed)) (ap (λ (l : List ℕ). had.before ++ l) (take_all i line past)) on.read in
    let same = ok_one (run at_first (had.before ++ line)) (state_of ahead on.placed) had.to read had.goes in
    let heard_is = on.heard_is ∙ ap (λ (x : State). length (state_words x)) same in
    let at = offence_at (state_words had.to) word had.offends had.few in
    let place_is = at.0 in
    let stands = at.1 in
    let within = on.within in
    omega (arith, heard_is, place_is, stands, within)

-- a run that stopped within the first line stopped within the bytes
pub line_front : (start then : Option (List ℕ)) (after before bytes : List ℕ) (count : ℕ) (why : Stop MccStop) → HasHalted start then after (before ++ take count bytes) why
    → HasHalted start then after (before ++ bytes) why
line_front start then after before bytes count why had =
    subst (λ (b : List ℕ). HasHalted start then after b why)
    (append_assoc before (take count bytes) (drop count bytes) ∙ ap (λ (b : List ℕ). before ++ b) (take-append-drop count bytes))
    (halted_more start then after (before ++ take count bytes) (drop count bytes) why had)
