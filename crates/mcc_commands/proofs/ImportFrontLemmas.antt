-- Words before an offending one don't offend, and it is the first of each front that has it; and so nothing offends in a line whose words don't.
use Rattle.std.proofs.Common.{◌≡◌, ℕ, ◌+◌, ◌-◌, ◌*◌, ◌/◌, ◌%◌, ◌^◌, ◌<◌, ◌≤◌, true, List, [], ◌∷◌, ◌++◌, append_assoc, append-nil, drop, length, length-append, length-drop, take, Ok, refl, ap, sym, ◌∙◌, subst, arith}
use Rattle.std.proofs.lemmas.List.{length-take-le, take-append-drop}
use Rattle.cc_base.specs.declared.refusal.Refusal.{Refusal}
use Rattle.mcc_files.specs.Readers.{back_in, item_in}
use Rattle.mcc_files.specs.Reading.{State, at_first, run, take_byte}
use Rattle.mcc_files.proofs.RunLemmas.{ok_same, run_more, went}
use Rattle.mcc_files.specs.PayloadReading.{joined}
use Rattle.mcc_words.specs.Close.{words_as_they_came}
use Rattle.services_files.specs.CaptionChannel.{caption_channel}
use Rattle.words_files.specs.Offences.{AreWholeWords, Begins, FirstOffendingWord, IsFileUnder, IsUnoffending}
use Rattle.words_files.proofs.WordLemmas.{front_of}
use Rattle.mcc_commands.specs.Offences.{ItemWordOffends, NoWordOffends}
use Rattle.mcc_commands.specs.Words.{is_open, open_words, state_words, words_with}
use Rattle.mcc_commands.proofs.JudgeLemmas.{item_facts}
use Rattle.mcc_commands.proofs.ImportOffenceLemmas.{AtItems, behind_on, no_word_more, state_at, word_offends, words_at}
use Rattle.mcc_commands.proofs.StateLemmas.{none_with, stepped}
use Rattle.mcc_commands.proofs.ImportWordsLemmas.{WordsOn, on_both, on_none, open_on}

-- the words of an item follow those before it
item_on : (before : List ℕ) (s : State) (byte : ℕ) (item : List ℕ) → item_in s.phase s.payload byte ≡ item → run at_first before ≡ Ok s → WordsOn (state_words s) (words_with s item)
item_on before s byte [] is reads = on_none (state_words s) (words_with s []) (none_with s [] refl)
item_on before s byte (first ∷ item) is reads =
    let some : item_in s.phase s.payload byte ≡ [] → ⊥ = λ none. let clash : first ∷ item ≡ [] = sym is ∙ none in absurd cc in
    let facts = item_facts before s byte reads some in
    let bytes = s.payload.bytes in
    let join : joined true [] (bytes ++ first ∷ item) ≡ Ok (bytes ++ first ∷ item) =
    subst (λ (f : List ℕ). joined true [] (bytes ++ f) ≡ Ok (bytes ++ f)) is facts.join in
    let at : AtItems s s.placed bytes = record { open_is = ap is_open facts.at; bytes_are = refl; placed_are = refl } in
    let on = behind_on (words_as_they_came s.placed) (open_words bytes) (open_words (bytes ++ first ∷ item)) (open_on bytes (first ∷ item) join) in
    record {
      rest = on.rest;
      spelled = words_at s s.placed bytes (first ∷ item) at ∙ (on.spelled ∙ ap (λ (w : List ℕ). w ++ on.rest) (sym (state_at s s.placed bytes at)));
    }

-- the words of what was read follow the words of what was read before
pub words_on : (rest before : List ℕ) (s t : State) → run at_first before ≡ Ok s → run s rest ≡ Ok t → WordsOn (state_words s) (state_words t)
words_on [] before s t reads goes = on_none (state_words s) (state_words t) (ap (λ (x : State). state_words x) (sym (ok_same s t goes)))
words_on (byte ∷ rest) before s t reads goes =
    let w = went (take_byte s byte) (λ n. run n rest) t goes in
    let item = item_in s.phase s.payload byte in
    let step = (stepped before s w.next byte reads w.stepped).words in
    let there = words_on rest (before ++ byte ∷ []) w.next t (run_more at_first before s byte w.next reads w.stepped) w.more in
    on_both (state_words s) (words_with s item) (state_words t) (item_on before s byte item refl reads)
    (subst (λ (x : List ℕ). WordsOn x (state_words t)) step there)

-- so do the words of an item that was read
pub item_read : (rest before : List ℕ) (s t : State) (byte : ℕ) → run at_first before ≡ Ok s → run s (byte ∷ rest) ≡ Ok t
    → WordsOn (words_with s (item_in s.phase s.payload byte)) (state_words t)
item_read rest before s t byte reads goes =
    let w = went (take_byte s byte) (λ n. run n rest) t goes in
    let step = (stepped before s w.next byte reads w.stepped).words in
    subst (λ (x : List ℕ). WordsOn x (state_words t)) step
    (words_on rest (before ++ byte ∷ []) w.next t (run_more at_first before s byte w.next reads w.stepped) w.more)

-- a file that begins with words begins with a front of them
begins_front : (front rest : List ℕ) → Begins caption_channel (front ++ rest) → Begins caption_channel front
begins_front front rest b = record {
  more = rest ++ b.more;
  frames = b.frames;
  is_file = subst (λ (w : List ℕ). IsFileUnder caption_channel b.frames w) (append_assoc front rest b.more) b.is_file;
}

-- words that stand among those with which a file begins, but for one byte at most, don't offend
fine_by : (fewer rest begun behind : List ℕ) → fewer ++ rest ≡ begun ++ behind → AreWholeWords begun → length fewer ≤ length begun + 1 → Begins caption_channel begun
    → IsUnoffending caption_channel fewer
fine_by fewer rest begun behind spelled whole within begins =
    let n = 2 * (length fewer / 2) in
    let few : n ≤ length fewer = omega arith in
    let size : length (take n fewer) ≡ n = length-take-le n fewer few in
    let parts : take n fewer ++ drop n fewer ≡ fewer = take-append-drop n fewer in
    let all : take n fewer ++ (drop n fewer ++ rest) ≡ begun ++ behind =
    sym (append_assoc (take n fewer) (drop n fewer) rest) ∙ (ap (λ (w : List ℕ). w ++ rest) parts ∙ spelled) in
    let (more, front) = front_of (take n fewer) begun (drop n fewer ++ rest) behind all (omega (arith, size, few, within, whole)) in
    let left = length-drop n fewer in
    record {
      words = take n fewer;
      half = drop n fewer;
      spelled = sym parts;
      whole = omega (arith, size);
      single = omega (arith, left);
      begins = begins_front (take n fewer) more (subst (λ (w : List ℕ). Begins caption_channel w) front begins);
    }

-- no front of words offends of which none does
pub fine_front : (fewer more : List ℕ) → WordsOn fewer more → IsUnoffending caption_channel more → IsUnoffending caption_channel fewer
fine_front fewer more on fine =
    let spelled : fewer ++ on.rest ≡ fine.words ++ fine.half = sym on.spelled ∙ fine.spelled in
    let long = sym (length-append fewer on.rest) ∙ (ap length spelled ∙ length-append fine.words fine.half) in
    let single = fine.single in
    fine_by fewer on.rest fine.words fine.half spelled fine.whole (omega (arith, long, single)) fine.begins

-- an offending word of fewer words than 2^63 is at its place
pub offence_at : (words : List ℕ) (refusal : Refusal) (has : FirstOffendingWord caption_channel words refusal) → length words < 4294967295
    → (refusal.place ≡ length has.before) × (length has.before + 2 ≤ length words)
offence_at words refusal has few =
    let long = ap length has.spelled ∙ length-append has.before (has.high ∷ has.low ∷ has.rest) in
    let place = has.place_is in
    let within : length has.before + 2 ≤ length words = omega (arith, long) in
    (place ∙ small (length has.before) (omega (arith, within, few)), within)
  where
    small : (n : ℕ) → n < 4294967295 → n % 2 ^ 64 ≡ n
    small n below = omega (arith, below)

-- the words before it don't offend
pub fine_before : (fewer more : List ℕ) (refusal : Refusal) → WordsOn fewer more → FirstOffendingWord caption_channel more refusal → length more < 4294967295 → length fewer ≤ refusal.place + 1
    → IsUnoffending caption_channel fewer
fine_before fewer more refusal on has few within =
    let at = (offence_at more refusal has few).0 in
    fine_by fewer on.rest has.before (has.high ∷ has.low ∷ has.rest) (sym on.spelled ∙ has.spelled) has.whole (omega (arith, within, at)) has.begins

-- and it is the first of each front that has it
pub offends_front : (fewer more : List ℕ) (refusal : Refusal) → WordsOn fewer more → FirstOffendingWord caption_channel more refusal → length more < 4294967295 → refusal.place + 1 < length fewer
    → FirstOffendingWord caption_channel fewer refusal
offends_front fewer more refusal on has few past =
    let at = (offence_at more refusal has few).0 in
    let front = has.before ++ has.high ∷ has.low ∷ [] in
    let all : front ++ has.rest ≡ fewer ++ on.rest = append_assoc has.before (has.high ∷ has.low ∷ []) has.rest ∙ (sym has.spelled ∙ on.spelled) in
    let long = length-append has.before (has.high ∷ has.low ∷ []) in
    let (more, same) = front_of front fewer has.rest on.rest all (omega (arith, long, at, past)) in
    record {
      before = has.before;
      high = has.high;
      low = has.low;
      rest = more;
      spelled = same ∙ append_assoc has.before (has.high ∷ has.low ∷ []) more;
      whole = has.whole;
      begins = has.begins;
      offends = has.offends;
      place_is = has.place_is;
      why_is = has.why_is;
    }

-- no item of what was read offends where no word of it does
pub no_word_line : (rest before : List ℕ) (s t : State) → run at_first before ≡ Ok s → run s rest ≡ Ok t → NoWordOffends before → IsUnoffending caption_channel (state_words t)
    → NoWordOffends (before ++ rest)
no_word_line [] before s t reads goes none fine = subst (λ (b : List ℕ). NoWordOffends b) (sym (append-nil before)) none
no_word_line (byte ∷ rest) before s t reads goes none fine =
    let w = went (take_byte s byte) (λ n. run n rest) t goes in
    let here = fine_front (words_with s (item_in s.phase s.payload byte)) (state_words t) (item_read rest before s t byte reads goes) fine in
    subst (λ (b : List ℕ). NoWordOffends b) (append_assoc before (byte ∷ []) rest)
    (no_word_line rest (before ++ byte ∷ []) w.next t (run_more at_first before s byte w.next reads w.stepped) w.more (no_word_more before s byte reads none here) fine)

-- what offends still does with more bytes
pub offends_more : (bytes more : List ℕ) (refusal : Refusal) → ItemWordOffends bytes refusal → ItemWordOffends (bytes ++ more) refusal
offends_more bytes more refusal has = record {
  before = has.before;
  item = has.item;
  behind = has.behind ++ more;
  spelled = ap (λ (b : List ℕ). b ++ more) has.spelled ∙ (append_assoc has.before (has.item ++ has.behind) more ∙ ap (λ (b : List ℕ). has.before ++ b) (append_assoc has.item has.behind more));
  offends = has.offends;
}

-- the item with which the words pass the offending one has it
pub item_has : (before rest : List ℕ) (s t : State) (byte : ℕ) (word : Refusal) → run at_first before ≡ Ok s → run s (byte ∷ rest) ≡ Ok t
    → FirstOffendingWord caption_channel (state_words t) word → length (state_words t) < 4294967295 → length (state_words s) ≤ word.place + 1
    → word.place + 1 < length (words_with s (item_in s.phase s.payload byte))
    → ItemWordOffends (before ++ byte ∷ rest) (record { place = length before - back_in s.phase s.payload; why = word.why })
item_has before rest s t byte word reads goes has few within past =
    let item = item_in s.phase s.payload byte in
    let some : item ≡ [] → ⊥ = λ none. let same = ap length (none_with s item none) in omega (arith, same, within, past) in
    let facts = item_facts before s byte reads some in
    let fine = fine_before (state_words s) (state_words t) word (words_on (byte ∷ rest) before s t reads goes) has few within in
    let offends = offends_front (words_with s item) (state_words t) word (item_read rest before s t byte reads goes) has few past in
    subst (λ (b : List ℕ). ItemWordOffends b (record { place = length before - back_in s.phase s.payload; why = word.why })) (append_assoc before (byte ∷ []) rest)
    (offends_more (before ++ byte ∷ []) rest (record { place = length before - back_in s.phase s.payload; why = word.why })
    (word_offends before s byte word reads facts.not_yet some fine offends))
