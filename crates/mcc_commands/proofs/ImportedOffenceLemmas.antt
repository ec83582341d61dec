-- Bytes have one first offence, and none where they are an import.
use Rattle.std.proofs.Common.{◌≡◌, ℕ, ◌-◌, ◌<◌, ◌≤◌, inl, inr, Bool, true, List, [], ◌∷◌, ◌++◌, append_assoc, append-nil, length, length-append, Some, Ok, refl, ap, sym, ◌∙◌, subst, arith}
use Rattle.std.proofs.lemmas.Bool.{cases_lt}
use Rattle.std.specs.List.{concat}
use Rattle.cc_base.specs.declared.refusal.Refusal.{Refusal}
use Rattle.cc_base.specs.declared.why.Why.{Why}
use Rattle.cdp_packets.specs.Packets.{Frame}
use Rattle.mcc_files.proofs.FileReads.{file_run, lf_step}
use Rattle.mcc_files.proofs.OriginLemmas.{origin}
use Rattle.mcc_files.proofs.Refused.{no_offence, one_offence}
use Rattle.mcc_files.proofs.PacketReads.{in_payload}
use Rattle.mcc_files.proofs.RunLemmas.{ok_one, run_front, run_on}
use Rattle.mcc_files.proofs.UnitReads.{awaiting_item, digit_runs}
use Rattle.mcc_files.proofs.Unoffending.{unoffending}
use Rattle.mcc_files.specs.MccFiles.{IsMccFile, TimedPackets}
use Rattle.mcc_files.specs.Offences.{MccByteOffends}
use Rattle.mcc_files.specs.Readers.{back_in, item_in}
use Rattle.mcc_files.specs.Reading.{State, at_first, ends, placed_with, run, started}
use Rattle.mcc_files.proofs.StepLemmas.{at_bytes}
use Rattle.mcc_files.specs.Items.{AreDigits, IsItem, IsLetter}
use Rattle.mcc_files.specs.Payloads.{Payload, payload_bytes}
use Rattle.mcc_files.specs.PayloadReading.{Open, fitting, joined}
use Rattle.mcc_words.specs.Close.{words_as_they_came}
use Rattle.services_files.proofs.ChannelFiles.{offence_is_once}
use Rattle.services_files.specs.CaptionChannel.{caption_channel}
use Rattle.words_files.proofs.EndingLemmas.{file_whole, offence_stays}
use Rattle.words_files.proofs.WordLemmas.{front_of}
use Rattle.words_files.specs.Offences.{FirstOffendingWord, IsFileUnder, IsUnoffending}
use Rattle.mcc_commands.proofs.ImportFrontLemmas.{item_read}
use Rattle.mcc_commands.proofs.JudgeLemmas.{item_facts}
use Rattle.mcc_commands.proofs.ImportOffenceLemmas.{AtItems, awaits_at, behind_on, fitting_joined, no_front_offends, payload_fits, state_at, word_offends, words_at}
use Rattle.mcc_commands.proofs.StateLemmas.{letter_item, lf_item, none_with, second_item, stepped}
use Rattle.mcc_commands.proofs.ImportWordsLemmas.{front_is_open, on_none, open_on}
use Rattle.mcc_commands.specs.Imported.{IsMccImport}
use Rattle.mcc_commands.specs.Offences.{IsFirstOffence, ItemWordOffends, NoWordOffends, Offends, front_words}
use Rattle.mcc_commands.specs.Words.{open_words, state_words, words_with}
use Rattle.mcc_commands.proofs.ImportedWordsLemmas.{same_fronts}
use Rattle.mcc_commands.specs.Imports.{NothingOffendsInImports, OffencesAreOne}

-- a word of the item that ends with a byte offends
pub record OffendsAt (bytes : List ℕ) (refusal : Refusal) : Type 0 where
  pub before : List ℕ
  pub byte : ℕ
  pub rest : List ℕ
  pub s : State
  pub word : Refusal
  pub spelled : bytes ≡ before ++ byte ∷ rest
  pub reads : run at_first before ≡ Ok s
  pub fine : IsUnoffending caption_channel (state_words s)
  pub offends : FirstOffendingWord caption_channel (words_with s (item_in s.phase s.payload byte)) word
  pub place_is : refusal.place ≡ length before - back_in s.phase s.payload
  pub why_is : refusal.why ≡ word.why

-- one of the bytes of an item with which a payload goes on, and so one of all of those with which one does
fitting_offends : (s : State) (placed : TimedPackets) (bytes brought first over more : List ℕ) (p : Payload) (word : Refusal) → AtItems s placed bytes
    → joined true [] bytes ≡ Ok bytes → brought ≡ first ++ over → payload_bytes p ≡ bytes ++ (first ++ more)
    → FirstOffendingWord caption_channel (words_as_they_came placed ++ front_words p (length (bytes ++ first))) word
    → FirstOffendingWord caption_channel (words_with s (fitting bytes brought)) word
fitting_offends s placed bytes brought first over more p word at join brought_is spelled offends =
    let came = words_as_they_came placed in
    let rest = fitting (bytes ++ first) over in
    let fit : fitting bytes brought ≡ first ++ rest = ap (λ (b : List ℕ). fitting bytes b) brought_is ∙ payload_fits bytes first over more p spelled in
    let all : bytes ++ fitting bytes brought ≡ (bytes ++ first) ++ rest = ap (λ (f : List ℕ). bytes ++ f) fit ∙ sym (append_assoc bytes first rest) in
    let joins = subst (λ (b : List ℕ). joined true [] b ≡ Ok b) all (fitting_joined bytes brought join) in
    let on = behind_on came (open_words (bytes ++ first)) (open_words ((bytes ++ first) ++ rest)) (open_on (bytes ++ first) rest joins) in
    let words : words_with s (fitting bytes brought) ≡ came ++ open_words ((bytes ++ first) ++ rest) =
    words_at s placed bytes (fitting bytes brought) at ∙ ap (λ (b : List ℕ). came ++ open_words b) all in
    let front = front_is_open p (bytes ++ first) more (spelled ∙ sym (append_assoc bytes first more)) in
    subst (λ (w : List ℕ). FirstOffendingWord caption_channel w word) (sym (words ∙ on.spelled))
    (offence_stays caption_channel (came ++ open_words (bytes ++ first)) on.rest word
    (subst (λ (w : List ℕ). FirstOffendingWord caption_channel (came ++ w) word) front offends))

-- the words before it don't
fine_at : (s : State) (placed : TimedPackets) (bytes more : List ℕ) (p : Payload) → AtItems s placed bytes → payload_bytes p ≡ bytes ++ more
    → IsUnoffending caption_channel (words_as_they_came placed ++ front_words p (length bytes)) → IsUnoffending caption_channel (state_words s)
fine_at s placed bytes more p at spelled fine =
    subst (λ (w : List ℕ). IsUnoffending caption_channel w)
    (ap (λ (w : List ℕ). words_as_they_came placed ++ w) (front_is_open p bytes more spelled) ∙ sym (state_at s placed bytes at)) fine

letter_at : (bytes : List ℕ) (refusal : Refusal) (w : ItemWordOffends bytes refusal) → IsLetter w.offends.brought w.item → OffendsAt bytes refusal
letter_at bytes refusal w l =
    let o = w.offends in
    let c = concat o.items in
    let a = awaiting_item o.items w.before o.awaits in
    let s = in_payload a.to (at_bytes c) in
    let placed = o.awaits.awaits.placed in
    let here : AtItems s placed c = awaits_at o.items w.before s o.awaits (at_bytes c) refl refl in
    let at = o.place_is in
    let fit = letter_item (at_bytes c) l.letter o.brought refl l.is in
    record {
      before = w.before;
      byte = l.letter;
      rest = w.behind;
      s = s;
      word = o.word;
      spelled = w.spelled ∙ ap (λ (i : List ℕ). w.before ++ (i ++ w.behind)) l.spelled;
      reads = a.is;
      fine = fine_at s placed c (o.fitting ++ o.more) o.payload here o.goes_on o.before_it;
      offends = subst (λ (f : List ℕ). FirstOffendingWord caption_channel (words_with s f) o.word) (sym fit)
          (fitting_offends s placed c o.brought o.fitting o.over o.more o.payload o.word here a.join o.brought_is o.goes_on o.offends);
      place_is = omega (arith, at);
      why_is = o.why_is;
    }

digits_at : (bytes : List ℕ) (refusal : Refusal) (w : ItemWordOffends bytes refusal) → AreDigits w.offends.brought w.item → OffendsAt bytes refusal
digits_at bytes refusal w d =
    let o = w.offends in
    let c = concat o.items in
    let a = awaiting_item o.items w.before o.awaits in
    let open_digit : Open = record { digit = Some d.first; bytes = c } in
    let s = in_payload a.to open_digit in
    let placed = o.awaits.awaits.placed in
    let here : AtItems s placed c = awaits_at o.items w.before s o.awaits open_digit refl refl in
    let fit = second_item open_digit d.low d.first d.second refl d.low_is ∙ ap (λ (b : List ℕ). fitting c b) (sym d.are) in
    let at = o.place_is in
    let long = length-append w.before (d.high ∷ []) in
    record {
      before = w.before ++ d.high ∷ [];
      byte = d.low;
      rest = w.behind;
      s = s;
      word = o.word;
      spelled = w.spelled ∙ (ap (λ (i : List ℕ). w.before ++ (i ++ w.behind)) d.spelled ∙ sym (append_assoc w.before (d.high ∷ []) (d.low ∷ w.behind)));
      reads = digit_runs o.items w.before d.high d.first a d.high_is;
      fine = fine_at s placed c (o.fitting ++ o.more) o.payload here o.goes_on o.before_it;
      offends = subst (λ (f : List ℕ). FirstOffendingWord caption_channel (words_with s f) o.word) (sym fit)
          (fitting_offends s placed c o.brought o.fitting o.over o.more o.payload o.word here a.join o.brought_is o.goes_on o.offends);
      place_is = omega (arith, at, long);
      why_is = o.why_is;
    }

pub offends_at : (bytes : List ℕ) (refusal : Refusal) → ItemWordOffends bytes refusal → OffendsAt bytes refusal
offends_at bytes refusal w = by_item w.offends.is_item
  where
    by_item : IsItem w.offends.brought w.item → OffendsAt bytes refusal
    by_item (inl digits) = digits_at bytes refusal w digits
    by_item (inr letter) = letter_at bytes refusal w letter

-- no word offends within what was read where none does in the words of it
pub never_within : (bytes front more : List ℕ) (refusal : Refusal) (t : State) (a : OffendsAt bytes refusal) → bytes ≡ front ++ more → length a.before < length front
    → run at_first front ≡ Ok t → IsUnoffending caption_channel (state_words t) → ⊥
never_within bytes front more refusal t a spelled below reads fine =
    let long = length-append a.before (a.byte ∷ []) in
    let all : (a.before ++ a.byte ∷ []) ++ a.rest ≡ front ++ more = append_assoc a.before (a.byte ∷ []) a.rest ∙ (sym a.spelled ∙ spelled) in
    let behind = front_of (a.before ++ a.byte ∷ []) front a.rest more all (omega (arith, long, below)) in
    let parts : front ≡ a.before ++ a.byte ∷ behind.0 = behind.1 ∙ append_assoc a.before (a.byte ∷ []) behind.0 in
    let goes : run a.s (a.byte ∷ behind.0) ≡ Ok t =
    sym (run_on at_first a.before (a.byte ∷ behind.0) a.s a.reads) ∙ subst (λ (b : List ℕ). run at_first b ≡ Ok t) parts reads in
    no_front_offends (words_with a.s (item_in a.s.phase a.s.payload a.byte)) (state_words t) a.word fine (item_read behind.0 a.before a.s t a.byte a.reads goes) a.offends

-- so one word offends first
same_refusal : (one other : Refusal) → one.place ≡ other.place → one.why ≡ other.why → one ≡ other
same_refusal one other place why =
    ap (λ (p : ℕ). let r : Refusal = record { place = p; why = one.why } in r) place ∙ ap (λ (w : Why). let r : Refusal = record { place = other.place; why = w } in r) why

same_place : (bytes : List ℕ) (one other : Refusal) (a : OffendsAt bytes one) (b : OffendsAt bytes other) → length a.before ≡ length b.before → one ≡ other
same_place bytes one other a b long =
    let fronts = same_fronts a.before (a.byte ∷ a.rest) b.before (b.byte ∷ b.rest) long (sym a.spelled ∙ b.spelled) in
    let backs : a.byte ∷ a.rest ≡ b.byte ∷ b.rest = fronts.1 in
    let byte : a.byte ≡ b.byte = cc in
    let state : a.s ≡ b.s = ok_one (run at_first b.before) a.s b.s (subst (λ (x : List ℕ). run at_first x ≡ Ok a.s) fronts.0 a.reads) b.reads in
    let words : words_with a.s (item_in a.s.phase a.s.payload a.byte) ≡ words_with b.s (item_in b.s.phase b.s.payload b.byte) =
    ap (λ (x : State). words_with x (item_in x.phase x.payload a.byte)) state ∙ ap (λ (n : ℕ). words_with b.s (item_in b.s.phase b.s.payload n)) byte in
    let word : a.word ≡ b.word =
    offence_is_once (words_with b.s (item_in b.s.phase b.s.payload b.byte)) a.word b.word
    (subst (λ (w : List ℕ). FirstOffendingWord caption_channel w a.word) words a.offends) b.offends in
    let back : back_in a.s.phase a.s.payload ≡ back_in b.s.phase b.s.payload = ap (λ (x : State). back_in x.phase x.payload) state in
    let here = a.place_is in
    let there = b.place_is in
    same_refusal one other (omega (arith, here, there, back, long)) (a.why_is ∙ (ap (λ (r : Refusal). r.why) word ∙ sym b.why_is))

earlier : (bytes : List ℕ) (one other : Refusal) (a : OffendsAt bytes one) (b : OffendsAt bytes other) → length a.before < length b.before → ⊥
earlier bytes one other a b below = never_within bytes b.before (b.byte ∷ b.rest) one b.s a b.spelled below b.reads b.fine

pub one_word : (bytes : List ℕ) (one other : Refusal) → ItemWordOffends bytes one → ItemWordOffends bytes other → one ≡ other
one_word bytes one other w v = by_size (offends_at bytes one w) (offends_at bytes other v)
  where
    by_size : OffendsAt bytes one → OffendsAt bytes other → one ≡ other
    by_size a b = elim (cases_lt (length a.before) (length b.before)) [
      | inl below ↦ absurd (earlier bytes one other a b below)
      | inr least ↦ elim (cases_lt (length b.before) (length a.before)) [
        | inl above ↦ absurd (earlier bytes other one b a above)
        | inr most ↦ same_place bytes one other a b (omega (arith, least, most))
      ]
    ]

-- what offends in bytes offends whatever follows
pub word_stays : (bytes more : List ℕ) (refusal : Refusal) → ItemWordOffends bytes refusal → ItemWordOffends (bytes ++ more) refusal
word_stays bytes more refusal w = record {
  before = w.before;
  item = w.item;
  behind = w.behind ++ more;
  spelled = ap (λ (b : List ℕ). b ++ more) w.spelled
      ∙ (append_assoc w.before (w.item ++ w.behind) more ∙ ap (λ (b : List ℕ). w.before ++ b) (append_assoc w.item w.behind more));
  offends = w.offends;
}

pub byte_stays : (bytes more : List ℕ) (refusal : Refusal) → MccByteOffends bytes refusal → MccByteOffends (bytes ++ more) refusal
byte_stays bytes more refusal b = record {
  before = b.before;
  byte = b.byte;
  rest = b.rest ++ more;
  spelled = ap (λ (l : List ℕ). l ++ more) b.spelled ∙ append_assoc b.before (b.byte ∷ b.rest) more;
  unoffending = b.unoffending;
  offends = b.offends;
  refused = b.refused;
}

-- the word at such a byte offends already in the bytes up to it
up_to_it : (bytes : List ℕ) (refusal : Refusal) (a : OffendsAt bytes refusal) → (other : Refusal) × ItemWordOffends (a.before ++ a.byte ∷ []) other
up_to_it bytes refusal a =
    let item = item_in a.s.phase a.s.payload a.byte in
    let some : item ≡ [] → ⊥ =
    λ none. no_front_offends (state_words a.s) (state_words a.s) a.word a.fine (on_none (state_words a.s) (state_words a.s) refl)
    (subst (λ (w : List ℕ). FirstOffendingWord caption_channel w a.word) (none_with a.s item none) a.offends) in
    let facts = item_facts a.before a.s a.byte a.reads some in
    (record { place = length a.before - back_in a.s.phase a.s.payload; why = a.word.why }, word_offends a.before a.s a.byte a.word a.reads facts.not_yet some a.fine a.offends)

-- after a byte with which no file goes on no word offends
behind_byte : (front more : List ℕ) (refusal other : Refusal) (b : MccByteOffends front refusal) (a : OffendsAt (front ++ more) other) → length b.before < length a.before → ⊥
behind_byte front more refusal other b a below =
    let long = length-append b.before (b.byte ∷ []) in
    let parts : (b.before ++ b.byte ∷ []) ++ (b.rest ++ more) ≡ a.before ++ (a.byte ∷ a.rest) =
    append_assoc b.before (b.byte ∷ []) (b.rest ++ more)
    ∙ (sym (append_assoc b.before (b.byte ∷ b.rest) more) ∙ (ap (λ (l : List ℕ). l ++ more) (sym b.spelled) ∙ a.spelled)) in
    let behind = front_of (b.before ++ b.byte ∷ []) a.before (b.rest ++ more) (a.byte ∷ a.rest) parts (omega (arith, long, below)) in
    let r = run_front at_first (b.before ++ b.byte ∷ []) behind.0 a.s (subst (λ (l : List ℕ). run at_first l ≡ Ok a.s) behind.1 a.reads) in
    b.offends (unoffending (b.before ++ b.byte ∷ []) r.to (origin (b.before ++ b.byte ∷ []) r.to r.is))

within_byte : (front more : List ℕ) (refusal other : Refusal) → NoWordOffends front → (b : MccByteOffends front refusal) (a : OffendsAt (front ++ more) other)
    → length a.before ≤ length b.before → ⊥
within_byte front more refusal other none b a within =
    let long = length-append a.before (a.byte ∷ []) in
    let size = ap length b.spelled ∙ length-append b.before (b.byte ∷ b.rest) in
    let parts : (a.before ++ a.byte ∷ []) ++ a.rest ≡ front ++ more = append_assoc a.before (a.byte ∷ []) a.rest ∙ sym a.spelled in
    let behind = front_of (a.before ++ a.byte ∷ []) front a.rest more parts (omega (arith, long, within, size)) in
    let again = up_to_it (front ++ more) other a in
    none again.0 (subst (λ (l : List ℕ). ItemWordOffends l again.0) (sym behind.1) (word_stays (a.before ++ a.byte ∷ []) behind.0 again.0 again.1))

pub no_word_stays : (front more : List ℕ) (refusal : Refusal) → MccByteOffends front refusal → NoWordOffends front → NoWordOffends (front ++ more)
no_word_stays front more refusal b none = λ other w. by_size other (offends_at (front ++ more) other w)
  where
    by_size : (other : Refusal) → OffendsAt (front ++ more) other → ⊥
    by_size other a = elim (cases_lt (length b.before) (length a.before)) [
      | inl below ↦ behind_byte front more refusal other b a below
      | inr within ↦ within_byte front more refusal other none b a within
    ]

pub offends_stays : (front more : List ℕ) (refusal : Refusal) → Offends front refusal → Offends (front ++ more) refusal
offends_stays front more refusal (inl w) = inl (word_stays front more refusal w)
offends_stays front more refusal (inr (b, none)) = inr (byte_stays front more refusal b, no_word_stays front more refusal b none)

-- one offence is the first
pub one_first : OffencesAreOne
one_first bytes one other (inl (inl w)) (inl (inl v)) = one_word bytes one other w v
one_first bytes one other (inl (inl w)) (inl (inr (b, none))) = absurd (none one w)
one_first bytes one other (inl (inl w)) (inr cut) = absurd (cut.no_word one w)
one_first bytes one other (inl (inr (b, none))) (inl (inl v)) = absurd (none other v)
one_first bytes one other (inl (inr (b, none))) (inl (inr (c, nothing))) = one_offence bytes one other (inl b) (inl c)
one_first bytes one other (inl (inr (b, none))) (inr cut) = one_offence bytes one other (inl b) (inr cut.early)
one_first bytes one other (inr cut) (inl (inl v)) = absurd (cut.no_word other v)
one_first bytes one other (inr cut) (inl (inr (c, nothing))) = one_offence bytes one other (inr cut.early) (inl c)
one_first bytes one other (inr cut) (inr more) = one_offence bytes one other (inr cut.early) (inr more.early)

-- the words of what was read of a file are its packets' words
pub file_state : (bytes : List ℕ) (t : State) (gives : Bool) → run at_first bytes ≡ Ok t → ends t ≡ Some gives → state_words t ≡ words_as_they_came (placed_with t gives)
file_state bytes t gives reads may =
    let step = (stepped bytes t (started t gives) 10 reads (lf_step t gives may)).words in
    sym (step ∙ none_with t (item_in t.phase t.payload 10) (lf_item t.phase t.payload)) ∙ append-nil (words_as_they_came (placed_with t gives))

file_unoffending : (frames : List Frame) (words : List ℕ) → IsFileUnder caption_channel frames words → IsUnoffending caption_channel words
file_unoffending frames words is = record {
  words = words;
  half = [];
  spelled = sym (append-nil words);
  whole = file_whole caption_channel frames words is;
  single = omega arith;
  begins = record { more = []; frames = frames; is_file = subst (λ (w : List ℕ). IsFileUnder caption_channel frames w) (sym (append-nil words)) is };
}

-- no word offends in a file whose words are a words file
pub no_word_in_file : (placed : TimedPackets) (bytes : List ℕ) (frames : List Frame) → IsMccFile placed bytes → IsFileUnder caption_channel frames (words_as_they_came placed)
    → NoWordOffends bytes
no_word_in_file placed bytes frames file under = λ refusal w. at_it refusal (offends_at bytes refusal w)
  where
    at_it : (refusal : Refusal) → OffendsAt bytes refusal → ⊥
    at_it refusal a =
        let f = file_run placed bytes file in
        let words : state_words f.to ≡ words_as_they_came placed = file_state bytes f.to f.gives f.is f.may ∙ ap words_as_they_came f.all in
        let size = ap length a.spelled ∙ length-append a.before (a.byte ∷ a.rest) in
        never_within bytes bytes [] refusal f.to a (sym (append-nil bytes)) (omega (arith, size)) f.is
        (subst (λ (w : List ℕ). IsUnoffending caption_channel w) (sym words) (file_unoffending frames (words_as_they_came placed) under))

pub no_import_offends : (bytes words : List ℕ) → IsMccImport bytes words → (refusal : Refusal) → IsFirstOffence bytes refusal → ⊥
no_import_offends bytes words is refusal (inl (inl w)) = no_word_in_file is.placed bytes is.frames is.file is.words refusal w
no_import_offends bytes words is refusal (inl (inr (b, none))) = no_offence bytes refusal is.placed (inl b) is.file
no_import_offends bytes words is refusal (inr cut) = cut.early.no_file is.placed is.file

pub nothing_offends : NothingOffendsInImports
nothing_offends bytes words is = (
  record {
    form = inl (record { more = []; placed = is.placed; file = subst (λ (b : List ℕ). IsMccFile is.placed b) (sym (append-nil bytes)) is.file });
    no_word = no_word_in_file is.placed bytes is.frames is.file is.words;
  },
  no_import_offends bytes words is,
)
