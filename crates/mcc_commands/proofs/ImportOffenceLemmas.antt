-- Where words offend in what is read.
use Rattle.std.proofs.Common.{◌≡◌, ℕ, ◌+◌, ◌-◌, ◌*◌, inl, inr, Bool, true, false, List, [], ◌∷◌, ◌++◌, append_assoc, append-nil, length, length-append, Option, Some, None, Ok, refl, ap, sym, ◌∙◌, subst, arith}
use Rattle.std.specs.List.{concat}
use Rattle.cc_base.specs.declared.refusal.Refusal.{Refusal}
use Rattle.hex_digits.specs.HexDigits.{hex_value}
use Rattle.mcc_files.specs.MccFiles.{TimedPackets}
use Rattle.mcc_files.specs.Offences.{AwaitsItem}
use Rattle.mcc_files.specs.Readers.{back_in, item_in}
use Rattle.mcc_files.specs.Reading.{State, at_first, run}
use Rattle.mcc_files.specs.declared.phase.Phase.{Phase}
use Rattle.mcc_files.specs.declared.phase.Phase.TheVariants as phase
use Rattle.mcc_files.proofs.OriginLemmas.{origin}
use Rattle.mcc_files.proofs.Origins.{InLine, OriginIn, PayloadFront, told_of}
use Rattle.mcc_files.proofs.PacketReads.{in_payload}
use Rattle.mcc_files.proofs.Refused.{line_of}
use Rattle.mcc_files.proofs.RunLemmas.{ok_one}
use Rattle.mcc_files.proofs.UnitReads.{awaiting_item, digit_runs, item_placed}
use Rattle.mcc_files.proofs.Unoffending.{awaits_item, before_digit, front_of}
use Rattle.mcc_files.specs.Items.{AreItems, IsItem}
use Rattle.mcc_files.specs.Letters.{letter_bytes}
use Rattle.mcc_files.specs.Payloads.{Payload, checksum_byte, payload_bytes}
use Rattle.mcc_files.specs.PayloadReading.{Open, fits_on, fitting, is_whole, item_back, item_bytes, joined, why_of_byte}
use Rattle.mcc_files.proofs.FirstLemmas.{Stands, at_digit, at_item}
use Rattle.mcc_files.proofs.FittingLemmas.{fits_one}
use Rattle.mcc_files.proofs.PacketLemmas.{packet_joined}
use Rattle.mcc_files.proofs.StepLemmas.{at_bytes, joined_both, joined_first, joined_is, joined_split}
use Rattle.cc_base.specs.declared.why.Why.{Why}
use Rattle.mcc_words.specs.Close.{words_as_they_came}
use Rattle.services_files.specs.CaptionChannel.{caption_channel}
use Rattle.services_files.specs.Services.{services_say}
use Rattle.services_files.proofs.ChannelFiles.{offence_is_refused, unoffending_unrefused}
use Rattle.words_files.specs.Catching.{refusal_of}
use Rattle.words_files.specs.Offences.{FirstOffendingWord, IsUnoffending}
use Rattle.words_files.proofs.EndingLemmas.{offence_stays}
use Rattle.mcc_commands.specs.Offences.{ItemOffends, ItemWordOffends, NoWordOffends, front_words}
use Rattle.mcc_commands.specs.Words.{is_open, open_part, open_words, state_words, words_with}
use Rattle.mcc_commands.proofs.StateLemmas.{letter_item, no_letter_item, no_second_item, second_item}
use Rattle.mcc_commands.proofs.ImportWordsLemmas.{WordsOn, front_is_open, goes_on, open_on}

-- no word offends in words after which none does
some_none : (found : Option Refusal) (refusal : Refusal) → found ≡ Some refusal → found ≡ None → ⊥
some_none found refusal some none = cc

pub no_front_offends : (fewer more : List ℕ) (refusal : Refusal) → IsUnoffending caption_channel more → WordsOn fewer more → FirstOffendingWord caption_channel fewer refusal → ⊥
no_front_offends fewer more refusal fine on offends =
    let all = fewer ++ on.rest in
    some_none (refusal_of services_say all) refusal (offence_is_refused all refusal (offence_stays caption_channel fewer on.rest refusal offends))
    (unoffending_unrefused all (subst (λ (w : List ℕ). IsUnoffending caption_channel w) on.spelled fine))

pub behind_on : (front fewer more : List ℕ) → WordsOn fewer more → WordsOn (front ++ fewer) (front ++ more)
behind_on front fewer more on = record { rest = on.rest; spelled = ap (λ m. front ++ m) on.spelled ∙ sym (append_assoc front fewer on.rest) }

-- the bytes of an item, down to one that offends
pub record FitsFront (bytes fit : List ℕ) : Type 0 where
  pub over : List ℕ
  pub spelled : bytes ≡ fit ++ over

fit_by : (found : Option Why) (byte : ℕ) (bytes rest : List ℕ) → FitsFront bytes rest → FitsFront (byte ∷ bytes) (fits_on found byte rest)
fit_by None byte bytes rest f = record { over = f.over; spelled = ap (λ b. byte ∷ b) f.spelled }
fit_by (Some reason) byte bytes rest f = record { over = byte ∷ bytes; spelled = refl }

pub fitting_front : (before bytes : List ℕ) → FitsFront bytes (fitting before bytes)
fitting_front before [] = record { over = []; spelled = refl }
fitting_front before (byte ∷ bytes) =
    fit_by (why_of_byte true before byte) byte bytes (fitting (before ++ byte ∷ []) bytes) (fitting_front (before ++ byte ∷ []) bytes)

joins_by : (found : Option Why) (before : List ℕ) (byte : ℕ) (rest : List ℕ) → why_of_byte true before byte ≡ found
    → joined true (before ++ byte ∷ []) rest ≡ Ok ((before ++ byte ∷ []) ++ rest) → joined true before (fits_on found byte rest) ≡ Ok (before ++ fits_on found byte rest)
joins_by None before byte rest is join = rw is (join ∙ ap (λ b. Ok b) (append_assoc before (byte ∷ []) rest))
joins_by (Some reason) before byte rest is join = ap (λ b. Ok b) (sym (append-nil before))

pub fitting_joins : (before bytes : List ℕ) → joined true before (fitting before bytes) ≡ Ok (before ++ fitting before bytes)
fitting_joins before [] = ap (λ b. Ok b) (sym (append-nil before))
fitting_joins before (byte ∷ bytes) =
    joins_by (why_of_byte true before byte) before byte (fitting (before ++ byte ∷ []) bytes) refl (fitting_joins (before ++ byte ∷ []) bytes)

pub fitting_joined : (before bytes : List ℕ) → joined true [] before ≡ Ok before → joined true [] (before ++ fitting before bytes) ≡ Ok (before ++ fitting before bytes)
fitting_joined before bytes join = joined_both true [] before before (fitting before bytes) (Ok (before ++ fitting before bytes)) join (fitting_joins before bytes)

pub fitting_on : (before first over all : List ℕ) → joined true before first ≡ Ok all → fitting before (first ++ over) ≡ first ++ fitting (before ++ first) over
fitting_on before [] over all is = ap (λ b. fitting b over) (sym (append-nil before))
fitting_on before (byte ∷ first) over all is =
    let h = joined_first (why_of_byte true before byte) (joined true (before ++ byte ∷ []) first) all is in
    fits_one before byte (first ++ over) h.0
    ∙ (ap (λ r. byte ∷ r) (fitting_on (before ++ byte ∷ []) first over all h.1) ∙ ap (λ b. byte ∷ (first ++ fitting b over)) (append_assoc before (byte ∷ []) first))

-- the bytes with which a payload goes on fit
pub payload_fits : (before first over more : List ℕ) (p : Payload) → payload_bytes p ≡ before ++ (first ++ more) → fitting before (first ++ over) ≡ first ++ fitting (before ++ first) over
payload_fits before first over more p spelled =
    let all : joined true [] (before ++ (first ++ more)) ≡ Ok (payload_bytes p) =
    subst (λ (b : List ℕ). joined true [] b ≡ Ok (payload_bytes p)) spelled (packet_joined true p (checksum_byte p) (λ on. refl)) in
    let twice = joined_split true [] before (first ++ more) (payload_bytes p) all in
    let same : twice.middle ≡ before = joined_is true [] before twice.middle twice.first in
    let behind = joined_split true twice.middle first more (payload_bytes p) twice.second in
    fitting_on before first over behind.middle (subst (λ (b : List ℕ). joined true b first ≡ Ok behind.middle) same behind.first)

-- a state after items of an open payload
pub record AtItems (s : State) (placed : TimedPackets) (bytes : List ℕ) : Type 0 where
  pub open_is : is_open s.phase ≡ true
  pub bytes_are : s.payload.bytes ≡ bytes
  pub placed_are : s.placed ≡ placed

pub words_at : (s : State) (placed : TimedPackets) (bytes fit : List ℕ) → AtItems s placed bytes → words_with s fit ≡ words_as_they_came placed ++ open_words (bytes ++ fit)
words_at s placed bytes fit at =
    ap (λ (b : Bool). words_as_they_came s.placed ++ open_part b (s.payload.bytes ++ fit)) at.open_is
    ∙ (ap (λ (b : List ℕ). words_as_they_came s.placed ++ open_words (b ++ fit)) at.bytes_are
    ∙ ap (λ (p : TimedPackets). words_as_they_came p ++ open_words (bytes ++ fit)) at.placed_are)

pub state_at : (s : State) (placed : TimedPackets) (bytes : List ℕ) → AtItems s placed bytes → state_words s ≡ words_as_they_came placed ++ open_words bytes
state_at s placed bytes at =
    ap (λ (b : Bool). words_as_they_came s.placed ++ open_part b s.payload.bytes) at.open_is
    ∙ (ap (λ (b : List ℕ). words_as_they_came s.placed ++ open_words b) at.bytes_are ∙ ap (λ (p : TimedPackets). words_as_they_came p ++ open_words bytes) at.placed_are)

at_state : (s one : State) (placed : TimedPackets) (bytes : List ℕ) → AtItems one placed bytes → one ≡ s → AtItems s placed bytes
at_state s one placed bytes at same = subst (λ (x : State). AtItems x placed bytes) same at

-- after items, and after the first digit of one more
pub behind_items : (items : List (List ℕ)) (before : List ℕ) (s : State) (a : AwaitsItem items before) → run at_first before ≡ Ok s
    → in_payload (awaiting_item items before a).to (at_bytes (concat items)) ≡ s
behind_items items before s a reads =
    let w = awaiting_item items before a in
    ok_one (run at_first before) (in_payload w.to (at_bytes (concat items))) s w.is reads

pub behind_digit : (items : List (List ℕ)) (before : List ℕ) (s : State) (digit high : ℕ) (a : AwaitsItem items before) → hex_value digit ≡ Some high
    → run at_first (before ++ digit ∷ []) ≡ Ok s → in_payload (awaiting_item items before a).to (record { digit = Some high; bytes = concat items }) ≡ s
behind_digit items before s digit high a is reads =
    let w = awaiting_item items before a in
    ok_one (run at_first (before ++ digit ∷ [])) (in_payload w.to (record { digit = Some high; bytes = concat items })) s (digit_runs items before digit high w is) reads

pub awaits_at : (items : List (List ℕ)) (before : List ℕ) (s : State) (a : AwaitsItem items before) (front : Open) → front.bytes ≡ concat items
    → in_payload (awaiting_item items before a).to front ≡ s → AtItems s a.awaits.placed (concat items)
awaits_at items before s a front bytes same =
    at_state s (in_payload (awaiting_item items before a).to front) a.awaits.placed (concat items)
    (record { open_is = refl; bytes_are = bytes; placed_are = item_placed items before a }) same

-- an item whose bytes bring words of which one offends
pub item_offends : (items : List (List ℕ)) (start item brought : List ℕ) (s : State) (a : AwaitsItem items start) (word refusal : Refusal) → IsItem brought item
    → joined true [] (concat items) ≡ Ok (concat items) → AtItems s a.awaits.placed (concat items) → IsUnoffending caption_channel (state_words s)
    → FirstOffendingWord caption_channel (words_with s (fitting (concat items) brought)) word → refusal.place ≡ length start → refusal.why ≡ word.why → ItemOffends start item refusal
item_offends items start item brought s a word refusal is_item join at fine offends place why_is =
    let c = concat items in
    let fit = fitting c brought in
    let f = fitting_front c brought in
    let g = goes_on (c ++ fit) (fitting_joined c brought join) in
    let spelled = g.spelled ∙ append_assoc c fit g.more in
    let first = front_is_open g.payload c (fit ++ g.more) spelled in
    let second = front_is_open g.payload (c ++ fit) g.more g.spelled in
    record {
      items = items;
      awaits = a;
      brought = brought;
      is_item = is_item;
      fitting = fit;
      over = f.over;
      brought_is = f.spelled;
      payload = g.payload;
      more = g.more;
      goes_on = spelled;
      word = word;
      before_it = subst (λ (w : List ℕ). IsUnoffending caption_channel w)
          (state_at s a.awaits.placed c at ∙ ap (λ w. words_as_they_came a.awaits.placed ++ w) (sym first)) fine;
      offends = subst (λ (w : List ℕ). FirstOffendingWord caption_channel w word)
          (words_at s a.awaits.placed c fit at ∙ ap (λ w. words_as_they_came a.awaits.placed ++ w) (sym second)) offends;
      place_is = place;
      why_is = why_is;
    }

-- the phase in which an item ends
pub item_phase : (p : Phase) (payload : Open) (byte : ℕ) → (item_in p payload byte ≡ [] → ⊥) → p ≡ phase.Payload
item_phase phase.Payload payload byte some = refl
item_phase p payload byte some = absurd (some refl)

letter_offends : (before : List ℕ) (s : State) (line : InLine before s) (byte : ℕ) (f : PayloadFront s.two s.payload (told_of s) line.told line.front) (items : List (List ℕ)) (bytes : List ℕ)
    (word : Refusal) (found : Option (List ℕ)) → letter_bytes byte ≡ found → run at_first before ≡ Ok s → is_whole s.payload.bytes ≡ false → s.phase ≡ phase.Payload
    → AreItems items f.payload_text → joined true [] (concat items) ≡ Ok bytes → s.payload ≡ at_bytes bytes
    → (item_bytes s.payload byte ≡ [] → ⊥) → IsUnoffending caption_channel (state_words s) → FirstOffendingWord caption_channel (words_with s (item_bytes s.payload byte)) word
    → ItemWordOffends (before ++ byte ∷ []) (record { place = length before - item_back s.payload.digit; why = word.why })
letter_offends before s line byte f items bytes word None letter reads not_yet at are join bytes_is some fine offends =
    absurd (some (no_letter_item s.payload byte (ap (λ (o : Open). o.digit) bytes_is) letter))
letter_offends before s line byte f items bytes word (Some brought) letter reads not_yet at are join bytes_is some fine offends =
    let front = f.text ++ (f.past ++ (9 ∷ f.payload_text)) in
    let start = (line.head ++ line.end) ++ front in
    let spelled : before ≡ start = front_of before s line ∙ ap (λ x. (line.head ++ line.end) ++ x) f.spelled in
    let none : s.payload.digit ≡ None = ap (λ (o : Open). o.digit) bytes_is in
    let bytes' : s.payload.bytes ≡ bytes = ap (λ (o : Open). o.bytes) bytes_is in
    let all : bytes ≡ concat items = joined_is true [] (concat items) bytes join in
    let a = awaits_item before s line f.text f.past f.payload_text items bytes f.timed f.is_past are join (subst (λ (b : List ℕ). is_whole b ≡ false) bytes' not_yet) in
    let here = awaits_at items start s a (at_bytes (concat items)) refl
    (behind_items items start s a (subst (λ (b : List ℕ). run at_first b ≡ Ok s) spelled reads)) in
    let fit : item_bytes s.payload byte ≡ fitting (concat items) brought =
    letter_item s.payload byte brought none letter ∙ ap (λ (b : List ℕ). fitting b brought) (bytes' ∙ all) in
    let back : item_back s.payload.digit ≡ 0 = ap item_back none in
    let long : length before ≡ length start = ap (λ x. length x) spelled in
    record {
      before = start;
      item = byte ∷ [];
      behind = [];
      spelled = ap (λ x. x ++ byte ∷ []) spelled;
      offends = item_offends items start (byte ∷ []) brought s a word (record { place = length before - item_back s.payload.digit; why = word.why })
          (inr (record { letter = byte; spelled = refl; is = letter })) (join ∙ ap (λ b. Ok b) all) here fine
          (subst (λ (w : List ℕ). FirstOffendingWord caption_channel (words_with s w) word) fit offends) (omega (arith, long, back)) refl;
    }

digits_offend : (before : List ℕ) (s : State) (line : InLine before s) (byte : ℕ) (f : PayloadFront s.two s.payload (told_of s) line.told line.front) (text : List ℕ) (items : List (List ℕ))
    (digit first : ℕ) (bytes : List ℕ) (word : Refusal) (found : Option ℕ) → hex_value byte ≡ found → run at_first before ≡ Ok s → f.payload_text ≡ text ++ digit ∷ []
    → AreItems items text → joined true [] (concat items) ≡ Ok bytes → hex_value digit ≡ Some first → is_whole bytes ≡ false
    → s.payload ≡ record { digit = Some first; bytes = bytes }
    → (item_bytes s.payload byte ≡ [] → ⊥) → IsUnoffending caption_channel (state_words s) → FirstOffendingWord caption_channel (words_with s (item_bytes s.payload byte)) word
    → ItemWordOffends (before ++ byte ∷ []) (record { place = length before - item_back s.payload.digit; why = word.why })
digits_offend before s line byte f text items digit first bytes word None low reads text_is are join digit_is yet bytes_is some fine offends =
    absurd (some (no_second_item s.payload byte first (ap (λ (o : Open). o.digit) bytes_is) low))
digits_offend before s line byte f text items digit first bytes word (Some low) low_is reads text_is are join digit_is yet bytes_is some fine offends =
    let front = f.text ++ (f.past ++ (9 ∷ text)) in
    let start = (line.head ++ line.end) ++ front in
    let first_some : s.payload.digit ≡ Some first = ap (λ (o : Open). o.digit) bytes_is in
    let bytes' : s.payload.bytes ≡ bytes = ap (λ (o : Open). o.bytes) bytes_is in
    let all : bytes ≡ concat items = joined_is true [] (concat items) bytes join in
    let spelled : before ≡ start ++ digit ∷ [] = before_digit before s line f.text f.past text digit (f.spelled ∙ ap (λ x. f.text ++ (f.past ++ (9 ∷ x))) text_is) in
    let long : length before ≡ length start + 1 = ap (λ x. length x) spelled ∙ length-append start (digit ∷ []) in
    let a = awaits_item before s line f.text f.past text items bytes f.timed f.is_past are join yet in
    let brought = (16 * first + low) ∷ [] in
    let here = awaits_at items start s a (record { digit = Some first; bytes = concat items }) refl
    (behind_digit items start s digit first a digit_is (subst (λ (b : List ℕ). run at_first b ≡ Ok s) spelled reads)) in
    let fit : item_bytes s.payload byte ≡ fitting (concat items) brought =
    second_item s.payload byte first low first_some low_is ∙ ap (λ (b : List ℕ). fitting b brought) (bytes' ∙ all) in
    let back : item_back s.payload.digit ≡ 1 = ap item_back first_some in
    record {
      before = start;
      item = digit ∷ byte ∷ [];
      behind = [];
      spelled = ap (λ x. x ++ byte ∷ []) spelled ∙ append_assoc start (digit ∷ []) (byte ∷ []);
      offends = item_offends items start (digit ∷ byte ∷ []) brought s a word (record { place = length before - item_back s.payload.digit; why = word.why })
          (inl (record { high = digit; low = byte; first = first; second = low; spelled = refl; high_is = digit_is; low_is = low_is; are = refl }))
          (join ∙ ap (λ b. Ok b) all) here fine
          (subst (λ (w : List ℕ). FirstOffendingWord caption_channel (words_with s w) word) fit offends) (omega (arith, long, back)) refl;
    }

stands_offend : (before : List ℕ) (s : State) (line : InLine before s) (byte : ℕ) (f : PayloadFront s.two s.payload (told_of s) line.told line.front) (word : Refusal)
    → Stands f.payload_text s.payload → run at_first before ≡ Ok s → is_whole s.payload.bytes ≡ false → s.phase ≡ phase.Payload
    → (item_bytes s.payload byte ≡ [] → ⊥) → IsUnoffending caption_channel (state_words s) → FirstOffendingWord caption_channel (words_with s (item_bytes s.payload byte)) word
    → ItemWordOffends (before ++ byte ∷ []) (record { place = length before - item_back s.payload.digit; why = word.why })
stands_offend before s line byte f word (at_item items bytes are join bytes_is) reads not_yet at some fine offends =
    letter_offends before s line byte f items bytes word (letter_bytes byte) refl reads not_yet at are join bytes_is some fine offends
stands_offend before s line byte f word (at_digit text items digit first bytes text_is are join digit_is yet bytes_is) reads not_yet at some fine offends =
    digits_offend before s line byte f text items digit first bytes word (hex_value byte) refl reads text_is are join digit_is yet bytes_is some fine offends

-- a word of the item that ends with a byte offends
pub word_offends : (before : List ℕ) (s : State) (byte : ℕ) (word : Refusal) → run at_first before ≡ Ok s → is_whole s.payload.bytes ≡ false
    → (item_in s.phase s.payload byte ≡ [] → ⊥) → IsUnoffending caption_channel (state_words s) → FirstOffendingWord caption_channel (words_with s (item_in s.phase s.payload byte)) word
    → ItemWordOffends (before ++ byte ∷ []) (record { place = length before - back_in s.phase s.payload; why = word.why })
word_offends before s byte word reads not_yet some fine offends =
    let at = item_phase s.phase s.payload byte some in
    let line : InLine before s = subst (λ (p : Phase). OriginIn p before s) at (origin before s reads) in
    let f = line_of phase.Payload before s at line in
    let item : item_in s.phase s.payload byte ≡ item_bytes s.payload byte = ap (λ (p : Phase). item_in p s.payload byte) at in
    let back : back_in s.phase s.payload ≡ item_back s.payload.digit = ap (λ (p : Phase). back_in p s.payload) at in
    subst (λ (n : ℕ). ItemWordOffends (before ++ byte ∷ []) (record { place = length before - n; why = word.why })) (sym back)
    (stands_offend before s line byte f word f.stands reads not_yet at (λ none. some (item ∙ none)) fine
    (subst (λ (w : List ℕ). FirstOffendingWord caption_channel (words_with s w) word) item offends))

-- lists that end with one item
pub snoc_same : (xs ys : List ℕ) (a b : ℕ) → xs ++ a ∷ [] ≡ ys ++ b ∷ [] → (xs ≡ ys) × (a ≡ b)
snoc_same [] [] a b is = (refl, cc)
snoc_same [] (y ∷ ys) a b is = absurd (omega (arith, ap length is, length-append ys (b ∷ [])))
snoc_same (x ∷ xs) [] a b is = absurd (omega (arith, ap length is, length-append xs (a ∷ [])))
snoc_same (x ∷ xs) (y ∷ ys) a b is =
    let tails : xs ++ a ∷ [] ≡ ys ++ b ∷ [] = cc in
    let first : x ≡ y = cc in
    let (same, last) = snoc_same xs ys a b tails in
    (ap (λ h. h ∷ xs) first ∙ ap (λ l. y ∷ l) same, last)

pub data Ends (xs : List ℕ) : Type 0 where
  empty : xs ≡ [] → Ends xs
  last : (front : List ℕ) (item : ℕ) → xs ≡ front ++ item ∷ [] → Ends xs

pub ends_of : (xs : List ℕ) → Ends xs
ends_of [] = empty refl
ends_of (x ∷ xs) = more_of x xs (ends_of xs)
  where
    more_of : (x : ℕ) (xs : List ℕ) → Ends xs → Ends (x ∷ xs)
    more_of x xs (empty none) = last [] x (ap (λ l. x ∷ l) none)
    more_of x xs (last front item is) = last (x ∷ front) item (ap (λ l. x ∷ l) is)

-- no word offends that fits
fits_fine : (s : State) (placed : TimedPackets) (bytes brought first over more : List ℕ) (p : Payload) (word : Refusal) → AtItems s placed bytes → joined true [] bytes ≡ Ok bytes
    → brought ≡ first ++ over → payload_bytes p ≡ bytes ++ (first ++ more) → IsUnoffending caption_channel (words_with s (fitting bytes brought))
    → FirstOffendingWord caption_channel (words_as_they_came placed ++ front_words p (length (bytes ++ first))) word → ⊥
fits_fine s placed bytes brought first over more p word at join brought_is spelled fine offends =
    let rest = fitting (bytes ++ first) over in
    let fit : fitting bytes brought ≡ first ++ rest = ap (λ (b : List ℕ). fitting bytes b) brought_is ∙ payload_fits bytes first over more p spelled in
    let all : bytes ++ fitting bytes brought ≡ (bytes ++ first) ++ rest = ap (λ f. bytes ++ f) fit ∙ sym (append_assoc bytes first rest) in
    let joins = subst (λ (b : List ℕ). joined true [] b ≡ Ok b) all (fitting_joined bytes brought join) in
    let on = behind_on (words_as_they_came placed) (open_words (bytes ++ first)) (open_words ((bytes ++ first) ++ rest)) (open_on (bytes ++ first) rest joins) in
    let words : words_with s (fitting bytes brought) ≡ words_as_they_came placed ++ open_words ((bytes ++ first) ++ rest) =
    words_at s placed bytes (fitting bytes brought) at ∙ ap (λ (b : List ℕ). words_as_they_came placed ++ open_words b) all in
    let front = front_is_open p (bytes ++ first) more (spelled ∙ sym (append_assoc bytes first more)) in
    no_front_offends (words_as_they_came placed ++ open_words (bytes ++ first)) (words_as_they_came placed ++ open_words ((bytes ++ first) ++ rest)) word
    (subst (λ (w : List ℕ). IsUnoffending caption_channel w) words fine) on
    (subst (λ (w : List ℕ). FirstOffendingWord caption_channel (words_as_they_came placed ++ w) word) front offends)

last_item : (before start item : List ℕ) (s : State) (byte : ℕ) (refusal : Refusal) → run at_first before ≡ Ok s
    → IsUnoffending caption_channel (words_with s (item_in s.phase s.payload byte)) → before ++ byte ∷ [] ≡ start ++ item → (w : ItemOffends start item refusal)
    → IsItem w.brought item → ⊥
last_item before start item s byte refusal reads fine spelled w (inr l) =
    let (same, letter) = snoc_same before start byte l.letter (spelled ∙ ap (λ (i : List ℕ). start ++ i) l.spelled) in
    let c = concat w.items in
    let state = behind_items w.items start s w.awaits (subst (λ (b : List ℕ). run at_first b ≡ Ok s) same reads) in
    let at = awaits_at w.items start s w.awaits (at_bytes c) refl state in
    let front : item_in s.phase s.payload byte ≡ item_bytes (at_bytes c) byte = ap (λ (x : State). item_in x.phase x.payload byte) (sym state) in
    let fit = front ∙ letter_item (at_bytes c) byte w.brought refl (ap letter_bytes letter ∙ l.is) in
    fits_fine s w.awaits.awaits.placed c w.brought w.fitting w.over w.more w.payload w.word at (awaiting_item w.items start w.awaits).join w.brought_is w.goes_on
    (subst (λ (f : List ℕ). IsUnoffending caption_channel (words_with s f)) fit fine) w.offends
last_item before start item s byte refusal reads fine spelled w (inl d) =
    let all : before ++ byte ∷ [] ≡ (start ++ d.high ∷ []) ++ d.low ∷ [] =
    spelled ∙ (ap (λ (i : List ℕ). start ++ i) d.spelled ∙ sym (append_assoc start (d.high ∷ []) (d.low ∷ []))) in
    let (same, low) = snoc_same before (start ++ d.high ∷ []) byte d.low all in
    let c = concat w.items in
    let open_digit : Open = record { digit = Some d.first; bytes = c } in
    let state = behind_digit w.items start s d.high d.first w.awaits d.high_is (subst (λ (b : List ℕ). run at_first b ≡ Ok s) same reads) in
    let at = awaits_at w.items start s w.awaits open_digit refl state in
    let front : item_in s.phase s.payload byte ≡ item_bytes open_digit byte = ap (λ (x : State). item_in x.phase x.payload byte) (sym state) in
    let fit = front ∙ (second_item open_digit byte d.first d.second refl (ap hex_value low ∙ d.low_is) ∙ ap (λ (b : List ℕ). fitting c b) (sym d.are)) in
    fits_fine s w.awaits.awaits.placed c w.brought w.fitting w.over w.more w.payload w.word at (awaiting_item w.items start w.awaits).join w.brought_is w.goes_on
    (subst (λ (f : List ℕ). IsUnoffending caption_channel (words_with s f)) fit fine) w.offends

-- no word offends with a byte more
more_offends : (before : List ℕ) (s : State) (byte : ℕ) (refusal : Refusal) → run at_first before ≡ Ok s → NoWordOffends before
    → IsUnoffending caption_channel (words_with s (item_in s.phase s.payload byte)) → (w : ItemWordOffends (before ++ byte ∷ []) refusal) → Ends w.behind → ⊥
more_offends before s byte refusal reads none fine w (empty nothing) =
    last_item before w.before w.item s byte refusal reads fine (w.spelled ∙ ap (λ (b : List ℕ). w.before ++ b) (ap (λ (b : List ℕ). w.item ++ b) nothing ∙ append-nil w.item)) w.offends
    w.offends.is_item
more_offends before s byte refusal reads none fine w (last front item is) =
    let parts : w.before ++ (w.item ++ w.behind) ≡ (w.before ++ (w.item ++ front)) ++ item ∷ [] =
    ap (λ (b : List ℕ). w.before ++ (w.item ++ b)) is
    ∙ (ap (λ (b : List ℕ). w.before ++ b) (sym (append_assoc w.item front (item ∷ []))) ∙ sym (append_assoc w.before (w.item ++ front) (item ∷ []))) in
    let (same, last_is) = snoc_same before (w.before ++ (w.item ++ front)) byte item (w.spelled ∙ parts) in
    none refusal (record { before = w.before; item = w.item; behind = front; spelled = same; offends = w.offends })

pub no_word_more : (before : List ℕ) (s : State) (byte : ℕ) → run at_first before ≡ Ok s → NoWordOffends before
    → IsUnoffending caption_channel (words_with s (item_in s.phase s.payload byte)) → NoWordOffends (before ++ byte ∷ [])
no_word_more before s byte reads none fine = λ refusal w. more_offends before s byte refusal reads none fine w (ends_of w.behind)

-- nor in no bytes
pub no_word_first : NoWordOffends []
no_word_first = λ refusal w. no_item w.before w.item w.behind w.spelled w.offends.is_item
  where
    no_item : (before item behind : List ℕ) → {brought : List ℕ} → [] ≡ before ++ (item ++ behind) → IsItem brought item → ⊥
    no_item before item behind {brought} spelled (inr l) =
        omega (arith, ap length spelled, length-append before (item ++ behind), length-append item behind, ap length l.spelled)
    no_item before item behind {brought} spelled (inl d) =
        omega (arith, ap length spelled, length-append before (item ++ behind), length-append item behind, ap length d.spelled)
