-- The words of what was read, with a byte more.
use Rattle.std.proofs.Common.{◌≡◌, ℕ, ◌+◌, ◌*◌, ◌⊎◌, inl, inr, ◌==◌, ◌&&◌, ◌||◌, not, Bool, true, false, cond, List, [], ◌∷◌, ◌++◌, append_assoc, append-nil, length, nat_lt, slice_index, Option, Some, None, is_some, Result, Ok, Err, refl, ap, sym, ◌∙◌, subst}
use Rattle.std.proofs.lemmas.Bool.{eqb-true}
use Rattle.cc_base.specs.declared.why.Why.TheVariants as why
use Rattle.hex_digits.specs.HexDigits.{hex_value}
use Rattle.time_codes.specs.Texts.{is_digit, time_of_text}
use Rattle.scc_files.specs.Phases.{is_blank}
use Rattle.mcc_files.specs.Lines.{format_text, is_letter, is_name_byte, one as version_one}
use Rattle.mcc_files.specs.MccFiles.{TimedPackets}
use Rattle.mcc_files.specs.Phases.{matched, rate_count, rate_moved}
use Rattle.mcc_files.specs.Readers.{item_in}
use Rattle.mcc_files.specs.Reading.{State, at_first, awaits_payload, begins_time, behind_cr, behind_first, ended_by_cr, ended_by_lf, ends, ends_at_lf, ends_in, ends_payload, goes, in_phase, judged_frame, named, packet_of, payload_begins, payload_goes, payload_in, rate_read, run, started, take_byte, taken, timed, within}
use Rattle.mcc_files.specs.declared.phase.Phase.{Phase}
use Rattle.mcc_files.specs.declared.phase.Phase.TheVariants as phase
use Rattle.mcc_files.specs.declared.phase.RateText.{RateText}
use Rattle.mcc_files.specs.declared.phase.RateText.TheVariants as rate_text
use Rattle.mcc_files.proofs.FileReads.{ends_lf}
use Rattle.mcc_files.proofs.FrontLemmas.{chosen, goes_so, taken_so}
use Rattle.mcc_files.proofs.OriginLemmas.{cr_so, lf_so, origin, rate_no_packet, whole_bytes}
use Rattle.mcc_files.proofs.RunLemmas.{ok_same}
use Rattle.mcc_files.proofs.ToldLemmas.{none_is_some, some_same}
use Rattle.mcc_files.specs.Letters.{letter_bytes}
use Rattle.mcc_files.specs.Payloads.{Payload, checksum_byte, payload_bytes}
use Rattle.mcc_files.specs.PayloadWords.{payload_words}
use Rattle.mcc_files.specs.PayloadReading.{Open, brought, brought_by, fitting, is_whole, item_bytes, joined, step, why_of_byte}
use Rattle.mcc_files.specs.declared.payload_reader.Offence.{Offence}
use Rattle.mcc_files.proofs.FirstLemmas.{whole_refuses}
use Rattle.mcc_files.proofs.FittingLemmas.{fits_none, fits_one}
use Rattle.mcc_files.proofs.OneLemmas.{not_both}
use Rattle.mcc_files.proofs.PacketLemmas.{packet_whole}
use Rattle.mcc_files.proofs.SoundLemmas.{Takes, step_so}
use Rattle.mcc_files.proofs.SoundLemmas.Takes.{as_first, as_letter, as_second}
use Rattle.mcc_files.proofs.StepLemmas.{joined_first, joined_is}
use Rattle.mcc_words.specs.Close.{words_as_they_came}
use Rattle.mcc_commands.specs.Words.{is_open, open_part, open_words, state_words, words_with}
use Rattle.mcc_commands.proofs.ImportWordsLemmas.{open_whole}

-- the bytes of an item of which none offends
pub fitting_all : (before bytes all : List ℕ) → joined true before bytes ≡ Ok all → fitting before bytes ≡ bytes
fitting_all before [] all is = refl
fitting_all before (byte ∷ bytes) all is =
    let h = joined_first (why_of_byte true before byte) (joined true (before ++ byte ∷ []) bytes) all is in
    fits_one before byte bytes h.0 ∙ ap (λ b. byte ∷ b) (fitting_all (before ++ byte ∷ []) bytes all h.1)

pub fitting_whole : (before bytes : List ℕ) → is_whole before ≡ true → fitting before bytes ≡ []
fitting_whole before [] whole = refl
fitting_whole before (byte ∷ bytes) whole = fits_none before byte bytes why.MccSyntax (whole_refuses before byte whole)

-- the item that ends with a byte
pub letter_item : (front : Open) (byte : ℕ) (bytes : List ℕ) → front.digit ≡ None → letter_bytes byte ≡ Some bytes → item_bytes front byte ≡ fitting front.bytes bytes
letter_item front byte bytes none letter =
    ap (λ (d : Option ℕ). fitting front.bytes (brought_by d (letter_bytes byte) (hex_value byte))) none
    ∙ ap (λ (l : Option (List ℕ)). fitting front.bytes (brought_by None l (hex_value byte))) letter

pub no_letter_item : (front : Open) (byte : ℕ) → front.digit ≡ None → letter_bytes byte ≡ None → item_bytes front byte ≡ []
no_letter_item front byte none letter =
    ap (λ (d : Option ℕ). fitting front.bytes (brought_by d (letter_bytes byte) (hex_value byte))) none
    ∙ ap (λ (l : Option (List ℕ)). fitting front.bytes (brought_by None l (hex_value byte))) letter

pub digit_letter : (byte high : ℕ) (found : Option (List ℕ)) → hex_value byte ≡ Some high → letter_bytes byte ≡ found → letter_bytes byte ≡ None
digit_letter byte high (Some bytes) digit is = absurd (not_both byte byte high bytes refl digit is)
digit_letter byte high None digit is = is

pub first_item : (front : Open) (byte high : ℕ) → front.digit ≡ None → hex_value byte ≡ Some high → item_bytes front byte ≡ []
first_item front byte high none digit = no_letter_item front byte none (digit_letter byte high (letter_bytes byte) digit refl)

pub second_item : (front : Open) (byte high low : ℕ) → front.digit ≡ Some high → hex_value byte ≡ Some low → item_bytes front byte ≡ fitting front.bytes ((16 * high + low) ∷ [])
second_item front byte high low some digit =
    ap (λ (d : Option ℕ). fitting front.bytes (brought_by d (letter_bytes byte) (hex_value byte))) some
    ∙ ap (λ (h : Option ℕ). fitting front.bytes (brought_by (Some high) (letter_bytes byte) h)) digit

pub no_second_item : (front : Open) (byte high : ℕ) → front.digit ≡ Some high → hex_value byte ≡ None → item_bytes front byte ≡ []
no_second_item front byte high some digit =
    ap (λ (d : Option ℕ). fitting front.bytes (brought_by d (letter_bytes byte) (hex_value byte))) some
    ∙ ap (λ (h : Option ℕ). fitting front.bytes (brought_by (Some high) (letter_bytes byte) h)) digit

-- no item ends with a line
no_item_lf : (digit : Option ℕ) (bytes : List ℕ) → fitting bytes (brought_by digit (letter_bytes 10) (hex_value 10)) ≡ []
no_item_lf None bytes = refl
no_item_lf (Some high) bytes = refl

no_item_cr : (digit : Option ℕ) (bytes : List ℕ) → fitting bytes (brought_by digit (letter_bytes 13) (hex_value 13)) ≡ []
no_item_cr None bytes = refl
no_item_cr (Some high) bytes = refl

pub lf_item : (p : Phase) (payload : Open) → item_in p payload 10 ≡ []
lf_item phase.Payload payload = no_item_lf payload.digit payload.bytes
lf_item p payload = refl

pub cr_item : (p : Phase) (payload : Open) → item_in p payload 13 ≡ []
cr_item phase.Payload payload = no_item_cr payload.digit payload.bytes
cr_item p payload = refl

-- the words of packets with one more
pub came_more : (placed : TimedPackets) (one : ℕ × Payload) → words_as_they_came (placed ++ one ∷ []) ≡ words_as_they_came placed ++ payload_words one.1
came_more [] one = append-nil (payload_words one.1)
came_more (first ∷ placed) one =
    ap (λ w. payload_words first.1 ++ w) (came_more placed one) ∙ sym (append_assoc (payload_words first.1) (words_as_they_came placed) (payload_words one.1))

-- a byte led on, and no payload is open
pub record Closed (s t : State) : Type 0 where
  pub placed : t.placed ≡ s.placed
  pub closed : is_open t.phase ≡ false

closed_at : (s one t : State) → one.placed ≡ s.placed → is_open one.phase ≡ false → one ≡ t → Closed s t
closed_at s one t placed closed same = subst (λ (x : State). Closed s x) same (record { placed = placed; closed = closed })

closed_taken : (s : State) (test : Bool) (one t : State) → one.placed ≡ s.placed → is_open one.phase ≡ false → taken s test one ≡ Ok t → Closed s t
closed_taken s test one t placed closed is = let (passed, same) = taken_so s test one t is in closed_at s one t placed closed same

first_closed : (test : Bool) (next : ℕ) → is_open (cond test phase.FirstSpaces (phase.First next)) ≡ false
first_closed true next = refl
first_closed false next = refl

letter_closed : (s t : State) (letter test digits : Bool) (name text : State) → name.placed ≡ s.placed → is_open name.phase ≡ false → text.placed ≡ s.placed → is_open text.phase ≡ false
    → cond letter (taken s test name) (taken s digits text) ≡ Ok t → Closed s t
letter_closed s t true test digits name text name_placed name_closed text_placed text_closed is = closed_taken s test name t name_placed name_closed is
letter_closed s t false test digits name text name_placed name_closed text_placed text_closed is = closed_taken s digits text t text_placed text_closed is

named_closed : (s t : State) (whole some : Bool)
    → cond {A = Result State Offence} whole (cond some (Err (record { back = 14; why = why.MccSyntax })) (Ok (in_phase s (phase.Rate rate_text.Empty)))) (Ok (in_phase s phase.Value)) ≡ Ok t
    → Closed s t
named_closed s t true true is = absurd (cc)
named_closed s t true false is = closed_at s (in_phase s (phase.Rate rate_text.Empty)) t refl refl (ok_same (in_phase s (phase.Rate rate_text.Empty)) t is)
named_closed s t false some is = closed_at s (in_phase s phase.Value) t refl refl (ok_same (in_phase s phase.Value) t is)

name_closed : (s t : State) (k byte : ℕ) (sign : Bool)
    → cond sign (named s k) (taken s (is_name_byte byte) (in_phase s (phase.Name (matched k byte)))) ≡ Ok t → Closed s t
name_closed s t k byte true is = named_closed s t (k == 14) (is_some s.count) is
name_closed s t k byte false is = closed_taken s (is_name_byte byte) (in_phase s (phase.Name (matched k byte))) t refl refl is

rate_closed : (s t : State) (text : RateText) (found : Option RateText) (byte : ℕ) → rate_read s text found byte ≡ Ok t → Closed s t
rate_closed s t text (Some to) byte is =
    closed_at s (record s { phase = phase.Rate to; count = rate_count to }) t refl refl (ok_same (record s { phase = phase.Rate to; count = rate_count to }) t is)
rate_closed s t text None byte is = closed_taken s (is_some (rate_count text) && (byte == 32)) (in_phase s phase.RateSpaces) t refl refl is

timed_closed : (s t : State) (text : List ℕ) (found : Result ℕ Offence) → timed s text found ≡ Ok t → Closed s t
timed_closed s t text (Ok frame) is =
    closed_at s (record s { phase = phase.Timed; text = text; last = Some frame }) t refl refl (ok_same (record s { phase = phase.Timed; text = text; last = Some frame }) t is)
timed_closed s t text (Err offence) is = absurd (cc)

time_closed : (s t : State) (text : List ℕ) (whole : Bool)
    → cond whole (timed s text (judged_frame s.count s.last (time_of_text text))) (taken s (begins_time text) (record s { phase = phase.Time; text = text })) ≡ Ok t → Closed s t
time_closed s t text true is = timed_closed s t text (judged_frame s.count s.last (time_of_text text)) is
time_closed s t text false is = closed_taken s (begins_time text) (record s { phase = phase.Time; text = text }) t refl refl is

pub goes_closed : (p : Phase) (s t : State) (byte : ℕ) → is_open p ≡ false → goes s p byte ≡ Ok t → Closed s t
goes_closed (phase.First at) s t byte closed is = elim (chosen ((at == 28) && (byte == 50)) (record s { phase = phase.First 29; two = true }) t _ is) [
  | inl (e, same) ↦ closed_at s (record s { phase = phase.First 29; two = true }) t refl refl same
  | inr (e, is') ↦ closed_taken s (byte == slice_index (format_text version_one) at) (in_phase s (behind_first at)) t refl (first_closed (at == 30) (at + 1)) is'
]
goes_closed phase.FirstSpaces s t byte closed is = closed_taken s (byte == 32) (in_phase s phase.FirstSpaces) t refl refl is
goes_closed phase.FirstEnd s t byte closed is = absurd (cc)
goes_closed phase.Start s t byte closed is = elim (chosen (is_blank byte) (in_phase s phase.Blank) t _ is) [
  | inl (e, same) ↦ closed_at s (in_phase s phase.Blank) t refl refl same
  | inr (e, is') ↦ elim (chosen (byte == 47) (in_phase s phase.Slash) t _ is') [
    | inl (f, same) ↦ closed_at s (in_phase s phase.Slash) t refl refl same
    | inr (f, is'') ↦
        letter_closed s t (is_letter byte) (not (is_some s.last)) (is_digit byte && is_some s.count) (in_phase s (phase.Name (cond (byte == 84) 1 0)))
        (record s { phase = phase.Time; text = byte ∷ [] }) refl refl refl refl is''
  ]
]
goes_closed phase.Blank s t byte closed is = closed_taken s (is_blank byte) (in_phase s phase.Blank) t refl refl is
goes_closed phase.Slash s t byte closed is = closed_taken s (byte == 47) (in_phase s phase.Comment) t refl refl is
goes_closed phase.Comment s t byte closed is = closed_at s (in_phase s phase.Comment) t refl refl (ok_same (in_phase s phase.Comment) t is)
goes_closed (phase.Name k) s t byte closed is = name_closed s t k byte (byte == 61) is
goes_closed phase.Value s t byte closed is = closed_at s (in_phase s phase.Value) t refl refl (ok_same (in_phase s phase.Value) t is)
goes_closed (phase.Rate text) s t byte closed is = rate_closed s t text (rate_moved text byte) byte is
goes_closed phase.RateSpaces s t byte closed is = closed_taken s (byte == 32) (in_phase s phase.RateSpaces) t refl refl is
goes_closed phase.Time s t byte closed is = time_closed s t (s.text ++ byte ∷ []) (length (s.text ++ byte ∷ []) == 11) is
goes_closed phase.Timed s t byte closed is = closed_taken s (s.two && (byte == 46)) (in_phase s phase.Dot) t refl refl is
goes_closed phase.Dot s t byte closed is = closed_taken s ((byte == 48) || (byte == 49)) (in_phase s phase.Field) t refl refl is
goes_closed phase.Field s t byte closed is = closed_taken s (byte == 44) (in_phase s (phase.Digits 0)) t refl refl is
goes_closed (phase.Digits count) s t byte closed is = closed_taken s (nat_lt count 5 && is_digit byte) (in_phase s (phase.Digits (count + 1))) t refl refl is
goes_closed phase.Payload s t byte closed is = absurd (cc)
goes_closed phase.Behind s t byte closed is = absurd (cc)
goes_closed (phase.End packet) s t byte closed is = absurd (cc)

-- its words
pub closed_words : (s t : State) (fit : List ℕ) → is_open s.phase ≡ false → Closed s t → state_words t ≡ words_with s fit
closed_words s t fit closed c =
    ap (λ (b : Bool). words_as_they_came t.placed ++ open_part b t.payload.bytes) c.closed
    ∙ (ap (λ (p : TimedPackets). words_as_they_came p ++ []) c.placed ∙ sym (ap (λ (b : Bool). words_as_they_came s.placed ++ open_part b (s.payload.bytes ++ fit)) closed))

-- where a payload is open
pub open_same : (s t : State) (bytes fit : List ℕ) → is_open s.phase ≡ true → is_open t.phase ≡ true → t.placed ≡ s.placed → t.payload.bytes ≡ s.payload.bytes ++ fit
    → state_words t ≡ words_with s fit
open_same s t bytes fit was now placed same =
    ap (λ (b : Bool). words_as_they_came t.placed ++ open_part b t.payload.bytes) now
    ∙ (ap (λ (p : TimedPackets). words_as_they_came p ++ open_words t.payload.bytes) placed
    ∙ (ap (λ (b : List ℕ). words_as_they_came s.placed ++ open_words b) same
    ∙ sym (ap (λ (b : Bool). words_as_they_came s.placed ++ open_part b (s.payload.bytes ++ fit)) was)))

-- with no byte more
pub none_with : (s : State) (fit : List ℕ) → fit ≡ [] → words_with s fit ≡ state_words s
none_with s fit none =
    ap (λ (f : List ℕ). words_with s f) none ∙ ap (λ (b : List ℕ). words_as_they_came s.placed ++ open_part (is_open s.phase) b) (append-nil s.payload.bytes)

-- a byte of a payload
took : (s : State) (byte : ℕ) (to : Open) → Takes true s.payload byte to → to.bytes ≡ s.payload.bytes ++ item_bytes s.payload byte
took s byte to (as_letter bytes none letter join after) =
    joined_is true s.payload.bytes bytes to.bytes join
    ∙ ap (λ f. s.payload.bytes ++ f) (sym (letter_item s.payload byte bytes none letter ∙ fitting_all s.payload.bytes bytes to.bytes join))
took s byte to (as_first high none digit same) =
    ap (λ (o : Open). o.bytes) same ∙ (sym (append-nil s.payload.bytes) ∙ ap (λ f. s.payload.bytes ++ f) (sym (first_item s.payload byte high none digit)))
took s byte to (as_second high low some digit join after) =
    joined_is true s.payload.bytes ((16 * high + low) ∷ []) to.bytes join
    ∙ ap (λ f. s.payload.bytes ++ f) (sym (second_item s.payload byte high low some digit ∙ fitting_all s.payload.bytes ((16 * high + low) ∷ []) to.bytes join))

pub record Led (p : Phase) (s t : State) (byte : ℕ) : Type 0 where
  pub words : state_words t ≡ words_with s (item_in p s.payload byte)
  pub placed : t.placed ≡ s.placed

led_same : (p : Phase) (s one t : State) (byte : ℕ) → Led p s one byte → one ≡ t → Led p s t byte
led_same p s one t byte led same = subst (λ (x : State). Led p s x byte) same led

payload_led : (s t : State) (byte : ℕ) → s.phase ≡ phase.Payload → (whole : Bool) → is_whole s.payload.bytes ≡ whole
    → cond whole (taken s (is_blank byte) (in_phase s phase.Behind)) (payload_goes s (step true s.payload byte)) ≡ Ok t → Led phase.Payload s t byte
payload_led s t byte at true whole is =
    let (test, same) = taken_so s (is_blank byte) (in_phase s phase.Behind) t is in
    let none : item_bytes s.payload byte ≡ [] = fitting_whole s.payload.bytes (brought s.payload byte) whole in
    led_same phase.Payload s (in_phase s phase.Behind) t byte
    (record {
      words = open_same s (in_phase s phase.Behind) [] (item_bytes s.payload byte) (ap is_open at) refl refl
          (sym (append-nil s.payload.bytes) ∙ ap (λ f. s.payload.bytes ++ f) (sym none));
      placed = refl;
    })
    same
payload_led s t byte at false whole is =
    let (to, stepped_is, same) = goes_so s t (step true s.payload byte) is in
    let bytes = took s byte to (step_so true s.payload byte to stepped_is) in
    led_same phase.Payload s (record s { payload = to }) t byte
    (record { words = open_same s (record s { payload = to }) [] (item_bytes s.payload byte) (ap is_open at) (ap is_open at) refl bytes; placed = refl })
    same

goes_led : (p : Phase) (s t : State) (byte : ℕ) → s.phase ≡ p → goes s p byte ≡ Ok t → Led p s t byte
goes_led phase.Payload s t byte at is = payload_led s t byte at (is_whole s.payload.bytes) refl is
goes_led phase.Behind s t byte at is =
    let (test, same) = taken_so s (is_blank byte) (in_phase s phase.Behind) t is in
    led_same phase.Behind s (in_phase s phase.Behind) t byte
    (record { words = open_same s (in_phase s phase.Behind) [] [] (ap is_open at) refl refl (sym (append-nil s.payload.bytes)); placed = refl })
    same
goes_led (phase.End packet) s t byte at is = absurd (cc)
goes_led p s t byte at is = let c = goes_closed p s t byte refl is in record { words = closed_words s t _ (ap is_open at) c; placed = c.placed }

-- a payload begins
awaits_closed : (p : Phase) → awaits_payload p ≡ true → is_open p ≡ false
awaits_closed phase.Payload is = absurd (cc)
awaits_closed phase.Behind is = absurd (cc)
awaits_closed (phase.End packet) is = absurd (cc)
awaits_closed p is = refl

begins_led : (p : Phase) (s : State) (byte : ℕ) → s.phase ≡ p → awaits_payload p ≡ true → Led p s (payload_begins s) byte
begins_led p s byte at awaits = record {
  words = sym (ap (λ (b : Bool). words_as_they_came s.placed ++ open_part b (s.payload.bytes ++ item_in p s.payload byte)) (ap is_open at ∙ awaits_closed p awaits));
  placed = refl;
}

and_first : (a b : Bool) → (a && b) ≡ true → a ≡ true
and_first true b is = refl
and_first false b is = absurd (cc)

pub within_led : (p : Phase) (s t : State) (byte : ℕ) → s.phase ≡ p → within s p byte ≡ Ok t → Led p s t byte
within_led p s t byte at is = elim (chosen (awaits_payload p && (byte == 9)) (payload_begins s) t (goes s p byte) is) [
  | inl (e, same) ↦ led_same p s (payload_begins s) t byte (begins_led p s byte at (and_first (awaits_payload p) (byte == 9) e)) same
  | inr (e, is') ↦ goes_led p s t byte at is'
]

-- a line's end
rate_gives : (o : Option Bool) (gives : Bool) → (o ≡ Some true → ⊥) → o ≡ Some gives → false ≡ gives
rate_gives o true none is = absurd (none is)
rate_gives o false none is = refl

payload_gives : (whole gives : Bool) → ends_payload whole ≡ Some gives → true ≡ gives
payload_gives true gives is = some_same true gives is
payload_gives false gives is = absurd (none_is_some gives is)

pub lf_open : (p : Phase) (bytes : List ℕ) (gives : Bool) → ends_at_lf p (ends_in p bytes) ≡ Some gives → is_open p ≡ gives
lf_open phase.FirstSpaces bytes gives is = some_same false gives is
lf_open phase.FirstEnd bytes gives is = some_same false gives is
lf_open phase.Start bytes gives is = some_same false gives is
lf_open phase.Blank bytes gives is = some_same false gives is
lf_open phase.Comment bytes gives is = some_same false gives is
lf_open phase.Value bytes gives is = some_same false gives is
lf_open phase.RateSpaces bytes gives is = some_same false gives is
lf_open (phase.Rate text) bytes gives is = rate_gives _ gives (rate_no_packet (rate_count text)) is
lf_open phase.Payload bytes gives is = payload_gives (is_whole bytes) gives is
lf_open phase.Behind bytes gives is = some_same true gives is
lf_open (phase.End packet) bytes gives is = some_same packet gives is
lf_open p bytes gives is = absurd (none_is_some gives is)

behind_open : (p : Phase) (gives : Bool) → is_open p ≡ gives → is_open (behind_cr p gives) ≡ gives
behind_open phase.FirstSpaces gives is = is
behind_open p gives is = refl

started_words : (s : State) (gives : Bool) (fit : List ℕ) → is_open s.phase ≡ gives → fit ≡ [] → (gives ≡ true → s.payload.bytes ≡ payload_bytes (payload_in s.payload.bytes))
    → state_words (started s gives) ≡ words_with s fit
started_words s false fit open_is none whole = closed_words s (started s false) fit open_is (record { placed = refl; closed = refl })
started_words s true fit open_is none whole =
    let all = whole refl in
    let is : is_whole s.payload.bytes ≡ true =
    subst (λ (b : List ℕ). is_whole b ≡ true) (sym all) (packet_whole (payload_in s.payload.bytes) (checksum_byte (payload_in s.payload.bytes))) in
    append-nil (words_as_they_came (s.placed ++ packet_of s ∷ []))
    ∙ (came_more s.placed (packet_of s) ∙ (ap (λ w. words_as_they_came s.placed ++ w) (sym (open_whole s.payload.bytes is))
    ∙ sym (none_with s fit none ∙ ap (λ (b : Bool). words_as_they_came s.placed ++ open_part b s.payload.bytes) open_is)))

-- a byte more
pub record Stepped (s : State) (byte : ℕ) (t : State) : Type 0 where
  pub words : state_words t ≡ words_with s (item_in s.phase s.payload byte)
  pub line : ((byte ≡ 10) × (t.phase ≡ phase.Start)) ⊎ (((byte == 10) ≡ false) × (t.placed ≡ s.placed))

pub stepped_by : (before : List ℕ) (s t : State) (byte : ℕ) (lf cr : Bool) → (byte == 10) ≡ lf → (byte == 13) ≡ cr → run at_first before ≡ Ok s
    → cond lf (ended_by_lf s (ends_at_lf s.phase (ends s))) (cond cr (ended_by_cr s (ends s)) (within s s.phase byte)) ≡ Ok t → Stepped s byte t
stepped_by before s t byte true cr lf_is cr_is reads is =
    let (gives, found, same) = lf_so s t (ends_at_lf s.phase (ends s)) is in
    let ten = eqb-true byte 10 lf_is in
    let whole : gives ≡ true → s.payload.bytes ≡ payload_bytes (payload_in s.payload.bytes) =
    λ e. whole_bytes before s (origin before s reads) (found ∙ ap (λ g. Some g) e) in
    subst (λ (x : State). Stepped s byte x) same
    (record {
      words = started_words s gives (item_in s.phase s.payload byte) (lf_open s.phase s.payload.bytes gives found)
          (ap (λ (b : ℕ). item_in s.phase s.payload b) ten ∙ lf_item s.phase s.payload) whole;
      line = inl (ten, refl);
    })
stepped_by before s t byte false true lf_is cr_is reads is =
    let (gives, found, same) = cr_so s t (ends s) is in
    let thirteen = eqb-true byte 13 cr_is in
    let may = ends_lf s.phase s.payload.bytes gives found in
    let open_is = lf_open s.phase s.payload.bytes gives may in
    let to = in_phase s (behind_cr s.phase gives) in
    let none : item_in s.phase s.payload byte ≡ [] = ap (λ (b : ℕ). item_in s.phase s.payload b) thirteen ∙ cr_item s.phase s.payload in
    let words : state_words to ≡ state_words s =
    ap (λ (b : Bool). words_as_they_came s.placed ++ open_part b s.payload.bytes) (behind_open s.phase gives open_is ∙ sym open_is) in
    subst (λ (x : State). Stepped s byte x) same
    (record { words = words ∙ sym (none_with s (item_in s.phase s.payload byte) none); line = inr (lf_is, refl) })
stepped_by before s t byte false false lf_is cr_is reads is =
    let led = within_led s.phase s t byte refl is in
    record { words = led.words; line = inr (lf_is, led.placed) }

pub stepped : (before : List ℕ) (s t : State) (byte : ℕ) → run at_first before ≡ Ok s → take_byte s byte ≡ Ok t → Stepped s byte t
stepped before s t byte reads is = stepped_by before s t byte (byte == 10) (byte == 13) refl refl reads is
