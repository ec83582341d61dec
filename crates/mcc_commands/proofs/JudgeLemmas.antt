-- The words of the item that ends with a byte are judged.
use Rattle.std.proofs.Common.{◌≡◌, ℕ, ◌+◌, ◌-◌, ◌*◌, ◌<◌, ◌≤◌, inl, inr, Bool, true, false, List, [], ◌∷◌, ◌++◌, append_assoc, get_or, length, length-append, take, Ok, refl, ap, sym, ◌∙◌, subst, arith}
use Rattle.std.proofs.Math.Seq.{take-append_seam}
use Rattle.std.proofs.lemmas.Bool.{cases_Bool}
use Rattle.std.specs.List.{concat}
use Rattle.cc_base.specs.declared.refusal.Refusal.{Refusal}
use Rattle.mcc_commands.specs.declared.hearing.Hearer.{Hearer}
use Rattle.mcc_files.specs.MccFiles.{TimedPackets}
use Rattle.mcc_files.specs.Readers.{item_in, state_of}
use Rattle.mcc_files.specs.Reading.{State, at_first, run}
use Rattle.mcc_files.specs.declared.phase.Phase.{Phase}
use Rattle.mcc_files.specs.declared.phase.Phase.TheVariants as phase
use Rattle.mcc_files.proofs.OriginLemmas.{origin}
use Rattle.mcc_files.proofs.Origins.{InLine, OriginIn}
use Rattle.mcc_files.proofs.Refused.{line_of}
use Rattle.mcc_files.specs.PayloadReading.{Open, brought, is_whole, item_bytes, joined}
use Rattle.mcc_files.proofs.FirstLemmas.{Stands, at_digit, at_item}
use Rattle.mcc_files.proofs.StepLemmas.{joined_is}
use Rattle.mcc_words.specs.Close.{words_as_they_came}
use Rattle.services_files.specs.CaptionChannel.{caption_channel}
use Rattle.words_files.specs.Offences.{FirstOffendingWord}
use Rattle.mcc_commands.specs.Importing.{HasHeard, HasImported, HearsMore, IsMade, JudgesItem, step_back, step_item}
use Rattle.mcc_commands.specs.Offences.{ItemWordOffends}
use Rattle.mcc_commands.specs.Words.{is_open, open_part, open_words, state_words, words_with}
use Rattle.mcc_commands.specs.declared.importing.Importing.{Importing}
use Rattle.mcc_commands.specs.declared.made.Made.{Made}
use Rattle.mcc_commands.proofs.ImportMadeLemmas.{came_fewer}
use Rattle.mcc_commands.proofs.ImportOffenceLemmas.{fitting_joined, item_phase, word_offends}
use Rattle.mcc_commands.proofs.StateLemmas.{fitting_whole, none_with}
use Rattle.mcc_commands.proofs.ImportWordsLemmas.{eight_long, goes_on, open_not_yet}

-- the bytes of an open payload
stands_joined : (text : List ℕ) (front : Open) → Stands text front → joined true [] front.bytes ≡ Ok front.bytes
stands_joined text front (at_item items bytes are join bytes_is) =
    let all : bytes ≡ concat items = joined_is true [] (concat items) bytes join in
    let same : front.bytes ≡ bytes = ap (λ (o : Open). o.bytes) bytes_is in
    subst (λ (b : List ℕ). joined true [] b ≡ Ok b) (sym same) (subst (λ (b : List ℕ). joined true [] b ≡ Ok bytes) (sym all) join)
stands_joined text front (at_digit start items digit high bytes spelled are join digit_is yet bytes_is) =
    let all : bytes ≡ concat items = joined_is true [] (concat items) bytes join in
    let same : front.bytes ≡ bytes = ap (λ (o : Open). o.bytes) bytes_is in
    subst (λ (b : List ℕ). joined true [] b ≡ Ok b) (sym same) (subst (λ (b : List ℕ). joined true [] b ≡ Ok bytes) (sym all) join)

pub record ItemFacts (s : State) (fit : List ℕ) : Type 0 where
  pub at : s.phase ≡ phase.Payload
  pub join : joined true [] (s.payload.bytes ++ fit) ≡ Ok (s.payload.bytes ++ fit)
  pub not_yet : is_whole s.payload.bytes ≡ false

pub item_facts : (before : List ℕ) (s : State) (byte : ℕ) → run at_first before ≡ Ok s → (item_in s.phase s.payload byte ≡ [] → ⊥) → ItemFacts s (item_in s.phase s.payload byte)
item_facts before s byte reads some =
    let at = item_phase s.phase s.payload byte some in
    let line : InLine before s = subst (λ (p : Phase). OriginIn p before s) at (origin before s reads) in
    let f = line_of phase.Payload before s at line in
    let item : item_in s.phase s.payload byte ≡ item_bytes s.payload byte = ap (λ (p : Phase). item_in p s.payload byte) at in
    let join = fitting_joined s.payload.bytes (brought s.payload byte) (stands_joined f.payload_text s.payload f.stands) in
    record {
      at = at;
      join = subst (λ (b : List ℕ). joined true [] (s.payload.bytes ++ b) ≡ Ok (s.payload.bytes ++ b)) (sym item) join;
      not_yet = elim (cases_Bool (is_whole s.payload.bytes)) [
        | inl whole ↦ absurd (some (item ∙ fitting_whole s.payload.bytes (brought s.payload byte) whole))
        | inr not_yet ↦ not_yet
      ];
    }

-- a packet has 259 bytes at most
few_by : (bytes more : List ℕ) (did sdid count : ℕ) (user : List ℕ) (last : ℕ) → bytes ++ more ≡ did ∷ sdid ∷ count ∷ (user ++ last ∷ []) → count ≡ length user
    → ((k : ℕ) → k < length bytes → get_or bytes k 0 < 256) → length bytes ≤ 259
few_by [] more did sdid count user last spelled counts are = omega arith
few_by (a ∷ []) more did sdid count user last spelled counts are = omega arith
few_by (a ∷ b ∷ []) more did sdid count user last spelled counts are = omega arith
few_by (a ∷ b ∷ c ∷ rest) more did sdid count user last spelled counts are =
    let small : c < 256 = are 2 (omega arith) in
    let same : c ≡ count = cc in
    let long = ap length spelled in
    let first = length-append (a ∷ b ∷ c ∷ rest) more in
    let own = length-append user (last ∷ []) in
    omega (arith, small, same, counts, long, first, own)

pub few_bytes : (bytes : List ℕ) → joined true [] bytes ≡ Ok bytes → ((k : ℕ) → k < length bytes → get_or bytes k 0 < 256) → length bytes ≤ 259
few_bytes bytes join are =
    let g = goes_on bytes join in
    few_by bytes g.more g.payload.did g.payload.sdid (length g.payload.user) g.payload.user _ (sym g.spelled) refl are

-- the words that were heard so far are few
open_few : (bytes : List ℕ) → is_whole bytes ≡ false → length (open_words bytes) ≤ 6 + 2 * length bytes
open_few [] not_yet = omega arith
open_few (b ∷ bytes) not_yet =
    let each = eight_long (b ∷ bytes) in
    let same = ap length (open_not_yet b bytes not_yet) in
    omega (arith, each, same)

pub state_few : (s : State) (words : List ℕ) (made : Made) (placed : TimedPackets) (hearer : Hearer) (fit : List ℕ) (more : ℕ) → s.placed ≡ placed → IsMade placed words made
    → HasHeard (state_words s) hearer → ItemFacts s fit → length s.payload.bytes ≤ 259 → more ≤ 524 → hearer.heard + more < 4294967295
state_few s words made placed hearer fit more same is heard facts few fits =
    let came = came_fewer placed words _ _ is.has in
    let bytes = is.bytes_are in
    let short = made.short in
    let open_is : is_open s.phase ≡ true = ap is_open facts.at in
    let all : length (state_words s) ≡ length (words_as_they_came placed) + length (open_words s.payload.bytes) =
    ap (λ (b : Bool). length (words_as_they_came s.placed ++ open_part b s.payload.bytes)) open_is
    ∙ (ap (λ (p : TimedPackets). length (words_as_they_came p ++ open_words s.payload.bytes)) same ∙ length-append (words_as_they_came placed) (open_words s.payload.bytes)) in
    let open_size = open_few s.payload.bytes facts.not_yet in
    let counted = heard.counted in
    omega (arith, came, bytes, short, all, open_size, counted, few, fits)

-- the words that are put are the item's words
pub words_put : (s : State) (fit out : List ℕ) (from : ℕ) → is_open s.phase ≡ true → from ≡ length s.payload.bytes
    → open_words (take from (s.payload.bytes ++ fit)) ++ out ≡ open_words (s.payload.bytes ++ fit) → state_words s ++ out ≡ words_with s fit
words_put s fit out from open_is from_is put =
    let front : take from (s.payload.bytes ++ fit) ≡ s.payload.bytes =
    ap (λ (n : ℕ). take n (s.payload.bytes ++ fit)) from_is ∙ take-append_seam s.payload.bytes fit in
    ap (λ (b : Bool). (words_as_they_came s.placed ++ open_part b s.payload.bytes) ++ out) open_is
    ∙ (append_assoc (words_as_they_came s.placed) (open_words s.payload.bytes) out
    ∙ (ap (λ w. words_as_they_came s.placed ++ w) (ap (λ (b : List ℕ). open_words b ++ out) (sym front) ∙ put)
    ∙ sym (ap (λ (b : Bool). words_as_they_came s.placed ++ open_part b (s.payload.bytes ++ fit)) open_is)))

-- no item ends with the byte
pub nothing_judged : (bytes words : List ℕ) (byte : ℕ) (importing : Importing) (had : HasImported bytes words importing) → step_item importing.reader byte ≡ []
    → JudgesItem bytes had.placed byte importing importing (Ok tt)
nothing_judged bytes words byte importing had none =
    (refl, refl, refl, subst (λ (w : List ℕ). HasHeard w importing.hearer) (sym (none_with (state_of importing.reader had.placed) (step_item importing.reader byte) none)) had.heard)

-- one does, and its words were heard
pub item_judged : (bytes words out : List ℕ) (byte from : ℕ) (importing : Importing) (hearer : Hearer) (had : HasImported bytes words importing)
    → (step_item importing.reader byte ≡ [] → ⊥) → from ≡ length (state_of importing.reader had.placed).payload.bytes
    → open_words (take from ((state_of importing.reader had.placed).payload.bytes ++ step_item importing.reader byte)) ++ out
    ≡ open_words ((state_of importing.reader had.placed).payload.bytes ++ step_item importing.reader byte)
    → HearsMore (state_words (state_of importing.reader had.placed)) out hearer (Ok tt)
    → HasHeard (words_with (state_of importing.reader had.placed) (step_item importing.reader byte)) hearer
item_judged bytes words out byte from importing hearer had some from_is put heard =
    let s = state_of importing.reader had.placed in
    let facts = item_facts bytes s byte had.read some in
    subst (λ (w : List ℕ). HasHeard w hearer) (words_put s (step_item importing.reader byte) out from (ap is_open facts.at) from_is put) heard

-- or one of them offends
pub item_refused : (bytes words out : List ℕ) (byte from : ℕ) (importing : Importing) (had : HasImported bytes words importing) (word : Refusal)
    → (step_item importing.reader byte ≡ [] → ⊥) → from ≡ length (state_of importing.reader had.placed).payload.bytes
    → open_words (take from ((state_of importing.reader had.placed).payload.bytes ++ step_item importing.reader byte)) ++ out
    ≡ open_words ((state_of importing.reader had.placed).payload.bytes ++ step_item importing.reader byte)
    → FirstOffendingWord caption_channel (state_words (state_of importing.reader had.placed) ++ out) word
    → ItemWordOffends (bytes ++ byte ∷ []) (record { place = length bytes - step_back importing.reader; why = word.why })
item_refused bytes words out byte from importing had word some from_is put offends =
    let s = state_of importing.reader had.placed in
    let facts = item_facts bytes s byte had.read some in
    word_offends bytes s byte word had.read facts.not_yet some had.heard.unoffending
    (subst (λ (w : List ℕ). FirstOffendingWord caption_channel w word) (words_put s (step_item importing.reader byte) out from (ap is_open facts.at) from_is put) offends)
