-- From slots to frames, at all rates: a channel of a list is shown again after lost frames (CTA-608-E, 47 CFR 79.101; a field has a slot in
-- each frame, or in every other one: SMPTE ST 334-2).
use Rattle.std.proofs.Common.{◌≡◌, ℕ, zero, suc, ◌+◌, ◌-◌, ◌<◌, ◌≤◌, inl, Bool, true, false, if◌then◌else◌, List, [], ◌∷◌, ◌++◌, reverse, take, Option, Some, None, refl, sym, ap, ◌∙◌, subst, arith, append-nil, append_assoc, option_map}
use Rattle.std.specs.Prelude.{is_none, option_to_list}
use Rattle.std.specs.List.{AllByRecursion}
use Rattle.std.proofs.lemmas.List.{append_cancel_left, map-append, reverse-append, reverse-reverse}
use Rattle.std.proofs.lemmas.List.Elements.{recursion_from_All}
use Rattle.line21_codes.specs.declared.channels.FieldNumber.{FieldNumber}
use Rattle.line21_codes.specs.declared.channels.FieldNumber.TheVariants.{One, Two}
use Rattle.line21_codes.specs.declared.channels.Chan.{Chan}
use Rattle.line21_codes.specs.declared.channels.Chan.TheVariants.{Cc1, Cc3}
use Rattle.line21_codes.specs.declared.codes.Code.TheVariants.{Null}
use Rattle.line21_codes.specs.declared.pairs.Pair.{Pair}
use Rattle.line21_codes.specs.Channels.{field_of_channel}
use Rattle.line21_codes.specs.Reading.{code_of}
use Rattle.cue_lists.specs.AuthoredGrid.{IsSettled, authored_grid, blank, chain_of}
use Rattle.cue_lists.specs.Channels.{cues_on}
use Rattle.cue_lists.specs.Line21Cues.{continues}
use Rattle.cue_lists.specs.Listing.{IsFormed, Listing}
use Rattle.cue_lists.specs.Rules.{IsRuled}
use Rattle.cue_lists.proofs.RulesSaid.{lanes_ruled}
use Rattle.cue_lists.specs.Rules.Sentences.{AreInSequence, IsOnSlots}
use Rattle.cue_lists.specs.declared.cue.Cue.{Cue}
use Rattle.cue_lists.specs.declared.lane.Lane.TheVariants.{Channel}
use Rattle.cue_lists.specs.Cadences.{cadence_of, slot_from}
use Rattle.cue_lists.specs.Cadence.{Cadence}
use Rattle.cue_lists.proofs.CadenceLemmas.{slots_rise}
use Rattle.line21_author.specs.CueEvents.{channel_events}
use Rattle.line21_author.specs.CueSlots.{cues_in_slots, timed_in_slots}
use Rattle.line21_author.proofs.CueSlotLemmas.{cues_on_slots}
use Rattle.line21_author.proofs.SlotSequenceLemmas.{in_sequence}
use Rattle.line21_screen.specs.Channels.{ChannelState}
use Rattle.line21_screen.specs.Grid.{empty_grid}
use Rattle.line21_screen.specs.Meaning.{after}
use Rattle.lanes.specs.ChannelLane.{IsChannelPlaced, channel_chunks}
use Rattle.frame_carrier.specs.Columns.{Columns, first_pairs, pair_in}
use Rattle.frame_carrier.specs.Planned.{columns_of}
use Rattle.frame_carrier.specs.SlotLists.{slot_cues, slots_in_list}
use Rattle.lanes.specs.Timeline.{Timeline, column, repeat_at, repeat_of, slot}
use Rattle.lanes.specs.LaneTimeline.{stands}
use Rattle.lanes.specs.declared.chunk.FieldChunk.{FieldChunk}
use Rattle.frame_carrier.proofs.ListDoublingLemmas.{channel_timeline, field_one_is, field_two_is}
use Rattle.frame_carrier.proofs.SlotLemmas.{slot_cues_formed, slot_sequence}
use Rattle.line21_shown.specs.Reading.{IsForFirst}
use Rattle.line21_shown.proofs.CaptionedLemmas.{IsFirstPair, channel_captioned, slots_all, written_first}
use Rattle.line21_shown.proofs.HeadLemmas.{Continues}
use Rattle.line21_shown.proofs.LoadedLemmas.{all_have_time, cues_loaded}
use Rattle.line21_shown.proofs.ReadingLemmas.{null_code, slot_is}
use Rattle.line21_shown.proofs.SequenceLemmas.{IsCaption, any_begin, authored_is, begins, captions_are, empty_first, lines_are}
use Rattle.line21_shown.proofs.SlotGridLemmas.{grid_in_slots, settled_in_slots, slot_has_come}
use Rattle.line21_shown.proofs.SuffixLemmas.{chunks_are, placed_from}
use Rattle.lost.specs.ChannelLoss.{AuthoredIsSeenAgain, Resynchronises, SilentIsBlank, pairs_between, rows_of, seen_with, state_from}
use Rattle.lost.proofs.FoundLemmas.{IsFound, find}
use Rattle.lost.proofs.HeardLemmas.{heard_new, heard_read, pairs_from}
use Rattle.lost.proofs.IdleLemmas.{idle_on}
use Rattle.lost.proofs.RowsBackLemmas.{all_behind, back_shown, newest_back}

-- the pairs of this many slots from one on, after those before
column_more : (t : Timeline) (a k n : ℕ) → a + k ≡ n → column t n ≡ column t a ++ reverse (pairs_from (slot t) a k)
column_more t a zero n is =
    let same : n ≡ a = omega arith in ap (column t) same ∙ sym (append-nil (column t a))
column_more t a (suc k) n is =
    let next : n ≡ suc (a + k) = omega arith in
    ap (column t) next
    ∙ ap (λ (pairs : List Pair). pairs ++ slot t (a + k) ∷ []) (column_more t a k (a + k) refl)
    ∙ append_assoc (column t a) (reverse (pairs_from (slot t) a k)) (slot t (a + k) ∷ [])
    ∙ ap (λ (pairs : List Pair). column t a ++ pairs) (sym (reverse-append (slot t (a + k) ∷ []) (pairs_from (slot t) a k)))

first_more : (in_field : FieldNumber) (columns : Columns) (a k n : ℕ) → a + k ≡ n
    → first_pairs in_field columns n ≡ first_pairs in_field columns a ++ pairs_between in_field columns a k
first_more in_field columns a zero n is =
    let same : n ≡ a = omega arith in ap (first_pairs in_field columns) same ∙ sym (append-nil (first_pairs in_field columns a))
first_more in_field columns a (suc k) n is =
    let next : n ≡ suc (a + k) = omega arith in
    ap (first_pairs in_field columns) next
    ∙ ap (λ (pairs : List Pair). pairs ++ option_to_list (pair_in in_field (columns (a + k)))) (first_more in_field columns a k (a + k) refl)
    ∙ append_assoc (first_pairs in_field columns a) (pairs_between in_field columns a k) (option_to_list (pair_in in_field (columns (a + k))))

-- the pairs of frames are the slots in them
pairs_are : (in_field : FieldNumber) (columns : Columns) (c : Cadence) (t : Timeline)
    → ((n : ℕ) → first_pairs in_field columns n ≡ column t (slot_from c n))
    → (a count k : ℕ) → slot_from c a + k ≡ slot_from c (a + count)
    → reverse (pairs_between in_field columns a count) ≡ pairs_from (slot t) (slot_from c a) k
pairs_are in_field columns c t are a count k is =
    let both : column t (slot_from c a) ++ pairs_between in_field columns a count ≡ column t (slot_from c a) ++ reverse (pairs_from (slot t) (slot_from c a) k) =
    ap (λ (pairs : List Pair). pairs ++ pairs_between in_field columns a count) (sym (are a)) ∙ sym (first_more in_field columns a count (a + count) refl)
    ∙ are (a + count) ∙ column_more t (slot_from c a) k (slot_from c (a + count)) is in
    ap reverse (append_cancel_left (column t (slot_from c a)) (pairs_between in_field columns a count) (reverse (pairs_from (slot t) (slot_from c a) k)) both)
    ∙ reverse-reverse (pairs_from (slot t) (slot_from c a) k)

-- the order of cues in slots is that in frames
reverse_in_slots : (c : Cadence) (cues : List Cue) → reverse (cues_in_slots c cues) ≡ cues_in_slots c (reverse cues)
reverse_in_slots c [] = refl
reverse_in_slots c (cue ∷ cues) =
    reverse-append (timed_in_slots c cue ∷ []) (cues_in_slots c cues)
    ∙ ap (λ (l : List Cue). l ++ timed_in_slots c cue ∷ []) (reverse_in_slots c cues)
    ∙ sym (map-append (timed_in_slots c) (reverse cues) (cue ∷ []))
    ∙ ap (cues_in_slots c) (sym (reverse-append (cue ∷ []) cues))

-- the chain of a cue in slots is that in frames
still_none : (c : Cadence) (hide : Option ℕ) → is_none (option_map (slot_from c) hide) ≡ is_none hide
still_none c None = refl
still_none c (Some h) = refl

chain_in_slots : (c : Cadence) (cue : Cue) (earlier : List Cue) → chain_of (timed_in_slots c cue) (cues_in_slots c earlier) ≡ cues_in_slots c (chain_of cue earlier)
chain_in_slots c cue [] = refl
chain_in_slots c cue (former ∷ earlier) =
    rw (still_none c former.hide) (by_test (continues cue former) (chain_in_slots c former earlier))
  where
    by_test : (b : Bool) → chain_of (timed_in_slots c former) (cues_in_slots c earlier) ≡ cues_in_slots c (chain_of former earlier)
        → timed_in_slots c cue ∷ (if b then chain_of (timed_in_slots c former) (cues_in_slots c earlier) else [])
        ≡ cues_in_slots c (cue ∷ (if b then chain_of former earlier else []))
    by_test true rest = ap (λ (l : List Cue). timed_in_slots c cue ∷ l) rest
    by_test false rest = refl

-- cues that are loaded after a lost frame are so in slots
loaded_in_slots : (c : Cadence) (g n : ℕ) (cues : List Cue) → AllByRecursion (λ (cue : Cue). g < cue.load) (take n cues)
    → AllByRecursion (λ (cue : Cue). slot_from c (suc g) ≤ cue.load) (take n (cues_in_slots c cues))
loaded_in_slots c g zero cues loaded = tt
loaded_in_slots c g (suc n) [] loaded = tt
loaded_in_slots c g (suc n) (cue ∷ cues) loaded =
    let low : g < cue.load = loaded.0 in
    (slots_rise c (suc g) cue.load (omega arith), loaded_in_slots c g n cues loaded.1)

module _ (list : Listing) (channel : Chan) (placed : List ℕ) (formed : IsFormed list) (ruled : IsRuled list)
    (earliest : IsChannelPlaced channel (slot_cues list channel) placed) where
  abbrev c : Cadence
  c = cadence_of list.rate channel

  abbrev t : Timeline
  t = channel_timeline list channel placed

  abbrev all : List Cue
  all = cues_on channel (slot_cues list channel)

  captions : AllByRecursion IsCaption all
  captions = recursion_from_All IsCaption all (captions_are channel (slot_cues list channel) (slot_cues_formed list formed channel))

  sequence : AreInSequence 1 (slots_in_list list channel) all
  sequence =
      in_sequence (slots_in_list list channel) all (slot_sequence list ruled channel)
      (cues_loaded all (channel_chunks channel (slot_cues list channel)) (lines_are all captions)
      (chunks_are channel 1 (slot_cues list channel))
      (all_have_time (channel_events channel (slot_cues list channel)) 0 (channel_chunks channel (slot_cues list channel)) placed
      (placed_from (channel_events channel (slot_cues list channel)) [] 0 (channel_chunks channel (slot_cues list channel)) placed (omega arith) earliest.placed)))

  -- each cue is found, after those before it, which stand newest first
  found_at : (cue : Cue) (earlier later : List Cue) → reverse earlier ++ cue ∷ later ≡ all
      → IsFound (field_of_channel channel) t (slots_in_list list channel) cue later earlier
  found_at cue earlier later stands =
      let parts : all ≡ reverse earlier ++ cue ∷ later = sym stands in
      subst (IsFound (field_of_channel channel) t (slots_in_list list channel) cue later) (newest_back earlier)
      (find (field_of_channel channel) t (channel_captioned list channel placed formed ruled earliest) (slots_in_list list channel) 0 0 None empty_grid (reverse earlier) cue later []
      (subst (AllByRecursion IsCaption) parts captions)
      (subst (AreInSequence 1 (slots_in_list list channel)) parts sequence)
      (any_begin (reverse earlier ++ cue ∷ later)) tt
      (subst (Continues (field_of_channel channel) t 0 None) parts (begins channel (slot_cues list channel) placed earliest.placed))
      (empty_first t) (omega arith) tt (λ none. refl)
      (λ m u below near there twice opens. absurd (omega arith)))

  firsts : (n : ℕ) → IsForFirst (code_of (slot t n))
  firsts n =
      slots_all IsFirstPair written_first (slot_cues list channel) channel placed (slot_cues_formed list formed channel) (subst IsForFirst (sym null_code) tt) n

  -- a cue of the channel and those before and after it, in slots
  stands_in_slots : (cue : Cue) (front behind : List Cue) → cues_on channel list.cues ≡ front ++ cue ∷ behind
      → reverse (cues_in_slots c (reverse front)) ++ timed_in_slots c cue ∷ cues_in_slots c behind ≡ all
  stands_in_slots cue front behind is =
      ap (λ (l : List Cue). l ++ timed_in_slots c cue ∷ cues_in_slots c behind) (reverse_in_slots c (reverse front) ∙ ap (cues_in_slots c) (reverse-reverse front))
      ∙ sym (cues_on_slots c channel list.cues ∙ ap (cues_in_slots c) is ∙ map-append (timed_in_slots c) front (cue ∷ behind))

  on_slot : (cue : Cue) (front behind : List Cue) → cues_on channel list.cues ≡ front ++ cue ∷ behind → IsOnSlots c cue
  on_slot cue front behind is =
      (all_behind (IsOnSlots c) front (cue ∷ behind)
      (subst (AllByRecursion (IsOnSlots c)) is (recursion_from_All (IsOnSlots c) (cues_on channel list.cues) ((lanes_ruled list ruled).on_slots channel)))).0

  -- so the channel is shown again
  shown_in_frames : (g : ℕ) (cue : Cue) → Resynchronises channel list.cues g cue → (f : ℕ) → cue.show ≤ f → (m : ℕ) → slot_from c (suc f) ≡ m
      → (k : ℕ) → slot_from c (suc g) + k ≡ m → IsSettled channel list.cues f
      → (after (field_of_channel channel) (pairs_from (slot t) (slot_from c (suc g)) k)).first.displayed ≡ authored_grid channel list.cues f
  shown_in_frames g cue again f above zero come k is settled =
      let low : slot_from c cue.show < 0 = slot_has_come c f 0 come cue.show (on_slot cue again.earlier again.later again.stands).show above in absurd (omega arith)
  shown_in_frames g cue again f above (suc n) come k is settled =
      let shown : slot_from c cue.show < suc n = slot_has_come c f (suc n) come cue.show (on_slot cue again.earlier again.later again.stands).show above in
      let loaded : AllByRecursion (λ (seen : Cue). slot_from c (suc g) ≤ seen.load) (seen_with (timed_in_slots c cue) (cues_in_slots c (reverse again.earlier))) =
      subst (λ (chain : List Cue). AllByRecursion (λ (seen : Cue). slot_from c (suc g) ≤ seen.load) (take (rows_of cue.kind) chain))
      (sym (chain_in_slots c cue (reverse again.earlier))) (loaded_in_slots c g (rows_of cue.kind) (chain_of cue (reverse again.earlier)) again.loaded) in
      back_shown (field_of_channel channel) t (channel_captioned list channel placed formed ruled earliest) firsts (slots_in_list list channel) all found_at
      (slot_from c (suc g)) (timed_in_slots c cue) (cues_in_slots c (reverse again.earlier)) (cues_in_slots c again.later)
      (stands_in_slots cue again.earlier again.later again.stands) loaded n k is (omega arith)
      (settled_in_slots c f n come channel list.cues ((lanes_ruled list ruled).on_slots channel) settled)
      ∙ authored_is channel (slot_cues list channel) n
      ∙ grid_in_slots c f n come channel list.cues ((lanes_ruled list ruled).on_slots channel)

  -- without cues nothing begins
  nothing : (chunks : List FieldChunk) (slots : List ℕ) (n : ℕ) → chunks ≡ [] → stands chunks slots n ≡ None
  nothing [] slots n are = refl
  nothing (chunk ∷ chunks) slots n are = cc

  none_begins : cues_on channel list.cues ≡ [] → (n : ℕ) → t n ≡ None
  none_begins none n =
      let on : Continues (field_of_channel channel) t 0 None [] =
      subst (Continues (field_of_channel channel) t 0 None) (cues_on_slots c channel list.cues ∙ ap (cues_in_slots c) none)
      (begins channel (slot_cues list channel) placed earliest.placed) in
      on.same n (omega arith) ∙ nothing on.chunks on.frames n on.are

  -- so nothing is shown
  blank_in_slots : cues_on channel list.cues ≡ [] → (in_field : FieldNumber) (a k : ℕ) → (after in_field (pairs_from (slot t) a k)).first.displayed ≡ blank
  blank_in_slots none in_field a k =
      ap (λ s. s.first.displayed) (heard_read in_field (slot t) a firsts k (a + k) refl)
      ∙ idle_on (slot t) a k a (a + k) refl (omega arith) (λ i up below. inl (null_there i)) (ap (λ (s : ChannelState). s.displayed) (heard_new (slot t) a a (omega arith)))
    where
      due : (i : ℕ) → repeat_at t i ≡ None
      due zero = refl
      due (suc i) = ap repeat_of (none_begins none i)

      null_there : (i : ℕ) → code_of (slot t i) ≡ Null
      null_there i = ap code_of (slot_is t i None None (due i) (none_begins none i)) ∙ null_code

  -- the state of a field of which the channel is the first one
  state_is : (columns : Columns) (in_field : FieldNumber) → ((n : ℕ) → first_pairs in_field columns n ≡ column t (slot_from c n))
      → (since count k : ℕ) → slot_from c since + k ≡ slot_from c (since + count)
      → state_from in_field columns since count ≡ after in_field (pairs_from (slot t) (slot_from c since) k)
  state_is columns in_field are since count k is = ap (after in_field) (pairs_are in_field columns c t are since count k is)

  field_again : (columns : Columns) (in_field : FieldNumber) → field_of_channel channel ≡ in_field
      → ((n : ℕ) → first_pairs in_field columns n ≡ column t (slot_from c n))
      → (g : ℕ) (cue : Cue) → Resynchronises channel list.cues g cue → (count f : ℕ) → suc g + count ≡ suc f → cue.show ≤ f → IsSettled channel list.cues f
      → (state_from in_field columns (suc g) count).first.displayed ≡ authored_grid channel list.cues f
  field_again columns in_field of_field are g cue again count f is above settled =
      let m : ℕ = slot_from c (suc f) in
      let a : ℕ = slot_from c (suc g) in
      let rise : a ≤ m = slots_rise c (suc g) (suc f) (omega arith) in
      let counts : a + (m - a) ≡ m = omega arith in
      let to : slot_from c (suc g + count) ≡ m = ap (slot_from c) is in
      ap (λ s. s.first.displayed) (state_is columns in_field are (suc g) count (m - a) (counts ∙ sym to))
      ∙ ap (λ x. (after x (pairs_from (slot t) a (m - a))).first.displayed) (sym of_field)
      ∙ shown_in_frames g cue again f above m refl (m - a) counts settled

  -- its other channel, and it itself without cues
  field_other : (columns : Columns) (in_field : FieldNumber) → ((n : ℕ) → first_pairs in_field columns n ≡ column t (slot_from c n))
      → (since count : ℕ)
      → ((state_from in_field columns since count).second.displayed ≡ blank)
      × (cues_on channel list.cues ≡ [] → (state_from in_field columns since count).first.displayed ≡ blank)
  field_other columns in_field are since count =
      let m : ℕ = slot_from c (since + count) in
      let a : ℕ = slot_from c since in
      let rise : a ≤ m = slots_rise c since (since + count) (omega arith) in
      let state : state_from in_field columns since count ≡ after in_field (pairs_from (slot t) a (m - a)) =
      state_is columns in_field are since count (m - a) (omega arith) in (
        ap (λ s. s.second.displayed) (state ∙ heard_read in_field (slot t) a firsts (m - a) (a + (m - a)) refl),
        λ none. ap (λ s. s.first.displayed) state ∙ blank_in_slots none in_field a (m - a),
      )

pub seen_again : AuthoredIsSeenAgain
seen_again list placed formed ruled is One g count frame cue counts again above settled =
    field_again list Cc1 (placed (Channel Cc1)) formed ruled (is (Channel Cc1)) (columns_of list placed) One refl (field_one_is list placed) g cue again count frame counts above settled
seen_again list placed formed ruled is Two g count frame cue counts again above settled =
    field_again list Cc3 (placed (Channel Cc3)) formed ruled (is (Channel Cc3)) (columns_of list placed) Two refl (field_two_is list placed) g cue again count frame counts above settled

pub silent_blank : SilentIsBlank
silent_blank list placed formed ruled is One since count =
    let both = field_other list Cc1 (placed (Channel Cc1)) formed ruled (is (Channel Cc1)) (columns_of list placed) One (field_one_is list placed) since count in
    record { other = both.0; own = both.1 }
silent_blank list placed formed ruled is Two since count =
    let both = field_other list Cc3 (placed (Channel Cc3)) formed ruled (is (Channel Cc3)) (columns_of list placed) Two (field_two_is list placed) since count in
    record { other = both.0; own = both.1 }
