-- The frames of a cue list with packets in the slots that its captions leave free.
use Rattle.std.proofs.Common.{◌≡◌, ℕ, zero, suc, Bool, List, [], ◌∷◌, ◌++◌, length, map, reverse, Option, Some, None, option_map, option_to_list, unwrap_or, refl, sym, ap, ◌∙◌, subst}
use Rattle.std.specs.Prelude.{All, IfSome, is_some}
use Rattle.std.specs.Option.{option_or, option_map_or}
use Rattle.line21_codes.specs.declared.channels.FieldNumber.TheVariants.{Two}
use Rattle.line21_codes.specs.Writing.{pair_of_code}
use Rattle.std.proofs.lemmas.List.{map-append}
use Rattle.cue_lists.specs.Listing.{Listing}
use Rattle.cue_lists.specs.declared.lane.Lane.TheVariants.{Channel, Service}
use Rattle.line21_author.specs.CueEvents.{channel_events}
use Rattle.line21_author.specs.declared.unit.Unit.{Unit}
use Rattle.line21_codes.proofs.CodeLemmas.{written-a, written-b, written-code_of}
use Rattle.line21_codes.specs.Channels.{data_channel_of}
use Rattle.line21_codes.specs.NullPairs.{null_pair}
use Rattle.line21_codes.specs.Reading.{code_of}
use Rattle.line21_codes.specs.declared.channels.Chan.TheVariants.{Cc1, Cc2, Cc3, Cc4}
use Rattle.line21_codes.specs.declared.channels.DataChannel.{DataChannel}
use Rattle.line21_codes.specs.declared.channels.DataChannel.TheVariants as data_channels
use Rattle.line21_codes.specs.declared.channels.FieldNumber.{FieldNumber}
use Rattle.line21_codes.specs.declared.channels.FieldNumber.TheVariants as fields
use Rattle.line21_codes.specs.declared.codes.Code.{Code}
use Rattle.line21_codes.specs.declared.pairs.Pair.{Pair}
use Rattle.line21_screen.specs.Channels.{ChannelState, new_channel}
use Rattle.line21_screen.specs.Fields.{FieldState, channel}
use Rattle.line21_screen.specs.Meaning.{after}
use Rattle.cue_lists.specs.Cadences.{cadence_of, slot_from, slot_in}
use Rattle.dual_fields.proofs.CaptionedLemmas.{AreBytes, channel_captioned, frame_bytes}
use Rattle.dual_fields.proofs.ReadingLemmas.{columns_read}
use Rattle.dual_fields.proofs.SequenceLemmas.{newest_pairs}
use Rattle.dual_fields.specs.Reading.{IsCaptioned, IsMarked, acts, first_alone, pairs_before}
use Rattle.dual_fields.specs.Shown.{state_at}
use Rattle.frame_carrier.specs.Carried.{AreBytePairs, IsBytePair}
use Rattle.lanes.specs.ChannelLane.{channel_chunks, channel_slot}
use Rattle.frame_carrier.specs.Columns.{first_pairs, pair_in}
use Rattle.lanes.specs.DoubledPairs.{IsDoubled}
use Rattle.frame_carrier.specs.Planned.{Placement, columns_of}
use Rattle.frame_carrier.specs.SlotLists.{slot_cues, slots_in_list}
use Rattle.lanes.specs.Timeline.{Timeline, column, over, repeat_at, repeat_of, slot}
use Rattle.lanes.proofs.ColumnLemmas.{column_doubled}
use Rattle.lanes.proofs.DoublingLemmas.{lane_ended}
use Rattle.frame_carrier.proofs.ListDoublingLemmas.{channel_ended, columns_doubled, field_two_is, pairs_column}
use Rattle.services_shown.specs.OtherPairs.{AreFitAlike, HaveOtherPairs}
use Rattle.services_shown.proofs.OtherPairsLemmas.{other_pairs}
use Rattle.services_shown.proofs.PlacedBlocksLemmas.{placed_fit}
use Rattle.services_shown.proofs.SoundLemmas.{fit_sound}
use Rattle.xds_frames.proofs.BesideLemmas.{captions_beside, none_due_in}
use Rattle.xds_frames.proofs.FreeLemmas.{captions_leave_free}
use Rattle.xds_frames.proofs.OutsideLemmas.{data_marked, data_nothing}
use Rattle.xds_frames.proofs.PacketLemmas.{codes_written, given_free, packets_outside}
use Rattle.xds_frames.specs.Beside.{caption_codes}
use Rattle.xds_frames.specs.FreeSlots.{captions_of, frame_of_slot, free_in}
use Rattle.xds_frames.specs.Outside.{AreOutside}
use Rattle.xds_frames.specs.PacketTimeline.{LeaveFree, packet_timeline, packet_unit}
use Rattle.xds_frames.specs.XdsFrames.{AreFitBeside, AreSendable, HasXdsRoom, IsSoundBeside, PacketsAreRead, PacketsChangeNothing, PacketsLeaveFramesSound, ShowTheSame, xds_columns, xds_pair}
use Rattle.xds_packets.proofs.PlacesLemmas.{over_where_all_stand}
use Rattle.xds_packets.proofs.UnfinishedLemmas.{unfinished_is_first}
use Rattle.xds_packets.specs.PacketCodes.{IsXdsPacket}
use Rattle.xds_packets.specs.Places.{given_at}
use Rattle.xds_packets.specs.Reading.{packets_behind, packets_within}
use Rattle.xds_packets.specs.Carried.{ReadsUpTo}
use Rattle.xds_packets.specs.Sending.{Listed, code_or, codes_to, packets_left, unended, unfinished, first_of as first_number, writing_at}

-- a slot's pair, by what is due and what begins
abbrev pair_by : Option Pair → Option Unit → Pair
pair_by due begins = unwrap_or (option_or due (option_map (λ (unit : Unit). unit.pair) begins)) null_pair

or_nothing : (u : Option Unit) → option_or u None ≡ u
or_nothing None = refl
or_nothing (Some x) = refl

map_same : {A : Type 0} (f g : ℕ → A) → ((n : ℕ) → f n ≡ g n) → (o : Option ℕ) → option_map f o ≡ option_map g o
map_same f g same None = refl
map_same f g same (Some n) = ap (λ x. Some x) (same n)

-- the pairs of captions and packets, where the captions leave the slots free
module _ (captions : Timeline) (free : ℕ → Bool) (frame_of : ℕ → ℕ) (listed : List Listed) (leave : LeaveFree captions free) (are : All (λ (l : Listed). IsXdsPacket l.packet) listed) where
  abbrev packets : Timeline
  packets = packet_timeline free frame_of listed

  single : (o : Option Code) → repeat_of (option_map packet_unit o) ≡ None
  single None = refl
  single (Some code) = refl

  -- what is due is what is due of the captions
  due_over : (m : ℕ) (u : Option Unit) → captions m ≡ u → repeat_of (over captions packets m) ≡ repeat_of (captions m)
  due_over m (Some unit) is = rw is refl
  due_over m None is = rw is (single (given_at free frame_of listed m))

  due_same : (n : ℕ) → repeat_at (over captions packets) n ≡ repeat_at captions n
  due_same zero = refl
  due_same (suc n) = due_over n (captions n) refl

  -- the pair of each slot
  pair_given : (n : ℕ) (given : Option Code) → given_at free frame_of listed n ≡ given → slot (over captions packets) n ≡ option_map_or (pair_of_code Two) given (slot captions n)
  pair_given n None is =
      ap (λ r. pair_by r (over captions packets n)) (due_same n)
      ∙ ap (λ o. pair_by (repeat_at captions n) (option_or (captions n) (option_map packet_unit o))) is
      ∙ ap (λ u. pair_by (repeat_at captions n) u) (or_nothing (captions n))
  pair_given n (Some code) is =
      let here = given_free captions free frame_of listed leave are n code is in
      ap (λ r. pair_by r (over captions packets n)) (due_same n ∙ none_due_in captions free leave n here)
      ∙ ap (λ u. pair_by None (option_or u (packets n))) (leave.nothing n here)
      ∙ ap (λ o. pair_by None (option_map packet_unit o)) is

  -- and its code
  code_given : (n : ℕ) (given : Option Code) → given_at free frame_of listed n ≡ given → code_of (slot (over captions packets) n) ≡ code_or given (caption_codes captions n)
  code_given n None is = ap code_of (pair_given n None is)
  code_given n (Some code) is = ap code_of (pair_given n (Some code) is) ∙ written-code_of fields.Two code (codes_written captions free frame_of listed leave are n code is)

  codes_are : (n : ℕ) → map code_of (column (over captions packets) n) ≡ codes_to free frame_of (caption_codes captions) listed n
  codes_are zero = refl
  codes_are (suc n) =
      map-append code_of (column (over captions packets) n) (slot (over captions packets) n ∷ [])
      ∙ ap (λ l. l ++ code_of (slot (over captions packets) n) ∷ []) (codes_are n)
      ∙ ap (λ c. codes_to free frame_of (caption_codes captions) listed n ++ c ∷ []) (code_given n (given_at free frame_of listed n) refl)

  outside : AreOutside captions packets
  outside = packets_outside captions free frame_of listed leave are

-- a placed list, and packets in its free slots
module _ (list : Listing) (placed : Placement) (listed : List Listed) (are : AreSendable list placed listed) where
  leave : LeaveFree (captions_of list (placed (Channel Cc3))) (free_in list (placed (Channel Cc3)))
  leave = captions_leave_free list (placed (Channel Cc3)) are.formed are.ruled (are.placed_is (Channel Cc3))

  abbrev t : Timeline
  t = over (captions_of list (placed (Channel Cc3))) (packet_timeline (free_in list (placed (Channel Cc3))) (frame_of_slot list) listed)

  pair_is : (n : ℕ) → xds_pair list (placed (Channel Cc3)) listed n ≡ slot t n
  pair_is n =
      sym (pair_given (captions_of list (placed (Channel Cc3))) (free_in list (placed (Channel Cc3))) (frame_of_slot list) listed leave are.packets n
      (given_at (free_in list (placed (Channel Cc3))) (frame_of_slot list) listed n) refl)

  have : (frame : ℕ) → pair_in fields.Two (xds_columns list placed listed frame) ≡ option_map (slot t) (slot_in (cadence_of list.rate Cc3) frame)
  have frame = map_same (xds_pair list (placed (Channel Cc3)) listed) (slot t) pair_is (slot_in (cadence_of list.rate Cc3) frame)

  pairs_two : (n : ℕ) → first_pairs fields.Two (xds_columns list placed listed) n ≡ column t (slot_from (cadence_of list.rate Cc3) n)
  pairs_two n = pairs_column (cadence_of list.rate Cc3) t fields.Two (xds_columns list placed listed) have n

  pairs_one : (n : ℕ) → first_pairs fields.One (xds_columns list placed listed) n ≡ first_pairs fields.One (columns_of list placed) n
  pairs_one zero = refl
  pairs_one (suc n) = ap (λ l. l ++ option_to_list (pair_in fields.One (columns_of list placed n))) (pairs_one n)

  captioned : IsCaptioned (captions_of list (placed (Channel Cc3)))
  captioned = channel_captioned list Cc3 (placed (Channel Cc3)) are.formed are.ruled (are.placed_is (Channel Cc3))

  -- the states of the fields
  state_one : (frame : ℕ) → state_at fields.One (xds_columns list placed listed) frame ≡ state_at fields.One (columns_of list placed) frame
  state_one frame = ap (λ l. after fields.One (reverse l)) (pairs_one (suc frame))

  state_two : (frame : ℕ) → state_at fields.Two (xds_columns list placed listed) frame ≡ after fields.Two (pairs_before (slot t) (slot_from (cadence_of list.rate Cc3) (suc frame)))
  state_two frame =
      ap (λ l. after fields.Two (reverse l)) (pairs_two (suc frame)) ∙ ap (after fields.Two) (newest_pairs t (slot_from (cadence_of list.rate Cc3) (suc frame)))

  state_alone : (frame : ℕ) → state_at fields.Two (columns_of list placed) frame ≡ first_alone (acts (captions_of list (placed (Channel Cc3))) (slot_from (cadence_of list.rate Cc3) (suc frame)))
  state_alone frame =
      let c = captions_of list (placed (Channel Cc3)) in
      let m = slot_from (cadence_of list.rate Cc3) (suc frame) in
      ap (λ l. after fields.Two (reverse l)) (field_two_is list placed (suc frame)) ∙ ap (after fields.Two) (newest_pairs c m)
      ∙ columns_read fields.Two c captioned m

  same_channel : (d : DataChannel) (frame : ℕ)
      → channel d (state_at fields.Two (xds_columns list placed listed) frame) ≡ channel d (state_at fields.Two (columns_of list placed) frame)
  same_channel d frame =
      let m = slot_from (cadence_of list.rate Cc3) (suc frame) in
      let idle = data_nothing (captions_of list (placed (Channel Cc3))) (packet_timeline (free_in list (placed (Channel Cc3))) (frame_of_slot list) listed)
      (outside (captions_of list (placed (Channel Cc3))) (free_in list (placed (Channel Cc3))) (frame_of_slot list) listed leave are.packets) m in
      ap (channel d) (state_two frame) ∙ by_channel d idle.first idle.second ∙ ap (channel d) (sym (state_alone frame))
    where
      by_channel : (e : DataChannel)
          → channel data_channels.One (after fields.Two (pairs_before (slot t) (slot_from (cadence_of list.rate Cc3) (suc frame)))) ≡ acts (captions_of list (placed (Channel Cc3))) (slot_from (cadence_of list.rate Cc3) (suc frame))
          → channel data_channels.Two (after fields.Two (pairs_before (slot t) (slot_from (cadence_of list.rate Cc3) (suc frame)))) ≡ new_channel
          → channel e (after fields.Two (pairs_before (slot t) (slot_from (cadence_of list.rate Cc3) (suc frame))))
          ≡ channel e (first_alone (acts (captions_of list (placed (Channel Cc3))) (slot_from (cadence_of list.rate Cc3) (suc frame))))
      by_channel data_channels.One first second = first
      by_channel data_channels.Two first second = second

  shown : ShowTheSame list placed listed
  shown frame Cc1 = ap (λ (s : FieldState). (channel (data_channel_of Cc1) s).displayed) (state_one frame)
  shown frame Cc2 = ap (λ (s : FieldState). (channel (data_channel_of Cc2) s).displayed) (state_one frame)
  shown frame Cc3 = ap (λ (s : ChannelState). s.displayed) (same_channel (data_channel_of Cc3) frame)
  shown frame Cc4 = ap (λ (s : ChannelState). s.displayed) (same_channel (data_channel_of Cc4) frame)

  -- the pairs are doubled, and of bytes
  marked : IsMarked t
  marked = data_marked (captions_of list (placed (Channel Cc3))) (packet_timeline (free_in list (placed (Channel Cc3))) (frame_of_slot list) listed)
      (outside (captions_of list (placed (Channel Cc3))) (free_in list (placed (Channel Cc3))) (frame_of_slot list) listed leave are.packets)

  none_left : repeat_at t (slots_in_list list Cc3) ≡ None
  none_left =
      due_same (captions_of list (placed (Channel Cc3))) (free_in list (placed (Channel Cc3))) (frame_of_slot list) listed leave are.packets (slots_in_list list Cc3)
      ∙ lane_ended (channel_events Cc3 (slot_cues list Cc3)) (channel_chunks Cc3 (slot_cues list Cc3)) (placed (Channel Cc3)) (slots_in_list list Cc3)
      (channel_ended list Cc3 are.formed are.ruled) (are.placed_is (Channel Cc3)).placed

  doubled : (in_field : FieldNumber) → IsDoubled (first_pairs in_field (xds_columns list placed listed) list.frames)
  doubled fields.One = subst IsDoubled (sym (pairs_one list.frames)) (columns_doubled list placed are.formed are.ruled are.placed_is fields.One)
  doubled fields.Two = subst IsDoubled (sym (pairs_two list.frames)) (column_doubled t marked.marked marked.spaced (slots_in_list list Cc3) none_left)

  of_bytes : (o : Option Pair) → IfSome o AreBytes → IfSome o IsBytePair
  of_bytes None bytes = tt
  of_bytes (Some pair) bytes = record { a = bytes.0; b = bytes.1 }

  caption_bytes : (frame n : ℕ) → slot_in (cadence_of list.rate Cc3) frame ≡ Some n → IsBytePair (channel_slot Cc3 (slot_cues list Cc3) (placed (Channel Cc3)) n)
  caption_bytes frame n is =
      let all = frame_bytes list Cc3 (placed (Channel Cc3)) are.formed.cues frame in
      let own = subst (λ o. IfSome (option_map (channel_slot Cc3 (slot_cues list Cc3) (placed (Channel Cc3))) o) AreBytes) is all in
      record { a = own.0; b = own.1 }

  laid_bytes : (n : ℕ) (given : Option Code) → given_at (free_in list (placed (Channel Cc3))) (frame_of_slot list) listed n ≡ given
      → IsBytePair (channel_slot Cc3 (slot_cues list Cc3) (placed (Channel Cc3)) n) → IsBytePair (option_map_or (pair_of_code Two) given (channel_slot Cc3 (slot_cues list Cc3) (placed (Channel Cc3)) n))
  laid_bytes n None is own = own
  laid_bytes n (Some code) is own =
      let can = codes_written (captions_of list (placed (Channel Cc3))) (free_in list (placed (Channel Cc3))) (frame_of_slot list) listed leave are.packets n code is in
      record { a = written-a fields.Two code can; b = written-b fields.Two code can }

  bytes : AreBytePairs (xds_columns list placed listed)
  bytes fields.One frame = of_bytes (pair_in fields.One (columns_of list placed frame)) (frame_bytes list Cc1 (placed (Channel Cc1)) are.formed.cues frame)
  bytes fields.Two frame = by_slot (slot_in (cadence_of list.rate Cc3) frame) refl
    where
      by_slot : (o : Option ℕ) → slot_in (cadence_of list.rate Cc3) frame ≡ o → IfSome (option_map (xds_pair list (placed (Channel Cc3)) listed) o) IsBytePair
      by_slot None is = tt
      by_slot (Some n) is = laid_bytes n (given_at (free_in list (placed (Channel Cc3))) (frame_of_slot list) listed n) refl (caption_bytes frame n is)

  fit_beside : AreFitBeside list placed listed
  fit_beside = record { pairs = record { doubled = doubled; pairs = bytes }; shown = shown }

  -- the blocks are those without the packets
  some_same : (f g : ℕ → Pair) (o : Option ℕ) → is_some (option_map f o) ≡ is_some (option_map g o)
  some_same f g None = refl
  some_same f g (Some n) = refl

  other_pairs_are : HaveOtherPairs (columns_of list placed) (xds_columns list placed listed)
  other_pairs_are = record {
    blocks = λ frame. refl;
    one = λ frame. refl;
    two = λ frame.
        some_same (xds_pair list (placed (Channel Cc3)) listed) (channel_slot Cc3 (slot_cues list Cc3) (placed (Channel Cc3))) (slot_in (cadence_of list.rate Cc3) frame);
  }

  alike : AreFitAlike list.rate list.frames (columns_of list placed) (xds_columns list placed listed)
  alike =
      other_pairs list.rate list.frames (columns_of list placed) (xds_columns list placed listed) other_pairs_are
      (placed_fit list placed are.formed are.ruled (λ service. are.placed_is (Service service))).fit

  sound_beside : IsSoundBeside list placed listed
  sound_beside = record {
    sound = fit_sound list.rate list.frames (xds_columns list placed listed) fit_beside.pairs alike.fit;
    alike = alike;
  }

  -- the packets are read
  none_unended : (codes : List Code) (left : List Listed) → codes ≡ [] → left ≡ [] → first_number (length listed) (unended codes left) ≡ None
  none_unended codes left none over = rw (none, over) refl

  are_read : HasXdsRoom list placed listed → packets_within (first_pairs fields.Two (xds_columns list placed listed) list.frames) ≡ packets_left listed
  are_read room =
      let free = free_in list (placed (Channel Cc3)) in
      let captions = captions_of list (placed (Channel Cc3)) in
      let m = slots_in_list list Cc3 in
      let over_now = (over_where_all_stand free (frame_of_slot list) listed m).0 room in
      let none : unfinished (length listed) (writing_at free (frame_of_slot list) listed m) ≡ None =
      none_unended (writing_at free (frame_of_slot list) listed m).codes (writing_at free (frame_of_slot list) listed m).left over_now.0 over_now.1 in
      let read = unfinished_is_first free (frame_of_slot list) (caption_codes captions) listed (captions_beside captions free leave) are.packets m in
      ap (λ l. packets_behind [] (map code_of l)) (pairs_two list.frames)
      ∙ ap (packets_behind []) (codes_are captions free (frame_of_slot list) listed leave are.packets m)
      ∙ subst (ReadsUpTo (packets_left listed) (packets_behind [] (codes_to free (frame_of_slot list) (caption_codes captions) listed m))) none read

pub packets_change_nothing : PacketsChangeNothing
packets_change_nothing list placed listed are = fit_beside list placed listed are

pub packets_leave_sound : PacketsLeaveFramesSound
packets_leave_sound list placed listed are = sound_beside list placed listed are

pub packets_are_read : PacketsAreRead
packets_are_read list placed listed are room = are_read list placed listed are room
