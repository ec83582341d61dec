-- The frames of a placed list below one from which on all further cues are loaded, and their words.
use Rattle.std.proofs.Common.{◌≡◌, ◌∙◌, ℕ, suc, zero, ◌+◌, ◌-◌, ◌<◌, ◌≤◌, Bool, true, false, List, [], ◌∷◌, ◌++◌, refl, sym, ap, subst, arith, append_assoc}
use Rattle.std.specs.Prelude.{IfSome, Option, Some, None, if◌then◌else◌}
use Rattle.std.specs.Option.{option_map}
use Rattle.std.specs.List.{AllByRecursion, flat_map}
use Rattle.std.proofs.lemmas.List.{map-append}
use Rattle.std.proofs.lemmas.List.Elements.{filter-append, recursion_from_All}
use Rattle.cc_base.specs.declared.rate.Rate.{Rate}
use Rattle.line21_codes.specs.declared.channels.Chan.{Chan}
use Rattle.line21_codes.specs.declared.channels.Chan.TheVariants.{Cc1, Cc3}
use Rattle.line21_codes.specs.declared.pairs.Pair.{Pair}
use Rattle.cue_lists.specs.Cadences.{cadence_of, has_slot_in, slot_from}
use Rattle.cue_lists.specs.Cadence.{Cadence}
use Rattle.cue_lists.proofs.CadenceLemmas.{slot_before, slots_rise}
use Rattle.cue_lists.specs.Channels.{cues_on, is_on}
use Rattle.cue_lists.specs.Listing.{IsFormed, Listing}
use Rattle.cue_lists.specs.Rules.{IsRuled}
use Rattle.cue_lists.specs.declared.cue.Cue.{Cue}
use Rattle.cue_lists.specs.declared.lane.Lane.TheVariants.{Channel, Service}
use Rattle.lanes.specs.CueSlots.{cues_in_slots, timed_in_slots}
use Rattle.lanes.proofs.SlotSequenceLemmas.{IsSoundInSlots, all_sound_in_slots}
use Rattle.lanes.proofs.CaptionsKept.{captions_kept}
use Rattle.lanes.specs.ChannelLane.{IsChannelPlaced, channel_slot}
use Rattle.frame_carrier.specs.Blocks.{service_block}
use Rattle.frame_carrier.specs.Columns.{Columns}
use Rattle.frame_carrier.specs.Planned.{IsLanePlaced, IsListPlaced, Placement, channel_pair, columns_of, frame_blocks, service_bytes, services, share_in}
use Rattle.frame_carrier.specs.SlotLists.{slot_cues, slots_in_list}
use Rattle.frame_carrier.specs.FrameBytes.{FrameBytes}
use Rattle.frame_carrier.proofs.SlotLemmas.{slot_sequence}
use Rattle.frame_carrier.specs.Carrying.{channel_packet, channel_packet_of, column_bytes, frame_bytes, packet_count, packets_before}
use Rattle.live_frames.specs.Longer.{FrameFrontIsKept, WordFrontIsKept, WordsShareFront, longer}
use Rattle.live_frames.proofs.FieldFronts.{slots_kept}
use Rattle.live_frames.proofs.FrontsLemmas.{all_after}
use Rattle.live_frames.proofs.ServiceFronts.{bytes_kept}

-- cues that are loaded from a frame on are loaded from its slot on
loaded_in_slots : (c : Cadence) (n : ℕ) (cues : List Cue) → AllByRecursion (λ (cue : Cue). n ≤ cue.load) cues
    → AllByRecursion (λ (cue : Cue). slot_from c n ≤ cue.load) (cues_in_slots c cues)
loaded_in_slots c n [] loaded = tt
loaded_in_slots c n (cue ∷ cues) loaded = (slots_rise c n cue.load loaded.0, loaded_in_slots c n cues loaded.1)

-- the HIDE of sound cues
hidden_of : (slots : ℕ) (cues : List Cue) → AllByRecursion (IsSoundInSlots slots) cues → AllByRecursion (λ (cue : Cue). IfSome cue.hide (λ hide. cue.show < hide)) cues
hidden_of slots [] sound = tt
hidden_of slots (cue ∷ cues) sound = (sound.0.hidden, hidden_of slots cues sound.1)

module _ (list : Listing) (frames : ℕ) (more : List Cue) (n : ℕ) (formed : IsFormed (longer list frames more)) (ruled : IsRuled (longer list frames more))
    (loaded : AllByRecursion (λ (cue : Cue). n ≤ cue.load) more) where
  -- the pair of a channel
  module _ (channel : Chan) (slots moved : List ℕ) (placed : IsChannelPlaced channel (slot_cues list channel) slots)
      (other : IsChannelPlaced channel (slot_cues (longer list frames more) channel) moved) where
    c : Cadence
    c = cadence_of list.rate channel

    joined : slot_cues (longer list frames more) channel ≡ slot_cues list channel ++ cues_in_slots c more
    unfolding c
    joined = map-append (timed_in_slots c) list.cues more

    hidden : AllByRecursion (λ (cue : Cue). IfSome cue.hide (λ hide. cue.show < hide)) (cues_on channel (cues_in_slots c more))
    hidden =
        let l = longer list frames more in
        let on = ap (λ (cues : List Cue). cues_on channel cues) joined ∙ filter-append (λ (cue : Cue). is_on channel cue.kind) (slot_cues list channel) (cues_in_slots c more) in
        let sound = subst (λ (cues : List Cue). AllByRecursion (IsSoundInSlots (slots_in_list l channel)) cues) on
        (all_sound_in_slots (slots_in_list l channel) (cues_on channel (slot_cues l channel)) (slot_sequence l ruled channel)) in
        hidden_of (slots_in_list l channel) (cues_on channel (cues_in_slots c more))
        (all_after (IsSoundInSlots (slots_in_list l channel)) (cues_on channel (slot_cues list channel)) (cues_on channel (cues_in_slots c more)) sound)

    slot_kept : (slot : ℕ) → slot < slot_from c n
        → channel_slot channel (slot_cues list channel) slots slot ≡ channel_slot channel (slot_cues (longer list frames more) channel) moved slot
    slot_kept slot low =
        subst (λ (cues : List Cue). channel_slot channel (slot_cues list channel) slots slot ≡ channel_slot channel cues moved slot) (sym joined)
        (slots_kept channel (slot_from c n) (slot_cues list channel) (cues_in_slots c more) slots moved (loaded_in_slots c n more loaded) hidden placed
        (subst (λ (cues : List Cue). IsChannelPlaced channel cues moved) joined other) slot low)

    pub pair_kept : (frame : ℕ) → frame < n → channel_pair list channel slots frame ≡ channel_pair (longer list frames more) channel moved frame
    unfolding c
    pair_kept frame low = at (has_slot_in c frame) refl
      where
        at : (b : Bool) → has_slot_in c frame ≡ b
            → option_map (channel_slot channel (slot_cues list channel) slots) (if b then Some (slot_from c frame) else None)
            ≡ option_map (channel_slot channel (slot_cues (longer list frames more) channel) moved) (if b then Some (slot_from c frame) else None)
        at true has = ap (λ (p : Pair). Some p) (slot_kept (slot_from c frame) (slot_before c frame n has low))
        at false none = refl

  -- the bytes of a service
  service_kept : (service : ℕ) (stand moved : List ℕ) → IsLanePlaced list (Service service) stand → IsLanePlaced (longer list frames more) (Service service) moved
      → (frame : ℕ) → frame < n → service_bytes list service stand frame ≡ service_bytes (longer list frames more) service moved frame
  service_kept service stand moved placed other frame low =
      bytes_kept list.rate service n frames (share_in list service) list.cues more stand moved loaded
      (captions_kept (longer list frames more) service formed ruled) placed other frame low

  blocks_same : (one two : ℕ → List ℕ) (ss : List ℕ) → ((s : ℕ) → one s ≡ two s) → flat_map one ss ≡ flat_map two ss
  blocks_same one two [] same = refl
  blocks_same one two (s ∷ ss) same = ap (λ (l : List ℕ). l ++ flat_map one ss) (same s) ∙ ap (λ (l : List ℕ). two s ++ l) (blocks_same one two ss same)

  module _ (placed moved : Placement) (stands : IsListPlaced list placed) (other : IsListPlaced (longer list frames more) moved) where
    pub frame_kept : (frame : ℕ) → frame < n → columns_of list placed frame ≡ columns_of (longer list frames more) moved frame
    frame_kept frame low =
        let one = pair_kept Cc1 (placed (Channel Cc1)) (moved (Channel Cc1)) (stands (Channel Cc1)) (other (Channel Cc1)) frame low in
        let two = pair_kept Cc3 (placed (Channel Cc3)) (moved (Channel Cc3)) (stands (Channel Cc3)) (other (Channel Cc3)) frame low in
        let blocks = blocks_same (λ s. service_block s (service_bytes list s (placed (Service s)) frame))
        (λ s. service_block s (service_bytes (longer list frames more) s (moved (Service s)) frame)) services
        (λ s. ap (λ (l : List ℕ). service_block s l)
        (service_kept s (placed (Service s)) (moved (Service s)) (stands (Service s)) (other (Service s)) frame low)) in
        ap (λ (p : Option Pair). record { one = p; two = channel_pair list Cc3 (placed (Channel Cc3)) frame; blocks = record { items = frame_blocks list placed frame } }) one
        ∙ ap (λ (p : Option Pair). record { one = channel_pair (longer list frames more) Cc1 (moved (Channel Cc1)) frame; two = p; blocks = record { items = frame_blocks list placed frame } }) two
        ∙ ap (λ (l : List ℕ). record {
          one = channel_pair (longer list frames more) Cc1 (moved (Channel Cc1)) frame;
          two = channel_pair (longer list frames more) Cc3 (moved (Channel Cc3)) frame;
          blocks = record { items = l };
        }) blocks

-- no frame knows a cue that is loaded later
pub frame_front_kept : FrameFrontIsKept
frame_front_kept list frames more placed moved from both =
    frame_kept list frames more from both.formed both.ruled (recursion_from_All (λ cue. from ≤ cue.load) more both.loaded) placed moved
    both.placement both.longer_placement

-- columns that are the same below a frame
module _ (rate : Rate) (one two : Columns) (n : ℕ) (same : (frame : ℕ) → frame < n → one frame ≡ two frame) where
  pub packets_same : (frame : ℕ) → frame ≤ n → packets_before one frame ≡ packets_before two frame
  packets_same zero low = refl
  packets_same (suc frame) low =
      ap (λ (k : ℕ). k + packet_count (one frame).blocks.items) (packets_same frame (omega arith))
      ∙ ap (λ (b : FrameBytes). packets_before two frame + packet_count b.blocks.items) (same frame (omega arith))

  packet_same : (frame : ℕ) → frame < n → channel_packet_of one frame ≡ channel_packet_of two frame
  packet_same frame low =
      ap (λ (k : ℕ). channel_packet k (one frame).blocks.items) (packets_same frame (omega arith))
      ∙ ap (λ (b : FrameBytes). channel_packet (packets_before two frame) b.blocks.items) (same frame low)

  -- have the same words there
  pub words_same : (frame k : ℕ) → frame + k ≤ n → column_bytes rate one frame k ≡ column_bytes rate two frame k
  words_same frame zero low = refl
  words_same frame (suc k) low =
      ap (λ (b : FrameBytes). frame_bytes rate frame b (channel_packet_of one frame) ++ column_bytes rate one (suc frame) k) (same frame (omega arith))
      ∙ ap (λ (l : List ℕ). l ++ column_bytes rate one (suc frame) k)
      (ap (frame_bytes rate frame (two frame)) (packet_same frame (omega arith)))
      ∙ ap (λ (l : List ℕ). frame_bytes rate frame (two frame) (channel_packet_of two frame) ++ l) (words_same (suc frame) k (omega arith))

-- so its words are the same
pub word_front_kept : WordFrontIsKept
word_front_kept list frames more placed moved from both k low =
    words_same list.rate (columns_of list placed) (columns_of (longer list frames more) moved) from
    (frame_front_kept list frames more placed moved from both) 0 k (omega arith)

-- the words of frames, and of those after them
pub words_parts : (rate : Rate) (columns : Columns) (frame k m : ℕ)
    → column_bytes rate columns frame (k + m) ≡ column_bytes rate columns frame k ++ column_bytes rate columns (frame + k) m
words_parts rate columns frame zero m =
    let none : 0 + m ≡ m = omega arith in
    let here : frame ≡ frame + 0 = omega arith in
    ap (λ (l : ℕ). column_bytes rate columns frame l) none ∙ ap (λ (f : ℕ). column_bytes rate columns f m) here
words_parts rate columns frame (suc k) m =
    let one : suc k + m ≡ suc (k + m) = omega arith in
    let next : suc frame + k ≡ frame + suc k = omega arith in
    let first = frame_bytes rate frame (columns frame) (channel_packet_of columns frame) in
    ap (λ (l : ℕ). column_bytes rate columns frame l) one
    ∙ ap (λ (l : List ℕ). first ++ l) (words_parts rate columns (suc frame) k m)
    ∙ sym (append_assoc first (column_bytes rate columns (suc frame) k) (column_bytes rate columns (suc frame + k) m))
    ∙ ap (λ (f : ℕ). (first ++ column_bytes rate columns (suc frame) k) ++ column_bytes rate columns f m) next

-- the words of this many frames are the front of the words of more
words_begin : (rate : Rate) (columns : Columns) (k n : ℕ) → k ≤ n → (rest : List ℕ) × (column_bytes rate columns 0 n ≡ column_bytes rate columns 0 k ++ rest)
words_begin rate columns k n low =
    let number : n ≡ k + (n - k) = omega arith in
    (column_bytes rate columns (0 + k) (n - k), ap (λ (m : ℕ). column_bytes rate columns 0 m) number ∙ words_parts rate columns 0 k (n - k))

pub words_share_front : WordsShareFront
words_share_front list frames more placed moved from both k low within within_other =
    let one = words_begin list.rate (columns_of list placed) k list.frames within in
    let two = words_begin list.rate (columns_of (longer list frames more) moved) k frames within_other in
    let same = word_front_kept list frames more placed moved from both k low in
    record {
      rest_of_one = one.0;
      rest_of_two = two.0;
      one_is = one.1;
      two_is = two.1 ∙ ap (λ (l : List ℕ). l ++ two.0) (sym same);
    }
