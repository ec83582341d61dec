-- Words in which the captions of an accepted list are inserted are sound.
use Rattle.std.proofs.Common.{◌≡◌, ◌∙◌, ◌+◌, ◌++◌, ◌<◌, ◌≤◌, [], ◌∷◌, nat_lt, Bool, true, false, ap, arith, length, map, refl, reverse, subst, suc, zero, sym, take, ℕ, List}
use Rattle.std.specs.List.{flat_map}
use Rattle.std.proofs.lemmas.Bool.Decides.{nat_tests}
use Rattle.std.proofs.lemmas.List.{take-map, take_all}
use Rattle.std.proofs.lemmas.List.Folds.{flat_map-map}
use Rattle.cc_base.specs.declared.rate.Rate.{Rate}
use Rattle.cc_data.specs.declared.triplet.Triplet.{Triplet}
use Rattle.cdp_packets.specs.Packets.{Frame}
use Rattle.cdp_packets.specs.PacketTriplets.{packet_triplets}
use Rattle.cue_list_commands.proofs.Outputs.{byte_pairs, show_columns}
use Rattle.cue_list_commands.specs.Output.{list_framing, list_grids, list_told, list_windows}
use Rattle.cue_lists.specs.Listing.{IsFormed, Listing}
use Rattle.cue_lists.specs.Rules.{IsRuled}
use Rattle.cue_lists.specs.declared.lane.Lane.TheVariants.{Service}
use Rattle.dtvcc_screen.specs.Meaning.{Byte, Event, Served, Tick, served_after, start}
use Rattle.dtvcc_screen.specs.Shown.{grids}
use Rattle.cue_list_commands.specs.Filling.{AllFill}
use Rattle.cue_list_commands.specs.ServiceLanes.{lane_frame_bytes}
use Rattle.cue_list_commands.proofs.CarriedLemmas.{frames_carried}
use Rattle.cue_list_commands.specs.Carried.{AreCarried}
use Rattle.cue_list_commands.specs.Carrying.{channel_packet, channel_packet_of, column_packets, frame_packet, packet_count, packets_before}
use Rattle.cue_list_commands.proofs.EndLemmas.{nothing_behind}
use Rattle.cue_list_commands.specs.Planned.{IsListPlaced, Placement, columns_of, service_bytes, share_in}
use Rattle.cue_list_commands.specs.FrameBytes.{FrameBytes}
use Rattle.line21_codes.specs.Channels.{data_channel_of, field_of_channel}
use Rattle.line21_codes.specs.declared.pairs.Pair.{Pair}
use Rattle.line21_screen.specs.Fields.{channel}
use Rattle.line21_screen.specs.Meaning.{after as after_pairs}
use Rattle.service_blocks.specs.Channels.{AreChannel}
use Rattle.cue_list_commands.proofs.ChannelLemmas.{programmes_whole}
use Rattle.cue_list_commands.proofs.LaneLemmas.{lane_sent}
use Rattle.cue_list_commands.proofs.RoomLemmas.{blocks_bytes, frames_roomy, has_blocks}
use Rattle.cue_list_commands.proofs.ToldLemmas.{columns_told, like_frames, packets_count, take_packets, told_same}
use Rattle.cue_list_commands.specs.PlacedServices.{AreServicesPlaced}
use Rattle.cue_list_commands.specs.Told.{CarryTheSame, SayAlike, sent_to, told}
use Rattle.services_files.specs.CarriedChannel.{CarryChannel, file_triplets}
use Rattle.services_files.specs.Events.{service_events}
use Rattle.cue_list_commands.proofs.LeadingLemmas.{lane_is_sound, lane_told, told_fills, told_leads}
use Rattle.cue_list_commands.specs.Buffers.{BuffersNeverFill}
use Rattle.cue_list_commands.specs.SeenWindows.{ShowAuthoredWindows}
use Rattle.cue_list_commands.proofs.PlacedBlocksLemmas.{shares_kept}
use Rattle.cue_list_commands.proofs.SoundSeenLemmas.{columns_seen}
use Rattle.cue_list_commands.specs.Shares.{AreSharesKept, IsToldAtMost}
use Rattle.cue_list_commands.specs.Showing.{ShowsFrames}
use Rattle.cue_list_commands.proofs.ShownLemmas.{windows_are_shown}
use Rattle.cue_list_commands.specs.AuthoredShown.{list_lane}
use Rattle.insert_commands.specs.Captions.{captions_of, padded}
use Rattle.insert_commands.specs.Soundness.{InsertionsAreSound}
use Rattle.insert_commands.proofs.AlikeLemmas.{can_be_carried, say_alike}
use Rattle.insert_commands.proofs.FileLemmas.{new_words}
use Rattle.insert_commands.proofs.PaddedLemmas.{padded_below, padded_blocks, padded_carried, padded_past, padded_roomy, padded_silent}

-- this many frames of frames that are alike are alike
fronts_alike : (k : ℕ) (frames others : List Frame) → CarryTheSame frames others → CarryTheSame (take k frames) (take k others)
fronts_alike k frames others alike = record {
  rates = sym (take-map (λ (f : Frame). f.rate) k frames) ∙ ap (take k) alike.rates ∙ take-map (λ (f : Frame). f.rate) k others;
  triplets = sym (take-map packet_triplets k frames) ∙ ap (take k) alike.triplets ∙ take-map packet_triplets k others;
}

-- they keep the same shares
same_shares : (rate : Rate) (share : ℕ → ℕ) (n : ℕ) (frames others : List Frame) → CarryTheSame frames others → AreSharesKept rate share n others
    → AreSharesKept rate share n frames
same_shares rate share n frames others alike kept service frame below =
    let says : (k : ℕ) → SayAlike (take k frames) (take k others) = λ k. like_frames (take k frames) (take k others) (fronts_alike k frames others alike) in
    let told_so = kept service frame below in
    record {
      bytes = told_so.bytes;
      events = (says (suc frame)).events service ∙ told_so.events
          ∙ ap (λ (es : List Event). es ++ (Tick rate ∷ map Byte told_so.bytes)) (sym ((says frame).events service));
      within = told_so.within;
    }

-- their triplets are the same, so they carry the same channel
same_triplets : (frames others : List Frame) → CarryTheSame frames others → file_triplets frames ≡ file_triplets others
same_triplets frames others alike =
    sym (flat_map-map (λ (ts : List Triplet). ts) packet_triplets frames) ∙ ap (flat_map (λ (ts : List Triplet). ts)) alike.triplets
    ∙ flat_map-map (λ (ts : List Triplet). ts) packet_triplets others

same_channel : (frames others : List Frame) → CarryTheSame frames others → CarryChannel others → CarryChannel frames
same_channel frames others alike carry = record {
  packets = carry.packets;
  blocks = carry.blocks;
  channel = subst (λ ts. AreChannel carry.packets carry.blocks ts) (sym (same_triplets frames others alike)) carry.channel;
}

module _ (list : Listing) (placed : Placement) (formed : IsFormed list) (ruled : IsRuled list) (placing : IsListPlaced list placed) where
  abbrev services : AreServicesPlaced list placed
  services = λ service. placing (Service service)

  -- after the end of a list its own frames carry nothing either
  same_frame : (frame : ℕ) → padded (list_framing list placed) frame ≡ columns_of list placed frame
  same_frame frame = at (nat_lt frame list.frames) refl
    where
      at : (below : Bool) → nat_lt frame list.frames ≡ below → padded (list_framing list placed) frame ≡ columns_of list placed frame
      at true is = padded_below (list_framing list placed) frame (grind (arith, nat_tests))
      at false is =
          let past : list.frames ≤ frame = grind (arith, nat_tests) in
          padded_past (list_framing list placed) frame past ∙ sym (nothing_behind list placed formed ruled placing frame past)

  same_before : (n : ℕ) → packets_before (padded (list_framing list placed)) n ≡ packets_before (columns_of list placed) n
  same_before zero = refl
  same_before (suc n) =
      ap (λ before. before + packet_count (padded (list_framing list placed) n).blocks.items) (same_before n)
      ∙ ap (λ (bytes : FrameBytes). packets_before (columns_of list placed) n + packet_count bytes.blocks.items) (same_frame n)

  -- so their packets are the same
  same_packets : (frame n : ℕ) → column_packets list.rate (padded (list_framing list placed)) frame n ≡ column_packets list.rate (columns_of list placed) frame n
  same_packets frame zero = refl
  same_packets frame (suc n) =
      ap (λ before. frame_packet list.rate frame (padded (list_framing list placed) frame) (channel_packet before (padded (list_framing list placed) frame).blocks.items)
      ∷ column_packets list.rate (padded (list_framing list placed)) (suc frame) n) (same_before frame)
      ∙ ap (λ (bytes : FrameBytes). frame_packet list.rate frame bytes (channel_packet (packets_before (columns_of list placed) frame) bytes.blocks.items)
      ∷ column_packets list.rate (padded (list_framing list placed)) (suc frame) n) (same_frame frame)
      ∙ ap (λ rest. frame_packet list.rate frame (columns_of list placed frame) (channel_packet_of (columns_of list placed) frame) ∷ rest) (same_packets (suc frame) n)

  -- a service gets what its lane sends
  lane_leads : (n service k : ℕ) → k ≤ n
      → service_events service (take k (column_packets list.rate (columns_of list placed) 0 n))
      ≡ told list.rate (lane_frame_bytes (list_lane list service (placed (Service service)))) k
  lane_leads n service k most =
      columns_told list.rate (columns_of list placed) n (has_blocks list placed formed ruled services) service k most
      ∙ told_same list.rate (λ frame. sent_to service (has_blocks list placed formed ruled services frame).sent) (service_bytes list service (placed (Service service)))
      (lane_sent list placed formed ruled services service) k
      ∙ lane_told list placed service k

  -- it gets no more than its share in a frame of the list
  same_fronts : (n k : ℕ) → k ≤ n → k ≤ list.frames
      → take k (column_packets list.rate (columns_of list placed) 0 n) ≡ take k (column_packets list.rate (columns_of list placed) 0 list.frames)
  same_fronts n k most own =
      take_packets list.rate (columns_of list placed) 0 n k most ∙ sym (take_packets list.rate (columns_of list placed) 0 list.frames k own)

  own_shares : (n service frame : ℕ) → frame < n → frame < list.frames
      → IsToldAtMost list.rate (share_in list service) (column_packets list.rate (columns_of list placed) 0 n) service frame
  own_shares n service frame below own =
      let kept = shares_kept list placed formed ruled services service frame own in
      record {
        bytes = kept.bytes;
        events = ap (service_events service) (same_fronts n (suc frame) (omega (arith, below)) (omega (arith, own))) ∙ kept.events
            ∙ ap (λ (packets : List Frame). service_events service packets ++ (Tick list.rate ∷ map Byte kept.bytes))
            (sym (same_fronts n frame (omega (arith, below)) (omega (arith, own))));
        within = kept.within;
      }

  -- and nothing after its end
  sent_in : ℕ → ℕ → List ℕ
  sent_in service frame = sent_to service (padded_blocks (list_framing list placed) (has_blocks list placed formed ruled services) frame).sent

  padded_leads : (n service k : ℕ) → k ≤ n
      → service_events service (take k (column_packets list.rate (columns_of list placed) 0 n)) ≡ told list.rate (sent_in service) k
  unfolding sent_in
  padded_leads n service k most =
      subst (λ (packets : List Frame). service_events service (take k packets) ≡ told list.rate (sent_in service) k) (same_packets 0 n)
      (columns_told list.rate (padded (list_framing list placed)) n
      (padded_blocks (list_framing list placed) (has_blocks list placed formed ruled services)) service k most)

  nothing_sent : (service frame : ℕ) → list.frames ≤ frame → sent_in service frame ≡ []
  unfolding sent_in
  nothing_sent service frame past = ap (sent_to service) (padded_silent (list_framing list placed) (has_blocks list placed formed ruled services) frame past)

  silent_shares : (n service frame : ℕ) → frame < n → list.frames ≤ frame
      → IsToldAtMost list.rate (share_in list service) (column_packets list.rate (columns_of list placed) 0 n) service frame
  silent_shares n service frame below past = record {
    bytes = [];
    events = padded_leads n service (suc frame) (omega (arith, below))
        ∙ ap (λ (bytes : List ℕ). told list.rate (sent_in service) frame ++ (Tick list.rate ∷ map Byte bytes)) (nothing_sent service frame past)
        ∙ ap (λ (es : List Event). es ++ (Tick list.rate ∷ [])) (sym (padded_leads n service frame (omega (arith, below))));
    within = omega arith;
  }

  columns_shares : (n : ℕ) → AreSharesKept list.rate (share_in list) n (column_packets list.rate (columns_of list placed) 0 n)
  columns_shares n service frame below = at (nat_lt frame list.frames) refl
    where
      at : (own : Bool) → nat_lt frame list.frames ≡ own
          → IsToldAtMost list.rate (share_in list service) (column_packets list.rate (columns_of list placed) 0 n) service frame
      at true is = own_shares n service frame below (grind (arith, nat_tests))
      at false is = silent_shares n service frame below (grind (arith, nat_tests))

  -- so no byte fills its buffer, and it shows the authored windows
  columns_fill : (n : ℕ) → BuffersNeverFill (column_packets list.rate (columns_of list placed) 0 n)
  columns_fill n service numbered =
      let lane = list_lane list service (placed (Service service)) in
      let packets = column_packets list.rate (columns_of list placed) 0 n in
      let count = packets_count list.rate (columns_of list placed) 0 n in
      subst (λ (es : List Event). AllFill 127 start es) (sym (ap (service_events service) (sym (take_all n packets (omega (arith, count)))) ∙ lane_leads n service n (omega arith)))
      (told_fills lane n (lane_is_sound list placed service formed ruled services))

  columns_windows : (n frame : ℕ) → frame < n → ShowAuthoredWindows list.cues (column_packets list.rate (columns_of list placed) 0 n) frame
  columns_windows n frame below service id numbered low =
      let lane = list_lane list service (placed (Service service)) in
      ap (λ (s : Served). grids s.core.screen id) (ap (served_after start) (lane_leads n service (suc frame) (omega (arith, below))) ∙ told_leads lane (suc frame))
      ∙ windows_are_shown list (share_in list service) service (placed (Service service)) formed ruled (services service).placed frame id low

  -- frames that say what these do show the list
  news_show : (n : ℕ) (news : List Frame) → AreCarried list.rate (columns_of list placed) n → CarryTheSame news (column_packets list.rate (columns_of list placed) 0 n)
      → ShowsFrames (list_told list) (list_grids list) (list_windows list) n news
  news_show n news carried alike =
      let packets = column_packets list.rate (columns_of list placed) 0 n in
      let says : (k : ℕ) → SayAlike (take k news) (take k packets) = λ k. like_frames (take k news) (take k packets) (fronts_alike k news packets alike) in
      record {
        has_grids = λ frame below chan settled.
            ap (λ (pairs : List Pair). (channel (data_channel_of chan) (after_pairs (field_of_channel chan) (reverse pairs))).displayed)
            ((says (suc frame)).pairs (field_of_channel chan))
            ∙ columns_seen list.rate n (columns_of list placed) carried frame below chan
            ∙ show_columns list placed formed ruled placing n frame below chan settled;
        has_windows = λ frame below service id numbered low.
            ap (λ (events : List Event). grids (served_after start events).core.screen id) ((says (suc frame)).events service)
            ∙ columns_windows n frame below service id numbered low;
      }

pub insertions_sound : InsertionsAreSound
insertions_sound bytes list placed frames file text accepted inserted rates enough =
    let formed : IsFormed list = accepted.good.spelled.formed in
    let ruled : IsRuled list = accepted.good.ruled in
    let placing = accepted.placement in
    let captions = list_framing list placed in
    let pairs = byte_pairs list placed formed in
    let blocks = blocks_bytes list placed formed ruled (λ service. placing (Service service)) in
    let roomy = frames_roomy list placed formed ruled (λ service. placing (Service service)) in
    let has = has_blocks list placed formed ruled (λ service. placing (Service service)) in
    let n = length frames in
    let carried = frames_carried list.rate (columns_of list placed) n pairs blocks roomy in
    let new = new_words (captions_of captions) (can_be_carried captions (padded_roomy captions pairs blocks roomy) (padded_carried captions pairs blocks roomy)) frames file text inserted in
    let packets = column_packets list.rate (columns_of list placed) 0 n in
    let alike : CarryTheSame new.news packets = subst (CarryTheSame new.news) (same_packets list placed formed ruled placing 0 n) (say_alike captions frames new.news new.have rates) in
    record {
      news = new.news;
      have = new.have;
      whole = record {
        file = new.file;
        accepted = same_channel new.news packets alike (programmes_whole list.rate (columns_of list placed) n has carried);
      };
      alike = subst (CarryTheSame (take list.frames new.news)) (take_packets list.rate (columns_of list placed) 0 n list.frames enough)
          (fronts_alike list.frames new.news packets alike);
      fills = λ service numbered.
          subst (λ (es : List Event). AllFill 127 start es) (sym ((like_frames new.news packets alike).events service))
          (columns_fill list placed formed ruled placing n service numbered);
      shares = same_shares list.rate (share_in list) n new.news packets alike (columns_shares list placed formed ruled placing n);
      shows = news_show list placed formed ruled placing n new.news carried alike;
    }
