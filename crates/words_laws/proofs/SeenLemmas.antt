-- A receiver that is fed the words that were built, the words of two lists, or words into which captions were inserted, shows what
-- was authored.
use Rattle.std.proofs.Common.{◌≡◌, ◌∙◌, ◌++◌, ◌∷◌, ◌+◌, ◌<◌, false, add-one, ap, append_assoc, arith, length, length-append, refl, subst, suc, sym, take, ℕ, List, []}
use Rattle.std.proofs.lemmas.List.{take-append-le, take_all}
use Rattle.cdp_packets.specs.Packets.{Frame}
use Rattle.cue_list_commands.specs.Planned.{Placement, columns_of}
use Rattle.line21_codes.specs.declared.channels.Chan.{Chan}
use Rattle.line21_codes.specs.declared.channels.Chan.TheVariants.{Cc1, Cc2, Cc3, Cc4}
use Rattle.words_files.specs.Offences.{IsFileUnder}
use Rattle.words_files.specs.FramesOf.{AreFramesOf}
use Rattle.words_files.specs.Received.{received_grids}
use Rattle.words_files.proofs.FramesOfLemmas.{file_frames, frames_grow, frames_of_once}
use Rattle.cue_list_commands.proofs.ToldLemmas.{packets_count}
use Rattle.cc_receiver.specs.ReceivedServices.{fills_in, received_windows}
use Rattle.cc_receiver.proofs.ReceivedLemmas.{shown_received}
use Rattle.cc_receiver.proofs.SeenLemmas.{windows_received}
use Rattle.cc_receiver.proofs.TakenLemmas.{frames_count}
use Rattle.dtvcc_screen.specs.Meaning.{start}
use Rattle.dtvcc_services.specs.Numbers.{IsService}
use Rattle.converted_lists.specs.Filling.{AllFill}
use Rattle.services_files.specs.Events.{service_events}
use Rattle.services_files.specs.CaptionChannel.{caption_channel}
use Rattle.services_files.proofs.ChannelFiles.{got_frames}
use Rattle.cue_list_commands.proofs.Outputs.{sound_words}
use Rattle.cue_lists.specs.Listing.{Listing}
use Rattle.cue_list_commands.specs.Output.{IsSoundWords, build_output, built_packets, list_grids, list_told, list_windows}
use Rattle.cc_data.specs.declared.triplet.Triplet.{Triplet}
use Rattle.cc_receiver.specs.Receivers.{HasReceived, displayed_grid, frame_count}
use Rattle.cc_receiver.specs.SeenServices.{seen_windows}
use Rattle.cc_receiver.specs.declared.receiver.Receiver.{Receiver}
use Rattle.dual_commands.proofs.SoundLemmas.{sound_dual}
use Rattle.dual_commands.specs.DualWords.{dual_framing}
use Rattle.dual_commands.specs.DualShown.{dual_grids, dual_told}
use Rattle.cue_list_commands.specs.Framing.{packets_of, words_of}
use Rattle.insert_commands.proofs.SoundLemmas.{insertions_sound}
use Rattle.insert_commands.specs.Soundness.{HaveCaptions}
use Rattle.insert_commands.specs.Soundness.HaveCaptions.{none, more}
use Rattle.cue_list_commands.specs.Buffers.{BuffersNeverFill}
use Rattle.cue_list_commands.specs.Showing.{Grids, ShowsFrames, Telling, WindowsShown}
use Rattle.words_laws.specs.Seen.{BuiltWordsAreSeen, DualWordsAreSeen, InsertedWordsAreSeen, IsSeenAsAuthored}
use Rattle.words_laws.proofs.FilledLemmas.{none_filled}

-- what is built is a words file whose caption channel is whole
pub built_file : (list : Listing) (placed : Placement) → IsSoundWords (record { list = list; placed = placed }) → IsFileUnder caption_channel (built_packets list placed) (build_output list placed)
built_file list placed sound = record { file = sound.frames.carried.file; accepted = sound.frames.whole }

-- this many frames, and others after them
pub front_is : (packets frames behind : List Frame) (n : ℕ) → packets ≡ frames ++ behind → n ≡ length frames → take n packets ≡ frames
front_is packets frames behind n is count =
    ap (take n) is ∙ take-append-le n frames behind (omega arith) ∙ take_all n frames (omega arith)

-- a receiver that was fed these words shows at a frame the grid of each channel for which it is known, and the windows of each service,
-- and no buffer of a service was filled
record IsSeenAs (IsTold : Telling) (grids : Grids) (windows : WindowsShown) (frame : ℕ) (words : List ℕ) (receiver : Receiver) : Type 0 where
  screens : (chan : Chan) → IsTold chan frame → displayed_grid receiver chan ≡ grids chan frame
  services : (service id : ℕ) → IsService service → id < 8 → seen_windows receiver service id ≡ windows service frame id
  unfilled : (service : ℕ) (earlier : List Frame) (last : Frame) (later : List Frame) → IsService service
      → AreFramesOf caption_channel (earlier ++ last ∷ later) words → fills_in earlier last service ≡ false

-- so does one that was fed a front of a file whose frames show them
words_seen : (IsTold : Telling) (grids : Grids) (windows : WindowsShown) (packets : List Frame) (file words rest : List ℕ) (receiver : Receiver) (frame : ℕ)
    → IsFileUnder caption_channel packets file → ShowsFrames IsTold grids windows (length packets) packets → BuffersNeverFill packets
    → file ≡ words ++ rest → HasReceived words receiver → frame_count receiver ≡ frame + 1 → IsSeenAs IsTold grids windows frame words receiver
words_seen IsTold grids windows packets file words rest receiver frame is_file shows fills spelled had counted =
    let gotten = got_frames words had.bytes_are in
    let frames = gotten.frames in
    let whole : AreFramesOf caption_channel packets (words ++ rest) =
    subst (AreFramesOf caption_channel packets) spelled (file_frames caption_channel packets file is_file) in
    let (behind, grown) = frames_grow caption_channel frames packets words rest gotten.are whole in
    let count : frame + 1 ≡ length frames = sym counted ∙ frames_count frames words receiver had gotten.are in
    let front : take (suc frame) packets ≡ frames = front_is packets frames behind (suc frame) grown (sym (add-one frame) ∙ count) in
    let size : length packets ≡ length frames + length behind = ap length grown ∙ length-append frames behind in
    let below : frame < length packets = omega arith in
    record {
      screens = λ chan told.
          shown_received frames words receiver chan had gotten.are
          ∙ ap (λ (f : List Frame). received_grids f chan) (sym front)
          ∙ shows.has_grids frame below chan told;
      services = λ service id numbered low.
          windows_received frames words receiver service id had gotten.are numbered
          ∙ ap (λ (f : List Frame). received_windows f service id) (sym front)
          ∙ shows.has_windows frame below service id numbered low;
      unfilled = λ service earlier last later numbered are.
          let same : packets ≡ earlier ++ last ∷ (later ++ behind) =
          grown ∙ ap (λ (f : List Frame). f ++ behind) (frames_of_once caption_channel frames (earlier ++ last ∷ later) words gotten.are are)
          ∙ append_assoc earlier (last ∷ later) behind in
          none_filled service earlier last (later ++ behind)
          (subst (λ (f : List Frame). AllFill 127 start (service_events service f)) same (fills service numbered));
    }

-- of one list
pub list_seen : (list : Listing) (packets : List Frame) (file words rest : List ℕ) (receiver : Receiver) (frame : ℕ) → IsFileUnder caption_channel packets file
    → ShowsFrames (list_told list) (list_grids list) (list_windows list) (length packets) packets → BuffersNeverFill packets → file ≡ words ++ rest
    → HasReceived words receiver → frame_count receiver ≡ frame + 1 → IsSeenAsAuthored list frame words receiver
list_seen list packets file words rest receiver frame is_file shows fills spelled had counted =
    let seen = words_seen (list_told list) (list_grids list) (list_windows list) packets file words rest receiver frame is_file shows fills spelled had counted in
    record {
      cc1 = seen.screens Cc1;
      cc2 = seen.screens Cc2 tt;
      cc3 = seen.screens Cc3;
      cc4 = seen.screens Cc4 tt;
      windows = seen.services;
      unfilled = seen.unfilled;
    }

pub built_seen : BuiltWordsAreSeen
built_seen bytes list placed words rest receiver frame accepted output had counted =
    let sound = sound_words bytes (record { list = list; placed = placed }) accepted in
    let all : length (built_packets list placed) ≡ list.frames = packets_count list.rate (columns_of list placed) 0 list.frames in
    list_seen list (built_packets list placed) (build_output list placed) words rest receiver frame (built_file list placed sound)
    (subst (λ n. ShowsFrames (list_told list) (list_grids list) (list_windows list) n (built_packets list placed)) (sym all) sound.shows)
    (λ service numbered. sound.frames.fills service numbered) output had counted

-- as many frames have captions in place of their own
news_count : (captions : ℕ → List Triplet) (frames news : List Frame) → HaveCaptions captions frames news → length news ≡ length frames
news_count _ _ _ (none captions) = refl
news_count _ _ _ (more captions frames news all all_news old new before inserted all_is news_is) =
    ap length news_is ∙ length-append news (new ∷ []) ∙ ap (λ n. n + 1) (news_count captions frames news before)
    ∙ sym (ap length all_is ∙ length-append frames (old ∷ []))

pub inserted_seen : InsertedWordsAreSeen
inserted_seen bytes list placed frames file text words rest receiver frame accepted inserted rates enough spelled had counted =
    let sound = insertions_sound bytes list placed frames file text accepted inserted rates enough in
    let all : length sound.news ≡ length frames = news_count _ frames sound.news sound.have in
    list_seen list sound.news text words rest receiver frame sound.whole
    (subst (λ n. ShowsFrames (list_told list) (list_grids list) (list_windows list) n sound.news) (sym all) sound.shows)
    sound.fills spelled had counted

pub dual_seen : DualWordsAreSeen
dual_seen second bytes lists words rest receiver frame accepted output had counted =
    let sound = sound_dual second bytes lists accepted in
    let packets : List Frame = packets_of (dual_framing lists) in
    let all : length packets ≡ lists.one.frames = packets_count lists.one.rate (dual_framing lists).columns 0 lists.one.frames in
    let seen = words_seen (dual_told lists.one lists.two) (dual_grids lists.one lists.two) (list_windows lists.one) packets (words_of (dual_framing lists)) words rest
    receiver frame (record { file = sound.frames.carried.file; accepted = sound.frames.whole })
    (subst (λ n. ShowsFrames (dual_told lists.one lists.two) (dual_grids lists.one lists.two) (list_windows lists.one) n packets) (sym all) sound.shows)
    (λ service numbered. sound.frames.fills service numbered) output had counted in
    record {
      cc1 = seen.screens Cc1;
      cc2 = seen.screens Cc2;
      cc3 = seen.screens Cc3;
      cc4 = seen.screens Cc4;
      windows = seen.services;
      unfilled = seen.unfilled;
    }
