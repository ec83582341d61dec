-- What a receiver makes of the bytes after the kept packet's.
use Rattle.std.proofs.Common.{◌≡◌, ◌≢◌, ℕ, ◌+◌, ◌-◌, ◌<◌, ◌≤◌, inl, inr, All, List, [], ◌∷◌, ◌++◌, length, take, drop, ap, sym, subst, ◌∙◌, append_assoc, length-append, length-drop, arith}
use Rattle.std.proofs.lemmas.List.{length-take-le, take-append-drop, take-append-le, take_all}
use Rattle.std.proofs.Math.Seq.{take-append-add}
use Rattle.std.proofs.lemmas.List.Elements.{All-cons, All-head, All-nil, All-tail}
use Rattle.cc_base.specs.Steps.{front_from}
use Rattle.cc_base.specs.Syntax.{open_behind}
use Rattle.cc_base.proofs.StepLemmas.{front_from-append}
use Rattle.anc_words.specs.Packets.{AncillaryPacket}
use Rattle.anc_words.specs.Reading.{anc_syntax, nothing_open, open_after}
use Rattle.anc_words.specs.WordsFiles.{IsPacketBytes, IsWordsFile}
use Rattle.anc_words.proofs.ByteLemmas.{file_is_read}
use Rattle.cc_receiver.specs.Feeds.{Counts, HasFed}
use Rattle.cc_receiver.specs.Receivers.{HasReceived, frame_count}
use Rattle.cc_receiver.specs.Receiving.{EndsBy, EndsWithPacket}
use Rattle.cc_receiver.specs.declared.receiver.Ended.{Ended}
use Rattle.cc_receiver.specs.declared.receiver.Ended.TheVariants as ended
use Rattle.cc_receiver.specs.declared.receiver.Fed.{Fed}
use Rattle.cc_receiver.specs.declared.receiver.Receiver.{Receiver}
use Rattle.cc_receiver.proofs.FedFrames.{counted_nothing, counts_one, moves_by, nothing_is_file, nothing_offends}
use Rattle.cdp_packets.specs.Packets.{Frame}
use Rattle.words_files.specs.Offences.{IsFileUnder, IsUnoffending}
use Rattle.cc_receiver.specs.CaptionChannel.{caption_channel}
use Rattle.words_reading.specs.OpenPackets.{EndsCaption, EndsForeign, HasRead, IsEndedAs, NoPacketEnds, ReadsFront, open_bytes}
use Rattle.words_reading.specs.declared.packets.Packets.{Packets}
use Rattle.words_reading.proofs.PacketEndLemmas.{brings, closed_file, file_under, no_more, one_packet}
use Rattle.words_reading.proofs.RoomLemmas.{packet_room}

-- the first of two lists of bytes is of bytes
all_front : (xs ys : List ℕ) → All (λ b. b < 256) (xs ++ ys) → All (λ b. b < 256) xs
all_front [] ys all = All-nil (λ b. b < 256)
all_front (x ∷ xs) ys all =
    All-cons (λ b. b < 256) x xs (All-head (λ b. b < 256) x (xs ++ ys) all) (all_front xs ys (All-tail (λ b. b < 256) x (xs ++ ys) all))

-- a shorter front of a front
take_less : (k used : ℕ) (bytes : List ℕ) → used ≤ length bytes → k ≤ used → take k (take used bytes) ≡ take k bytes
take_less k used bytes within few =
    sym (take-append-le k (take used bytes) (drop used bytes) (subst (λ n. k ≤ n) (sym (length-take-le used bytes within)) few))
    ∙ ap (take k) (take-append-drop used bytes)

-- nothing was fed
pub nothing_read : (packets : Packets) → HasReceived [] packets.receiver → open_bytes packets ≡ [] → HasRead [] [] packets
nothing_read packets received none =
    let count = counted_nothing packets.receiver received in
    record {
      received = subst (λ b. HasReceived b packets.receiver) (sym none) received;
      few = omega (arith, count);
      unoffending = subst (IsUnoffending caption_channel) (sym none) nothing_offends;
      under = nothing_is_file;
      none = λ others n some few is. absurd (omega (arith, some, few, ap length none));
    }

module _ (frames : List Frame) (file bytes : List ℕ) (old : Packets) (new : Receiver) (fed : Fed) (had : HasRead frames file old)
    (feeds : HasFed (file ++ open_bytes old) bytes old.receiver new fed) (within : fed.used ≤ length bytes) where
  abbrev more : List ℕ
  more = open_bytes old ++ take fed.used bytes

  pub whole : (file ++ open_bytes old) ++ take fed.used bytes ≡ file ++ more
  whole = append_assoc file (open_bytes old) (take fed.used bytes)

  long : length more ≡ length (open_bytes old) + fed.used
  long = length-append (open_bytes old) (take fed.used bytes) ∙ ap (λ n. length (open_bytes old) + n) (length-take-le fed.used bytes within)

  -- no packet ends before the last byte that was read
  no_sooner : (packets : List AncillaryPacket) (n : ℕ) → 0 < n → n < length more → IsWordsFile packets (file ++ take n more) → ⊥
  no_sooner packets n some few is = elim (no_more n (length (open_bytes old))) [
    | inl short ↦
        had.none packets n some short (subst (λ b. IsWordsFile packets (file ++ b)) (take-append-le n (open_bytes old) (take fed.used bytes) short) is)
    | inr past ↦
        let k = n - length (open_bytes old) in
        let sum : length (open_bytes old) + k ≡ n = omega (arith, past) in
        let below : k < fed.used = omega (arith, few, long, sum) in
        let front : take n more ≡ open_bytes old ++ take k bytes =
        ap (λ m. take m more) (sym sum) ∙ take-append-add (open_bytes old) (take fed.used bytes) k
        ∙ ap (λ t. open_bytes old ++ t) (take_less k fed.used bytes within (omega (arith, below))) in
        feeds.first packets k (omega (arith, past)) below
        (subst (IsWordsFile packets) (ap (λ b. file ++ b) front ∙ sym (append_assoc file (open_bytes old) (take k bytes))) is)
  ]

  unoffending_whole : IsUnoffending caption_channel (file ++ more)
  unoffending_whole = subst (IsUnoffending caption_channel) whole feeds.unoffending

  received_whole : HasReceived (file ++ more) new
  received_whole = subst (λ b. HasReceived b new) whole feeds.received

  pub fed_room : length (open_bytes old) + length (take fed.used bytes) ≤ 524
  fed_room =
      let room = packet_room more (λ n some few ended.
      let cut : file ++ more ≡ (file ++ take n more) ++ drop n more =
      ap (λ b. file ++ b) (sym (take-append-drop n more)) ∙ sym (append_assoc file (take n more) (drop n more)) in
      let left : 0 < length (drop n more) = omega (arith, few, length-drop n more) in
      let closed : open_behind anc_syntax (file ++ take n more) ≡ nothing_open =
      front_from-append open_after nothing_open file (take n more)
      ∙ ap (λ front. front_from open_after front (take n more)) (file_is_read had.under.file.packets file had.under.file.file).leads ∙ ended in
      let (packets, is) = closed_file (file ++ more) (file ++ take n more) (drop n more) cut left unoffending_whole
      (all_front (file ++ take n more) (drop n more) (subst (All (λ b. b < 256)) cut received_whole.bytes_are)) closed in
      no_sooner packets n some few is) in
      omega (arith, room, length-append (open_bytes old) (take fed.used bytes))

  few_now : 0 < fed.used → frame_count new ≤ length (file ++ more)
  few_now some =
      let one = counts_one (frame_count old.receiver) (frame_count new) fed.ended feeds.counts in
      let few = had.few in
      let size = ap length whole in
      omega (arith, one, few, some, length-append file (open_bytes old), length-append file more, long)

  -- no packet ended
  pub fed_no : (packets : Packets) → packets.receiver ≡ new → open_bytes packets ≡ more → fed.ended ≡ ended.No → HasRead frames file packets
  fed_no packets receiver kept still =
      let count : frame_count new ≡ frame_count old.receiver = subst (Counts (frame_count old.receiver) (frame_count new)) still feeds.counts in
      let few = had.few in
      let none : NoPacketEnds file more = λ others n some below is. elim (no_more n (length (open_bytes old))) [
        | inl short ↦
            had.none others n some short (subst (λ b. IsWordsFile others (file ++ b)) (take-append-le n (open_bytes old) (take fed.used bytes) short) is)
        | inr past ↦ elim (no_more (length more) n) [
          | inl all ↦
              subst (λ e. EndsBy e ((file ++ open_bytes old) ++ take fed.used bytes)) still (feeds.ends (omega (arith, past, below, long))) others
              (subst (IsWordsFile others) (ap (λ b. file ++ b) (take_all n more all) ∙ sym whole) is)
          | inr before ↦ no_sooner others n some before is
        ]
      ] in
      record {
        received = subst (λ r. HasReceived (file ++ open_bytes packets) r) (sym receiver) (subst (λ b. HasReceived (file ++ b) new) (sym kept) received_whole);
        few = subst (λ r. frame_count r ≤ length (file ++ open_bytes packets)) (sym receiver)
            (subst (λ b. frame_count new ≤ length (file ++ b)) (sym kept)
            (omega (arith, count, few, length-append file (open_bytes old), length-append file more, long)));
        unoffending = subst (λ b. IsUnoffending caption_channel (file ++ b)) (sym kept) unoffending_whole;
        under = had.under;
        none = subst (NoPacketEnds file) (sym kept) none;
      }

  -- a packet ended
  the_packet : (packet : AncillaryPacket) → EndsWithPacket packet ((file ++ open_bytes old) ++ take fed.used bytes) → 0 < fed.used → IsPacketBytes packet more
  the_packet packet with some =
      one_packet had.under.file.packets with.earlier packet file more had.under.file.file (subst (IsWordsFile (with.earlier ++ packet ∷ [])) whole with.are)
      (omega (arith, some, long)) no_sooner

  under_now : (packet : AncillaryPacket) → EndsWithPacket packet ((file ++ open_bytes old) ++ take fed.used bytes)
      → (now : List Frame) × IsFileUnder caption_channel now (file ++ more)
  under_now packet with =
      file_under (with.earlier ++ packet ∷ []) (file ++ more) (subst (IsWordsFile (with.earlier ++ packet ∷ [])) whole with.are) unoffending_whole received_whole.bytes_are

  pub fed_foreign : (packets : Packets) → packets.receiver ≡ new → 0 < fed.used → fed.ended ≡ ended.Foreign → EndsForeign frames file more packets
  fed_foreign packets receiver some foreign =
      let (packet, with, isnt) = subst (λ e. EndsBy e ((file ++ open_bytes old) ++ take fed.used bytes)) foreign (feeds.ends some) in
      let is = the_packet packet with some in
      let (now, under) = under_now packet with in
      let same = (brings packet frames now file more had.under under is).foreign_brings isnt in
      record {
        packet = packet;
        is = is;
        is_foreign = isnt;
        received = subst (HasReceived (file ++ more)) (sym receiver) received_whole;
        few = subst (λ r. frame_count r ≤ length (file ++ more)) (sym receiver) (few_now some);
        unoffending = unoffending_whole;
        under = subst (λ f. IsFileUnder caption_channel f (file ++ more)) same under;
      }

  pub fed_caption : (packets : Packets) → packets.receiver ≡ new → 0 < fed.used → fed.ended ≡ ended.Caption → EndsCaption frames file more packets
  fed_caption packets receiver some caption =
      let (packet, with, is_caption) = subst (λ e. EndsBy e ((file ++ open_bytes old) ++ take fed.used bytes)) caption (feeds.ends some) in
      let is = the_packet packet with some in
      let (now, under) = under_now packet with in
      let (frame, carries, same) = (brings packet frames now file more had.under under is).caption_brings is_caption in
      record {
        packet = packet;
        is = is;
        is_caption = is_caption;
        frame = frame;
        carries = carries;
        received = subst (HasReceived (file ++ more)) (sym receiver) received_whole;
        few = subst (λ r. frame_count r ≤ length (file ++ more)) (sym receiver) (few_now some);
        unoffending = unoffending_whole;
        under = subst (λ f. IsFileUnder caption_channel f (file ++ more)) same under;
      }

  pub fed_ends : (packets : Packets) → packets.receiver ≡ new → open_bytes packets ≡ more → (answer : Ended) → fed.ended ≡ answer
      → (fed.ended ≡ ended.Caption → 0 < fed.used) → (fed.ended ≡ ended.Foreign → 0 < fed.used) → IsEndedAs answer frames file packets
  fed_ends packets receiver kept ended.No is by_caption by_foreign = fed_no packets receiver kept is
  fed_ends packets receiver kept ended.Foreign is by_caption by_foreign =
      subst (λ b. EndsForeign frames file b packets) (sym kept) (fed_foreign packets receiver (by_foreign is) is)
  fed_ends packets receiver kept ended.Caption is by_caption by_foreign =
      subst (λ b. EndsCaption frames file b packets) (sym kept) (fed_caption packets receiver (by_caption is) is)

-- a front of the bytes was read
pub reads_front : (frames : List Frame) (file bytes : List ℕ) (old new : Packets) (fed : Fed) → fed.used ≤ length bytes
    → (fed.ended ≡ ended.No → fed.used ≡ length bytes) → (fed.ended ≢ ended.No → 0 < fed.used)
    → open_bytes new ≡ open_bytes old ++ take fed.used bytes → IsEndedAs fed.ended frames file new → ReadsFront frames file bytes old new fed
reads_front frames file bytes old new fed within all moves kept ends = record {
  within = within;
  moves = λ any. moves_by fed.used (length bytes) fed.ended all moves any;
  kept = kept;
  ends = ends;
}

-- where a packet ended, some were
pub caption_moves : (used : ℕ) (answer : Ended) → (answer ≢ ended.No → 0 < used) → answer ≡ ended.Caption → 0 < used
caption_moves used answer some is = some (λ none. let clash = sym is ∙ none in cc)

pub foreign_moves : (used : ℕ) (answer : Ended) → (answer ≢ ended.No → 0 < used) → answer ≡ ended.Foreign → 0 < used
foreign_moves used answer some is = some (λ none. let clash = sym is ∙ none in cc)
