-- Words whose MCC file is put are judged packet by packet.
use Rattle.std.proofs.Common.{◌≡◌, ℕ, ◌+◌, ◌-◌, ◌<◌, ◌≤◌, inl, IfOk, List, [], ◌∷◌, ◌++◌, length, take, drop, Option, Result, Ok, Err, refl, ap, sym, subst, ◌∙◌, append_assoc, append-nil, length-append, arith}
use Rattle.anc_words.specs.Packets.{AncillaryPacket, IsCaption}
use Rattle.anc_words.specs.WordsFiles.{IsPacketBytes}
use Rattle.cc_base.specs.declared.refusal.Refusal.{Refusal}
use Rattle.cc_base.specs.declared.streams.Put.TheVariants as put
use Rattle.words_reading.proofs.TakenLemmas.{frames_count}
use Rattle.words_reading.specs.Receivers.{frame_count}
use Rattle.words_reading.specs.Ended.TheVariants as ended
use Rattle.words_reading.specs.Fed.{Fed}
use Rattle.cdp_packets.specs.Packets.{Frame}
use Rattle.findings.specs.declared.finding.Finding.{Finding}
use Rattle.command_base.specs.declared.status.Status.TheVariants as status
use Rattle.findings.specs.declared.finding.Kind45.{Kind45}
use Rattle.findings.specs.declared.finding.Kind45.TheVariants as kind
use Rattle.mcc_files.specs.Writing.{IsWrittenLine, written_head}
use Rattle.mcc_files.specs.PayloadWords.{payload_of}
use Rattle.words_reading.proofs.PacketEndLemmas.{not_longer}
use Rattle.words_reading.proofs.RefusedLemmas.{frames_up_to}
use Rattle.words_reading.proofs.PacketWayLemmas.{ends_caption, ends_foreign, read_caption, read_foreign, read_still, spelled_rest, may_follow as packets_follow}
use Rattle.words_reading.specs.OpenPackets.{EndsCaption, EndsForeign, HasRead, MayFollow, ReadsFront, RefusesWord, open_bytes}
use Rattle.words_reading.specs.declared.packets.Packets.{Packets}
use Rattle.services_files.specs.CaptionChannel.{caption_channel}
use Rattle.text_output.proofs.PageLemmas.{gathered_more}
use Rattle.text_output.specs.Gathered.{Gathers}
use Rattle.time_codes.specs.Countings.{day_frames_in}
use Rattle.words_files.proofs.FramesOfLemmas.{file_frames}
use Rattle.words_files.specs.Offences.{FirstOffendingWord, IsUnoffending}
use Rattle.words_reading.proofs.WayLemmas.{way_unwritten}
use Rattle.words_reading.specs.Causes.{words_limit}
use Rattle.words_reading.specs.Judging.{HasGathered, HasStopped, IsReady, StepJudges}
use Rattle.words_reading.specs.declared.judge.Stop.{Stop}
use Rattle.words_reading.specs.declared.judge.Stop.TheVariants as stop
use Rattle.mcc_commands.proofs.ExportedLemmas.{mcc_caption, mcc_foreign, mcc_nothing, mcc_same, one_rate}
use Rattle.mcc_commands.specs.ExportMcc.{HaltsMcc, IsMccOf, SaysMcc}
use Rattle.mcc_commands.specs.ExportSteps.{AddsLine, HasJudged, HasReadWords, IsAnyPacket, IsCaptionPacket, IsStoppedBy, StandsBehind, WritesCaption, WritesForeign, stop_status}
use Rattle.mcc_commands.specs.Exported.{Brings, HaveOneRate, IsFoundAtPacket, StopsAtPacket}
use Rattle.mcc_commands.specs.declared.clock.Clock.{Clock}
use Rattle.mcc_commands.specs.declared.export_stop.MccStop.{MccStop}
use Rattle.mcc_commands.specs.declared.export_stop.MccStop.TheVariants as reason
use Rattle.mcc_commands.specs.declared.start.Start.{Start}
use Rattle.mcc_commands.specs.declared.exporting.Exporting.{Exporting}

-- what a stop says of words that are exported
abbrev pub Halts : Start → MccStop → List ℕ → List ℕ → Type 0
Halts start why = HaltsMcc start (stop_status why)

-- what is judged of a file, and of the bytes of the packet that is open after it
pub judged_so : (start : Start) (frames : List Frame) (file text bytes : List ℕ) (exporting : Exporting) → bytes ≡ file ++ open_bytes exporting.packets
    → (read : HasRead frames file exporting.packets) → StandsBehind start frames exporting.clock → IsMccOf start frames file read.under text
    → HasJudged start bytes text exporting
judged_so start frames file text bytes exporting spelled read stands mcc = record {
  says = record {
    frames = frames;
    frames_are = record {
      file = file;
      behind = open_bytes exporting.packets;
      spelled = spelled;
      is_file = read.under;
      longest = λ others other rest is is_file.
          not_longer file (open_bytes exporting.packets) other rest read.none (sym spelled ∙ is) is_file.file.packets is_file.file.file;
    };
    mcc = mcc;
  };
  unoffending = subst (IsUnoffending caption_channel) (sym spelled) read.unoffending;
  spelled = spelled;
  read = read;
  stands = stands;
}

-- nothing was judged
pub nothing_judged : (start : Start) (exporting : Exporting) → HasRead [] [] exporting.packets → open_bytes exporting.packets ≡ [] → StandsBehind start [] exporting.clock
    → start.first < day_frames_in start.count → HasJudged start [] (written_head start.count) exporting
nothing_judged start exporting read none stands below =
    judged_so start [] [] (written_head start.count) [] exporting (sym none) read stands (mcc_nothing start read.under below)

-- what was judged was read
abbrev pub has_read : (start : Start) (bytes text : List ℕ) (exporting : Exporting) → HasJudged start bytes text exporting → HasReadWords bytes exporting
has_read start bytes text exporting had =
    record { frames = had.says.frames; file = had.says.frames_are.file; spelled = had.spelled; read = had.read }

-- what may follow
pub may_follow : (exporting : Exporting) (more : ℕ) → IsReady HasReadWords exporting more → MayFollow words_limit exporting.packets more
may_follow exporting more ready = packets_follow exporting.packets ready.before more ready.read ready.within

-- a packet that ended is one, and one of captions ends a frame
pub any_foreign : (frames : List Frame) (file bytes : List ℕ) (packets : Packets) → EndsForeign frames file bytes packets → IsAnyPacket bytes
any_foreign frames file bytes packets is = record { packet = is.packet; is = is.is }

pub any_caption : (frames : List Frame) (file bytes : List ℕ) (packets : Packets) → EndsCaption frames file bytes packets → IsCaptionPacket bytes
any_caption frames file bytes packets is = record { packet = is.packet; is = is.is; is_caption = is.is_caption }

pub some_frame : (frames : List Frame) (file bytes : List ℕ) (packets : Packets) → EndsCaption frames file bytes packets → 0 < frame_count packets.receiver
some_frame frames file bytes packets is =
    let are = file_frames caption_channel (frames ++ is.frame ∷ []) (file ++ bytes) is.under in
    let count : frame_count packets.receiver ≡ length (frames ++ is.frame ∷ []) = frames_count (frames ++ is.frame ∷ []) (file ++ bytes) packets.receiver is.received are in
    omega (arith, count, length-append frames (is.frame ∷ []))

-- what is found at a packet stops an export
stops_found : (start : Start) (frames : List Frame) (packet : AncillaryPacket) (finding : Finding) (number : ℕ) (found : Kind45)
    → finding ≡ record { frame = number; kind = found } → number ≡ length frames → IsFoundAtPacket start.count frames packet found
    → StopsAtPacket start frames packet (status.Differs finding)
stops_found start frames packet finding number found is same at =
    (ap (λ (f : Finding). f.frame) is ∙ same, subst (λ (f : Finding). IsFoundAtPacket start.count frames packet f.kind) (sym is) at)

stops_foreign : (start : Start) (frames : List Frame) (clock : Clock) (number : ℕ) (packet : AncillaryPacket) (line : List ℕ) (why : MccStop) → (IsCaption packet → ⊥)
    → number ≡ length frames → WritesForeign clock number packet line (Err why) → StopsAtPacket start frames packet (stop_status why)
stops_foreign start frames clock number packet line (reason.Found finding) isnt same (not_of_bytes, is) =
    stops_found start frames packet finding number kind.EightBits is same (isnt, not_of_bytes)
stops_foreign start frames clock number packet line reason.Day isnt same writes = absurd writes

stops_caption : (start : Start) (frames : List Frame) (packet : AncillaryPacket) (last : Frame) (why : MccStop) → HaveOneRate start.count frames → Brings packet last
    → IsStoppedBy start frames last.rate why
    → StopsAtPacket start frames packet (stop_status why)
stops_caption start frames packet last (reason.Found finding) rates brings (expected, wrong, is) =
    stops_found start frames packet finding (length frames) (kind.WrongRate expected last.rate) is refl (last, brings, refl, wrong)
stops_caption start frames packet last reason.Day rates brings (has_rate, past) =
    record { frame = last; brings = brings; rates = one_rate start.count frames last rates has_rate; past = past }

-- a packet's line was added, or a put failed
pub line_read : (now then : Option (List ℕ)) (held after line before bytes : List ℕ) (used : ℕ) (mid new : Exporting) (result : Result ℕ (Stop MccStop))
    → AddsLine now then held after line used mid new result
    → (new.packets.receiver ≡ mid.packets.receiver → open_bytes new.packets ≡ [] → HasReadWords (before ++ take used bytes) new)
    → IfOk result (λ read. HasReadWords (before ++ take read bytes) new)
line_read now then held after line before bytes used mid new (Ok read) (same, gathers, receiver, none, clock) reads =
    subst (λ n. HasReadWords (before ++ take n bytes) new) (sym same) (reads receiver none)
line_read now then held after line before bytes used mid new (Err why) adds reads = tt

pub line_used : (now then : Option (List ℕ)) (held after line bytes : List ℕ) (used : ℕ) (mid new : Exporting) (result : Result ℕ (Stop MccStop))
    → AddsLine now then held after line used mid new result → 0 < used → used ≤ length bytes → IfOk result (λ read. (0 < read) × (read ≤ length bytes))
line_used now then held after line bytes used mid new (Ok read) (same, gathers, receiver, none, clock) some within = (omega arith, omega arith)
line_used now then held after line bytes used mid new (Err why) adds some within = tt

pub line_judged : (start : Start) (begun now then : Option (List ℕ)) (held after line before bytes : List ℕ) (used : ℕ) (old mid new : Exporting) (result : Result ℕ (Stop MccStop))
    → HasGathered (HasJudged start) begun now held before old → AddsLine now then held after line used mid new result
    → (Gathers now then held after put.Done line → new.packets.receiver ≡ mid.packets.receiver → open_bytes new.packets ≡ [] → new.clock ≡ mid.clock
    → HasGathered (HasJudged start) begun then after (before ++ take used bytes) new)
    → StepJudges (HasJudged start) (SaysMcc start) (Halts start) begun then after before bytes new result
line_judged start begun now then held after line before bytes used old mid new (Ok read) had (same, gathers, receiver, none, clock) judges =
    subst (λ n. HasGathered (HasJudged start) begun then after (before ++ take n bytes) new) (sym same) (judges gathers receiver none clock)
line_judged start begun now then held after line before bytes used old mid new (Err stop.WriteFault) had failed judges = record {
  judged = before;
  unjudged = bytes;
  text = had.text;
  spelled = refl;
  cause = inl had.judged.says;
  way = way_unwritten begun now then held had.text had.way failed;
}
line_judged start begun now then held after line before bytes used old mid new (Err _) had adds judges = absurd adds

module _ (start : Start) (begun now : Option (List ℕ)) (held before bytes : List ℕ) (old : Exporting)
    (had : HasGathered (HasJudged start) begun now held before old) where
  abbrev frames : List Frame
  frames = had.judged.says.frames

  abbrev file : List ℕ
  file = had.judged.says.frames_are.file

  abbrev was : HasReadWords before old
  was = has_read start before had.text old had.judged

  -- the file before is one of packets that are exported
  mcc_was : IsMccOf start frames file had.judged.says.frames_are.is_file had.text
  mcc_was = had.judged.says.mcc

  -- a word was refused
  pub word_refused : (refusal : Refusal) → RefusesWord had.judged.says.frames_are.file (open_bytes old.packets ++ bytes) refusal
      → HasStopped (SaysMcc start) (Halts start) begun now held (before ++ bytes) (stop.Refused refusal)
  word_refused refusal refuses =
      let all : before ++ bytes ≡ (file ++ refuses.behind) ++ refuses.rest =
      ap (λ b. b ++ bytes) had.judged.spelled ∙ append_assoc file (open_bytes old.packets) bytes ∙ ap (λ b. file ++ b) refuses.spelled
      ∙ sym (append_assoc file refuses.behind refuses.rest) in
      let said : SaysMcc start ((file ++ refuses.behind) ++ refuses.rest) had.text = record {
        frames = frames;
        frames_are = frames_up_to refusal frames file refuses.behind refuses.rest had.judged.says.frames_are.is_file refuses.stands;
        mcc = mcc_was;
      } in
      record {
        judged = before ++ bytes;
        unjudged = [];
        text = had.text;
        spelled = sym (append-nil (before ++ bytes));
        cause = (
          refl,
          subst (λ b. FirstOffendingWord caption_channel b refusal) (sym all) refuses.stands.offends,
          subst (λ b. SaysMcc start b had.text) (sym all) said,
        );
        way = had.way;
      }

  module _ (mid : Packets) (fed : Fed) (read : ReadsFront had.judged.says.frames had.judged.says.frames_are.file bytes old.packets mid fed) where
    -- no packet ended
    pub judged_still : fed.ended ≡ ended.No
        → HasGathered (HasJudged start) begun now held (before ++ take fed.used bytes) (record { packets = mid; clock = old.clock })
    judged_still still =
        let new = read_still before bytes old.packets was mid fed read still in
        record {
          text = had.text;
          judged = judged_so start frames file had.text _ (record { packets = mid; clock = old.clock }) new.spelled new.read had.judged.stands
              (mcc_same start frames file had.text had.judged.says.frames_are.is_file new.read.under mcc_was);
          way = had.way;
        }

    abbrev pub foreign_of : fed.ended ≡ ended.Foreign → EndsForeign had.judged.says.frames had.judged.says.frames_are.file (open_bytes mid) mid
    foreign_of is_foreign = ends_foreign fed.ended frames file mid is_foreign read.ends

    abbrev pub caption_of : fed.ended ≡ ended.Caption → EndsCaption had.judged.says.frames had.judged.says.frames_are.file (open_bytes mid) mid
    caption_of is_caption = ends_caption fed.ended frames file mid is_caption read.ends

    -- a packet that isn't one of captions was written
    pub judged_foreign : (new : Exporting) (number : ℕ) (line : List ℕ) (then : Option (List ℕ)) (after : List ℕ) (is_foreign : fed.ended ≡ ended.Foreign)
        → WritesForeign old.clock number (foreign_of is_foreign).packet line (Ok tt) → Gathers now then held after put.Done line
        → new.packets.receiver ≡ mid.receiver → open_bytes new.packets ≡ [] → new.clock ≡ old.clock
        → HasGathered (HasJudged start) begun then after (before ++ take fed.used bytes) new
    judged_foreign new number line then after is_foreign (of_bytes, written) gathers receiver none clock =
        let is = foreign_of is_foreign in
        let next = read_foreign before bytes old.packets was mid fed read new.packets is_foreign receiver none in
        let stands = had.judged.stands in
        let at_last : IsWrittenLine start.count (start.first + (length frames - 1)) (payload_of is.packet) line =
        subst (λ f. IsWrittenLine start.count f (payload_of is.packet) line) stands.last_is
        (subst (λ c. IsWrittenLine c old.clock.last (payload_of is.packet) line) stands.count_is written) in
        record {
          text = had.text ++ line;
          judged = judged_so start frames (file ++ open_bytes mid) (had.text ++ line) _ new next.spelled next.read
              (subst (StandsBehind start frames) (sym clock) stands)
              (mcc_foreign start frames file (open_bytes mid) had.text line had.judged.says.frames_are.is_file next.read.under is.packet mcc_was is.is is.is_foreign of_bytes at_last);
          way = gathered_more begun now then put.Done held after line had.text had.way gathers;
        }

    -- a packet of captions was written
    pub judged_caption : (new : Exporting) (clock : Clock) (line : List ℕ) (then : Option (List ℕ)) (after : List ℕ) (is_caption : fed.ended ≡ ended.Caption)
        → WritesCaption start had.judged.says.frames (caption_of is_caption).frame.rate (caption_of is_caption).packet clock line (Ok tt)
        → Gathers now then held after put.Done line → new.packets.receiver ≡ mid.receiver → open_bytes new.packets ≡ [] → new.clock ≡ clock
        → HasGathered (HasJudged start) begun then after (before ++ take fed.used bytes) new
    judged_caption new clock line then after is_caption (frame, passes, written) gathers receiver none same =
        let is = caption_of is_caption in
        let next = read_caption before bytes old.packets was mid fed read new.packets is_caption receiver none in
        let at : IsWrittenLine start.count (start.first + length frames) (payload_of is.packet) line =
        subst (λ f. IsWrittenLine start.count f (payload_of is.packet) line) passes.frame_is written in
        let below : start.first + length frames < day_frames_in start.count = subst (λ f. f < day_frames_in start.count) passes.frame_is passes.of_day in
        record {
          text = had.text ++ line;
          judged = judged_so start (frames ++ is.frame ∷ []) (file ++ open_bytes mid) (had.text ++ line) _ new next.spelled next.read
              (subst (StandsBehind start (frames ++ is.frame ∷ [])) (sym same) (passes.stands is.frame refl))
              (mcc_caption start frames is.frame file (open_bytes mid) had.text line had.judged.says.frames_are.is_file next.read.under is.packet mcc_was is.is is.is_caption
              passes.has_rate below at);
          way = gathered_more begun now then put.Done held after line had.text had.way gathers;
        }

    -- a packet ended at which the run stops
    halted : (why : MccStop) (packet : AncillaryPacket) → IsPacketBytes packet (open_bytes mid) → IsUnoffending caption_channel (file ++ open_bytes mid)
        → StopsAtPacket start frames packet (stop_status why) → HasStopped (SaysMcc start) (Halts start) begun now held (before ++ bytes) (stop.Own why)
    halted why packet is unoffending stops = record {
      judged = file ++ open_bytes mid;
      unjudged = drop fed.used bytes;
      text = had.text;
      spelled = spelled_rest before bytes old.packets was mid fed read;
      cause = record {
        at = record {
          frames = frames;
          file = file;
          is_file = had.judged.says.frames_are.is_file;
          fit = mcc_was.fit;
          last = packet;
          packet = open_bytes mid;
          is_packet = is;
          spelled = refl;
          unoffending = unoffending;
          is = stops;
        };
        written = mcc_was.written;
      };
      way = had.way;
    }

    pub halted_foreign : (number : ℕ) (line : List ℕ) (why : MccStop) (is_foreign : fed.ended ≡ ended.Foreign)
        → WritesForeign old.clock number (foreign_of is_foreign).packet line (Err why) → number ≡ length had.judged.says.frames
        → HasStopped (SaysMcc start) (Halts start) begun now held (before ++ bytes) (stop.Own why)
    halted_foreign number line why is_foreign writes same =
        let is = foreign_of is_foreign in
        halted why is.packet is.is is.unoffending (stops_foreign start frames old.clock number is.packet line why is.is_foreign same writes)

    pub halted_caption : (clock : Clock) (line : List ℕ) (why : MccStop) (is_caption : fed.ended ≡ ended.Caption)
        → WritesCaption start had.judged.says.frames (caption_of is_caption).frame.rate (caption_of is_caption).packet clock line (Err why)
        → HasStopped (SaysMcc start) (Halts start) begun now held (before ++ bytes) (stop.Own why)
    halted_caption clock line why is_caption writes =
        let is = caption_of is_caption in
        halted why is.packet is.is is.unoffending
        (stops_caption start frames is.packet is.frame why had.judged.says.mcc.fit.rates (record { is_caption = is.is_caption; carries = is.carries }) writes)
