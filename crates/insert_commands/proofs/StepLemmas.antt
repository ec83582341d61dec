-- Words in which captions are inserted are judged packet by packet.
use Rattle.std.proofs.Common.{◌≡◌, ℕ, ◌%◌, inl, All, List, [], ◌∷◌, ◌++◌, length, take, drop, Option, Ok, Err, refl, ap, sym, subst, ◌∙◌, append_assoc, append-nil, length-append, arith}
use Rattle.std.proofs.lemmas.List.{length-map}
use Rattle.std.proofs.lemmas.List.Elements.{All-append, All-cons, All-nil}
use Rattle.std.specs.List.{concat}
use Rattle.cc_base.specs.Rate.{rate_code, rate_of}
use Rattle.cc_base.specs.Streams.{Puts}
use Rattle.cc_base.specs.declared.rate.Rate.{Rate}
use Rattle.cc_base.specs.declared.refusal.Refusal.{Refusal}
use Rattle.cc_base.specs.declared.streams.Put.TheVariants as put
use Rattle.anc_words.specs.Packets.{user_bytes}
use Rattle.words_reading.specs.Receivers.{frame_count}
use Rattle.words_reading.specs.Ended.TheVariants as ended
use Rattle.words_reading.specs.Fed.{Fed}
use Rattle.words_reading.proofs.TakenLemmas.{frames_count}
use Rattle.cdp_packets.specs.Packets.{Frame}
use Rattle.cdp_packets.proofs.PacketLemmas.{rate_of-code}
use Rattle.words_files.specs.Offences.{FirstOffendingWord, IsUnoffending}
use Rattle.services_files.specs.CaptionChannel.{caption_channel}
use Rattle.words_files.proofs.FramesOfLemmas.{file_frames}
use Rattle.text_output.proofs.PageLemmas.{gathered_more}
use Rattle.text_output.specs.Gathered.{Gathers}
use Rattle.words_reading.proofs.WayLemmas.{way_unwritten}
use Rattle.words_reading.specs.Causes.{words_limit}
use Rattle.words_reading.specs.Judging.{HasGathered, HasStopped, IsReady}
use Rattle.words_reading.specs.declared.judge.Stop.TheVariants as stop
use Rattle.insert_commands.specs.InsertVerdict.{HaltsInserting, SaysInserted}
use Rattle.insert_commands.specs.InsertSteps.{HasJudged, HasLastFrame, HasReadWords, Replaces}
use Rattle.insert_commands.specs.InsertedFile.{AreInserted, BringsFrame}
use Rattle.insert_commands.specs.InsertedFile.AreInserted.{caption, foreign, nothing}
use Rattle.insert_commands.specs.Soundness.{HaveRate}
use Rattle.cue_list_commands.specs.Framing.{Framing}
use Rattle.insert_commands.specs.Captions.{captions_of}
use Rattle.insert_commands.specs.ListCaptions.{GivesCaptions}
use Rattle.words_reading.proofs.PacketEndLemmas.{not_longer}
use Rattle.words_reading.proofs.RefusedLemmas.{frames_up_to}
use Rattle.words_reading.proofs.PacketWayLemmas.{ends_caption, ends_foreign, read_caption, read_foreign, read_still, spelled_rest, may_follow as packets_follow}
use Rattle.words_reading.specs.OpenPackets.{EndsCaption, HasRead, MayFollow, ReadsFront, RefusesWord, open_bytes}
use Rattle.cue_list_commands.specs.Plan.{Plan}
use Rattle.insert_commands.specs.declared.captions.Captions.{Captions}
use Rattle.insert_commands.specs.declared.inserting.Halt.{Halt}
use Rattle.insert_commands.specs.declared.inserting.Inserting.{Inserting}
use Rattle.words_reading.specs.declared.packets.Packets.{Packets}

-- rates with the same code are the same
pub same_rate : (r s : Rate) → rate_code r ≡ rate_code s → r ≡ s
same_rate r s same = cc (rate_of-code r, rate_of-code s, ap rate_of same)

-- what is judged of a file, and of the bytes of the packet that is open after it
pub judged_so : (list : Framing) (frames : List Frame) (file text bytes : List ℕ) (inserting : Inserting) → bytes ≡ file ++ open_bytes inserting.packets
    → HasRead frames file inserting.packets → GivesCaptions list (length frames) inserting.captions → AreInserted (captions_of list) frames file text
    → HaveRate list.rate frames → HasJudged list bytes text inserting
judged_so list frames file text bytes inserting spelled read gives inserted rates = record {
  says = record {
    frames = frames;
    frames_are = record {
      file = file;
      behind = open_bytes inserting.packets;
      spelled = spelled;
      is_file = read.under;
      longest = λ others other rest is is_file.
          not_longer file (open_bytes inserting.packets) other rest read.none (sym spelled ∙ is) is_file.file.packets is_file.file.file;
    };
    inserted = inserted;
    rates = rates;
  };
  unoffending = subst (IsUnoffending caption_channel) (sym spelled) read.unoffending;
  spelled = spelled;
  read = read;
  gives = gives;
}

-- nothing was judged
pub nothing_judged : (list : Framing) (inserting : Inserting) → HasRead [] [] inserting.packets → open_bytes inserting.packets ≡ []
    → GivesCaptions list 0 inserting.captions → HasJudged list [] [] inserting
nothing_judged list inserting read none gives =
    judged_so list [] [] [] [] inserting (sym none) read gives (nothing (captions_of list)) (All-nil (λ f. f.rate ≡ list.rate))

-- what was judged was read
abbrev pub has_read : (list : Framing) (bytes text : List ℕ) (inserting : Inserting) → HasJudged list bytes text inserting → HasReadWords bytes inserting
has_read list bytes text inserting had =
    record { frames = had.says.frames; file = had.says.frames_are.file; spelled = had.spelled; read = had.read }

-- what may follow
pub may_follow : (inserting : Inserting) (more : ℕ) → IsReady HasReadWords inserting more → MayFollow words_limit inserting.packets more
may_follow inserting more ready = packets_follow inserting.packets ready.before more ready.read ready.within

module _ (list : Framing) (start now : Option (List ℕ)) (held before bytes : List ℕ) (old : Inserting)
    (had : HasGathered (HasJudged list) start now held before old) where
  abbrev frames : List Frame
  frames = had.judged.says.frames

  abbrev file : List ℕ
  file = had.judged.says.frames_are.file

  abbrev was : HasReadWords before old
  was = has_read list before had.text old had.judged

  -- a word was refused
  pub word_refused : (refusal : Refusal) → RefusesWord had.judged.says.frames_are.file (open_bytes old.packets ++ bytes) refusal
      → HasStopped (SaysInserted list) (HaltsInserting list) start now held (before ++ bytes) (stop.Refused refusal)
  word_refused refusal refuses =
      let all : before ++ bytes ≡ (file ++ refuses.behind) ++ refuses.rest =
      ap (λ b. b ++ bytes) had.judged.spelled ∙ append_assoc file (open_bytes old.packets) bytes ∙ ap (λ b. file ++ b) refuses.spelled
      ∙ sym (append_assoc file refuses.behind refuses.rest) in
      let frames_are = frames_up_to refusal frames file refuses.behind refuses.rest had.judged.read.under refuses.stands in
      let said : SaysInserted list ((file ++ refuses.behind) ++ refuses.rest) had.text = record {
        frames = frames;
        frames_are = frames_are;
        inserted = had.judged.says.inserted;
        rates = had.judged.says.rates;
      } in
      record {
        judged = before ++ bytes;
        unjudged = [];
        text = had.text;
        spelled = sym (append-nil (before ++ bytes));
        cause = (
          refl,
          subst (λ b. FirstOffendingWord caption_channel b refusal) (sym all) refuses.stands.offends,
          subst (λ b. SaysInserted list b had.text) (sym all) said,
        );
        way = had.way;
      }

  -- a put failed of what was gathered before
  pub words_unwritten : (then : Option (List ℕ)) (after : List ℕ) → Puts now then put.Failed held
      → HasStopped (SaysInserted list) (HaltsInserting list) start then after (before ++ bytes) stop.WriteFault
  words_unwritten then after failed = record {
    judged = before;
    unjudged = bytes;
    text = had.text;
    spelled = refl;
    cause = inl had.judged.says;
    way = way_unwritten start now then held had.text had.way failed;
  }

  module _ (mid : Packets) (fed : Fed) (read : ReadsFront had.judged.says.frames had.judged.says.frames_are.file bytes old.packets mid fed) where
    -- no packet ended
    pub judged_still : fed.ended ≡ ended.No
        → HasGathered (HasJudged list) start now held (before ++ take fed.used bytes) (record { packets = mid; captions = old.captions })
    judged_still still =
        let new = read_still before bytes old.packets was mid fed read still in
        record {
          text = had.text;
          judged = judged_so list frames file had.text _ (record { packets = mid; captions = old.captions }) new.spelled new.read had.judged.gives
              had.judged.says.inserted had.judged.says.rates;
          way = had.way;
        }

    -- a packet that isn't one of captions was copied
    pub judged_foreign : (new : Packets) (then : Option (List ℕ)) (after : List ℕ) → fed.ended ≡ ended.Foreign
        → Gathers now then held after put.Done (open_bytes mid) → new.receiver ≡ mid.receiver → open_bytes new ≡ []
        → HasGathered (HasJudged list) start then after (before ++ take fed.used bytes) (record { packets = new; captions = old.captions })
    judged_foreign new then after is_foreign gathers receiver none =
        let is = ends_foreign fed.ended frames file mid is_foreign read.ends in
        let next = read_foreign before bytes old.packets was mid fed read new is_foreign receiver none in
        record {
          text = had.text ++ open_bytes mid;
          judged = judged_so list frames (file ++ open_bytes mid) (had.text ++ open_bytes mid) _ (record { packets = new; captions = old.captions }) next.spelled next.read
              had.judged.gives
              (foreign (captions_of list) frames file had.text (open_bytes mid) (file ++ open_bytes mid) (had.text ++ open_bytes mid)
              had.judged.says.inserted (record { packet = is.packet; is = is.is; is_foreign = is.is_foreign }) refl refl)
              had.judged.says.rates;
          way = gathered_more start now then put.Done held after (open_bytes mid) had.text had.way gathers;
        }

    -- a frame, with the packet that brought it
    abbrev pub last_of : fed.ended ≡ ended.Caption → EndsCaption had.judged.says.frames had.judged.says.frames_are.file (open_bytes mid) mid
    last_of is_caption = ends_caption fed.ended frames file mid is_caption read.ends

    -- the captions of the frame were gathered
    pub judged_caption : (new : Packets) (captions : Captions Plan) (words : List ℕ) (then : Option (List ℕ)) (after : List ℕ) (is_caption : fed.ended ≡ ended.Caption)
        → Replaces list had.judged.says.frames (last_of is_caption).frame captions words (Ok tt)
        → Gathers now then held after put.Done words → new.receiver ≡ mid.receiver → open_bytes new ≡ []
        → HasGathered (HasJudged list) start then after (before ++ take fed.used bytes) (record { packets = new; captions = captions })
    judged_caption new captions words then after is_caption (rate, gives, (new_frame, inserted, fits, words_are)) gathers receiver none =
        let is = last_of is_caption in
        let next = read_caption before bytes old.packets was mid fed read new is_caption receiver none in
        let brings : BringsFrame is.frame (open_bytes mid) = record { packet = is.packet; is = is.is; is_caption = is.is_caption; carries = is.carries } in
        record {
          text = had.text ++ words;
          judged = judged_so list (frames ++ is.frame ∷ []) (file ++ open_bytes mid) (had.text ++ words) _ (record { packets = new; captions = captions })
              next.spelled next.read (subst (λ n. GivesCaptions list n captions) (sym (length-append frames (is.frame ∷ []))) gives)
              (caption (captions_of list) frames (frames ++ is.frame ∷ []) is.frame new_frame file had.text (open_bytes mid) (file ++ open_bytes mid) (had.text ++ words)
              had.judged.says.inserted brings inserted fits refl refl (ap (λ w. had.text ++ w) words_are))
              (All-append (λ f. f.rate ≡ list.rate) frames (is.frame ∷ []) had.judged.says.rates
              (All-cons (λ f. f.rate ≡ list.rate) is.frame [] rate (All-nil (λ f. f.rate ≡ list.rate))));
          way = gathered_more start now then put.Done held after words had.text had.way gathers;
        }

    -- the run stopped at the frame
    pub halted : (captions : Captions Plan) (words : List ℕ) (why : Halt) (is_caption : fed.ended ≡ ended.Caption)
        → Replaces list had.judged.says.frames (last_of is_caption).frame captions words (Err why)
        → HasStopped (SaysInserted list) (HaltsInserting list) start now held (before ++ bytes) (stop.Own why)
    halted captions words why is_caption replaces =
        let is = last_of is_caption in
        record {
          judged = file ++ open_bytes mid;
          unjudged = drop fed.used bytes;
          text = had.text;
          spelled = spelled_rest before bytes old.packets was mid fed read;
          cause = record {
            frames = frames;
            last = is.frame;
            is_file = is.under;
            file = file;
            packet = open_bytes mid;
            spelled = refl;
            brings = record { packet = is.packet; is = is.is; is_caption = is.is_caption; carries = is.carries };
            inserted = had.judged.says.inserted;
            rates = had.judged.says.rates;
            is = replaces;
          };
          way = had.way;
        }

-- a packet of captions that ended brought a frame, whose sections fit
pub has_frame : (frames : List Frame) (file bytes : List ℕ) (packets : Packets) → EndsCaption frames file bytes packets → HasLastFrame packets.receiver
has_frame frames file bytes packets is =
    let are = file_frames caption_channel (frames ++ is.frame ∷ []) (file ++ bytes) is.under in
    let count : frame_count packets.receiver ≡ length (frames ++ is.frame ∷ []) = frames_count (frames ++ is.frame ∷ []) (file ++ bytes) packets.receiver is.received are in
    let carries = is.carries in
    let low = is.is.is_packet.has_count.low_bits in
    let many : length (user_bytes is.packet) ≡ length is.packet.user = length-map is.packet.user (λ word. word % 256) in
    let spelled = ap length carries.spelled in
    let long = length-append (concat is.frame.sections) (0x74 ∷ carries.high ∷ carries.low ∷ carries.last ∷ []) in
    record {
      bytes = file ++ bytes;
      earlier = frames;
      last = is.frame;
      received = is.received;
      frames_are = are;
      counted = omega (arith, count, length-append frames (is.frame ∷ []));
      sections = carries.sections;
      short = omega (arith, low, many, spelled, long);
    }
