-- Words are judged by a converter.
use Rattle.std.proofs.Common.{◌≡◌, ◌∙◌, ◌≢◌, ◌+◌, ◌++◌, ◌<◌, ◌≤◌, ap, append-nil, arith, drop, inl, length, refl, subst, sym, take, ℕ, List, [], ◌∷◌, Option, None, Some}
use Rattle.cc_base.specs.declared.refusal.Refusal.{Refusal}
use Rattle.cc_base.specs.declared.streams.Put.{Put}
use Rattle.cc_base.specs.declared.streams.Put.TheVariants as put
use Rattle.words_reading.proofs.FedFrames.{IsNextFrame, counted_nothing, counts_none, counts_one, frame_more, frames_still, nothing_is_file, nothing_offends}
use Rattle.words_reading.specs.Feeds.{Counts, HasFed, HasRefused}
use Rattle.words_reading.specs.Receivers.{frame_count}
use Rattle.words_reading.specs.Ended.TheVariants as ended
use Rattle.words_reading.specs.Fed.{Fed}
use Rattle.cdp_packets.specs.Packets.{Frame}
use Rattle.findings.specs.declared.misfit.Misfit.{Misfit}
use Rattle.rate_convert.specs.Conversion.{conversion_bytes}
use Rattle.rate_convert.proofs.ConversionLemmas.{bytes_more}
use Rattle.rate_convert.proofs.ConverterLemmas.{stands_behind}
use Rattle.rate_convert.proofs.FitLemmas.{fit_none, fit_of_none}
use Rattle.rate_convert.proofs.OnceLemmas.{fit_among}
use Rattle.rate_convert.specs.Converters.{HasConverted, StandsBehind, converter_misfit, input_of}
use Rattle.rate_convert.specs.Halvers.{halves_words, misfit_of}
use Rattle.rate_convert.specs.Misfits.{AreFit, HasMisfit}
use Rattle.rate_convert.specs.declared.converter.Converter.{Converter}
use Rattle.rate_convert.specs.declared.halver.Halver.{Halver}
use Rattle.words_reading.specs.CaptionChannel.{caption_channel}
use Rattle.text_output.proofs.PageLemmas.{gathered_more, piece_added}
use Rattle.text_output.specs.Gathered.{Gathers, GathersText, IsGathered}
use Rattle.words_files.proofs.FramesOfLemmas.{file_frames}
use Rattle.words_files.specs.FramesOf.{AreFramesOf}
use Rattle.words_reading.proofs.PieceLemmas.{front_size, front_spelled}
use Rattle.words_reading.specs.Judging.{HasGathered, HasStopped}
use Rattle.words_reading.specs.declared.judge.Stop.TheVariants as stop
use Rattle.convert_commands.specs.ConvertVerdict.{ConvertHalts}
use Rattle.convert_commands.specs.Converting.{AreConverted, HasMade, IsUnderway, unfit_status}
use Rattle.convert_commands.specs.declared.converting.Converting.{Converting}
use Rattle.convert_commands.specs.declared.converting.Unfit.{Unfit}

-- frames that are all fit have no misfit
never_unfit : (frames : List Frame) (found : Misfit) → AreFit frames → HasMisfit frames found → ⊥
never_unfit frames found fit has =
    let split : frames ≡ (has.earlier ++ has.last ∷ []) ++ [] = has.split ∙ sym (append-nil (has.earlier ++ has.last ∷ [])) in
    fit_none has.earlier has.last found.kind (fit_among has.earlier has.last [] (subst AreFit split fit)) has.is.1.holds

stands_none : (m : Option Misfit) (frames : List Frame) (halver : Halver) → AreFit frames → StandsBehind m frames halver → m ≡ None
stands_none None frames halver fit stands = refl
stands_none (Some found) frames halver fit stands = absurd (never_unfit frames found fit stands)

-- so a converter that took just these has none
none_found : (bytes : List ℕ) (frames : List Frame) (converter : Converter) → HasConverted bytes converter → AreFramesOf caption_channel frames bytes → AreFit frames
    → converter_misfit converter ≡ None
none_found bytes frames converter had are fit =
    stands_none (misfit_of converter.halver) frames converter.halver fit (stands_behind bytes frames converter had are)

-- a converter that was fed nothing
pub nothing_made : (converting : Converting) → HasConverted [] converting.converter → HasMade [] [] converting
nothing_made converting had =
    let count = counted_nothing converting.converter.input had.received in
    let are = file_frames caption_channel [] [] nothing_is_file in
    record {
      underway = record { converted = had; none = none_found [] [] converting.converter had are fit_of_none; unoffending = nothing_offends; few = omega arith };
      says = record { frames = []; frames_are = are; fit = fit_of_none; text_is = refl };
    }

-- a front of the bytes was taken, and no frame has a misfit
pub goes_on : (before bytes : List ℕ) (old new : Converter) (fed : Fed) → IsUnderway before old → HasFed before bytes (input_of old) (input_of new) fed
    → HasConverted (before ++ take fed.used bytes) new → converter_misfit new ≡ None → fed.used ≤ length bytes → 0 < fed.used
    → IsUnderway (before ++ take fed.used bytes) new
goes_on before bytes old new fed had feeds converted none within moves =
    let size = front_size before bytes fed.used within in
    let one = counts_one (frame_count (input_of old)) (frame_count (input_of new)) fed.ended feeds.counts in
    let few = had.few in
    record { converted = converted; none = none; unoffending = feeds.unoffending; few = omega arith }

-- a word is refused
pub word_refused : {Halts : Unfit → List ℕ → List ℕ → Type 0} → (start now : Option (List ℕ)) (held before bytes : List ℕ) (old : Converting) (new : Converter) (refusal : Refusal)
    → HasGathered HasMade start now held before old → HasRefused before bytes (input_of old.converter) (input_of new) refusal
    → HasStopped AreConverted Halts start now held (before ++ bytes) (stop.Refused refusal)
word_refused start now held before bytes old new refusal had refused =
    let says = had.judged.says in
    record {
      judged = before ++ bytes;
      unjudged = [];
      text = had.text;
      spelled = sym (append-nil (before ++ bytes));
      cause = (
        refl,
        refused.offence,
        record {
          frames = says.frames;
          frames_are = frames_still before bytes old.converter.input new.input says.frames says.frames_are had.judged.underway.converted.received refused.received refused.stays;
          fit = says.fit;
          text_is = says.text_is;
        },
      );
      way = had.way;
    }

-- no frame ended: the frames are those that they were
no_more : (before bytes : List ℕ) (frames : List Frame) (old new : Converter) (fed : Fed) → IsUnderway before old → AreFramesOf caption_channel frames before
    → HasFed before bytes (input_of old) (input_of new) fed → fed.ended ≢ ended.Caption → AreFramesOf caption_channel frames (before ++ take fed.used bytes)
no_more before bytes frames old new fed had are feeds other =
    frames_still before (take fed.used bytes) old.input new.input frames are had.converted.received feeds.received
    (counts_none (frame_count old.input) (frame_count new.input) fed.ended other feeds.counts)

pub no_frame : (start now : Option (List ℕ)) (held before bytes : List ℕ) (old : Converting) (new : Converter) (fed : Fed)
    → HasGathered HasMade start now held before old → HasFed before bytes (input_of old.converter) (input_of new) fed
    → HasConverted (before ++ take fed.used bytes) new → fed.ended ≢ ended.Caption → fed.used ≤ length bytes → 0 < fed.used
    → HasGathered HasMade start now held (before ++ take fed.used bytes) (record { converter = new })
no_frame start now held before bytes old new fed had feeds converted other within moves =
    let says = had.judged.says in
    let are = no_more before bytes says.frames old.converter new fed had.judged.underway says.frames_are feeds other in
    record {
      text = had.text;
      judged = record {
        underway = goes_on before bytes old.converter new fed had.judged.underway feeds converted (none_found (before ++ take fed.used bytes) says.frames new converted are says.fit) within moves;
        says = record { frames = says.frames; frames_are = are; fit = says.fit; text_is = says.text_is };
      };
      way = had.way;
    }

-- so some frames are all fit where a converter is under way
fit_underway : (bytes : List ℕ) (converter : Converter) → IsUnderway bytes converter → (frames : List Frame) → AreFramesOf caption_channel frames bytes → AreFit frames
fit_underway bytes converter had frames are =
    by_none (misfit_of converter.halver) had.none (stands_behind bytes frames converter had.converted are)
  where
    by_none : (m : Option Misfit) → m ≡ None → StandsBehind m frames converter.halver → AreFit frames
    by_none None is stands = stands.fit
    by_none (Some found) is stands = cc

-- the same of the converter alone
pub still_underway : (before bytes : List ℕ) (old new : Converter) (fed : Fed) → IsUnderway before old → HasFed before bytes (input_of old) (input_of new) fed
    → HasConverted (before ++ take fed.used bytes) new → fed.ended ≢ ended.Caption → fed.used ≤ length bytes → 0 < fed.used
    → IsUnderway (before ++ take fed.used bytes) new
still_underway before bytes old new fed had feeds converted other within moves =
    let frames = had.converted.frames in
    let are = no_more before bytes frames old new fed had had.converted.frames_are feeds other in
    let fit = fit_underway before old had frames had.converted.frames_are in
    goes_on before bytes old new fed had feeds converted (none_found (before ++ take fed.used bytes) frames new converted are fit) within moves

-- a frame ended
next_frame : (before bytes : List ℕ) (frames : List Frame) (old new : Converter) (fed : Fed) → IsUnderway before old → AreFramesOf caption_channel frames before
    → HasFed before bytes (input_of old) (input_of new) fed → fed.ended ≡ ended.Caption → IsNextFrame frames (before ++ take fed.used bytes)
next_frame before bytes frames old new fed had are feeds caption =
    frame_more before (take fed.used bytes) old.input new.input frames are had.converted.received feeds.received
    (subst (Counts (frame_count (input_of old)) (frame_count (input_of new))) caption feeds.counts)

-- a frame more is counted
pub some_counted : (before bytes : List ℕ) (old new : Converter) (fed : Fed) → HasFed before bytes (input_of old) (input_of new) fed → fed.ended ≡ ended.Caption
    → 0 < frame_count (input_of new)
some_counted before bytes old new fed feeds caption =
    let counted : frame_count (input_of new) ≡ frame_count (input_of old) + 1 =
    subst (Counts (frame_count (input_of old)) (frame_count (input_of new))) caption feeds.counts in
    omega arith

-- its words are gathered after the earlier frames' words
words_gathered : (start now then : Option (List ℕ)) (held after words text : List ℕ) (frames : List Frame) (last : Frame) (r : Put)
    → IsGathered start now held text → text ≡ conversion_bytes frames → words ≡ halves_words (length frames) last → Gathers now then held after r words
    → GathersText start then after (conversion_bytes (frames ++ last ∷ [])) r
words_gathered start now then held after words text frames last r way text_is is gathers =
    subst (λ (l : List ℕ). GathersText start then after l r) (ap (λ (t : List ℕ). t ++ words) text_is ∙ ap (λ (w : List ℕ). conversion_bytes frames ++ w) is ∙ sym (bytes_more frames last))
    (gathered_more start now then r held after words text way (piece_added now then r held after words gathers))

-- what the contract of the words that a frame becomes says
abbrev pub AreWords : Converter → List ℕ → List ℕ → Type 0
AreWords converter bytes words = (earlier : List Frame) (last : Frame) → AreFramesOf caption_channel (earlier ++ last ∷ []) bytes → words ≡ halves_words (length earlier) last

-- its words were added
pub words_added : (start now then : Option (List ℕ)) (held after words before bytes : List ℕ) (old : Converting) (new : Converter) (fed : Fed)
    → HasGathered HasMade start now held before old → HasFed before bytes (input_of old.converter) (input_of new) fed
    → HasConverted (before ++ take fed.used bytes) new → converter_misfit new ≡ None → fed.ended ≡ ended.Caption → fed.used ≤ length bytes → 0 < fed.used
    → AreWords new (before ++ take fed.used bytes) words → Gathers now then held after put.Done words
    → HasGathered HasMade start then after (before ++ take fed.used bytes) (record { converter = new })
words_added start now then held after words before bytes old new fed had feeds converted none caption within moves are gathers =
    let says = had.judged.says in
    let next = next_frame before bytes says.frames old.converter new fed had.judged.underway says.frames_are feeds caption in
    let underway = goes_on before bytes old.converter new fed had.judged.underway feeds converted none within moves in
    record {
      text = conversion_bytes (says.frames ++ next.frame ∷ []);
      judged = record {
        underway = underway;
        says = record {
          frames = says.frames ++ next.frame ∷ [];
          frames_are = next.frames_are;
          fit = fit_underway (before ++ take fed.used bytes) new underway (says.frames ++ next.frame ∷ []) next.frames_are;
          text_is = refl;
        };
      };
      way = words_gathered start now then held after words had.text says.frames next.frame put.Done had.way says.text_is (are says.frames next.frame next.frames_are) gathers;
    }

-- or a put of them failed
pub words_failed : (start now then : Option (List ℕ)) (held after words before bytes : List ℕ) (old : Converting) (new : Converter) (fed : Fed)
    → HasGathered HasMade start now held before old → HasFed before bytes (input_of old.converter) (input_of new) fed
    → HasConverted (before ++ take fed.used bytes) new → converter_misfit new ≡ None → fed.ended ≡ ended.Caption → fed.used ≤ length bytes → 0 < fed.used
    → AreWords new (before ++ take fed.used bytes) words → Gathers now then held after put.Failed words
    → HasStopped AreConverted (λ (unfit : Unfit). ConvertHalts (unfit_status unfit)) start then after (before ++ bytes) stop.WriteFault
words_failed start now then held after words before bytes old new fed had feeds converted none caption within moves are gathers =
    let says = had.judged.says in
    let next = next_frame before bytes says.frames old.converter new fed had.judged.underway says.frames_are feeds caption in
    let underway = goes_on before bytes old.converter new fed had.judged.underway feeds converted none within moves in
    record {
      judged = before ++ take fed.used bytes;
      unjudged = drop fed.used bytes;
      text = conversion_bytes (says.frames ++ next.frame ∷ []);
      spelled = front_spelled before bytes fed.used;
      cause = inl (record {
        frames = says.frames ++ next.frame ∷ [];
        frames_are = next.frames_are;
        fit = fit_underway (before ++ take fed.used bytes) new underway (says.frames ++ next.frame ∷ []) next.frames_are;
        text_is = refl;
      });
      way = words_gathered start now then held after words had.text says.frames next.frame put.Failed had.way says.text_is (are says.frames next.frame next.frames_are) gathers;
    }

-- it has a misfit, the first of all
last_unfit : (frames : List Frame) (next : Frame) (found : Misfit) (text bytes : List ℕ) → AreFit frames → text ≡ conversion_bytes frames → AreFramesOf caption_channel (frames ++ next ∷ []) bytes
    → (has : HasMisfit (frames ++ next ∷ []) found) → text ≡ conversion_bytes has.earlier
last_unfit frames next found text bytes fit text_is are has = text_is ∙ ap conversion_bytes (fronts_same frames has.earlier next has.last has.split)
  where
    fronts_same : (one other : List Frame) (x y : Frame) → one ++ x ∷ [] ≡ other ++ y ∷ [] → one ≡ other
    fronts_same [] [] x y is = refl
    fronts_same [] (o ∷ []) x y is = cc
    fronts_same [] (o ∷ p ∷ other) x y is = cc
    fronts_same (o ∷ []) [] x y is = cc
    fronts_same (o ∷ p ∷ one) [] x y is = cc
    fronts_same (o ∷ one) (p ∷ other) x y is =
        let heads : o ≡ p = cc in
        let tails : one ≡ other = fronts_same one other x y cc in
        cc

pub misfit_met : (start now : Option (List ℕ)) (held before bytes : List ℕ) (old : Converting) (new : Converter) (fed : Fed) (found : Misfit)
    → HasGathered HasMade start now held before old → HasFed before bytes (input_of old.converter) (input_of new) fed
    → HasConverted (before ++ take fed.used bytes) new → converter_misfit new ≡ Some found → fed.ended ≡ ended.Caption
    → HasStopped AreConverted (λ (unfit : Unfit). ConvertHalts (unfit_status unfit)) start now held (before ++ bytes) (stop.Own (record { misfit = found }))
misfit_met start now held before bytes old new fed found had feeds converted is caption =
    let says = had.judged.says in
    let next = next_frame before bytes says.frames old.converter new fed had.judged.underway says.frames_are feeds caption in
    let stands = stands_behind (before ++ take fed.used bytes) (says.frames ++ next.frame ∷ []) new converted next.frames_are in
    let has = subst (λ (m : Option Misfit). StandsBehind m (says.frames ++ next.frame ∷ []) new.halver) is stands in
    record {
      judged = before ++ take fed.used bytes;
      unjudged = drop fed.used bytes;
      text = had.text;
      spelled = front_spelled before bytes fed.used;
      cause = record {
        frames = has.earlier;
        last = has.last;
        frames_are = subst (λ (fs : List Frame). AreFramesOf caption_channel fs (before ++ take fed.used bytes)) has.split next.frames_are;
        fit = has.fit;
        is = has.is;
        text_is = last_unfit says.frames next.frame found had.text (before ++ take fed.used bytes) says.fit says.text_is next.frames_are has;
        unoffending = feeds.unoffending;
      };
      way = had.way;
    }
