-- Words are judged by a verifier.
use Rattle.std.proofs.Common.{◌≡◌, ◌∙◌, ◌+◌, ◌++◌, ◌<◌, ◌≤◌, ap, append-nil, append_assoc, arith, drop, length, length-append, refl, subst, sym, take, ℕ, List, [], ◌∷◌, Option, None, Some, Ok, Err}
use Rattle.cc_base.specs.declared.refusal.Refusal.{Refusal}
use Rattle.words_reading.proofs.FedFrames.{counted_nothing, counts_one, frame_more, frames_still, nothing_offends}
use Rattle.words_reading.specs.Feeds.{Counts}
use Rattle.words_reading.specs.Receivers.{frame_count}
use Rattle.words_reading.specs.Ended.{Ended}
use Rattle.words_reading.specs.Ended.TheVariants as ended
use Rattle.words_reading.specs.Fed.{Fed}
use Rattle.cc_verifier.proofs.VerifierLemmas.{found_is, found_none}
use Rattle.cc_verifier.specs.Findings.{AreClean, FirstFinding, IsFound, place_of}
use Rattle.cc_verifier.specs.Verifiers.{FeedsOn, HasVerified, JudgesFile, finding_of, list_of}
use Rattle.cc_verifier.specs.declared.verifier.Verdict.{Verdict}
use Rattle.cc_verifier.specs.declared.verifier.Verdict.TheVariants as verdict
use Rattle.cc_verifier.specs.declared.verifier.Verifier.{Verifier}
use Rattle.cdp_packets.specs.Packets.{Frame}
use Rattle.cue_types.specs.Listing.{Listing}
use Rattle.findings.specs.First.{IsFirstTried}
use Rattle.findings.specs.declared.finding.Finding.{Finding}
use Rattle.words_reading.specs.CaptionChannel.{caption_channel}
use Rattle.words_files.proofs.FramesOfLemmas.{frames_of_once}
use Rattle.words_files.proofs.FrontLemmas.{TwoFronts, before_it, behind_it, same, two_fronts}
use Rattle.words_reading.proofs.PieceLemmas.{cut_short, front_size, front_spelled}
use Rattle.words_reading.specs.Judging.{EndsAt, HasGathered, HasStopped}
use Rattle.words_reading.specs.declared.judge.Stop.TheVariants as stop
use Rattle.verify_commands.specs.VerifyVerdict.{FindsFirst, FindsNothing}
use Rattle.verify_commands.specs.Verifying.{HasJudged, HasJudgedSo}
use Rattle.verify_commands.specs.declared.verifying.Found.{Found}
use Rattle.verify_commands.specs.declared.verifying.Verifying.{Verifying}

-- nothing is found at the frames of what was judged
clean_so : (list : Listing) (bytes : List ℕ) (verifier : Verifier) → (had : HasJudged list bytes verifier) → AreClean list had.verified.frames
clean_so list bytes verifier had =
    subst (λ (l : Listing). AreClean l had.verified.frames) had.list_is (found_none bytes verifier had.verified had.nothing)

judged_so : (list : Listing) (bytes text : List ℕ) (verifier : Verifier) → HasJudged list bytes verifier → text ≡ [] → HasJudgedSo list bytes text (record { verifier = verifier })
judged_so list bytes text verifier had none = record {
  judged = had;
  says = record { frames = had.verified.frames; frames_are = had.verified.frames_are; fit = clean_so list bytes verifier had; text_is = none };
}

-- a verifier that was fed nothing
pub nothing_judged : (list : Listing) (verifier : Verifier) → HasVerified [] verifier → list_of verifier ≡ list → finding_of verifier ≡ None
    → HasJudgedSo list [] [] (record { verifier = verifier })
nothing_judged list verifier verified own nothing =
    let count = counted_nothing verifier.receiver verified.received in
    judged_so list [] [] verifier (record { verified = verified; list_is = own; nothing = nothing; unoffending = nothing_offends; few = omega arith }) refl

-- a word is refused
pub word_refused : {Halts : Found → List ℕ → List ℕ → Type 0} → (list : Listing) (start now : Option (List ℕ)) (held before bytes : List ℕ) (old : Verifying) (new : Verifier) (refusal : Refusal)
    → HasGathered (HasJudgedSo list) start now held before old → FeedsOn before bytes old.verifier new (Err refusal)
    → HasStopped (FindsNothing list) Halts start now held (before ++ bytes) (stop.Refused refusal)
word_refused list start now held before bytes old new refusal had fed =
    let judged = had.judged.judged in
    record {
      judged = before ++ bytes;
      unjudged = [];
      text = had.text;
      spelled = sym (append-nil (before ++ bytes));
      cause = (
        refl,
        fed.offence,
        record {
          frames = judged.verified.frames;
          frames_are = frames_still before bytes old.verifier.receiver new.receiver judged.verified.frames judged.verified.frames_are judged.verified.received fed.received fed.stays;
          fit = clean_so list before old.verifier judged;
          text_is = had.judged.says.text_is;
        },
      );
      way = had.way;
    }

-- nothing is found in a front of the bytes
goes_on_so : (list : Listing) (before bytes : List ℕ) (old new : Verifier) (fed : Fed) → HasJudged list before old
    → FeedsOn before bytes old new (Ok fed) → HasVerified (before ++ take fed.used bytes) new → list_of new ≡ list_of old → finding_of new ≡ None
    → fed.used ≤ length bytes → 0 < fed.used → HasJudged list (before ++ take fed.used bytes) new
goes_on_so list before bytes old new fed had feeds verified own nothing within moves =
    let size = front_size before bytes fed.used within in
    let one = counts_one (frame_count old.receiver) (frame_count new.receiver) fed.ended feeds.counts in
    let few = had.few in
    record { verified = verified; list_is = own ∙ had.list_is; nothing = nothing; unoffending = feeds.unoffending; few = omega arith }

pub goes_on : (before bytes : List ℕ) (old : Verifying) (new : Verifier) (fed : Fed) → HasJudged (list_of old.verifier) before old.verifier
    → FeedsOn before bytes old.verifier new (Ok fed) → HasVerified (before ++ take fed.used bytes) new
    → list_of new ≡ list_of old.verifier → finding_of new ≡ None → fed.used ≤ length bytes → 0 < fed.used → HasJudged (list_of new) (before ++ take fed.used bytes) new
goes_on before bytes old new fed had feeds verified own nothing within moves =
    subst (λ (l : Listing). HasJudged l (before ++ take fed.used bytes) new) (sym own)
    (goes_on_so (list_of old.verifier) before bytes old.verifier new fed had feeds verified own nothing within moves)

pub nothing_met : (list : Listing) (start now : Option (List ℕ)) (held before bytes : List ℕ) (old : Verifying) (new : Verifier) (fed : Fed)
    → HasGathered (HasJudgedSo list) start now held before old → FeedsOn before bytes old.verifier new (Ok fed) → HasVerified (before ++ take fed.used bytes) new
    → list_of new ≡ list_of old.verifier → finding_of new ≡ None → fed.used ≤ length bytes → 0 < fed.used
    → HasGathered (HasJudgedSo list) start now held (before ++ take fed.used bytes) (record { verifier = new })
nothing_met list start now held before bytes old new fed had feeds verified own nothing within moves = record {
  text = had.text;
  judged = judged_so list (before ++ take fed.used bytes) had.text new
      (goes_on_so list before bytes old.verifier new fed had.judged.judged feeds verified own nothing within moves) had.judged.says.text_is;
  way = had.way;
}

-- this is found first of all at a frame, of which those before are these
abbrev pub IsFoundAtFrame : Listing → Finding → List Frame → Frame → Type 0
IsFoundAtFrame list finding frames last = (finding.frame ≡ length frames) × IsFirstTried (IsFound list frames last) place_of finding.kind

-- where nothing is found at the frames before the last, the first finding is at it
found_by : (list : Listing) (frames : List Frame) (next : Frame) (finding : Finding) → AreClean list frames → (first : FirstFinding list (frames ++ next ∷ []) finding)
    → TwoFronts first.earlier (first.last ∷ first.later) frames next → IsFoundAtFrame list finding frames next
found_by list frames next finding clean first (behind_it more is) =
    let all = ap length first.split in
    let one = length-append frames (next ∷ []) in
    let parts = length-append first.earlier (first.last ∷ first.later) in
    let size = ap length is ∙ length-append (frames ++ next ∷ []) more in
    absurd (omega arith)
found_by list frames next finding clean first (same is more left) =
    let last : first.last ≡ next = cc in
    subst (IsFoundAtFrame list finding frames) last (subst (λ f. IsFoundAtFrame list finding f first.last) is (first.frame_is, first.first))
found_by list frames next finding clean first (before_it item more left is rest) =
    let last : item ≡ first.last = cc in
    absurd (clean first.earlier first.last more (is ∙ append_assoc first.earlier (item ∷ []) more ∙ ap (λ f. first.earlier ++ f ∷ more) last) finding.kind first.first.holds)

found_last : (list : Listing) (frames : List Frame) (next : Frame) (finding : Finding) → AreClean list frames → FirstFinding list (frames ++ next ∷ []) finding
    → IsFoundAtFrame list finding frames next
found_last list frames next finding clean first =
    found_by list frames next finding clean first
    (two_fronts first.earlier (first.last ∷ first.later) frames [] next (sym first.split ∙ sym (append-nil (frames ++ next ∷ []))))

-- a frame ended, at which something is found
found_at : (list : Listing) (before bytes text : List ℕ) (old new : Verifier) (fed : Fed) (finding : Finding) → HasJudged list before old → text ≡ []
    → FeedsOn before bytes old new (Ok fed) → HasVerified (before ++ take fed.used bytes) new → list_of new ≡ list_of old → finding_of new ≡ Some finding
    → frame_count new.receiver ≡ frame_count old.receiver + 1 → FindsFirst list finding (before ++ take fed.used bytes) text
found_at list before bytes text old new fed finding had none feeds verified own found counted =
    let frames = had.verified.frames in
    let next = frame_more before (take fed.used bytes) old.receiver new.receiver frames had.verified.frames_are had.verified.received verified.received counted in
    let same = frames_of_once caption_channel verified.frames (frames ++ next.frame ∷ []) (before ++ take fed.used bytes) verified.frames_are next.frames_are in
    let first = subst (λ (l : Listing). FirstFinding l verified.frames finding) (own ∙ had.list_is) (found_is (before ++ take fed.used bytes) new verified finding found) in
    record {
      frames = frames;
      last = next.frame;
      frames_are = next.frames_are;
      fit = clean_so list before old had;
      is = found_last list frames next.frame finding (clean_so list before old had) (subst (λ f. FirstFinding list f finding) same first);
      text_is = none;
      unoffending = feeds.unoffending;
    }

-- nothing is found anew where no frame ended
never_found : (list : Listing) (before bytes : List ℕ) (old new : Verifier) (fed : Fed) (finding : Finding) → HasJudged list before old
    → FeedsOn before bytes old new (Ok fed) → HasVerified (before ++ take fed.used bytes) new → list_of new ≡ list_of old → finding_of new ≡ Some finding
    → frame_count new.receiver ≡ frame_count old.receiver → ⊥
never_found list before bytes old new fed finding had feeds verified own found counted =
    let frames = had.verified.frames in
    let still = frames_still before (take fed.used bytes) old.receiver new.receiver frames had.verified.frames_are had.verified.received verified.received counted in
    let same = frames_of_once caption_channel verified.frames frames (before ++ take fed.used bytes) verified.frames_are still in
    let first = subst (λ (l : Listing). FirstFinding l verified.frames finding) (own ∙ had.list_is) (found_is (before ++ take fed.used bytes) new verified finding found) in
    clean_so list before old had first.earlier first.last first.later (sym same ∙ first.split) finding.kind first.first.holds

by_end : (list : Listing) (before bytes text : List ℕ) (old new : Verifier) (fed : Fed) (finding : Finding) (end : Ended) → fed.ended ≡ end → HasJudged list before old → text ≡ []
    → FeedsOn before bytes old new (Ok fed) → HasVerified (before ++ take fed.used bytes) new → list_of new ≡ list_of old → finding_of new ≡ Some finding
    → Counts (frame_count old.receiver) (frame_count new.receiver) end → FindsFirst list finding (before ++ take fed.used bytes) text
by_end list before bytes text old new fed finding ended.Caption is had none feeds verified own found counts =
    found_at list before bytes text old new fed finding had none feeds verified own found counts
by_end list before bytes text old new fed finding ended.No is had none feeds verified own found counts =
    absurd (never_found list before bytes old new fed finding had feeds verified own found counts)
by_end list before bytes text old new fed finding ended.Foreign is had none feeds verified own found counts =
    absurd (never_found list before bytes old new fed finding had feeds verified own found counts)

-- a finding
pub finding_met : (list : Listing) (start now : Option (List ℕ)) (held before bytes : List ℕ) (old : Verifying) (new : Verifier) (fed : Fed) (finding : Finding)
    → HasGathered (HasJudgedSo list) start now held before old → FeedsOn before bytes old.verifier new (Ok fed) → HasVerified (before ++ take fed.used bytes) new
    → list_of new ≡ list_of old.verifier → finding_of new ≡ Some finding
    → HasStopped (FindsNothing list) (λ (found : Found). FindsFirst list found.finding) start now held (before ++ bytes) (stop.Own (record { finding = finding }))
finding_met list start now held before bytes old new fed finding had feeds verified own found = record {
  judged = before ++ take fed.used bytes;
  unjudged = drop fed.used bytes;
  text = had.text;
  spelled = front_spelled before bytes fed.used;
  cause = by_end list before bytes had.text old.verifier new fed finding fed.ended refl had.judged.judged had.judged.says.text_is feeds verified own found feeds.counts;
  way = had.way;
}

-- how the words end
pub ends_so : (list : Listing) (bytes text : List ℕ) (verifying : Verifying) (answer : Verdict) → HasJudgedSo list bytes text verifying
    → JudgesFile (list_of verifying.verifier) bytes (Ok answer) → EndsAt bytes (Ok tt)
ends_so list bytes text verifying verdict.Ok had judges = let (frames, file, clean, enough) = judges in (frames, file)
ends_so list bytes text verifying (verdict.Short count) had judges = let (frames, file, clean, is, few) = judges in (frames, file)
ends_so list bytes text verifying (verdict.Differs finding) had (frames, are, first) =
    let judged = had.judged in
    let same = frames_of_once caption_channel frames judged.verified.frames bytes are judged.verified.frames_are in
    absurd (found_none bytes verifying.verifier judged.verified judged.nothing first.earlier first.last first.later (sym same ∙ first.split) finding.kind first.first.holds)

pub ends_cut : (list : Listing) (bytes text : List ℕ) (verifying : Verifying) (refusal : Refusal) → HasJudgedSo list bytes text verifying
    → JudgesFile (list_of verifying.verifier) bytes (Err refusal) → EndsAt bytes (Err refusal)
ends_cut list bytes text verifying refusal had (frames, are, clean, malformed) = cut_short bytes refusal had.judged.unoffending malformed
