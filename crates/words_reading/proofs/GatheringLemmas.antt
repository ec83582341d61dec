-- The text that stands for judged bytes is gathered, and put.
use Rattle.std.proofs.Common.{◌≡◌, ◌≢◌, ◌++◌, ◌≤◌, append-nil, inl, inr, refl, subst, sym, ℕ, List, [], Option, Err}
use Rattle.std.specs.Io.KnownBytes.{Appends}
use Rattle.cc_base.specs.Streams.{Puts, Rose}
use Rattle.cc_base.specs.declared.streams.Put.TheVariants as put
use Rattle.text_output.specs.Gathered.{Flushes, IsGathered}
use Rattle.words_reading.proofs.WayLemmas.{way_flushed, way_unwritten}
use Rattle.words_reading.specs.Judging.{GathersBefore, HasGathered, HasStopped, SaysFront, StopsBy}
use Rattle.words_reading.specs.Reading.{CountsBy}
use Rattle.words_reading.specs.declared.judge.Stop.{Stop}
use Rattle.words_reading.specs.declared.judge.Stop.TheVariants as stop

-- what was gathered is put
pub gathered_flushed : {J : Type 0} → (HasJudged : List ℕ → List ℕ → J → Type 0) → (start a b : Option (List ℕ)) (held after bytes : List ℕ) (judge : J)
    → HasGathered HasJudged start a held bytes judge → Flushes a b held after put.Done → HasGathered HasJudged start b after bytes judge
gathered_flushed HasJudged start a b held after bytes judge had (next, none) = record {
  text = had.text;
  judged = had.judged;
  way = subst (λ h. IsGathered start b h had.text) (sym none) (way_flushed start a b held had.text had.way next);
}

-- a put of it failed
pub gathered_failed : {R J : Type 0} → (HasJudged : List ℕ → List ℕ → J → Type 0) → (Says : List ℕ → List ℕ → Type 0) → (Halts : R → List ℕ → List ℕ → Type 0)
    → (start a b : Option (List ℕ)) (held bytes : List ℕ) (judge : J) → ((text : List ℕ) → HasJudged bytes text judge → Says bytes text)
    → HasGathered HasJudged start a held bytes judge → Puts a b put.Failed held → HasStopped Says Halts start b [] bytes stop.WriteFault
gathered_failed HasJudged Says Halts start a b held bytes judge says had failed = record {
  judged = bytes;
  unjudged = [];
  text = had.text;
  spelled = sym (append-nil bytes);
  cause = inl (says had.text had.judged);
  way = way_unwritten start a b held had.text had.way failed;
}

-- a stop with another text put or held
stopped_with : {R : Type 0} → (Says : List ℕ → List ℕ → Type 0) → (Halts : R → List ℕ → List ℕ → Type 0) → (start a b : Option (List ℕ)) (held after bytes : List ℕ) (why : Stop R)
    → (had : HasStopped Says Halts start a held bytes why) → GathersBefore why start b after had.text → HasStopped Says Halts start b after bytes why
stopped_with Says Halts start a b held after bytes why had way =
    record { judged = had.judged; unjudged = had.unjudged; text = had.text; spelled = had.spelled; cause = had.cause; way = way }

pub unwritten_kept : {R : Type 0} → (Says : List ℕ → List ℕ → Type 0) → (Halts : R → List ℕ → List ℕ → Type 0) → (start a : Option (List ℕ)) (held bytes : List ℕ)
    → HasStopped Says Halts start a held bytes stop.WriteFault → HasStopped Says Halts start a [] bytes stop.WriteFault
unwritten_kept Says Halts start a held bytes had = stopped_with Says Halts start a a held [] bytes stop.WriteFault had had.way

-- the text of what came before a stop is put
pub stopped_flushed : {R : Type 0} → (Says : List ℕ → List ℕ → Type 0) → (Halts : R → List ℕ → List ℕ → Type 0) → (start a b : Option (List ℕ)) (held bytes : List ℕ) (why : Stop R)
    → why ≢ stop.WriteFault → HasStopped Says Halts start a held bytes why → Appends a b held → HasStopped Says Halts start b [] bytes why
stopped_flushed Says Halts start a b held bytes stop.WriteFault other had next = absurd (other refl)
stopped_flushed Says Halts start a b held bytes stop.ReadFault other had next = absurd had.cause
stopped_flushed Says Halts start a b held bytes stop.Limit other had next = absurd had.cause
stopped_flushed Says Halts start a b held bytes (stop.Refused refusal) other had next =
    stopped_with Says Halts start a b held [] bytes (stop.Refused refusal) had (way_flushed start a b held had.text had.way next)
stopped_flushed Says Halts start a b held bytes (stop.Own reason) other had next =
    stopped_with Says Halts start a b held [] bytes (stop.Own reason) had (way_flushed start a b held had.text had.way next)

-- or a put of it failed
unwritten : {R : Type 0} → (Says : List ℕ → List ℕ → Type 0) → (Halts : R → List ℕ → List ℕ → Type 0) → (start a b : Option (List ℕ)) (held bytes judged unjudged text : List ℕ)
    → bytes ≡ judged ++ unjudged → SaysFront Says Halts judged text → IsGathered start a held text → Puts a b put.Failed held
    → HasStopped Says Halts start b [] bytes stop.WriteFault
unwritten Says Halts start a b held bytes judged unjudged text spelled says way failed = record {
  judged = judged;
  unjudged = unjudged;
  text = text;
  spelled = spelled;
  cause = says;
  way = way_unwritten start a b held text way failed;
}

pub stopped_failed : {R : Type 0} → (Says : List ℕ → List ℕ → Type 0) → (Halts : R → List ℕ → List ℕ → Type 0) → (start a b : Option (List ℕ)) (held bytes : List ℕ) (why : Stop R)
    → why ≢ stop.WriteFault → HasStopped Says Halts start a held bytes why → Puts a b put.Failed held → HasStopped Says Halts start b [] bytes stop.WriteFault
stopped_failed Says Halts start a b held bytes stop.WriteFault other had failed = absurd (other refl)
stopped_failed Says Halts start a b held bytes stop.ReadFault other had failed = absurd had.cause
stopped_failed Says Halts start a b held bytes stop.Limit other had failed = absurd had.cause
stopped_failed Says Halts start a b held bytes (stop.Refused refusal) other had failed =
    unwritten Says Halts start a b held bytes had.judged had.unjudged had.text had.spelled (inl had.cause.2) had.way failed
stopped_failed Says Halts start a b held bytes (stop.Own reason) other had failed =
    unwritten Says Halts start a b held bytes had.judged had.unjudged had.text had.spelled (inr (reason, had.cause)) had.way failed

-- a put that failed tells so
pub failed_by : {R : Type 0} → (before now after : ℕ) (why : Stop R) → why ≢ stop.WriteFault → StopsBy before now why → (now ≤ after) × Rose now after
    → (before ≤ after) × Rose before after
failed_by before now after stop.WriteFault other by rose = absurd (other refl)
failed_by before now after stop.ReadFault other by rose = absurd by
failed_by before now after stop.Limit other by rose = absurd by
failed_by before now after (stop.Refused refusal) other by rose = subst (λ n. (n ≤ after) × Rose n after) by rose
failed_by before now after (stop.Own reason) other by rose = subst (λ n. (n ≤ after) × Rose n after) by rose

-- one that was done leaves it
pub done_by : {R : Type 0} → (before now after : ℕ) (why : Stop R) → StopsBy before now why → after ≡ now → StopsBy before after why
done_by before now after why by same = subst (λ n. StopsBy before n why) (sym same) by

-- the counts of faults where a judge stopped
pub counts_by : {R : Type 0} → (reads later writes still : ℕ) (why : Stop R) → later ≡ reads → StopsBy writes still why → CountsBy reads later writes still (Err why)
counts_by reads later writes still stop.ReadFault steady by = absurd by
counts_by reads later writes still stop.Limit steady by = absurd by
counts_by reads later writes still stop.WriteFault steady (more, rose) = (steady, rose)
counts_by reads later writes still (stop.Refused refusal) steady by = (steady, by)
counts_by reads later writes still (stop.Own reason) steady by = (steady, by)
