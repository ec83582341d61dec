-- What `import-mcc` answers, where the file was read to its end or the reading stopped before.
use Rattle.std.proofs.Common.{◌≡◌, ℕ, inl, inr, List, [], Option, Result, Ok, Err, refl, sym, ◌∙◌, subst}
use Rattle.std.specs.Io.KnownBytes.{Appends}
use Rattle.mcc_commands.specs.Offences.{IsWithoutOffence}
use Rattle.cc_base.specs.Streams.{Puts, Rose}
use Rattle.cc_base.specs.declared.refusal.Refusal.{Refusal}
use Rattle.cc_base.specs.declared.streams.Put.TheVariants as put
use Rattle.command_base.specs.Ends.{Ends, IsSteady, ends}
use Rattle.command_base.specs.declared.status.Status.{Status}
use Rattle.command_base.specs.declared.status.Status.TheVariants as status
use Rattle.words_reading.proofs.WayLemmas.{all_put, way_flushed, way_unwritten}
use Rattle.words_reading.specs.Causes.{Cause, IsAnyhow, IsWholeInput, PassesLimit}
use Rattle.words_reading.specs.Judging.{SaysFront}
use Rattle.words_reading.specs.Reading.{Stops}
use Rattle.words_reading.specs.Statuses.{stop_status as status_of}
use Rattle.words_reading.specs.declared.judge.Stop.{Stop}
use Rattle.words_reading.specs.declared.judge.Stop.TheVariants as stopped
use Rattle.command_base.specs.Realises.{RealisesLeaving}
use Rattle.mcc_commands.proofs.ImportAnswerLemmas.{cut_short, imported, offended, passed, past_limit, put_failed, read_failed}
use Rattle.mcc_commands.specs.ImportMcc.{HaltsImport, ImportMccVerdict, SaysImport}
use Rattle.mcc_commands.specs.Imported.{IsMccImport, SaysLines}
use Rattle.mcc_commands.specs.Importing.{EndsInput, HaltsWhere, Holds, PutsHeld, PutsRest, ReadsFile}
use Rattle.mcc_commands.specs.Stops.{stop_status}
use Rattle.mcc_commands.specs.declared.import_stop.MccStop.{MccStop}
use Rattle.mcc_commands.specs.declared.import_stop.MccStop.TheVariants as stop

-- the status of a result
abbrev pub result_status : Result (Unit {0}) (Stop MccStop) → Status
result_status (Ok done) = status.Ok
result_status (Err why) = status_of stop_status why

-- what was held was put, or a put of it fails
pub data Held (now : Option (List ℕ)) (still : ℕ) (then : Option (List ℕ)) (last : ℕ) (held : List ℕ) (read result : Result (Unit {0}) (Stop MccStop)) : Type 0 where
  put_all : result ≡ read → last ≡ still → Appends now then held → Held now still then last held read result
  failed : result ≡ Err stopped.WriteFault → Rose still last → Puts now then put.Failed held → Held now still then last held read result

pub held_so : (now : Option (List ℕ)) (still : ℕ) (then : Option (List ℕ)) (last : ℕ) (held : List ℕ) (read result : Result (Unit {0}) (Stop MccStop))
    → PutsHeld now still then last held read result → Held now still then last held read result
held_so now still then last held read (Ok done) is = put_all is.0 is.1 is.2
held_so now still then last held read (Err stopped.WriteFault) is = failed refl is.1 is.2
held_so now still then last held read (Err stopped.ReadFault) is = put_all is.0 is.1 is.2
held_so now still then last held read (Err stopped.Limit) is = put_all is.0 is.1 is.2
held_so now still then last held read (Err (stopped.Refused refusal)) is = put_all is.0 is.1 is.2
held_so now still then last held read (Err (stopped.Own why)) is = put_all is.0 is.1 is.2

-- the words that are held were put
pub puts_all : (Says : List ℕ → List ℕ → Type 0) (Why : Cause) (first left begun now then : Option (List ℕ)) (reads later writes still last : ℕ) (held : List ℕ)
    → Holds Says Why (ends first reads begun writes) (ends left later now still) held → Appends now then held
    → Stops Says Why put.Done (ends first reads begun writes) (ends left later then last)
puts_all Says Why first left begun now then reads later writes still last held had appended = record {
  judged = had.judged;
  unjudged = had.unjudged;
  text = had.words;
  taken = had.taken;
  within = had.within;
  says = had.says;
  cause = had.cause;
  output = all_put begun then [] had.words (way_flushed begun now then held had.words had.way appended) refl;
}

-- a put of them fails
pub puts_front : (Says : List ℕ → List ℕ → Type 0) (Why : Cause) (first left begun now then : Option (List ℕ)) (reads later writes still last : ℕ) (held : List ℕ)
    → ((bytes words : List ℕ) → Says bytes words → SaysFront SaysImport HaltsImport bytes words)
    → Holds Says Why (ends first reads begun writes) (ends left later now still) held → Puts now then put.Failed held
    → Stops (SaysFront SaysImport HaltsImport) IsAnyhow put.Failed (ends first reads begun writes) (ends left later then last)
puts_front Says Why first left begun now then reads later writes still last held says had fails = record {
  judged = had.judged;
  unjudged = had.unjudged;
  text = had.words;
  taken = had.taken;
  within = had.within;
  says = says had.judged had.words had.says;
  cause = tt;
  output = way_unwritten begun now then held had.words had.way fails;
}

-- the answers
steady_on : (first left begun now then : Option (List ℕ)) (reads later writes still last : ℕ) → IsSteady (ends first reads begun writes) (ends left later now still) → last ≡ still
    → IsSteady (ends first reads begun writes) (ends left later then last)
steady_on first left begun now then reads later writes still last steady same = record { reads = steady.reads; writes = same ∙ steady.writes }

rose_on : (writes still last : ℕ) → still ≡ writes → Rose still last → Rose writes last
rose_on writes still last same rose = subst (λ (n : ℕ). Rose n last) same rose

answer_is : (first left begun then : Option (List ℕ)) (reads later writes last : ℕ) (result other : Result (Unit {0}) (Stop MccStop)) → result ≡ other
    → RealisesLeaving ImportMccVerdict (ends first reads begun writes) (ends left later then last) (result_status other)
    → RealisesLeaving ImportMccVerdict (ends first reads begun writes) (ends left later then last) (result_status result)
answer_is first left begun then reads later writes last result other same is =
    subst (λ (r : Result (Unit {0}) (Stop MccStop)). RealisesLeaving ImportMccVerdict (ends first reads begun writes) (ends left later then last) (result_status r)) (sym same) is

-- a reason of the import's own
own_answer : (first left begun then : Option (List ℕ)) (reads later writes last : ℕ) (why : MccStop) → IsSteady (ends first reads begun writes) (ends left later then last)
    → Stops (HaltsImport why) (HaltsWhere first why) put.Done (ends first reads begun writes) (ends left later then last)
    → RealisesLeaving ImportMccVerdict (ends first reads begun writes) (ends left later then last) (stop_status why)
own_answer first left begun then reads later writes last (stop.Offends refusal) steady stops = offended refusal (ends first reads begun writes) (ends left later then last) steady stops
own_answer first left begun then reads later writes last (stop.Passes which) steady stops = passed which (ends first reads begun writes) (ends left later then last) steady stops

module _ (first left begun now then : Option (List ℕ)) (reads later writes still last : ℕ) (held : List ℕ) where
  ok_answered : (result : Result (Unit {0}) (Stop MccStop)) → ReadsFile (ends first reads begun writes) (ends left later now still) held (Ok tt)
      → Held now still then last held (Ok tt) result → RealisesLeaving ImportMccVerdict (ends first reads begun writes) (ends left later then last) (result_status result)
  ok_answered result (steady, had) (put_all same none appended) =
      answer_is first left begun then reads later writes last result (Ok tt) same
      (imported (ends first reads begun writes) (ends left later then last) (steady_on first left begun now then reads later writes still last steady none)
      (puts_all IsMccImport (IsWholeInput first) first left begun now then reads later writes still last held had appended))
  ok_answered result (steady, had) (failed same rose fails) =
      answer_is first left begun then reads later writes last result (Err stopped.WriteFault) same
      (put_failed (ends first reads begun writes) (ends left later then last) steady.reads (rose_on writes still last steady.writes rose)
      (puts_front IsMccImport (IsWholeInput first) first left begun now then reads later writes still last held (λ bytes words is. inl (inr is)) had fails))

  limit_answered : (result : Result (Unit {0}) (Stop MccStop)) → ReadsFile (ends first reads begun writes) (ends left later now still) held (Err stopped.Limit)
      → Held now still then last held (Err stopped.Limit) result → RealisesLeaving ImportMccVerdict (ends first reads begun writes) (ends left later then last) (result_status result)
  limit_answered result (steady, had) (put_all same none appended) =
      answer_is first left begun then reads later writes last result (Err stopped.Limit) same
      (past_limit (ends first reads begun writes) (ends left later then last) (steady_on first left begun now then reads later writes still last steady none)
      (puts_all SaysLines (PassesLimit IsWithoutOffence) first left begun now then reads later writes still last held had appended))
  limit_answered result (steady, had) (failed same rose fails) =
      answer_is first left begun then reads later writes last result (Err stopped.WriteFault) same
      (put_failed (ends first reads begun writes) (ends left later then last) steady.reads (rose_on writes still last steady.writes rose)
      (puts_front SaysLines (PassesLimit IsWithoutOffence) first left begun now then reads later writes still last held (λ bytes words is. inl (inl is)) had fails))

  refused_answered : (refusal : Refusal) (result : Result (Unit {0}) (Stop MccStop)) → ReadsFile (ends first reads begun writes) (ends left later now still) held (Err (stopped.Refused refusal))
      → Held now still then last held (Err (stopped.Refused refusal)) result → RealisesLeaving ImportMccVerdict (ends first reads begun writes) (ends left later then last) (result_status result)
  refused_answered refusal result (steady, had) (put_all same none appended) =
      answer_is first left begun then reads later writes last result (Err (stopped.Refused refusal)) same
      (cut_short refusal (ends first reads begun writes) (ends left later then last) (steady_on first left begun now then reads later writes still last steady none)
      (puts_all SaysLines (EndsInput refusal first) first left begun now then reads later writes still last held had appended))
  refused_answered refusal result (steady, had) (failed same rose fails) =
      answer_is first left begun then reads later writes last result (Err stopped.WriteFault) same
      (put_failed (ends first reads begun writes) (ends left later then last) steady.reads (rose_on writes still last steady.writes rose)
      (puts_front SaysLines (EndsInput refusal first) first left begun now then reads later writes still last held (λ bytes words is. inl (inl is)) had fails))

  own_answered : (why : MccStop) (result : Result (Unit {0}) (Stop MccStop)) → ReadsFile (ends first reads begun writes) (ends left later now still) held (Err (stopped.Own why))
      → Held now still then last held (Err (stopped.Own why)) result → RealisesLeaving ImportMccVerdict (ends first reads begun writes) (ends left later then last) (result_status result)
  own_answered why result (steady, had) (put_all same none appended) =
      answer_is first left begun then reads later writes last result (Err (stopped.Own why)) same
      (own_answer first left begun then reads later writes last why (steady_on first left begun now then reads later writes still last steady none)
      (puts_all (HaltsImport why) (HaltsWhere first why) first left begun now then reads later writes still last held had appended))
  own_answered why result (steady, had) (failed same rose fails) =
      answer_is first left begun then reads later writes last result (Err stopped.WriteFault) same
      (put_failed (ends first reads begun writes) (ends left later then last) steady.reads (rose_on writes still last steady.writes rose)
      (puts_front (HaltsImport why) (HaltsWhere first why) first left begun now then reads later writes still last held (λ bytes words is. inr (why, is)) had fails))

  kept_answered : (why : Stop MccStop) (result : Result (Unit {0}) (Stop MccStop)) → RealisesLeaving ImportMccVerdict (ends first reads begun writes) (ends left later now still) (result_status (Err why))
      → (result ≡ Err why) × (then ≡ now) × (last ≡ still) → RealisesLeaving ImportMccVerdict (ends first reads begun writes) (ends left later then last) (result_status result)
  kept_answered why result is (same, kept, none) =
      answer_is first left begun then reads later writes last result (Err why) same
      (subst (λ (n : ℕ). RealisesLeaving ImportMccVerdict (ends first reads begun writes) (ends left later then n) (result_status (Err why))) (sym none)
      (subst (λ (t : Option (List ℕ)). RealisesLeaving ImportMccVerdict (ends first reads begun writes) (ends left later t still) (result_status (Err why))) (sym kept) is))

  pub answered : (read result : Result (Unit {0}) (Stop MccStop)) → ReadsFile (ends first reads begun writes) (ends left later now still) held read
      → PutsRest now still then last held read result → RealisesLeaving ImportMccVerdict (ends first reads begun writes) (ends left later then last) (result_status result)
  answered (Ok done) result is rest = ok_answered result is (held_so now still then last held (Ok tt) result rest)
  answered (Err stopped.ReadFault) result is rest =
      kept_answered stopped.ReadFault result (read_failed (ends first reads begun writes) (ends left later now still) is.0 is.1 is.2) rest
  answered (Err stopped.WriteFault) result is rest =
      kept_answered stopped.WriteFault result (put_failed (ends first reads begun writes) (ends left later now still) is.0 is.1 is.2) rest
  answered (Err stopped.Limit) result is rest = limit_answered result is (held_so now still then last held (Err stopped.Limit) result rest)
  answered (Err (stopped.Refused refusal)) result is rest =
      refused_answered refusal result is (held_so now still then last held (Err (stopped.Refused refusal)) result rest)
  answered (Err (stopped.Own why)) result is rest = own_answered why result is (held_so now still then last held (Err (stopped.Own why)) result rest)

-- by the kind of result
pub ok_is : (old new : Ends) (result : Result (Unit {0}) (Stop MccStop)) (done : Unit {0}) → result ≡ Ok done → RealisesLeaving ImportMccVerdict old new (result_status result) → RealisesLeaving ImportMccVerdict old new status.Ok
ok_is old new result done same is = subst (λ (r : Result (Unit {0}) (Stop MccStop)). RealisesLeaving ImportMccVerdict old new (result_status r)) same is

pub err_is : (old new : Ends) (result : Result (Unit {0}) (Stop MccStop)) (why : Stop MccStop) (answer : Status) → result ≡ Err why → answer ≡ status_of stop_status why
    → RealisesLeaving ImportMccVerdict old new (result_status result) → RealisesLeaving ImportMccVerdict old new answer
err_is old new result why answer same told is =
    subst (λ (s : Status). RealisesLeaving ImportMccVerdict old new s) (sym told) (subst (λ (r : Result (Unit {0}) (Stop MccStop)). RealisesLeaving ImportMccVerdict old new (result_status r)) same is)
