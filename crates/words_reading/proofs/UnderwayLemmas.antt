-- Where the reading of words ends, and why.
use Rattle.std.proofs.Common.{◌≡◌, ◌∙◌, ◌+◌, ◌-◌, ◌++◌, ◌<◌, ◌≤◌, ap, append_assoc, append-nil, arith, inl, inr, length, length-append, refl, subst, sym, take, ℕ, List, [], Option, None, Some, Ok, Err}
use Rattle.std.specs.Io.KnownBytes.{Appends, Consumes, IsAtEnd, Keeps}
use Rattle.cc_base.proofs.Takes.{consumes_kept}
use Rattle.cc_base.specs.Streams.{Puts, Rose}
use Rattle.cc_base.specs.declared.refusal.Refusal.{Refusal}
use Rattle.cc_base.specs.declared.streams.Put.{Put}
use Rattle.cc_base.specs.declared.streams.Put.TheVariants as put
use Rattle.command_base.specs.Ends.{ends}
use Rattle.words_reading.proofs.PieceLemmas.{IsPiece, all_taken, front_size, nothing_taken, whole_piece, with_piece}
use Rattle.words_reading.proofs.WayLemmas.{all_put}
use Rattle.words_files.specs.Offences.{IsUnoffending}
use Rattle.cc_receiver.specs.CaptionChannel.{caption_channel}
use Rattle.words_reading.specs.Judging.{EndsAt, HasGathered, HasStopped, IsReady, SaysFront, StopsBy}
use Rattle.words_reading.specs.Causes.{Cause, HasNoOffence, IsAnyhow, IsRefusedWith, IsWholeFile, words_limit}
use Rattle.words_reading.specs.Reading.{ReadsWords, Stops, StopsEarly}
use Rattle.words_reading.specs.declared.judge.Stop.{Stop}
use Rattle.words_reading.specs.declared.judge.Stop.TheVariants as stop

-- a judge judged these bytes, and the text that stands for them was put
pub record HasPut {J : Type 0} (HasJudged : List ℕ → List ℕ → J → Type 0) (start now : Option (List ℕ)) (bytes : List ℕ) (judge : J) : Type 0 where
  pub text : List ℕ
  pub judged : HasJudged bytes text judge
  pub appended : Appends start now text

-- bytes were taken and judged, and their text was put; this many more are within the limit
pub record IsUnderway {G J : Type 0} (HasRead : List ℕ → J → Type 0) (HasJudged : G → List ℕ → List ℕ → J → Type 0) (first left start0 now : Option (List ℕ)) (begun judge : J) (room : ℕ) : Type 0 where
  pub taken : List ℕ
  pub consumed : Consumes first left taken
  pub within : length taken + room ≡ words_limit
  pub read : HasRead taken judge
  pub put_all : (given : G) (start : Option (List ℕ)) (front : List ℕ) → HasJudged given [] front begun → Appends start start0 front
      → HasPut (HasJudged given) start now taken judge

-- nothing was taken yet
pub underway_begun : {G J : Type 0} → (HasRead : List ℕ → J → Type 0) → (HasJudged : G → List ℕ → List ℕ → J → Type 0) → (first start : Option (List ℕ)) (judge : J) → HasRead [] judge
    → IsUnderway HasRead HasJudged first first start start judge judge words_limit
underway_begun HasRead HasJudged first start judge read = record {
  taken = [];
  consumed = nothing_taken first;
  within = refl;
  read = read;
  put_all = λ given before front judged puts. record { text = front; judged = judged; appended = puts };
}

-- what a run stops for, where the bytes judged are all that was taken
all_judged : (Says : List ℕ → List ℕ → Type 0) (Why : Cause) (first left after start now : Option (List ℕ)) (reads later writes still room : ℕ) (taken text : List ℕ)
    → Consumes first left taken → length taken + room ≡ words_limit → Keeps left after → Says taken text → Appends start now text → Why taken []
    → Stops Says Why put.Done (ends first reads start writes) (ends after later now still)
all_judged Says Why first left after start now reads later writes still room taken text consumed within keeps says puts cause = record {
  judged = taken;
  unjudged = [];
  text = text;
  taken = subst (Consumes first after) (sym (append-nil taken)) (consumes_kept first left after taken consumed keeps);
  within = omega arith;
  says = says;
  cause = cause;
  output = puts;
}

-- the input failed
pub take_failed : {R J : Type 0} → (HasJudged : List ℕ → List ℕ → J → Type 0) → (Says : List ℕ → List ℕ → Type 0) → (Halts : R → List ℕ → List ℕ → Type 0)
    → (first left after start now : Option (List ℕ)) (reads later writes still room : ℕ) (taken : List ℕ) (judge : J)
    → ((bytes text : List ℕ) → HasJudged bytes text judge → Says bytes text × IsUnoffending caption_channel bytes)
    → HasPut HasJudged start now taken judge → Consumes first left taken → length taken + room ≡ words_limit → Keeps left after → Rose reads later → still ≡ writes
    → StopsEarly Says Halts (ends first reads start writes) (ends after later now still) stop.ReadFault
take_failed HasJudged Says Halts first left after start now reads later writes still room taken judge says had consumed within keeps rose same =
    let said = says taken had.text had.judged in (
      rose,
      same,
      all_judged Says (HasNoOffence (IsUnoffending caption_channel)) first left after start now reads later writes still room taken had.text consumed within keeps said.0 had.appended (refl, said.1),
    )

-- the input is a words file
pub file_ended : {R J : Type 0} → (HasJudged : List ℕ → List ℕ → J → Type 0) → (Says : List ℕ → List ℕ → Type 0) → (Halts : R → List ℕ → List ℕ → Type 0)
    → (first left after start now : Option (List ℕ)) (reads later writes still room : ℕ) (taken : List ℕ) (judge : J)
    → HasPut HasJudged start now taken judge → Consumes first left taken → length taken + room ≡ words_limit
    → IsAtEnd left × Keeps left after → later ≡ reads → still ≡ writes
    → ((text : List ℕ) → HasJudged taken text judge → EndsAt taken (Ok tt))
    → ReadsWords HasJudged Says Halts judge (ends first reads start writes) (ends after later now still) (Ok tt)
file_ended HasJudged Says Halts first left after start now reads later writes still room taken judge had consumed within (ended, keeps) steady same file = (
  record { reads = steady; writes = same },
  all_judged (λ bytes text. HasJudged bytes text judge) (IsWholeFile first) first left after start now reads later writes still room taken had.text consumed within keeps
      had.judged had.appended ((all_taken first left taken consumed ended, refl), file had.text had.judged),
)

-- the input is cut short
pub file_cut : {R J : Type 0} → (HasJudged : List ℕ → List ℕ → J → Type 0) → (Says : List ℕ → List ℕ → Type 0) → (Halts : R → List ℕ → List ℕ → Type 0)
    → (first left after start now : Option (List ℕ)) (reads later writes still room : ℕ) (taken : List ℕ) (judge : J) (refusal : Refusal)
    → ((bytes text : List ℕ) → HasJudged bytes text judge → Says bytes text × IsUnoffending caption_channel bytes)
    → HasPut HasJudged start now taken judge → Consumes first left taken → length taken + room ≡ words_limit
    → IsAtEnd left × Keeps left after → later ≡ reads → still ≡ writes
    → ((text : List ℕ) → HasJudged taken text judge → EndsAt taken (Err refusal))
    → StopsEarly Says Halts (ends first reads start writes) (ends after later now still) (stop.Refused refusal)
file_cut HasJudged Says Halts first left after start now reads later writes still room taken judge refusal says had consumed within (ended, keeps) steady same file = (
  record { reads = steady; writes = same },
  all_judged Says (IsRefusedWith refusal first) first left after start now reads later writes still room taken had.text consumed within keeps
      (says taken had.text had.judged).0 had.appended (inr ((all_taken first left taken consumed ended, refl), file had.text had.judged)),
)

-- what a stop in bytes makes of the run
stopped_so : {R : Type 0} → (Says : List ℕ → List ℕ → Type 0) → (Halts : R → List ℕ → List ℕ → Type 0) → (Said : List ℕ → List ℕ → Type 0) → (Why : Cause) (answer : Put)
    (first after start then : Option (List ℕ)) (reads later writes still : ℕ) (bytes rest : List ℕ) (why : Stop R)
    → (had : HasStopped Says Halts start then [] bytes why) → Consumes first after (bytes ++ rest) → length bytes ≤ words_limit
    → Said had.judged had.text → Why had.judged (had.unjudged ++ rest) → Puts start then answer had.text
    → Stops Said Why answer (ends first reads start writes) (ends after later then still)
stopped_so Says Halts Said Why answer first after start then reads later writes still bytes rest why had consumed within says cause output =
    let parts : length bytes ≡ length had.judged + length had.unjudged = ap length had.spelled ∙ length-append had.judged had.unjudged in
    record {
      judged = had.judged;
      unjudged = had.unjudged ++ rest;
      text = had.text;
      taken = subst (Consumes first after) (ap (λ l. l ++ rest) had.spelled ∙ append_assoc had.judged had.unjudged rest) consumed;
      within = omega arith;
      says = says;
      cause = cause;
      output = output;
    }

stop_answered : {R : Type 0} → (Says : List ℕ → List ℕ → Type 0) → (Halts : R → List ℕ → List ℕ → Type 0) → (first after start then : Option (List ℕ)) (reads later writes still : ℕ)
    (bytes rest : List ℕ) (why : Stop R) → HasStopped Says Halts start then [] bytes why → Consumes first after (bytes ++ rest) → length bytes ≤ words_limit
    → later ≡ reads → StopsBy writes still why
    → StopsEarly Says Halts (ends first reads start writes) (ends after later then still) why
stop_answered Says Halts first after start then reads later writes still bytes rest stop.ReadFault had consumed within steady same = absurd had.cause
stop_answered Says Halts first after start then reads later writes still bytes rest stop.Limit had consumed within steady same = absurd had.cause
stop_answered Says Halts first after start then reads later writes still bytes rest stop.WriteFault had consumed within steady (more, rose) = (
  steady,
  rose,
  stopped_so Says Halts (SaysFront Says Halts) IsAnyhow put.Failed first after start then reads later writes still bytes rest stop.WriteFault had consumed within had.cause tt had.way,
)
stop_answered Says Halts first after start then reads later writes still bytes rest (stop.Refused refusal) had consumed within steady same = (
  record { reads = steady; writes = same },
  stopped_so Says Halts Says (IsRefusedWith refusal first) put.Done first after start then reads later writes still bytes rest (stop.Refused refusal) had consumed within
      had.cause.2 (inl had.cause.1) (all_put start then [] had.text had.way refl),
)
stop_answered Says Halts first after start then reads later writes still bytes rest (stop.Own reason) had consumed within steady same = (
  record { reads = steady; writes = same },
  stopped_so Says Halts (Halts reason) IsAnyhow put.Done first after start then reads later writes still bytes rest (stop.Own reason) had consumed within
      had.cause tt (all_put start then [] had.text had.way refl),
)

-- a piece was judged, and the judge stopped in it
pub piece_stopped : {R : Type 0} → (Says : List ℕ → List ℕ → Type 0) → (Halts : R → List ℕ → List ℕ → Type 0) → (first left after start then : Option (List ℕ))
    (reads later writes still room count : ℕ) (taken buffer piece rest : List ℕ) (why : Stop R) → Consumes first left taken → length taken + room ≡ words_limit
    → Consumes left after (take count buffer) → IsPiece room count buffer piece rest
    → HasStopped Says Halts start then [] (taken ++ piece) why → later ≡ reads → StopsBy writes still why
    → StopsEarly Says Halts (ends first reads start writes) (ends after later then still) why
piece_stopped Says Halts first left after start then reads later writes still room count taken buffer piece rest why consumed within next is had steady same =
    let size = is.size in
    let sum = length-append taken piece in
    stop_answered Says Halts first after start then reads later writes still (taken ++ piece) rest why had
    (with_piece first left after taken piece rest (take count buffer) consumed next is.spelled) (omega arith) steady same

-- a piece was judged, and there is a byte past the limit
pub piece_passes : {R J : Type 0} → (HasJudged : List ℕ → List ℕ → J → Type 0) → (Says : List ℕ → List ℕ → Type 0) → (Halts : R → List ℕ → List ℕ → Type 0)
    → (first left after start then : Option (List ℕ)) (reads later writes still room count : ℕ) (taken buffer piece rest : List ℕ) (judge : J)
    → ((bytes text : List ℕ) → HasJudged bytes text judge → Says bytes text × IsUnoffending caption_channel bytes)
    → Consumes first left taken → length taken + room ≡ words_limit → Consumes left after (take count buffer) → IsPiece room count buffer piece rest → room < count
    → HasPut HasJudged start then (taken ++ piece) judge → later ≡ reads → still ≡ writes
    → StopsEarly Says Halts (ends first reads start writes) (ends after later then still) stop.Limit
piece_passes HasJudged Says Halts first left after start then reads later writes still room count taken buffer piece rest judge says consumed within next is past had steady same =
    let size = is.size in
    let more = is.rest_size in
    let sum = length-append taken piece in
    let said = says (taken ++ piece) had.text had.judged in (
      record { reads = steady; writes = same },
      record {
        judged = taken ++ piece;
        unjudged = rest;
        text = had.text;
        taken = with_piece first left after taken piece rest (take count buffer) consumed next is.spelled;
        within = omega arith;
        says = said.0;
        cause = (omega arith, omega arith, said.1);
        output = had.appended;
      },
    )

-- a piece was judged, and is all of the take
pub piece_judged : {G J : Type 0} → (HasRead : List ℕ → J → Type 0) → (HasJudged : G → List ℕ → List ℕ → J → Type 0) → (first left after start0 now then : Option (List ℕ)) (begun judge later : J)
    (room count : ℕ) (buffer piece rest : List ℕ)
    → (on : IsUnderway HasRead HasJudged first left start0 now begun judge room) → Consumes left after (take count buffer) → IsPiece room count buffer piece rest → count ≤ room
    → HasRead (on.taken ++ piece) later
    → ((given : G) (start : Option (List ℕ)) → HasPut (HasJudged given) start now on.taken judge → HasPut (HasJudged given) start then (on.taken ++ piece) later)
    → IsUnderway HasRead HasJudged first after start0 then begun later (room - count)
piece_judged HasRead HasJudged first left after start0 now then begun judge later room count buffer piece rest on next is whole read judges =
    let within = on.within in
    let size = is.size in
    let sum = length-append on.taken piece in
    record {
      taken = on.taken ++ piece;
      consumed = whole_piece first left after room count on.taken buffer piece rest on.consumed next is whole;
      within = omega arith;
      read = read;
      put_all = λ given start front judged puts. judges given start (on.put_all given start front judged puts);
    }

-- what was put is gathered, and what was gathered and isn't held is put
pub put_gathered : {J : Type 0} → (HasJudged : List ℕ → List ℕ → J → Type 0) → (start now : Option (List ℕ)) (held bytes : List ℕ) (judge : J) → held ≡ []
    → HasPut HasJudged start now bytes judge → HasGathered HasJudged start now held bytes judge
put_gathered HasJudged start now held bytes judge none had =
    record { text = had.text; judged = had.judged; way = record { sent = had.text; appended = had.appended; whole = ap (λ h. had.text ++ h) none ∙ append-nil had.text } }

pub gathered_put : {J : Type 0} → (HasJudged : List ℕ → List ℕ → J → Type 0) → (start now : Option (List ℕ)) (held bytes : List ℕ) (judge : J) → held ≡ []
    → HasGathered HasJudged start now held bytes judge → HasPut HasJudged start now bytes judge
gathered_put HasJudged start now held bytes judge none had =
    record { text = had.text; judged = had.judged; appended = all_put start now held had.text had.way none }

-- bytes of a take are judged
pub ready_on : {J : Type 0} → (HasRead : List ℕ → J → Type 0) → (judge : J) (room more : ℕ) (taken : List ℕ) → HasRead taken judge → length taken + room ≡ words_limit → more ≤ room
    → IsReady HasRead judge more
ready_on HasRead judge room more taken read within fits = record { before = taken; read = read; within = omega arith }

-- after the first of some bytes the others may be judged
pub ready_within : {J : Type 0} → (HasRead : List ℕ → J → Type 0) → (judge : J) (before bytes : List ℕ) (at more : ℕ) → length before + length bytes ≤ words_limit → at ≤ length bytes
    → more ≡ length bytes - at → HasRead (before ++ take at bytes) judge → IsReady HasRead judge more
ready_within HasRead judge before bytes at more within fits is read =
    let size = front_size before bytes at fits in
    record { before = before ++ take at bytes; read = read; within = omega arith }

-- nothing was put yet
pub nothing_put : (start : Option (List ℕ)) → Appends start start []
nothing_put None = tt
nothing_put (Some bytes) = sym (append-nil bytes)
