-- What `import-mcc` answers where a file was read, or the reading of it stopped before.
use Rattle.std.proofs.Common.{◌≡◌, ◌∙◌, ◌<◌, ◌≤◌, ◌++◌, ap, arith, inl, inr, length, length-append, refl, subst, sym, ℕ, List, [], Some}
use Rattle.std.proofs.lemmas.List.{append-nil}
use Rattle.std.specs.Io.KnownBytes.{Consumes}
use Rattle.cc_base.specs.declared.limit_of.LimitOf.{LimitOf}
use Rattle.cc_base.specs.declared.limit_of.LimitOf.TheVariants as limit
use Rattle.cc_base.specs.declared.refusal.Refusal.{Refusal}
use Rattle.cc_base.specs.declared.streams.Put.{Put}
use Rattle.cc_base.specs.declared.streams.Put.TheVariants as put
use Rattle.command_base.specs.Ends.{Ends, IsSteady}
use Rattle.command_base.specs.declared.status.Place.TheVariants.{Byte}
use Rattle.command_base.specs.declared.status.Status.TheVariants as status
use Rattle.mcc_commands.specs.ImportMcc.{HaltsImport, ImportMccVerdict, RefusesAt, SaysImport, StopsAtLine}
use Rattle.mcc_commands.specs.Importing.{EndsInput, HasEndedLine}
use Rattle.cc_base.specs.Streams.{Rose}
use Rattle.mcc_commands.specs.Imported.{IsMccImport, PassesAtPacket, SaysLines}
use Rattle.mcc_commands.specs.Offences.{IsMccCutShort, IsWithoutOffence}
use Rattle.words_reading.proofs.KnownLemmas.{known_judged, known_whole}
use Rattle.words_reading.specs.Causes.{Cause, HasNoOffence, IsAnyhow, IsWholeInput, PassesLimit, words_limit}
use Rattle.words_reading.specs.Judging.{SaysFront}
use Rattle.words_reading.specs.Reading.{Stops}
use Rattle.command_base.proofs.RealisedLemmas.{of_told, taken_rest}
use Rattle.words_reading.proofs.WordsLemmas.{admitted_full, whole_end}
use Rattle.command_base.specs.Realises.{PutsRead, RealisesLeaving}
use Rattle.words_reading.specs.WordsVerdict.{StopsWithin, admitted}

-- what was judged of told bytes is a front of them
within_so : (Halts : List ℕ → List ℕ → Type 0) (Why : Cause) (result : Put) (old new : Ends) (input : List ℕ) → old.left ≡ Some input → (stops : Stops Halts Why result old new)
    → StopsWithin Halts input stops.text
within_so Halts Why result old new input known stops =
    let (rest, is) = known_judged old.left new.left input stops.judged stops.unjudged known stops.taken in
    (stops.judged, stops.unjudged ++ rest, is, stops.within, stops.says)

-- at the end of a line
line_so : (which : LimitOf) (old new : Ends) (input : List ℕ) → old.left ≡ Some input → (stops : Stops (PassesAtPacket which) (HasEndedLine old.left) put.Done old new)
    → StopsAtLine (PassesAtPacket which) input stops.text
line_so which old new input known stops =
    let (rest, is) = known_judged old.left new.left input stops.judged stops.unjudged known stops.taken in
    elim stops.cause [
      | inl line ↦ (stops.judged, stops.unjudged ++ rest, is, stops.within, stops.says, inl line)
      | inr whole ↦
          let same = known_whole old.left input stops.judged known whole.0 in
          (stops.judged, [], same ∙ sym (append-nil stops.judged), stops.within, stops.says, inr refl)
    ]

-- of the whole input
whole_so : (Says : List ℕ → List ℕ → Type 0) (Why : Cause) (old new : Ends) (input : List ℕ) → old.left ≡ Some input → (stops : Stops Says Why put.Done old new)
    → IsWholeInput old.left stops.judged stops.unjudged → (length input ≤ words_limit) × Says input stops.text
whole_so Says Why old new input known stops whole =
    let same = known_whole old.left input stops.judged known whole.0 in
    (subst (λ l. length l ≤ words_limit) (sym same) stops.within, subst (λ l. Says l stops.text) (sym same) stops.says)

read_so : (old new : Ends) (input : List ℕ) → old.left ≡ Some input → Stops SaysLines (HasNoOffence IsWithoutOffence) put.Done old new
    → PutsRead (λ aside. ImportMccVerdict) [] input old new
read_so old new input known stops =
    let all = ap (λ u. stops.judged ++ u) stops.cause.0 ∙ append-nil stops.judged in
    let (rest, spelled, left) = taken_rest old.left new.left input stops.judged known (subst (Consumes old.left new.left) all stops.taken) in
    record {
      read = stops.judged;
      rest = rest;
      text = stops.text;
      spelled = spelled;
      taken = left;
      says = (stops.within, stops.cause.1, stops.says);
      output = stops.output;
    }

limit_so : (old new : Ends) (input : List ℕ) → old.left ≡ Some input → (stops : Stops SaysLines (PassesLimit IsWithoutOffence) put.Done old new)
    → (words_limit < length input) × IsWithoutOffence (admitted input) × SaysLines (admitted input) stops.text
limit_so old new input known stops =
    let (rest, is) = known_judged old.left new.left input stops.judged stops.unjudged known stops.taken in
    let (full, some, fine) = stops.cause in
    let size = ap length is ∙ length-append stops.judged (stops.unjudged ++ rest) in
    let behind = length-append stops.unjudged rest in
    let same = sym (admitted_full input stops.judged (stops.unjudged ++ rest) is full) in
    (omega (arith, size, behind, full, some), subst IsWithoutOffence same fine, subst (λ l. SaysLines l stops.text) same stops.says)

cut_so : (refusal : Refusal) (old new : Ends) (input : List ℕ) → old.left ≡ Some input → (stops : Stops SaysLines (EndsInput refusal old.left) put.Done old new)
    → (length input ≤ words_limit) × IsMccCutShort input refusal × SaysLines input stops.text
cut_so refusal old new input known stops =
    let same = known_whole old.left input stops.judged known stops.cause.0.0 in
    let (within, says) = whole_so SaysLines (EndsInput refusal old.left) old new input known stops stops.cause.0 in
    (within, subst (λ l. IsMccCutShort l refusal) (sym same) stops.cause.1, says)

written_so : (old new : Ends) (input : List ℕ) → old.left ≡ Some input → (stops : Stops (SaysFront SaysImport HaltsImport) IsAnyhow put.Failed old new)
    → ImportMccVerdict input status.WriteFault stops.text
written_so old new input known stops =
    let (rest, is) = known_judged old.left new.left input stops.judged stops.unjudged known stops.taken in
    elim stops.says [
      | inl says ↦ inl (stops.judged, stops.unjudged ++ rest, is, stops.within, says)
      | inr halts ↦ inr (halts.0, (stops.judged, stops.unjudged ++ rest, is, stops.within, halts.1))
    ]

-- the file was read to its end, and its words were put
pub imported : (old new : Ends) → IsSteady old new → Stops IsMccImport (IsWholeInput old.left) put.Done old new → RealisesLeaving ImportMccVerdict old new status.Ok
imported old new steady stops = (
  (
    refl,
    record { aside = refl; reads = steady.reads; writes = steady.writes },
    of_told _ old.left (λ input known. (
      whole_end old.left new.left input stops.judged stops.unjudged known stops.taken stops.cause,
      (stops.text, whole_so IsMccImport (IsWholeInput old.left) old new input known stops stops.cause, stops.output),
    )),
  ),
  λ memory. cc,
)

-- a read of it failed, or a put of its words
pub read_failed : (old new : Ends) → Rose old.read_faults new.read_faults → new.write_faults ≡ old.write_faults → Stops SaysLines (HasNoOffence IsWithoutOffence) put.Done old new
    → RealisesLeaving ImportMccVerdict old new status.ReadFault
read_failed old new rose writes stops = (inr (refl, rose, writes, of_told _ old.left (λ input known. read_so old new input known stops)), λ memory. cc)

pub put_failed : (old new : Ends) → new.read_faults ≡ old.read_faults → Rose old.write_faults new.write_faults
    → Stops (SaysFront SaysImport HaltsImport) IsAnyhow put.Failed old new → RealisesLeaving ImportMccVerdict old new status.WriteFault
put_failed old new reads rose stops =
    ((refl, reads, rose, of_told _ old.left (λ input known. (stops.text, written_so old new input known stops, stops.output))), λ memory. cc)

-- it passes the limit
pub past_limit : (old new : Ends) → IsSteady old new → Stops SaysLines (PassesLimit IsWithoutOffence) put.Done old new
    → RealisesLeaving ImportMccVerdict old new (status.Limit limit.Bytes)
past_limit old new steady stops = (
  (
    record { aside = refl; reads = steady.reads; writes = steady.writes },
    of_told _ old.left (λ input known. (stops.text, inl (limit_so old new input known stops), stops.output)),
  ),
  λ memory. cc,
)

-- it ends too soon, or something in it offends
pub cut_short : (refusal : Refusal) (old new : Ends) → IsSteady old new → Stops SaysLines (EndsInput refusal old.left) put.Done old new
    → RealisesLeaving ImportMccVerdict old new (status.Malformed (Byte refusal.place) refusal.why)
cut_short refusal old new steady stops = (
  (
    record { aside = refl; reads = steady.reads; writes = steady.writes },
    of_told _ old.left (λ input known. (stops.text, inr (cut_so refusal old new input known stops), stops.output)),
  ),
  λ memory. cc,
)

pub offended : (refusal : Refusal) (old new : Ends) → IsSteady old new → Stops (RefusesAt refusal) IsAnyhow put.Done old new
    → RealisesLeaving ImportMccVerdict old new (status.Malformed (Byte refusal.place) refusal.why)
offended refusal old new steady stops = (
  (
    record { aside = refl; reads = steady.reads; writes = steady.writes },
    of_told _ old.left (λ input known. (stops.text, inl (within_so (RefusesAt refusal) IsAnyhow put.Done old new input known stops), stops.output)),
  ),
  λ memory. cc,
)

-- a limit is passed with a packet
pub passed : (which : LimitOf) (old new : Ends) → IsSteady old new → Stops (PassesAtPacket which) (HasEndedLine old.left) put.Done old new
    → RealisesLeaving ImportMccVerdict old new (status.Limit which)
passed limit.Bytes old new steady stops = (
  (
    record { aside = refl; reads = steady.reads; writes = steady.writes },
    of_told _ old.left (λ input known. (stops.text, inr (line_so limit.Bytes old new input known stops), stops.output)),
  ),
  λ memory. cc,
)
passed limit.Frames old new steady stops = (
  (
    record { aside = refl; reads = steady.reads; writes = steady.writes },
    of_told _ old.left (λ input known. (stops.text, line_so limit.Frames old new input known stops, stops.output)),
  ),
  λ memory. cc,
)
passed limit.Cues old new steady stops = absurd stops.says.passes
passed limit.Packet old new steady stops = absurd stops.says.passes
passed limit.Day old new steady stops = absurd stops.says.passes
