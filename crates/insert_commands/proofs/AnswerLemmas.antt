-- What `insert` answers, by how its list and its words were read.
use Rattle.std.proofs.Common.{◌≡◌, ◌∙◌, ◌<◌, ◌≤◌, ◌++◌, arith, ℕ, List, inl, inr, length, refl, subst, sym, Option, Some, None, Ok, Err}
use Rattle.cc_base.specs.declared.streams.Put.TheVariants as put
use Rattle.command_base.specs.Ends.{Ends, IsSteady}
use Rattle.command_base.specs.declared.status.Status.{Status}
use Rattle.command_base.specs.declared.status.Status.TheVariants as status
use Rattle.cue_list_commands.specs.Reads.{ReadsProgramme}
use Rattle.command_base.specs.SideEnds.{side_ends}
use Rattle.cue_list_commands.specs.Plan.{Plan}
use Rattle.cue_list_commands.specs.Programme.{Programme}
use Rattle.insert_commands.specs.InsertVerdict.{HaltsInserting, InsertEnd, InsertHalts, InsertVerdict, InsertWords, SaysInserted}
use Rattle.insert_commands.specs.InsertSteps.{HasJudged, halt_status}
use Rattle.insert_commands.specs.declared.inserting.Halt.{Halt}
use Rattle.insert_commands.specs.declared.inserting.Halt.TheVariants as halt
use Rattle.insert_commands.specs.declared.inserting.Inserting.{Inserting}
use Rattle.cue_list_commands.specs.Accepted.{IsRefused}
use Rattle.cue_list_commands.specs.Output.{IsPlacedAs, PlacedList, framing_of}
use Rattle.cc_base.specs.declared.refusal.Refusal.{Refusal}
use Rattle.command_base.proofs.RealisedLemmas.{IsPlain, of_told, plain_realised}
use Rattle.command_base.specs.Realises.{Realises, RealisesBeside}
use Rattle.command_base.specs.WholeInput.{ReadsInput}
use Rattle.words_reading.proofs.WordsLemmas.{ended_so, never_memory, offence_keeps_frames, read_beside, stopped_realised, whole_end}
use Rattle.cue_list_commands.specs.Framing.{Framing, HasFraming}
use Rattle.insert_commands.proofs.SoundLemmas.{insertions_sound}
use Rattle.cue_list_commands.specs.Frames.{GivesFrom, frames_left}
use Rattle.services_files.specs.CaptionChannel.{caption_channel}
use Rattle.words_files.specs.Offences.{FirstOffendingWord, IsFileUnder}
use Rattle.words_reading.proofs.KnownLemmas.{file_of}
use Rattle.words_reading.specs.Causes.{IsWholeFile, words_limit}
use Rattle.words_reading.specs.Reading.{CountsBy, Stops, StopsEarly}
use Rattle.words_reading.specs.Statuses.{stop_status}
use Rattle.words_reading.specs.declared.judge.Stop.{Stop}
use Rattle.words_reading.specs.declared.judge.Stop.TheVariants as stop

-- what is said of bytes that offend is said of those and more
stays : (list : Framing) (judged more text : List ℕ) (refusal : Refusal) → FirstOffendingWord caption_channel judged refusal → SaysInserted list judged text
    → SaysInserted list (judged ++ more) text
stays list judged more text refusal offence says =
    record {
      frames = says.frames;
      frames_are = offence_keeps_frames says.frames judged more refusal says.frames_are offence;
      inserted = says.inserted;
      rates = says.rates;
    }

halts_as : (made : PlacedList) (why : Halt) (judged text : List ℕ) → HaltsInserting (framing_of made) why judged text → InsertHalts made (halt_status why) judged text
halts_as made (halt.Found finding) judged text halts = halts
halts_as made halt.Packet judged text halts = halts

is_plain : (why : Halt) → IsPlain (halt_status why)
is_plain (halt.Found finding) = tt
is_plain halt.Packet = tt

-- the list is one of told bytes
list_of : (text : List ℕ) (later : Option (List ℕ)) (before now : ℕ) (programme : Programme Plan) → (read : ReadsProgramme (Some text) later before now (Ok programme))
    → ReadsInput IsPlacedAs IsRefused (Some text) later before now (Ok read.2.made)
list_of text later before now programme read = (read.0, read.1, read.2.accepted)

-- the words stopped the run, where nothing is known of the side file
untold_stopped : (later : Option (List ℕ)) (before now : ℕ) (old new : Ends) (why : Stop Halt) → now ≡ before
    → CountsBy old.read_faults new.read_faults old.write_faults new.write_faults (Err why)
    → Realises InsertVerdict (side_ends None before) (side_ends later now) old new (stop_status halt_status why)
untold_stopped later before now old new stop.ReadFault kept counts = inr (kept, counts.0, counts.1, tt)
untold_stopped later before now old new stop.WriteFault kept counts = (kept, counts.0, counts.1, tt)
untold_stopped later before now old new stop.Limit kept counts = (record { aside = kept; reads = counts.0; writes = counts.1 }, tt)
untold_stopped later before now old new (stop.Refused refusal) kept counts = (record { aside = kept; reads = counts.0; writes = counts.1 }, tt)
untold_stopped later before now old new (stop.Own why) kept counts =
    plain_realised InsertVerdict (side_ends None before) (side_ends later now) old new (halt_status why) (is_plain why)
    (record { aside = kept; reads = counts.0; writes = counts.1 }) tt

pub stopped_answer : (left later : Option (List ℕ)) (before now : ℕ) (programme : Programme Plan) (old new : Ends) (why : Stop Halt) (answer : Status)
    → ReadsProgramme left later before now (Ok programme) → CountsBy old.read_faults new.read_faults old.write_faults new.write_faults (Err why)
    → ((list : Framing) → HasFraming frames_left GivesFrom list programme → StopsEarly (SaysInserted list) (HaltsInserting list) old new why)
    → answer ≡ stop_status halt_status why
    → RealisesBeside IsPlacedAs InsertVerdict (side_ends left before) (side_ends later now) old new answer
stopped_answer None later before now programme old new why answer reads counts words is = (
  subst (Realises InsertVerdict (side_ends None before) (side_ends later now) old new) (sym is) (untold_stopped later before now old new why reads.0 counts),
  (λ memory. absurd (never_memory halt_status is_plain why (sym is ∙ memory))),
  inr tt,
)
stopped_answer (Some text) later before now programme old new why answer reads counts words is =
    let made : PlacedList = reads.2.made in
    let ran =
    stopped_realised (SaysInserted (framing_of made)) (InsertEnd made) (InsertHalts made) (stays (framing_of made)) (HaltsInserting (framing_of made)) halt_status (halts_as made) is_plain
    old new why answer (words (framing_of made) reads.2.framing) is in
    read_beside IsPlacedAs IsRefused InsertWords made (side_ends (Some text) before) (side_ends later now) old new answer (list_of text later before now programme reads) ran.0 ran.1

-- the words were read to their end, and this was judged of them
abbrev HasEnded : Framing → Inserting → Ends → Ends → Type 0
HasEnded list inserting old new = IsSteady old new × Stops (λ bytes text. HasJudged list bytes text inserting) (IsWholeFile old.left) put.Done old new

-- so ends the whole input
at_end : (made : PlacedList) (inserting : Inserting) (answer : Status) (old new : Ends) (input : List ℕ) → old.left ≡ Some input
    → (ended : HasEnded (framing_of made) inserting old new)
    → (IsFileUnder caption_channel ended.1.says.says.frames ended.1.judged → InsertEnd made answer ended.1.judged ended.1.text)
    → (length input ≤ words_limit) × InsertEnd made answer input ended.1.text
at_end made inserting answer old new input known (steady, stops) ends =
    ended_so (InsertEnd made) (λ bytes text. HasJudged (framing_of made) bytes text inserting) (IsWholeFile old.left) answer put.Done old new input known stops stops.cause.0
    (ends (file_of stops.says.says.frames stops.judged stops.says.says.frames_are stops.cause.1))

pub whole_answer : (left later : Option (List ℕ)) (before now : ℕ) (programme : Programme Plan) (inserting : Inserting) (old new : Ends)
    → ReadsProgramme left later before now (Ok programme) → (new.read_faults ≡ old.read_faults) × (new.write_faults ≡ old.write_faults)
    → ((list : Framing) → HasFraming frames_left GivesFrom list programme → HasEnded list inserting old new)
    → ((list : Framing) (bytes text : List ℕ) (had : HasJudged list bytes text inserting) → list.count ≤ length had.says.frames)
    → RealisesBeside IsPlacedAs InsertVerdict (side_ends left before) (side_ends later now) old new status.Ok
whole_answer None later before now programme inserting old new reads counts words enough =
    ((reads.1, record { aside = reads.0; reads = counts.0; writes = counts.1 }, tt), (λ memory. cc), inr tt)
whole_answer (Some text) later before now programme inserting old new reads counts words enough =
    let made : PlacedList = reads.2.made in
    let ended = words (framing_of made) reads.2.framing in
    let stops = ended.1 in
    let says = stops.says.says in
    let many = enough (framing_of made) stops.judged stops.text stops.says in
    read_beside IsPlacedAs IsRefused InsertWords made (side_ends (Some text) before) (side_ends later now) old new status.Ok (list_of text later before now programme reads) (
      refl,
      record { aside = refl; reads = counts.0; writes = counts.1 },
      of_told _ old.left (λ input known. (
        whole_end old.left new.left input stops.judged stops.unjudged known stops.taken stops.cause.0,
        (
          stops.text,
          inl (at_end made inserting status.Ok old new input known ended (λ file. (
            says,
            file,
            many,
            insertions_sound text made.list made.placed says.frames says.frames_are.file stops.text reads.2.accepted says.inserted says.rates many,
          ))),
          stops.output,
        ),
      )),
    ) (λ memory. cc)

pub short_answer : (left later : Option (List ℕ)) (before now : ℕ) (programme : Programme Plan) (inserting : Inserting) (old new : Ends) (count : ℕ)
    → ReadsProgramme left later before now (Ok programme) → (new.read_faults ≡ old.read_faults) × (new.write_faults ≡ old.write_faults)
    → ((list : Framing) → HasFraming frames_left GivesFrom list programme → HasEnded list inserting old new)
    → ((list : Framing) (bytes text : List ℕ) (had : HasJudged list bytes text inserting) → (count ≡ length had.says.frames) × (length had.says.frames < list.count))
    → RealisesBeside IsPlacedAs InsertVerdict (side_ends left before) (side_ends later now) old new (status.Short count)
short_answer None later before now programme inserting old new count reads counts words short =
    ((record { aside = reads.0; reads = counts.0; writes = counts.1 }, tt), (λ memory. cc), inr tt)
short_answer (Some text) later before now programme inserting old new count reads counts words short =
    let made : PlacedList = reads.2.made in
    let ended = words (framing_of made) reads.2.framing in
    let stops = ended.1 in
    let (is, few) = short (framing_of made) stops.judged stops.text stops.says in
    read_beside IsPlacedAs IsRefused InsertWords made (side_ends (Some text) before) (side_ends later now) old new (status.Short count) (list_of text later before now programme reads) (
      record { aside = refl; reads = counts.0; writes = counts.1 },
      of_told _ old.left (λ input known. (
        stops.text,
        inl (at_end made inserting (status.Short count) old new input known ended (λ file. (stops.says.says, file, is, omega (arith, is, few)))),
        stops.output,
      )),
    ) (λ memory. cc)
