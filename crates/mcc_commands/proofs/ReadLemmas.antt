-- Where the reading of a file ends, and why.
use Rattle.std.proofs.Common.{◌≡◌, ℕ, ◌+◌, ◌-◌, ◌≤◌, ◌<◌, inl, inr, List, [], ◌++◌, append_assoc, append-nil, length, length-append, take, Option, Result, Ok, Err, refl, ap, sym, ◌∙◌, subst, arith}
use Rattle.std.specs.Io.KnownBytes.{Appends, Consumes, IsAtEnd, Keeps}
use Rattle.cc_base.proofs.Takes.{consumes_kept}
use Rattle.cc_base.specs.Streams.{Puts, Rose}
use Rattle.cc_base.specs.declared.streams.Put.TheVariants as put
use Rattle.command_base.specs.Ends.{ends}
use Rattle.mcc_files.specs.Readers.{state_of}
use Rattle.mcc_files.proofs.OriginLemmas.{origin}
use Rattle.mcc_files.proofs.Unoffending.{unoffending}
use Rattle.mcc_files.specs.MccFiles.{TimedPackets}
use Rattle.text_output.specs.Gathered.{IsGathered}
use Rattle.words_reading.proofs.PieceLemmas.{IsPiece, all_taken, whole_piece, with_piece}
use Rattle.words_reading.proofs.WayLemmas.{way_unwritten}
use Rattle.words_reading.specs.Causes.{Cause, IsWholeInput, words_limit}
use Rattle.words_reading.specs.Judging.{StopCause, StopsBy}
use Rattle.words_reading.specs.declared.judge.Stop.{Stop}
use Rattle.words_reading.specs.declared.judge.Stop.TheVariants as stopped
use Rattle.mcc_commands.specs.ImportMcc.{HaltsImport}
use Rattle.mcc_commands.specs.Imported.{AreWithinImport, IsMccImport, SaysLines}
use Rattle.mcc_commands.specs.Importing.{EndsFile, EndsInput, HaltsBehind, HaltsWhere, HasEndedLine, HasHalted, HasImported, Holds, IsMade, MayTake, MayTakeAll, ReadsFile}
use Rattle.mcc_commands.specs.Offences.{IsWithoutOffence}
use Rattle.mcc_commands.specs.declared.importing.Importing.{Importing}
use Rattle.mcc_commands.specs.declared.made.Made.{Made}
use Rattle.mcc_commands.specs.declared.import_stop.MccStop.{MccStop}
use Rattle.mcc_commands.specs.declared.import_stop.MccStop.TheVariants as stop

-- what was made is within the limits
pub within_of : (placed : TimedPackets) (words : List ℕ) (made : Made) → IsMade placed words made → AreWithinImport placed words
within_of placed words made is =
    let few = made.few in
    let short = made.short in
    let frames = is.frames_are in
    let bytes = is.bytes_are in
    record { are = record { after = made.words.before; are = is.has }; frames = omega (arith, few, frames); bytes = omega (arith, short, bytes) }

-- what an import says of its bytes
pub says_lines : (bytes words : List ℕ) (importing : Importing) → HasImported bytes words importing → SaysLines bytes words
says_lines bytes words importing had = record {
  lines = had.lines.lines;
  rest = had.lines.rest;
  placed = had.placed;
  spelled = had.lines.spelled;
  ended = had.lines.ended;
  open_line = had.lines.open_line;
  within = within_of had.placed words importing.made had.made;
}

pub no_offence : (bytes words : List ℕ) (importing : Importing) → HasImported bytes words importing → IsWithoutOffence bytes
no_offence bytes words importing had =
    record { form = unoffending bytes (state_of importing.reader had.placed) (origin bytes (state_of importing.reader had.placed) had.read); no_word = had.no_word }

-- bytes were taken, and their words were put; this many more are within the limit
pub record IsUnderway (first left start now : Option (List ℕ)) (importing : Importing) (room : ℕ) : Type 0 where
  pub taken : List ℕ
  pub words : List ℕ
  pub consumed : Consumes first left taken
  pub within : length taken + room ≡ words_limit
  pub had : HasImported taken words importing
  pub appended : Appends start now words

-- words that were put are gathered
pub put_gathered : (start now : Option (List ℕ)) (held words : List ℕ) → held ≡ [] → Appends start now words → IsGathered start now held words
put_gathered start now held words none appended = record { sent = words; appended = appended; whole = ap (λ h. words ++ h) none ∙ append-nil words }

-- a run ended where the bytes judged are all that was taken
holds_all : (Says : List ℕ → List ℕ → Type 0) (Why : Cause) (first left after start now : Option (List ℕ)) (reads later writes still room : ℕ) (taken words held : List ℕ)
    → Consumes first left taken → length taken + room ≡ words_limit → Keeps left after → Says taken words → Why taken [] → IsGathered start now held words
    → Holds Says Why (ends first reads start writes) (ends after later now still) held
holds_all Says Why first left after start now reads later writes still room taken words held consumed within keeps says cause way = record {
  judged = taken;
  unjudged = [];
  words = words;
  taken = subst (Consumes first after) (sym (append-nil taken)) (consumes_kept first left after taken consumed keeps);
  within = omega arith;
  says = says;
  cause = cause;
  way = way;
}

pub take_failed : (first left after start now : Option (List ℕ)) (reads later writes still room : ℕ) (held : List ℕ) (importing : Importing)
    → IsUnderway first left start now importing room → held ≡ [] → Keeps left after → Rose reads later → still ≡ writes
    → ReadsFile (ends first reads start writes) (ends after later now still) held (Err stopped.ReadFault)
take_failed first left after start now reads later writes still room held importing on none keeps rose same =
    let within = on.within in (
      rose,
      same,
      record {
        judged = on.taken;
        unjudged = [];
        text = on.words;
        taken = subst (Consumes first after) (sym (append-nil on.taken)) (consumes_kept first left after on.taken on.consumed keeps);
        within = omega arith;
        says = says_lines on.taken on.words importing on.had;
        cause = (refl, no_offence on.taken on.words importing on.had);
        output = on.appended;
      },
    )

-- the file ended
pub file_ends : (first left after start then : Option (List ℕ)) (reads later writes still room : ℕ) (taken held : List ℕ) (result : Result (Unit {0}) (Stop MccStop))
    → Consumes first left taken → length taken + room ≡ words_limit → IsAtEnd left × Keeps left after → later ≡ reads → EndsFile start then held taken result
    → StopCause writes still result → ReadsFile (ends first reads start writes) (ends after later then still) held result
file_ends first left after start then reads later writes still room taken held (Ok done) consumed within (ended, keeps) steady (words, is, way) by = (
  record { reads = steady; writes = by },
  holds_all IsMccImport (IsWholeInput first) first left after start then reads later writes still room taken words held consumed within keeps is
      (all_taken first left taken consumed ended, refl) way,
)
file_ends first left after start then reads later writes still room taken held (Err stopped.WriteFault) consumed within (ended, keeps) steady (words, is, failed) by = (
  steady,
  by.1,
  record {
    judged = taken;
    unjudged = [];
    text = words;
    taken = subst (Consumes first after) (sym (append-nil taken)) (consumes_kept first left after taken consumed keeps);
    within = omega arith;
    says = inl (inr is);
    cause = tt;
    output = failed;
  },
)
file_ends first left after start then reads later writes still room taken held (Err (stopped.Refused refusal)) consumed within (ended, keeps) steady (words, says, cut, way) by = (
  record { reads = steady; writes = by },
  holds_all SaysLines (EndsInput refusal first) first left after start then reads later writes still room taken words held consumed within keeps says
      ((all_taken first left taken consumed ended, refl), cut) way,
)
file_ends first left after start then reads later writes still room taken held (Err (stopped.Own (stop.Passes which))) consumed within (ended, keeps) steady (words, is, way) by = (
  record { reads = steady; writes = by },
  holds_all (HaltsImport (stop.Passes which)) (HasEndedLine first) first left after start then reads later writes still room taken words held consumed within keeps is
      (inr (all_taken first left taken consumed ended, refl)) way,
)
file_ends first left after start then reads later writes still room taken held (Err (stopped.Own (stop.Offends refusal))) consumed within end steady is by = absurd is
file_ends first left after start then reads later writes still room taken held (Err stopped.ReadFault) consumed within end steady is by = absurd is
file_ends first left after start then reads later writes still room taken held (Err stopped.Limit) consumed within end steady is by = absurd is

-- a run halted in bytes
halts_where : (left : Option (List ℕ)) (why : MccStop) (judged unjudged : List ℕ) → HaltsBehind why judged → HaltsWhere left why judged unjudged
halts_where left (stop.Offends refusal) judged unjudged ends = tt
halts_where left (stop.Passes which) judged unjudged ends = inl ends

pub halted_reads : (first left after start then : Option (List ℕ)) (reads later writes still room count : ℕ) (taken buffer piece rest held : List ℕ) (why : Stop MccStop)
    → Consumes first left taken → length taken + room ≡ words_limit → Consumes left after (take count buffer) → IsPiece room count buffer piece rest
    → HasHalted start then held (taken ++ piece) why → later ≡ reads → StopsBy writes still why
    → ReadsFile (ends first reads start writes) (ends after later then still) held (Err why)
halted_reads first left after start then reads later writes still room count taken buffer piece rest held stopped.ReadFault consumed within next is had steady by = absurd had.cause
halted_reads first left after start then reads later writes still room count taken buffer piece rest held stopped.Limit consumed within next is had steady by = absurd had.cause
halted_reads first left after start then reads later writes still room count taken buffer piece rest held (stopped.Refused refusal) consumed within next is had steady by = absurd had.cause
halted_reads first left after start then reads later writes still room count taken buffer piece rest held stopped.WriteFault consumed within next is had steady by =
    let size = is.size in
    let sum = length-append taken piece in
    let parts : length (taken ++ piece) ≡ length had.judged + length had.unjudged = ap length had.spelled ∙ length-append had.judged had.unjudged in (
      steady,
      by.1,
      record {
        judged = had.judged;
        unjudged = had.unjudged ++ rest;
        text = had.words;
        taken = subst (Consumes first after) (ap (λ l. l ++ rest) had.spelled ∙ append_assoc had.judged had.unjudged rest)
            (with_piece first left after taken piece rest (take count buffer) consumed next is.spelled);
        within = omega arith;
        says = inl (inl had.cause.0);
        cause = tt;
        output = had.cause.1;
      },
    )
halted_reads first left after start then reads later writes still room count taken buffer piece rest held (stopped.Own why) consumed within next is had steady by =
    let size = is.size in
    let sum = length-append taken piece in
    let parts : length (taken ++ piece) ≡ length had.judged + length had.unjudged = ap length had.spelled ∙ length-append had.judged had.unjudged in (
      record { reads = steady; writes = by },
      record {
        judged = had.judged;
        unjudged = had.unjudged ++ rest;
        words = had.words;
        taken = subst (Consumes first after) (ap (λ l. l ++ rest) had.spelled ∙ append_assoc had.judged had.unjudged rest)
            (with_piece first left after taken piece rest (take count buffer) consumed next is.spelled);
        within = omega arith;
        says = had.cause.0;
        cause = halts_where first why had.judged (had.unjudged ++ rest) had.cause.1;
        way = had.cause.2;
      },
    )

-- a piece was taken, and a put of its words fails
pub piece_unwritten : (first left after start now then : Option (List ℕ)) (reads later writes still room count : ℕ) (taken buffer piece rest words held gone : List ℕ) (importing : Importing)
    → Consumes first left taken → length taken + room ≡ words_limit → Consumes left after (take count buffer) → IsPiece room count buffer piece rest
    → HasImported (taken ++ piece) words importing → IsGathered start now held words → Puts now then put.Failed held → later ≡ reads → Rose writes still
    → ReadsFile (ends first reads start writes) (ends after later then still) gone (Err stopped.WriteFault)
piece_unwritten first left after start now then reads later writes still room count taken buffer piece rest words held gone importing consumed within next is had way failed steady rose =
    let size = is.size in
    let sum = length-append taken piece in (
      steady,
      rose,
      record {
        judged = taken ++ piece;
        unjudged = rest;
        text = words;
        taken = with_piece first left after taken piece rest (take count buffer) consumed next is.spelled;
        within = omega arith;
        says = inl (inl (says_lines (taken ++ piece) words importing had));
        cause = tt;
        output = way_unwritten start now then held words way failed;
      },
    )

-- a piece was taken, and there is a byte past the limit
pub piece_passes : (first left after start then : Option (List ℕ)) (reads later writes still room count : ℕ) (taken buffer piece rest words held : List ℕ) (importing : Importing)
    → Consumes first left taken → length taken + room ≡ words_limit → Consumes left after (take count buffer) → IsPiece room count buffer piece rest → room < count
    → HasImported (taken ++ piece) words importing → held ≡ [] → Appends start then words → later ≡ reads → still ≡ writes
    → ReadsFile (ends first reads start writes) (ends after later then still) held (Err stopped.Limit)
piece_passes first left after start then reads later writes still room count taken buffer piece rest words held importing consumed within next is past had none appended steady same =
    let size = is.size in
    let more = is.rest_size in
    let sum = length-append taken piece in (
      record { reads = steady; writes = same },
      record {
        judged = taken ++ piece;
        unjudged = rest;
        words = words;
        taken = with_piece first left after taken piece rest (take count buffer) consumed next is.spelled;
        within = omega arith;
        says = says_lines (taken ++ piece) words importing had;
        cause = (omega arith, omega arith, no_offence (taken ++ piece) words importing had);
        way = put_gathered start then held words none appended;
      },
    )

-- a piece was taken, and is all of the take
pub piece_underway : (first left after start now then : Option (List ℕ)) (room count : ℕ) (buffer piece rest words : List ℕ) (old new : Importing)
    → (on : IsUnderway first left start now old room) → Consumes left after (take count buffer) → IsPiece room count buffer piece rest → count ≤ room
    → HasImported (on.taken ++ piece) words new → Appends start then words → IsUnderway first after start then new (room - count)
piece_underway first left after start now then room count buffer piece rest words old new on next is whole had appended =
    let within = on.within in
    let size = is.size in
    let sum = length-append on.taken piece in
    record {
      taken = on.taken ++ piece;
      words = words;
      consumed = whole_piece first left after room count on.taken buffer piece rest on.consumed next is whole;
      within = omega arith;
      had = had;
      appended = appended;
    }

pub may_take : (first left start now : Option (List ℕ)) (importing : Importing) (room more : ℕ) → IsUnderway first left start now importing room → more ≤ room → MayTake importing more
may_take first left start now importing room more on fits =
    let within = on.within in
    record { bytes = on.taken; words = on.words; had = on.had; within = omega arith }

pub may_take_all : (first left start now : Option (List ℕ)) (importing : Importing) (room more : ℕ) (held : List ℕ) → IsUnderway first left start now importing room → held ≡ [] → more ≤ room
    → MayTakeAll now held importing more
may_take_all first left start now importing room more held on none fits =
    let within = on.within in
    record {
      may = record { bytes = on.taken; words = on.words; had = on.had; within = omega arith };
      start = start;
      way = put_gathered start now held on.words none on.appended;
    }
