-- What `verify` answers, by how its list and its words were read.
use Rattle.std.proofs.Common.{◌≡◌, ◌∙◌, ◌<◌, ◌≤◌, ◌++◌, arith, codes, inl, inr, length, refl, subst, sym, ℕ, List, [], Option, Some, None, Ok}
use Rattle.std.specs.Io.KnownBytes.{Appends}
use Rattle.cc_base.specs.Streams.{Puts, Rose}
use Rattle.cc_base.specs.declared.streams.Put.TheVariants as put
use Rattle.words_reading.proofs.TakenLemmas.{frames_count}
use Rattle.cc_verifier.specs.Verifiers.{verified_frames}
use Rattle.cdp_packets.specs.Packets.{Frame}
use Rattle.command_base.specs.Ends.{IsSteady, ends}
use Rattle.command_base.specs.declared.status.Status.{Status}
use Rattle.command_base.specs.declared.status.Status.TheVariants as status
use Rattle.cue_list_commands.specs.Accepted.{IsGoodList, IsRefusedList}
use Rattle.cc_base.specs.declared.refusal.Refusal.{Refusal}
use Rattle.cc_verifier.specs.Findings.{AreClean}
use Rattle.command_base.proofs.RealisedLemmas.{IsPlain, of_told}
use Rattle.command_base.specs.Realises.{RealisesAlone, RealisesBeside}
use Rattle.words_reading.proofs.WordsLemmas.{frames_stay, halted_so, limit_so, never_memory, read_beside, read_on, refused_so, whole_end}
use Rattle.cue_list_commands.specs.Reads.{ReadsList}
use Rattle.cue_types.specs.Listing.{Listing}
use Rattle.command_base.specs.SideEnds.{side_ends}
use Rattle.words_reading.specs.CaptionChannel.{caption_channel}
use Rattle.words_files.specs.Offences.{FirstOffendingWord, IsFileUnder}
use Rattle.words_reading.proofs.KnownLemmas.{file_of, known_whole}
use Rattle.words_reading.proofs.UnderwayLemmas.{nothing_put}
use Rattle.words_reading.specs.Causes.{Cause, IsWholeFile, words_limit}
use Rattle.words_reading.specs.Reading.{Stops, StopsEarly}
use Rattle.words_reading.specs.Statuses.{stop_status}
use Rattle.words_reading.specs.declared.judge.Stop.{Stop}
use Rattle.words_reading.specs.declared.judge.Stop.TheVariants as stop
use Rattle.verify_commands.specs.VerifyVerdict.{FindsFirst, FindsNothing, VerifyEnd, VerifyHalts, VerifyVerdict, VerifyWords}
use Rattle.verify_commands.specs.Verifying.{HasJudgedSo, found_status}
use Rattle.verify_commands.specs.declared.verifying.Found.{Found}
use Rattle.verify_commands.specs.declared.verifying.Verifying.{Verifying}

-- what a reading that puts nowhere said of its bytes holds where a run put nothing
put_nothing : (Says : List ℕ → List ℕ → Type 0) (Why : Cause) (first after written : Option (List ℕ)) (reads then writes : ℕ)
    → ((bytes text : List ℕ) → Says bytes text → text ≡ []) → Stops Says Why put.Done (ends first reads None 0) (ends after then None 0)
    → Stops Says Why put.Done (ends first reads written writes) (ends after then written writes)
put_nothing Says Why first after written reads then writes none stops = record {
  judged = stops.judged;
  unjudged = stops.unjudged;
  text = stops.text;
  taken = stops.taken;
  within = stops.within;
  says = stops.says;
  cause = stops.cause;
  output = subst (Appends written written) (sym (none stops.judged stops.text stops.says)) (nothing_put written);
}

nothing_of : (list : Listing) (bytes text : List ℕ) → FindsNothing list bytes text → text ≡ []
nothing_of list bytes text says = says.text_is

stays : (list : Listing) (judged more text : List ℕ) (refusal : Refusal) → FirstOffendingWord caption_channel judged refusal → FindsNothing list judged text
    → FindsNothing list (judged ++ more) text
stays list = frames_stay (λ frames. []) (AreClean list)

abbrev Finds : Listing → Found → List ℕ → List ℕ → Type 0
Finds list found = FindsFirst list found.finding

is_plain : (found : Found) → IsPlain (found_status found)
is_plain found = tt

-- the words stopped the run
words_stopped : (first after written : Option (List ℕ)) (reads then writes : ℕ) (list : Listing) (why : Stop Found)
    → StopsEarly (FindsNothing list) (Finds list) (ends first reads None 0) (ends after then None 0) why
    → RealisesAlone (VerifyWords list) (ends first reads written writes) (ends after then written writes) (stop_status found_status why)
words_stopped first after written reads then writes list stop.ReadFault (rose, same, stops) =
    inr (
      refl,
      rose,
      refl,
      of_told _ first (λ input known.
          let read = read_on (FindsNothing list) (VerifyEnd list) (VerifyHalts list) (stays list) (ends first reads written writes) (ends after then written writes) input known
          (put_nothing _ _ first after written reads then writes (nothing_of list) stops) in
          record { read = read.read; rest = read.rest; text = read.text; spelled = read.spelled; taken = read.taken; says = read.says; output = read.output }),
    )
words_stopped first after written reads then writes list stop.WriteFault (same, rose, stops) = absurd (omega (arith, rose))
words_stopped first after written reads then writes list stop.Limit (still, stops) = (
  record { aside = refl; reads = still.reads; writes = refl },
  of_told _ first (λ input known.
      let puts = put_nothing _ _ first after written reads then writes (nothing_of list) stops in (
        puts.text,
        limit_so (FindsNothing list) (VerifyEnd list) (VerifyHalts list) (stays list) (ends first reads written writes) (ends after then written writes) input known puts,
        puts.output,
      )),
)
words_stopped first after written reads then writes list (stop.Refused refusal) (still, stops) = (
  record { aside = refl; reads = still.reads; writes = refl },
  of_told _ first (λ input known.
      let puts = put_nothing _ _ first after written reads then writes (nothing_of list) stops in (
        puts.text,
        refused_so (FindsNothing list) (VerifyEnd list) (VerifyHalts list) (stays list) (ends first reads written writes) (ends after then written writes) input refusal known puts,
        puts.output,
      )),
)
words_stopped first after written reads then writes list (stop.Own found) (still, stops) = (
  record { aside = refl; reads = still.reads; writes = refl },
  of_told _ first (λ input known.
      let puts = put_nothing _ _ first after written reads then writes (λ bytes text halts. halts.text_is) stops in (
        puts.text,
        halted_so (FindsNothing list) (VerifyEnd list) (VerifyHalts list) (stays list) (Finds list) found_status (λ found bytes text halts. halts)
            (ends first reads written writes) (ends after then written writes) input found known puts,
        puts.output,
      )),
)

pub stopped_answer : (left later first after written : Option (List ℕ)) (before now reads then writes : ℕ) (list : Listing) (why : Stop Found) (answer : Status)
    → ReadsList left later before now (Ok list) → StopsEarly (FindsNothing list) (Finds list) (ends first reads None 0) (ends after then None 0) why
    → answer ≡ stop_status found_status why
    → RealisesBeside IsGoodList VerifyVerdict (side_ends left before) (side_ends later now) (ends first reads written writes) (ends after then written writes) answer
stopped_answer left later first after written before now reads then writes list why answer read stops is =
    read_beside IsGoodList IsRefusedList VerifyWords list (side_ends left before) (side_ends later now) (ends first reads written writes) (ends after then written writes) answer read
    (subst (RealisesAlone (VerifyWords list) (ends first reads written writes) (ends after then written writes)) (sym is)
    (words_stopped first after written reads then writes list why stops))
    (λ memory. absurd (never_memory found_status is_plain why (sym is ∙ memory)))

-- the words were read to their end, and a verifier counts their frames
abbrev HasEnded : Listing → Verifying → Option (List ℕ) → Option (List ℕ) → ℕ → ℕ → Type 0
HasEnded list verifying first after reads then =
    IsSteady (ends first reads None 0) (ends after then None 0)
    × Stops (λ bytes text. HasJudgedSo list bytes text verifying) (IsWholeFile first) put.Done (ends first reads None 0) (ends after then None 0)

-- the frames of the whole input, this many
whole_of : (list : Listing) (verifying : Verifying) (first after : Option (List ℕ)) (reads then count : ℕ) → (ended : HasEnded list verifying first after reads then)
    → count ≡ verified_frames verifying.verifier
    → (frames : List Frame) × IsFileUnder caption_channel frames ended.1.judged × AreClean list frames × (count ≡ length frames)
whole_of list verifying first after reads then count (steady, stops) is =
    let says = stops.says.says in (
      says.frames,
      file_of says.frames stops.judged says.frames_are stops.cause.1,
      says.fit,
      is ∙ frames_count says.frames stops.judged verifying.verifier.receiver stops.says.judged.verified.received says.frames_are,
    )

-- so ends the whole input
at_end : (list : Listing) (verifying : Verifying) (first after : Option (List ℕ)) (reads then : ℕ) (answer : Status) (text input : List ℕ)
    → (ended : HasEnded list verifying first after reads then) → first ≡ Some input → VerifyEnd list answer ended.1.judged text
    → (length input ≤ words_limit) × VerifyEnd list answer input text
at_end list verifying first after reads then answer text input (steady, stops) known ends =
    let same = known_whole first input stops.judged known stops.cause.0.0 in
    (subst (λ l. length l ≤ words_limit) (sym same) stops.within, subst (λ l. VerifyEnd list answer l text) (sym same) ends)

-- there are frames enough
enough_of : (list : Listing) (verifying : Verifying) (first after : Option (List ℕ)) (reads then count : ℕ) → (ended : HasEnded list verifying first after reads then)
    → count ≡ verified_frames verifying.verifier → list.frames ≤ count → VerifyEnd list status.Ok ended.1.judged (codes "ok\n")
enough_of list verifying first after reads then count ended is enough =
    let (frames, file, clean, number) = whole_of list verifying first after reads then count ended is in (frames, file, (clean, omega (arith, number, enough), refl))

-- and the line is put, or a front of it
pub verified_put : (left later first after written now_written : Option (List ℕ)) (before now reads then writes still count : ℕ) (list : Listing) (verifying : Verifying)
    → ReadsList left later before now (Ok list) → HasEnded list verifying first after reads then
    → count ≡ verified_frames verifying.verifier → list.frames ≤ count → Appends written now_written (codes "ok\n") → still ≡ writes
    → RealisesBeside IsGoodList VerifyVerdict (side_ends left before) (side_ends later now) (ends first reads written writes) (ends after then now_written still) status.Ok
verified_put left later first after written now_written before now reads then writes still count list verifying read ended is enough puts kept =
    read_beside IsGoodList IsRefusedList VerifyWords list (side_ends left before) (side_ends later now) (ends first reads written writes) (ends after then now_written still) status.Ok
    read (
      refl,
      record { aside = refl; reads = ended.0.reads; writes = kept },
      of_told _ first (λ input known. (
        whole_end first after input ended.1.judged ended.1.unjudged known ended.1.taken ended.1.cause.0,
        (
          codes "ok\n",
          inl (at_end list verifying first after reads then status.Ok (codes "ok\n") input ended known (enough_of list verifying first after reads then count ended is enough)),
          puts,
        ),
      )),
    ) (λ memory. cc)

pub verified_failed : (left later first after written now_written : Option (List ℕ)) (before now reads then writes still count : ℕ) (list : Listing) (verifying : Verifying)
    → ReadsList left later before now (Ok list) → HasEnded list verifying first after reads then → count ≡ verified_frames verifying.verifier
    → list.frames ≤ count → Puts written now_written put.Failed (codes "ok\n") → Rose writes still
    → RealisesBeside IsGoodList VerifyVerdict (side_ends left before) (side_ends later now) (ends first reads written writes) (ends after then now_written still) status.WriteFault
verified_failed left later first after written now_written before now reads then writes still count list verifying read ended is enough puts rose =
    read_beside IsGoodList IsRefusedList VerifyWords list (side_ends left before) (side_ends later now) (ends first reads written writes) (ends after then now_written still)
    status.WriteFault read (
      refl,
      ended.0.reads,
      rose,
      of_told _ first (λ input known. (
        codes "ok\n",
        at_end list verifying first after reads then status.Ok (codes "ok\n") input ended known (enough_of list verifying first after reads then count ended is enough),
        puts,
      )),
    ) (λ memory. cc)

-- or there are too few
pub short_answer : (left later first after written : Option (List ℕ)) (before now reads then writes count : ℕ) (list : Listing) (verifying : Verifying)
    → ReadsList left later before now (Ok list) → HasEnded list verifying first after reads then → count ≡ verified_frames verifying.verifier
    → count < list.frames
    → RealisesBeside IsGoodList VerifyVerdict (side_ends left before) (side_ends later now) (ends first reads written writes) (ends after then written writes) (status.Short count)
short_answer left later first after written before now reads then writes count list verifying read ended is few =
    let (frames, file, clean, number) = whole_of list verifying first after reads then count ended is in
    read_beside IsGoodList IsRefusedList VerifyWords list (side_ends left before) (side_ends later now) (ends first reads written writes) (ends after then written writes)
    (status.Short count) read (
      record { aside = refl; reads = ended.0.reads; writes = refl },
      of_told _ first (λ input known. (
        [],
        inl (at_end list verifying first after reads then (status.Short count) [] input ended known (frames, file, (clean, number, few, refl))),
        nothing_put written,
      )),
    ) (λ memory. cc)
