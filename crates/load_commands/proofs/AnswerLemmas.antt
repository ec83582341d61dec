-- The list of a load is accepted: it is read as a programme, or memory ran out, and what came of the programme is the summary.
use Rattle.std.proofs.Common.{◌≡◌, ◌≢◌, ◌∙◌, ap, ℕ, ◌≤◌, List, [], length, Option, Some, Err, refl, sym, subst, arith}
use Rattle.command_base.specs.WholeInput.{ReadsInput}
use Rattle.command_base.specs.declared.status.Status.{Status}
use Rattle.command_base.specs.declared.status.Status.TheVariants as status
use Rattle.cue_lists.specs.Printing.{list_bytes}
use Rattle.cue_list_commands.specs.Accepted.{IsAccepted, IsRefused}
use Rattle.cue_list_commands.specs.Output.{build_output, built_packets}
use Rattle.cue_list_commands.specs.Reads.{IsProgrammeOf}
use Rattle.cue_list_commands.specs.Plan.{Plan}
use Rattle.cue_list_commands.specs.Programme.{Programme}
use Rattle.cue_list_commands.proofs.ListVerdictLemmas.{accepted_not_refused, accepted_once}
use Rattle.cue_lists.specs.Listing.{Listing}
use Rattle.cue_list_commands.specs.Columns.{Columns}
use Rattle.cue_list_commands.specs.Frames.{GivesFrom, frames_left}
use Rattle.cue_list_commands.specs.Planned.{Placement, columns_of}
use Rattle.load_commands.specs.LoadList.{load_list, most_load}
use Rattle.load_commands.proofs.RuledLemmas.{list_ruled}
use Rattle.load_commands.proofs.WrittenLemmas.{list_written}
use Rattle.load_commands.proofs.LoadRoomLemmas.{list_placed}
use Rattle.load_commands.specs.LoadOutput.{AreLoadLines, change_count, summary_text}
use Rattle.load_commands.specs.Receiving.{AreAllWhole, AreWhole, HasReceivedColumns, IsSendable}
use Rattle.load_commands.specs.declared.reception.Reception.{Reception}
use Rattle.load_commands.proofs.WholeLemmas.{frames_whole}

-- a programme can be sent
pub programme_sendable : (bytes : List ℕ) (programme : Programme Plan) → IsProgrammeOf bytes programme → IsSendable programme
programme_sendable bytes programme is = record {
  columns = columns_of is.made.list is.made.placed;
  gives = is.framing.gives;
  whole = λ count within.
      subst (λ rate. AreWhole rate (columns_of is.made.list is.made.placed) count) (sym is.framing.rate_is)
      (frames_whole is.made.list is.made.placed is.accepted.good.spelled.formed is.accepted.good.ruled is.accepted.placement count);
  within = let frames = is.framing.count_is in let most = is.accepted.good.spelled.formed.frames in omega (arith, frames, most);
}

module _ (count : ℕ) (some : 1 ≤ count) (most : count ≤ most_load) where
  -- what is written of the list is accepted
  list_accepted : IsAccepted (list_bytes (load_list count)) (load_list count) (list_placed count some most).0
  list_accepted =
      let written = list_written count some most in
      record {
        good = record { within = written.within; spelled = written.spelled; ruled = list_ruled count };
        placement = (list_placed count some most).1;
      }

  -- so it isn't refused
  pub not_refused : (new : Option (List ℕ)) (answer : Status) → ReadsInput IsProgrammeOf IsRefused (Some (list_bytes (load_list count))) new 0 0 (Err answer)
      → answer ≢ status.Memory → ⊥
  not_refused new status.Ok reads other = reads
  not_refused new status.Usage reads other = reads
  not_refused new status.ReadFault reads other = let rose = reads.0 in omega (arith, rose)
  not_refused new status.WriteFault reads other = reads
  not_refused new status.Memory reads other = other refl
  not_refused new (status.Limit which) reads other = accepted_not_refused _ _ _ (status.Limit which) list_accepted reads.1
  not_refused new (status.Malformed place why) reads other = accepted_not_refused _ _ _ (status.Malformed place why) list_accepted reads.1
  not_refused new (status.Rule fault) reads other = accepted_not_refused _ _ _ (status.Rule fault) list_accepted reads.1
  not_refused new (status.NoRoom cue) reads other = accepted_not_refused _ _ _ (status.NoRoom cue) list_accepted reads.1
  not_refused new (status.NoRoomBeside cue) reads other = accepted_not_refused _ _ _ (status.NoRoomBeside cue) list_accepted reads.1
  not_refused new (status.NoXdsRoom packet) reads other = accepted_not_refused _ _ _ (status.NoXdsRoom packet) list_accepted reads.1
  not_refused new (status.Misfit misfit) reads other = accepted_not_refused _ _ _ (status.Misfit misfit) list_accepted reads.1
  not_refused new (status.Differs finding) reads other = accepted_not_refused _ _ _ (status.Differs finding) list_accepted reads.1
  not_refused new (status.Short frames) reads other = accepted_not_refused _ _ _ (status.Short frames) list_accepted reads.1

  -- what came of a placed list's frames
  abbrev IsDone : Listing → Placement → Reception → Type 0
  IsDone list placed reception =
      (reception.bytes ≡ length (build_output list placed)) × (reception.changes ≡ change_count [] (built_packets list placed))

  done : (programme : Programme Plan) (reception : Reception) (is : IsProgrammeOf (list_bytes (load_list count)) programme)
      → ((columns : Columns) → GivesFrom columns 0 programme.frames → AreAllWhole programme.rate columns (frames_left programme.frames)
      → HasReceivedColumns programme.rate columns (frames_left programme.frames) reception) → IsDone is.made.list is.made.placed reception
  done programme reception is takes =
      let columns = columns_of is.made.list is.made.placed in
      let whole = subst (λ rate. AreAllWhole rate columns (frames_left programme.frames)) (sym is.framing.rate_is)
      (λ first within. frames_whole is.made.list is.made.placed is.accepted.good.spelled.formed is.accepted.good.ruled is.accepted.placement first) in
      let taken = subst (λ n. HasReceivedColumns is.made.list.rate columns n reception) is.framing.count_is
      (subst (λ rate. HasReceivedColumns rate columns (frames_left programme.frames) reception) is.framing.rate_is (takes columns is.framing.gives whole)) in
      (taken.bytes, taken.changes)

  pub summary_is : (programme : Programme Plan) (reception : Reception) → IsProgrammeOf (list_bytes (load_list count)) programme
      → ((columns : Columns) → GivesFrom columns 0 programme.frames → AreAllWhole programme.rate columns (frames_left programme.frames)
      → HasReceivedColumns programme.rate columns (frames_left programme.frames) reception)
      → AreLoadLines count (summary_text (record { cues = count; frames = (load_list count).frames; bytes = reception.bytes; changes = reception.changes }))
  summary_is programme reception is takes =
      let placed = list_placed count some most in
      let once = accepted_once _ is.made.list (load_list count) is.made.placed placed.0 is.accepted list_accepted in
      let all : IsDone (load_list count) placed.0 reception =
      subst (λ p. IsDone (load_list count) p reception) once.1 (subst (λ l. IsDone l is.made.placed reception) once.0 (done programme reception is takes)) in
      record {
        placed = placed.0;
        placement = placed.1;
        text_is =
            ap (λ (bytes : ℕ). summary_text (record { cues = count; frames = (load_list count).frames; bytes = bytes; changes = reception.changes })) all.0
            ∙ ap (λ (changes : ℕ). summary_text (record { cues = count; frames = (load_list count).frames; bytes = length (build_output (load_list count) placed.0); changes = changes })) all.1;
      }
