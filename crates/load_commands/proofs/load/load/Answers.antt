use Rattle.std.proofs.Common.{◌∙◌, List, Some, Err, ap, subst, ℕ}
use Rattle.cc_base.specs.MemorySource.{steady_left}
use Rattle.command_base.specs.WholeInput.{ReadsInput}
use Rattle.cue_lists.specs.Listing.{Listing}
use Rattle.cue_lists.specs.Printing.{list_bytes}
use Rattle.cue_list_commands.specs.Accepted.{IsRefused}
use Rattle.cue_list_commands.specs.Reads.{IsProgrammeOf}
use Rattle.load_commands.proofs.AnswerLemmas.{not_refused, programme_sendable, summary_is}
use Rattle.load_commands.proofs.load.load.Goals as goal

pub receive-requires : goal.receive-requires
receive-requires c = programme_sendable _ c.in-Ok.programme c.in-Ok.ensures.2

pub returns-in-Ok : goal.returns-in-Ok
returns-in-Ok c =
    let text = c.new-text.ensures ∙ c.in_ok-print.ensures.bytes ∙ ap list_bytes c.in_ok-list.ensures in
    let is = subst (λ (bytes : List ℕ). IsProgrammeOf bytes c.in-Ok.programme) text c.in-Ok.ensures.2 in
    let frames = c.frames.ensures ∙ ap (λ (list : Listing). list.frames) c.in_ok-list.ensures in
    let bytes = c.bytes.ensures in
    let changes = c.changes.ensures in
    rw (frames, bytes, changes) (summary_is c.args.count c.requires.some c.requires.most c.in-Ok.programme _ is c.in_ok-reception-in-Ok.ensures)

pub unreachable-requires : goal.unreachable-requires
unreachable-requires c =
    let text = c.new-text.ensures ∙ c.in_ok-print.ensures.bytes ∙ ap list_bytes c.in_ok-list.ensures in
    let reads = subst (λ (bytes : List ℕ). ReadsInput IsProgrammeOf IsRefused (Some bytes) (Some (steady_left c.read_programme.new.input)) 0 0 (Err c.in-Err.status)) text
    c.in-Err.ensures in
    not_refused c.args.count c.requires.some c.requires.most (Some (steady_left c.read_programme.new.input)) c.in-Err.status reads c.in_default.not-Memory
