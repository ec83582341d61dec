-- The front of a line that a sink with little room keeps.
use Rattle.std.proofs.Common.{◌≡◌, ◌≤◌, ◌<◌, ◌∙◌, ap, arith, length, refl, subst, sym, take, ℕ, List, []}
use Rattle.std.proofs.lemmas.List.{length-take-le, take_all}
use Rattle.std.specs.Prelude.{Some}
use Rattle.cc_base.specs.Streams.{PutCause, Puts}
use Rattle.cc_base.specs.declared.streams.Put.{Put}
use Rattle.cc_base.specs.declared.streams.Put.TheVariants as put
use Rattle.ccsuite_cli.specs.StatusLine.{status_line}
use Rattle.command_base.specs.declared.status.Status.{Status}
use Rattle.command_base.specs.declared.status.Status.TheVariants as status
use Rattle.reported_runs.specs.Reports.{line_of}

pub front : (line kept : List ℕ) (faults : ℕ) (answer : Put) → Puts (Some []) (Some kept) answer line → PutCause 0 faults answer
    → (0 < faults → length kept ≡ 159) → length kept ≤ 159 → take 159 line ≡ kept
front line kept faults put.Done puts cause full few = take_all 159 line (subst (λ (l : List ℕ). length l ≤ 159) puts few) ∙ sym puts
front line kept faults put.Failed (n, within, puts) (rises, rose) full few =
    let some : 0 < faults = omega (arith, rose) in
    let long : n ≡ 159 = sym (length-take-le n line within) ∙ ap length (sym puts) ∙ full some in
    ap (λ (m : ℕ). take m line) (sym long) ∙ sym puts

-- but for an argument out of range, and for too little room, the line is the program's
pub other_line : (answer : Status) → (answer ≡ status.Usage → ⊥) → (answer ≡ status.WriteFault → ⊥) → line_of answer ≡ status_line answer
other_line status.Usage not_usage not_room = absurd (not_usage refl)
other_line status.WriteFault not_usage not_room = absurd (not_room refl)
other_line status.Ok not_usage not_room = refl
other_line status.ReadFault not_usage not_room = refl
other_line status.Memory not_usage not_room = refl
other_line (status.Limit it) not_usage not_room = refl
other_line (status.Malformed it why) not_usage not_room = refl
other_line (status.Rule it) not_usage not_room = refl
other_line (status.NoRoom it) not_usage not_room = refl
other_line (status.Differs it) not_usage not_room = refl
other_line (status.Short it) not_usage not_room = refl
other_line (status.NoRoomBeside it) not_usage not_room = refl
other_line (status.NoXdsRoom it) not_usage not_room = refl
other_line (status.Misfit it) not_usage not_room = refl
