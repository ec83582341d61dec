use Rattle.std.proofs.Common.{◌≡◌, ◌+◌, ◌<◌, ◌≤◌, sym, ◌∙◌, subst, arith, ⊎_elim}
use Rattle.std.proofs.lemmas.Bool.{cases_lt}
use Rattle.dual_fields.specs.ResumedLane.{IsAllowedBeside, ResumesAt}
use Rattle.dual_fields.specs.Slots.{slots_in}
use Rattle.dual_fields.specs.Waiting.{Describes}
use Rattle.dual_fields.proofs.WaitingLemmas.{begins_allowed, described_next, placed_resumes, refused, some_slot}
use Rattle.dual_fields.proofs.place.first_from.Goals as goal

pub returns-then-may_begin-clause-first : goal.returns-then-may_begin-clause-first
returns-then-may_begin-clause-first c =
    let inv = c.loop-slot.invariant in
    record {
      holds = begins_allowed (slots_in c.args.uses.now) c.args.end c.loop-slot.slot inv.from c.loop-slot.resume c.args.part inv.describes (sym c.may_begin.ensures ∙ c.if-may_begin.true);
      first = λ other a.
          ⊎_elim
          (λ (low : other < c.loop-slot.slot). absurd (inv.none other a.behind low a))
          (λ (high : c.loop-slot.slot ≤ other). high)
          (cases_lt other c.loop-slot.slot);
    }

pub returns-then-may_begin-clause-resumes : goal.returns-then-may_begin-clause-resumes
returns-then-may_begin-clause-resumes c =
    let inv = c.loop-slot.invariant in
    subst (ResumesAt (slots_in c.args.uses.now) c.args.end c.args.part c.loop-slot.slot) (sym c.resume_of.ensures)
    (placed_resumes (slots_in c.args.uses.now) c.args.end c.loop-slot.slot inv.from c.loop-slot.resume c.args.part inv.describes (sym c.may_begin.ensures ∙ c.if-may_begin.true))

pub loop-slot-preserved : goal.loop-slot-preserved
loop-slot-preserved c =
    let inv = c.loop-slot.invariant in
    let slots = slots_in c.args.uses.now in
    record {
      from = omega (arith, inv.from);
      none = λ n high low a.
          ⊎_elim
          (λ (below : n < c.loop-slot.slot). inv.none n high below a)
          (λ (above : c.loop-slot.slot ≤ n).
          let here : n ≡ c.loop-slot.slot = omega arith in
          refused (slots_in c.args.uses.now) c.args.end c.loop-slot.slot inv.from c.loop-slot.resume c.args.part inv.describes
          (sym c.may_begin.ensures ∙ c.if-may_begin.false) (subst (IsAllowedBeside (slots_in c.args.uses.now) c.args.end c.args.part) here a))
          (cases_lt n c.loop-slot.slot);
      describes = subst (Describes (slots_in c.args.uses.now) c.args.end (c.loop-slot.slot + 1)) (sym c.next_resume-resume.ensures)
          (described_next (slots_in c.args.uses.now) c.args.end c.loop-slot.slot inv.from c.loop-slot.resume c.is_foreign.result c.are_free.result
          (sym c.is_foreign.ensures) (sym c.are_free.ensures) inv.describes);
    }

pub returns-clause-none : goal.returns-clause-none
returns-clause-none c slot a =
    let inv = c.loop-slot.invariant in
    ⊎_elim
    (λ (below : slot < c.loop-slot.slot). inv.none slot a.behind below a)
    (λ (above : c.loop-slot.slot ≤ slot). absurd (omega (arith, a.ended, some_slot c.args.part)))
    (cases_lt slot c.loop-slot.slot)
