use Rattle.std.proofs.Common.{IfNone, IfSome, ℕ, subst}
use Rattle.lanes.specs.FirstFit.{IsFirst}
use Rattle.dual_fields.specs.ResumedLane.{IsAllowedBeside, ResumesAt}
use Rattle.dual_fields.specs.Slots.{slots_in}
use Rattle.dual_fields.proofs.StartLemmas.{first_start, none_start, resumed_start}
use Rattle.dual_fields.proofs.place.first_place.Goals as goal

pub returns-clause-first : goal.returns-clause-first
returns-clause-first c =
    first_start (slots_in c.args.uses.now) c.args.end c.args.part c.first_from.result
    (subst (λ n. IfSome c.first_from.result (λ place. IsFirst (IsAllowedBeside (slots_in c.args.uses.now) n c.args.part) place.slot)) c.start_of.ensures
    c.first_from.ensures.first)

pub returns-clause-resumes : goal.returns-clause-resumes
returns-clause-resumes c =
    resumed_start (slots_in c.args.uses.now) c.args.end c.args.part c.first_from.result
    (subst (λ n. IfSome c.first_from.result (λ place. ResumesAt (slots_in c.args.uses.now) n c.args.part place.slot place.resume)) c.start_of.ensures
    c.first_from.ensures.resumes)

pub returns-clause-none : goal.returns-clause-none
returns-clause-none c =
    none_start (slots_in c.args.uses.now) c.args.end c.args.part c.first_from.result
    (subst (λ n. IfNone c.first_from.result ((slot : ℕ) → IsAllowedBeside (slots_in c.args.uses.now) n c.args.part slot → ⊥)) c.start_of.ensures
    c.first_from.ensures.none)
