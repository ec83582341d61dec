use Rattle.std.proofs.Common.{◌∙◌, ◌-◌, ap, subst, sym, ℕ}
use Rattle.caption_streams.specs.Receptions.{StandsBehind, number_behind}
use Rattle.caption_streams.specs.declared.reception.Reception.{Reception}
use Rattle.caption_streams.proofs.reception.Reception.number.Goals as goal

pub returns-in-Plain : goal.returns-in-Plain
returns-in-Plain c = λ frames stands.
    let behind = subst (λ (r : Reception). StandsBehind frames r) c.in-Plain.is stands in
    c.from.ensures ∙ ap (λ (n : ℕ). n - 1) (c.frames.ensures.frames behind.bytes frames behind.received behind.frames_are)
    ∙ ap (λ (r : Reception). number_behind r frames) (sym c.in-Plain.is)
