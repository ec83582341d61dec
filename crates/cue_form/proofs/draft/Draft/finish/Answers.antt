use Rattle.std.proofs.Common.{◌≡◌, false, sym}
use Rattle.cue_form.specs.Begun.{awaits_run}
use Rattle.cue_form.proofs.Steps.{IsFormed-list_ended}
use Rattle.cue_form.proofs.draft.Draft.finish.Goals as goal

pub new-requires : goal.new-requires
new-requires c =
    let full : awaits_run c.args.self.last ≡ false = sym (c.if-awaits_run.ensures {u = tt}) in
    rw (c.in-Ok.ensures {u = tt}) (
    IsFormed-list_ended (record { head = c.self.inside.head; shares = c.self.inside.shares.items; earlier = c.self.inside.earlier.items; last = c.self.inside.last })
    c.in-Some.head (rw (← c.self.view_is) at c.requires) c.in-Some.is (rw (← c.self.view_is) at full)
    )
