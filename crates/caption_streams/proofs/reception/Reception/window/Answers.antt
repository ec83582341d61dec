use Rattle.std.proofs.Common.{◌≡◌, subst, sym}
use Rattle.std.specs.Prelude.{None, MatchOption}
use Rattle.dtvcc_windows.specs.Objects.{window_of}
use Rattle.caption_streams.specs.Receptions.{StandsBehind, service_behind}
use Rattle.caption_streams.specs.declared.reception.Reception.{Reception}
use Rattle.caption_streams.proofs.reception.Reception.window.Goals as goal

pub returns-in-Plain-clause-window : goal.returns-in-Plain-clause-window
returns-in-Plain-clause-window c = λ frames stands.
    let behind = subst (λ (r : Reception). StandsBehind frames r) c.in-Plain.is stands in
    subst (λ (r : Reception). let windows = (service_behind r frames c.args.service).screen.windows in
    MatchOption c.window.result (windows c.args.id ≡ None) (λ window. window_of window.now ≡ windows c.args.id)) (sym c.in-Plain.is)
    (c.window.ensures.received behind.bytes frames behind.received behind.frames_are)
