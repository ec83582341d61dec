use Rattle.std.proofs.Common.{◌∙◌, ap, arith, below_more, refl, sym}
use Rattle.cc_receiver.specs.ReceivedServices.{received_windows}
use Rattle.cc_receiver.proofs.GridLemmas.{seen_of_window}
use Rattle.dtvcc_screen.specs.Screens.{ScreenState}
use Rattle.dtvcc_screen.specs.Shown.{grids}
use Rattle.dtvcc_windows.specs.Objects.{window_of}
use Rattle.services_files.specs.CarriedChannel.{file_triplets}
use Rattle.rate_convert.proofs.ServedLemmas.{screen_is, seen_window}
use Rattle.rate_convert.proofs.differing.service_differs.Goals as goal

pub returns-then-not-is_used-2-clause-same : goal.returns-then-not-is_used-2-clause-same
returns-then-not-is_used-2-clause-same c = λ bytes frames others had are served told id below.
    ap (λ (s : ScreenState). grids s id)
    (sym (screen_is others served.earlier served.last c.args.service (served.leads c.args.service))
    ∙ c.is_used-then-not-is_used.ensures (file_triplets others) served.earlier served.last served.has c.if-not-is_used-2.true)
    ∙ sym (c.is_used.ensures bytes frames had are c.if-not-is_used.true id)

pub returns-then-window_differs-clause-different : goal.returns-then-window_differs-clause-different
returns-then-window_differs-clause-different c = λ bytes frames others had are served told. (
  c.loop-id.id,
  c.loop-id-test.true,
  c.window_differs.ensures.different (received_windows frames c.args.service c.loop-id.id) (received_windows others c.args.service c.loop-id.id)
      (seen_of_window _ (λ window. window_of window.now) c.window.result _ (received_windows frames c.args.service c.loop-id.id) refl (c.window.ensures.received bytes frames had are))
      (seen_of_window _ (λ window. window_of window.now) c.window-in-loop-id.result _ (received_windows others c.args.service c.loop-id.id)
      (seen_window others served.earlier served.last c.args.service c.loop-id.id (served.leads c.args.service))
      (c.window-in-loop-id.ensures.window (file_triplets others) served.earlier served.last served.has))
      c.if-window_differs.true,
)

pub loop-id-preserved : goal.loop-id-preserved
loop-id-preserved c = λ bytes frames others had are served.
    below_more _ _ (c.loop-id.invariant bytes frames others had are served)
    (c.window_differs.ensures.same (received_windows frames c.args.service c.loop-id.id) (received_windows others c.args.service c.loop-id.id)
    (seen_of_window _ (λ window. window_of window.now) c.window.result _ (received_windows frames c.args.service c.loop-id.id) refl (c.window.ensures.received bytes frames had are))
    (seen_of_window _ (λ window. window_of window.now) c.window-in-loop-id.result _ (received_windows others c.args.service c.loop-id.id)
    (seen_window others served.earlier served.last c.args.service c.loop-id.id (served.leads c.args.service))
    (c.window-in-loop-id.ensures.window (file_triplets others) served.earlier served.last served.has))
    c.if-window_differs.false)

pub returns-clause-same : goal.returns-clause-same
returns-clause-same c = λ bytes frames others had are served told id below. c.loop-id.invariant bytes frames others had are served id (omega arith)
