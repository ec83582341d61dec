use Rattle.std.proofs.Common.{◌∙◌, arith, below_more, sym}
use Rattle.cc_receiver.specs.ReceivedServices.{received_service}
use Rattle.cc_verifier.proofs.ServiceLemmas.{none_past_six, window_seen}
use Rattle.cc_verifier.proofs.service_checks.has_other_window.Goals as goal

pub returns-then-not-is_used-clause-same : goal.returns-then-not-is_used-clause-same
returns-then-not-is_used-clause-same c bytes frames had are told id within =
    c.is_used.ensures bytes frames had are c.if-not-is_used.true id
    ∙ sym (none_past_six c.args.service id c.args.frame c.args.cues.now c.if-service-gt-LAST_SERVICE.true c.requires.formed)

pub returns-then-window_differs-clause-other : goal.returns-then-window_differs-clause-other
returns-then-window_differs-clause-other c bytes frames had are told = record {
  id = c.loop-id.id;
  id_to = c.loop-id-test.true;
  other = λ same.
      c.window_differs.ensures.other c.if-window_differs.true
      (window_seen c.window.result ((received_service frames c.args.service).screen.windows c.loop-id.id) (c.window.ensures.received bytes frames had are)
      ∙ same ∙ c.cue_of-cue.ensures.authored);
}

pub loop-id-preserved : goal.loop-id-preserved
loop-id-preserved c bytes frames had are =
    below_more _ _ (c.loop-id.invariant bytes frames had are)
    (sym (window_seen c.window.result ((received_service frames c.args.service).screen.windows c.loop-id.id) (c.window.ensures.received bytes frames had are))
    ∙ c.window_differs.ensures.same c.if-window_differs.false ∙ sym c.cue_of-cue.ensures.authored)

pub returns-clause-same : goal.returns-clause-same
returns-clause-same c bytes frames had are told id within = c.loop-id.invariant bytes frames had are id (omega arith)
