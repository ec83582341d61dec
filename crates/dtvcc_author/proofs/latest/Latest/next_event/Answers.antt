use Rattle.std.proofs.Common.{◌≡◌, ◌∙◌, ap, arith, length, rules, sym}
use Rattle.std.specs.List.{list_any}
use Rattle.std.proofs.lemmas.List.{take_all}
use Rattle.dtvcc_author.specs.FrameEvents.{has_event_at}
use Rattle.cc_base.specs.Options.{passes}
use Rattle.dtvcc_author.proofs.LatestLemmas.{quiet_more}
use Rattle.dtvcc_author.proofs.latest.Latest.next_event.Goals as goal

pub loop-caption-preserved : goal.loop-caption-preserved
loop-caption-preserved c other from to =
    quiet_more other c.loop-caption.caption-index c.args.self.now.windows (search rules)
    (c.loop-caption.invariant other from (omega (arith, c.min-next.ensures, to)))
    (search (rules, c.next_event.ensures other from (omega (arith, c.min-next.ensures, to))))

pub returns : goal.returns
returns c other from to =
    let eight : length c.args.self.now.windows ≡ 8 = search rules in
    ap (list_any (passes (has_event_at other))) (sym (take_all c.loop-caption.caption-index c.args.self.now.windows (omega (arith, eight))))
    ∙ c.loop-caption.invariant other from to
