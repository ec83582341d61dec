use Rattle.std.proofs.Common.{◌∙◌, arith, refl, sym}
use Rattle.std.proofs.lemmas.Option.{slice_get_read}
use Rattle.cc_verifier.proofs.WindowPlaceLemmas.{passed_more, stands_behind, stands_there}
use Rattle.cc_verifier.proofs.window_cursors.pass_over.Goals as goal

pub returns-then-is_to_hide : goal.returns-then-is_to_hide
returns-then-is_to_hide c =
    stands_there c.args.service c.args.id c.args.cues.now c.args.frame c.loop-next.next c.index-cues-next.result c.loop-next.invariant
    (slice_get_read c.args.cues.now _ c.loop-next.next c.index-cues-next.result refl c.loop-next-test.true c.index-cues-next.is)
    (sym c.is_to_hide.ensures ∙ c.if-is_to_hide.true)

pub loop-next-preserved : goal.loop-next-preserved
loop-next-preserved c =
    passed_more c.args.service c.args.id c.args.cues.now c.args.frame c.loop-next.next c.index-cues-next.result c.loop-next.invariant
    (slice_get_read c.args.cues.now _ c.loop-next.next c.index-cues-next.result refl c.loop-next-test.true c.index-cues-next.is)
    (sym c.is_to_hide.ensures ∙ c.if-is_to_hide.false)

pub returns : goal.returns
returns c = stands_behind c.args.service c.args.id c.args.cues.now c.args.frame c.loop-next.next c.loop-next.invariant (omega arith)
