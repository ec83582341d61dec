use Rattle.std.proofs.Common.{◌≤◌, length, rules, arith}
use Rattle.dtvcc_author.proofs.LatestLemmas.{kept_at, passed_all, passed_up_to, passing_next, passing_start}
use Rattle.dtvcc_author.proofs.latest.Latest.load.Goals as goal

pub bounds-self-from : goal.bounds-self-from
bounds-self-from c =
    let found = c.in-Some.ensures.lookup in
    let sound = kept_at c.requires.0 c.requires.1.0 c.args.captions.now c.loop-caption.self.next c.in-Some.caption.now c.requires.1.1 found.3.0 found.1 in
    omega (arith, sound.window, c.from.ensures)

pub loop-caption-init : goal.loop-caption-init
loop-caption-init c from low at = passing_start c.args.captions.now from c.args.frame c.args.self.now low at

pub loop-caption-preserved : goal.loop-caption-preserved
loop-caption-preserved c from low at =
    let found = c.in-Some.ensures.lookup in
    let sound = kept_at c.requires.0 c.requires.1.0 c.args.captions.now c.loop-caption.self.next c.in-Some.caption.now c.requires.1.1 found.3.0 found.1 in
    let next = passing_next c.args.captions.now c.args.frame c.loop-caption.self c.in-Some.caption.now (search rules)
    (c.loop-caption.invariant from low at) found.3.0 found.1 c.if-caption-frame.true sound.window (omega (arith, sound.after, sound.hidden)) in
    rw (c.from.ensures, c.min-self.ensures) next

pub returns-in-loop-caption : goal.returns-in-loop-caption
returns-in-loop-caption c from low at =
    let past : length c.args.captions.now ≤ c.loop-caption.self.next = search rules in
    passed_all c.args.captions.now c.args.frame c.loop-caption.self (c.loop-caption.invariant from low at) past

pub returns-else-caption-frame : goal.returns-else-caption-frame
returns-else-caption-frame c from low at =
    let found = c.in-Some.ensures.lookup in
    passed_up_to c.requires.0 c.requires.1.0 c.args.captions.now c.args.frame c.loop-caption.self c.in-Some.caption.now c.requires.1.1
    (c.loop-caption.invariant from low at) found.3.0 found.1 (omega arith)
