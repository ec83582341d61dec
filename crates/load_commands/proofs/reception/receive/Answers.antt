use Rattle.std.proofs.Common.{◌≡◌, ◌+◌, subst, arith}
use Rattle.cue_list_commands.specs.Frames.{frames_left}
use Rattle.load_commands.specs.Receiving.{HasReceivedColumns}
use Rattle.load_commands.proofs.reception.receive.Goals as goal

pub loop-frame-init : goal.loop-frame-init
loop-frame-init c columns gives whole = (0, omega arith, gives, c.in_ok-reception.ensures columns)

pub take-requires : goal.take-requires
take-requires c =
    let so_far = c.loop-frame.invariant c.requires.columns c.requires.gives c.requires.whole in
    let left = c.in-Some.ensures.left in
    let given = c.in-Some.ensures.gives c.requires.columns so_far.0 so_far.2 in
    let within = c.requires.within in
    let total = so_far.1 in
    record {
      rate = c.args.programme.rate;
      columns = c.requires.columns;
      count = so_far.0;
      taken = so_far.3;
      next = given.0;
      whole = c.requires.whole (so_far.0 + 1) (omega (arith, left, total));
      within = omega (arith, left, total, within);
    }

pub loop-frame-preserved : goal.loop-frame-preserved
loop-frame-preserved c columns gives whole =
    let so_far = c.loop-frame.invariant columns gives whole in
    let left = c.in-Some.ensures.left in
    let total = so_far.1 in
    let given = c.in-Some.ensures.gives columns so_far.0 so_far.2 in
    (so_far.0 + 1, omega (arith, left, total), given.1, c.take.ensures c.args.programme.rate columns so_far.0 so_far.3 given.0 (whole (so_far.0 + 1) (omega (arith, left, total))))

pub returns : goal.returns
returns c columns gives whole =
    let so_far = c.loop-frame.invariant columns gives whole in
    let none = c.in_default.ensures.left in
    let total = so_far.1 in
    let all : so_far.0 ≡ frames_left c.args.programme.frames = omega (arith, none, total) in
    subst (λ count. HasReceivedColumns c.args.programme.rate columns count c.loop-frame.reception) all so_far.3
