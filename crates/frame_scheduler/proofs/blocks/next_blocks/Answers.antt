use Rattle.std.proofs.Common.{◌≡◌, ◌∙◌, ◌+◌, ◌≤◌, ◌<◌, ◌++◌, length, get_or, set, take, arith, sym, ap, subst}
use Rattle.frame_scheduler.specs.Blocks.{blocks_room, lane_block, moved_on, next_blocks}
use Rattle.frame_scheduler.proofs.BlockLemmas.{blocks_one, moved_one, next_of, partly, room_one, room_within}
use Rattle.frame_scheduler.proofs.blocks.next_blocks.Goals as goal

pub push_block-requires-clause-room : goal.push_block-requires-clause-room
push_block-requires-clause-room c =
    let xs = c.args.services.now in
    let k = c.loop-service.service-index in
    let d = c.service-item.result in
    let within : k < length xs = c.loop-service-test.true in
    let read : get_or c.loop-service.service-items k d ≡ get_or xs k d = ap (λ l. get_or l k d) c.loop-service.invariant.moved ∙ next_of xs k d within in
    let share : (get_or c.loop-service.service-items k d).share ≡ (get_or xs k d).share = ap (λ p. p.share) read in
    let one = room_one xs k d within in
    let whole = room_within xs (k + 1) in
    let so_far : length c.loop-service.blocks.items ≤ blocks_room (take k xs) = c.loop-service.invariant.room in
    let room : length c.loop-service.blocks.items + (get_or c.loop-service.service-items k d).share + 1 ≤ 35 = omega (arith, share, one, whole, so_far, c.requires.room) in
    room

pub loop-service-preserved : goal.loop-service-preserved
loop-service-preserved c =
    let xs = c.args.services.now in
    let k = c.loop-service.service-index in
    let d = c.service-item.result in
    let within : k < length xs = c.loop-service-test.true in
    let are : c.loop-service.service-items ≡ partly k xs = c.loop-service.invariant.moved in
    let read : get_or c.loop-service.service-items k d ≡ get_or xs k d = ap (λ l. get_or l k d) are ∙ next_of xs k d within in
    let new : c.push_block.new.service ≡ moved_on (get_or xs k d) = c.push_block.ensures.moved ∙ ap moved_on read in
    let so_far : c.loop-service.blocks.items ≡ next_blocks (take k xs) = c.loop-service.invariant.blocks in
    let block : c.push_block.new.blocks.items ≡ c.loop-service.blocks.items ++ lane_block (get_or xs k d).frame (get_or xs k d) =
    subst (λ p. c.push_block.new.blocks.items ≡ c.loop-service.blocks.items ++ lane_block p.frame p) read c.push_block.ensures.block in
    let low : length c.loop-service.blocks.items ≤ blocks_room (take k xs) = c.loop-service.invariant.room in
    let more : length c.push_block.new.blocks.items ≤ length c.loop-service.blocks.items + (get_or xs k d).share + 1 =
    subst (λ p. length c.push_block.new.blocks.items ≤ length c.loop-service.blocks.items + p.share + 1) read c.push_block.ensures.room in
    let one = room_one xs k d within in
    let moved : set c.loop-service.service-items k c.push_block.new.service ≡ partly (k + 1) xs =
    moved_one xs c.loop-service.service-items k d c.push_block.new.service within are new in
    let blocks : c.push_block.new.blocks.items ≡ next_blocks (take (k + 1) xs) =
    block ∙ ap (λ l. l ++ lane_block (get_or xs k d).frame (get_or xs k d)) so_far ∙ sym (blocks_one xs k d within) in
    let room : length c.push_block.new.blocks.items ≤ blocks_room (take (k + 1) xs) = omega (arith, low, more, one) in
    record { moved = moved; blocks = blocks; room = room }
