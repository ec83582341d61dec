-- A builder goes to its next frame.
use Rattle.std.proofs.Common.{◌≡◌, ◌∙◌, ◌+◌, ◌<◌, ap, sym, subst, refl, ℕ, add-one, arith}
use Rattle.std.specs.Prelude.{IfNone, IfSome, IsSome, MatchOption, None, Option, Some}
use Rattle.cc_base.specs.declared.rate.Rate.{Rate}
use Rattle.cue_lists.specs.Listing.{Listing}
use Rattle.cue_list_commands.specs.Carrying.{IsAt, packet_count, packets_before}
use Rattle.cue_list_commands.specs.Carrier.{Carrier}
use Rattle.cue_list_commands.specs.Columns.{Columns}
use Rattle.cue_list_commands.specs.Frames.{GivesFrom, frames_left}
use Rattle.cue_list_commands.specs.Planned.{Placement, columns_of}
use Rattle.cue_list_commands.specs.FrameBytes.{FrameBytes}
use Rattle.cue_list_commands.specs.Plan.{Plan}
use Rattle.caption_streams.specs.Builders.{IsAhead, IsBuilding, count_of}
use Rattle.caption_streams.specs.declared.building.Building.{Building}

-- a frame that is there counts
counted : (ahead : Option FrameBytes) → IsSome ahead → count_of ahead ≡ 1
counted (Some bytes) some = refl
counted None some = cc

-- the plan gives the frames after it
behind_it : (columns : Columns) (frame : ℕ) (plan : Plan) (ahead : Option FrameBytes) → IsSome ahead → IsAhead columns frame plan ahead → GivesFrom columns (frame + 1) plan
behind_it columns frame plan (Some bytes) some is = is.1
behind_it columns frame plan None some is = cc

-- where a frame is ahead, it is one of the list's
pub one_more : (list : Listing) (placed : Placement) (frame : ℕ) (b : Building) → IsBuilding list placed frame b → IsSome b.ahead → frame < list.frames
one_more list placed frame b is some =
    let left : frame + (count_of b.ahead + frames_left b.plan) ≡ list.frames = is.left in
    omega (arith, left, counted b.ahead some)

-- and what is made of it, by its number and the number of the channel packets before it, is what is made of its column
pub made_next : {A : Type 0} (make : Rate → ℕ → ℕ → FrameBytes → A) (list : Listing) (placed : Placement) (frame : ℕ) (b : Building) (bytes : FrameBytes) (made : A)
    → IsBuilding list placed frame b → b.ahead ≡ Some bytes
    → ((rate : Rate) (number count : ℕ) → IsAt rate number count b.carrier → made ≡ make rate number count bytes)
    → made ≡ make list.rate frame (packets_before (columns_of list placed) frame) (columns_of list placed frame)
made_next make list placed frame b bytes made is e makes =
    let columns = columns_of list placed in let before = packets_before columns frame in
    let ahead = subst (λ (o : Option FrameBytes). IsAhead columns frame b.plan o) e is.gives in
    makes list.rate frame before is.at ∙ ap (make list.rate frame before) ahead.0

-- the carrier is then at the frame after it
pub carried_next : (list : Listing) (placed : Placement) (frame : ℕ) (b : Building) (bytes : FrameBytes) (carrier : Carrier)
    → IsBuilding list placed frame b → b.ahead ≡ Some bytes
    → ((rate : Rate) (number count : ℕ) → IsAt rate number count b.carrier → IsAt rate (number + 1) (count + packet_count bytes.blocks.items) carrier)
    → IsAt list.rate (frame + 1) (packets_before (columns_of list placed) (frame + 1)) carrier
carried_next list placed frame b bytes carrier is e moves =
    let columns = columns_of list placed in let before = packets_before columns frame in
    let ahead = subst (λ (o : Option FrameBytes). IsAhead columns frame b.plan o) e is.gives in
    let packets : before + packet_count bytes.blocks.items ≡ packets_before columns (frame + 1) =
    ap (λ (p : FrameBytes). before + packet_count p.blocks.items) ahead.0 ∙ ap (packets_before columns) (sym (add-one frame)) in
    subst (λ n. IsAt list.rate (frame + 1) n carrier) packets (moves list.rate frame before is.at)

-- the plan gives the frame after it, or there is none
pub passed : (list : Listing) (placed : Placement) (frame : ℕ) (b : Building) (plan : Plan) (carrier : Carrier) (ahead : Option FrameBytes)
    → IsBuilding list placed frame b → IsSome b.ahead
    → MatchOption ahead (frames_left b.plan ≡ 0) (λ next. frames_left plan + 1 ≡ frames_left b.plan)
    → IfNone ahead (frames_left plan ≡ 0)
    → ((columns : Columns) (at : ℕ) → GivesFrom columns at b.plan → IfSome ahead (λ next. (next ≡ columns at) × GivesFrom columns (at + 1) plan))
    → IsAt list.rate (frame + 1) (packets_before (columns_of list placed) (frame + 1)) carrier
    → IsBuilding list placed (frame + 1) (record { plan = plan; carrier = carrier; ahead = ahead })
passed list placed frame b plan carrier None is some left none gives at =
    let total : frame + (count_of b.ahead + frames_left b.plan) ≡ list.frames = is.left in
    record { gives = none; left = omega (arith, left, none, total, counted b.ahead some); at = at }
passed list placed frame b plan carrier (Some next) is some left none gives at =
    let columns = columns_of list placed in
    let total : frame + (count_of b.ahead + frames_left b.plan) ≡ list.frames = is.left in
    record {
      gives = gives columns (frame + 1) (behind_it columns frame b.plan b.ahead some is.gives);
      left = omega (arith, left, total, counted b.ahead some);
      at = at;
    }

-- a builder begins at frame 0 of a plan that has given nothing
pub begun : (list : Listing) (placed : Placement) (before plan : Plan) (carrier : Carrier) (ahead : Option FrameBytes)
    → GivesFrom (columns_of list placed) 0 before → frames_left before ≡ list.frames
    → MatchOption ahead (frames_left before ≡ 0) (λ next. frames_left plan + 1 ≡ frames_left before)
    → IfNone ahead (frames_left plan ≡ 0)
    → ((columns : Columns) (at : ℕ) → GivesFrom columns at before → IfSome ahead (λ next. (next ≡ columns at) × GivesFrom columns (at + 1) plan))
    → IsAt list.rate 0 0 carrier → IsBuilding list placed 0 (record { plan = plan; carrier = carrier; ahead = ahead })
begun list placed before plan carrier None given count left none gives at =
    record { gives = none; left = omega (arith, count, left, none); at = at }
begun list placed before plan carrier (Some next) given count left none gives at =
    record { gives = gives (columns_of list placed) 0 given; left = omega (arith, count, left); at = at }
