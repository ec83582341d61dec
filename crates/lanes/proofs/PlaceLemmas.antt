-- The units of a service placed one by one, and what the placement keeps.
use Rattle.std.proofs.Common.{◌≡◌, ◌∙◌, ℕ, ◌+◌, ◌<◌, ◌≤◌, ◌==◌, Bool, true, false, if◌then◌else◌, List, [], ◌∷◌, ◌++◌, Option, Some, None, refl, sym, ap, subst, arith, length, length-append, get_or, take}
use Rattle.std.specs.List.{flat_map, list_any, zip}
use Rattle.std.proofs.lemmas.Bool.Decides.{nat_tests}
use Rattle.std.proofs.lemmas.List.{take_all, take_more}
use Rattle.std.proofs.lemmas.List.Concat.{flat_map-append}
use Rattle.std.proofs.lemmas.List.Sums.{sum_by-cons}
use Rattle.dtvcc_author.specs.Command.{Command}
use Rattle.dtvcc_author.specs.Command.TheVariants.{Dlw, Dsw}
use Rattle.dtvcc_author.specs.Writing.{bytes_of_command}
use Rattle.dtvcc_author.specs.FrameEvents.{delay_commands, delay_end, delayed_at, event_bytes, is_hidden_at, is_shown_at, names, windows_byte, windows_command}
use Rattle.dtvcc_author.specs.declared.caption.Caption.{Caption}
use Rattle.lanes.specs.FirstFit.{IsFirst}
use Rattle.lanes.specs.LaneRoom.{AreInCueOrder, IsFirstCrowded}
use Rattle.lanes.specs.Placing.{IsEarliest, IsPlaced}
use Rattle.lanes.proofs.LaneRoomLemmas.{no_room_at}
use Rattle.lanes.proofs.PlacingLemmas.{zip_push}
use Rattle.lanes.specs.ServiceBytes.{AreFramesFrom, loads_at}
use Rattle.lanes.specs.ServiceChunks.{service_chunk_cue}
use Rattle.lanes.specs.ServiceLane.{AreUpTo, bytes_between, chunk_size, is_between, used}
use Rattle.lanes.specs.ServicePlacing.{Reaches}
use Rattle.lanes.specs.ServicePlan.{IsWithinShare}
use Rattle.lanes.specs.ServiceRoom.{IsFirstBehind, IsFront, caption_lane, frame_room}
use Rattle.lanes.specs.Chunks.{ServiceChunk}
use Rattle.lanes.specs.declared.service_front.Front.{Front}
use Rattle.lanes.proofs.FrontLemmas.{last_is_first}
use Rattle.lanes.proofs.ServiceLaneLemmas.{chunks_fit_earlier, chunks_one_more, placed_within}

-- one more of the lane's units is placed
pub reaches_next : (share : ℕ) (cs : List Caption) (us : List ServiceChunk) (k : ℕ) (d : ServiceChunk) (frames : List ℕ) (old new : Front) (f : ℕ) → k < length us
    → Reaches share cs (take k us) frames old
    → ((before : List (ServiceChunk × ℕ)) → IsFront share cs before old → IsFirstBehind before old.frame → IsFirst (caption_lane share cs before (get_or us k d)) f)
    → ((before : List (ServiceChunk × ℕ)) → IsFront share cs before old → IsFront share cs (before ++ (get_or us k d, f) ∷ []) new)
    → new.frame ≡ f → Reaches share cs (take (k + 1) us) (frames ++ f ∷ []) new
reaches_next share cs us k d frames old new f within r first front at =
    let u = get_or us k d in
    let least = first (zip (take k us) frames) r.front_is r.first in
    let pushed = front (zip (take k us) frames) r.front_is in
    let joined = zip_push (caption_lane share cs) [] (take k us) frames u f r.earliest.placed in
    let more : Reaches share cs (take k us ++ u ∷ []) (frames ++ f ∷ []) new = record {
      earliest =
          (chunks_one_more (frame_room share cs) (delay_end cs) (take k us) frames u r.earliest).first f least.holds least.first;
      front_is = subst (λ l. IsFront share cs l new) (sym joined) pushed;
      first = subst (λ l. IsFirstBehind l new.frame) (sym joined)
          (subst (λ n. IsFirstBehind (zip (take k us) frames ++ (u, f) ∷ []) n) (sym at) (last_is_first (zip (take k us) frames) u f));
    } in
    subst (λ l. Reaches share cs l (frames ++ f ∷ []) new) (sym (take_more us k d within)) more

-- where no frame is allowed for the next unit, its cue is the first without room
pub reaches_none : (share : ℕ) (cs : List Caption) (us : List ServiceChunk) (k : ℕ) (d : ServiceChunk) (frames : List ℕ) (old : Front) → AreInCueOrder service_chunk_cue us → k < length us
    → Reaches share cs (take k us) frames old
    → ((before : List (ServiceChunk × ℕ)) → IsFront share cs before old → IsFirstBehind before old.frame → (f : ℕ) → caption_lane share cs before (get_or us k d) f → ⊥)
    → IsFirstCrowded (caption_lane share cs) service_chunk_cue us (get_or us k d).cue
reaches_none share cs us k d frames old order within r nowhere =
    no_room_at service_chunk_cue (caption_lane share cs) (chunks_fit_earlier (frame_room share cs) (delay_end cs)) us k d frames order within r.earliest
    (take_more us k d within) (nowhere (zip (take k us) frames) r.front_is r.first)

-- all of the lane's units are placed
pub reaches_all : (share : ℕ) (cs : List Caption) (us : List ServiceChunk) (k : ℕ) (frames : List ℕ) (front : Front) → length us ≤ k
    → Reaches share cs (take k us) frames front → IsEarliest (caption_lane share cs) us frames
reaches_all share cs us k frames front end r = subst (λ l. IsEarliest (caption_lane share cs) l frames) (take_all k us end) r.earliest

-- the events of a frame have at most eight bytes
windows_few : (command : ℕ → Command) (test : Caption → Bool) (cs : List Caption) → ((windows : ℕ) → length (bytes_of_command (command windows)) ≡ 2)
    → length (flat_map bytes_of_command (windows_command command test cs)) ≤ 2
windows_few command test cs two = at (list_any test cs) refl
  where
    at : (b : Bool) → list_any test cs ≡ b → length (flat_map bytes_of_command (windows_command command test cs)) ≤ 2
    at true some =
        let size = two (windows_byte (names test cs)) in
        let whole = length-append (bytes_of_command (command (windows_byte (names test cs)))) [] in
        rw some (omega (arith, size, whole))
    at false none = rw none (omega arith)

delays_few : (c : Option Caption) → length (flat_map bytes_of_command (delay_commands c)) ≤ 4
unfolding bytes_of_command
delays_few None = omega arith
delays_few (Some c) = omega arith

dlw_two : (windows : ℕ) → length (bytes_of_command (Dlw windows)) ≡ 2
unfolding bytes_of_command
dlw_two windows = refl

dsw_two : (windows : ℕ) → length (bytes_of_command (Dsw windows)) ≡ 2
unfolding bytes_of_command
dsw_two windows = refl

pub events_few : (frame : ℕ) (cs : List Caption) → length (event_bytes frame cs) ≤ 8
events_few frame cs =
    let hide_commands = windows_command Dlw (is_hidden_at frame) cs in
    let show_commands = windows_command Dsw (is_shown_at frame) cs in
    let delays = delay_commands (delayed_at frame cs) in
    let all = ap length (flat_map-append bytes_of_command (hide_commands ++ show_commands) delays) in
    let front = ap length (flat_map-append bytes_of_command hide_commands show_commands) in
    let outer = length-append (flat_map bytes_of_command (hide_commands ++ show_commands)) (flat_map bytes_of_command delays) in
    let inner = length-append (flat_map bytes_of_command hide_commands) (flat_map bytes_of_command show_commands) in
    let hides = windows_few Dlw (is_hidden_at frame) cs dlw_two in
    let shows = windows_few Dsw (is_shown_at frame) cs dsw_two in
    let delayed = delays_few (delayed_at frame cs) in
    omega (arith, all, front, outer, inner, hides, shows, delayed)

-- the units of a frame have the bytes that they use of it
between_frame : (f frame : ℕ) → is_between frame (frame + 1) f ≡ (f == frame)
between_frame f frame = at (f == frame) refl
  where
    at : (b : Bool) → (f == frame) ≡ b → is_between frame (frame + 1) f ≡ b
    at true is = grind (arith, nat_tests)
    at false is = grind (arith, nat_tests)

loads_used : (placed : List (ServiceChunk × ℕ)) (frame : ℕ) → length (loads_at placed frame) ≡ used frame (frame + 1) placed
loads_used [] frame = refl
loads_used ((u, f) ∷ placed) frame =
    let rest = loads_used placed frame in
    let whole = sum_by-cons (bytes_between frame (frame + 1)) (u, f) placed in
    let joined = length-append (if f == frame then u.unit else []) (loads_at placed frame) in
    let here : bytes_between frame (frame + 1) (u, f) ≡ length (if f == frame then u.unit else []) =
    ap (λ b. if b then chunk_size u else 0) (between_frame f frame) ∙ size (f == frame) in
    omega (arith, rest, whole, joined, here)
  where
    size : (b : Bool) → (if b then chunk_size u else 0) ≡ length (if b then u.unit else [])
    size true = refl
    size false = refl

-- no frame has more bytes than the share
pub within_share : (share : ℕ) (cs : List Caption) (us : List ServiceChunk) (frames : List ℕ) → 8 ≤ share → IsPlaced (caption_lane share cs) [] us frames
    → IsWithinShare share cs us frames
within_share share cs us frames least placed frame =
    let most = (placed_within (frame_room share cs) (delay_end cs) us frames placed).frames frame in
    let few = events_few frame cs in
    let loads = loads_used (zip us frames) frame in
    let whole = length-append (event_bytes frame cs) (loads_at (zip us frames) frame) in
    omega (arith, most, few, loads, whole, least)

up_to_last : (frame : ℕ) (before : List (ServiceChunk × ℕ)) (u : ServiceChunk) (f : ℕ) → AreUpTo frame (before ++ (u, f) ∷ []) → f ≤ frame
up_to_last frame [] u f all = all.0
up_to_last frame (p ∷ ps) u f all = up_to_last frame ps u f all.1

-- the frames of a placement are in order
pub frames_rise : (share : ℕ) (cs : List Caption) (before : List (ServiceChunk × ℕ)) (us : List ServiceChunk) (frames : List ℕ) (from : ℕ)
    → ((frame : ℕ) → AreUpTo frame before → from ≤ frame) → IsPlaced (caption_lane share cs) before us frames → AreFramesFrom from frames
frames_rise share cs before [] [] from low placed = tt
frames_rise share cs before [] (f ∷ fs) from low placed = absurd placed
frames_rise share cs before (u ∷ us) [] from low placed = tt
frames_rise share cs before (u ∷ us) (f ∷ fs) from low placed = (
  low f placed.0.order,
  frames_rise share cs (before ++ (u, f) ∷ []) us fs f (λ frame all. up_to_last frame before u f all) placed.1,
)
