-- How far units have been placed: the next frame, a unit that the frame takes, and what is allowed in it.
use Rattle.std.proofs.Common.{◌≡◌, ◌∙◌, ℕ, ◌+◌, ◌<◌, ◌≤◌, Bool, true, false, ◌&&◌, List, [], ◌∷◌, ◌++◌, Option, Some, None, refl, sym, ap, subst, arith, length, ⊎_elim}
use Rattle.std.specs.Prelude.{nat_le, nat_lt, if◌then◌else◌}
use Rattle.std.proofs.lemmas.Bool.{and_parts, cases_lt}
use Rattle.std.proofs.lemmas.Bool.Decides.{nat_tests}
use Rattle.std.proofs.lemmas.List.Sums.{sum_by-cons, sum_by_push}
use Rattle.lanes.specs.declared.budget.Budget.{Budget}
use Rattle.cc_base.specs.declared.rate.Rate.{Rate}
use Rattle.dtvcc_author.specs.FrameEvents.{delay_end, event_bytes}
use Rattle.dtvcc_author.specs.Kept.{AreKept}
use Rattle.dtvcc_author.specs.Latest.{IsLatestAt}
use Rattle.dtvcc_author.specs.declared.caption.Caption.{Caption}
use Rattle.lanes.specs.ServiceLane.{AreUpTo, bytes_between, chunk_size, is_between, most_in_delay, used}
use Rattle.lanes.specs.ServiceRoom.{IsBudgetAt, IsFirstBehind, IsFront, IsSpent, IsUndelayed, behind_taking, budget_in, caption_lane, frame_room, has_left, spent_of, takes}
use Rattle.lanes.specs.Chunks.{ServiceChunk}
use Rattle.lanes.specs.declared.service_front.Front.{Front}
use Rattle.lanes.proofs.DelayLemmas.{delay_some, one_delay}

-- units up to a frame are up to a later one
up_to_later : (frame later : ℕ) (before : List (ServiceChunk × ℕ)) → frame ≤ later → AreUpTo frame before → AreUpTo later before
up_to_later frame later [] low all = tt
up_to_later frame later (p ∷ ps) low all = (omega (arith, low, all.0), up_to_later frame later ps low all.1)

up_to_push : (frame : ℕ) (before : List (ServiceChunk × ℕ)) (u : ServiceChunk) (f : ℕ) → AreUpTo frame before → f ≤ frame → AreUpTo frame (before ++ (u, f) ∷ [])
up_to_push frame [] u f all low = (low, tt)
up_to_push frame (p ∷ ps) u f all low = (all.0, up_to_push frame ps u f all.1 low)

up_to_last : (frame : ℕ) (before : List (ServiceChunk × ℕ)) (u : ServiceChunk) (f : ℕ) → AreUpTo frame (before ++ (u, f) ∷ []) → f ≤ frame
up_to_last frame [] u f all = all.0
up_to_last frame (p ∷ ps) u f all = up_to_last frame ps u f all.1

-- after its last unit stands no frame before that unit's
pub last_is_first : (before : List (ServiceChunk × ℕ)) (u : ServiceChunk) (f : ℕ) → IsFirstBehind (before ++ (u, f) ∷ []) f
last_is_first before u f other all = up_to_last other before u f all

-- units up to a frame have nothing after it
between_behind : (from to frame f : ℕ) → f ≤ frame → frame < from → is_between from to f ≡ false
between_behind from to frame f low behind = grind (arith, nat_tests)

none_behind : (from to frame : ℕ) (before : List (ServiceChunk × ℕ)) → AreUpTo frame before → frame < from → used from to before ≡ 0
none_behind from to frame [] all behind = refl
none_behind from to frame (p ∷ ps) all behind =
    let none : is_between from to p.1 ≡ false = between_behind from to frame p.1 all.0 behind in
    let rest = none_behind from to frame ps all.1 behind in
    let whole = sum_by-cons (bytes_between from to) p ps in
    let here : bytes_between from to p ≡ 0 = rw none refl in
    omega (arith, whole, here, rest)

-- the budget of the next frame
pub budget_next : (r : Rate) (frames : ℕ) (cs : List Caption) (before : List (ServiceChunk × ℕ)) (frame : ℕ) (former : Option Budget) → AreKept r frames cs
    → AreUpTo frame before → IsBudgetAt cs before frame former
    → IsBudgetAt cs before (frame + 1) (budget_in former (delay_end cs (frame + 1)) (frame + 1))
budget_next r frames cs before frame former kept order is = at former (delay_end cs (frame + 1)) refl is
  where
    ended : (budget : Budget) → IsSpent cs before frame budget → nat_lt (frame + 1) budget.end ≡ false → delay_end cs (frame + 1) ≡ None
        → IsUndelayed cs (frame + 1)
    ended budget spent over none start end delay from =
        ⊎_elim
        (λ (i : frame < start).
        let now : start ≡ frame + 1 = omega arith in
        absurd (let e : Some end ≡ None = sym delay ∙ ap (delay_end cs) now ∙ none in cc))
        (λ (i : start ≤ frame). ⊎_elim
        (λ (j : frame < end).
        let one = one_delay r frames cs start end budget.start budget.end frame kept delay spent.delay i j spent.from spent.to in
        let past : budget.end ≤ frame + 1 = grind (arith, nat_tests) in
        omega (arith, one.1, past))
        (λ (j : end ≤ frame). omega arith)
        (cases_lt frame end))
        (cases_lt frame start)

    on : (budget : Budget) → (b : Bool) → nat_lt (frame + 1) budget.end ≡ b → IsSpent cs before frame budget → delay_end cs (frame + 1) ≡ None
        → IsBudgetAt cs before (frame + 1) (if b then Some budget else None)
    on budget true goes spent none = record {
      delay = spent.delay;
      from = omega (arith, spent.from);
      to = grind (arith, nat_tests);
      left = spent.left;
    }
    on budget false over spent none = ended budget spent over none

    at : (former : Option Budget) (now : Option ℕ) → delay_end cs (frame + 1) ≡ now → IsBudgetAt cs before frame former
        → IsBudgetAt cs before (frame + 1) (budget_in former now (frame + 1))
    at former (Some end) starts is =
        let some = delay_some r frames cs (frame + 1) end kept starts in
        let unused = none_behind (frame + 1) end frame before order (omega arith) in
        record { delay = starts; from = omega arith; to = some; left = ap (λ n. n + most_in_delay) unused }
    at None None none is = λ start end delay from.
        ⊎_elim
        (λ (i : frame < start).
        let now : start ≡ frame + 1 = omega arith in
        absurd (let e : Some end ≡ None = sym delay ∙ ap (delay_end cs) now ∙ none in cc))
        (λ (i : start ≤ frame). let low = is start end delay i in omega (arith, low))
        (cases_lt frame start)
    at (Some budget) None none is = on budget (nat_lt (frame + 1) budget.end) refl is none

-- what the next frame has left
pub front_next : (r : Rate) (frames share : ℕ) (cs : List Caption) (before : List (ServiceChunk × ℕ)) (old new : Front) → AreKept r frames cs → IsFront share cs before old
    → new.frame ≡ old.frame + 1 → IsLatestAt cs (old.frame + 1) new.latest → new.room + length (event_bytes (old.frame + 1) cs) ≡ share
    → new.budget ≡ budget_in old.budget (delay_end cs (old.frame + 1)) (old.frame + 1) → IsFront share cs before new
front_next r frames share cs before old new kept front frame at room budget = record {
  at = subst (λ f. IsLatestAt cs f new.latest) (sym frame) at;
  order = subst (λ f. AreUpTo f before) (sym frame) (up_to_later old.frame (old.frame + 1) before (omega arith) front.order);
  room =
      let unused = none_behind (old.frame + 1) (old.frame + 1 + 1) old.frame before front.order (omega arith) in
      subst (λ f. used f (f + 1) before + new.room ≡ frame_room share cs f) (sym frame) (omega (arith, unused, room));
  budget =
      subst (λ f. IsBudgetAt cs before f new.budget) (sym frame)
      (subst (λ b. IsBudgetAt cs before (old.frame + 1) b) (sym budget) (budget_next r frames cs before old.frame old.budget kept front.order front.budget));
}

-- the front of no units at frame 0
pub front_first : (r : Rate) (frames share : ℕ) (cs : List Caption) (new : Front) → AreKept r frames cs → new.frame ≡ 0 → IsLatestAt cs 0 new.latest
    → new.room + length (event_bytes 0 cs) ≡ share → new.budget ≡ budget_in None (delay_end cs 0) 0 → IsFront share cs [] new
front_first r frames share cs new kept frame at room budget = record {
  at = subst (λ f. IsLatestAt cs f new.latest) (sym frame) at;
  order = tt;
  room = subst (λ f. used f (f + 1) [] + new.room ≡ frame_room share cs f) (sym frame) (omega (arith, room));
  budget =
      subst (λ f. IsBudgetAt cs [] f new.budget) (sym frame)
      (subst (λ b. IsBudgetAt cs [] 0 b) (sym budget) (first (delay_end cs 0) refl));
}
  where
    first : (now : Option ℕ) → delay_end cs 0 ≡ now → IsBudgetAt cs [] 0 (budget_in None now 0)
    first (Some end) starts =
        let some = delay_some r frames cs 0 end kept starts in
        record { delay = starts; from = omega arith; to = some; left = refl }
    first None none = λ start end delay from.
        let now : start ≡ 0 = omega arith in
        absurd (let e : Some end ≡ None = sym delay ∙ ap (delay_end cs) now ∙ none in cc)

-- what fits the room of the frame and what is left of its delay is allowed there
pub allowed_now : (r : Rate) (frames share : ℕ) (cs : List Caption) (before : List (ServiceChunk × ℕ)) (front : Front) (chunk : ServiceChunk) → AreKept r frames cs
    → IsFront share cs before front → front.frame < chunk.until → (nat_le chunk.load front.frame && takes front (chunk_size chunk)) ≡ true
    → caption_lane share cs before chunk front.frame
allowed_now r frames share cs before front chunk kept is until admitted =
    let parts = and_parts (nat_le chunk.load front.frame) (takes front (chunk_size chunk)) admitted in
    let fits = and_parts (nat_le (chunk_size chunk) front.room) (has_left front.budget (chunk_size chunk)) parts.1 in
    let loaded = parts.0 in
    let roomy = fits.0 in
    record {
      order = is.order;
      loaded = grind (arith, nat_tests);
      ended = until;
      fits = let small : chunk_size chunk ≤ front.room = grind (arith, nat_tests) in omega (arith, small, is.room);
      delayed = λ start end delay from to. in_delay start end delay from to front.budget is.budget fits.1;
    }
  where
    in_delay : (start end : ℕ) → delay_end cs start ≡ Some end → start ≤ front.frame → front.frame < end → (budget : Option Budget)
        → IsBudgetAt cs before front.frame budget → has_left budget (chunk_size chunk) ≡ true
        → used start end before + chunk_size chunk ≤ most_in_delay
    in_delay start end delay from to None none has = absurd (let low = none start end delay from in omega (arith, low, to))
    in_delay start end delay from to (Some budget) spent has =
        let one = one_delay r frames cs start end budget.start budget.end front.frame kept delay spent.delay from to spent.from spent.to in
        let small : chunk_size chunk ≤ budget.left = grind (arith, nat_tests) in
        let same : used start end before ≡ used budget.start budget.end before =
        ap (λ s. used s end before) one.0 ∙ ap (λ e. used budget.start e before) one.1 in
        omega (arith, small, spent.left, same)

both_hold : (a b : Bool) → a ≡ true → b ≡ true → (a && b) ≡ true
both_hold true true p q = refl
both_hold true false p q = q
both_hold false b p q = p

-- and what is allowed there fits
pub allowed_fits : (share : ℕ) (cs : List Caption) (before : List (ServiceChunk × ℕ)) (front : Front) (chunk : ServiceChunk)
    → IsFront share cs before front → caption_lane share cs before chunk front.frame
    → (nat_le chunk.load front.frame && takes front (chunk_size chunk)) ≡ true
allowed_fits share cs before front chunk is allowed =
    let early = allowed.loaded in
    let roomy : chunk_size chunk ≤ front.room = omega (arith, allowed.fits, is.room) in
    let first : nat_le chunk.load front.frame ≡ true = grind (arith, nat_tests) in
    let second : nat_le (chunk_size chunk) front.room ≡ true = grind (arith, nat_tests) in
    both_hold (nat_le chunk.load front.frame) (takes front (chunk_size chunk)) first
    (both_hold (nat_le (chunk_size chunk) front.room) (has_left front.budget (chunk_size chunk)) second (in_delay front.budget is.budget))
  where
    in_delay : (budget : Option Budget) → IsBudgetAt cs before front.frame budget → has_left budget (chunk_size chunk) ≡ true
    in_delay None none = refl
    in_delay (Some budget) spent =
        let most = allowed.delayed budget.start budget.end spent.delay spent.from spent.to in
        let small : chunk_size chunk ≤ budget.left = omega (arith, most, spent.left) in
        grind (arith, nat_tests)

-- one more placed unit has what it has
used_push : (from to : ℕ) (before : List (ServiceChunk × ℕ)) (u : ServiceChunk) (f : ℕ)
    → used from to (before ++ (u, f) ∷ []) ≡ used from to before + bytes_between from to (u, f)
used_push from to before u f = sum_by_push (bytes_between from to) before (u, f)

in_batch : (from to f : ℕ) → from ≤ f → f < to → is_between from to f ≡ true
in_batch from to f low high = grind (arith, nat_tests)

used_more : (from to : ℕ) (before : List (ServiceChunk × ℕ)) (u : ServiceChunk) (f : ℕ) → from ≤ f → f < to
    → used from to (before ++ (u, f) ∷ []) ≡ used from to before + chunk_size u
used_more from to before u f low high =
    let here : bytes_between from to (u, f) ≡ chunk_size u = let is = in_batch from to f low high in rw is refl in
    used_push from to before u f ∙ ap (λ n. used from to before + n) here

-- the front after a unit that its frame takes
pub front_push : (share : ℕ) (cs : List Caption) (before : List (ServiceChunk × ℕ)) (front : Front) (chunk : ServiceChunk) → IsFront share cs before front
    → takes front (chunk_size chunk) ≡ true → IsFront share cs (before ++ (chunk, front.frame) ∷ []) (behind_taking front (chunk_size chunk))
front_push share cs before front chunk is taken =
    let fits = and_parts (nat_le (chunk_size chunk) front.room) (has_left front.budget (chunk_size chunk)) taken in
    let roomy = fits.0 in
    record {
      at = is.at;
      order = up_to_push front.frame before chunk front.frame is.order (omega arith);
      room =
          let small : chunk_size chunk ≤ front.room = grind (arith, nat_tests) in
          let more = used_more front.frame (front.frame + 1) before chunk front.frame (omega arith) (omega arith) in
          omega (arith, small, more, is.room);
      budget = in_delay front.budget is.budget fits.1;
    }
  where
    in_delay : (budget : Option Budget) → IsBudgetAt cs before front.frame budget → has_left budget (chunk_size chunk) ≡ true
        → IsBudgetAt cs (before ++ (chunk, front.frame) ∷ []) front.frame (spent_of budget (chunk_size chunk))
    in_delay None none has = none
    in_delay (Some budget) spent has = record {
      delay = spent.delay;
      from = spent.from;
      to = spent.to;
      left =
          let small : chunk_size chunk ≤ budget.left = grind (arith, nat_tests) in
          let more = used_more budget.start budget.end before chunk front.frame spent.from spent.to in
          omega (arith, small, more, spent.left);
    }
