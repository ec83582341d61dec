-- One cue alone has room exactly where its units fit between its LOAD and its SHOW.
use Rattle.std.proofs.Common.{◌≡◌, ℕ, ◌+◌, ◌<◌, ◌≤◌, ◌↔◌, List, [], ◌∷◌, ◌++◌, true, leb, refl, sym, ap, ◌∙◌, subst, arith, get_or, ⊎_elim}
use Rattle.std.specs.List.{All}
use Rattle.std.proofs.lemmas.Bool.{cases_lt}
use Rattle.std.proofs.lemmas.Bool.Decides.{nat_tests}
use Rattle.std.proofs.lemmas.List.Elements.{All-head, All-tail}
use Rattle.std.proofs.lemmas.List.Sums.{sum_by_from}
use Rattle.line21_author.specs.declared.event.Event.{Event}
use Rattle.lanes.specs.declared.chunk.FieldChunk.{FieldChunk}
use Rattle.lanes.specs.FieldLane.{slots_of, end_of, field_lane}
use Rattle.line21_author.specs.EventOrder.{AreFrom}
use Rattle.lanes.specs.FieldPlan.{field_chunk_cue}
use Rattle.lanes.specs.LaneRoom.{up_to, IsFirstCrowded}
use Rattle.lanes.specs.OneCue.{AreOfOneCue, total_slots}
use Rattle.lanes.specs.Placing.{IsPlaced, HasPlacement}
use Rattle.lanes.proofs.FieldLaneLemmas.{end_push}
use Rattle.lanes.proofs.EventLemmas.{free_from}
use Rattle.lanes.proofs.LaneRoomLemmas.{up_to_none}

-- the slots of one more unit in front
total_cons : (p : FieldChunk) (ps : List FieldChunk) → total_slots (p ∷ ps) ≡ slots_of p + total_slots ps
total_cons p ps = sum_by_from slots_of (0 + slots_of p) ps ∙ (let e : 0 + slots_of p ≡ slots_of p = omega arith in ap (λ n. n + total_slots ps) e)

-- units that are all of a cue up to a number are the units up to it
up_to_all : (cue : ℕ) (ps : List FieldChunk) → All (λ chunk. chunk.cue ≡ cue) ps → up_to field_chunk_cue cue ps ≡ ps
up_to_all cue [] all = refl
up_to_all cue (p ∷ ps) all =
    let here : p.cue ≡ cue = All-head (λ chunk. chunk.cue ≡ cue) p ps all in
    let test : leb p.cue cue ≡ true = grind (arith, nat_tests) in
    rw test (ap (λ l. p ∷ l) (up_to_all cue ps (All-tail (λ chunk. chunk.cue ≡ cue) p ps all)))

-- units that are placed from a frame on need their slots before SHOW
needs_slots : (events : List Event) (before : List (FieldChunk × ℕ)) (p : FieldChunk) (ps : List FieldChunk) (f : ℕ) (fs : List ℕ) (show : ℕ)
    → All (λ chunk. chunk.until ≡ show) (p ∷ ps) → IsPlaced (field_lane events) before (p ∷ ps) (f ∷ fs) → f + total_slots (p ∷ ps) ≤ show
needs_slots events before p [] f [] show until placed =
    let here : p.until ≡ show = All-head (λ chunk. chunk.until ≡ show) p [] until in
    omega (arith, total_cons p [], placed.0.ended)
needs_slots events before p [] f (g ∷ fs) show until placed = absurd placed.1
needs_slots events before p (q ∷ ps) f [] show until placed = absurd placed.1
needs_slots events before p (q ∷ ps) f (g ∷ fs) show until placed =
    let rest : g + total_slots (q ∷ ps) ≤ show =
    needs_slots events (before ++ (p, f) ∷ []) q ps g fs show (All-tail (λ chunk. chunk.until ≡ show) p (q ∷ ps) until) placed.1 in
    omega (arith, total_cons p (q ∷ ps), placed.1.0.behind, end_push before p f)

-- one after another from a frame on
packed : ℕ → List FieldChunk → List ℕ
packed a [] = []
packed a (p ∷ ps) = a ∷ packed (a + slots_of p) ps

-- units that fit before SHOW stand one after another
packed_placed : (events : List Event) (before : List (FieldChunk × ℕ)) (ps : List FieldChunk) (a load show : ℕ) → end_of before ≤ a → load ≤ a
    → All (λ chunk. chunk.load ≡ load) ps → All (λ chunk. chunk.until ≡ show) ps → AreFrom show events → a + total_slots ps ≤ show
    → IsPlaced (field_lane events) before ps (packed a ps)
unfolding packed
packed_placed events before [] a load show behind loaded loads untils later fits = tt
packed_placed events before (p ∷ ps) a load show behind loaded loads untils later fits =
    let load_is : p.load ≡ load = All-head (λ chunk. chunk.load ≡ load) p ps loads in
    let until_is : p.until ≡ show = All-head (λ chunk. chunk.until ≡ show) p ps untils in
    let total = total_cons p ps in (
      record {
        behind = behind;
        loaded = omega arith;
        ended = omega (arith, total, fits);
        free = λ n low high. free_from show n events later (omega (arith, total, fits));
      },
      packed_placed events (before ++ (p, a) ∷ []) ps (a + slots_of p) load show (omega (arith, end_push before p a)) (omega arith)
          (All-tail (λ chunk. chunk.load ≡ load) p ps loads) (All-tail (λ chunk. chunk.until ≡ show) p ps untils) later (omega (arith, total, fits)),
    )

-- a placement of the units of one cue
one_cue_needs : (events : List Event) (chunks : List FieldChunk) (fs : List ℕ) (load show : ℕ) → AreOfOneCue events chunks load show
    → IsPlaced (field_lane events) [] chunks fs → load + total_slots chunks ≤ show
one_cue_needs events [] fs load show one placed = absurd (omega (arith, one.some))
one_cue_needs events (p ∷ ps) [] load show one placed = absurd placed
one_cue_needs events (p ∷ ps) (f ∷ fs) load show one placed =
    let load_is : p.load ≡ load = All-head (λ chunk. chunk.load ≡ load) p ps one.load_is in
    omega (arith, needs_slots events [] p ps f fs show one.until_is placed, placed.0.loaded)

-- one cue has no room exactly where its slots are too few
pub one_cue : (events : List Event) (chunks : List FieldChunk) (load show : ℕ) → AreOfOneCue events chunks load show
    → IsFirstCrowded (field_lane events) field_chunk_cue chunks 1 ↔ (show < load + total_slots chunks)
one_cue events chunks load show one = (
  λ without. ⊎_elim
      (λ (h : show < load + total_slots chunks). h)
      (λ (h : load + total_slots chunks ≤ show).
      let none : HasPlacement (field_lane events) chunks → ⊥ = subst (λ l. HasPlacement (field_lane events) l → ⊥) (up_to_all 1 chunks one.cue) without.none in
      absurd (none (packed load chunks, packed_placed events [] chunks load load show (omega arith) (omega arith) one.load_is one.until_is one.later h)))
      (cases_lt show (load + total_slots chunks)),
  λ few. record {
    none = subst (λ l. HasPlacement (field_lane events) l → ⊥) (sym (up_to_all 1 chunks one.cue))
        (λ has. let needs : load + total_slots chunks ≤ show = one_cue_needs events chunks has.0 load show one has.1 in omega arith);
    first = λ earlier below.
        let is : up_to field_chunk_cue earlier chunks ≡ [] = up_to_none field_chunk_cue earlier chunks (λ k d h. let cue : (get_or chunks k d).cue ≡ 1 = one.cue k d h in omega arith) in
        subst (λ l. HasPlacement (field_lane events) l) (sym is) ([], tt);
  },
)
