-- A placed lane is sound: its loads are plain, and a delay's have at most 125 bytes.
use Rattle.std.proofs.Common.{◌≡◌, ℕ, zero, suc, ◌+◌, ◌-◌, ◌<◌, ◌≤◌, ◌==◌, Bool, true, false, if◌then◌else◌, List, [], ◌∷◌, ◌++◌, length, length-append, refl, sym, ap, ◌∙◌, arith}
use Rattle.std.specs.Prelude.{All, option_map}
use Rattle.std.specs.List.{zip}
use Rattle.std.proofs.lemmas.Bool.Decides.{nat_tests}
use Rattle.std.proofs.lemmas.List.Elements.{All-head, All-tail}
use Rattle.std.proofs.lemmas.List.Sums.{sum_by-cons}
use Rattle.frame_scheduler.specs.Chunks.{ServiceChunk}
use Rattle.frame_scheduler.specs.ServiceBytes.{loads_at}
use Rattle.frame_scheduler.specs.ServiceLane.{bytes_between, chunk_size, is_between, used}
use Rattle.frame_scheduler.proofs.ServiceLaneLemmas.{placed_within}
use Rattle.windows_shown.specs.PlacedLanes.{IsPlacedLane, delay_ends, loaded}
use Rattle.dtvcc_author.specs.declared.frame_events.Delay.{Delay}
use Rattle.windows_shown.specs.ServiceLanes.{Lane, spent}
use Rattle.windows_shown.specs.Soundness.{ArePlain, IsSoundLane}
use Rattle.windows_shown.proofs.PlainLemmas.{nothing_plain, plain_both}

-- what holds of no bytes, and of bytes one after another, holds of the units of a frame together
module _ (P : List ℕ → Type 0) (none : P []) (both : (bytes more : List ℕ) → P bytes → P more → P (bytes ++ more)) where
  pub loads_hold : (chunks : List ServiceChunk) (frames : List ℕ) (frame : ℕ) → All (λ (chunk : ServiceChunk). P chunk.unit) chunks
      → P (loads_at (zip chunks frames) frame)
  loads_hold [] frames frame each = none
  loads_hold (u ∷ us) [] frame each = none
  loads_hold (u ∷ us) (f ∷ fs) frame each =
      both (if f == frame then u.unit else []) (loads_at (zip us fs) frame)
      (at (f == frame)) (loads_hold us fs frame (All-tail (λ (chunk : ServiceChunk). P chunk.unit) u us each))
    where
      at : (here : Bool) → P (if here then u.unit else [])
      at true = All-head (λ (chunk : ServiceChunk). P chunk.unit) u us each
      at false = none

-- one frame more has what stands in it
between_last : (from count f : ℕ) → (f == from + count) ≡ true → is_between from (from + suc count) f ≡ true
between_last from count f is = grind (arith, nat_tests)

between_not_yet : (from count f : ℕ) → (f == from + count) ≡ true → is_between from (from + count) f ≡ false
between_not_yet from count f is = grind (arith, nat_tests)

between_still : (from count f : ℕ) → is_between from (from + count) f ≡ true → is_between from (from + suc count) f ≡ true
between_still from count f is = grind (arith, nat_tests)

between_never : (from count f : ℕ) → (f == from + count) ≡ false → is_between from (from + count) f ≡ false
    → is_between from (from + suc count) f ≡ false
between_never from count f other out = grind (arith, nat_tests)

piece_more : (from count : ℕ) (u : ServiceChunk) (f : ℕ)
    → bytes_between from (from + suc count) (u, f) ≡ bytes_between from (from + count) (u, f) + length (if f == from + count then u.unit else [])
piece_more from count u f = at (f == from + count) (is_between from (from + count) f) refl refl
  where
    at : (here before : Bool) → (f == from + count) ≡ here → is_between from (from + count) f ≡ before
        → bytes_between from (from + suc count) (u, f) ≡ (if before then chunk_size u else 0) + length (if here then u.unit else [])
    at true true is was = absurd (let none = between_not_yet from count f is in let both : true ≡ false = sym was ∙ none in cc)
    at true false is was =
        ap (λ (b : Bool). if b then chunk_size u else 0) (between_last from count f is)
        ∙ (let sum : chunk_size u ≡ 0 + chunk_size u = omega arith in sum)
    at false true is was =
        ap (λ (b : Bool). if b then chunk_size u else 0) (between_still from count f was)
        ∙ (let sum : chunk_size u ≡ chunk_size u + 0 = omega arith in sum)
    at false false is was =
        ap (λ (b : Bool). if b then chunk_size u else 0) (between_never from count f is was)

used_more : (from count : ℕ) (chunks : List ServiceChunk) (frames : List ℕ)
    → used from (from + suc count) (zip chunks frames) ≡ used from (from + count) (zip chunks frames) + length (loads_at (zip chunks frames) (from + count))
used_more from count [] frames = refl
used_more from count (u ∷ us) [] = refl
used_more from count (u ∷ us) (f ∷ fs) =
    let rest = used_more from count us fs in
    let here = piece_more from count u f in
    let more = sum_by-cons (bytes_between from (from + suc count)) (u, f) (zip us fs) in
    let less = sum_by-cons (bytes_between from (from + count)) (u, f) (zip us fs) in
    let parts = length-append (if f == from + count then u.unit else []) (loads_at (zip us fs) (from + count)) in
    rw (more, less, parts) (omega (arith, rest, here))

used_none : (from to : ℕ) (chunks : List ServiceChunk) (frames : List ℕ) → to ≤ from → used from to (zip chunks frames) ≡ 0
used_none from to [] frames below = refl
used_none from to (u ∷ us) [] below = refl
used_none from to (u ∷ us) (f ∷ fs) below =
    let rest = used_none from to us fs below in
    let all = sum_by-cons (bytes_between from to) (u, f) (zip us fs) in
    let out : is_between from to f ≡ false = grind (arith, nat_tests) in
    let none : bytes_between from to (u, f) ≡ 0 = ap (λ (b : Bool). if b then chunk_size u else 0) out in
    rw all (omega (arith, rest, none))

-- what a placed lane spends is what its units use
spent_is : (lane : Lane) (chunks : List ServiceChunk) (frames : List ℕ) (from count : ℕ)
    → spent (loaded lane (zip chunks frames)) from count ≡ used from (from + count) (zip chunks frames)
spent_is lane chunks frames from zero = sym (used_none from (from + zero) chunks frames (omega arith))
spent_is lane chunks frames from (suc count) =
    ap (λ (n : ℕ). n + length (loads_at (zip chunks frames) (from + count))) (spent_is lane chunks frames from count)
    ∙ sym (used_more from count chunks frames)

-- a placed lane is sound
pub placed_sound : (lane : Lane) (room : ℕ → ℕ) (chunks : List ServiceChunk) (frames : List ℕ) → IsPlacedLane lane room chunks frames
    → IsSoundLane (loaded lane (zip chunks frames))
placed_sound lane room chunks frames is = record {
  events = is.sound.events;
  loads = λ frame. loads_hold ArePlain nothing_plain plain_both chunks frames frame is.plain;
  lasting = λ start delay starts.
      let lasts = is.sound.lasting start delay starts in
      record { some = lasts.some; ends_is = lasts.ends_is; after = lasts.after };
  quiet = λ start frame delay starts from to.
      let quiet = is.sound.quiet start frame delay starts from to in
      record { events = quiet.events; delay = quiet.delay };
  budget = λ start delay starts.
      let lasts = is.sound.lasting start delay starts in
      let after_it : start < delay.ends = lasts.after in
      let within = placed_within room (delay_ends lane) chunks frames is.placed in
      let most = within.delays start delay.ends (ap (option_map (λ (d : Delay). d.ends)) starts) in
      let last : start + (delay.ends - start) ≡ delay.ends = omega arith in
      let all = spent_is lane chunks frames start (delay.ends - start) ∙ ap (λ (to : ℕ). used start to (zip chunks frames)) last in
      omega (arith, all, most);
}
