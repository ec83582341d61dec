-- What is kept, window by window and service by service.
use Rattle.std.proofs.Common.{◌≡◌, ◌<◌, ◌+◌, ◌++◌, ◌||◌, ◌∙◌, ℕ, zero, suc, Bool, false, List, [], ◌∷◌, Option, Some, None, is_some, get_or, length, refl, sym, take, ap, subst, arith, inl, inr}
use Rattle.std.proofs.Math.ListN.{set}
use Rattle.std.proofs.lemmas.Bool.{cases_lt, true≢false}
use Rattle.std.proofs.lemmas.List.{take-append-le, take_all}
use Rattle.std.proofs.lemmas.Option.{slice_get-get_or}
use Rattle.std.specs.List.{list_any, range_with_len}
use Rattle.dtvcc_services.proofs.PlaceLemmas.{set_count, set_other, set_same}
use Rattle.dtvcc_windows.specs.declared.window.Window.{Window}
use Rattle.dtvcc_windows.specs.Objects.{window_of}
use Rattle.dtvcc_windows.specs.Showing.{ShownWindow, shown}
use Rattle.grid_print.specs.Differences.{differs}
use Rattle.grid_print.specs.declared.kept.Kept.{Kept}
use Rattle.grid_print.specs.GridTexts.{service_differs}
use Rattle.grid_print.specs.Keeping.{KeepsWindows, window_seen, windows_seen}
use Rattle.grid_print.specs.Kept.{HasKept, KeepsServices, changed_at, changed_in, seen_at, seen_in, seen_of}
use Rattle.grid_print.proofs.NumberLemmas.{any_more, any_none, any_same}

-- where nothing is seen there is nothing
none_of : (o : Option ShownWindow) → is_some o ≡ false → o ≡ None
none_of None none = refl
none_of (Some window) none = absurd (true≢false none)

pub none_where_unseen : (window : Window) → is_some (shown (window_of window)) ≡ false → shown (window_of window) ≡ None
none_where_unseen window none = none_of (shown (window_of window)) none

-- only a window that is shown differs from none
pub differs_none : (o : Option ShownWindow) → is_some o ≡ differs o None
unfolding differs
differs_none None = refl
differs_none (Some window) = refl

-- a window of a list is read and written
window_read : (windows : List Window) (id : ℕ) (default : Window) → id < length windows → windows_seen windows id ≡ shown (window_of (get_or windows id default))
window_read windows id default within = ap window_seen (slice_get-get_or windows id default within)

window_set : (windows : List Window) (id : ℕ) (new : Window) (i : ℕ) → id < length windows → i ≡ id → windows_seen (set windows id new) i ≡ shown (window_of new)
window_set windows id new i within same =
    ap (λ k. windows_seen (set windows id new) k) same ∙ ap window_seen (set_same windows id new within)

window_other : (windows : List Window) (id : ℕ) (new : Window) (i : ℕ) → (i ≡ id → ⊥) → windows_seen (set windows id new) i ≡ windows_seen windows i
window_other windows id new i apart = ap window_seen (set_other windows id new i apart)

-- before the first window
pub keeps_none : (are was : ℕ → Option ShownWindow) → KeepsWindows are 0 was was false
keeps_none are was = record { seen = λ id below. absurd (omega (arith, below)); left = λ id from. refl; some = refl }

-- one window more
pub keeps_more : (are was : ℕ → Option ShownWindow) (id : ℕ) (now : List Window) (new default : Window) (told one both : Bool)
    → KeepsWindows are id was (windows_seen now) told → id < length now → one ≡ differs (shown (window_of (get_or now id default))) (are id)
    → shown (window_of new) ≡ are id → both ≡ (told || one) → KeepsWindows are (id + 1) was (windows_seen (set now id new)) both
keeps_more are was id now new default told one both so_far within one_is kept both_is = record {
  seen = λ i below. elim (cases_lt i id) [
    | inl less ↦ window_other now id new i (λ same. omega (arith, less, same)) ∙ so_far.seen i less
    | inr more ↦
        let same : i ≡ id = omega (arith, below, more) in
        window_set now id new i within same ∙ kept ∙ ap are (sym same)
  ];
  left = λ i from. window_other now id new i (λ same. omega (arith, from, same)) ∙ so_far.left i (omega (arith, from));
  some = both_is ∙ ap (λ b. b || one) so_far.some
      ∙ ap (λ b. list_any (λ i. differs (was i) (are i)) (range_with_len 0 id) || b)
      (one_is ∙ ap (λ o. differs o (are id)) (sym (window_read now id default within) ∙ so_far.left id (omega arith)))
      ∙ any_more (λ i. differs (was i) (are i)) id;
}

-- one window more of a list of which none is shown
pub push_none : (windows : List Window) (window : Window) → ((i : ℕ) → windows_seen windows i ≡ None) → shown (window_of window) ≡ None
    → (i : ℕ) → windows_seen (windows ++ window ∷ []) i ≡ None
push_none [] window none new zero = new
push_none [] window none new (suc i) = refl
push_none (x ∷ xs) window none new zero = none zero
push_none (x ∷ xs) window none new (suc i) = push_none xs window (λ k. none (suc k)) new i

-- nothing is kept where nothing was and nothing is
pub unused_kept : (are : ℕ → Option ShownWindow) (was now : Kept) → ((id : ℕ) → seen_of was id ≡ None) → ((id : ℕ) → seen_of now id ≡ None) → ((id : ℕ) → are id ≡ None)
    → now.changed ≡ false → HasKept are was now
unfolding differs service_differs
unused_kept are was now none still nothing unchanged = record {
  seen = λ id small. still id ∙ sym (nothing id);
  changed = unchanged ∙ sym (any_same (λ id. differs (seen_of was id) (are id)) (λ id. false) 0 8
      (λ id from to. ap (λ o. differs o (are id)) (none id) ∙ ap (λ o. differs None o) (nothing id)) ∙ any_none 0 8);
}

-- and where the windows were kept
pub used_kept : (are : ℕ → Option ShownWindow) (was now : Kept) (told : Bool) → KeepsWindows are 8 (seen_of was) (seen_of now) told → now.changed ≡ told → HasKept are was now
unfolding service_differs
used_kept are was now told keeps changed = record { seen = keeps.seen; changed = changed ∙ keeps.some }

-- what borrowed windows became, as many as they were, is what their vector becomes
pub windows_back : (are : ℕ → Option ShownWindow) (given was now rest : List Window) (count : ℕ) (told : Bool) → given ≡ was → length now ≡ count
    → KeepsWindows are 8 (windows_seen given) (windows_seen now) told → KeepsWindows are 8 (windows_seen was) (windows_seen (take count (now ++ rest))) told
windows_back are given was now rest count told same long keeps =
    subst (λ l. KeepsWindows are 8 (windows_seen l) (windows_seen (take count (now ++ rest))) told) same
    (subst (λ l. KeepsWindows are 8 (windows_seen given) (windows_seen l) told)
    (sym (take-append-le count now rest (omega (arith, long)) ∙ take_all count now (omega (arith, long)))) keeps)

-- before the first service
pub services_none : (are : ℕ → ℕ → Option ShownWindow) (was : List Kept) → KeepsServices are 0 was was false
services_none are was = record {
  count = refl;
  seen = λ i id below small. absurd (omega (arith, below));
  each = λ i below. absurd (omega (arith, below));
  left = λ i from. refl;
  some = refl;
}

-- one service more
pub services_more : (are : ℕ → ℕ → Option ShownWindow) (place : ℕ) (was now : List Kept) (new default : Kept) (told one both : Bool)
    → KeepsServices are place was now told → place < length now → HasKept (are (place + 1)) (get_or now place default) new → one ≡ new.changed
    → both ≡ (told || one) → KeepsServices are (place + 1) was (set now place new) both
services_more are place was now new default told one both so_far within kept one_is both_is =
    let before : seen_of (get_or now place default) ≡ seen_at was place =
    ap seen_in (sym (slice_get-get_or now place default within) ∙ so_far.left place (omega arith)) in
    let changed : new.changed ≡ service_differs (seen_at was place) (are (place + 1)) = kept.changed ∙ ap (λ s. service_differs s (are (place + 1))) before in
    record {
      count = set_count now place new ∙ so_far.count;
      seen = λ i id below small. elim (cases_lt i place) [
        | inl less ↦ ap (λ o. seen_in o id) (set_other now place new i (λ same. omega (arith, less, same))) ∙ so_far.seen i id less small
        | inr more ↦
            let same : i ≡ place = omega (arith, below, more) in
            subst (λ n. seen_at (set now place new) n id ≡ are (n + 1) id) (sym same) (ap (λ o. seen_in o id) (set_same now place new within) ∙ kept.seen id small)
      ];
      each = λ i below. elim (cases_lt i place) [
        | inl less ↦ ap changed_in (set_other now place new i (λ same. omega (arith, less, same))) ∙ so_far.each i less
        | inr more ↦
            let same : i ≡ place = omega (arith, below, more) in
            subst (λ n. changed_at (set now place new) n ≡ service_differs (seen_at was n) (are (n + 1))) (sym same)
            (ap changed_in (set_same now place new within) ∙ changed)
      ];
      left = λ i from. set_other now place new i (λ same. omega (arith, from, same)) ∙ so_far.left i (omega (arith, from));
      some = both_is ∙ ap (λ b. b || one) so_far.some
          ∙ ap (λ b. list_any (λ i. service_differs (seen_at was i) (are (i + 1))) (range_with_len 0 place) || b) (one_is ∙ changed)
          ∙ any_more (λ i. service_differs (seen_at was i) (are (i + 1))) place;
    }

-- one service more of a list of which no window is shown
pub push_service : (services : List Kept) (kept : Kept) → ((place id : ℕ) → seen_at services place id ≡ None) → ((id : ℕ) → seen_of kept id ≡ None)
    → (place id : ℕ) → seen_at (services ++ kept ∷ []) place id ≡ None
push_service [] kept none new zero = new
push_service [] kept none new (suc place) = λ id. refl
push_service (x ∷ xs) kept none new zero = none zero
push_service (x ∷ xs) kept none new (suc place) = push_service xs kept (λ k. none (suc k)) new place
