-- The windows of a service that are shown, one by one.
use Rattle.std.proofs.Common.{◌≡◌, ◌+◌, ◌++◌, ◌∙◌, if◌then◌else◌, ℕ, List, [], ◌∷◌, Option, Some, None, is_some, length, refl, sym, ap, zero-add, append-nil}
use Rattle.std.proofs.lemmas.List.{length-append}
use Rattle.std.proofs.lemmas.List.Concat.{flat_map-append}
use Rattle.std.proofs.lemmas.List.Elements.{filter_map-append}
use Rattle.std.specs.List.{cons_option, filter_map, flat_map, range_with_len}
use Rattle.std.specs.Option.{option_map}
use Rattle.dtvcc_windows.specs.Showing.{ShownWindow}
use Rattle.grid_print.specs.WindowTexts.{window_text}
use Rattle.grid_print.proofs.RunLemmas.{range_push}

-- a window that is shown, with its id
abbrev pub with_id : ℕ → Option ShownWindow → Option (ℕ × ShownWindow)
with_id id window = option_map (λ window. (id, window)) window

-- those below an id
abbrev pub shown_below : (ℕ → Option ShownWindow) → ℕ → List (ℕ × ShownWindow)
shown_below windows n = filter_map (λ id. with_id id (windows id)) (range_with_len 0 n)

one_more : (windows : ℕ → Option ShownWindow) (n : ℕ) → shown_below windows (n + 1) ≡ shown_below windows n ++ cons_option (with_id n (windows n)) []
one_more windows n =
    ap (filter_map (λ id. with_id id (windows id))) (range_push 0 n) ∙ filter_map-append (λ id. with_id id (windows id)) (range_with_len 0 n) ((0 + n) ∷ [])
    ∙ ap (λ k. shown_below windows n ++ cons_option (with_id k (windows k)) []) (zero-add n)

-- one more is counted where it is shown
length_one : (n : ℕ) (o : Option ShownWindow) → length (cons_option (with_id n o) []) ≡ (if is_some o then 1 else 0)
length_one n None = refl
length_one n (Some window) = refl

pub count_more : (windows : ℕ → Option ShownWindow) (n : ℕ)
    → length (shown_below windows n) + (if is_some (windows n) then 1 else 0) ≡ length (shown_below windows (n + 1))
count_more windows n =
    ap (λ k. length (shown_below windows n) + k) (sym (length_one n (windows n)))
    ∙ sym (length-append (shown_below windows n) (cons_option (with_id n (windows n)) [])) ∙ ap length (sym (one_more windows n))

-- the texts of those below an id
abbrev pub texts_below : (ℕ → Option ShownWindow) → ℕ → List ℕ
texts_below windows n = flat_map (λ one. window_text one.0 one.1) (shown_below windows n)

pub text_more : (windows : ℕ → Option ShownWindow) (n : ℕ) (window : ShownWindow) → windows n ≡ Some window
    → texts_below windows n ++ window_text n window ≡ texts_below windows (n + 1)
text_more windows n window is =
    ap (λ t. texts_below windows n ++ t) (sym (append-nil (window_text n window)))
    ∙ sym (flat_map-append (λ (one : ℕ × ShownWindow). window_text one.0 one.1) (shown_below windows n) ((n, window) ∷ []))
    ∙ ap (λ o. flat_map (λ (one : ℕ × ShownWindow). window_text one.0 one.1) (shown_below windows n ++ cons_option (with_id n o) [])) (sym is)
    ∙ ap (flat_map (λ (one : ℕ × ShownWindow). window_text one.0 one.1)) (sym (one_more windows n))

pub text_still : (windows : ℕ → Option ShownWindow) (n : ℕ) → windows n ≡ None → texts_below windows n ≡ texts_below windows (n + 1)
text_still windows n none =
    ap (flat_map (λ (one : ℕ × ShownWindow). window_text one.0 one.1))
    (sym (append-nil (shown_below windows n)) ∙ ap (λ o. shown_below windows n ++ cons_option (with_id n o) []) (sym none) ∙ sym (one_more windows n))
