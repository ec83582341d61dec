-- The list of a load is in its form.
use Rattle.std.proofs.Common.{◌≡◌, ℕ, zero, suc, ◌+◌, ◌*◌, ◌<◌, ◌≤◌, ◌%◌, List, [], ◌∷◌, map, Some, IsSome, All, refl, arith}
use Rattle.std.specs.List.{range_with_len}
use Rattle.std.proofs.lemmas.List.Elements.{All-cons, All-map, All-nil}
use Rattle.std.proofs.lemmas.List.FromFn.{length-map-range_with_len}
use Rattle.std.proofs.lemmas.List.Kept.{AllPairs-cons}
use Rattle.line21_codes.specs.Spellings.{spelling_of}
use Rattle.line21_codes.specs.declared.styles.Colour.{Colour}
use Rattle.dtvcc_codes.specs.CharacterSpellings.{dtvcc_spelling as dtv_spelling_of}
use Rattle.cue_types.specs.Cues.{IsCueFormed, IsOfKind}
use Rattle.cue_types.specs.Line21Cues.{IsLine21Run}
use Rattle.cue_types.specs.Listing.{IsFormed}
use Rattle.cue_types.specs.Shares.{IsShare}
use Rattle.cue_types.specs.declared.cue.Kind.{Kind}
use Rattle.cue_types.specs.declared.cue.Run.{Run}
use Rattle.cue_types.specs.Windows.{IsWindow, IsWindowRun}
use Rattle.cue_types.specs.declared.list.Share.{Share}
use Rattle.load_commands.specs.LoadList.{line21_run, load_cue, load_list, load_shown, load_text, load_window, most_load}
use Rattle.load_commands.proofs.LetterLemmas.{letter, letter_coded, letter_spelled}

-- how a caption is shown, and its one run
abbrev pub load_kind : ℕ → ℕ → Kind
load_kind k turn = (load_shown k turn).0

abbrev pub load_run : ℕ → ℕ → Run
load_run k turn = (load_shown k turn).1

-- what holds of each letter, holds of each of a text
of_each : (P : ℕ → Type 0) → ((n : ℕ) → P n) → (xs : List ℕ) → All P xs
of_each P each [] = All-nil P
of_each P each (x ∷ xs) = All-cons P x xs (each x) (of_each P each xs)

pub of_letters : (P : ℕ → Type 0) → ((n : ℕ) → P (letter n)) → (k : ℕ) → All P (load_text k)
of_letters P each k =
    All-map P (λ j. letter (7 * k + 5 * j)) (range_with_len 0 20) (of_each (λ j. P (letter (7 * k + 5 * j))) (λ j. each (7 * k + 5 * j)) (range_with_len 0 20))

one : {X : Type 0} (P : X → Type 0) (x : X) → P x → All P (x ∷ [])
one P x holds = All-cons P x [] holds (All-nil P)

run_formed : (row col k : ℕ) (colour : Colour) → 1 ≤ row → row ≤ 15 → col ≤ 12 → IsLine21Run (line21_run row col colour (load_text k))
run_formed row col k colour least most left = record {
  row = (least, most);
  col = omega arith;
  pen = λ italic. cc;
  some = omega arith;
  fits = omega arith;
  coded = of_letters (λ ch. IsSome (spelling_of ch)) letter_coded k;
  colors = refl;
}

below_8 : (k : ℕ) → k % 8 ≤ 7
below_8 k = omega arith

window_formed : (k : ℕ) → IsWindow (load_window k)
window_formed k = record {
  service = (omega arith, omega arith);
  id = below_8 k;
  delay = omega arith;
  anchor = omega arith;
  av = omega arith;
  ah = omega arith;
  rows = (omega arith, omega arith);
  cols = (omega arith, omega arith);
  priority = omega arith;
  ws = (omega arith, omega arith);
  ps = (omega arith, omega arith);
  attr = tt;
}

window_run_formed : (k : ℕ) → IsWindowRun (load_window k) (load_run k 1)
window_run_formed k = record {
  row = omega arith;
  col = omega arith;
  pen = tt;
  some = omega arith;
  fits = omega arith;
  coded = of_letters (λ ch. IsSome (dtv_spelling_of ch)) letter_spelled k;
  colors = tt;
}

kind_formed : (k turn : ℕ) → IsOfKind (load_kind k turn) (Some (90 * k + 150)) (load_run k turn ∷ [])
kind_formed k zero =
    (tt, refl, one IsLine21Run (load_run k 0) (run_formed 14 4 k _ (omega arith) (omega arith) (omega arith)))
kind_formed k (suc zero) = (window_formed k, refl, one (IsWindowRun (load_window k)) (load_run k 1) (window_run_formed k))
kind_formed k (suc (suc turn)) =
    (tt, refl, one IsLine21Run (load_run k 2) (run_formed 15 8 k _ (omega arith) (omega arith) (omega arith)))

cue_formed : (k : ℕ) → k < most_load → IsCueFormed (load_cue k)
cue_formed k below = record {
  load = omega arith;
  show = omega arith;
  hide = omega arith;
  some = omega arith;
  kind = kind_formed k (k % 3);
}

pub cues_formed : (a n : ℕ) → a + n ≤ most_load → All IsCueFormed (map load_cue (range_with_len a n))
cues_formed a zero within = All-nil IsCueFormed
cues_formed a (suc n) within =
    All-cons IsCueFormed (load_cue a) (map load_cue (range_with_len (a + 1) n)) (cue_formed a (omega arith)) (cues_formed (a + 1) n (omega arith))

load_share : Share
load_share = record { service = 1; bytes = 31 }

pub list_formed : (count : ℕ) → 1 ≤ count → count ≤ most_load → IsFormed (load_list count)
unfolding load_share
list_formed count some within = record {
  rate = tt;
  some = omega arith;
  frames = omega arith;
  shares = record {
    each = one IsShare load_share (record { service = (omega arith, omega arith); bytes = (omega arith, omega arith) });
    once = AllPairs-cons (λ a b. a.service ≡ b.service → ⊥) load_share [] (All-nil _) (λ i j d less far. absurd (omega arith));
    fits = omega arith;
  };
  few = let e = length-map-range_with_len load_cue 0 count in omega (arith, e);
  cues = cues_formed 0 count (omega arith);
}
