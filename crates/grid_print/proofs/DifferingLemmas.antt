-- Which channels and services differ, and their bits.
use Rattle.std.proofs.Common.{◌≡◌, ◌<◌, ◌≤◌, ◌+◌, ◌-◌, ◌∙◌, if◌then◌else◌, ℕ, zero, suc, Bool, false, ap, sym, refl, arith}
use Rattle.std.proofs.Math.Path.{fun_ext}
use Rattle.std.proofs.lemmas.List.Sums.{sum_by_push, sum_by-cons}
use Rattle.std.specs.List.{list_any, range_with_len, sum_by}
use Rattle.dtvcc_windows.specs.Showing.{ShownWindow}
use Rattle.std.specs.Prelude.{Option, List}
use Rattle.line21_codes.specs.declared.channels.Chan.{Chan}
use Rattle.line21_screen.specs.Differences.{grid_differs}
use Rattle.line21_screen.specs.Grid.{Grid}
use Rattle.grid_print.specs.Changed.{bits, service_bit}
use Rattle.grid_print.specs.Differing.{TellsChannels, differs_on}
use Rattle.grid_print.specs.GridTexts.{all_services, channels, service_differs}
use Rattle.grid_print.specs.Kept.{KeepsServices, changed_at, seen_at}
use Rattle.grid_print.specs.declared.differing.Differing.{Differing}
use Rattle.grid_print.specs.declared.kept.Kept.{Kept}
use Rattle.grid_print.proofs.RunLemmas.{range_push}
use Rattle.grid_print.proofs.ScreenLemmas.{channels_differ}

-- what is told of the channels
told_are : (old new : Chan → Grid) (told : Differing) → TellsChannels old new told → differs_on told ≡ (λ chan. grid_differs (old chan) (new chan))
told_are old new told tells = fun_ext (λ chan. (tells chan).differs)

-- some channel differs just where one is told to
pub some_differ : (old new : Chan → Grid) (told : Differing) (some : Bool) → TellsChannels old new told → some ≡ list_any (differs_on told) channels
    → some ≡ channels_differ old new
some_differ old new told some tells is = is ∙ ap (λ t. list_any t channels) (told_are old new told tells)

-- where none is told to, all are the same
pub none_differ : (old new : Chan → Grid) (told : Differing) → TellsChannels old new told → ((chan : Chan) → differs_on told chan ≡ false) → old ≡ new
none_differ old new told tells none = fun_ext (λ chan. (tells chan).same (none chan))

-- the bits of those that are told to
pub channels_told : (old new : Chan → Grid) (told : Differing) (bit : Chan → ℕ) → TellsChannels old new told
    → bits (differs_on told) bit channels ≡ bits (λ chan. grid_differs (old chan) (new chan)) bit channels
channels_told old new told bit tells = ap (λ t. bits t bit channels) (told_are old new told tells)

-- one service more
pub bits_more : (changed : ℕ → Bool) (bit : ℕ → ℕ) (n : ℕ)
    → bits changed bit (range_with_len 1 (n + 1)) ≡ bits changed bit (range_with_len 1 n) + (if changed (n + 1) then bit (n + 1) else 0)
bits_more changed bit n =
    let f : ℕ → ℕ = λ one. if changed one then bit one else 0 in
    let next : 1 + n ≡ n + 1 = omega arith in
    ap (sum_by f) (range_push 1 n) ∙ sum_by_push f (range_with_len 1 n) (1 + n) ∙ ap (λ k. bits changed bit (range_with_len 1 n) + f k) next

pub bits_next : (test : ℕ → Bool) (place so_far all : ℕ) (changed : Bool) → so_far ≡ bits test service_bit (range_with_len 1 place) → test (place + 1) ≡ changed
    → all ≡ so_far + (if changed then service_bit (place + 1) else 0) → all ≡ bits test service_bit (range_with_len 1 (place + 1))
bits_next test place so_far all changed far is_changed is_all =
    is_all ∙ ap (λ n. n + (if changed then service_bit (place + 1) else 0)) far
    ∙ ap (λ (b : Bool). bits test service_bit (range_with_len 1 place) + (if b then service_bit (place + 1) else 0)) (sym is_changed)
    ∙ sym (bits_more test service_bit place)

-- the same of each
pub bits_same : (f g : ℕ → Bool) (bit : ℕ → ℕ) (a n : ℕ) → ((k : ℕ) → a ≤ k → k < a + n → f k ≡ g k) → bits f bit (range_with_len a n) ≡ bits g bit (range_with_len a n)
bits_same f g bit a zero same = refl
bits_same f g bit a (suc n) same =
    let one : (ℕ → Bool) → ℕ → ℕ = λ t k. if t k then bit k else 0 in
    sum_by-cons (one f) a (range_with_len (a + 1) n)
    ∙ ap (λ (b : Bool). (if b then bit a else 0) + bits f bit (range_with_len (a + 1) n)) (same a (omega arith) (omega arith))
    ∙ ap (λ k. one g a + k) (bits_same f g bit (a + 1) n (λ k from to. same k (omega arith) (omega arith)))
    ∙ sym (sum_by-cons (one g) a (range_with_len (a + 1) n))

-- the bits of the services that are kept
pub services_told : (are : ℕ → ℕ → Option ShownWindow) (was now : List Kept) (told : Bool) → KeepsServices are 63 was now told
    → bits (λ service. changed_at now (service - 1)) service_bit all_services ≡ bits (λ service. service_differs (seen_at was (service - 1)) (are service)) service_bit all_services
services_told are was now told keeps =
    bits_same (λ service. changed_at now (service - 1)) (λ service. service_differs (seen_at was (service - 1)) (are service)) service_bit 1 63
    (λ service from to.
    let back : service - 1 + 1 ≡ service = omega (arith, from) in
    keeps.each (service - 1) (omega (arith, from, to)) ∙ ap (λ n. service_differs (seen_at was (service - 1)) (are n)) back)
