-- At a frame nothing is found against a cue list, or something is found first.
use Rattle.std.proofs.Common.{◌≡◌, ◌∙◌, ◌+◌, ◌-◌, ◌%◌, ◌<◌, ◌≤◌, ◌==◌, ◌&&◌, ◌⊎◌, ◌++◌, ◌∷◌, ap, arith, false, inl, inr, length, refl, subst, sym, All, ℕ, List, [], Option, Some, None}
use Rattle.std.specs.Prelude.{find, nat_le, nat_lt}
use Rattle.std.specs.Option.{option_and_then}
use Rattle.std.proofs.lemmas.Bool.{and_left, and_right, cases_Bool, cases_eq, cases_lt, ne_eqb, true≢false}
use Rattle.std.proofs.lemmas.List.Elements.{All-cons, All-head, All-nil, All-tail}
use Rattle.cc_base.specs.Rate.{rate_code, rate_of, triplets_in_frame}
use Rattle.words_reading.specs.Events.{service_events}
use Rattle.words_reading.specs.Numbers.{IsService}
use Rattle.words_reading.specs.ReceivedServices.{fills_in, received_windows}
use Rattle.cc_verifier.specs.Differing.{ShowsOther, ShowsOtherWindow}
use Rattle.cc_verifier.specs.Findings.{IsClean, IsFound, Jumps, Miscounts, place_of}
use Rattle.cdp_packets.proofs.PacketLemmas.{rate_of-code}
use Rattle.cdp_packets.specs.PacketTriplets.{packet_triplets}
use Rattle.cdp_packets.specs.Packets.{Frame}
use Rattle.cue_lists.specs.AuthoredGrid.{IsSettledFor, authored_grid}
use Rattle.cue_lists.specs.AuthoredServiceGrid.{authored_windows, cell_at, cue_window, has_place, shows_in, written_cells}
use Rattle.cue_types.specs.Channels.{cues_on}
use Rattle.cue_types.specs.Lane.{channel_number, is_pop}
use Rattle.cue_types.specs.Listing.{Listing}
use Rattle.cue_types.specs.declared.cue.Cue.{Cue}
use Rattle.cue_types.specs.declared.cue.Kind.{Kind}
use Rattle.cue_types.specs.declared.cue.Kind.TheVariants as cue_kind
use Rattle.cue_types.specs.declared.cue.Run.{Run}
use Rattle.findings.specs.First.{IsFirstTried}
use Rattle.findings.specs.declared.finding.Kind45.{Kind45}
use Rattle.findings.specs.declared.finding.Kind45.TheVariants as kind
use Rattle.findings.specs.declared.finding.Which.TheVariants as which
use Rattle.line21_codes.specs.declared.channels.Chan.{Chan}
use Rattle.line21_codes.specs.declared.channels.Chan.TheVariants.{Cc1, Cc2, Cc3, Cc4}
use Rattle.line21_screen.proofs.DifferenceLemmas.{Decides-differs}
use Rattle.verify_commands.proofs.FoundLemmas.{last_once, within}
use Rattle.windows_decided.proofs.BoundLemmas.{HasBound, IsSeenBounded, events_bound, other_cell}
use Rattle.windows_decided.proofs.FirstLemmas.{decided_by, first_or_all}
use Rattle.windows_decided.proofs.SeenLemmas.{seen_decided}
use Rattle.windows_decided.specs.Decided.{Decided}
use Rattle.words_files.specs.Received.{received_grids}

-- what a cue list authors in windows stands in a bound
not_less : (m n : ℕ) → n ≤ m → nat_lt m n ≡ false
not_less m n most = grind (arith, most)

out_of_run : (run : Run) (row col : ℕ) → run.row + run.col + length run.text ≤ row + col → has_place run row col ≡ false
out_of_run run row col far = elim (cases_eq row run.row) [
  | inr other ↦ and_left (row == run.row) (nat_le run.col col && nat_lt col (run.col + length run.text)) (ne_eqb row run.row other)
  | inl same ↦
      and_right (row == run.row) (nat_le run.col col && nat_lt col (run.col + length run.text))
      (and_right (nat_le run.col col) (nat_lt col (run.col + length run.text)) (not_less col (run.col + length run.text) (omega (arith, far, same))))
]

written_bound : (style : ℕ) (runs : List Run) → HasBound (written_cells style runs)
written_bound style [] = (0, λ row col far. refl)
written_bound style (run ∷ runs) =
    let (n, past) = written_bound style runs in (
      n + (run.row + run.col + length run.text),
      λ row col far. other_cell (has_place run row col) (Some (cell_at style run col)) (written_cells style runs row col) (out_of_run run row col (omega (arith, far)))
          (past row col (omega (arith, far))),
    )

kind_bound : (of : Kind) (runs : List Run) → IsSeenBounded (cue_window of runs)
kind_bound (cue_kind.Pop channel) runs = tt
kind_bound (cue_kind.Paint channel) runs = tt
kind_bound (cue_kind.Roll channel rows) runs = tt
kind_bound (cue_kind.Win window) runs = written_bound window.ps runs

cue_bound : (found : Option Cue) → IsSeenBounded (option_and_then (λ (cue : Cue). cue_window cue.kind cue.runs) found)
cue_bound None = tt
cue_bound (Some cue) = kind_bound cue.kind cue.runs

-- so whether a service shows something else is decided
shows_window : (cues : List Cue) (frame : ℕ) (frames : List Frame) (service : ℕ) → Decided (ShowsOtherWindow cues frame (received_windows frames) service)
shows_window cues frame frames service =
    elim (first_or_all (λ id. received_windows frames service id ≡ authored_windows service cues frame id)
    (λ id. seen_decided _ _ (events_bound (service_events service frames) id) (cue_bound (find (shows_in service id frame) cues))) 8) [
      | inl all ↦ inr (λ shows. shows.other (all shows.id shows.id_to))
      | inr (id, small, other, before) ↦ inl (record { id = id; id_to = small; other = other })
    ]

-- and of a channel
settled_for : (frame : ℕ) (cue : Cue) → Decided (IsSettledFor frame cue)
settled_for frame cue = elim (cases_Bool (is_pop cue.kind)) [
  | inl pop ↦ inl (λ other loaded. absurd (true≢false (sym pop ∙ other)))
  | inr other ↦ elim (cases_lt frame cue.load) [
    | inl before ↦ inl (λ isnt loaded. absurd (omega (arith, before, loaded)))
    | inr loaded ↦ elim (cases_lt frame cue.show) [
      | inl writing ↦ inr (λ all. let shown = all other loaded in omega (arith, shown, writing))
      | inr shown ↦ inl (λ isnt again. shown)
    ]
  ]
]

all_settled : (frame : ℕ) (cues : List Cue) → Decided (All (IsSettledFor frame) cues)
all_settled frame [] = inl (All-nil (IsSettledFor frame))
all_settled frame (cue ∷ cues) = elim (settled_for frame cue) [
  | inr other ↦ inr (λ all. other (All-head (IsSettledFor frame) cue cues all))
  | inl is ↦ elim (all_settled frame cues) [
    | inl all ↦ inl (All-cons (IsSettledFor frame) cue cues is all)
    | inr others ↦ inr (λ all. others (All-tail (IsSettledFor frame) cue cues all))
  ]
]

shows_other : (cues : List Cue) (frame : ℕ) (frames : List Frame) (channel : Chan) → Decided (ShowsOther cues frame (received_grids frames) channel)
shows_other cues frame frames channel = elim (all_settled frame (cues_on channel cues)) [
  | inr unsettled ↦ inr (λ shows. unsettled shows.settled)
  | inl settled ↦
      elim (decided_by _ (Decides-differs (received_grids frames channel) (authored_grid channel cues frame))) [
        | inr same ↦ inr (λ shows. same shows.other)
        | inl other ↦ inl (record { settled = settled; other = other })
      ]
]

-- frames have a last one, or there are none
last_or_none : (frames : List Frame) → (frames ≡ []) ⊎ ((before : List Frame) × (former : Frame) × (frames ≡ before ++ former ∷ []))
last_or_none [] = inl refl
last_or_none (first ∷ frames) = elim (last_or_none frames) [
  | inl none ↦ inr ([], first, ap (λ (l : List Frame). first ∷ l) none)
  | inr (before, former, is) ↦ inr (first ∷ before, former, ap (λ (l : List Frame). first ∷ l) is)
]

not_empty : (before : List Frame) (former : Frame) → [] ≡ before ++ former ∷ [] → ⊥
not_empty [] former is = cc
not_empty (first ∷ before) former is = cc

-- the services of a place, where they stand from one place on
service_of : (from place : ℕ) → ((service : ℕ) × IsService service × (from + service ≡ place)) ⊎ ((service : ℕ) → IsService service → from + service ≡ place → ⊥)
service_of from place = elim (cases_lt place (from + 1)) [
  | inl low ↦ inr (λ service is at. let one = is.from in omega (arith, low, one, at))
  | inr least ↦ elim (cases_lt (from + 63) place) [
    | inl high ↦ inr (λ service is at. let most = is.to in omega (arith, high, most, at))
    | inr most ↦ inl (place - from, record { from = omega (arith, least); to = omega (arith, most) }, omega (arith, least))
  ]
]

module _ (list : Listing) (earlier : List Frame) (last : Frame) where
  -- something is found at this place of the order
  abbrev Found : ℕ → Type 0
  Found place = (found : Kind45) × IsFound list earlier last found × (place_of found ≡ place)

  -- what is found at its own place, or isn't, is found at a place, or isn't where that is its own
  at_place : {Q : Type 0} (own place : ℕ) → Found own ⊎ Q → Found place ⊎ (own ≡ place → Q)
  at_place own place decided = elim (cases_eq own place) [
    | inr other ↦ inr (λ at. absurd (other at))
    | inl at ↦ elim decided [ inl found ↦ inl (subst Found at found) | inr none ↦ inr (λ again. none) ]
  ]

  of_service : (Q : ℕ → Type 0) (from place : ℕ) → ((service : ℕ) → IsService service → Found (from + service) ⊎ Q service)
      → Found place ⊎ ((service : ℕ) → IsService service → from + service ≡ place → Q service)
  of_service Q from place decide = elim (service_of from place) [
    | inr none ↦ inr (λ service is at. absurd (none service is at))
    | inl (service, is, at) ↦ elim (decide service is) [
      | inl found ↦ inl (subst Found at found)
      | inr none ↦ inr (λ other also again. let same : service ≡ other = omega (arith, at, again) in subst Q same none)
    ]
  ]

  -- what isn't found
  abbrev NoJump : Type 0
  NoJump = (expected seen : ℕ) → Jumps earlier last expected seen → ⊥

  abbrev NoMiscount : Type 0
  NoMiscount = (expected seen : ℕ) → Miscounts last expected seen → ⊥

  abbrev Channel : Chan → Type 0
  Channel channel = ShowsOther list.cues (length earlier) (received_grids (earlier ++ last ∷ [])) channel

  abbrev Service : ℕ → Type 0
  Service service = ShowsOtherWindow list.cues (length earlier) (received_windows (earlier ++ last ∷ [])) service

  jump_after : (before : List Frame) (former : Frame) → earlier ≡ before ++ former ∷ [] → Found 0 ⊎ NoJump
  jump_after before former came = elim (cases_eq last.counter ((former.counter + 1) % 65536)) [
    | inr bad ↦ inl (
      kind.CounterJump ((former.counter + 1) % 65536) last.counter,
      record { before = before; former = former; came = came; expected_is = refl; seen_is = refl; others = bad },
      refl,
    )
    | inl good ↦ inr (λ expected seen jump.
        let same = last_once before jump.before former jump.former (sym came ∙ jump.came) in
        jump.others (jump.seen_is ∙ (good ∙ (ap (λ (f : Frame). (f.counter + 1) % 65536) same ∙ sym jump.expected_is))))
  ]

  jumps : Found 0 ⊎ NoJump
  jumps = elim (last_or_none earlier) [
    | inl none ↦ inr (λ expected seen jump. not_empty jump.before jump.former (sym none ∙ jump.came))
    | inr (before, former, came) ↦ jump_after before former came
  ]

  counts : Found 1 ⊎ NoMiscount
  counts = elim (cases_eq (length (packet_triplets last)) (triplets_in_frame last.rate)) [
    | inr bad ↦ inl (kind.WrongCount (triplets_in_frame last.rate) (length (packet_triplets last)), record { expected_is = refl; seen_is = refl; others = bad }, refl)
    | inl good ↦ inr (λ expected seen counted. counted.others (counted.seen_is ∙ (good ∙ sym counted.expected_is)))
  ]

  rates : Found 2 ⊎ (last.rate ≡ list.rate)
  rates = elim (cases_eq (rate_code last.rate) (rate_code list.rate)) [
    | inr bad ↦ inl (kind.WrongRate list.rate last.rate, (refl, refl, λ is. bad (ap rate_code is)), refl)
    | inl good ↦
        let both : Some last.rate ≡ Some list.rate = sym (rate_of-code last.rate) ∙ ap rate_of good ∙ rate_of-code list.rate in
        inr (let same : last.rate ≡ list.rate = cc in same)
  ]

  full : (service : ℕ) → IsService service → Found (2 + service) ⊎ (fills_in earlier last service ≡ false)
  full service is = elim (cases_Bool (fills_in earlier last service)) [
    | inl fills ↦ inl (kind.BufferFull service, (is, fills), refl)
    | inr not ↦ inr not
  ]

  channels : (channel : Chan) → Found (65 + channel_number channel) ⊎ (Channel channel → ⊥)
  channels channel = elim (shows_other list.cues (length earlier) (earlier ++ last ∷ []) channel) [
    | inl shows ↦ inl (kind.GridDiffers (which.Chan channel), shows, refl)
    | inr same ↦ inr same
  ]

  services : (service : ℕ) → IsService service → Found (69 + service) ⊎ (Service service → ⊥)
  services service is = elim (shows_window list.cues (length earlier) (earlier ++ last ∷ []) service) [
    | inl shows ↦ inl (kind.GridDiffers (which.Service service), (is, shows), refl)
    | inr same ↦ inr same
  ]

  abbrev SameChannel : ℕ → Chan → Type 0
  SameChannel place channel = 65 + channel_number channel ≡ place → Channel channel → ⊥

  each_channel : (place : ℕ) → SameChannel place Cc1 → SameChannel place Cc2 → SameChannel place Cc3 → SameChannel place Cc4 → (channel : Chan) → SameChannel place channel
  each_channel place one two three four Cc1 = one
  each_channel place one two three four Cc2 = two
  each_channel place one two three four Cc3 = three
  each_channel place one two three four Cc4 = four

  channel_at : (place : ℕ) (channel : Chan) → Found place ⊎ SameChannel place channel
  channel_at place channel = at_place (65 + channel_number channel) place (channels channel)

  channels_at : (place : ℕ) → Found place ⊎ ((channel : Chan) → SameChannel place channel)
  channels_at place = elim (channel_at place Cc1) [
    | inl found ↦ inl found
    | inr one ↦ elim (channel_at place Cc2) [
      | inl found ↦ inl found
      | inr two ↦ elim (channel_at place Cc3) [
        | inl found ↦ inl found
        | inr three ↦ elim (channel_at place Cc4) [
          | inl found ↦ inl found
          | inr four ↦ inr (each_channel place one two three four)
        ]
      ]
    ]
  ]

  -- nothing is found at a place where none of these is
  module _ (place : ℕ) (no_jump : 0 ≡ place → NoJump) (no_miscount : 1 ≡ place → NoMiscount) (good : 2 ≡ place → last.rate ≡ list.rate)
      (unfilled : (service : ℕ) → IsService service → 2 + service ≡ place → fills_in earlier last service ≡ false) (same : (channel : Chan) → SameChannel place channel)
      (same_windows : (service : ℕ) → IsService service → 69 + service ≡ place → Service service → ⊥) where
    none_at : (found : Kind45) → IsFound list earlier last found → place_of found ≡ place → ⊥
    none_at (kind.CounterJump expected seen) is at = no_jump at expected seen is
    none_at (kind.WrongCount expected seen) is at = no_miscount at expected seen is
    none_at (kind.WrongRate expected seen) is at = is.2 (is.1 ∙ (good at ∙ sym is.0))
    none_at (kind.BufferFull service) is at = true≢false (sym is.1 ∙ unfilled service is.0 at)
    none_at (kind.GridDiffers (which.Chan channel)) is at = same channel at is
    none_at (kind.GridDiffers (which.Service service)) is at = same_windows service is.0 at is.1
    none_at (kind.TwoPairs seen) is at = is
    none_at kind.EightBits is at = is

  -- so a place is decided
  found_at : (place : ℕ) → Decided (Found place)
  found_at place = elim (at_place 0 place jumps) [
    | inl found ↦ inl found
    | inr no_jump ↦ elim (at_place 1 place counts) [
      | inl found ↦ inl found
      | inr no_miscount ↦ elim (at_place 2 place rates) [
        | inl found ↦ inl found
        | inr good ↦ by_screens no_jump no_miscount good
      ]
    ]
  ]
    where
      by_screens : (0 ≡ place → NoJump) → (1 ≡ place → NoMiscount) → (2 ≡ place → last.rate ≡ list.rate) → Decided (Found place)
      by_screens no_jump no_miscount good = elim (of_service (λ service. fills_in earlier last service ≡ false) 2 place full) [
        | inl found ↦ inl found
        | inr unfilled ↦ elim (channels_at place) [
          | inl found ↦ inl found
          | inr same ↦ elim (of_service (λ service. Service service → ⊥) 69 place services) [
            | inl found ↦ inl found
            | inr windows ↦ inr (λ found. none_at place no_jump no_miscount good unfilled same windows found.0 found.1 found.2)
          ]
        ]
      ]

  -- all places are below 133
  place_small : (found : Kind45) → IsFound list earlier last found → place_of found < 133
  place_small (kind.CounterJump expected seen) is = omega arith
  place_small (kind.WrongCount expected seen) is = omega arith
  place_small (kind.WrongRate expected seen) is = omega arith
  place_small (kind.BufferFull service) is = let most = is.0.to in omega (arith, most)
  place_small (kind.GridDiffers (which.Chan channel)) is = let most = (within channel).1 in omega (arith, most)
  place_small (kind.GridDiffers (which.Service service)) is = let most = is.0.to in omega (arith, most)
  place_small (kind.TwoPairs seen) is = absurd is
  place_small kind.EightBits is = absurd is

  none_decided : (place : ℕ) → Decided (Found place → ⊥)
  none_decided place = elim (found_at place) [ inl found ↦ inr (λ none. none found) | inr none ↦ inl none ]

  first_of : (place : ℕ) → ((sooner : ℕ) → sooner < place → Found sooner → ⊥) → Found place
      → (found : Kind45) × IsFirstTried (IsFound list earlier last) place_of found
  first_of place before (found, is, at) = (
    found,
    record {
      holds = is;
      first = λ other held. elim (cases_lt (place_of other) (place_of found)) [
        | inr most ↦ most
        | inl sooner ↦ absurd (before (place_of other) (omega (arith, sooner, at)) (other, held, refl))
      ];
    },
  )

  pub clean_or_found : IsClean list earlier last ⊎ ((found : Kind45) × IsFirstTried (IsFound list earlier last) place_of found)
  clean_or_found = elim (first_or_all (λ place. Found place → ⊥) none_decided 133) [
    | inl none ↦ inl (λ found is. none (place_of found) (place_small found is) (found, is, refl))
    | inr (place, small, some, before) ↦ elim (found_at place) [
      | inl found ↦ inr (first_of place before found)
      | inr none ↦ absurd (some none)
    ]
  ]
