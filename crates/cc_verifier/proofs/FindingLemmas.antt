-- What is found at a frame after others: the first of what is tried, and frames at which nothing is found.
use Rattle.std.proofs.Common.{◌≡◌, ◌≢◌, ◌∙◌, ℕ, ◌+◌, ◌%◌, ◌≤◌, ◌++◌, true, false, List, [], ◌∷◌, length, ap, arith, inl, inr, refl, rules, subst, sym}
use Rattle.std.proofs.lemmas.Bool.{cases_lt}
use Rattle.std.specs.Prelude.{◌⊎◌, None, Option, Some}
use Rattle.std.specs.Bool.{Decides}
use Rattle.cc_base.specs.Rate.{triplets_in_frame}
use Rattle.cc_base.specs.contracts.rate.Rate.{the_type}
use Rattle.cc_base.specs.declared.rate.Rate.{Rate}
use denote.Enum.Bare.{sameb, same_true, true_same}
use Rattle.cc_receiver.specs.ReceivedServices.{fills_in, received_windows}
use Rattle.cdp_packets.specs.Packets.{Frame}
use Rattle.cdp_packets.specs.PacketTriplets.{packet_triplets}
use Rattle.cue_types.specs.Lane.{channel_number}
use Rattle.cue_types.specs.Listing.{Listing}
use Rattle.dtvcc_services.specs.Numbers.{IsLowest, IsService}
use Rattle.findings.specs.First.{IsFirstTried}
use Rattle.findings.specs.declared.finding.Kind45.{Kind45}
use Rattle.findings.specs.declared.finding.Kind45.TheVariants as kind
use Rattle.findings.specs.declared.finding.Which.TheVariants as which
use Rattle.line21_codes.specs.declared.channels.Chan.{Chan}
use Rattle.line21_codes.specs.declared.channels.Chan.TheVariants as chan
use Rattle.cc_verifier.specs.Channels.{IsFirstOther}
use Rattle.cc_verifier.specs.Differing.{ShowsOtherWindow}
use Rattle.cc_verifier.specs.Services.{IsFirstOtherService}
use Rattle.words_files.specs.Received.{received_grids}
use Rattle.cc_verifier.specs.Findings.{AreClean, FirstFinding, IsClean, IsFound, Jumps, Miscounts, Tried, place_of}
use Rattle.cc_verifier.specs.Verifiers.{IsLastCounter}

-- a list with an item isn't empty
no_end : (ys : List Frame) (y : Frame) (zs : List Frame) → [] ≡ ys ++ y ∷ zs → ⊥
no_end [] y zs e = cc
no_end (b ∷ ys) y zs e = cc

-- an item of a list with a last item is that one, or stands before it
pub record StandsBefore (xs : List Frame) (x : Frame) (ys : List Frame) (y : Frame) (zs : List Frame) : Type 0 where
  pub behind : List Frame
  pub is : xs ≡ ys ++ y ∷ behind
  pub rest : zs ≡ behind ++ x ∷ []

split_last : (xs : List Frame) (x : Frame) (ys : List Frame) (y : Frame) (zs : List Frame) → xs ++ x ∷ [] ≡ ys ++ y ∷ zs
    → ((xs ≡ ys) × (x ≡ y)) ⊎ StandsBefore xs x ys y zs
split_last [] x [] y zs e = let h : x ≡ y = cc in inl (refl, h)
split_last [] x (b ∷ ys) y zs e = let h : [] ≡ ys ++ y ∷ zs = cc in absurd (no_end ys y zs h)
split_last (a ∷ xs) x [] y zs e =
    let h : a ≡ y = cc in
    let k : xs ++ x ∷ [] ≡ zs = cc in
    inr (record { behind = xs; is = ap (λ (f : Frame). f ∷ xs) h; rest = sym k })
split_last (a ∷ xs) x (b ∷ ys) y zs e =
    let h : a ≡ b = cc in
    let k : xs ++ x ∷ [] ≡ ys ++ y ∷ zs = cc in
    elim (split_last xs x ys y zs k) [
      | inl same ↦ let p = same.0 in let q : a ∷ xs ≡ b ∷ ys = cc in inl (q, same.1)
      | inr s ↦ let p = s.is in let q : a ∷ xs ≡ b ∷ (ys ++ y ∷ s.behind) = cc in inr (record { behind = s.behind; is = q; rest = s.rest })
    ]

-- two lists with a last item that are one have the same last item
last_same : (xs : List Frame) (x : Frame) (ys : List Frame) (y : Frame) → xs ++ x ∷ [] ≡ ys ++ y ∷ [] → x ≡ y
last_same xs x ys y e = elim (split_last xs x ys y [] e) [ inl same ↦ same.1 | inr s ↦ absurd (no_end s.behind x [] s.rest) ]

-- frames at which nothing is found, and one more
pub clean_none : (list : Listing) → AreClean list []
clean_none list = λ earlier last later split. absurd (no_end earlier last later split)

pub clean_more : (list : Listing) (earlier : List Frame) (last : Frame) → AreClean list earlier → IsClean list earlier last
    → AreClean list (earlier ++ last ∷ [])
clean_more list earlier last clean now = λ e l later split. elim (split_last earlier last e l later split) [
  | inl same ↦ subst (λ (x : List Frame). IsClean list x l) same.0 (subst (λ (y : Frame). IsClean list earlier y) same.1 now)
  | inr s ↦ clean e l s.behind s.is
]

-- what is found at the last of frames is their first finding, where nothing is found before
pub first_of_last : (list : Listing) (earlier : List Frame) (last : Frame) (frame : ℕ) (found : Kind45) → AreClean list earlier
    → IsFirstTried (IsFound list earlier last) place_of found → frame ≡ length earlier → FirstFinding list (earlier ++ last ∷ []) (record { frame = frame; kind = found })
first_of_last list earlier last frame found clean first is =
    record { earlier = earlier; last = last; later = []; split = refl; frame_is = is; clean = clean; first = first }

pub goes_on : (earlier : List Frame) (last : Frame) (counter : Option ℕ) (k : ℕ) → IsLastCounter earlier counter → counter ≡ Some k
    → last.counter ≡ (k + 1) % 65536 → (expected seen : ℕ) → Jumps earlier last expected seen → ⊥
goes_on earlier last counter k was some next expected seen jump =
    let (before, (former, came, is)) = subst (IsLastCounter earlier) some was in
    let same : former ≡ jump.former = last_same before former jump.before jump.former (sym came ∙ jump.came) in
    jump.others (jump.seen_is ∙ next ∙ ap (λ n. (n + 1) % 65536) (is ∙ ap (λ (f : Frame). f.counter) same) ∙ sym jump.expected_is)

pub jump_is : (earlier : List Frame) (last : Frame) (counter : Option ℕ) (k expected seen : ℕ) → IsLastCounter earlier counter → counter ≡ Some k
    → expected ≡ (k + 1) % 65536 → seen ≡ last.counter → seen ≢ expected → Jumps earlier last expected seen
jump_is earlier last counter k expected seen was some next is other =
    let (before, (former, came, at)) = subst (IsLastCounter earlier) some was in
    record {
      before = before;
      former = former;
      came = came;
      expected_is = next ∙ ap (λ n. (n + 1) % 65536) at;
      seen_is = is;
      others = other;
    }

-- the numbers of channels
number_from : (channel : Chan) → 1 ≤ channel_number channel
number_from chan.Cc1 = omega arith
number_from chan.Cc2 = omega arith
number_from chan.Cc3 = omega arith
number_from chan.Cc4 = omega arith

number_to : (channel : Chan) → channel_number channel ≤ 4
number_to chan.Cc1 = omega arith
number_to chan.Cc2 = omega arith
number_to chan.Cc3 = omega arith
number_to chan.Cc4 = omega arith

-- what is found first of what a packet says
pub jump_first : (list : Listing) (earlier : List Frame) (last : Frame) (expected seen : ℕ) → Jumps earlier last expected seen
    → Tried 1 list earlier last (Some (kind.CounterJump expected seen))
jump_first list earlier last expected seen jump = record { holds = jump; first = λ other found. omega arith }

-- the counter goes on
pub tried_one : (list : Listing) (earlier : List Frame) (last : Frame) → ((e s : ℕ) → Jumps earlier last e s → ⊥) → Tried 1 list earlier last None
tried_one list earlier last no_jump (kind.CounterJump e s) found = absurd (no_jump e s found)
tried_one list earlier last no_jump (kind.WrongCount e s) found = omega arith
tried_one list earlier last no_jump (kind.WrongRate e s) found = omega arith
tried_one list earlier last no_jump (kind.BufferFull service) found = omega arith
tried_one list earlier last no_jump (kind.GridDiffers (which.Chan channel)) found = omega arith
tried_one list earlier last no_jump (kind.GridDiffers (which.Service service)) found = omega arith
tried_one list earlier last no_jump (kind.TwoPairs n) found = absurd found
tried_one list earlier last no_jump kind.EightBits found = absurd found

-- a first finding of what was tried before a place stays one
pub count_first : (list : Listing) (earlier : List Frame) (last : Frame) (expected seen : ℕ) → Tried 1 list earlier last None
    → Miscounts last expected seen → IsFirstTried (IsFound list earlier last) place_of (kind.WrongCount expected seen)
count_first list earlier last expected seen tried counts = record { holds = counts; first = tried }

pub tried_two : (list : Listing) (earlier : List Frame) (last : Frame) → Tried 1 list earlier last None → length (packet_triplets last) ≡ triplets_in_frame last.rate
    → Tried 2 list earlier last None
tried_two list earlier last tried same (kind.CounterJump e s) found = let h : 1 ≤ 0 = tried (kind.CounterJump e s) found in absurd (omega arith)
tried_two list earlier last tried same (kind.WrongCount e s) found = absurd (found.others (found.seen_is ∙ same ∙ sym found.expected_is))
tried_two list earlier last tried same (kind.WrongRate e s) found = omega arith
tried_two list earlier last tried same (kind.BufferFull service) found = omega arith
tried_two list earlier last tried same (kind.GridDiffers (which.Chan channel)) found = omega arith
tried_two list earlier last tried same (kind.GridDiffers (which.Service service)) found = omega arith
tried_two list earlier last tried same (kind.TwoPairs n) found = absurd found
tried_two list earlier last tried same kind.EightBits found = absurd found

pub rate_first : (list : Listing) (earlier : List Frame) (last : Frame) (expected seen : Rate) → Tried 2 list earlier last None → expected ≡ list.rate
    → seen ≡ last.rate → seen ≢ expected → IsFirstTried (IsFound list earlier last) place_of (kind.WrongRate expected seen)
rate_first list earlier last expected seen tried own is other = record { holds = (own, is, other); first = tried }

-- the code's test of rates
pub Decides-rate : (a b : Rate) → Decides (sameb the_type a b) (a ≡ b)
Decides-rate a b = (same_true the_type (search rules) a b, true_same the_type a b)

pub tried_three : (list : Listing) (earlier : List Frame) (last : Frame) → Tried 2 list earlier last None → last.rate ≡ list.rate → Tried 3 list earlier last None
tried_three list earlier last tried rate (kind.CounterJump e s) found = let h : 2 ≤ 0 = tried (kind.CounterJump e s) found in absurd (omega arith)
tried_three list earlier last tried rate (kind.WrongCount e s) found = let h : 2 ≤ 1 = tried (kind.WrongCount e s) found in absurd (omega arith)
tried_three list earlier last tried rate (kind.WrongRate e s) found = absurd (found.2 (found.1 ∙ rate ∙ sym found.0))
tried_three list earlier last tried rate (kind.BufferFull service) found = let from = found.0.from in omega arith
tried_three list earlier last tried rate (kind.GridDiffers (which.Chan channel)) found = omega arith
tried_three list earlier last tried rate (kind.GridDiffers (which.Service service)) found = omega arith
tried_three list earlier last tried rate (kind.TwoPairs n) found = absurd found
tried_three list earlier last tried rate kind.EightBits found = absurd found

-- the lowest service whose buffer was filled
pub filled_first : (list : Listing) (earlier : List Frame) (last : Frame) (service : ℕ) → Tried 3 list earlier last None
    → IsLowest (fills_in earlier last) (Some service) → IsFirstTried (IsFound list earlier last) place_of (kind.BufferFull service)
filled_first list earlier last service tried lowest = record { holds = (lowest.is, lowest.holds); first = first }
  where
    none_lower : (other : ℕ) → IsService other → fills_in earlier last other ≡ true → service ≤ other
    none_lower other is fills = elim (cases_lt other service) [
      | inl less ↦ let no = lowest.below other is.from less in absurd (let e : true ≡ false = sym fills ∙ no in cc)
      | inr more ↦ more
    ]

    first : (other : Kind45) → IsFound list earlier last other → 2 + service ≤ place_of other
    first (kind.CounterJump e s) found = let h : 3 ≤ 0 = tried (kind.CounterJump e s) found in absurd (omega arith)
    first (kind.WrongCount e s) found = let h : 3 ≤ 1 = tried (kind.WrongCount e s) found in absurd (omega arith)
    first (kind.WrongRate e s) found = let h : 3 ≤ 2 = tried (kind.WrongRate e s) found in absurd (omega arith)
    first (kind.BufferFull other) found = let h = none_lower other found.0 found.1 in omega arith
    first (kind.GridDiffers (which.Chan channel)) found = let to = lowest.is.to in omega arith
    first (kind.GridDiffers (which.Service other)) found = let to = lowest.is.to in omega arith
    first (kind.TwoPairs n) found = absurd found
    first kind.EightBits found = absurd found

pub tried_buffers : (list : Listing) (earlier : List Frame) (last : Frame) → Tried 3 list earlier last None → IsLowest (fills_in earlier last) None
    → Tried 66 list earlier last None
tried_buffers list earlier last tried none (kind.CounterJump e s) found = let h : 3 ≤ 0 = tried (kind.CounterJump e s) found in absurd (omega arith)
tried_buffers list earlier last tried none (kind.WrongCount e s) found = let h : 3 ≤ 1 = tried (kind.WrongCount e s) found in absurd (omega arith)
tried_buffers list earlier last tried none (kind.WrongRate e s) found = let h : 3 ≤ 2 = tried (kind.WrongRate e s) found in absurd (omega arith)
tried_buffers list earlier last tried none (kind.BufferFull service) found = absurd (let e : true ≡ false = sym (found.1) ∙ none service found.0 in cc)
tried_buffers list earlier last tried none (kind.GridDiffers (which.Chan channel)) found = let h = number_from channel in omega arith
tried_buffers list earlier last tried none (kind.GridDiffers (which.Service service)) found = omega arith
tried_buffers list earlier last tried none (kind.TwoPairs n) found = absurd found
tried_buffers list earlier last tried none kind.EightBits found = absurd found

-- the first channel that shows another grid
pub screen_first : (list : Listing) (earlier : List Frame) (last : Frame) (channel : Chan) → Tried 66 list earlier last None
    → IsFirstOther list.cues (length earlier) (received_grids (earlier ++ last ∷ [])) (Some channel)
    → IsFirstTried (IsFound list earlier last) place_of (kind.GridDiffers (which.Chan channel))
screen_first list earlier last channel tried is = record { holds = is.shows; first = first }
  where
    first : (other : Kind45) → IsFound list earlier last other → 65 + channel_number channel ≤ place_of other
    first (kind.CounterJump e s) found = let h : 66 ≤ 0 = tried (kind.CounterJump e s) found in absurd (omega arith)
    first (kind.WrongCount e s) found = let h : 66 ≤ 1 = tried (kind.WrongCount e s) found in absurd (omega arith)
    first (kind.WrongRate e s) found = let h : 66 ≤ 2 = tried (kind.WrongRate e s) found in absurd (omega arith)
    first (kind.BufferFull other) found = let h : 66 ≤ 2 + other = tried (kind.BufferFull other) found in let to = found.0.to in absurd (omega arith)
    first (kind.GridDiffers (which.Chan other)) found = let h = is.first other found in omega arith
    first (kind.GridDiffers (which.Service service)) found = let h = number_to channel in let from = found.0.from in omega arith
    first (kind.TwoPairs n) found = absurd found
    first kind.EightBits found = absurd found

pub tried_screens : (list : Listing) (earlier : List Frame) (last : Frame) → Tried 66 list earlier last None
    → IsFirstOther list.cues (length earlier) (received_grids (earlier ++ last ∷ [])) None → Tried 70 list earlier last None
tried_screens list earlier last tried none (kind.CounterJump e s) found = let h : 66 ≤ 0 = tried (kind.CounterJump e s) found in absurd (omega arith)
tried_screens list earlier last tried none (kind.WrongCount e s) found = let h : 66 ≤ 1 = tried (kind.WrongCount e s) found in absurd (omega arith)
tried_screens list earlier last tried none (kind.WrongRate e s) found = let h : 66 ≤ 2 = tried (kind.WrongRate e s) found in absurd (omega arith)
tried_screens list earlier last tried none (kind.BufferFull other) found = let h : 66 ≤ 2 + other = tried (kind.BufferFull other) found in let to = found.0.to in absurd (omega arith)
tried_screens list earlier last tried none (kind.GridDiffers (which.Chan channel)) found = absurd (none channel found)
tried_screens list earlier last tried none (kind.GridDiffers (which.Service service)) found = let from = found.0.from in omega arith
tried_screens list earlier last tried none (kind.TwoPairs n) found = absurd found
tried_screens list earlier last tried none kind.EightBits found = absurd found

-- the first service of which a window is seen otherwise
pub service_first : (list : Listing) (earlier : List Frame) (last : Frame) (service : ℕ) → Tried 70 list earlier last None
    → IsFirstOtherService list.cues (length earlier) (received_windows (earlier ++ last ∷ [])) (Some service)
    → IsFirstTried (IsFound list earlier last) place_of (kind.GridDiffers (which.Service service))
service_first list earlier last service tried is = record { holds = (is.is, is.shows); first = first }
  where
    none_lower : (other : ℕ) → IsService other → ShowsOtherWindow list.cues (length earlier) (received_windows (earlier ++ last ∷ [])) other → service ≤ other
    none_lower other number shows = elim (cases_lt other service) [
      | inl less ↦ absurd (shows.other (is.first other number.from less shows.id shows.id_to))
      | inr more ↦ more
    ]

    first : (other : Kind45) → IsFound list earlier last other → 69 + service ≤ place_of other
    first (kind.CounterJump e s) found = let h : 70 ≤ 0 = tried (kind.CounterJump e s) found in absurd (omega arith)
    first (kind.WrongCount e s) found = let h : 70 ≤ 1 = tried (kind.WrongCount e s) found in absurd (omega arith)
    first (kind.WrongRate e s) found = let h : 70 ≤ 2 = tried (kind.WrongRate e s) found in absurd (omega arith)
    first (kind.BufferFull other) found = let h : 70 ≤ 2 + other = tried (kind.BufferFull other) found in let to = found.0.to in absurd (omega arith)
    first (kind.GridDiffers (which.Chan channel)) found = let h : 70 ≤ 65 + channel_number channel = tried (kind.GridDiffers (which.Chan channel)) found in let to = number_to channel in absurd (omega arith)
    first (kind.GridDiffers (which.Service other)) found = let h = none_lower other found.0 found.1 in omega arith
    first (kind.TwoPairs n) found = absurd found
    first kind.EightBits found = absurd found

-- nothing is found where nothing of all that is tried is
pub clean_services : (list : Listing) (earlier : List Frame) (last : Frame) → Tried 70 list earlier last None
    → IsFirstOtherService list.cues (length earlier) (received_windows (earlier ++ last ∷ [])) None → IsClean list earlier last
clean_services list earlier last tried none (kind.CounterJump e s) found = let h : 70 ≤ 0 = tried (kind.CounterJump e s) found in absurd (omega arith)
clean_services list earlier last tried none (kind.WrongCount e s) found = let h : 70 ≤ 1 = tried (kind.WrongCount e s) found in absurd (omega arith)
clean_services list earlier last tried none (kind.WrongRate e s) found = let h : 70 ≤ 2 = tried (kind.WrongRate e s) found in absurd (omega arith)
clean_services list earlier last tried none (kind.BufferFull other) found = let h : 70 ≤ 2 + other = tried (kind.BufferFull other) found in let to = found.0.to in absurd (omega arith)
clean_services list earlier last tried none (kind.GridDiffers (which.Chan channel)) found = let h : 70 ≤ 65 + channel_number channel = tried (kind.GridDiffers (which.Chan channel)) found in let to = number_to channel in absurd (omega arith)
clean_services list earlier last tried none (kind.GridDiffers (which.Service service)) found = found.1.other (none service found.0 found.1.id found.1.id_to)
clean_services list earlier last tried none (kind.TwoPairs n) found = found
clean_services list earlier last tried none kind.EightBits found = found
