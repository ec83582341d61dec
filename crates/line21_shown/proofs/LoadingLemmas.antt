-- Units that don't look at the displayed memory, beside the code that hides what is displayed.
use Rattle.std.proofs.Common.{◌≡◌, ℕ, zero, suc, ◌+◌, ◌-◌, ◌<◌, ◌≤◌, Bool, true, false, nat_lt, List, [], ◌∷◌, map, Option, Some, None, refl, sym, ap, ◌∙◌, subst, arith}
use Rattle.std.specs.Prelude.{⊤, ◌==◌, if◌then◌else◌}
use Rattle.std.specs.Option.{option_or}
use Rattle.std.proofs.lemmas.Bool.Decides.{nat_tests}
use Rattle.line21_codes.specs.declared.channels.FieldNumber.{FieldNumber}
use Rattle.line21_codes.specs.declared.codes.Code.{Code}
use Rattle.line21_codes.specs.declared.codes.Control.TheVariants.{Edm}
use Rattle.line21_codes.specs.Reading.{code_of}
use Rattle.line21_codes.specs.Writing.{pair_of_code}
use Rattle.line21_codes.proofs.CodeLemmas.{written-code_of}
use Rattle.frame_scheduler.specs.FirstChannel.{first_channel}
use Rattle.frame_scheduler.specs.Unit.{Unit}
use Rattle.line21_screen.specs.Channels.{ChannelState}
use Rattle.line21_screen.specs.Grid.{Grid, empty_grid}
use Rattle.frame_scheduler.specs.FieldChunk.{FieldChunk}
use Rattle.frame_scheduler.specs.LaneTimeline.{stands}
use Rattle.frame_scheduler.specs.Timeline.{Timeline, over}
use Rattle.line21_shown.specs.Doing.{does, does_all}
use Rattle.line21_shown.specs.Reading.{does_unit, acts}
use Rattle.line21_shown.proofs.BlindLemmas.{AreBlind, showing}

-- the code that a chunk's unit is read as
abbrev pub chunk_code : FieldChunk → Code
chunk_code chunk = code_of chunk.unit.pair

-- the codes of chunks
abbrev pub chunk_codes : List FieldChunk → List Code
chunk_codes chunks = map chunk_code chunks

-- the codes of the chunks that stand in frames below z
abbrev pub standing : List FieldChunk → List ℕ → ℕ → List Code
standing [] fs z = []
standing (chunk ∷ chunks) [] z = []
standing (chunk ∷ chunks) (f ∷ fs) z = if nat_lt f z then chunk_code chunk ∷ standing chunks fs z else []

-- the chunks stand one after the other from frame a on and before frame z, where the timeline e has nothing
abbrev pub StandBeside : Timeline → ℕ → ℕ → List FieldChunk → List ℕ → Type 0
StandBeside e a z [] [] = ⊤
StandBeside e a z [] (f ∷ fs) = ⊥
StandBeside e a z (chunk ∷ chunks) [] = ⊥
StandBeside e a z (chunk ∷ chunks) (f ∷ fs) = (a ≤ f) × (f < z) × (e f ≡ None) × StandBeside e (suc f) z chunks fs

-- the unit that hides what is displayed
abbrev pub erasing : FieldNumber → Unit
erasing in_field = record { pair = pair_of_code in_field (first_channel Edm); doubled = true }

-- the timeline that hides what is displayed at a HIDE
abbrev pub erases : FieldNumber → Option ℕ → Timeline
erases in_field None n = None
erases in_field (Some hide) n = if n == hide then Some (erasing in_field) else None

-- the HIDE is before frame n
abbrev pub is_before : Option ℕ → ℕ → Bool
is_before None n = false
is_before (Some hide) n = nat_lt hide n

-- what is displayed before frame n, where the grid was until its HIDE
abbrev pub until : Option ℕ → ℕ → Grid → Grid
until hide n g = if is_before hide n then empty_grid else g

-- what hides erases the displayed memory
erasing_does : (in_field : FieldNumber) (g : Grid) (s : ChannelState) → does_unit (Some (erasing in_field)) (showing g s) ≡ showing empty_grid s
erasing_does in_field g s = rw (written-code_of in_field (first_channel Edm) tt) refl

-- a frame of the timeline that hides
erases_step : (in_field : FieldNumber) (hide : Option ℕ) (n : ℕ) (g : Grid) (s : ChannelState)
    → does_unit (erases in_field hide n) (showing (until hide n g) s) ≡ showing (until hide (suc n) g) s
erases_step in_field None n g s = refl
erases_step in_field (Some hide) n g s = go (n == hide) refl
  where
    go : (b : Bool) → (n == hide) ≡ b → does_unit (erases in_field (Some hide) n) (showing (until (Some hide) n g) s) ≡ showing (until (Some hide) (suc n) g) s
    go true test =
        let past : nat_lt hide (suc n) ≡ true = grind (arith, nat_tests) in
        rw (test, past) (erasing_does in_field (until (Some hide) n g) s)
    go false test =
        let same : nat_lt hide (suc n) ≡ nat_lt hide n = later test in
        rw (test, same) refl
      where
        later : (n == hide) ≡ false → nat_lt hide (suc n) ≡ nat_lt hide n
        later test = by_test (nat_lt hide n) refl
          where
            by_test : (c : Bool) → nat_lt hide n ≡ c → nat_lt hide (suc n) ≡ nat_lt hide n
            by_test true c = let d : nat_lt hide (suc n) ≡ true = grind (arith, nat_tests) in d ∙ sym c
            by_test false c = let d : nat_lt hide (suc n) ≡ false = grind (arith, nat_tests) in d ∙ sym c

-- where nothing hides at a frame, the display stays
until_same : (in_field : FieldNumber) (hide : Option ℕ) (n : ℕ) (g : Grid) → erases in_field hide n ≡ None → until hide (suc n) g ≡ until hide n g
until_same in_field None n g none = refl
until_same in_field (Some hide) n g none = go (n == hide) refl
  where
    go : (b : Bool) → (n == hide) ≡ b → until (Some hide) (suc n) g ≡ until (Some hide) n g
    go true test = let wrong : Some (erasing in_field) ≡ None = rw test at none in cc
    go false test = by_test (nat_lt hide n) refl
      where
        by_test : (c : Bool) → nat_lt hide n ≡ c → until (Some hide) (suc n) g ≡ until (Some hide) n g
        by_test true c = let d : nat_lt hide (suc n) ≡ true = grind (arith, nat_tests) in rw (c, d) refl
        by_test false c = let d : nat_lt hide (suc n) ≡ false = grind (arith, nat_tests) in rw (c, d) refl

-- what stands first stands at its frame
stands_at : (chunk : FieldChunk) (chunks : List FieldChunk) (f : ℕ) (fs : List ℕ) (n : ℕ) (b : Bool) → (n == f) ≡ b
    → stands (chunk ∷ chunks) (f ∷ fs) n ≡ (if b then Some chunk.unit else stands chunks fs n)
stands_at chunk chunks f fs n b test = rw test refl

-- nothing stands before the first frame
pub stands_before : (e : Timeline) (a z n : ℕ) (chunks : List FieldChunk) (fs : List ℕ) → StandBeside e a z chunks fs → n < a → stands chunks fs n ≡ None
stands_before e a z n [] [] beside below = refl
stands_before e a z n [] (f ∷ fs) beside below = refl
stands_before e a z n (chunk ∷ chunks) [] beside below = refl
stands_before e a z n (chunk ∷ chunks) (f ∷ fs) beside below =
    let from : a ≤ f = beside.0 in
    let test : (n == f) ≡ false = grind (arith, nat_tests) in
    stands_at chunk chunks f fs n false test ∙ stands_before e (suc f) z n chunks fs beside.3 (omega arith)

-- none is standing before the first frame
none_standing : (e : Timeline) (a z : ℕ) (chunks : List FieldChunk) (fs : List ℕ) → StandBeside e a z chunks fs → standing chunks fs a ≡ []
none_standing e a z [] fs beside = refl
none_standing e a z (chunk ∷ chunks) [] beside = refl
none_standing e a z (chunk ∷ chunks) (f ∷ fs) beside =
    let from : a ≤ f = beside.0 in
    let test : nat_lt f a ≡ false = grind (arith, nat_tests) in rw test refl

-- before the last frame all are standing
pub all_standing : (e : Timeline) (a z : ℕ) (chunks : List FieldChunk) (fs : List ℕ) → StandBeside e a z chunks fs → standing chunks fs z ≡ chunk_codes chunks
all_standing e a z [] fs beside = refl
all_standing e a z (chunk ∷ chunks) [] beside = absurd beside
all_standing e a z (chunk ∷ chunks) (f ∷ fs) beside =
    let below : f < z = beside.1 in
    let test : nat_lt f z ≡ true = grind (arith, nat_tests) in
    rw test (ap (λ codes. chunk_code chunk ∷ codes) (all_standing e (suc f) z chunks fs beside.3))

-- the timeline of units beside what hides
abbrev Beside : FieldNumber → Option ℕ → List FieldChunk → List ℕ → Timeline
Beside in_field hide chunks fs = over (erases in_field hide) (stands chunks fs)

-- before each frame m up to z the units of the frames below it have acted on all but the displayed memory, and that is
-- what was displayed until its HIDE
loads_on : (in_field : FieldNumber) (t : Timeline) (hide : Option ℕ) (z : ℕ) (k a m : ℕ) → a + k ≡ m
    → (chunks : List FieldChunk) (fs : List ℕ) (g : Grid) (s : ChannelState)
    → ((n : ℕ) → a ≤ n → n < m → t n ≡ Beside in_field hide chunks fs n)
    → StandBeside (erases in_field hide) a z chunks fs
    → AreBlind (chunk_codes chunks) s
    → acts t a ≡ showing (until hide a g) s
    → acts t m ≡ showing (until hide m g) (does_all (standing chunks fs m) s)
loads_on in_field t hide z zero a m is chunks fs g s same beside blind state =
    let e : a ≡ m = omega arith in
    subst (λ n. acts t n ≡ showing (until hide n g) (does_all (standing chunks fs n) s)) e
    (state ∙ ap (λ codes. showing (until hide a g) (does_all codes s)) (sym (none_standing (erases in_field hide) a z chunks fs beside)))
loads_on in_field t hide z (suc k) a m is [] (f ∷ fs) g s same beside blind state = absurd beside
loads_on in_field t hide z (suc k) a m is (chunk ∷ chunks) [] g s same beside blind state = absurd beside
loads_on in_field t hide z (suc k) a m is [] [] g s same beside blind state =
    let now : t a ≡ option_or (erases in_field hide a) None = same a (omega arith) (omega arith) in
    let alone : option_or (erases in_field hide a) None ≡ erases in_field hide a = alone_is (erases in_field hide a) in
    let next : acts t (suc a) ≡ showing (until hide (suc a) g) s =
    ap (λ u. does_unit u (acts t a)) (now ∙ alone) ∙ ap (does_unit (erases in_field hide a)) state ∙ erases_step in_field hide a g s in
    loads_on in_field t hide z k (suc a) m (omega arith) [] [] g s (λ n from below. same n (omega arith) below) tt tt next
  where
    alone_is : (u : Option Unit) → option_or u None ≡ u
    alone_is None = refl
    alone_is (Some unit) = refl
loads_on in_field t hide z (suc k) a m is (chunk ∷ chunks) (f ∷ fs) g s same beside blind state = go (a == f) refl
    (λ next. loads_on in_field t hide z k (suc a) m (omega arith) (chunk ∷ chunks) (f ∷ fs) g s (λ n from below. same n (omega arith) below) next blind)
    (λ alike next. loads_on in_field t hide z k (suc a) m (omega arith) chunks fs g (does (chunk_code chunk) s) alike next blind.1)
  where
    e : Timeline
    e = erases in_field hide

    go : (b : Bool) → (a == f) ≡ b
        → (StandBeside e (suc a) z (chunk ∷ chunks) (f ∷ fs) → acts t (suc a) ≡ showing (until hide (suc a) g) s
        → acts t m ≡ showing (until hide m g) (does_all (standing (chunk ∷ chunks) (f ∷ fs) m) s))
        → (((n : ℕ) → suc a ≤ n → n < m → t n ≡ Beside in_field hide chunks fs n)
        → StandBeside e (suc a) z chunks fs → acts t (suc a) ≡ showing (until hide (suc a) g) (does (chunk_code chunk) s)
        → acts t m ≡ showing (until hide m g) (does_all (standing chunks fs m) (does (chunk_code chunk) s)))
        → acts t m ≡ showing (until hide m g) (does_all (standing (chunk ∷ chunks) (f ∷ fs) m) s)
    go true test idle acting =
        let here : a ≡ f = grind (arith, nat_tests) in
        let free : e a ≡ None = ap e here ∙ beside.2 in
        let at : stands (chunk ∷ chunks) (f ∷ fs) a ≡ Some chunk.unit = stands_at chunk chunks f fs a true test in
        let now : t a ≡ Some chunk.unit = same a (omega arith) (omega arith) ∙ ap (λ u. option_or u (stands (chunk ∷ chunks) (f ∷ fs) a)) free ∙ at in
        let next : acts t (suc a) ≡ showing (until hide (suc a) g) (does (chunk_code chunk) s) =
        ap (λ u. does_unit u (acts t a)) now ∙ ap (does (chunk_code chunk)) state ∙ blind.0 (until hide a g)
        ∙ ap (λ (shown : Grid). showing shown (does (chunk_code chunk) s)) (sym (until_same in_field hide a g free)) in
        let below : f < m = omega arith in
        let test_m : nat_lt f m ≡ true = grind (arith, nat_tests) in
        let rest : StandBeside e (suc a) z chunks fs = subst (λ n. StandBeside e (suc n) z chunks fs) (sym here) beside.3 in
        rw test_m (acting (λ n from under. same n (omega arith) under ∙ ap (option_or (e n)) (stands_at chunk chunks f fs n false (let other : (n == f) ≡ false = grind (arith, nat_tests) in other))) rest next)
    go false test idle acting =
        let from : a ≤ f = beside.0 in
        let later : suc a ≤ f = grind (arith, nat_tests) in
        let behind : StandBeside e (suc a) z (chunk ∷ chunks) (f ∷ fs) = (later, beside.1, beside.2, beside.3) in
        let none : stands (chunk ∷ chunks) (f ∷ fs) a ≡ None = stands_before e (suc a) z a (chunk ∷ chunks) (f ∷ fs) behind (omega arith) in
        let now : t a ≡ e a = same a (omega arith) (omega arith) ∙ ap (option_or (e a)) none ∙ alone_is (e a) in
        let next : acts t (suc a) ≡ showing (until hide (suc a) g) s =
        ap (λ u. does_unit u (acts t a)) now ∙ ap (does_unit (e a)) state ∙ erases_step in_field hide a g s in
        idle behind next
      where
        alone_is : (u : Option Unit) → option_or u None ≡ u
        alone_is None = refl
        alone_is (Some unit) = refl

-- the same up to a frame m
pub loads : (in_field : FieldNumber) (t : Timeline) (hide : Option ℕ) (a z m : ℕ) → a ≤ m
    → (chunks : List FieldChunk) (fs : List ℕ) (g : Grid) (s : ChannelState)
    → ((n : ℕ) → a ≤ n → n < m → t n ≡ Beside in_field hide chunks fs n)
    → StandBeside (erases in_field hide) a z chunks fs
    → AreBlind (chunk_codes chunks) s
    → acts t a ≡ showing (until hide a g) s
    → acts t m ≡ showing (until hide m g) (does_all (standing chunks fs m) s)
loads in_field t hide a z m up chunks fs g s same beside blind state =
    loads_on in_field t hide z (m - a) a m (omega arith) chunks fs g s same beside blind state

-- before each frame m up to z the units of the frames below it have acted, where nothing else begins
acts_on : (e t : Timeline) (z : ℕ) (k a m : ℕ) → a + k ≡ m → (chunks : List FieldChunk) (fs : List ℕ) (s : ChannelState)
    → ((n : ℕ) → a ≤ n → n < m → t n ≡ stands chunks fs n) → StandBeside e a z chunks fs → acts t a ≡ s
    → acts t m ≡ does_all (standing chunks fs m) s
acts_on e t z zero a m is chunks fs s same beside state =
    let here : a ≡ m = omega arith in
    subst (λ n. acts t n ≡ does_all (standing chunks fs n) s) here
    (state ∙ ap (λ codes. does_all codes s) (sym (none_standing e a z chunks fs beside)))
acts_on e t z (suc k) a m is [] (f ∷ fs) s same beside state = absurd beside
acts_on e t z (suc k) a m is (chunk ∷ chunks) [] s same beside state = absurd beside
acts_on e t z (suc k) a m is [] [] s same beside state =
    acts_on e t z k (suc a) m (omega arith) [] [] s (λ n from below. same n (omega arith) below) tt
    (ap (λ u. does_unit u (acts t a)) (same a (omega arith) (omega arith)) ∙ state)
acts_on e t z (suc k) a m is (chunk ∷ chunks) (f ∷ fs) s same beside state = go (a == f) refl
    (λ behind next. acts_on e t z k (suc a) m (omega arith) (chunk ∷ chunks) (f ∷ fs) s (λ n from below. same n (omega arith) below) behind next)
    (λ alike rest next. acts_on e t z k (suc a) m (omega arith) chunks fs (does (chunk_code chunk) s) alike rest next)
  where
    go : (b : Bool) → (a == f) ≡ b
        → (StandBeside e (suc a) z (chunk ∷ chunks) (f ∷ fs) → acts t (suc a) ≡ s → acts t m ≡ does_all (standing (chunk ∷ chunks) (f ∷ fs) m) s)
        → (((n : ℕ) → suc a ≤ n → n < m → t n ≡ stands chunks fs n) → StandBeside e (suc a) z chunks fs → acts t (suc a) ≡ does (chunk_code chunk) s
        → acts t m ≡ does_all (standing chunks fs m) (does (chunk_code chunk) s))
        → acts t m ≡ does_all (standing (chunk ∷ chunks) (f ∷ fs) m) s
    go true test idle acting =
        let here : a ≡ f = grind (arith, nat_tests) in
        let now : t a ≡ Some chunk.unit = same a (omega arith) (omega arith) ∙ stands_at chunk chunks f fs a true test in
        let next : acts t (suc a) ≡ does (chunk_code chunk) s = ap (λ u. does_unit u (acts t a)) now ∙ ap (does (chunk_code chunk)) state in
        let below : f < m = omega arith in
        let test_m : nat_lt f m ≡ true = grind (arith, nat_tests) in
        let rest : StandBeside e (suc a) z chunks fs = subst (λ n. StandBeside e (suc n) z chunks fs) (sym here) beside.3 in
        rw test_m (acting (λ n from under. same n (omega arith) under ∙ stands_at chunk chunks f fs n false (let other : (n == f) ≡ false = grind (arith, nat_tests) in other)) rest next)
    go false test idle acting =
        let from : a ≤ f = beside.0 in
        let later : suc a ≤ f = grind (arith, nat_tests) in
        let behind : StandBeside e (suc a) z (chunk ∷ chunks) (f ∷ fs) = (later, beside.1, beside.2, beside.3) in
        let none : stands (chunk ∷ chunks) (f ∷ fs) a ≡ None = stands_before e (suc a) z a (chunk ∷ chunks) (f ∷ fs) behind (omega arith) in
        idle behind (ap (λ u. does_unit u (acts t a)) (same a (omega arith) (omega arith) ∙ none) ∙ state)

-- the same for all of them
pub acts_alone : (e t : Timeline) (a z : ℕ) → a ≤ z → (chunks : List FieldChunk) (fs : List ℕ)
    → ((n : ℕ) → a ≤ n → n < z → t n ≡ stands chunks fs n) → StandBeside e a z chunks fs
    → acts t z ≡ does_all (chunk_codes chunks) (acts t a)
acts_alone e t a z up chunks fs same beside =
    acts_on e t z (z - a) a z (omega arith) chunks fs (acts t a) same beside refl
    ∙ ap (λ codes. does_all codes (acts t a)) (all_standing e a z chunks fs beside)
