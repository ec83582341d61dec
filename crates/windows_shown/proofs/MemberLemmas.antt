-- The captions of a list by what the rules ask of any two of them, and by the windows that a frame's events name.
use Rattle.std.proofs.Common.{◌≡◌, ◌∙◌, ℕ, ◌<◌, ◌≤◌, ◌⊎◌, inl, inr, ◌==◌, ◌&&◌, ◌||◌, not, Bool, true, false, if◌then◌else◌, List, [], ◌∷◌, Option, Some, None, refl, sym, ap, subst, arith}
use Rattle.std.specs.List.{AllByRecursion}
use Rattle.std.proofs.lemmas.Bool.{and_parts, eq-eqb, eqb-true}
use Rattle.std.proofs.lemmas.Bool.Decides.{nat_tests}
use Rattle.cc_base.specs.declared.rate.Rate.{Rate}
use Rattle.dtvcc_author.specs.declared.caption.Caption.{Caption}
use Rattle.dtvcc_author.specs.FrameEvents.{delayed_at, is_delayed_at, is_shown_at, names}
use Rattle.dtvcc_author.specs.Kept.{AreKept, Follows, IsSoundCaption}
use Rattle.windows_shown.proofs.CaptionLoads.{AreInOrder, Among, CaptionLoad, IsOrdered, captions}

-- what holds of all captions that follow holds of each
pub each_follows : (c : Caption) (gs : List CaptionLoad) (g : CaptionLoad) → AllByRecursion (Follows c) (captions gs) → Among g gs → Follows c g.caption
each_follows c [] g all among = absurd among
each_follows c (h ∷ gs) g all (inl same) = subst (λ (k : CaptionLoad). Follows c k.caption) (sym same) all.0
each_follows c (h ∷ gs) g all (inr rest) = each_follows c gs g all.1 rest

-- each is in order
pub order_of : (gs : List CaptionLoad) (g : CaptionLoad) → AreInOrder gs → Among g gs → IsOrdered g
order_of [] g order among = absurd among
order_of (h ∷ gs) g order (inl same) = subst IsOrdered (sym same) order.0
order_of (h ∷ gs) g order (inr rest) = order_of gs g order.2 rest

-- captions of one window are one, or one is hidden before the other is loaded
abbrev pub Order : CaptionLoad → CaptionLoad → Type 0
Order g h = (g ≡ h) ⊎ ((g.caption.hide ≤ h.caption.load) ⊎ (h.caption.hide ≤ g.caption.load))

abbrev pub Two : CaptionLoad → CaptionLoad → Type 0
Two g h = (g ≡ h) ⊎ (Follows g.caption h.caption ⊎ Follows h.caption g.caption)

module _ (rate : Rate) (frames : ℕ) where
  pub sound_of : (gs : List CaptionLoad) (g : CaptionLoad) → AreKept rate frames (captions gs) → Among g gs → IsSoundCaption rate frames g.caption
  sound_of [] g kept among = absurd among
  sound_of (h ∷ gs) g kept (inl same) = subst (λ (k : CaptionLoad). IsSoundCaption rate frames k.caption) (sym same) kept.0
  sound_of (h ∷ gs) g kept (inr rest) = sound_of gs g kept.2 rest

  pub two : (gs : List CaptionLoad) (g h : CaptionLoad) → AreKept rate frames (captions gs) → Among g gs → Among h gs → Two g h
  two [] g h kept in_g in_h = absurd in_g
  two (k ∷ gs) g h kept (inl is) (inl too) = inl (is ∙ sym too)
  two (k ∷ gs) g h kept (inl is) (inr in_h) =
      inr (inl (subst (λ (x : CaptionLoad). Follows x.caption h.caption) (sym is) (each_follows k.caption gs h kept.1 in_h)))
  two (k ∷ gs) g h kept (inr in_g) (inl too) =
      inr (inr (subst (λ (x : CaptionLoad). Follows x.caption g.caption) (sym too) (each_follows k.caption gs g kept.1 in_g)))
  two (k ∷ gs) g h kept (inr in_g) (inr in_h) = two gs g h kept.2 in_g in_h

  pub ordered : (gs : List CaptionLoad) (g h : CaptionLoad) → AreKept rate frames (captions gs) → Among g gs → Among h gs
      → g.caption.id ≡ h.caption.id → Order g h
  ordered gs g h kept in_g in_h same = at (two gs g h kept in_g in_h)
    where
      at : Two g h → Order g h
      at (inl is) = inl is
      at (inr (inl behind)) = inr (inl (behind.vacated (sym same)))
      at (inr (inr ahead)) = inr (inr (ahead.vacated same))

-- a caption of the window, of which the test holds
pub record Named (test : Caption → Bool) (gs : List CaptionLoad) (id : ℕ) : Type 0 where
  pub load : CaptionLoad
  pub among : Among load gs
  pub holds : test load.caption ≡ true
  pub window : load.caption.id ≡ id

pub named_by : (test : Caption → Bool) (gs : List CaptionLoad) (id : ℕ) → names test (captions gs) id ≡ true → Named test gs id
named_by test [] id is = cc
named_by test (g ∷ gs) id is = at (test g.caption) (g.caption.id == id) refl refl is (named_by test gs id)
  where
    later : Named test gs id → Named test (g ∷ gs) id
    later n = record { load = n.load; among = inr n.among; holds = n.holds; window = n.window }

    at : (a b : Bool) → test g.caption ≡ a → (g.caption.id == id) ≡ b → ((a && b) || names test (captions gs) id) ≡ true
        → (names test (captions gs) id ≡ true → Named test gs id) → Named test (g ∷ gs) id
    at true true holds same is rest = record { load = g; among = inl refl; holds = holds; window = eqb-true g.caption.id id same }
    at true false holds same is rest = later (rest is)
    at false b holds same is rest = later (rest is)

or_second : (a b : Bool) → b ≡ true → (a || b) ≡ true
or_second true b is = refl
or_second false b is = is

pub names_it : (test : Caption → Bool) (gs : List CaptionLoad) (id : ℕ) (g : CaptionLoad) → Among g gs → test g.caption ≡ true → g.caption.id ≡ id
    → names test (captions gs) id ≡ true
names_it test [] id g among holds window = absurd among
names_it test (h ∷ gs) id g (inl same) holds window =
    let own : test h.caption ≡ true = ap (λ (k : CaptionLoad). test k.caption) (sym same) ∙ holds in
    let its : (h.caption.id == id) ≡ true = eq-eqb h.caption.id id (ap (λ (k : CaptionLoad). k.caption.id) (sym same) ∙ window) in
    rw (own, its) refl
names_it test (h ∷ gs) id g (inr rest) holds window =
    or_second (test h.caption && (h.caption.id == id)) (names test (captions gs) id) (names_it test gs id g rest holds window)

pub names_none : (test : Caption → Bool) (gs : List CaptionLoad) (id : ℕ)
    → ((g : CaptionLoad) → Among g gs → test g.caption ≡ true → g.caption.id ≡ id → ⊥) → names test (captions gs) id ≡ false
names_none test gs id none = at (names test (captions gs) id) refl
  where
    at : (b : Bool) → names test (captions gs) id ≡ b → b ≡ false
    at false is = refl
    at true is = let n = named_by test gs id is in absurd (none n.load n.among n.holds n.window)

-- the caption whose delay starts in a frame names its window
abbrev pub delay_names : Option Caption → ℕ → Bool
delay_names None id = false
delay_names (Some c) id = c.id == id

pub delayed_names : (frame : ℕ) (gs : List CaptionLoad) (id : ℕ) → delay_names (delayed_at frame (captions gs)) id ≡ true → Named (is_delayed_at frame) gs id
delayed_names frame [] id is = cc
delayed_names frame (g ∷ gs) id is = at (is_delayed_at frame g.caption) refl is (delayed_names frame gs id)
  where
    at : (b : Bool) → is_delayed_at frame g.caption ≡ b → delay_names (if b then Some g.caption else delayed_at frame (captions gs)) id ≡ true
        → (delay_names (delayed_at frame (captions gs)) id ≡ true → Named (is_delayed_at frame) gs id) → Named (is_delayed_at frame) (g ∷ gs) id
    at true holds is rest = record { load = g; among = inl refl; holds = holds; window = eqb-true g.caption.id id is }
    at false fails is rest =
        let n = rest is in record { load = n.load; among = inr n.among; holds = n.holds; window = n.window }

-- what the tests of a frame say
pub delay_says : (frame : ℕ) (c : Caption) → is_delayed_at frame c ≡ true → (0 < c.tenths) × (c.starts ≡ frame)
delay_says frame c test =
    let parts = and_parts (not (c.tenths == 0)) (c.starts == frame) test in
    let some = parts.0 in
    (grind (arith, nat_tests), eqb-true c.starts frame parts.1)

pub delay_holds : (frame : ℕ) (c : Caption) → 0 < c.tenths → c.starts ≡ frame → is_delayed_at frame c ≡ true
delay_holds frame c some is = grind (arith, nat_tests)

pub shown_says : (frame : ℕ) (c : Caption) → is_shown_at frame c ≡ true → (c.tenths ≡ 0) × (c.starts ≡ frame)
shown_says frame c test =
    let parts = and_parts (c.tenths == 0) (c.starts == frame) test in
    (eqb-true c.tenths 0 parts.0, eqb-true c.starts frame parts.1)

pub shown_holds : (frame : ℕ) (c : Caption) → c.tenths ≡ 0 → c.starts ≡ frame → is_shown_at frame c ≡ true
shown_holds frame c none is = grind (arith, nat_tests)

-- the delay that starts in a frame is the delay of the caption that is delayed there
pub delayed_is : (rate : Rate) (frames frame : ℕ) (gs : List CaptionLoad) (g : CaptionLoad) → AreKept rate frames (captions gs) → Among g gs
    → is_delayed_at frame g.caption ≡ true → delayed_at frame (captions gs) ≡ Some g.caption
delayed_is rate frames frame [] g kept among holds = absurd among
delayed_is rate frames frame (h ∷ gs) g kept (inl same) holds =
    let own : is_delayed_at frame h.caption ≡ true = ap (λ (k : CaptionLoad). is_delayed_at frame k.caption) (sym same) ∙ holds in
    ap (λ (b : Bool). if b then Some h.caption else delayed_at frame (captions gs)) own ∙ ap (λ (k : CaptionLoad). Some k.caption) (sym same)
delayed_is rate frames frame (h ∷ gs) g kept (inr rest) holds =
    at (is_delayed_at frame h.caption) refl (delayed_is rate frames frame gs g kept.2 rest holds)
  where
    at : (b : Bool) → is_delayed_at frame h.caption ≡ b → delayed_at frame (captions gs) ≡ Some g.caption
        → (if b then Some h.caption else delayed_at frame (captions gs)) ≡ Some g.caption
    at false fails found = found
    at true both found =
        let one = delay_says frame h.caption both in
        let other = delay_says frame g.caption holds in
        let behind = each_follows h.caption gs g kept.1 rest in
        absurd (behind.apart one.0 other.0 (one.1 ∙ sym other.1))
