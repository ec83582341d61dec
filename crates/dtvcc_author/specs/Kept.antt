-- Between crates: the program's answer stands on none of these definitions.
-- What the rules of a cue list ask of the captions of a service: of each by itself, and of any two of them.
use Rattle.std.specs.Prelude.{◌≡◌, ◌≢◌, ℕ, ◌+◌, ◌<◌, ◌≤◌, List, [], ◌∷◌, ⊤}
use Rattle.std.specs.List.{AllByRecursion}
use Rattle.cc_base.specs.declared.rate.Rate.{Rate}
use Rattle.cc_base.specs.Rate.{delay_frames_of}
use Rattle.dtvcc_author.specs.declared.caption.Caption.{Caption}

-- a caption's frames are in order: it is loaded, what shows it is sent, it is shown, and it is hidden
pub record IsSoundCaption (rate : Rate) (frames : ℕ) (c : Caption) : Type 0 where
  pub window : c.id < 8
  pub loaded : c.load < c.starts
  pub at_once : c.tenths ≡ 0 → c.starts ≡ c.show
  pub delayed : 0 < c.tenths → c.starts + delay_frames_of rate c.tenths ≡ c.show
  pub after : c.starts ≤ c.show
  pub hidden : c.show < c.hide
  pub ended : c.hide < frames

-- no event of the other caption lies strictly between the start of a caption's delay and its SHOW
pub record IsUncovered (c other : Caption) : Type 0 where
  pub hide : 0 < c.tenths → c.starts < other.hide → c.show ≤ other.hide
  pub starts : 0 < c.tenths → c.starts < other.starts → c.show ≤ other.starts

-- a caption and one that follows it
pub record Follows (former c : Caption) : Type 0 where
  pub in_order : former.load ≤ c.load
  -- where both use one window, the former is hidden before the other is loaded
  pub vacated : c.id ≡ former.id → former.hide ≤ c.load
  -- two delays don't start in one frame
  pub apart : 0 < former.tenths → 0 < c.tenths → former.starts ≢ c.starts
  pub uncovered : IsUncovered c former
  pub uncovering : IsUncovered former c

-- the captions of a service keep the rules
abbrev pub AreKept : Rate → ℕ → List Caption → Type 0
AreKept rate frames [] = ⊤
AreKept rate frames (c ∷ cs) = IsSoundCaption rate frames c × AllByRecursion (Follows c) cs × AreKept rate frames cs
