-- The frames that are heard begin after the last jump of the counter.
use Rattle.std.proofs.Common.{◌≡◌, ◌∙◌, Bool, true, false, if◌then◌else◌, List, [], ◌∷◌, ◌++◌, reverse, refl, sym, ap, subst}
use Rattle.std.proofs.lemmas.List.{reverse-append, reverse-reverse}
use Rattle.cdp_packets.specs.Packets.{Frame}
use Rattle.cc_conceal.specs.Concealed.{goes_on, heard_back}
use Rattle.cc_conceal.specs.Laws.{GoOn, HeardSinceTheJump, JumpsBetween}
use Rattle.cc_conceal.proofs.HeardLemmas.{lasts_are, no_last, turned}

-- one frame more that goes on
on_more : (frames : List Frame) (g f : Frame) → GoOn (frames ++ g ∷ []) → goes_on g f ≡ true → GoOn ((frames ++ g ∷ []) ++ f ∷ [])
on_more [] g f on more = (more, tt)
on_more (x ∷ []) g f on more = (on.0, (more, tt))
on_more (x ∷ (y ∷ frames)) g f on more = (on.0, on_more (y ∷ frames) g f on.1 more)

-- leaves the first one as it is
first_is : (frames : List Frame) (g f next : Frame) (later : List Frame) → (frames ++ g ∷ []) ++ f ∷ [] ≡ next ∷ later
    → (others : List Frame) × (frames ++ g ∷ [] ≡ next ∷ others)
first_is [] g f next later is = let same : g ≡ next = cc in ([], ap (λ (x : Frame). x ∷ []) same)
first_is (x ∷ frames) g f next later is = let same : x ≡ next = cc in (frames ++ g ∷ [], ap (λ (y : Frame). y ∷ (frames ++ g ∷ [])) same)

-- of the frames before one, which stand newest first, some are heard with it
record IsCut (f : Frame) (frames : List Frame) : Type 0 where
  heard : List Frame
  rest : List Frame
  is : heard_back (f ∷ frames) ≡ f ∷ heard
  split : frames ≡ heard ++ rest
  on : GoOn (reverse heard ++ f ∷ [])
  jump : JumpsBetween (reverse rest) (reverse heard ++ f ∷ [])

cut : (frames : List Frame) (f : Frame) → IsCut f frames
cut [] f = record {
  heard = [];
  rest = [];
  is = refl;
  split = refl;
  on = tt;
  jump = λ earlier former next later none there. absurd (no_last earlier former none);
}
cut (g ∷ frames) f = at (cut frames g) (goes_on g f) refl
  where
    at : IsCut g frames → (b : Bool) → goes_on g f ≡ b → IsCut f (g ∷ frames)
    at w true on = record {
      heard = g ∷ w.heard;
      rest = w.rest;
      is = ap (λ (b : Bool). f ∷ (if b then heard_back (g ∷ frames) else [])) on ∙ ap (λ (l : List Frame). f ∷ l) w.is;
      split = ap (λ (l : List Frame). g ∷ l) w.split;
      on = subst (λ (l : List Frame). GoOn (l ++ f ∷ [])) (sym (reverse-append (g ∷ []) w.heard)) (on_more (reverse w.heard) g f w.on on);
      jump = λ earlier former next later is there.
          let v = first_is (reverse w.heard) g f next later (ap (λ (l : List Frame). l ++ f ∷ []) (sym (reverse-append (g ∷ []) w.heard)) ∙ there) in
          w.jump earlier former next v.0 is v.1;
    }
    at w false off = record {
      heard = [];
      rest = g ∷ frames;
      is = ap (λ (b : Bool). f ∷ (if b then heard_back (g ∷ frames) else [])) off;
      split = refl;
      on = tt;
      jump = λ earlier former next later is there.
          let v = lasts_are (reverse frames) earlier g former (sym (reverse-append (g ∷ []) frames) ∙ is) in
          let same : f ≡ next = cc in
          ap (λ (x : Frame). goes_on x next) (sym v.1) ∙ ap (goes_on g) (sym same) ∙ off;
    }

pub since_the_jump : HeardSinceTheJump
since_the_jump frames last =
    let w = cut (reverse frames) last in (
      reverse w.rest,
      (
        reverse w.heard,
        ap (λ (l : List Frame). reverse (heard_back l)) (turned frames last) ∙ ap reverse w.is ∙ reverse-append (last ∷ []) w.heard,
        sym (reverse-reverse frames) ∙ ap reverse w.split ∙ reverse-append w.heard w.rest,
        w.on,
        w.jump,
      ),
    )
