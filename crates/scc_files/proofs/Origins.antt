-- How a phase was reached: what the bytes before it are, and the reason where no line goes on after them.
use Rattle.std.proofs.Common.{◌≡◌, ℕ, ◌+◌, ◌*◌, ◌<◌, ◌⊎◌, Bool, true, false, cond, nat_eq, refl, sym, ◌∙◌, ap, subst, arith, lit<, List, [], ◌∷◌, ◌++◌, append_assoc, append-nil, length, take, Option, Some, None, Result, Ok, Err, inl, inr, ⊎_elim}
use Rattle.std.specs.Prelude.{slice_index, slice_set, ⊤}
use Rattle.std.specs.Option.{option_and_then, option_map}
use Rattle.std.proofs.lemmas.Bool.{eqb-true}
use Rattle.std.proofs.lemmas.Grind.{common_steps}
use Rattle.std.proofs.lemmas.List.{length-set, length-take-le}
use Rattle.cc_base.specs.declared.why.Why.TheVariants as why
use Rattle.time_codes.specs.Texts.{is_digit}
use Rattle.scc_files.specs.Offences.{EndsLine}
use Rattle.hex_digits.specs.HexDigits.{hex_value}
use Rattle.scc_files.specs.Phases.{ended, first_text, fits, is_blank, phase_after, why_in, word_or_end}
use Rattle.scc_files.specs.Reading.{Stepped, at_first, judged, reached, step}
use Rattle.scc_files.specs.declared.phase.Phase.{Phase}
use Rattle.scc_files.specs.declared.phase.Phase.TheVariants as phase
use Rattle.scc_files.specs.declared.reader.Offence.{Offence}
use Rattle.scc_files.specs.declared.reader.Position.{Position}
use Rattle.scc_files.specs.declared.reader.Reader.{Reader}
use Rattle.scc_files.proofs.Replay.{moved_step, none_reader, reach, reader_of, some_reader, text_step}
use Rattle.scc_files.proofs.Sound.{chose, front_more, mapped, none_some, ok_is, some_is}

-- all bytes fit a time code's text, from a place on
abbrev pub AllFit : ℕ → List ℕ → Type 0
AllFit at [] = ⊤
AllFit at (byte ∷ bytes) = (fits at byte ≡ true) × AllFit (at + 1) bytes

abbrev pub first_digit : ℕ → List ℕ
first_digit byte = byte ∷ 0 ∷ 0 ∷ 0 ∷ 0 ∷ 0 ∷ 0 ∷ 0 ∷ 0 ∷ 0 ∷ 0 ∷ []

pub record TextStart (from : Phase) (byte at : ℕ) (text : List ℕ) : Type 0 where
  pub from_is : from ≡ phase.Start
  pub at_is : at ≡ 1
  pub text_is : text ≡ first_digit byte
  pub fit : is_digit byte ≡ true

pub record TextMore (from : Phase) (byte at : ℕ) (text : List ℕ) : Type 0 where
  pub at' : ℕ
  pub text' : List ℕ
  pub from_is : from ≡ phase.Text at' text'
  pub at_is : at ≡ at' + 1
  pub text_is : text ≡ slice_set text' at' byte
  pub fit : fits at' byte ≡ true
  pub early : nat_eq at' 10 ≡ false

pub record TextWhole (from : Phase) (byte : ℕ) (text : List ℕ) : Type 0 where
  pub at' : ℕ
  pub text' : List ℕ
  pub from_is : from ≡ phase.Text at' text'
  pub text_is : text ≡ slice_set text' at' byte
  pub fit : fits at' byte ≡ true
  pub ten : at' ≡ 10

pub record FirstByte (from : Phase) (byte : ℕ) : Type 0 where
  pub at' : ℕ
  pub from_is : from ≡ phase.First at'
  pub byte_is : byte ≡ slice_index first_text at'

pub record FirstMore (from : Phase) (byte at : ℕ) : Type 0 where
  pub at' : ℕ
  pub from_is : from ≡ phase.First at'
  pub byte_is : byte ≡ slice_index first_text at'
  pub at_is : at ≡ at' + 1
  pub early : nat_eq at' 17 ≡ false

-- what a byte that leads to a phase is
abbrev pub Target : Phase → ℕ → Phase → Type 0
Target from byte (phase.First at) = FirstMore from byte at
Target from byte phase.FirstSpaces = FirstByte from byte ⊎ ((from ≡ phase.FirstSpaces) × (byte ≡ 32))
Target from byte phase.FirstEnd = (from ≡ phase.FirstSpaces) × (byte ≡ 13)
Target from byte phase.Start = byte ≡ 10
Target from byte (phase.Text at text) = TextStart from byte at text ⊎ TextMore from byte at text
Target from byte (phase.Timed text) = TextWhole from byte text
Target from byte _ = why_in from ≡ why.SccSyntax

pub leaf : (from : Phase) (byte : ℕ) (x to : Phase) → Target from byte x → Some x ≡ Some to → Target from byte to
leaf from byte x to is same = subst (λ (t : Phase). Target from byte t) (some_is x to same) is

pub ended_target : (from : Phase) (byte : ℕ) (to : Phase) → why_in from ≡ why.SccSyntax → ended byte ≡ Some to → Target from byte to
ended_target from byte to later is =
    ⊎_elim
    (λ c. leaf from byte phase.Start to (eqb-true byte 10 c.0) c.1)
    (λ c.
    ⊎_elim
    (λ d. leaf from byte phase.End to later d.1)
    (λ d. absurd (none_some to d.1))
    (chose (nat_eq byte 13) (Some phase.End) None to c.1))
    (chose (nat_eq byte 10) (Some phase.Start) (cond (nat_eq byte 13) (Some phase.End) None) to is)

pub target : (from : Phase) (byte : ℕ) (to : Phase) → phase_after from byte ≡ Some to → Target from byte to
target (phase.First at) byte to is =
    ⊎_elim
    (λ c.
    ⊎_elim
    (λ d. leaf (phase.First at) byte phase.FirstSpaces to (inl (record { at' = at; from_is = refl; byte_is = eqb-true byte (slice_index first_text at) c.0 })) d.1)
    (λ d. leaf (phase.First at) byte (phase.First (at + 1)) to (record { at' = at; from_is = refl; byte_is = eqb-true byte (slice_index first_text at) c.0; at_is = refl; early = d.0 }) d.1)
    (chose (nat_eq at 17) (Some phase.FirstSpaces) (Some (phase.First (at + 1))) to c.1))
    (λ c. absurd (none_some to c.1))
    (chose (nat_eq byte (slice_index first_text at)) (cond (nat_eq at 17) (Some phase.FirstSpaces) (Some (phase.First (at + 1)))) None to is)
target phase.FirstSpaces byte to is =
    ⊎_elim
    (λ c. leaf phase.FirstSpaces byte phase.FirstSpaces to (inr (refl, eqb-true byte 32 c.0)) c.1)
    (λ c.
    ⊎_elim
    (λ d. leaf phase.FirstSpaces byte phase.Start to (eqb-true byte 10 d.0) d.1)
    (λ d.
    ⊎_elim
    (λ e. leaf phase.FirstSpaces byte phase.FirstEnd to (refl, eqb-true byte 13 e.0) e.1)
    (λ e. absurd (none_some to e.1))
    (chose (nat_eq byte 13) (Some phase.FirstEnd) None to d.1))
    (chose (nat_eq byte 10) (Some phase.Start) (cond (nat_eq byte 13) (Some phase.FirstEnd) None) to c.1))
    (chose (nat_eq byte 32) (Some phase.FirstSpaces) (cond (nat_eq byte 10) (Some phase.Start) (cond (nat_eq byte 13) (Some phase.FirstEnd) None)) to is)
target phase.FirstEnd byte to is =
    ⊎_elim (λ c. leaf phase.FirstEnd byte phase.Start to (eqb-true byte 10 c.0) c.1) (λ c. absurd (none_some to c.1)) (chose (nat_eq byte 10) (Some phase.Start) None to is)
target phase.Start byte to is =
    ⊎_elim
    (λ c. leaf phase.Start byte (phase.Text 1 (first_digit byte)) to (inl (record { from_is = refl; at_is = refl; text_is = refl; fit = c.0 })) c.1)
    (λ c.
    ⊎_elim
    (λ d. leaf phase.Start byte phase.Blank to refl d.1)
    (λ d. ended_target phase.Start byte to refl d.1)
    (chose (nat_eq byte 32) (Some phase.Blank) (ended byte) to c.1))
    (chose (is_digit byte) (Some (phase.Text 1 (first_digit byte))) (cond (nat_eq byte 32) (Some phase.Blank) (ended byte)) to is)
target phase.Blank byte to is =
    ⊎_elim (λ c. leaf phase.Blank byte phase.Blank to refl c.1) (λ c. ended_target phase.Blank byte to refl c.1) (chose (nat_eq byte 32) (Some phase.Blank) (ended byte) to is)
target phase.End byte to is =
    ⊎_elim (λ c. leaf phase.End byte phase.Start to (eqb-true byte 10 c.0) c.1) (λ c. absurd (none_some to c.1)) (chose (nat_eq byte 10) (Some phase.Start) None to is)
target (phase.Text at text) byte to is =
    ⊎_elim
    (λ c.
    ⊎_elim
    (λ d. leaf (phase.Text at text) byte (phase.Timed (slice_set text at byte)) to
    (record { at' = at; text' = text; from_is = refl; text_is = refl; fit = c.0; ten = eqb-true at 10 d.0 }) d.1)
    (λ d. leaf (phase.Text at text) byte (phase.Text (at + 1) (slice_set text at byte)) to
    (inr (record { at' = at; text' = text; from_is = refl; at_is = refl; text_is = refl; fit = c.0; early = d.0 })) d.1)
    (chose (nat_eq at 10) (Some (phase.Timed (slice_set text at byte))) (Some (phase.Text (at + 1) (slice_set text at byte))) to c.1))
    (λ c. absurd (none_some to c.1))
    (chose (fits at byte) (cond (nat_eq at 10) (Some (phase.Timed (slice_set text at byte))) (Some (phase.Text (at + 1) (slice_set text at byte)))) None to is)
target (phase.Timed text) byte to is =
    ⊎_elim (λ c. leaf (phase.Timed text) byte phase.Gap to refl c.1) (λ c. absurd (none_some to c.1)) (chose (is_blank byte) (Some phase.Gap) None to is)
target phase.Gap byte to is =
    ⊎_elim
    (λ c. leaf phase.Gap byte phase.Gap to refl c.1)
    (λ c. let m = mapped (λ value. phase.One value) (hex_value byte) to c.1 in subst (λ (t : Phase). Target phase.Gap byte t) m.2 refl)
    (chose (is_blank byte) (Some phase.Gap) (option_map (λ value. phase.One value) (hex_value byte)) to is)
target (phase.One value) byte to is =
    let m = mapped (λ low. phase.Two (16 * value + low)) (hex_value byte) to is in subst (λ (t : Phase). Target (phase.One value) byte t) m.2 refl
target (phase.Two first) byte to is =
    let m = mapped (λ value. phase.Three first value) (hex_value byte) to is in subst (λ (t : Phase). Target (phase.Two first) byte t) m.2 refl
target (phase.Three first value) byte to is =
    let m = mapped (λ low. phase.Whole (record { a = first; b = 16 * value + low })) (hex_value byte) to is in
    subst (λ (t : Phase). Target (phase.Three first value) byte t) m.2 refl
target (phase.Whole pair) byte to is =
    ⊎_elim (λ c. leaf (phase.Whole pair) byte phase.Between to refl c.1) (λ c. ended_target (phase.Whole pair) byte to refl c.1) (chose (nat_eq byte 32) (Some phase.Between) (ended byte) to is)
target phase.Between byte to is =
    let cases : (o : Option ℕ) → word_or_end byte o ≡ Some to → Target phase.Between byte to =
    elim [ None ↦ λ h. ended_target phase.Between byte to refl h | Some value ↦ λ h. leaf phase.Between byte (phase.One value) to refl h ] in
    ⊎_elim
    (λ c. leaf phase.Between byte phase.Between to refl c.1)
    (λ c. cases (hex_value byte) c.1)
    (chose (nat_eq byte 32) (Some phase.Between) (word_or_end byte (hex_value byte)) to is)

-- an open text follows a line's end
pub record TextOrigin (opening : Option ℕ) (before : List ℕ) (at : ℕ) (text : List ℕ) (p : Position) : Type 0 where
  pub start : List ℕ
  pub is : before ≡ start ++ take at text
  pub ends : EndsLine start
  pub reaches : reach true (at_first opening) start ≡ Some (record { phase = phase.Start; position = p })
  pub early : at < 11
  pub size : length text ≡ 11
  pub fit : AllFit 0 (take at text)

abbrev pub OriginOf : Option ℕ → List ℕ → Phase → Position → Type 0
OriginOf opening before (phase.First at) p = at < 18
OriginOf opening before phase.Start p = EndsLine before
OriginOf opening before (phase.Text at text) p = TextOrigin opening before at text p
OriginOf opening before _ p = ⊤

abbrev pub Origin : Option ℕ → List ℕ → Reader → Type 0
Origin opening before r = OriginOf opening before r.phase r.position

pub all_fit_more : (at : ℕ) (front : List ℕ) (byte : ℕ) → AllFit at front → fits (at + length front) byte ≡ true → AllFit at (front ++ byte ∷ [])
all_fit_more at [] byte all fit =
    let here : at + 0 ≡ at = omega arith in
    (subst (λ (n : ℕ). fits n byte ≡ true) here fit, tt)
all_fit_more at (b ∷ front) byte all fit =
    let next : at + length (b ∷ front) ≡ at + 1 + length front = omega arith in
    (all.0, all_fit_more (at + 1) front byte all.1 (subst (λ (n : ℕ). fits n byte ≡ true) next fit))

pub later_text : (at : ℕ) → at < 11 → nat_eq at 10 ≡ false → at + 1 < 11
later_text at early other = grind (arith, common_steps)

pub later_first : (at : ℕ) → at < 18 → nat_eq at 17 ≡ false → at + 1 < 18
later_first at early other = grind (arith, common_steps)

-- a step keeps how phases were reached
module _ (opening : Option ℕ) (before : List ℕ) (byte : ℕ) (p : Position) where
  pub text_start : (from : Phase) (at : ℕ) (text : List ℕ) → reach true (at_first opening) before ≡ Some (record { phase = from; position = p }) → OriginOf opening before from p
      → TextStart from byte at text → TextOrigin opening (before ++ byte ∷ []) at text p
  text_start from at text reaches origin t =
      let here = subst (λ (f : Phase). OriginOf opening before f p) t.from_is origin in
      let whole : TextOrigin opening (before ++ byte ∷ []) 1 (first_digit byte) p = record {
        start = before;
        is = refl;
        ends = here;
        reaches = reaches ∙ ap (λ f. Some (record { phase = f; position = p })) t.from_is;
        early = lit< tt;
        size = refl;
        fit = (t.fit, tt);
      } in
      subst (λ (n : ℕ). TextOrigin opening (before ++ byte ∷ []) n text p) (sym t.at_is)
      (subst (λ (x : List ℕ). TextOrigin opening (before ++ byte ∷ []) 1 x p) (sym t.text_is) whole)

  pub text_more : (from : Phase) (at : ℕ) (text : List ℕ) → OriginOf opening before from p → TextMore from byte at text → TextOrigin opening (before ++ byte ∷ []) at text p
  text_more from at text origin t =
      let o = subst (λ (f : Phase). OriginOf opening before f p) t.from_is origin in
      let front = front_more t.at' t.text' byte o.size o.early in
      let count : length (take t.at' t.text') ≡ t.at' = length-take-le t.at' t.text' (omega (arith, o.size, o.early)) in
      let counted : t.at' ≡ 0 + length (take t.at' t.text') = omega (arith, count) in
      let later : t.at' + 1 < 11 = later_text t.at' o.early t.early in
      let whole : TextOrigin opening (before ++ byte ∷ []) (t.at' + 1) (slice_set t.text' t.at' byte) p = record {
        start = o.start;
        is = ap (λ z. z ++ (byte ∷ [])) o.is ∙ (append_assoc o.start (take t.at' t.text') (byte ∷ []) ∙ ap (λ z. o.start ++ z) (sym front));
        ends = o.ends;
        reaches = o.reaches;
        early = later;
        size = length-set t.text' t.at' byte ∙ o.size;
        fit = subst (λ (z : List ℕ). AllFit 0 z) (sym front)
            (all_fit_more 0 (take t.at' t.text') byte o.fit (subst (λ (n : ℕ). fits n byte ≡ true) counted t.fit));
      } in
      subst (λ (n : ℕ). TextOrigin opening (before ++ byte ∷ []) n text p) (sym t.at_is)
      (subst (λ (x : List ℕ). TextOrigin opening (before ++ byte ∷ []) (t.at' + 1) x p) (sym t.text_is) whole)

  pub first_more : (from : Phase) (at : ℕ) → OriginOf opening before from p → FirstMore from byte at → at < 18
  first_more from at origin f =
      let early = subst (λ (x : Phase). OriginOf opening before x p) f.from_is origin in
      subst (λ (n : ℕ). n < 18) (sym f.at_is) (later_first f.at' early f.early)

  pub step_origin : (to from : Phase) (x : Stepped) → reach true (at_first opening) before ≡ Some (record { phase = from; position = p }) → OriginOf opening before from p → Target from byte to
      → reached true p to ≡ Ok x → Origin opening (before ++ byte ∷ []) x.0
  step_origin (phase.First at) from x reaches origin t is = subst (λ (y : Stepped). Origin opening (before ++ byte ∷ []) y.0) (ok_is is) (first_more from at origin t)
  step_origin phase.FirstSpaces from x reaches origin t is = subst (λ (y : Stepped). Origin opening (before ++ byte ∷ []) y.0) (ok_is is) tt
  step_origin phase.FirstEnd from x reaches origin t is = subst (λ (y : Stepped). Origin opening (before ++ byte ∷ []) y.0) (ok_is is) tt
  step_origin phase.Start from x reaches origin t is =
      subst (λ (y : Stepped). Origin opening (before ++ byte ∷ []) y.0) (ok_is is) (before, ap (λ b. before ++ b ∷ []) t)
  step_origin phase.Blank from x reaches origin t is = subst (λ (y : Stepped). Origin opening (before ++ byte ∷ []) y.0) (ok_is is) tt
  step_origin phase.End from x reaches origin t is = subst (λ (y : Stepped). Origin opening (before ++ byte ∷ []) y.0) (ok_is is) tt
  step_origin (phase.Text at text) from x reaches origin t is =
      subst (λ (y : Stepped). Origin opening (before ++ byte ∷ []) y.0) (ok_is is)
      (⊎_elim (λ s. text_start from at text reaches origin s) (λ m. text_more from at text origin m) t)
  step_origin (phase.Timed text) from x reaches origin t is =
      let s = text_step (phase.Timed text) (judged true p text) x is in
      subst (λ (y : Stepped). Origin opening (before ++ byte ∷ []) y.0) s.2 tt
  step_origin phase.Gap from x reaches origin t is = subst (λ (y : Stepped). Origin opening (before ++ byte ∷ []) y.0) (ok_is is) tt
  step_origin (phase.One value) from x reaches origin t is = subst (λ (y : Stepped). Origin opening (before ++ byte ∷ []) y.0) (ok_is is) tt
  step_origin (phase.Two first) from x reaches origin t is = subst (λ (y : Stepped). Origin opening (before ++ byte ∷ []) y.0) (ok_is is) tt
  step_origin (phase.Three first value) from x reaches origin t is = subst (λ (y : Stepped). Origin opening (before ++ byte ∷ []) y.0) (ok_is is) tt
  step_origin (phase.Whole pair) from x reaches origin t is = subst (λ (y : Stepped). Origin opening (before ++ byte ∷ []) y.0) (ok_is is) tt
  step_origin phase.Between from x reaches origin t is = subst (λ (y : Stepped). Origin opening (before ++ byte ∷ []) y.0) (ok_is is) tt

-- bytes after bytes that are taken
pub reach_append : (j : Bool) (xs ys : List ℕ) (r s : Reader) → reach j r xs ≡ Some s → reach j r (xs ++ ys) ≡ reach j s ys
reach_append j [] ys r s is = ap (λ x. reach j x ys) (some_reader is)
reach_append j (byte ∷ xs) ys r s is =
    let cases : (x : Result Stepped Offence) → option_and_then (λ s. reach j s xs) (reader_of x) ≡ Some s
    → option_and_then (λ s. reach j s (xs ++ ys)) (reader_of x) ≡ reach j s ys =
    elim [ Ok stepped ↦ λ h. reach_append j xs ys stepped.0 s h | Err offence ↦ λ h. absurd (none_reader h) ] in
    cases (step j r byte) is

pub origins : (opening : Option ℕ) (bytes before : List ℕ) (r s : Reader) → reach true (at_first opening) before ≡ Some r → Origin opening before r → reach true r bytes ≡ Some s → Origin opening (before ++ bytes) s
origins opening [] before r s reaches origin is =
    subst (λ (z : List ℕ). Origin opening z s) (sym (append-nil before)) (subst (λ (x : Reader). Origin opening before x) (some_reader is) origin)
origins opening (byte ∷ bytes) before r s reaches origin is =
    let cases : (x : Result Stepped Offence) → step true r byte ≡ x → option_and_then (λ s. reach true s bytes) (reader_of x) ≡ Some s → Origin opening (before ++ (byte ∷ bytes)) s =
    elim [
      | Ok stepped ↦ λ e h.
          let (to, moves, reached_is) = moved_step true r (phase_after r.phase byte) stepped e in
          let next = step_origin opening before byte r.position to r.phase stepped reaches origin (target r.phase byte to moves) reached_is in
          let reaches' : reach true (at_first opening) (before ++ byte ∷ []) ≡ Some stepped.0 =
          reach_append true before (byte ∷ []) (at_first opening) r reaches ∙ ap (λ x. option_and_then (λ s. Some s) (reader_of x)) e in
          subst (λ (z : List ℕ). Origin opening z s) (append_assoc before (byte ∷ []) bytes) (origins opening bytes (before ++ byte ∷ []) stepped.0 s reaches' next h)
      | Err offence ↦ λ e h. absurd (none_reader h)
    ] in
    cases (step true r byte) refl is
