-- The captions of a service's cues with what loads them, as their units are placed; and what the cues author by what is seen of
-- these captions.
use Rattle.std.proofs.Common.{◌≡◌, ◌∙◌, ℕ, ◌<◌, ◌≤◌, inl, inr, ◌==◌, ◌&&◌, Bool, true, false, if◌then◌else◌, List, [], ◌∷◌, ◌++◌, Option, Some, None, refl, sym, ap, arith}
use Rattle.std.specs.Prelude.{All, map, nat_le, nat_lt, option_map, ⊤}
use Rattle.std.specs.List.{AllByRecursion, zip}
use Rattle.std.proofs.lemmas.Bool.{and_parts, eqb-true}
use Rattle.std.proofs.lemmas.Bool.Decides.{nat_tests}
use Rattle.std.proofs.lemmas.List.Elements.{All-head, All-tail}
use Rattle.dtvcc_codes.specs.declared.commands.Command.{Command}
use Rattle.dtvcc_codes.specs.declared.commands.Command.TheVariants.{Df, Dly, Dlc, Rst}
use Rattle.dtvcc_codes.specs.declared.windows.Definition.{Definition}
use Rattle.dtvcc_codes.specs.Writing.{bytes_of_command}
use Rattle.dtvcc_windows.specs.Defining.{defined}
use Rattle.dtvcc_windows.specs.Showing.{ShownWindow, shown}
use Rattle.dtvcc_windows.specs.Windows.{WindowState, with_visibility}
use Rattle.dtvcc_screen.specs.Commands.{edited_by, on_screen, with_definition}
use Rattle.dtvcc_screen.specs.Laws.{is_text}
use Rattle.dtvcc_screen.specs.Screens.{ScreenState}
use Rattle.dtvcc_author.specs.declared.caption.Caption.{Caption}
use Rattle.dtvcc_author.specs.CueUnits.{IsWritable}
use Rattle.frame_scheduler.specs.Chunks.{ServiceChunk}
use Rattle.frame_scheduler.specs.ServiceBytes.{AreFramesFrom, loads_at}
use Rattle.frame_scheduler.specs.ServiceChunks.{chunk_of}
use Rattle.windows_shown.specs.Loading.{edited_all, seen_behind}
use Rattle.windows_shown.specs.Soundness.{is_plain}
use Rattle.windows_shown.specs.Undelayed.{acted_on}
use Rattle.windows_shown.proofs.WrittenLemmas.{acted_append, written_acts, written_plain}
use Rattle.windows_shown.proofs.ByteLemmas.{AreLoads}
use Rattle.windows_shown.proofs.CaptionLoads.{AreInOrder, AreRising, Among, CaptionLoad, IsBefore, IsTextOf, captions, edits, load_acts, text_acts}
use Rattle.windows_shown.proofs.EditLemmas.{all_frames}
use Rattle.windows_shown.proofs.SeenLemmas.{IsSeen}
use Rattle.windows_shown.proofs.WindowLemmas.{shown_whole}

-- each unit stands from its LOAD on, before what shows its caption, and in no later frame than those after it
abbrev pub AreTimely : List ServiceChunk → List ℕ → Type 0
AreTimely [] [] = ⊤
AreTimely [] (f ∷ fs) = ⊥
AreTimely (u ∷ us) [] = ⊥
AreTimely (u ∷ us) (f ∷ fs) = (u.load ≤ f) × (f < u.until) × AreFramesFrom f fs × AreTimely us fs

-- text is plain
text_plain : (command : Command) → is_text command ≡ true → is_plain command ≡ true
text_plain (Dly tenths) text = cc
text_plain Dlc text = cc
text_plain Rst text = cc
text_plain _ text = refl

-- a unit that stands in a frame, or not, before others
unit_acts : (here : Bool) (command : Command) (more : List ℕ) (s : ScreenState) → IsWritable command → is_plain command ≡ true
    → acted_on ((if here then bytes_of_command command else []) ++ more) s ≡ acted_on more (if here then on_screen command s else s)
unit_acts true command more s writable plain =
    acted_append (bytes_of_command command) more s (written_plain command writable plain) ∙ ap (acted_on more) (written_acts command s writable)
unit_acts false command more s writable plain = refl

abbrev AreTexts : List Command → Type 0
AreTexts commands = AllByRecursion (λ (command : Command). is_text command ≡ true) commands

-- text of a caption from a frame on, with the frames that are left for the units after it
record PlacedText (number : ℕ) (c : Caption) (commands : List Command) (rest : List ServiceChunk) (from : ℕ) (fs : List ℕ) : Type 0 where
  text : List (Command × ℕ)
  left : List ℕ
  last : ℕ
  least : from ≤ last
  texts : AllByRecursion (λ (u : Command × ℕ). (is_text u.0 ≡ true) × (u.1 < c.starts)) text
  behind : AllByRecursion (λ (u : Command × ℕ). from ≤ u.1) text
  upto : AllByRecursion (λ (u : Command × ℕ). u.1 ≤ last) text
  rising : AreRising text
  more : AreFramesFrom last left
  timely : AreTimely rest left
  acts : (frame : ℕ) (s : ScreenState) → acted_on (loads_at (zip (map (chunk_of number c) (map bytes_of_command commands) ++ rest) fs) frame) s
      ≡ acted_on (loads_at (zip rest left) frame) (text_acts frame text s)
  edits_are : (w : WindowState) → edits all_frames text (Some w) ≡ Some (edited_all commands w)

at_least : (low high : ℕ) (us : List (Command × ℕ)) → low ≤ high → AllByRecursion (λ (u : Command × ℕ). high ≤ u.1) us
    → AllByRecursion (λ (u : Command × ℕ). low ≤ u.1) us
at_least low high [] less all = tt
at_least low high (u ∷ us) less all = let first : high ≤ u.1 = all.0 in (omega arith, at_least low high us less all.1)

placed_text : (number : ℕ) (c : Caption) (commands : List Command) (rest : List ServiceChunk) (from : ℕ) (fs : List ℕ) → AreTexts commands
    → All IsWritable commands → AreFramesFrom from fs → AreTimely (map (chunk_of number c) (map bytes_of_command commands) ++ rest) fs
    → PlacedText number c commands rest from fs
placed_text number c [] rest from fs texts writable low timely = record {
  text = [];
  left = fs;
  last = from;
  least = omega arith;
  texts = tt;
  behind = tt;
  upto = tt;
  rising = tt;
  more = low;
  timely = timely;
  acts = λ frame s. refl;
  edits_are = λ w. refl;
}
placed_text number c (command ∷ commands) rest from [] texts writable low timely = absurd timely
placed_text number c (command ∷ commands) rest from (f ∷ fs) texts writable low timely =
    let later = placed_text number c commands rest f fs texts.1 (All-tail IsWritable command commands writable) timely.2 timely.3 in
    let first : from ≤ f = low.0 in
    let next : f ≤ later.last = later.least in
    record {
      text = (command, f) ∷ later.text;
      left = later.left;
      last = later.last;
      least = omega arith;
      texts = ((texts.0, timely.1), later.texts);
      behind = (first, at_least from f later.text first later.behind);
      upto = (next, later.upto);
      rising = (later.behind, later.rising);
      more = later.more;
      timely = later.timely;
      acts = λ frame s.
          unit_acts (f == frame) command (loads_at (zip (map (chunk_of number c) (map bytes_of_command commands) ++ rest) fs) frame) s
          (All-head IsWritable command commands writable) (text_plain command texts.0)
          ∙ later.acts frame (if f == frame then on_screen command s else s);
      edits_are = λ w. later.edits_are (edited_by command w);
    }

-- captions with what loads them, by their units, which stand in their frames, and by what is to be seen
pub record Loads (cs : List Caption) (chunks : List ServiceChunk) (fs : List ℕ) (authored : ℕ → ℕ → Option ShownWindow) : Type 0 where
  pub loads : List CaptionLoad
  pub captions_are : captions loads ≡ cs
  pub order : AreInOrder loads
  pub from : (frame : ℕ) → AreFramesFrom frame fs → AllByRecursion (λ (g : CaptionLoad). frame ≤ g.first) loads
  pub acts : AreLoads (zip chunks fs) loads
  pub seen : (id frame : ℕ) (seen : Option ShownWindow) → IsSeen 0 loads id frame seen → seen ≡ authored id frame

texts_of : (g : CaptionLoad) (us : List (Command × ℕ)) → AllByRecursion (λ (u : Command × ℕ). (is_text u.0 ≡ true) × (u.1 < g.caption.starts)) us
    → AllByRecursion (λ (u : Command × ℕ). g.first ≤ u.1) us → AllByRecursion (IsTextOf g) us
texts_of g [] all low = tt
texts_of g (u ∷ us) all low = (record { text = all.0.0; behind = low.0; ended = all.0.1 }, texts_of g us all.1 low.1)

before_all : (g : CaptionLoad) (last : ℕ) (hs : List CaptionLoad) → g.first ≤ last → AllByRecursion (λ (u : Command × ℕ). u.1 ≤ last) g.text
    → AllByRecursion (λ (h : CaptionLoad). last ≤ h.first) hs → AllByRecursion (IsBefore g) hs
before_all g last [] first upto late = tt
before_all g last (h ∷ hs) first upto late =
    let low : last ≤ h.first = late.0 in (record { first = omega arith; text = at_most g.text upto low }, before_all g last hs first upto late.1)
  where
    at_most : (us : List (Command × ℕ)) → AllByRecursion (λ (u : Command × ℕ). u.1 ≤ last) us → last ≤ h.first
        → AllByRecursion (λ (u : Command × ℕ). u.1 ≤ h.first) us
    at_most [] all low = tt
    at_most (u ∷ us) all low = let one : u.1 ≤ last = all.0 in (omega arith, at_most us all.1 low)

all_from : (low high : ℕ) (hs : List CaptionLoad) → low ≤ high → AllByRecursion (λ (h : CaptionLoad). high ≤ h.first) hs
    → AllByRecursion (λ (h : CaptionLoad). low ≤ h.first) hs
all_from low high [] less all = tt
all_from low high (h ∷ hs) less all = let first : high ≤ h.first = all.0 in (omega arith, all_from low high hs less all.1)

-- the tests by which a caption is shown in a window at a frame
abbrev pub shows : ℕ → ℕ → Caption → Bool
shows id frame c = (id == c.id) && (nat_le c.show frame && nat_lt frame c.hide)

shows_says : (id frame : ℕ) (c : Caption) → shows id frame c ≡ true → (c.id ≡ id) × (c.show ≤ frame) × (frame < c.hide)
shows_says id frame c is =
    let parts = and_parts (id == c.id) (nat_le c.show frame && nat_lt frame c.hide) is in
    let times = and_parts (nat_le c.show frame) (nat_lt frame c.hide) parts.1 in
    let from = times.0 in
    let to = times.1 in
    (sym (eqb-true id c.id parts.0), grind (arith, nat_tests), grind (arith, nat_tests))

shows_holds : (id frame : ℕ) (c : Caption) → c.id ≡ id → c.show ≤ frame → frame < c.hide → shows id frame c ≡ true
shows_holds id frame c is from to = grind (arith, nat_tests)

-- one caption more, with its DefineWindow and text
pub one_more : (number : ℕ) (c : Caption) (d : Definition) (text : List Command) (rest : List ServiceChunk) (cs : List Caption) (fs : List ℕ)
    (authored : ℕ → ℕ → Option ShownWindow) (window : Option ShownWindow)
    → d.id ≡ c.id → d.visible ≡ false → AreTexts text → All IsWritable (Df d ∷ text) → seen_behind (Df d ∷ text) ≡ window
    → AreTimely (map (chunk_of number c) (map bytes_of_command (Df d ∷ text)) ++ rest) fs
    → ((left : List ℕ) → AreTimely rest left → Loads cs rest left authored)
    → Loads (c ∷ cs) (map (chunk_of number c) (map bytes_of_command (Df d ∷ text)) ++ rest) fs (λ id frame. if shows id frame c then window else authored id frame)
one_more number c d text rest cs [] authored window names hidden texts writable is timely others = absurd timely
one_more number c d text rest cs (f ∷ fs) authored window names hidden texts writable is timely others =
    let own = placed_text number c text rest f fs texts (All-tail IsWritable (Df d) text writable) timely.2 timely.3 in
    let later = others own.left own.timely in
    let g : CaptionLoad = record { caption = c; definition = d; first = f; text = own.text } in
    let least : f ≤ own.last = own.least in
    let seen_is : shown (shown_whole g) ≡ window =
    ap (λ (w : Option WindowState). shown (with_shown w)) (own.edits_are (defined d None)) ∙ is in
    record {
      loads = g ∷ later.loads;
      captions_are = ap (λ (more : List Caption). c ∷ more) later.captions_are;
      order = (
        record {
          window = names;
          hidden = hidden;
          loaded = timely.0;
          ended = timely.1;
          texts = texts_of g own.text own.texts own.behind;
          rising = own.rising;
        },
        before_all g own.last later.loads least own.upto (later.from own.last own.more),
        later.order,
      );
      from = λ frame low.
          let first : frame ≤ f = low.0 in
          (first, all_from frame own.last later.loads (omega arith) (later.from own.last own.more));
      acts = λ frame s.
          unit_acts (f == frame) (Df d) (loads_at (zip (map (chunk_of number c) (map bytes_of_command text) ++ rest) fs) frame) s
          (All-head IsWritable (Df d) text writable) refl
          ∙ own.acts frame (if f == frame then with_definition d s else s)
          ∙ later.acts frame (load_acts frame g s);
      seen = λ id frame v sees. seen_by id frame v g later (shows id frame c) refl refl seen_is sees;
    }
  where
    with_shown : Option WindowState → Option WindowState
    with_shown w = option_map (with_visibility true) w

    seen_by : (id frame : ℕ) (v : Option ShownWindow) (g : CaptionLoad) {left : List ℕ} (later : Loads cs rest left authored) (b : Bool) → shows id frame c ≡ b
        → g.caption ≡ c → shown (shown_whole g) ≡ window → IsSeen 0 (g ∷ later.loads) id frame v → v ≡ (if b then window else authored id frame)
    seen_by id frame v g later true shown_now same seen_is sees =
        let says = shows_says id frame g.caption (ap (shows id frame) same ∙ shown_now) in
        sees.has g (inl refl) says.0 says.1 says.2 (omega arith) ∙ seen_is
    seen_by id frame v g later false not_now same seen_is sees = later.seen id frame v (record {
      has = λ h among. sees.has h (inr among);
      none = λ nowhere. sees.none (all nowhere);
    })
      where
        all : ((h : CaptionLoad) → Among h later.loads → h.caption.id ≡ id → h.caption.show ≤ frame → frame < h.caption.hide → ⊥)
            → (h : CaptionLoad) → Among h (g ∷ later.loads) → h.caption.id ≡ id → h.caption.show ≤ frame → frame < h.caption.hide → ⊥
        all nowhere h (inl it) window from to =
            let holds : shows id frame h.caption ≡ true = shows_holds id frame h.caption window from to in
            let both : true ≡ false = sym holds ∙ ap (λ (k : CaptionLoad). shows id frame k.caption) it ∙ ap (shows id frame) same ∙ not_now in
            cc
        all nowhere h (inr among) window from to = nowhere h among window from to
