-- A service stays in the state that its bytes and the ends of its delays lead to.
use Rattle.std.proofs.Common.{◌≡◌, ℕ, ◌+◌, ◌-◌, ◌<◌, ◌≤◌, ◌==◌, Bool, true, false, if◌then◌else◌, List, [], ◌∷◌, ◌++◌, All, Option, Some, None, is_some, get_or, take, drop, zero, suc, length-drop, length, length-append, refl, sym, ap, subst, ◌∙◌, arith}
use Rattle.std.proofs.lemmas.Bool.Decides.{nat_tests}
use Rattle.std.proofs.lemmas.List.Elements.{All-append, All-cons, All-nil}
use Rattle.cc_base.specs.Steps.{front_from}
use Rattle.dtvcc_codes.specs.declared.commands.Command.{Command}
use Rattle.dtvcc_codes.specs.declared.commands.Command.TheVariants.{Dlc}
use Rattle.dtvcc_codes.specs.declared.open_command.OpenCommand.{OpenCommand}
use Rattle.dtvcc_codes.specs.Reading.{completed, completions, is_whole, open_after}
use Rattle.dtvcc_codes.specs.Readers.{Keeps}
use Rattle.dtvcc_codes.proofs.CutLemmas.{completed_is_spelled}
use Rattle.dtvcc_codes.proofs.SpellableLemmas.{delay_cancel_is}
use Rattle.dtvcc_screen.specs.declared.clock.Clock.{Clock}
use Rattle.dtvcc_screen.specs.declared.cores.Core.{Core}
use Rattle.dtvcc_screen.specs.Commands.{on_screen}
use Rattle.dtvcc_screen.specs.Cores.{CoreState, acted_if, after_byte, all_acted, core_acted, fill, fill_in, held_more, is_cancel, is_reset, released, tenths_of, until_of}
use Rattle.dtvcc_screen.specs.Objects.{Carries, Stands, acting_on, screen_of}
use Rattle.dtvcc_screen.specs.Screens.{ScreenState}
use Rattle.dtvcc_screen.proofs.CoreLemmas.{all_acted-open, arrived_cancel, arrived_held, arrived_now, by_byte, closed, completions_length, completions_more, fill_held, front, front_more, front_rest, next_delayed, rest_acted}

-- the bytes of an unfinished command stay bytes
abbrev IsByte : ℕ → Type 0
IsByte byte = byte < 256

bytes_after : (open_bytes : List ℕ) (byte : ℕ) → All IsByte open_bytes → byte < 256 → All IsByte (open_after open_bytes byte)
bytes_after open_bytes byte are fits = at (is_whole (open_bytes ++ byte ∷ [])) where
  at : (whole : Bool) → All IsByte (if whole then [] else open_bytes ++ byte ∷ [])
  at true = All-nil IsByte
  at false = All-append IsByte open_bytes (byte ∷ []) are (All-cons IsByte byte [] fits (All-nil IsByte))

-- a delay ends
pub released_stands : (state : CoreState) (clock : Clock) (bytes : List ℕ) (screen : ScreenState) (now : Core)
    → completions [] bytes ≡ state.held → front_from open_after [] bytes ≡ state.open_bytes → screen ≡ state.screen
    → Keeps state.open_bytes now.reader → All IsByte state.open_bytes
    → Carries (all_acted (completions [] bytes) clock (acting_on (front_from open_after [] bytes) screen)) now.held.items now
    → Stands (released clock state) now
released_stands state clock bytes screen now held along same keeps are carries =
    let to_state : all_acted (completions [] bytes) clock (acting_on (front_from open_after [] bytes) screen) ≡ released clock state =
    ap (λ (h : List (Option Command)). all_acted h clock (acting_on (front_from open_after [] bytes) screen)) held
    ∙ ap (λ (open_bytes : List ℕ). all_acted state.held clock (acting_on open_bytes screen)) along
    ∙ ap (λ (s : ScreenState). all_acted state.held clock (acting_on state.open_bytes s)) same in
    let stays : state.open_bytes ≡ (released clock state).open_bytes = sym (all_acted-open state.held clock (acting_on state.open_bytes state.screen)) in
    record {
      carries = subst (λ (s : CoreState). Carries s now.held.items now) to_state carries;
      unfinished = subst (λ (open_bytes : List ℕ). Keeps open_bytes now.reader) stays keeps;
      are_bytes = subst (λ (open_bytes : List ℕ). All IsByte open_bytes) stays are;
    }

-- the state with one more byte of the unfinished command
abbrev pub opened : ℕ → CoreState → CoreState
opened byte state = record state { open_bytes = open_after state.open_bytes byte }

-- outside of a delay
pub acts_stands : (state : CoreState) (byte : ℕ) (clock : Clock) (said : Option Command) (command : Command) (was now : Core) → Stands state was
    → byte < 256 → state.until ≡ None → said ≡ completed state.open_bytes byte → said ≡ Some command → is_reset said ≡ false
    → Keeps (open_after state.open_bytes byte) now.reader → screen_of now.screen ≡ on_screen command (screen_of was.screen)
    → now.until ≡ until_of (tenths_of command) clock was.until → now.held.items ≡ was.held.items
    → Stands (after_byte byte clock state) now
acts_stands state byte clock said command was now stands fits none says is no_reset keeps screen until held =
    let empty : now.held.items ≡ [] = held ∙ stands.carries.calm none in
    let next : CoreState = core_acted command clock (opened byte state) in
    let to_next : after_byte byte clock state ≡ next =
    by_byte state byte clock said says ∙ arrived_now said clock (opened byte state) no_reset none
    ∙ ap (λ (o : Option Command). acted_if o clock (opened byte state)) is in
    let nothing : [] ≡ state.held = ap (completions []) (sym (stands.carries.calm none)) ∙ stands.carries.held in
    let after : Stands next now = record {
      carries = record {
        screen = screen ∙ ap (on_screen command) stands.carries.screen;
        until = until ∙ ap (until_of (tenths_of command) clock) stands.carries.until;
        held = ap (completions []) empty ∙ nothing;
        along = λ end starts. ap (front_from open_after []) empty ∙ sym (closed state.open_bytes byte command (sym says ∙ is));
        calm = λ ends. empty;
      };
      unfinished = keeps;
      are_bytes = bytes_after state.open_bytes byte stands.are_bytes fits;
    } in
    subst (λ (s : CoreState). Stands s now) (sym to_next) after

pub idles_stands : (state : CoreState) (byte : ℕ) (clock : Clock) (said : Option Command) (was now : Core) → Stands state was
    → byte < 256 → state.until ≡ None → said ≡ completed state.open_bytes byte → said ≡ None → is_reset said ≡ false
    → Keeps (open_after state.open_bytes byte) now.reader → screen_of now.screen ≡ screen_of was.screen
    → now.until ≡ was.until → now.held.items ≡ was.held.items → Stands (after_byte byte clock state) now
idles_stands state byte clock said was now stands fits none says is no_reset keeps screen until held =
    let empty : now.held.items ≡ [] = held ∙ stands.carries.calm none in
    let to_next : after_byte byte clock state ≡ opened byte state =
    by_byte state byte clock said says ∙ arrived_now said clock (opened byte state) no_reset none
    ∙ ap (λ (o : Option Command). acted_if o clock (opened byte state)) is in
    let after : Stands (opened byte state) now = record {
      carries = record {
        screen = screen ∙ stands.carries.screen;
        until = until ∙ stands.carries.until;
        held = ap (completions []) held ∙ stands.carries.held;
        along = λ end starts. absurd (let both : None ≡ Some end = sym none ∙ starts in cc);
        calm = λ ends. empty;
      };
      unfinished = keeps;
      are_bytes = bytes_after state.open_bytes byte stands.are_bytes fits;
    } in
    subst (λ (s : CoreState). Stands s now) (sym to_next) after

-- DelayCancel in a delay: nothing is open after it, and nothing was before
pub cancel_is : (said : Option Command) → is_cancel said ≡ true → said ≡ Some Dlc
cancel_is None is = cc
cancel_is (Some Dlc) is = refl
cancel_is (Some command) is = cc

alone : (bytes : List ℕ) (byte code : ℕ) → bytes ++ byte ∷ [] ≡ code ∷ [] → bytes ≡ []
alone [] byte code is = refl
alone (x ∷ []) byte code is = cc
alone (x ∷ y ∷ bytes) byte code is = cc

pub cancel_stands : (state : CoreState) (byte end : ℕ) (said : Option Command) (was now : Core) → Stands state was → byte < 256
    → state.until ≡ Some end → said ≡ completed state.open_bytes byte → is_cancel said ≡ true
    → Keeps (open_after state.open_bytes byte) now.reader → screen_of now.screen ≡ screen_of was.screen → now.until ≡ was.until
    → now.held.items ≡ was.held.items → Stands (opened byte state) now
cancel_stands state byte end said was now stands fits in_delay says is keeps screen until held =
    let cancels : completed state.open_bytes byte ≡ Some Dlc = sym says ∙ cancel_is said is in
    let spelled : state.open_bytes ++ byte ∷ [] ≡ 0x8E ∷ [] =
    delay_cancel_is (state.open_bytes ++ byte ∷ [])
    (completed_is_spelled state.open_bytes byte Dlc (record { are = stands.are_bytes; few = stands.unfinished.unfinished }) fits cancels) in
    let nothing : state.open_bytes ≡ open_after state.open_bytes byte =
    alone state.open_bytes byte 0x8E spelled ∙ sym (closed state.open_bytes byte Dlc cancels) in
    record {
      carries = record {
        screen = screen ∙ stands.carries.screen;
        until = until ∙ stands.carries.until;
        held = ap (completions []) held ∙ stands.carries.held;
        along = λ ends starts. ap (front_from open_after []) held ∙ stands.carries.along ends starts ∙ nothing;
        calm = λ none. held ∙ stands.carries.calm none;
      };
      unfinished = keeps;
      are_bytes = bytes_after state.open_bytes byte stands.are_bytes fits;
    }

pub cancelled_stands : (state : CoreState) (byte end : ℕ) (clock : Clock) (said : Option Command) (now : Core) → state.until ≡ Some end
    → said ≡ completed state.open_bytes byte → is_reset said ≡ false → is_cancel said ≡ true → Stands (released clock (opened byte state)) now
    → Stands (after_byte byte clock state) now
cancelled_stands state byte end clock said now in_delay says no_reset is stands =
    subst (λ (s : CoreState). Stands s now)
    (sym (by_byte state byte clock said says ∙ arrived_cancel said clock (opened byte state) end no_reset in_delay is)) stands

-- one more byte is held
abbrev pub more_held : Option Command → ℕ → CoreState → CoreState
more_held said byte state = record (opened byte state) { held = state.held ++ said ∷ [] }

pub held_count : (state : CoreState) (said : Option Command) (was : Core) → Stands state was → length (state.held ++ said ∷ []) ≡ length was.held.items + 1
held_count state said was stands =
    let same : length was.held.items ≡ length state.held =
    sym (completions_length [] was.held.items) ∙ ap (λ (xs : List (Option Command)). length xs) stands.carries.held in
    length-append state.held (said ∷ []) ∙ ap (λ (n : ℕ). n + 1) (sym same)

more_cut : (state : CoreState) (byte end : ℕ) (said : Option Command) (was : Core) → Stands state was → state.until ≡ Some end
    → said ≡ completed state.open_bytes byte → completions [] (was.held.items ++ byte ∷ []) ≡ state.held ++ said ∷ []
more_cut state byte end said was stands in_delay says =
    completions_more [] was.held.items byte
    ∙ ap (λ (xs : List (Option Command)). xs ++ completed (front_from open_after [] was.held.items) byte ∷ []) stands.carries.held
    ∙ ap (λ (open_bytes : List ℕ). state.held ++ completed open_bytes byte ∷ []) (stands.carries.along end in_delay)
    ∙ ap (λ (o : Option Command). state.held ++ o ∷ []) (sym says)

more_along : (state : CoreState) (byte end : ℕ) (was : Core) → Stands state was → state.until ≡ Some end
    → front_from open_after [] (was.held.items ++ byte ∷ []) ≡ open_after state.open_bytes byte
more_along state byte end was stands in_delay =
    front_more [] was.held.items byte ∙ ap (λ (open_bytes : List ℕ). open_after open_bytes byte) (stands.carries.along end in_delay)

to_held : (state : CoreState) (byte end : ℕ) (clock : Clock) (said : Option Command) → state.until ≡ Some end → said ≡ completed state.open_bytes byte
    → is_reset said ≡ false → is_cancel said ≡ false → after_byte byte clock state ≡ held_more said clock (opened byte state)
to_held state byte end clock said in_delay says no_reset no_cancel =
    by_byte state byte clock said says ∙ arrived_held said clock (opened byte state) end no_reset in_delay no_cancel

pub holds_stands : (state : CoreState) (byte end : ℕ) (clock : Clock) (said : Option Command) (was now : Core) → Stands state was → byte < 256
    → state.until ≡ Some end → said ≡ completed state.open_bytes byte → is_reset said ≡ false → is_cancel said ≡ false
    → length was.held.items + 1 < 128 → Keeps (open_after state.open_bytes byte) now.reader → screen_of now.screen ≡ screen_of was.screen
    → now.until ≡ was.until → now.held.items ≡ was.held.items ++ byte ∷ [] → Stands (after_byte byte clock state) now
holds_stands state byte end clock said was now stands fits in_delay says no_reset no_cancel room keeps screen until held =
    let count = held_count state said was stands in
    let few : (length (state.held ++ said ∷ []) == 128) ≡ false = grind (arith, nat_tests) in
    let next : CoreState = more_held said byte state in
    let to_next : after_byte byte clock state ≡ next =
    to_held state byte end clock said in_delay says no_reset no_cancel
    ∙ ap (λ (b : Bool). if b then released clock next else next) few in
    let after : Stands next now = record {
      carries = record {
        screen = screen ∙ stands.carries.screen;
        until = until ∙ stands.carries.until;
        held = ap (completions []) held ∙ more_cut state byte end said was stands in_delay says;
        along = λ ends starts. ap (front_from open_after []) held ∙ more_along state byte end was stands in_delay;
        calm = λ none. absurd (let both : Some end ≡ None = sym in_delay ∙ none in cc);
      };
      unfinished = keeps;
      are_bytes = bytes_after state.open_bytes byte stands.are_bytes fits;
    } in
    subst (λ (s : CoreState). Stands s now) (sym to_next) after

-- the byte that fills the buffer
pub fills_stands : (state : CoreState) (byte end : ℕ) (clock : Clock) (said : Option Command) (was now : Core) (bytes : List ℕ) (screen : ScreenState)
    → Stands state was → byte < 256 → state.until ≡ Some end → said ≡ completed state.open_bytes byte → is_reset said ≡ false → is_cancel said ≡ false
    → length was.held.items + 1 ≡ 128 → Keeps (open_after state.open_bytes byte) now.reader → screen ≡ screen_of was.screen
    → bytes ≡ was.held.items ++ byte ∷ []
    → Carries (all_acted (completions [] bytes) clock (acting_on (front_from open_after [] bytes) screen)) now.held.items now
    → Stands (after_byte byte clock state) now
fills_stands state byte end clock said was now bytes screen stands fits in_delay says no_reset no_cancel room keeps same are carries =
    let count = held_count state said was stands in
    let full : (length (state.held ++ said ∷ []) == 128) ≡ true = grind (arith, nat_tests) in
    let next : CoreState = more_held said byte state in
    let to_next : after_byte byte clock state ≡ released clock next =
    to_held state byte end clock said in_delay says no_reset no_cancel
    ∙ ap (λ (b : Bool). if b then released clock next else next) full in
    let after : Stands (released clock next) now =
    released_stands next clock bytes screen now (ap (completions []) are ∙ more_cut state byte end said was stands in_delay says)
    (ap (front_from open_after []) are ∙ more_along state byte end was stands in_delay) (same ∙ stands.carries.screen) keeps
    (bytes_after state.open_bytes byte stands.are_bytes fits) carries in
    subst (λ (s : CoreState). Stands s now) (sym to_next) after

-- how far the buffer is filled
pub fill_count : (state : CoreState) (byte end : ℕ) (said : Option Command) (was : Core) → Stands state was → state.until ≡ Some end
    → said ≡ completed state.open_bytes byte → is_reset said ≡ false → is_cancel said ≡ false → fill byte state ≡ length was.held.items + 1
fill_count state byte end said was stands in_delay says no_reset no_cancel =
    let same : length was.held.items ≡ length state.held =
    sym (completions_length [] was.held.items) ∙ ap (λ (xs : List (Option Command)). length xs) stands.carries.held in
    ap (λ (o : Option Command). fill_in state.until o state.held) (sym says)
    ∙ fill_held state.until end said state.held in_delay no_reset no_cancel ∙ ap (λ (n : ℕ). n + 1) (sym same)

pub not_full : (filled count : ℕ) → filled ≡ count → count < 128 → false ≡ (filled == 128)
not_full filled count is few = grind (arith, nat_tests)

pub is_full : (filled count : ℕ) → filled ≡ count → count ≡ 128 → true ≡ (filled == 128)
is_full filled count is all = grind (arith, nat_tests)

-- whether there is a delay
pub until_none : (until : Option ℕ) → is_some until ≡ false → until ≡ None
until_none None is = refl
until_none (Some end) is = cc

pub until_some : (until : Option ℕ) → is_some until ≡ true → (end : ℕ) × (until ≡ Some end)
until_some None is = absurd cc
until_some (Some end) is = (end, refl)

-- the end of a list
take_all : (xs : List ℕ) (n : ℕ) → length xs ≤ n → take n xs ≡ xs
take_all [] zero long = refl
take_all [] (suc n) long = refl
take_all (x ∷ xs) zero long = absurd (omega arith)
take_all (x ∷ xs) (suc n) long = ap (λ (ys : List ℕ). x ∷ ys) (take_all xs n (omega arith))

pub rest_of : (now bytes : List ℕ) (k n : ℕ) → now ≡ take (n - k) (drop k bytes) → n ≡ length bytes → now ≡ drop k bytes
rest_of now bytes k n is all = is ∙ take_all (drop k bytes) (n - k) (omega (arith, length-drop k bytes))

-- a command that acts among held bytes starts a delay, in which those after it are held
rest_all : (bytes : List ℕ) (clock : Clock) (open_bytes : List ℕ) (screen : ScreenState)
    → rest_acted bytes 0 clock open_bytes screen ≡ all_acted (completions [] bytes) clock (acting_on open_bytes screen)
rest_all [] clock open_bytes screen = refl
rest_all (x ∷ xs) clock open_bytes screen = refl

pub delayed_carries : (bytes : List ℕ) (k byte : ℕ) (command : Command) (clock : Clock) (first screen : ScreenState) (until : Option ℕ) (now : Core)
    → k < length bytes → byte ≡ get_or bytes k 0 → Some command ≡ completed (front bytes k) byte
    → rest_acted bytes 0 clock (front_from open_after [] bytes) first ≡ rest_acted bytes k clock (front_from open_after [] bytes) screen
    → screen_of now.screen ≡ on_screen command screen → now.until ≡ until_of (tenths_of command) clock until → until ≡ None
    → is_some now.until ≡ true → now.held.items ≡ drop (k + 1) bytes
    → Carries (all_acted (completions [] bytes) clock (acting_on (front_from open_after [] bytes) first)) now.held.items now
delayed_carries bytes k byte command clock first screen until now within is says rest acts starts none some held =
    let open_bytes : List ℕ = front_from open_after [] bytes in
    let begun : until_of (tenths_of command) clock None ≡ now.until = sym (starts ∙ ap (until_of (tenths_of command) clock) none) in
    let ends = until_some now.until some in
    let state : CoreState = record {
      screen = on_screen command screen;
      open_bytes = open_bytes;
      until = until_of (tenths_of command) clock None;
      held = completions [] (drop (k + 1) bytes);
    } in
    let to_state : all_acted (completions [] bytes) clock (acting_on open_bytes first) ≡ state =
    sym (rest_all bytes clock open_bytes first) ∙ rest
    ∙ next_delayed bytes k byte ends.0 command clock open_bytes screen within is says (begun ∙ ends.1) in
    let carries : Carries state now.held.items now = record {
      screen = acts;
      until = sym begun;
      held = ap (completions []) held;
      along = λ end starts. ap (front_from open_after []) held ∙ front_rest bytes k byte command within is says;
      calm = λ nothing. absurd (let both : Some ends.0 ≡ None = sym (begun ∙ ends.1) ∙ nothing in cc);
    } in
    subst (λ (s : CoreState). Carries s now.held.items now) (sym to_state) carries

-- a state doesn't speak of what was noted
pub stands_still : (state : CoreState) (core next : Core) → Stands state core → next.screen ≡ core.screen → next.until ≡ core.until
    → next.held.items ≡ core.held.items → next.reader ≡ core.reader → Stands state next
stands_still state core next stands screen until held reader = record {
  carries = record {
    screen = ap screen_of screen ∙ stands.carries.screen;
    until = until ∙ stands.carries.until;
    held = ap (completions []) held ∙ stands.carries.held;
    along = λ end is. ap (front_from open_after []) held ∙ stands.carries.along end is;
    calm = λ is. held ∙ stands.carries.calm is;
  };
  unfinished = subst (λ (r : OpenCommand). Keeps state.open_bytes r) (sym reader) stands.unfinished;
  are_bytes = stands.are_bytes;
}
