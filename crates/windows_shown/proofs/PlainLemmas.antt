-- What plain bytes do: outside of a delay they act at once, and in one they are held.
use Rattle.std.proofs.Common.{◌≡◌, ℕ, ◌+◌, ◌<◌, ◌≤◌, ◌==◌, Bool, true, false, if◌then◌else◌, List, [], ◌∷◌, ◌++◌, Option, Some, None, length, length-append, refl, sym, ap, subst, ◌∙◌, arith, append_assoc, append-nil}
use Rattle.std.specs.Prelude.{map}
use Rattle.std.specs.List.{AllByRecursion}
use Rattle.std.proofs.lemmas.Bool.Decides.{nat_tests}
use Rattle.cc_base.specs.Steps.{front_from}
use Rattle.dtvcc_codes.specs.declared.commands.Command.{Command}
use Rattle.dtvcc_codes.specs.declared.commands.Command.TheVariants.{Dly, Dlc, Rst}
use Rattle.dtvcc_codes.specs.Reading.{completed, completions, open_after}
use Rattle.dtvcc_screen.specs.declared.clock.Clock.{Clock}
use Rattle.dtvcc_screen.specs.Commands.{on_screen}
use Rattle.dtvcc_screen.specs.Cores.{CoreState, acted_if, all_acted, fill_in, go_on, held_more, is_cancel, is_reset, released, tenths_of, until_of}
use Rattle.dtvcc_screen.specs.Laws.{on_screen_all, on_screen_if}
use Rattle.dtvcc_screen.specs.Meaning.{Byte, Served, on_event, served_after}
use Rattle.dtvcc_screen.specs.Objects.{acting_on}
use Rattle.dtvcc_screen.specs.Screens.{ScreenState}
use Rattle.dtvcc_screen.proofs.CoreLemmas.{arrived_held, arrived_now, by_byte, fill_held}
use Rattle.windows_shown.specs.Filling.{AllFill}
use Rattle.windows_shown.specs.Soundness.{ArePlain, IsPlainOrNone, is_plain}

abbrev pub AllPlain : List (Option Command) → Type 0
AllPlain said = AllByRecursion IsPlainOrNone said

-- no bytes are plain
pub nothing_plain : ArePlain []
nothing_plain = record { plain = tt; whole = refl }

-- plain bytes one after another, whatever was open before them
plain_join : (open_bytes bytes more : List ℕ) → AllPlain (completions open_bytes bytes) → front_from open_after open_bytes bytes ≡ []
    → AllPlain (completions [] more) → AllPlain (completions open_bytes (bytes ++ more))
plain_join open_bytes [] more all whole too = subst (λ (left : List ℕ). AllPlain (completions left more)) (sym whole) too
plain_join open_bytes (byte ∷ bytes) more all whole too = (all.0, plain_join (open_after open_bytes byte) bytes more all.1 whole too)

whole_join : (open_bytes bytes more : List ℕ) → front_from open_after open_bytes bytes ≡ []
    → front_from open_after open_bytes (bytes ++ more) ≡ front_from open_after [] more
whole_join open_bytes [] more whole = ap (λ (left : List ℕ). front_from open_after left more) whole
whole_join open_bytes (byte ∷ bytes) more whole = whole_join (open_after open_bytes byte) bytes more whole

pub plain_both : (bytes more : List ℕ) → ArePlain bytes → ArePlain more → ArePlain (bytes ++ more)
plain_both bytes more are too = record {
  plain = plain_join [] bytes more are.plain are.whole too.plain;
  whole = whole_join [] bytes more are.whole ∙ too.whole;
}

-- a service by its parts
abbrev pub served_at : Clock → ScreenState → List ℕ → Option ℕ → List (Option Command) → Served
served_at clock screen open_bytes until held =
    record { clock = clock; core = record { screen = screen; open_bytes = open_bytes; until = until; held = held } }

-- a plain command
record IsCalm (command : Command) : Type 0 where
  reset : is_reset (Some command) ≡ false
  cancel : is_cancel (Some command) ≡ false
  tenths : tenths_of command ≡ 0

calm_is : (command : Command) → is_plain command ≡ true → IsCalm command
calm_is (Dly tenths) plain = cc
calm_is Dlc plain = cc
calm_is Rst plain = cc
calm_is _ plain = record { reset = refl; cancel = refl; tenths = refl }

no_reset : (said : Option Command) → IsPlainOrNone said → is_reset said ≡ false
no_reset None plain = refl
no_reset (Some command) plain = (calm_is command plain).reset

no_cancel : (said : Option Command) → IsPlainOrNone said → is_cancel said ≡ false
no_cancel None plain = refl
no_cancel (Some command) plain = (calm_is command plain).cancel

-- outside of a delay what a plain byte completed acts
acts_now : (said : Option Command) (clock : Clock) (screen : ScreenState) (open_bytes : List ℕ) → IsPlainOrNone said
    → acted_if said clock (acting_on open_bytes screen) ≡ acting_on open_bytes (on_screen_if said screen)
acts_now None clock screen open_bytes plain = refl
acts_now (Some command) clock screen open_bytes plain =
    ap (λ (tenths : ℕ). record {
      screen = on_screen command screen;
      open_bytes = open_bytes;
      until = until_of tenths clock None;
      held = [];
    }) (calm_is command plain).tenths

now_one : (byte : ℕ) (clock : Clock) (screen : ScreenState) (open_bytes : List ℕ) → IsPlainOrNone (completed open_bytes byte)
    → on_event (Byte byte) (served_at clock screen open_bytes None [])
    ≡ served_at clock (on_screen_if (completed open_bytes byte) screen) (open_after open_bytes byte) None []
now_one byte clock screen open_bytes plain =
    let said : Option Command = completed open_bytes byte in
    ap (λ (core : CoreState). record { clock = clock; core = core })
    (by_byte (acting_on open_bytes screen) byte clock said refl
    ∙ arrived_now said clock (acting_on (open_after open_bytes byte) screen) (no_reset said plain) refl
    ∙ acts_now said clock screen (open_after open_bytes byte) plain)

-- all bytes, outside of a delay
pub now : (bytes : List ℕ) (clock : Clock) (screen : ScreenState) (open_bytes : List ℕ) → AllPlain (completions open_bytes bytes)
    → served_after (served_at clock screen open_bytes None []) (map Byte bytes)
    ≡ served_at clock (on_screen_all (completions open_bytes bytes) screen) (front_from open_after open_bytes bytes) None []
now [] clock screen open_bytes plain = refl
now (byte ∷ bytes) clock screen open_bytes plain =
    ap (λ (s : Served). served_after s (map Byte bytes)) (now_one byte clock screen open_bytes plain.0)
    ∙ now bytes clock (on_screen_if (completed open_bytes byte) screen) (open_after open_bytes byte) plain.1

-- they fill nothing
pub now_fill : (bytes : List ℕ) (clock : Clock) (screen : ScreenState) (open_bytes : List ℕ) → AllPlain (completions open_bytes bytes)
    → AllFill 127 (served_at clock screen open_bytes None []) (map Byte bytes)
now_fill [] clock screen open_bytes plain = tt
now_fill (byte ∷ bytes) clock screen open_bytes plain = (
  (let none : 0 ≤ 127 = omega arith in none),
  subst (λ (s : Served). AllFill 127 s (map Byte bytes)) (sym (now_one byte clock screen open_bytes plain.0))
      (now_fill bytes clock (on_screen_if (completed open_bytes byte) screen) (open_after open_bytes byte) plain.1),
)

-- in a delay a plain byte is held
holds_later : (said : Option Command) (clock : Clock) (screen : ScreenState) (open_bytes : List ℕ) (end : ℕ) (held : List (Option Command))
    → length held < 127
    → held_more said clock (record { screen = screen; open_bytes = open_bytes; until = Some end; held = held })
    ≡ record { screen = screen; open_bytes = open_bytes; until = Some end; held = held ++ said ∷ [] }
holds_later said clock screen open_bytes end held few =
    let count = length-append held (said ∷ []) in
    let short : (length (held ++ said ∷ []) == 128) ≡ false = grind (arith, nat_tests) in
    let next : CoreState = record { screen = screen; open_bytes = open_bytes; until = Some end; held = held ++ said ∷ [] } in
    ap (λ (full : Bool). if full then released clock next else next) short

later_one : (byte : ℕ) (clock : Clock) (screen : ScreenState) (open_bytes : List ℕ) (end : ℕ) (held : List (Option Command))
    → length held < 127 → IsPlainOrNone (completed open_bytes byte)
    → on_event (Byte byte) (served_at clock screen open_bytes (Some end) held)
    ≡ served_at clock screen (open_after open_bytes byte) (Some end) (held ++ completed open_bytes byte ∷ [])
later_one byte clock screen open_bytes end held few plain =
    let said : Option Command = completed open_bytes byte in
    let was : CoreState = record { screen = screen; open_bytes = open_bytes; until = Some end; held = held } in
    let opened : CoreState = record { screen = screen; open_bytes = open_after open_bytes byte; until = Some end; held = held } in
    ap (λ (core : CoreState). record { clock = clock; core = core })
    (by_byte was byte clock said refl
    ∙ arrived_held said clock opened end (no_reset said plain) refl (no_cancel said plain)
    ∙ holds_later said clock screen (open_after open_bytes byte) end held few)

-- all bytes, in a delay that has room for them
pub later : (bytes : List ℕ) (clock : Clock) (screen : ScreenState) (open_bytes : List ℕ) (end : ℕ) (held : List (Option Command))
    → length held + length bytes ≤ 127 → AllPlain (completions open_bytes bytes)
    → served_after (served_at clock screen open_bytes (Some end) held) (map Byte bytes)
    ≡ served_at clock screen (front_from open_after open_bytes bytes) (Some end) (held ++ completions open_bytes bytes)
later [] clock screen open_bytes end held room plain =
    ap (λ (all : List (Option Command)). served_at clock screen open_bytes (Some end) all) (sym (append-nil held))
later (byte ∷ bytes) clock screen open_bytes end held room plain =
    let said : Option Command = completed open_bytes byte in
    let count = length-append held (said ∷ []) in
    ap (λ (s : Served). served_after s (map Byte bytes)) (later_one byte clock screen open_bytes end held (omega arith) plain.0)
    ∙ later bytes clock screen (open_after open_bytes byte) end (held ++ said ∷ []) (omega arith) plain.1
    ∙ ap (λ (all : List (Option Command)). served_at clock screen (front_from open_after (open_after open_bytes byte) bytes) (Some end) all)
    (append_assoc held (said ∷ []) (completions (open_after open_bytes byte) bytes))

-- they fill no more than the room
pub later_fill : (bytes : List ℕ) (clock : Clock) (screen : ScreenState) (open_bytes : List ℕ) (end : ℕ) (held : List (Option Command))
    → length held + length bytes ≤ 127 → AllPlain (completions open_bytes bytes)
    → AllFill 127 (served_at clock screen open_bytes (Some end) held) (map Byte bytes)
later_fill [] clock screen open_bytes end held room plain = tt
later_fill (byte ∷ bytes) clock screen open_bytes end held room plain =
    let said : Option Command = completed open_bytes byte in
    let count = length-append held (said ∷ []) in
    let filled = fill_held (Some end) end said held refl (no_reset said plain.0) (no_cancel said plain.0) in (
      (let most : fill_in (Some end) said held ≤ 127 = omega (arith, filled) in most),
      subst (λ (s : Served). AllFill 127 s (map Byte bytes)) (sym (later_one byte clock screen open_bytes end held (omega arith) plain.0))
          (later_fill bytes clock screen (open_after open_bytes byte) end (held ++ said ∷ []) (omega arith) plain.1),
    )

-- what is held acts, where all of it is plain
pub releases : (held : List (Option Command)) (clock : Clock) (screen : ScreenState) (open_bytes : List ℕ) → AllPlain held
    → all_acted held clock (acting_on open_bytes screen) ≡ acting_on open_bytes (on_screen_all held screen)
releases [] clock screen open_bytes plain = refl
releases (None ∷ rest) clock screen open_bytes plain = releases rest clock screen open_bytes plain.1
releases (Some command ∷ rest) clock screen open_bytes plain =
    let next : ℕ → CoreState = λ tenths. record {
      screen = on_screen command screen;
      open_bytes = open_bytes;
      until = until_of tenths clock None;
      held = [];
    } in
    ap (λ (tenths : ℕ). go_on (until_of tenths clock None) rest (next tenths) (all_acted rest clock (next tenths))) (calm_is command plain.0).tenths
    ∙ releases rest clock (on_screen command screen) open_bytes plain.1
