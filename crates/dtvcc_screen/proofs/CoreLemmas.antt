-- What a byte, a command and the end of a delay do, case by case.
use Rattle.std.proofs.Common.{◌≡◌, ℕ, ◌+◌, ◌<◌, Bool, true, false, if◌then◌else◌, List, [], ◌∷◌, ◌++◌, Option, Some, None, get_or, length, take, drop, refl, sym, ap, subst, ◌∙◌, arith, add-one, zero, suc}
use Rattle.cc_base.specs.Steps.{front_from}
use Rattle.dtvcc_codes.specs.declared.commands.Command.{Command}
use Rattle.dtvcc_codes.specs.Reading.{completed, completions, is_whole, open_after, spelled_command}
use Rattle.dtvcc_screen.specs.declared.clock.Clock.{Clock}
use Rattle.dtvcc_screen.specs.Commands.{on_screen}
use Rattle.dtvcc_screen.specs.Cores.{CoreState, acted_if, after_byte, all_acted, arrived, arrived_in, clean, core_acted, fill_in, go_on, held_more, is_cancel, is_reset, released, tenths_of, until_of}
use Rattle.dtvcc_screen.specs.Objects.{acting_on}
use Rattle.dtvcc_screen.specs.Screens.{ScreenState}

-- cutting a list, and one byte more
pub completions_length : (start bytes : List ℕ) → length (completions start bytes) ≡ length bytes
completions_length start [] = refl
completions_length start (byte ∷ bytes) = ap suc (completions_length (open_after start byte) bytes)

pub completions_more : (start bytes : List ℕ) (byte : ℕ)
    → completions start (bytes ++ byte ∷ []) ≡ completions start bytes ++ completed (front_from open_after start bytes) byte ∷ []
completions_more start [] byte = refl
completions_more start (first ∷ bytes) byte =
    ap (λ (rest : List (Option Command)). completed start first ∷ rest) (completions_more (open_after start first) bytes byte)

pub front_more : (start bytes : List ℕ) (byte : ℕ)
    → front_from open_after start (bytes ++ byte ∷ []) ≡ open_after (front_from open_after start bytes) byte
front_more start [] byte = refl
front_more start (first ∷ bytes) byte = front_more (open_after start first) bytes byte

-- where a command was completed nothing is open
closed_at : (whole : Bool) (said command : Command) (open_bytes : List ℕ) → (if whole then Some said else None) ≡ Some command
    → (if whole then [] else open_bytes) ≡ []
closed_at true said command open_bytes is = refl
closed_at false said command open_bytes is = cc

pub closed : (open_bytes : List ℕ) (byte : ℕ) (command : Command) → completed open_bytes byte ≡ Some command → open_after open_bytes byte ≡ []
closed open_bytes byte command is =
    closed_at (is_whole (open_bytes ++ byte ∷ [])) (spelled_command (open_bytes ++ byte ∷ [])) command (open_bytes ++ byte ∷ []) is

-- what the first bytes leave open
abbrev pub front : List ℕ → ℕ → List ℕ
front bytes k = front_from open_after [] (take k bytes)

-- what comes of the bytes from one on, outside of a delay
abbrev pub rest_acted : List ℕ → ℕ → Clock → List ℕ → ScreenState → CoreState
rest_acted bytes k clock open_bytes screen = all_acted (completions (front bytes k) (drop k bytes)) clock (acting_on open_bytes screen)

-- the next byte of a list
record NextByte (bytes : List ℕ) (k byte : ℕ) : Type 0 where
  rest : drop k bytes ≡ byte ∷ drop (k + 1) bytes
  before : take (k + 1) bytes ≡ take k bytes ++ byte ∷ []

next_byte : (bytes : List ℕ) (k byte : ℕ) → k < length bytes → byte ≡ get_or bytes k 0 → NextByte bytes k byte
next_byte bytes k byte within is = record { rest = rw add-one (rests bytes k byte within is); before = rw add-one (fronts bytes k byte within is) } where
  rests : (bytes : List ℕ) (k byte : ℕ) → k < length bytes → byte ≡ get_or bytes k 0 → drop k bytes ≡ byte ∷ drop (suc k) bytes
  rests [] k byte within is = absurd (omega arith)
  rests (x ∷ xs) zero byte within is = ap (λ (y : ℕ). y ∷ xs) (sym is)
  rests (x ∷ xs) (suc k) byte within is = rests xs k byte (omega arith) is

  fronts : (bytes : List ℕ) (k byte : ℕ) → k < length bytes → byte ≡ get_or bytes k 0 → take (suc k) bytes ≡ take k bytes ++ byte ∷ []
  fronts [] k byte within is = absurd (omega arith)
  fronts (x ∷ xs) zero byte within is = ap (λ (y : ℕ). y ∷ []) (sym is)
  fronts (x ∷ xs) (suc k) byte within is = ap (λ (ys : List ℕ). x ∷ ys) (fronts xs k byte (omega arith) is)

pub front_next : (bytes : List ℕ) (k byte : ℕ) → k < length bytes → byte ≡ get_or bytes k 0 → front bytes (k + 1) ≡ open_after (front bytes k) byte
front_next bytes k byte within is =
    ap (front_from open_after []) (next_byte bytes k byte within is).before ∙ front_more [] (take k bytes) byte

-- what a command does before the rest
abbrev behind : Option Command → List (Option Command) → Clock → CoreState → CoreState
behind said rest clock core = let next = acted_if said clock core in go_on next.until rest next (all_acted rest clock next)

next_acted : (bytes : List ℕ) (k byte : ℕ) (said : Option Command) (clock : Clock) (open_bytes : List ℕ) (screen : ScreenState)
    → k < length bytes → byte ≡ get_or bytes k 0 → said ≡ completed (front bytes k) byte
    → rest_acted bytes k clock open_bytes screen
    ≡ behind said (completions (front bytes (k + 1)) (drop (k + 1) bytes)) clock (acting_on open_bytes screen)
next_acted bytes k byte said clock open_bytes screen within is says =
    let core : CoreState = acting_on open_bytes screen in
    ap (λ (left : List ℕ). all_acted (completions (front bytes k) left) clock core) (next_byte bytes k byte within is).rest
    ∙ ap (λ (o : Option Command). behind o (completions (open_after (front bytes k) byte) (drop (k + 1) bytes)) clock core) (sym says)
    ∙ ap (λ (open_now : List ℕ). behind said (completions open_now (drop (k + 1) bytes)) clock core) (sym (front_next bytes k byte within is))

-- a byte that completes nothing
pub next_none : (bytes : List ℕ) (k byte : ℕ) (clock : Clock) (open_bytes : List ℕ) (screen : ScreenState)
    → k < length bytes → byte ≡ get_or bytes k 0 → None ≡ completed (front bytes k) byte
    → rest_acted bytes k clock open_bytes screen ≡ rest_acted bytes (k + 1) clock open_bytes screen
next_none bytes k byte clock open_bytes screen within is says = next_acted bytes k byte None clock open_bytes screen within is says

-- a command that starts no delay
abbrev pub moved : List ℕ → ScreenState → Option ℕ → CoreState
moved open_bytes screen until = record { screen = screen; open_bytes = open_bytes; until = until; held = [] }

going_on : (until : Option ℕ) (rest : List (Option Command)) (clock : Clock) (open_bytes : List ℕ) (screen : ScreenState) → until ≡ None
    → go_on until rest (moved open_bytes screen until) (all_acted rest clock (moved open_bytes screen until)) ≡ all_acted rest clock (acting_on open_bytes screen)
going_on until rest clock open_bytes screen none =
    subst (λ (u : Option ℕ). go_on u rest (moved open_bytes screen u) (all_acted rest clock (moved open_bytes screen u))
    ≡ all_acted rest clock (acting_on open_bytes screen))
    (sym none) refl

pub next_going : (bytes : List ℕ) (k byte : ℕ) (command : Command) (clock : Clock) (open_bytes : List ℕ) (screen now : ScreenState)
    → k < length bytes → byte ≡ get_or bytes k 0 → Some command ≡ completed (front bytes k) byte
    → now ≡ on_screen command screen → until_of (tenths_of command) clock None ≡ None
    → rest_acted bytes k clock open_bytes screen ≡ rest_acted bytes (k + 1) clock open_bytes now
next_going bytes k byte command clock open_bytes screen now within is says moves none =
    let rest : List (Option Command) = completions (front bytes (k + 1)) (drop (k + 1) bytes) in
    next_acted bytes k byte (Some command) clock open_bytes screen within is says
    ∙ going_on (until_of (tenths_of command) clock None) rest clock open_bytes (on_screen command screen) none
    ∙ ap (λ (s : ScreenState). all_acted rest clock (acting_on open_bytes s)) (sym moves)

-- one that starts a delay
delaying : (until : Option ℕ) (end : ℕ) (rest : List (Option Command)) (open_bytes : List ℕ) (screen : ScreenState) (other : CoreState) → until ≡ Some end
    → go_on until rest (moved open_bytes screen until) other ≡ record { screen = screen; open_bytes = open_bytes; until = until; held = rest }
delaying until end rest open_bytes screen other is =
    subst (λ (u : Option ℕ). go_on u rest (moved open_bytes screen u) other ≡ record { screen = screen; open_bytes = open_bytes; until = u; held = rest })
    (sym is) refl

pub next_delayed : (bytes : List ℕ) (k byte end : ℕ) (command : Command) (clock : Clock) (open_bytes : List ℕ) (screen : ScreenState)
    → k < length bytes → byte ≡ get_or bytes k 0 → Some command ≡ completed (front bytes k) byte
    → until_of (tenths_of command) clock None ≡ Some end
    → rest_acted bytes k clock open_bytes screen
    ≡ record { screen = on_screen command screen; open_bytes = open_bytes; until = until_of (tenths_of command) clock None; held = completions [] (drop (k + 1) bytes) }
next_delayed bytes k byte end command clock open_bytes screen within is says starts =
    let rest : List (Option Command) = completions (front bytes (k + 1)) (drop (k + 1) bytes) in
    let until : Option ℕ = until_of (tenths_of command) clock None in
    let next : CoreState = moved open_bytes (on_screen command screen) until in
    next_acted bytes k byte (Some command) clock open_bytes screen within is says
    ∙ delaying until end rest open_bytes (on_screen command screen) (all_acted rest clock next) starts
    ∙ ap (λ (open_now : List ℕ). record { screen = on_screen command screen; open_bytes = open_bytes; until = until; held = completions open_now (drop (k + 1) bytes) })
    (front_next bytes k byte within is ∙ closed (front bytes k) byte command (sym says))

-- what the rest leaves open is what all leave open, where nothing is open before it
front_split : (start bytes : List ℕ) (k : ℕ) → front_from open_after start bytes ≡ front_from open_after (front_from open_after start (take k bytes)) (drop k bytes)
front_split start [] zero = refl
front_split start [] (suc k) = refl
front_split start (x ∷ xs) zero = refl
front_split start (x ∷ xs) (suc k) = front_split (open_after start x) xs k

pub front_rest : (bytes : List ℕ) (k byte : ℕ) (command : Command) → k < length bytes → byte ≡ get_or bytes k 0
    → Some command ≡ completed (front bytes k) byte → front_from open_after [] (drop (k + 1) bytes) ≡ front_from open_after [] bytes
front_rest bytes k byte command within is says =
    ap (λ (open_now : List ℕ). front_from open_after open_now (drop (k + 1) bytes))
    (sym (front_next bytes k byte within is ∙ closed (front bytes k) byte command (sym says)))
    ∙ sym (front_split [] bytes (k + 1))

-- what acts leaves the unfinished command as it is
go_on-open : (until : Option ℕ) (rest : List (Option Command)) (core all : CoreState) (open_bytes : List ℕ) → core.open_bytes ≡ open_bytes
    → all.open_bytes ≡ open_bytes → (go_on until rest core all).open_bytes ≡ open_bytes
go_on-open None rest core all open_bytes here there = there
go_on-open (Some end) rest core all open_bytes here there = here

pub all_acted-open : (held : List (Option Command)) (clock : Clock) (core : CoreState) → (all_acted held clock core).open_bytes ≡ core.open_bytes
all_acted-open [] clock core = refl
all_acted-open (None ∷ rest) clock core =
    go_on-open core.until rest core (all_acted rest clock core) core.open_bytes refl (all_acted-open rest clock core)
all_acted-open (Some command ∷ rest) clock core =
    let next : CoreState = core_acted command clock core in
    go_on-open next.until rest next (all_acted rest clock next) core.open_bytes refl (all_acted-open rest clock next)

-- a byte by what it completes
pub by_byte : (state : CoreState) (byte : ℕ) (clock : Clock) (said : Option Command) → said ≡ completed state.open_bytes byte
    → after_byte byte clock state ≡ arrived said clock (record state { open_bytes = open_after state.open_bytes byte })
by_byte state byte clock said is =
    ap (λ (o : Option Command). arrived o clock (record state { open_bytes = open_after state.open_bytes byte })) (sym is)

pub arrived_reset : (said : Option Command) (clock : Clock) (core : CoreState) → is_reset said ≡ true → arrived said clock core ≡ clean
arrived_reset said clock core is = ap (λ (b : Bool). if b then clean else arrived_in core.until said clock core) is

arrived_on : (said : Option Command) (clock : Clock) (core : CoreState) (until : Option ℕ) → is_reset said ≡ false → core.until ≡ until
    → arrived said clock core ≡ arrived_in until said clock core
arrived_on said clock core until is in_delay =
    ap (λ (b : Bool). if b then clean else arrived_in core.until said clock core) is
    ∙ ap (λ (u : Option ℕ). arrived_in u said clock core) in_delay

pub arrived_now : (said : Option Command) (clock : Clock) (core : CoreState) → is_reset said ≡ false → core.until ≡ None
    → arrived said clock core ≡ acted_if said clock core
arrived_now said clock core is none = arrived_on said clock core None is none

pub arrived_cancel : (said : Option Command) (clock : Clock) (core : CoreState) (end : ℕ) → is_reset said ≡ false → core.until ≡ Some end
    → is_cancel said ≡ true → arrived said clock core ≡ released clock core
arrived_cancel said clock core end is in_delay cancel =
    arrived_on said clock core (Some end) is in_delay ∙ ap (λ (b : Bool). if b then released clock core else held_more said clock core) cancel

pub arrived_held : (said : Option Command) (clock : Clock) (core : CoreState) (end : ℕ) → is_reset said ≡ false → core.until ≡ Some end
    → is_cancel said ≡ false → arrived said clock core ≡ held_more said clock core
arrived_held said clock core end is in_delay cancel =
    arrived_on said clock core (Some end) is in_delay ∙ ap (λ (b : Bool). if b then released clock core else held_more said clock core) cancel

pub fill_held : (until : Option ℕ) (end : ℕ) (said : Option Command) (held : List (Option Command)) → until ≡ Some end → is_reset said ≡ false
    → is_cancel said ≡ false → fill_in until said held ≡ length held + 1
fill_held until end said held in_delay is cancel =
    ap (λ (u : Option ℕ). fill_in u said held) in_delay
    ∙ ap (λ (b : Bool). if b then 0 else if is_cancel said then 0 else length held + 1) is
    ∙ ap (λ (b : Bool). if b then 0 else length held + 1) cancel
