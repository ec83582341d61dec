-- The commands of a text write its characters, one in each column from the pen's place on.
use Rattle.std.proofs.Common.{◌≡◌, ℕ, suc, ◌+◌, ◌-◌, ◌<◌, ◌≤◌, ◌==◌, ◌&&◌, nat_le, nat_lt, Bool, true, false, if◌then◌else◌, Option, Some, List, [], ◌∷◌, ◌++◌, length, get_or, refl, sym, ap, ◌∙◌, arith}
use Rattle.std.proofs.Math.Path.{fun_ext}
use Rattle.std.proofs.lemmas.Bool.Decides.{nat_tests}
use Rattle.dtvcc_codes.specs.declared.commands.Command.{Command}
use Rattle.dtvcc_codes.specs.declared.pens.PenAttr.{PenAttr}
use Rattle.dtvcc_codes.specs.declared.pens.PenColors.{PenColors}
use Rattle.dtvcc_codes.specs.declared.windows.Definition.{Definition}
use Rattle.dtvcc_codes.specs.declared.windows.WinAttr.{WinAttr}
use Rattle.dtvcc_windows.specs.declared.cells.DCell.{DCell}
use Rattle.dtvcc_windows.specs.Places.{Cells, with_window_cell}
use Rattle.dtvcc_windows.specs.Text.{with_character}
use Rattle.dtvcc_windows.specs.Windows.{WindowState}
use Rattle.dtvcc_author.specs.WindowCommands.{character_commands}
use Rattle.windows_shown.specs.Loading.{edited_all}

-- a hidden window of its parts
abbrev pub hidden : Definition → WinAttr → Cells → ℕ → ℕ → PenAttr → PenColors → WindowState
hidden d attributes cells row col pen colors = record {
  definition = d;
  visible = false;
  attributes = attributes;
  cells = cells;
  row = row;
  col = col;
  pen = pen;
  colors = colors;
}

-- commands after commands
pub edited_all-append : (commands more : List Command) (w : WindowState) → edited_all (commands ++ more) w ≡ edited_all more (edited_all commands w)
edited_all-append [] more w = refl
edited_all-append (command ∷ commands) more w = edited_all-append commands more _

-- the cell of a character
abbrev cell : PenAttr → PenColors → ℕ → Option DCell
cell pen colors ch = Some (record { ch = ch; pen = pen; colors = colors })

-- cells with the characters of a text: character j stands j columns right of the first one
abbrev with_text : PenAttr → PenColors → ℕ → ℕ → List ℕ → Cells → Cells
with_text pen colors row col text cells r c =
    if r == row && (nat_le col c && nat_lt c (col + length text)) then cell pen colors (get_or text (c - col) 0x20) else cells r c

-- two choices in turn as one
joined : (a d b : Bool) (x y z w : Option DCell)
    → (a ≡ true → (b ≡ true) × (x ≡ w)) → (a ≡ false → d ≡ true → (b ≡ true) × (y ≡ w)) → (a ≡ false → d ≡ false → b ≡ false)
    → (if a then x else (if d then y else z)) ≡ (if b then w else z)
joined true d b x y z w first second none = let h = first refl in rw (h.0) (h.1)
joined false true b x y z w first second none = let h = second refl refl in rw (h.0) (h.1)
joined false false b x y z w first second none = let h = none refl refl in rw h refl

-- no characters
no_text : (pen : PenAttr) (colors : PenColors) (row col : ℕ) (cells : Cells) → cells ≡ with_text pen colors row col [] cells
no_text pen colors row col cells = fun_ext (λ r. fun_ext (λ c.
    let none : (r == row && (nat_le col c && nat_lt c (col + 0))) ≡ false = grind (arith, nat_tests) in rw none refl))

-- a character, and those after it
next_text : (pen : PenAttr) (colors : PenColors) (row col ch : ℕ) (text : List ℕ) (cells : Cells)
    → with_text pen colors row (col + 1) text (with_window_cell cells row col (cell pen colors ch)) ≡ with_text pen colors row col (ch ∷ text) cells
next_text pen colors row col ch text cells = fun_ext (λ r. fun_ext (λ c.
    joined (r == row && (nat_le (col + 1) c && nat_lt c (col + 1 + length text))) (r == row && c == col)
    (r == row && (nat_le col c && nat_lt c (col + suc (length text))))
    (cell pen colors (get_or text (c - (col + 1)) 0x20)) (cell pen colors ch) (cells r c) (cell pen colors (get_or (ch ∷ text) (c - col) 0x20))
    (λ inside.
    let next : c - col ≡ suc (c - (col + 1)) = grind (arith, nat_tests) in
    (grind (arith, nat_tests), ap (λ n. cell pen colors (get_or (ch ∷ text) n 0x20)) (sym next)))
    (λ outside here.
    let first : c - col ≡ 0 = grind (arith, nat_tests) in
    (grind (arith, nat_tests), ap (λ n. cell pen colors (get_or (ch ∷ text) n 0x20)) (sym first)))
    (λ outside elsewhere. grind (arith, nat_tests))))

-- a character is written at the pen, which isn't past the last column
character_on : (d : Definition) (attributes : WinAttr) (cells : Cells) (row col : ℕ) (pen : PenAttr) (colors : PenColors) (ch : ℕ) → col < d.cols
    → with_character (Some ch) (hidden d attributes cells row col pen colors)
    ≡ hidden d attributes (with_window_cell cells row col (cell pen colors ch)) row (col + 1) pen colors
character_on d attributes cells row col pen colors ch within =
    let inside : (col == d.cols) ≡ false = grind (arith, nat_tests) in rw inside refl

-- a text that fits
pub text_on : (text : List ℕ) (d : Definition) (attributes : WinAttr) (cells : Cells) (row col : ℕ) (pen : PenAttr) (colors : PenColors)
    → col + length text ≤ d.cols
    → edited_all (character_commands text) (hidden d attributes cells row col pen colors)
    ≡ hidden d attributes (with_text pen colors row col text cells) row (col + length text) pen colors
text_on [] d attributes cells row col pen colors fits =
    let same : col ≡ col + 0 = omega arith in
    ap (λ n. hidden d attributes cells row n pen colors) same
    ∙ ap (λ g. hidden d attributes g row (col + 0) pen colors) (no_text pen colors row col cells)
text_on (ch ∷ text) d attributes cells row col pen colors fits =
    let far : col + 1 + length text ≡ col + suc (length text) = omega arith in
    ap (edited_all (character_commands text)) (character_on d attributes cells row col pen colors ch (omega arith))
    ∙ text_on text d attributes (with_window_cell cells row col (cell pen colors ch)) row (col + 1) pen colors (omega arith)
    ∙ ap (λ n. hidden d attributes (with_text pen colors row (col + 1) text (with_window_cell cells row col (cell pen colors ch))) row n pen colors) far
    ∙ ap (λ g. hidden d attributes g row (col + suc (length text)) pen colors) (next_text pen colors row col ch text cells)
