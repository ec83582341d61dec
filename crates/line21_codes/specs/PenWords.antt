-- Believed: the program's answer stands on these definitions.
-- The words of line 21 pens, in cue lists and in the texts of screens: a colour, and after it -i for italics and -u for underlining.
use Rattle.std.specs.Prelude.{ℕ, Bool, if◌then◌else◌, List, [], codes}
use Rattle.line21_codes.specs.declared.styles.Colour.{Colour}
use Rattle.line21_codes.specs.declared.styles.Colour.TheVariants.{White, Green, Blue, Cyan, Red, Yellow, Magenta}

-- the word of a colour
abbrev pub colour_word : Colour → List ℕ
colour_word White = codes "white"
colour_word Green = codes "green"
colour_word Blue = codes "blue"
colour_word Cyan = codes "cyan"
colour_word Red = codes "red"
colour_word Yellow = codes "yellow"
colour_word Magenta = codes "magenta"

-- what an italic pen has after its colour, and what an underlined pen has after that
abbrev pub italic_mark : Bool → List ℕ
italic_mark italic = if italic then codes "-i" else []

abbrev pub underline_mark : Bool → List ℕ
underline_mark underline = if underline then codes "-u" else []
