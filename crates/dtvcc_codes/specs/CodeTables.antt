-- Believed: the program's answer stands on these definitions.
-- The code sets of DTVCC (CTA-708-E, 7.1), as tables: the codes, how many parameter bytes follow each, and what the code says
-- with them. C0, G0, C1 and G1 are the sets of a single byte. The byte 10, EXT1, leads to the extended sets: the byte after it
-- is a code of C2, G2, C3 or G3.
use Rattle.std.specs.Prelude.{ℕ, ◌-◌, ◌%◌, ◌&&◌, nat_le, Bool, if◌then◌else◌, List, [], ◌∷◌, ◌++◌, Option, Some, None, slice_index}
use Rattle.dtvcc_codes.specs.declared.commands.Command.{Command}
use Rattle.dtvcc_codes.specs.declared.commands.Command.TheVariants.{Put, Etx, Bs, Ff, Cr, Hcr, Cw, Clw, Dsw, Hdw, Tgw, Dlw, Dly, Dlc, Rst, Spa, Spc, Spl, Swa, Df, Skipped}
use Rattle.dtvcc_codes.specs.Characters.{low_line, g0_of, g1_of, g2_of}
use Rattle.dtvcc_codes.specs.Parameters.{pen_attributes, pen_colors, window_attributes, definition}

-- the byte that leads to the extended code sets
abbrev pub ext1 : ℕ
ext1 = 0x10

-- what a code says with its parameters
abbrev pub Meaning : Type 0
Meaning = ℕ → List ℕ → Command

-- a row of a table: its first and last code, the number of parameter bytes after each, and what they say
pub record Row : Type 0 where
  pub first : ℕ
  pub last : ℕ
  pub count : ℕ
  pub says : Meaning

-- a row of these four
abbrev pub row : ℕ → ℕ → ℕ → Meaning → Row
row first last count says = record { first = first; last = last; count = count; says = says }

-- the code has no meaning here, and is passed over with its parameters
abbrev pub skipped : Meaning
skipped code parameters = Skipped

-- C0, the codes 00 to 1F without 10
abbrev pub c0_codes : List Row
c0_codes =
    row 0x00 0x02 0 skipped
    ∷ row 0x03 0x03 0 (λ code parameters. Etx)
    ∷ row 0x04 0x07 0 skipped
    ∷ row 0x08 0x08 0 (λ code parameters. Bs)
    ∷ row 0x09 0x0B 0 skipped
    ∷ row 0x0C 0x0C 0 (λ code parameters. Ff)
    ∷ row 0x0D 0x0D 0 (λ code parameters. Cr)
    ∷ row 0x0E 0x0E 0 (λ code parameters. Hcr)
    ∷ row 0x0F 0x0F 0 skipped
    ∷ row 0x11 0x17 1 skipped
    -- P16: a character of two bytes, which is shown as the low line
    ∷ row 0x18 0x18 2 (λ code parameters. Put (Some low_line))
    ∷ row 0x19 0x1F 2 skipped
    ∷ []

-- C1, the codes 80 to 9F
abbrev pub c1_codes : List Row
c1_codes =
    -- SetCurrentWindow, CW0 to CW7
    row 0x80 0x87 0 (λ code parameters. Cw (code - 0x80))
    -- ClearWindows, DisplayWindows, HideWindows, ToggleWindows, DeleteWindows: a bit for each window
    ∷ row 0x88 0x88 1 (λ code parameters. Clw (slice_index parameters 0))
    ∷ row 0x89 0x89 1 (λ code parameters. Dsw (slice_index parameters 0))
    ∷ row 0x8A 0x8A 1 (λ code parameters. Hdw (slice_index parameters 0))
    ∷ row 0x8B 0x8B 1 (λ code parameters. Tgw (slice_index parameters 0))
    ∷ row 0x8C 0x8C 1 (λ code parameters. Dlw (slice_index parameters 0))
    -- Delay, DelayCancel, Reset
    ∷ row 0x8D 0x8D 1 (λ code parameters. Dly (slice_index parameters 0))
    ∷ row 0x8E 0x8E 0 (λ code parameters. Dlc)
    ∷ row 0x8F 0x8F 0 (λ code parameters. Rst)
    -- SetPenAttributes, SetPenColor, SetPenLocation: row and column, ---- rrrr and -- cccccc
    ∷ row 0x90 0x90 2 (λ code parameters. Spa (pen_attributes parameters))
    ∷ row 0x91 0x91 3 (λ code parameters. Spc (pen_colors parameters))
    ∷ row 0x92 0x92 2 (λ code parameters. Spl (slice_index parameters 0 % 16) (slice_index parameters 1 % 64))
    ∷ row 0x93 0x96 0 skipped
    -- SetWindowAttributes
    ∷ row 0x97 0x97 4 (λ code parameters. Swa (window_attributes parameters))
    -- DefineWindow, DF0 to DF7
    ∷ row 0x98 0x9F 6 (λ code parameters. Df (definition (code - 0x98) parameters))
    ∷ []

-- the codes of a single byte
abbrev pub base_codes : List Row
base_codes =
    c0_codes
    -- G0
    ++ row 0x20 0x7F 0 (λ code parameters. Put (Some (g0_of code)))
    ∷ c1_codes
    -- G1
    ++ row 0xA0 0xFF 0 (λ code parameters. Put (Some (g1_of code)))
    ∷ []

-- the codes after EXT1, but for the codes of C3 that say themselves how many bytes follow
abbrev pub extended_codes : List Row
extended_codes =
    -- C2
    row 0x00 0x07 0 skipped
    ∷ row 0x08 0x0F 1 skipped
    ∷ row 0x10 0x17 2 skipped
    ∷ row 0x18 0x1F 3 skipped
    -- G2
    ∷ row 0x20 0x7F 0 (λ code parameters. Put (g2_of code))
    -- C3
    ∷ row 0x80 0x87 4 skipped
    ∷ row 0x88 0x8F 5 skipped
    -- G3: no character of it is shown
    ∷ row 0xA0 0xFF 0 (λ code parameters. Put (Some low_line))
    ∷ []

-- a code of C3, 90 to 9F, after which a byte stands whose low five bits count the bytes that follow it
abbrev pub is_counted : ℕ → Bool
is_counted code = nat_le 0x90 code && nat_le code 0x9F

-- the code is in the row
abbrev pub holds_code : Row → ℕ → Bool
holds_code row code = nat_le row.first code && nat_le code row.last

-- the code's row in a table
abbrev pub row_at : List Row → ℕ → Option Row
row_at [] code = None
row_at (row ∷ rows) code = if holds_code row code then Some row else row_at rows code
