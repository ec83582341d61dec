-- What bytes spell is in the ranges of its fields, and DelayCancel and Reset have a code each.
use Rattle.std.proofs.Common.{◌≡◌, ℕ, ◌-◌, ◌<◌, ◌≤◌, ◌⊎◌, inl, inr, nat_le, Bool, true, false, if◌then◌else◌, List, [], ◌∷◌, length, get_or, IsSome, Option, Some, None, refl, sym, ap, subst, ◌∙◌, arith}
use Rattle.std.specs.List.{All}
use Rattle.std.proofs.lemmas.Bool.{and_parts}
use Rattle.std.proofs.lemmas.Bool.Decides.{nat_tests}
use Rattle.std.proofs.lemmas.List.{get_or_past}
use Rattle.std.proofs.lemmas.List.Elements.{All-get_or, All-tail}
use Rattle.dtvcc_codes.specs.declared.commands.Command.{Command}
use Rattle.dtvcc_codes.specs.declared.commands.Command.TheVariants.{Put, Dlc, Rst, Skipped}
use Rattle.dtvcc_codes.specs.CodeTables.{Row, base_codes, extended_codes, holds_code, row_at}
use Rattle.dtvcc_codes.specs.CharacterSpellings.{dtvcc_spelling}
use Rattle.dtvcc_codes.specs.Parameters.{definition, fill_of, pen_attributes, pen_colors, rgb_of, window_attributes}
use Rattle.dtvcc_codes.specs.Spellable.{IsDefinition, IsFill, IsPenAttr, IsPenColors, IsRgb, IsSpellable, IsWinAttr}
use Rattle.dtvcc_codes.specs.Spelling.{Spells}
use Rattle.dtvcc_codes.specs.Spelling.Spells.{base, extended, counted}
use Rattle.dtvcc_codes.proofs.CharacterLemmas.{g0_spelled, g1_spelled, g2_spelled, low_line_spelled}
use Rattle.dtvcc_codes.specs.Reading.{count_at}
use Rattle.dtvcc_codes.proofs.SizeLemmas.{count_at-row}
use Rattle.dtvcc_codes.proofs.SpellingLemmas.{IsByte}

-- a row keeps to this, at each of its codes
abbrev KeepsTo : (ℕ → List ℕ → Command → Type 0) → Row → Type 0
KeepsTo P row = (code : ℕ) (parameters : List ℕ) → row.first ≤ code → code ≤ row.last → P code parameters (row.says code parameters)

-- each row of a table does
abbrev AllKeepTo : (ℕ → List ℕ → Command → Type 0) → List Row → Type 0
AllKeepTo P [] = Unit {0}
AllKeepTo P (row ∷ rows) = KeepsTo P row × AllKeepTo P rows

-- what the code's row says keeps to it too
covered : (row : Row) (code : ℕ) → holds_code row code ≡ true → (row.first ≤ code) × (code ≤ row.last)
covered row code is =
    let (from, to) = and_parts (nat_le row.first code) (nat_le code row.last) is in
    (at_most row.first code from, at_most code row.last to) where
      at_most : (a b : ℕ) → nat_le a b ≡ true → a ≤ b
      at_most a b le = grind (arith, nat_tests)

row_keeps_to : (P : ℕ → List ℕ → Command → Type 0) (rows : List Row) → AllKeepTo P rows → (code : ℕ) (parameters : List ℕ) (row : Row)
    → row_at rows code ≡ Some row → P code parameters (row.says code parameters)
row_keeps_to P [] all code parameters row at = absurd cc
row_keeps_to P (first ∷ rows) (keeps, others) code parameters row at =
    by_test (holds_code first code) refl at (λ is. row_keeps_to P rows others code parameters row is) where
      by_test : (t : Bool) → holds_code first code ≡ t → (if t then Some first else row_at rows code) ≡ Some row
          → (row_at rows code ≡ Some row → P code parameters (row.says code parameters)) → P code parameters (row.says code parameters)
      by_test true test is rest =
          let same : first ≡ row = cc in
          let (from, to) = covered first code test in
          subst (λ (r : Row). P code parameters (r.says code parameters)) same (keeps code parameters from to)
      by_test false test is rest = rest is

-- a parameter is a byte
byte_at : (parameters : List ℕ) (k : ℕ) → All IsByte parameters → get_or parameters k 0 < 256
byte_at parameters k are = by_test (nat_le (length parameters) k) refl where
  by_test : (t : Bool) → nat_le (length parameters) k ≡ t → get_or parameters k 0 < 256
  by_test true is = let past : length parameters ≤ k = grind (arith, nat_tests) in omega (arith, get_or_past parameters k 0 past)
  by_test false is = All-get_or IsByte parameters k 0 (grind (arith, nat_tests)) are

-- the fields
fill_fits : (byte : ℕ) → byte < 256 → IsFill (fill_of byte)
fill_fits byte is = record { opacity = omega arith; r = omega arith; g = omega arith; b = omega arith }

rgb_fits : (byte : ℕ) → IsRgb (rgb_of byte)
rgb_fits byte = record { r = omega arith; g = omega arith; b = omega arith }

pen_fits : (parameters : List ℕ) → All IsByte parameters → IsPenAttr (pen_attributes parameters)
pen_fits parameters are =
    let first = byte_at parameters 0 are in
    record { size = omega arith; font = omega arith; tag = omega (arith, first); offset = omega arith; edge = omega arith }

colors_fit : (parameters : List ℕ) → All IsByte parameters → IsPenColors (pen_colors parameters)
colors_fit parameters are = record {
  fg = fill_fits (get_or parameters 0 0) (byte_at parameters 0 are);
  bg = fill_fits (get_or parameters 1 0) (byte_at parameters 1 are);
  edge = rgb_fits (get_or parameters 2 0);
}

attributes_fit : (parameters : List ℕ) → All IsByte parameters → IsWinAttr (window_attributes parameters)
attributes_fit parameters are =
    let second = byte_at parameters 1 are in
    let third = byte_at parameters 2 are in
    let fourth = byte_at parameters 3 are in
    record {
      justify = omega arith;
      print = omega arith;
      scroll = omega arith;
      effect = omega arith;
      effect_dir = omega arith;
      effect_speed = omega (arith, fourth);
      fill = fill_fits (get_or parameters 0 0) (byte_at parameters 0 are);
      border_kind = omega (arith, second, third);
      border = rgb_fits (get_or parameters 1 0);
    }

definition_fits : (id : ℕ) (parameters : List ℕ) → id < 8 → All IsByte parameters → IsDefinition (definition id parameters)
definition_fits id parameters window are =
    let third = byte_at parameters 2 are in
    let fourth = byte_at parameters 3 are in
    record {
      id = window;
      priority = omega arith;
      av = omega arith;
      ah = third;
      anchor = omega (arith, fourth);
      some_rows = omega arith;
      rows = omega arith;
      some_cols = omega arith;
      cols = omega arith;
      ws = omega arith;
      ps = omega arith;
    }

-- each row says what can be spelled
Fits : ℕ → List ℕ → Command → Type 0
Fits code parameters command = All IsByte parameters → IsSpellable command

base_fits : AllKeepTo Fits base_codes
unfolding Fits
base_fits = (
  λ code ps from to are. tt,
  (
    λ code ps from to are. tt,
    (
      λ code ps from to are. tt,
      (
        λ code ps from to are. tt,
        (
          λ code ps from to are. tt,
          (
            λ code ps from to are. tt,
            (
              λ code ps from to are. tt,
              (
                λ code ps from to are. tt,
                (
                  λ code ps from to are. tt,
                  (
                    λ code ps from to are. tt,
                    (
                      λ code ps from to are. low_line_spelled,
                      (
                        λ code ps from to are. tt,
                        (
                          λ code ps from to are. g0_spelled code from to,
                          (
                            λ code ps from to are. omega arith,
                            (
                              λ code ps from to are. byte_at ps 0 are,
                              (
                                λ code ps from to are. byte_at ps 0 are,
                                (
                                  λ code ps from to are. byte_at ps 0 are,
                                  (
                                    λ code ps from to are. byte_at ps 0 are,
                                    (
                                      λ code ps from to are. byte_at ps 0 are,
                                      (
                                        λ code ps from to are. byte_at ps 0 are,
                                        (
                                          λ code ps from to are. tt,
                                          (
                                            λ code ps from to are. tt,
                                            (
                                              λ code ps from to are. pen_fits ps are,
                                              (
                                                λ code ps from to are. colors_fit ps are,
                                                (
                                                  λ code ps from to are. (omega arith, omega arith),
                                                  (
                                                    λ code ps from to are. tt,
                                                    (
                                                      λ code ps from to are. attributes_fit ps are,
                                                      (
                                                        λ code ps from to are. definition_fits (code - 0x98) ps (omega arith) are,
                                                        (
                                                          λ code ps from to are. g1_spelled code from to,
                                                          tt,
                                                        ),
                                                      ),
                                                    ),
                                                  ),
                                                ),
                                              ),
                                            ),
                                          ),
                                        ),
                                      ),
                                    ),
                                  ),
                                ),
                              ),
                            ),
                          ),
                        ),
                      ),
                    ),
                  ),
                ),
              ),
            ),
          ),
        ),
      ),
    ),
  ),
)

extended_fits : AllKeepTo Fits extended_codes
unfolding Fits
extended_fits = (
  λ code ps from to are. tt,
  (
    λ code ps from to are. tt,
    (
      λ code ps from to are. tt,
      (
        λ code ps from to are. tt,
        (
          λ code ps from to are. g2_spelled code to,
          (
            λ code ps from to are. tt,
            (
              λ code ps from to are. tt,
              (
                λ code ps from to are. low_line_spelled,
                tt,
              ),
            ),
          ),
        ),
      ),
    ),
  ),
)

pub spelled_is_spellable : (command : Command) (bytes : List ℕ) → All IsByte bytes → Spells command bytes → IsSpellable command
unfolding Fits
spelled_is_spellable command bytes are (base code parameters row is at count says) =
    let all : All IsByte (code ∷ parameters) = subst (λ xs. All IsByte xs) is are in
    subst (λ c. IsSpellable c) (sym says) (row_keeps_to Fits base_codes base_fits code parameters row at (All-tail IsByte code parameters all))
spelled_is_spellable command bytes are (extended code parameters row is at count says) =
    let all : All IsByte (16 ∷ code ∷ parameters) = subst (λ xs. All IsByte xs) is are in
    subst (λ c. IsSpellable c) (sym says)
    (row_keeps_to Fits extended_codes extended_fits code parameters row at (All-tail IsByte code parameters (All-tail IsByte 16 (code ∷ parameters) all)))
spelled_is_spellable command bytes are (counted code count skipped is test many says) = subst (λ c. IsSpellable c) (sym says) tt

-- a character without a spelling is put by no bytes
pub unspelled_is_not_put : (ch : ℕ) (bytes : List ℕ) → dtvcc_spelling ch ≡ None → All IsByte bytes → Spells (Put (Some ch)) bytes → ⊥
unspelled_is_not_put ch bytes none are spells =
    let some : IsSome (dtvcc_spelling ch) = spelled_is_spellable (Put (Some ch)) bytes are spells in
    let nothing : IsSome {T = List ℕ} None = subst (λ (o : Option (List ℕ)). IsSome o) none some in
    cc

-- the code of DelayCancel and of Reset; no other command has one here
own_code : Command → ℕ
own_code Dlc = 0x8E
own_code Rst = 0x8F
own_code _ = 0

-- a row says them at their codes alone
HasOwnCode : ℕ → List ℕ → Command → Type 0
HasOwnCode code parameters command = (own_code command ≡ 0) ⊎ (code ≡ own_code command)

base_own : AllKeepTo HasOwnCode base_codes
unfolding HasOwnCode own_code
base_own = (
  λ code ps from to. inl refl,
  (
    λ code ps from to. inl refl,
    (
      λ code ps from to. inl refl,
      (
        λ code ps from to. inl refl,
        (
          λ code ps from to. inl refl,
          (
            λ code ps from to. inl refl,
            (
              λ code ps from to. inl refl,
              (
                λ code ps from to. inl refl,
                (
                  λ code ps from to. inl refl,
                  (
                    λ code ps from to. inl refl,
                    (
                      λ code ps from to. inl refl,
                      (
                        λ code ps from to. inl refl,
                        (
                          λ code ps from to. inl refl,
                          (
                            λ code ps from to. inl refl,
                            (
                              λ code ps from to. inl refl,
                              (
                                λ code ps from to. inl refl,
                                (
                                  λ code ps from to. inl refl,
                                  (
                                    λ code ps from to. inl refl,
                                    (
                                      λ code ps from to. inl refl,
                                      (
                                        λ code ps from to. inl refl,
                                        (
                                          λ code ps from to. inr (omega arith),
                                          (
                                            λ code ps from to. inr (omega arith),
                                            (
                                              λ code ps from to. inl refl,
                                              (
                                                λ code ps from to. inl refl,
                                                (
                                                  λ code ps from to. inl refl,
                                                  (
                                                    λ code ps from to. inl refl,
                                                    (
                                                      λ code ps from to. inl refl,
                                                      (
                                                        λ code ps from to. inl refl,
                                                        (
                                                          λ code ps from to. inl refl,
                                                          tt,
                                                        ),
                                                      ),
                                                    ),
                                                  ),
                                                ),
                                              ),
                                            ),
                                          ),
                                        ),
                                      ),
                                    ),
                                  ),
                                ),
                              ),
                            ),
                          ),
                        ),
                      ),
                    ),
                  ),
                ),
              ),
            ),
          ),
        ),
      ),
    ),
  ),
)

-- and no row after EXT1 says them
HasNoOwnCode : ℕ → List ℕ → Command → Type 0
HasNoOwnCode code parameters command = own_code command ≡ 0

extended_own : AllKeepTo HasNoOwnCode extended_codes
unfolding HasNoOwnCode own_code
extended_own = (
  λ code ps from to. refl,
  (
    λ code ps from to. refl,
    (
      λ code ps from to. refl,
      (
        λ code ps from to. refl,
        (
          λ code ps from to. refl,
          (
            λ code ps from to. refl,
            (
              λ code ps from to. refl,
              (
                λ code ps from to. refl,
                tt,
              ),
            ),
          ),
        ),
      ),
    ),
  ),
)

skipped_own : own_code Skipped ≡ 0
unfolding own_code
skipped_own = refl

no_elements : (xs : List ℕ) → length xs ≡ 0 → xs ≡ []
no_elements [] none = refl
no_elements (x ∷ xs) none = absurd (omega arith)

-- so their spelling is that code alone
alone : (command : Command) (bytes : List ℕ) (n : ℕ) → own_code command ≡ n → 0 < n → count_at base_codes n ≡ 0 → Spells command bytes → bytes ≡ n ∷ []
unfolding HasOwnCode HasNoOwnCode
alone command bytes n own some none (base code parameters row is at count says) =
    by_own (subst (λ c. HasOwnCode code parameters c) (sym says) (row_keeps_to HasOwnCode base_codes base_own code parameters row at)) where
      by_own : (own_code command ≡ 0) ⊎ (code ≡ own_code command) → bytes ≡ n ∷ []
      by_own (inl zero_code) = absurd (omega (arith, zero_code, own, some))
      by_own (inr same) =
          let code_is : code ≡ n = same ∙ own in
          let empty : length parameters ≡ 0 = count ∙ sym (count_at-row base_codes code row at) ∙ ap (λ c. count_at base_codes c) code_is ∙ none in
          is ∙ ap (λ ps. code ∷ ps) (no_elements parameters empty) ∙ ap (λ c. c ∷ []) code_is
alone command bytes n own some none (extended code parameters row is at count says) =
    let no_code : own_code command ≡ 0 =
    subst (λ c. own_code c ≡ 0) (sym says) (row_keeps_to HasNoOwnCode extended_codes extended_own code parameters row at) in
    absurd (omega (arith, no_code, own, some))
alone command bytes n own some none (counted code count skipped is test many says) =
    let no_code : own_code command ≡ 0 = ap own_code says ∙ skipped_own in
    absurd (omega (arith, no_code, own, some))

pub delay_cancel_is : (bytes : List ℕ) → Spells Dlc bytes → bytes ≡ 0x8E ∷ []
unfolding own_code
delay_cancel_is bytes = alone Dlc bytes 0x8E refl (omega arith) refl

pub reset_is : (bytes : List ℕ) → Spells Rst bytes → bytes ≡ 0x8F ∷ []
unfolding own_code
reset_is bytes = alone Rst bytes 0x8F refl (omega arith) refl
