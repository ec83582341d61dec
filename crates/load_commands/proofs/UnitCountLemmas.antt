-- A caption of a load has few units: on a channel 25 at most, in a window 23, each of at most seven bytes.
use Rattle.std.proofs.Common.{◌≡◌, ℕ, zero, suc, ◌+◌, ◌*◌, ◌≤◌, ◌%◌, nat_le, true, false, List, [], ◌∷◌, ◌++◌, length, map, Option, Some, None, unwrap_or, refl, arith, length-append}
use Rattle.std.specs.List.{AllByRecursion, cons_option, filter_map}
use Rattle.std.proofs.lemmas.Bool.Decides.{nat_tests}
use Rattle.std.proofs.lemmas.List.{length-map}
use Rattle.std.proofs.lemmas.List.Elements.{recursion_from_All}
use Rattle.line21_codes.specs.declared.channels.FieldNumber.TheVariants.{One, Two}
use Rattle.line21_codes.specs.Spellings.{spelling_of}
use Rattle.line21_codes.specs.declared.channels.Chan.TheVariants.{Cc1, Cc3}
use Rattle.line21_codes.specs.declared.characters.Spelling.{Spelling}
use Rattle.line21_codes.specs.declared.characters.Spelling.TheVariants.{Basic, Special, Extended}
use Rattle.line21_codes.specs.declared.styles.Colour.TheVariants.{White, Yellow}
use Rattle.dtvcc_codes.specs.CharacterSpellings.{dtvcc_spelling as dtv_spelling_of}
use Rattle.dtvcc_codes.specs.Writing.{bytes_of_command}
use Rattle.dtvcc_codes.specs.declared.commands.Command.TheVariants.{Df, Put, Spa, Spl}
use Rattle.dtvcc_codes.specs.declared.pens.PenAttr.{PenAttr}
use Rattle.dtvcc_codes.specs.declared.windows.Definition.{Definition}
use Rattle.dtvcc_codes.proofs.CharacterLemmas.{all_below, at_each}
use Rattle.cue_types.specs.declared.cue.Cue.{Cue}
use Rattle.cue_types.specs.declared.cue.Kind.{Kind}
use Rattle.cue_types.specs.declared.cue.Kind.TheVariants.{Paint, Pop, Win}
use Rattle.cue_types.specs.declared.cue.Pen.TheVariants.{Dtv}
use Rattle.cue_types.specs.declared.cue.Run.{Run}
use Rattle.line21_author.specs.CueCodes.{cue_codes}
use Rattle.line21_author.specs.CueUnits.{unit_of, units_of}
use Rattle.line21_author.specs.TextCodes.{packed, text_codes}
use Rattle.dtvcc_author.specs.CueUnits as window
use Rattle.dtvcc_author.specs.WindowCommands.{character_commands, definition_of}
use Rattle.load_commands.specs.LoadList.{line21_run, load_text, load_window}
use Rattle.load_commands.proofs.FormedLemmas.{load_kind, load_run, of_letters}
use Rattle.load_commands.proofs.LetterLemmas.{is_basic, letter, letter_basic}

-- a caption of a load, as the caption of a turn
abbrev pub turned : ℕ → ℕ → Cue
turned k turn = record { load = 90 * k; show = 90 * k + 60; hide = Some (90 * k + 150); kind = load_kind k turn; runs = load_run k turn ∷ [] }

-- basic characters are packed into no more codes than there are, and one that waits
packed_few : (waiting : Option ℕ) (text : List ℕ) → AllByRecursion (λ ch. is_basic (spelling_of ch) ≡ true) text
    → length (packed waiting (filter_map spelling_of text)) ≤ length text + 1
packed_few None [] basic = omega arith
packed_few (Some first) [] basic = omega arith
packed_few waiting (ch ∷ text) basic =
    at waiting (spelling_of ch) basic.0 (packed_few None text basic.1) (λ byte. packed_few (Some byte) text basic.1)
  where
    at : (before : Option ℕ) (spelling : Option Spelling) → is_basic spelling ≡ true
        → length (packed None (filter_map spelling_of text)) ≤ length text + 1
        → ((byte : ℕ) → length (packed (Some byte) (filter_map spelling_of text)) ≤ length text + 1)
        → length (packed before (cons_option spelling (filter_map spelling_of text))) ≤ suc (length text) + 1
    at before None is none some = cc
    at None (Some (Basic byte)) is none some = let most = some byte in omega (arith, most)
    at (Some first) (Some (Basic byte)) is none some = omega (arith, none)
    at before (Some (Special byte)) is none some = cc
    at before (Some (Extended fallback set byte)) is none some = cc

text_few : (k : ℕ) → length (text_codes (load_text k)) ≤ 21
text_few k =
    packed_few None (load_text k)
    (recursion_from_All (λ ch. is_basic (spelling_of ch) ≡ true) (load_text k) (of_letters (λ ch. is_basic (spelling_of ch) ≡ true) letter_basic k))

-- a line 21 caption of a text
abbrev captioned : ℕ → Kind → Run → Cue
captioned k kind run = record { load = 90 * k; show = 90 * k + 60; hide = Some (90 * k + 150); kind = kind; runs = run ∷ [] }

pop_few : (k : ℕ) (text : List ℕ) → length (text_codes text) ≤ 21 → length (units_of (captioned k (Pop Cc1) (line21_run 14 4 White text))) ≤ 29
pop_few k text few =
    let cue = captioned k (Pop Cc1) (line21_run 14 4 White text) in
    let same = length-map (cue_codes cue) (unit_of One) in
    let behind = length-append (text_codes text) [] in
    omega (arith, few, same, behind)

paint_few : (k : ℕ) (text : List ℕ) → length (text_codes text) ≤ 21 → length (units_of (captioned k (Paint Cc3) (line21_run 15 8 Yellow text))) ≤ 29
paint_few k text few =
    let cue = captioned k (Paint Cc3) (line21_run 15 8 Yellow text) in
    let same = length-map (cue_codes cue) (unit_of Two) in
    let behind = length-append (text_codes text) [] in
    omega (arith, few, same, behind)

pub units_few : (k turn : ℕ) → length (units_of (turned k turn)) ≤ 29
units_few k zero = pop_few k (load_text k) (text_few k)
units_few k (suc zero) = omega arith
units_few k (suc (suc turn)) = paint_few k (load_text k) (text_few k)

-- a letter in a window
letters_small : all_below (λ n. nat_le (length (unwrap_or (dtv_spelling_of (65 + n)) [])) 7) 26 ≡ true
unfolding all_below dtv_spelling_of
letters_small = refl

le_of : (a b : ℕ) → nat_le a b ≡ true → a ≤ b
le_of a b is = grind (arith, nat_tests)

letter_small : (n : ℕ) → length (bytes_of_command (Put (Some (letter n)))) ≤ 7
unfolding bytes_of_command
letter_small n =
    le_of (length (unwrap_or (dtv_spelling_of (letter n)) [])) 7
    (at_each (λ m. nat_le (length (unwrap_or (dtv_spelling_of (65 + m)) [])) 7) 26 letters_small (n % 26) (omega arith))

pub window_units_count : (k : ℕ) → length (window.window_cue_units (turned k 1)) ≡ 23
window_units_count k = refl

-- units of at most seven bytes
abbrev AreSmall : List (List ℕ) → Type 0
AreSmall units = AllByRecursion (λ (unit : List ℕ). length unit ≤ 7) units

characters_small : (text : List ℕ) → AllByRecursion (λ ch. length (bytes_of_command (Put (Some ch))) ≤ 7) text → AreSmall (map bytes_of_command (character_commands text ++ []))
characters_small [] small = tt
characters_small (ch ∷ text) small = (small.0, characters_small text small.1)

first_small : (definition : Definition) → length (bytes_of_command (Df definition)) ≤ 7
unfolding bytes_of_command
first_small definition = omega arith

place_small : length (bytes_of_command (Spl 0 0)) ≤ 7
unfolding bytes_of_command
place_small = omega arith

pen_small : (pen : PenAttr) → length (bytes_of_command (Spa pen)) ≤ 7
unfolding bytes_of_command
pen_small pen = omega arith

window_small : (k : ℕ) (text : List ℕ) → AllByRecursion (λ ch. length (bytes_of_command (Put (Some ch))) ≤ 7) text
    → AreSmall (window.window_cue_units (captioned k (Win (load_window k)) (record { row = 0; col = 0; pen = Dtv false false; text = text; colors = None })))
window_small k text small = (first_small (definition_of (load_window k)), (place_small, (pen_small _, characters_small text small)))

pub window_units_small : (k : ℕ) → AllByRecursion (λ (unit : List ℕ). length unit ≤ 7) (window.window_cue_units (turned k 1))
window_units_small k =
    window_small k (load_text k)
    (recursion_from_All (λ ch. length (bytes_of_command (Put (Some ch))) ≤ 7) (load_text k) (of_letters (λ ch. length (bytes_of_command (Put (Some ch))) ≤ 7) letter_small k))
