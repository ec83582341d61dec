-- A character of ASCII is its own byte.
use Rattle.std.proofs.Common.{◌≡◌, ℕ, ◌<◌, ◌≤◌, ◌==◌, false, ◌∷◌, [], refl, arith, inl, inr, eqb-true, lt-ltb, le-leb}
use Rattle.std.proofs.lemmas.Bool.{cases_Bool}
use Rattle.dtvcc_codes.specs.CharacterSpellings.{dtvcc_spelling}
use Rattle.dtvcc_codes.specs.Writing.{bytes_of_command}
use Rattle.dtvcc_codes.specs.declared.commands.Command.TheVariants.{Put}
use Rattle.std.specs.Prelude.{Some}

not_note : (ch : ℕ) → ch < 0x7F → (ch == 0x266A) ≡ false
not_note ch below =
    elim (cases_Bool (ch == 0x266A)) [
      | inl same ↦ absurd (let is : ch ≡ 0x266A = eqb-true ch 0x266A same in omega arith)
      | inr other ↦ other
    ]

pub ascii_written : (ch : ℕ) → 0x20 ≤ ch → ch < 0x7F → bytes_of_command (Put (Some ch)) ≡ ch ∷ []
unfolding bytes_of_command dtvcc_spelling
ascii_written ch from below = rw (not_note ch below, le-leb 0x20 ch from, lt-ltb ch 0x7F below) refl
