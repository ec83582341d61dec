-- Between crates: the program's answer stands on none of these definitions.
-- How far the sections of a packet were walked.
use Rattle.std.specs.Prelude.{◌≡◌, ℕ, ◌++◌, ◌∷◌, [], ◌⊎◌, List, length, true, false}
use Rattle.std.specs.List.{All, concat}
use Rattle.packet_inserter.specs.Insertion.{is_time_code_section}

-- the bytes are the bytes of the time codes with which the sections begin: after them stands another section, or none
pub record StandsBehindTimeCodes (sections : List (List ℕ)) (place : ℕ) : Type 0 where
  pub before : List (List ℕ)
  pub behind : List (List ℕ)
  pub cut : sections ≡ before ++ behind
  pub time_codes : All (λ section. is_time_code_section section ≡ true) before
  pub ends : (behind ≡ []) ⊎ ((first : List ℕ) × (others : List (List ℕ)) × (behind ≡ first ∷ others) × (is_time_code_section first ≡ false))
  pub long : place ≡ length (concat before)
