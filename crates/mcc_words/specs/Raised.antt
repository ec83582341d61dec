-- Believed: the program's answer stands on these definitions.
-- Distribution packets with another counter (SMPTE ST 334-2): the counter raised in the header and in the footer, and the sum made right;
-- all else as it came.
use Rattle.std.specs.Prelude.{◌≡◌, ℕ, ◌+◌, ◌*◌, ◌%◌, ◌<◌, List, [], ◌∷◌, ◌++◌, length, sum}

-- the user bytes are a distribution packet with the counter raised by this much, modulo 65536
pub record IsRaised (by : ℕ) (user raised : List ℕ) : Type 0 where
  pub head : List ℕ
  pub middle : List ℕ
  pub high : ℕ
  pub low : ℕ
  pub last : ℕ
  pub high_again : ℕ
  pub low_again : ℕ
  pub last_again : ℕ
  pub five : length head ≡ 5
  pub user_is : user ≡ head ++ (high ∷ low ∷ (middle ++ 0x74 ∷ high ∷ low ∷ last ∷ []))
  pub raised_is : raised ≡ head ++ (high_again ∷ low_again ∷ (middle ++ 0x74 ∷ high_again ∷ low_again ∷ last_again ∷ []))
  pub counter : 256 * high_again + low_again ≡ (256 * high + low + by) % 65536
  pub bytes : (high_again < 256) × (low_again < 256) × (last_again < 256)
  pub total : sum raised % 256 ≡ 0
