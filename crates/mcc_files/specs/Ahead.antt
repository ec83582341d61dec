-- Between crates: the program's answer stands on none of these definitions.
-- The items with which a text begins, whose bytes are added to others.
use Rattle.std.specs.Prelude.{◌≡◌, ℕ, List, ◌++◌}
use Rattle.std.specs.List.{concat}
use Rattle.mcc_files.specs.Items.{AreItems, IsItem}

-- the text begins with an item, whose bytes were added
pub record IsItemAhead (text rest before after : List ℕ) : Type 0 where
  pub front : List ℕ
  pub brought : List ℕ
  pub is : IsItem brought front
  pub spelled : text ≡ front ++ rest
  pub added : after ≡ before ++ brought

-- the text begins with items, whose bytes were added
pub record AreItemsAhead (text rest before after : List ℕ) : Type 0 where
  pub front : List ℕ
  pub items : List (List ℕ)
  pub are : AreItems items front
  pub spelled : text ≡ front ++ rest
  pub added : after ≡ before ++ concat items
