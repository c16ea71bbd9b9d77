-- What the argument on orders needs to know of a choice from offers. It knows no cards, caps or words.
use Rattle.std.specs.Prelude.{◌≡◌, ℕ, ◌<◌, true, false, List}
use Rattle.books.specs.Lanes.{has}
use Rattle.matching.specs.Offers.{Offers}

-- at the first n lanes, whatever is on offer in the one is on offer in the other
abbrev pub Within : ℕ → Offers → Offers → Type 0
Within n O P = (l i : ℕ) → l < n → O l i ≡ true → P l i ≡ true

-- a choice C at n lanes; lane l stands in shed (home l) and ranks the lots R l
pub record Choosing (n : ℕ) (home : ℕ → ℕ) (R : ℕ → List ℕ) (C : Offers → Offers) : Type 0 where
  -- only what is on offer is chosen
  pub only_offered : (O : Offers) (l i : ℕ) → C O l i ≡ true → O l i ≡ true
  -- only who is ranked is chosen
  pub only_ranked : (O : Offers) (l i : ℕ) → C O l i ≡ true → has (R l) i ≡ true
  -- who is on offer and not chosen is not chosen from larger offers either
  pub substitutes : (O P : Offers) → Within n O P → (l i : ℕ) → l < n → O l i ≡ true → C O l i ≡ false → C P l i ≡ false
  -- taking away offers that are not chosen changes no choice
  pub irrelevance : (O P : Offers) → Within n O P → ((l i : ℕ) → l < n → C P l i ≡ true → O l i ≡ true) → (l i : ℕ) → l < n → C O l i ≡ C P l i
  -- what a shed chooses depends on the offers at its own lanes
  pub own_shed : (O P : Offers) (l : ℕ) → l < n → ((k i : ℕ) → k < n → home k ≡ home l → O k i ≡ P k i) → (i : ℕ) → C O l i ≡ C P l i
