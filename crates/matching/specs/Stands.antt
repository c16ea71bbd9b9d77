-- Where a round stands, whatever was entered and applied before.
use Rattle.std.specs.Prelude.{◌≡◌, ℕ, ◌<◌, ◌≤◌, List, length}
use Rattle.matching.specs.Offers.{Offers}
use Rattle.matching.specs.Vectors.{offers, Closed}

-- lot i has the list L i and has tried its first (a i) wishes; H says which lane holds which lot
pub record Stands (n : ℕ) (C : Offers → Offers) (L : ℕ → List ℕ) (a : ℕ → ℕ) (H : Offers) : Type 0 where
  pub within : (i : ℕ) → a i ≤ length (L i)
  -- a lot is held exactly where it is chosen from all that was ever offered
  pub held_is_chosen : (l i : ℕ) → l < n → H l i ≡ C (offers L a) l i
  -- nobody has tried a wish beyond any closed vector, and so beyond the least
  pub below_closed : (b : ℕ → ℕ) → Closed C L b → (i : ℕ) → a i ≤ b i
