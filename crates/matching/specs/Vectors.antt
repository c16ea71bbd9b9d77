-- How many wishes each lot has tried, and when nobody has to try another.
use Rattle.std.specs.Prelude.{◌≡◌, ℕ, ◌-◌, ◌<◌, ◌≤◌, true, false, List, length, take, ◌==◌}
use Rattle.sharing.specs.Rules.{at}
use Rattle.books.specs.Lanes.{has, distinct, all_below}
use Rattle.matching.specs.Offers.{Offers}

-- the lists of all lots name lanes below n, each once
pub record Listed (n : ℕ) (L : ℕ → List ℕ) : Type 0 where
  pub known : (i : ℕ) → all_below n (L i) ≡ true
  pub once : (i : ℕ) → distinct (L i) ≡ true

-- a function with another value at i
abbrev pub put : {A : Type 0} → (ℕ → A) → ℕ → A → ℕ → A
put f i y x = elim (x == i) [ true ↦ y | false ↦ f x ]

-- what is on offer when lot i has tried the first (a i) wishes of its list
abbrev pub offers : (ℕ → List ℕ) → (ℕ → ℕ) → Offers
offers L a l i = has (take (a i) (L i)) l

-- a closed vector: each lot has tried its whole list, or it is chosen at the last wish that it has tried
pub record Closed (C : Offers → Offers) (L : ℕ → List ℕ) (a : ℕ → ℕ) : Type 0 where
  pub within : (i : ℕ) → a i ≤ length (L i)
  pub begun : (i : ℕ) → a i < length (L i) → 1 ≤ a i
  pub chosen_last : (i : ℕ) → a i < length (L i) → C (offers L a) (at (L i) (a i - 1)) i ≡ true

-- the least closed vector
pub record Least (C : Offers → Offers) (L : ℕ → List ℕ) (a : ℕ → ℕ) : Type 0 where
  pub closed : Closed C L a
  pub least : (b : ℕ → ℕ) → Closed C L b → (i : ℕ) → a i ≤ b i
