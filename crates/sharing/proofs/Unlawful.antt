-- All to the longest queue breaks the substitutes law.
use Rattle.std.proofs.Common.{◌≡◌, ℕ, zero, suc, ◌≤◌, min, Bool, true, ◌&&◌, leb, List, [], ◌∷◌, get_or, replicate, refl, arith}
use Rattle.std.proofs.lemmas.Bool.{and_parts, leb-true}
use Rattle.sharing.specs.declared.card.Card.{Card}
use Rattle.sharing.specs.declared.card.CardLane.{CardLane}
use Rattle.sharing.specs.Cards.{terms}
use Rattle.sharing.specs.Rules.{Small}
use Rattle.sharing.specs.Longest.{LongestQueueUnlawful}

-- is every number of a row at most that of another, where a row goes on with zeros?
abbrev is_row_below : List ℕ → List ℕ → Bool
is_row_below [] ys = true
is_row_below (x ∷ xs) [] = leb x 0 && is_row_below xs []
is_row_below (x ∷ xs) (y ∷ ys) = leb x y && is_row_below xs ys

row_below : (xs ys : List ℕ) → is_row_below xs ys ≡ true → (k : ℕ) → get_or xs k 0 ≤ get_or ys k 0
row_below [] ys e k = omega arith
row_below (x ∷ xs) [] e zero = leb-true x 0 (and_parts (leb x 0) (is_row_below xs []) e).0
row_below (x ∷ xs) [] e (suc k) = row_below xs [] (and_parts (leb x 0) (is_row_below xs []) e).1 k
row_below (x ∷ xs) (y ∷ ys) e zero = leb-true x y (and_parts (leb x y) (is_row_below xs ys) e).0
row_below (x ∷ xs) (y ∷ ys) e (suc k) = row_below xs ys (and_parts (leb x y) (is_row_below xs ys) e).1 k

-- no number of a row is above a bound
abbrev row_most : ℕ → List ℕ → Bool
row_most m [] = true
row_most m (x ∷ xs) = leb x m && row_most m xs

row_most_is : (m : ℕ) (xs : List ℕ) → row_most m xs ≡ true → (k : ℕ) → get_or xs k 0 ≤ m
row_most_is m [] e k = omega arith
row_most_is m (x ∷ xs) e zero = leb-true x m (and_parts (leb x m) (row_most m xs) e).0
row_most_is m (x ∷ xs) e (suc k) = row_most_is m xs (and_parts (leb x m) (row_most m xs) e).1 k

abbrev blank : CardLane
blank = record { capacity = 0; target = 0; small = omega arith; within = omega arith }

abbrev wide : CardLane
wide = record { capacity = 3; target = 0; small = omega arith; within = omega arith }

-- a cap of 2 and two lanes of capacity 3
abbrev narrow : Card
narrow = record {
  shed = 0;
  «cap» = 2;
  lanes = record { items = wide ∷ wide ∷ []; spare = blank ∷ blank ∷ blank ∷ blank ∷ blank ∷ blank ∷ []; count = 2 };
  shed_known = omega arith;
  cap_small = omega arith;
  few_lanes = omega arith;
  targets_fit = omega arith;
}

-- eight numbers of which the first two are not 0
abbrev two : ℕ → ℕ → List ℕ
two x y = x ∷ y ∷ replicate 6 0

small : (x y : ℕ) → row_most 3 (two x y) ≡ true → Small (terms narrow) (two x y)
small x y e = ((refl, λ l. omega (arith, row_most_is 3 (two x y) e l)), λ l h. omega (arith, row_most_is 3 (two x y) e l))

pub longest_queue_unlawful : LongestQueueUnlawful
longest_queue_unlawful lawful =
    let kept-one : min 1 2 ≤ 0 =
    lawful.substitutes narrow (two 2 1) (two 2 3) (small 2 1 refl) (small 2 3 refl) (λ l h. row_below (two 2 1) (two 2 3) refl l) 1 (omega arith)
    in
    omega arith
