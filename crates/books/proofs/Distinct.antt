-- A list of distinct numbers below n has at most n of them: a ranking never wants a 257th place.
use Rattle.std.proofs.Common.{◌≡◌, ℕ, suc, ◌<◌, ◌≤◌, true, false, ◌||◌, eqb, List, [], ◌∷◌, ◌++◌, length, refl, ap, inl, inr, arith}
use Rattle.std.proofs.lemmas.Bool.Decides.{nat_tests as tells}
use Rattle.std.proofs.lemmas.Bool.{cases_Bool}
use Rattle.std.proofs.lemmas.Map.Steps.{length-le_from_distinct_below}
use Rattle.std.specs.List.{AllByRecursion, IsDistinct, list_any}
use Rattle.books.specs.Lanes.{has, distinct, all_below}

-- the facts in the library's words
apart_from : (v : ℕ) (xs : List ℕ) → has xs v ≡ false → AllByRecursion (λ y. eqb v y ≡ false) xs
apart_from v [] h = tt
apart_from v (x ∷ xs) h = (grind (arith, tells), apart_from v xs (grind (arith, tells)))

is_distinct : (xs : List ℕ) → distinct xs ≡ true → IsDistinct eqb xs
unfolding IsDistinct
is_distinct [] d = tt
is_distinct (x ∷ xs) d = (apart_from x xs (grind (arith, tells)), is_distinct xs (grind (arith, tells)))

listed_below : (n v : ℕ) (xs : List ℕ) → all_below n xs ≡ true → list_any (eqb v) xs ≡ true → v < n
listed_below n v [] b h = absurd cc
listed_below n v (x ∷ xs) b h = let t = listed_below n v xs in grind (arith, tells)

pub distinct_short : (n : ℕ) (xs : List ℕ) → all_below n xs ≡ true → distinct xs ≡ true → length xs ≤ n
distinct_short n xs b d = length-le_from_distinct_below xs n (is_distinct xs d) (λ v. listed_below n v xs b)

-- numbers up to n without n itself are below n
pub below_less : (n : ℕ) (xs : List ℕ) → all_below (suc n) xs ≡ true → has xs n ≡ false → all_below n xs ≡ true
below_less n [] b h = refl
below_less n (x ∷ xs) b h = let t = below_less n xs in grind (arith, tells)

-- so a lot below n that is not in it finds room
pub distinct_room : (n i : ℕ) (xs : List ℕ) → all_below n xs ≡ true → distinct xs ≡ true → i < n → has xs i ≡ false → length xs < n
distinct_room n i xs b d below new = let short = distinct_short n (i ∷ xs) (grind (arith, tells)) (grind (arith, tells)) in omega arith

-- a list of n of them has every one
pub distinct_all : (n i : ℕ) (xs : List ℕ) → all_below n xs ≡ true → distinct xs ≡ true → length xs ≡ n → i < n → has xs i ≡ true
distinct_all n i xs b d full below =
    elim (cases_Bool (has xs i)) [
      | inl listed ↦ listed
      | inr new ↦ absurd (omega (arith, distinct_room n i xs b d below new))
    ]

-- to be among the lots, in the words of a slice
pub has_any : (xs : List ℕ) (i : ℕ) → list_any (λ y. eqb y i) xs ≡ has xs i
has_any [] i = refl
has_any (x ∷ xs) i = ap (λ b. eqb x i || b) (has_any xs i)

-- one more at the end
pub has_push : (xs : List ℕ) (i j : ℕ) → has (xs ++ i ∷ []) j ≡ (has xs j || eqb i j)
has_push [] i j = grind (arith, tells)
has_push (x ∷ xs) i j = let t = has_push xs i j in grind (arith, tells)

pub distinct_push : (xs : List ℕ) (i : ℕ) → distinct xs ≡ true → has xs i ≡ false → distinct (xs ++ i ∷ []) ≡ true
distinct_push [] i d h = refl
distinct_push (x ∷ xs) i d h = let t = distinct_push xs i in let u = has_push xs i x in grind (arith, tells)

pub below_push : (n i : ℕ) (xs : List ℕ) → all_below n xs ≡ true → i < n → all_below n (xs ++ i ∷ []) ≡ true
below_push n i [] b h = grind (arith, tells)
below_push n i (x ∷ xs) b h = let t = below_push n i xs in grind (arith, tells)
