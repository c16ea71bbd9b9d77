-- Wishes on a list, and those that were tried.
use Rattle.std.proofs.Common.{◌≡◌, ℕ, zero, suc, ◌<◌, ◌≤◌, Bool, true, false, eqb, ◌⊎◌, List, [], ◌∷◌, length, take, sym, ap, subst, inl, inr, arith}
use Rattle.std.proofs.lemmas.Bool.Decides.{nat_tests}
use Rattle.std.proofs.lemmas.Bool.{cases_eq}
use Rattle.sharing.specs.Rules.{at}
use Rattle.books.specs.Lanes.{has, all_below}
use Rattle.matching.specs.Vectors.{put, offers}
use Rattle.matching.specs.Choosing.{Within}

pub has_take_at : (xs : List ℕ) (k m : ℕ) → k < m → k < length xs → has (take m xs) (at xs k) ≡ true
has_take_at [] k m h l = absurd (omega arith)
has_take_at (x ∷ xs) k zero h l = absurd (omega arith)
has_take_at (x ∷ xs) zero (suc m) h l = grind (arith, nat_tests)
has_take_at (x ∷ xs) (suc k) (suc m) h l = let t = has_take_at xs k m (omega arith) (omega arith) in grind (arith, nat_tests)

pub has_take_le : (xs : List ℕ) (k m l : ℕ) → k ≤ m → has (take k xs) l ≡ true → has (take m xs) l ≡ true
has_take_le xs zero m l h e = absurd (grind (arith, nat_tests))
has_take_le xs (suc k) zero l h e = absurd (omega arith)
has_take_le [] (suc k) (suc m) l h e = e
has_take_le (x ∷ xs) (suc k) (suc m) l h e = let t = has_take_le xs k m l (omega arith) in grind (arith, nat_tests)

pub has_take_more : (xs : List ℕ) (m l : ℕ) → has (take (suc m) xs) l ≡ true → (has (take m xs) l ≡ true) ⊎ (at xs m ≡ l)
has_take_more [] m l e = absurd (grind (arith, nat_tests))
has_take_more (x ∷ xs) zero l e = inr (grind (arith, nat_tests))
has_take_more (x ∷ xs) (suc m) l e =
    elim (cases_eq x l) [
      | inl q ↦ inl (grind (arith, nat_tests))
      | inr q ↦ elim (has_take_more xs m l (grind (arith, nat_tests))) [ inl t ↦ inl (grind (arith, nat_tests)) | inr t ↦ inr t ]
    ]

pub has_at : (xs : List ℕ) (k : ℕ) → k < length xs → has xs (at xs k) ≡ true
has_at [] k h = absurd (omega arith)
has_at (x ∷ xs) zero h = grind (arith, nat_tests)
has_at (x ∷ xs) (suc k) h = let t = has_at xs k (omega arith) in grind (arith, nat_tests)

pub below_at : (n : ℕ) (xs : List ℕ) → all_below n xs ≡ true → (k : ℕ) → k < length xs → at xs k < n
below_at n [] a k h = absurd (omega arith)
below_at n (x ∷ xs) a zero h = grind (arith, nat_tests)
below_at n (x ∷ xs) a (suc k) h = below_at n xs (grind (arith, nat_tests)) k (omega arith)

pub offers_within : (n : ℕ) (L : ℕ → List ℕ) (a b : ℕ → ℕ) → ((i : ℕ) → a i ≤ b i) → Within n (offers L a) (offers L b)
offers_within n L a b h l i k e = has_take_le (L i) (a i) (b i) l (h i) e

pub put_here : {A : Type 0} (f : ℕ → A) (i : ℕ) (y : A) → put f i y i ≡ y
put_here f i y = ap (λ (z : Bool). elim z [ true ↦ y | false ↦ f i ]) (let z : eqb i i ≡ true = grind (arith, nat_tests) in z)

pub put_there : {A : Type 0} (f : ℕ → A) (i : ℕ) (y : A) (x : ℕ) → (x ≡ i → ⊥) → put f i y x ≡ f x
put_there f i y x ne = ap (λ (z : Bool). elim z [ true ↦ y | false ↦ f x ]) (let z : eqb x i ≡ false = grind (arith, nat_tests) in z)

-- what holds of the put value at i and of the old ones elsewhere
pub put_all : {A : Type 0} (P : ℕ → A → Type 0) (f : ℕ → A) (i : ℕ) (y : A) → P i y → ((x : ℕ) → (x ≡ i → ⊥) → P x (f x)) → (x : ℕ) → P x (put f i y x)
put_all {A} P f i y a c x =
    elim (cases_eq x i) [
      | inl q ↦ subst (λ (x : ℕ). P x (put f i y x)) (sym q) (subst (P i) (sym (put_here f i y)) a)
      | inr q ↦ subst (P x) (sym (put_there f i y x q)) (c x q)
    ]
