-- Counts of places and sums over lanes.
use Rattle.std.specs.Prelude.{◌≡◌, ℕ, zero, suc, ◌+◌, ◌<◌, ◌≤◌, Bool, true, ◌⊎◌, List, length, replicate, slice_set, refl}
use Rattle.std.proofs.Common.{sym, ap, subst, ◌∙◌, inl, inr, arith}
use Rattle.std.proofs.lemmas.List.{get_or-set_same, get_or-set_other, get_or-take, get_or-replicate, get_or_past, length-replicate}
use Rattle.std.proofs.lemmas.Bool.{cases_Bool, cases_lt, cases_eq}
use Rattle.std.proofs.lemmas.Bool.Decides.{nat_tests}
use Rattle.sharing.specs.LineUp.{count_to}
use Rattle.sharing.specs.Cards.{Terms}
use Rattle.sharing.specs.Rules.{at, lanes, on_card, sum_to}

-- a row of zeros has 0 at every lane
pub at-zeros : (n l : ℕ) → at (replicate n 0) l ≡ 0
at-zeros n l = elim (cases_lt l n) [ inl h ↦ get_or-replicate n l 0 0 h | inr h ↦ get_or_past (replicate n 0) l 0 (omega (arith, length-replicate {A = ℕ} n 0)) ]

pub count_all : (p : ℕ → Bool) (n : ℕ) → count_to p n ≤ n
count_all p zero = omega arith
count_all p (suc n) = let rest = count_all p n in grind (arith, nat_tests)

-- a count of numbers that are all at most k
pub count_most : (p : ℕ → Bool) (k n : ℕ) → ((m : ℕ) → 1 ≤ m → m ≤ n → p m ≡ true → m ≤ k) → count_to p n ≤ k
count_most p k zero h = omega arith
count_most p k (suc n) h =
    elim (cases_Bool (p (suc n))) [
      | inl e ↦ let top = h (suc n) (omega arith) (omega arith) e in let all = count_all p n in grind (arith, nat_tests)
      | inr e ↦ let rest = count_most p k n (λ m a b. h m a (omega arith)) in grind (arith, nat_tests)
    ]

-- a count in which all of 1 to k pass
pub count_least : (p : ℕ → Bool) (k n : ℕ) → k ≤ n → ((m : ℕ) → 1 ≤ m → m ≤ k → p m ≡ true) → k ≤ count_to p n
count_least p zero n h all = omega arith
count_least p (suc k) zero h all = omega arith
count_least p (suc k) (suc n) h all =
    elim (cases_lt k n) [
      | inl more ↦ let rest = count_least p (suc k) n (omega arith) all in grind (arith, nat_tests)
      | inr same ↦
          let here = all (suc n) (omega arith) (omega arith) in
          let rest = count_least p k n (omega arith) (λ m a b. all m a (omega arith)) in
          grind (arith, nat_tests)
    ]

pub sum_mono : (f g : ℕ → ℕ) (n : ℕ) → ((l : ℕ) → l < n → f l ≤ g l) → sum_to f n ≤ sum_to g n
sum_mono f g zero h = omega arith
sum_mono f g (suc n) h = omega (arith, h n (omega arith), sum_mono f g n (λ l k. h l (omega arith)))

-- one summand smaller
pub sum_less : (f g : ℕ → ℕ) (n j : ℕ) → ((l : ℕ) → l < n → f l ≤ g l) → j < n → f j < g j → sum_to f n < sum_to g n
sum_less f g zero j h k s = omega arith
sum_less f g (suc n) j h k s =
    elim (cases_eq j n) [
      | inl e ↦ let here = subst (λ i. f i < g i) e s in omega (arith, here, sum_mono f g n (λ l b. h l (omega arith)))
      | inr ne ↦ omega (arith, h n (omega arith), sum_less f g n j (λ l b. h l (omega arith)) (omega (arith, ne)) s)
    ]

pub sum_same : (f g : ℕ → ℕ) (n : ℕ) → ((l : ℕ) → l < n → f l ≡ g l) → sum_to f n ≡ sum_to g n
sum_same f g zero h = refl
sum_same f g (suc n) h = omega (arith, h n (omega arith), sum_same f g n (λ l k. h l (omega arith)))

search_larger : (f g : ℕ → ℕ) (n : ℕ) → ((h : ℕ) × (h < n) × (g h < f h)) ⊎ ((l : ℕ) → l < n → f l ≤ g l)
search_larger f g zero = inr (λ l h. absurd (omega arith))
search_larger f g (suc n) =
    elim (cases_lt (g n) (f n)) [
      | inl here ↦ inl (n, omega arith, here)
      | inr not-here ↦ elim (search_larger f g n) [
        | inl found ↦ inl (found.0, omega (arith, found.1), found.2)
        | inr none ↦ inr (λ l h. elim (cases_eq l n) [ inl e ↦ subst (λ i. f i ≤ g i) (sym e) not-here | inr ne ↦ none l (omega (arith, ne)) ])
      ]
    ]

-- if the sum is not smaller though a summand is, another is larger
pub sum_other : (f g : ℕ → ℕ) (n j : ℕ) → j < n → f j < g j → sum_to g n ≤ sum_to f n → (h : ℕ) × (h < n) × (g h < f h)
sum_other f g n j inside less total =
    elim (search_larger f g n) [
      | inl found ↦ found
      | inr none ↦ absurd (omega (arith, sum_less f g n j (λ l h. none l h) inside less))
    ]

-- one more at lane b
pub sum_set : (k : List ℕ) (b n : ℕ) → b < n → b < length k → sum_to (at (slice_set k b (at k b + 1))) n ≡ sum_to (at k) n + 1
sum_set k b zero h inside = absurd (omega arith)
sum_set k b (suc n) h inside =
    elim (cases_eq b n) [
      | inl e ↦
          let here : at (slice_set k b (at k b + 1)) n ≡ at k n + 1 = subst (λ i. at (slice_set k b (at k b + 1)) i ≡ at k i + 1) e (get_or-set_same k b (at k b + 1) 0 inside) in
          let rest = sum_same (at (slice_set k b (at k b + 1))) (at k) n (λ l j. get_or-set_other k b l (at k b + 1) 0 (λ z. omega (arith, e))) in
          omega (arith, here, rest)
      | inr ne ↦
          let there = get_or-set_other k b n (at k b + 1) 0 (λ z. ne (sym z)) in
          omega (arith, there, sum_set k b n (omega (arith, ne)) inside)
    ]

-- numbers on the card
pub on_card_at : (t : Terms) (xs ys : List ℕ) → on_card t xs ≡ on_card t ys → (j : ℕ) → j < lanes t → at xs j ≡ at ys j
on_card_at t xs ys e j h = sym (get_or-take (lanes t) xs j 0 h) ∙ ap (λ (zs : List ℕ). at zs j) e ∙ get_or-take (lanes t) ys j 0 h
