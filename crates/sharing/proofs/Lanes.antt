-- One lane more on a card.
use Rattle.std.proofs.Common.{◌≡◌, ℕ, suc, ◌+◌, ◌<◌, ◌≤◌, true, false, ◌≢◌, List, [], ◌∷◌, length, get_or, take, drop, set, Some, None, sum, sym, refl, ap, ◌∙◌, subst, inl, inr, arith, length-drop}
use Rattle.std.proofs.lemmas.List.{get_or-set_same, get_or-set_other, get_or-drop}
use Rattle.std.proofs.lemmas.List.Sums.{sum_by-take-drop, sum_by-cons}
use Rattle.std.proofs.lemmas.Bool.{cases_eq, cases_Bool}
use Rattle.sharing.specs.Cards.{Terms, unfit, more_terms, with_lane}

-- what holds of every other place and of the value holds of every place
pub at_set : {X : Type 0} (d : X) (P : ℕ → X → Type 0) (xs : List X) (at : ℕ) (v : X) (k : ℕ) → at < length xs → P at v → ((k : ℕ) → k ≢ at → P k (get_or xs k d)) →
    P k (get_or (set xs at v) k d)
at_set d P xs at v k h here others =
    elim (cases_eq k at) [
      | inl e ↦ subst (λ j. P j (get_or (set xs at v) j d)) (sym e) (subst (P at) (sym (get_or-set_same xs at v d h)) here)
      | inr ne ↦ subst (P k) (sym (get_or-set_other xs at k v d ne)) (others k ne)
    ]

sum_zeros : (xs : List ℕ) → ((k : ℕ) → k < length xs → get_or xs k 0 ≡ 0) → sum xs ≡ 0
sum_zeros [] z = refl
sum_zeros (x ∷ xs) z = omega (arith, sum_by-cons (λ x. x) x xs, z 0 (omega arith), sum_zeros xs (λ k h. z (suc k) (omega arith)))

-- places that are zero add nothing
pub sum_front : (xs : List ℕ) (n : ℕ) → ((k : ℕ) → k < length xs → n ≤ k → get_or xs k 0 ≡ 0) → sum (take n xs) ≡ sum xs
sum_front xs n z =
    let none = sum_zeros (drop n xs) (λ k h. get_or-drop n xs k 0 ∙ z (n + k) (omega (arith, length-drop n xs)) (omega arith)) in
    omega (arith, sum_by-take-drop (λ x. x) xs n, none)

-- a lane that fits is added behind the others
pub lane_added : (t : Terms) (target capacity : ℕ) → unfit t target capacity ≡ false → with_lane t target capacity ≡ Some (more_terms t target capacity)
lane_added t target capacity e = ap (λ b. elim b [ true ↦ None | false ↦ Some (more_terms t target capacity) ]) e

pub lane_unfit : (t : Terms) (target capacity : ℕ) → unfit t target capacity ≡ true → with_lane t target capacity ≡ None
lane_unfit t target capacity e = ap (λ b. elim b [ true ↦ None | false ↦ Some (more_terms t target capacity) ]) e

-- what an answer says of the lane that was asked for
pub lane_refused : (t : Terms) (target capacity : ℕ) → with_lane t target capacity ≡ None → unfit t target capacity ≡ true
lane_refused t target capacity e =
    elim (cases_Bool (unfit t target capacity)) [
      | inl yes' ↦ yes'
      | inr no' ↦ let taken = lane_added t target capacity no' in cc
    ]

pub lane_taken : (t u : Terms) (target capacity : ℕ) → with_lane t target capacity ≡ Some u → (unfit t target capacity ≡ false) × (u ≡ more_terms t target capacity)
lane_taken t u target capacity e =
    elim (cases_Bool (unfit t target capacity)) [
      | inl yes' ↦ let refused = lane_unfit t target capacity yes' in (cc, cc)
      | inr no' ↦ let taken = lane_added t target capacity no' in (no', cc)
    ]
