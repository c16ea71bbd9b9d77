-- What a lane keeps along its ranking.
use Rattle.std.proofs.Common.{◌≡◌, ℕ, zero, suc, ◌<◌, ◌≤◌, Bool, true, false, eqb, ◌⊎◌, List, [], ◌∷◌, length, sym, refl, ◌∙◌, subst, inl, inr, arith}
use Rattle.std.proofs.lemmas.Bool.Decides.{nat_tests}
use Rattle.std.proofs.lemmas.Bool.{cases_Bool, cases_eq, both_ways, ne_eqb}
use Rattle.books.specs.Lanes.{has, distinct}
use Rattle.matching.specs.Offers.{best, offered}

pub offered_le : (O P : ℕ → Bool) → ((i : ℕ) → O i ≡ true → P i ≡ true) → (R : List ℕ) → offered O R ≤ offered P R
offered_le O P h [] = omega arith
offered_le O P h (r ∷ R) = let t = offered_le O P h R in let k = h r in grind (arith, nat_tests)

pub offered_length : (O : ℕ → Bool) (R : List ℕ) → offered O R ≤ length R
offered_length O [] = omega arith
offered_length O (r ∷ R) = let t = offered_length O R in grind (arith, nat_tests)

pub offered_same : (O P : ℕ → Bool) (R : List ℕ) → ((i : ℕ) → has R i ≡ true → O i ≡ P i) → offered O R ≡ offered P R
offered_same O P [] h = refl
offered_same O P (r ∷ R) h = let t = offered_same O P R (λ i k. h i (grind (arith, nat_tests))) in let u = h r (grind (arith, nat_tests)) in grind (arith, nat_tests)

-- two tests that differ at r alone
pub offered_one : (f g : ℕ → Bool) (r : ℕ) → f r ≡ true → g r ≡ false → ((x : ℕ) → (x ≡ r → ⊥) → f x ≡ g x) → (R : List ℕ) → distinct R ≡ true → has R r ≡ true → offered f R ≡ suc (offered g R)
offered_one f g r a c h [] d m = absurd (grind (arith, nat_tests))
offered_one f g r a c h (x ∷ R) d m =
    elim (cases_eq x r) [
      | inl q ↦
          let fx : f x ≡ true = rw q a in
          let gx : g x ≡ false = rw q c in
          let dr : has R x ≡ false = grind (arith, nat_tests) in
          let t = offered_same f g R (λ y p. h y (λ e. both_ways (has R x) dr (subst (λ (z : ℕ). has R z ≡ true) (e ∙ sym q) p))) in
          grind (arith, nat_tests)
      | inr q ↦
          let t = offered_one f g r a c h R (grind (arith, nat_tests)) (grind (arith, nat_tests)) in
          let u = h x q in
          grind (arith, nat_tests)
    ]

pub best_offered : (O : ℕ → Bool) (R : List ℕ) (k i : ℕ) → best k O R i ≡ true → O i ≡ true
best_offered O R zero i e = absurd (grind (arith, nat_tests))
best_offered O [] (suc k) i e = absurd (grind (arith, nat_tests))
best_offered O (r ∷ R) (suc k) i e = let u = best_offered O R k i in let v = best_offered O R (suc k) i in grind (arith, nat_tests)

pub best_ranked : (O : ℕ → Bool) (R : List ℕ) (k i : ℕ) → best k O R i ≡ true → has R i ≡ true
best_ranked O R zero i e = absurd (grind (arith, nat_tests))
best_ranked O [] (suc k) i e = absurd (grind (arith, nat_tests))
best_ranked O (r ∷ R) (suc k) i e = let u = best_ranked O R k i in let v = best_ranked O R (suc k) i in grind (arith, nat_tests)

-- more offers and no more places: who is not kept is not kept again
pub best_less : (O P : ℕ → Bool) → ((i : ℕ) → O i ≡ true → P i ≡ true) → (i : ℕ) → O i ≡ true → (R : List ℕ) (k m : ℕ) → m ≤ k → best k O R i ≡ false → best m P R i ≡ false
best_less O P h i o R k zero le f = refl
best_less O P h i o R zero (suc m) le f = absurd (omega arith)
best_less O P h i o [] (suc k) (suc m) le f = refl
best_less O P h i o (r ∷ R) (suc k) (suc m) le f =
    let u = best_less O P h i o R (suc k) (suc m) le in
    let v = best_less O P h i o R (suc k) m (omega arith) in
    let w = best_less O P h i o R k m (omega arith) in
    let z = h r in
    grind (arith, nat_tests)

best_none : (i m : ℕ) (P : ℕ → Bool) → best m P [] i ≡ false
best_none i zero P = refl
best_none i (suc m) P = refl

best_skip : (r i : ℕ) (R : List ℕ) → eqb r i ≡ false → ((m : ℕ) (P : ℕ → Bool) → best m P R i ≡ false) → (m : ℕ) (P : ℕ → Bool) → best m P (r ∷ R) i ≡ false
best_skip r i R n a zero P = refl
best_skip r i R n a (suc m) P = let u = a m P in let v = a (suc m) P in grind (arith, nat_tests)

-- who is on offer and not kept came too late, or is not ranked
pub best_all : (O : ℕ → Bool) (i : ℕ) → O i ≡ true → (R : List ℕ) (k : ℕ) → best k O R i ≡ false → (k < offered O R) ⊎ ((m : ℕ) (P : ℕ → Bool) → best m P R i ≡ false)
best_all O i o [] k f = inr (best_none i)
best_all O i o (r ∷ R) zero f =
    elim (cases_Bool (O r)) [
      | inl e ↦ inl (grind (arith, nat_tests))
      | inr e ↦ elim (best_all O i o R zero refl) [ inl l ↦ inl (grind (arith, nat_tests)) | inr a ↦ inr (best_skip r i R (grind (arith, nat_tests)) a) ]
    ]
best_all O i o (r ∷ R) (suc k) f =
    elim (cases_Bool (O r)) [
      | inl e ↦ elim (best_all O i o R k (grind (arith, nat_tests))) [ inl l ↦ inl (grind (arith, nat_tests)) | inr a ↦ inr (best_skip r i R (grind (arith, nat_tests)) a) ]
      | inr e ↦ elim (best_all O i o R (suc k) (grind (arith, nat_tests))) [ inl l ↦ inl (grind (arith, nat_tests)) | inr a ↦ inr (best_skip r i R (grind (arith, nat_tests)) a) ]
    ]

-- fewer offers, with all of the kept ones among them: the same are kept
pub best_same : (O P : ℕ → Bool) → ((i : ℕ) → O i ≡ true → P i ≡ true) → (R : List ℕ) (k : ℕ) → ((i : ℕ) → best k P R i ≡ true → O i ≡ true) → (i : ℕ) → best k O R i ≡ best k P R i
best_same O P h R zero g i = refl
best_same O P h [] (suc k) g i = refl
best_same O P h (r ∷ R) (suc k) g i =
    elim (cases_Bool (P r)) [
      | inl e ↦
          let u : O r ≡ true = g r (grind (arith, nat_tests)) in
          let t = best_same O P h R k (λ j x. g j (grind (arith, nat_tests))) i in
          grind (arith, nat_tests)
      | inr e ↦
          let u = h r in
          let t = best_same O P h R (suc k) (λ j x. g j (grind (arith, nat_tests))) i in
          grind (arith, nat_tests)
    ]

pub best_room : (O P : ℕ → Bool) (R : List ℕ) (k : ℕ) → ((i : ℕ) → best k P R i ≡ true → O i ≡ true) → k ≤ offered P R → k ≤ offered O R
best_room O P R zero g le = omega arith
best_room O P [] (suc k) g le = le
best_room O P (r ∷ R) (suc k) g le =
    elim (cases_Bool (P r)) [
      | inl e ↦
          let u : O r ≡ true = g r (grind (arith, nat_tests)) in
          let t = best_room O P R k (λ j x. g j (grind (arith, nat_tests))) (grind (arith, nat_tests)) in
          grind (arith, nat_tests)
      | inr e ↦
          let t = best_room O P R (suc k) (λ j x. g j (grind (arith, nat_tests))) (grind (arith, nat_tests)) in
          grind (arith, nat_tests)
    ]

-- one on offer, ranked and not kept: more are on offer than kept
pub best_short : (O : ℕ → Bool) (i : ℕ) → O i ≡ true → (R : List ℕ) → has R i ≡ true → (k : ℕ) → best k O R i ≡ false → k < offered O R
best_short O i o [] r k f = absurd (grind (arith, nat_tests))
best_short O i o (x ∷ R) r zero f =
    elim (cases_eq x i) [
      | inl q ↦ let ox : O x ≡ true = rw q o in grind (arith, nat_tests)
      | inr q ↦ let t = best_short O i o R (grind (arith, nat_tests)) zero refl in grind (arith, nat_tests)
    ]
best_short O i o (x ∷ R) r (suc k) f =
    elim (cases_Bool (O x)) [
      | inl e ↦ let t = best_short O i o R (grind (arith, nat_tests)) k (grind (arith, nat_tests)) in grind (arith, nat_tests)
      | inr e ↦
          let ni : eqb x i ≡ false = elim (cases_eq x i) [ inl q ↦ absurd (both_ways (O i) (rw q at e) o) | inr q ↦ grind (arith, nat_tests) ] in
          let t = best_short O i o R (grind (arith, nat_tests)) (suc k) (grind (arith, nat_tests)) in
          grind (arith, nat_tests)
    ]

-- two on offer, ranked and not kept: two more are on offer than kept
pub best_short_two : (O : ℕ → Bool) (i j : ℕ) → (i ≡ j → ⊥) → O i ≡ true → O j ≡ true → (R : List ℕ) → has R i ≡ true → has R j ≡ true → (k : ℕ) → best k O R i ≡ false → best k O R j ≡ false → suc k < offered O R
best_short_two O i j n oi oj [] ri rj k fi fj = absurd (grind (arith, nat_tests))
best_short_two O i j n oi oj (x ∷ R) ri rj zero fi fj =
    elim (cases_eq x i) [
      | inl q ↦
          let ox : O x ≡ true = rw q oi in
          let t = best_short O j oj R (let nj : eqb x j ≡ false = ne_eqb x j (λ e. n (sym q ∙ e)) in grind (arith, nat_tests)) zero refl in
          grind (arith, nat_tests)
      | inr q ↦ elim (cases_eq x j) [
        | inl p ↦
            let ox : O x ≡ true = rw p oj in
            let t = best_short O i oi R (grind (arith, nat_tests)) zero refl in
            grind (arith, nat_tests)
        | inr p ↦
            let t = best_short_two O i j n oi oj R (grind (arith, nat_tests)) (grind (arith, nat_tests)) zero refl refl in
            grind (arith, nat_tests)
      ]
    ]
best_short_two O i j n oi oj (x ∷ R) ri rj (suc k) fi fj =
    elim (cases_Bool (O x)) [
      | inl e ↦
          let t = best_short_two O i j n oi oj R (grind (arith, nat_tests)) (grind (arith, nat_tests)) k (grind (arith, nat_tests)) (grind (arith, nat_tests)) in
          grind (arith, nat_tests)
      | inr e ↦
          let ni : eqb x i ≡ false = elim (cases_eq x i) [ inl q ↦ absurd (both_ways (O i) (rw q at e) oi) | inr q ↦ grind (arith, nat_tests) ] in
          let nj : eqb x j ≡ false = elim (cases_eq x j) [ inl q ↦ absurd (both_ways (O j) (rw q at e) oj) | inr q ↦ grind (arith, nat_tests) ] in
          let t = best_short_two O i j n oi oj R (grind (arith, nat_tests)) (grind (arith, nat_tests)) (suc k) (grind (arith, nat_tests)) (grind (arith, nat_tests)) in
          grind (arith, nat_tests)
    ]

-- no more than k are kept
pub best_few : (O : ℕ → Bool) (R : List ℕ) (k : ℕ) → distinct R ≡ true → offered (best k O R) R ≤ k
best_few O R k d = omega (arith, few O R k d)
  where
    none : (R : List ℕ) (P : ℕ → Bool) → ((i : ℕ) → has R i ≡ true → P i ≡ false) → offered P R ≡ 0
    none [] P h = refl
    none (r ∷ R) P h = let t = none R P (λ i k. h i (grind (arith, nat_tests))) in let u = h r (grind (arith, nat_tests)) in grind (arith, nat_tests)

    few : (O : ℕ → Bool) (R : List ℕ) (k : ℕ) → distinct R ≡ true → offered (best k O R) R ≤ k
    few O [] k d = omega arith
    few O (r ∷ R) zero d = omega (arith, none (r ∷ R) (best zero O (r ∷ R)) (λ i h. refl))
    few O (r ∷ R) (suc k) d =
        let fresh : has R r ≡ false = grind (arith, nat_tests) in
        elim (cases_Bool (O r)) [
          | inl e ↦
              let same = offered_same (best (suc k) O (r ∷ R)) (best k O R) R (λ i h. let ne : eqb r i ≡ false = ne_eqb r i (λ q. both_ways (has R r) fresh (subst (λ (z : ℕ). has R z ≡ true) (sym q) h)) in grind (arith, nat_tests)) in
              let t = few O R k (grind (arith, nat_tests)) in
              grind (arith, nat_tests)
          | inr e ↦
              let same = offered_same (best (suc k) O (r ∷ R)) (best (suc k) O R) R (λ i h. grind (arith, nat_tests)) in
              let t = few O R (suc k) (grind (arith, nat_tests)) in
              let here : best (suc k) O R r ≡ false = elim (cases_Bool (best (suc k) O R r)) [ inl b ↦ absurd (both_ways (has R r) fresh (best_ranked O R (suc k) r b)) | inr b ↦ b ] in
              grind (arith, nat_tests)
        ]
