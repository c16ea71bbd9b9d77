-- By shares the places of lanes that can have some stand in an order: parts of capacities are compared across.
use Rattle.std.specs.Prelude.{◌≡◌, ℕ, ◌+◌, ◌*◌, ◌<◌, ◌≤◌, true, false, ◌&&◌, ◌||◌, ◌==◌, nat_lt}
use Rattle.std.proofs.Common.{ap, inl, inr, arith}
use Rattle.std.proofs.Math.Nat.{mul-lt-mul_of_pos_right}
use Rattle.std.proofs.lemmas.Nat.{mul-le}
use Rattle.std.proofs.lemmas.Bool.{cases_lt}
use Rattle.std.proofs.lemmas.Bool.Decides.{nat_tests}
use Rattle.sharing.specs.Orders.{Ordered}
use Rattle.sharing.specs.Rules.{at}
use Rattle.sharing.specs.Shares.{weight, shares}

-- what a comparison with its tie says
stands : (a b g h : ℕ) → (nat_lt a b || (a == b && nat_lt g h)) ≡ true → (a ≤ b) × (a ≡ b → g < h)
stands a b g h e = (grind (arith, nat_tests), λ t. grind (arith, nat_tests))

stands_not : (a b g h : ℕ) → (nat_lt a b || (a == b && nat_lt g h)) ≡ false → (b ≤ a) × (a ≡ b → h ≤ g)
stands_not a b g h e = (grind (arith, nat_tests), λ t. grind (arith, nat_tests))

stands_so : (a b g h : ℕ) → a ≤ b → (a ≡ b → g < h) → (nat_lt a b || (a == b && nat_lt g h)) ≡ true
stands_so a b g h le tie =
    elim (cases_lt a b) [
      | inl less ↦ grind (arith, nat_tests)
      | inr more ↦ let t = tie (omega arith) in grind (arith, nat_tests)
    ]

-- three lanes with their places, targets and capacities: each comparison times the capacity of the third lane
crossed : (k t q m u r n v z : ℕ) →
    (k * r + u * q) * z + (m * z + v * r) * q + (n * q + t * z) * r ≡ (m * q + t * r) * z + (n * r + u * z) * q + (k * z + v * q) * r
crossed k t q m u r n v z = omega arith

across : (a b c d e f q r z : ℕ) → a * z + c * q + f * r ≡ b * z + d * q + e * r → 0 < q → 0 < r → 0 < z → a ≤ b → c ≤ d → (e ≤ f) × (e ≡ f → (a ≡ b) × (c ≡ d))
across a b c d e f q r z same hq hr hz le lf =
    let first = mul-le a z b z le (omega arith) in
    let second = mul-le c q d q lf (omega arith) in (
      elim (cases_lt f e) [
        | inl more ↦ absurd (omega (arith, same, first, second, mul-lt-mul_of_pos_right more hr))
        | inr enough ↦ enough
      ],
      λ tie.
          let third : e * r ≡ f * r = ap (λ n. n * r) tie in (
            elim (cases_lt a b) [
              | inl less ↦ absurd (omega (arith, same, third, second, mul-lt-mul_of_pos_right less hz))
              | inr enough ↦ omega arith
            ],
            elim (cases_lt c d) [
              | inl less ↦ absurd (omega (arith, same, third, first, mul-lt-mul_of_pos_right less hq))
              | inr enough ↦ omega arith
            ],
          ),
    )

pub shares_ordered : Ordered shares
shares_ordered = record {
  same_lane = λ c g k m pos.
      let q = at c.capacities g in
      elim (cases_lt k m) [
        | inl less ↦ let l = mul-lt-mul_of_pos_right less pos in grind (arith, nat_tests)
        | inr more ↦ let l = mul-le m q k q more (omega arith) in grind (arith, nat_tests)
      ];
  either = λ c g k h m a b apart e. grind (arith, nat_tests);
  not_both = λ c g k h m a b e f. grind (arith, nat_tests);
  along = λ c g k h m i n a b d e f.
      let le : weight c g k h ≤ weight c h m g = grind (arith, nat_tests) in
      let lf : weight c h m i ≤ weight c i n h = grind (arith, nat_tests) in
      let z = across (weight c g k h) (weight c h m g) (weight c h m i) (weight c i n h) (weight c g k i) (weight c i n g) (at c.capacities g) (at c.capacities h) (at c.capacities i)
      (crossed k (at c.targets g) (at c.capacities g) m (at c.targets h) (at c.capacities h) n (at c.targets i) (at c.capacities i)) a b d le lf in
      grind (arith, nat_tests);
  wider = λ c g k h m j n a b e low high.
      let less = mul-le j (at c.capacities h) k (at c.capacities h) low (omega arith) in
      let more = mul-le m (at c.capacities g) n (at c.capacities g) high (omega arith) in
      grind (arith, nat_tests);
  gain_before = λ c a w b v x y apart some e. grind (arith, nat_tests);
}
