-- The laws of a rule that lines its places up, once for every order.
use Rattle.std.specs.Prelude.{◌≡◌, ℕ, ◌+◌, ◌<◌, ◌≤◌, min, true, false, ◌≢◌, List}
use Rattle.std.proofs.Common.{◌∙◌, inl, inr, arith}
use Rattle.std.proofs.lemmas.Bool.{cases_Bool, cases_lt, both_ways}
use Rattle.std.proofs.lemmas.Bool.Decides.{nat_tests}
use Rattle.sharing.specs.declared.card.Card.{Card}
use Rattle.sharing.specs.Cards.{Terms, terms}
use Rattle.sharing.specs.LineUp.{line_up, rule_of, Front}
use Rattle.sharing.specs.Orders.{Standing, Open, Ordered}
use Rattle.sharing.specs.Rules.{at, lanes, places, kept, gains, Lawful, NoGainAtFillings}
use Rattle.sharing.specs.Fronts.{dealt_front, dealt_line_up}
use Rattle.sharing.specs.Within.{lanes_are_few}
use Rattle.sharing.specs.Sums.{sum_same, sum_other}

-- a front is told by what it holds on the card
front_like : (s : Standing) (c : Terms) (x k j : List ℕ) → Front s c x k → ((l : ℕ) → l < lanes c → at j l ≡ at k l) → Front s c x j
front_like s c x k j f e =
    let total : kept c j ≡ kept c k = sum_same (at j) (at k) (lanes c) e in
    record {
      inside = λ l h. omega (arith, e l h, f.inside l h);
      capped = omega (arith, total, f.capped);
      full = λ l h r. total ∙ f.full l h (omega (arith, e l h));
      first = λ l h i m a b low high past room. f.first l h i m a b low (omega (arith, e l a)) (omega (arith, e h b)) room;
    }

module _ (s : Standing) (o : Ordered s) where
  pub line_up_front : (c : Terms) (x : List ℕ) → lanes c ≤ 8 → Front s c x (line_up s c x)
  line_up_front c x few = front_like s c x _ (line_up s c x) (dealt_front s o c x few) (dealt_line_up s o c x few)

  -- two lanes cannot each have given up a place to the other
  substituted : (c : Terms) (x y k j : List ℕ) → Front s c x k → Front s c y j → ((l : ℕ) → l < lanes c → at x l ≤ at y l) → (l : ℕ) → l < lanes c → min (at x l) (at j l) ≤ at k l
  substituted c x y k j fx fy le l h =
      elim (cases_lt (at k l) (min (at x l) (at j l))) [
        | inr enough ↦ enough
        | inl fewer ↦
            let full = fx.full l h (omega (arith, fy.inside l h)) in
            let other = sum_other (at k) (at j) (lanes c) l h (omega arith) (omega (arith, full, fy.capped)) in
            let g = other.0 in
            let at_x = fx.first g l (at k g) (at k l + 1) other.1 h (omega (arith, other.2)) (omega arith) (omega arith) (omega (arith, fy.inside l h)) in
            let at_y = fy.first l g (at j l) (at j g + 1) h other.1 (omega arith) (omega arith) (omega arith) (omega (arith, other.2, fx.inside g other.1, le g other.1)) in
            let open-g : Open c g = omega (arith, other.2, fx.inside g other.1) in
            let open-l : Open c l = omega (arith, fy.inside l h) in
            absurd (o.not_both c l (at j l) g (at j g + 1) open-l open-g at_y (o.wider c g (at k g) l (at k l + 1) (at j g + 1) (at j l) open-g open-l at_x (omega (arith, other.2)) (omega arith)))
      ]

  gainless : (c : Terms) (x k : List ℕ) → Front s c x k → (a b : ℕ) → b < lanes c → at k b < places c x b → gains (rule_of s) c k a b ≡ false
  gainless c x k f a b h room =
      elim (cases_Bool (gains (rule_of s) c k a b)) [
        | inr no_gain ↦ no_gain
        | inl gain ↦
            let moves : (a ≢ b) × (a < lanes c) × (0 < at k a) × (s.gains c a (at k a) b (at k b) ≡ true) = (grind (arith, nat_tests), grind (arith, nat_tests), grind (arith, nat_tests), grind (arith, nat_tests)) in
            let stands = f.first a b (at k a) (at k b + 1) moves.1 h (omega arith) (omega arith) (omega arith) (omega arith) in
            absurd (both_ways (s.before c a (at k a) b (at k b + 1)) (o.gain_before c a (at k a) b (at k b) (omega (arith, f.inside a moves.1)) (omega arith) moves.0 moves.2 moves.3) stands)
      ]

  on_a_card : (c : Card) (x : List ℕ) → Front s (terms c) x (line_up s (terms c) x)
  on_a_card c x = line_up_front (terms c) x (lanes_are_few c)

  pub lawful : Lawful (rule_of s)
  lawful = record {
    within = λ c x small. ((on_a_card c x).inside, (on_a_card c x).capped);
    unwasted = λ c x small. (on_a_card c x).full;
    substitutes = λ c x y small-x small-y le. substituted (terms c) x y (line_up s (terms c) x) (line_up s (terms c) y) (on_a_card c x) (on_a_card c y) le;
    no_gain = λ c x small a b h room. gainless (terms c) x (line_up s (terms c) x) (on_a_card c x) a b h room;
  }

  -- and no gain holds at every filling that has the numbers of the choice on the card
  pub no_gain_at_fillings : NoGainAtFillings (rule_of s)
  no_gain_at_fillings = λ c x w small row same a b h room. gainless (terms c) x w (front_like s (terms c) x (line_up s (terms c) x) w (on_a_card c x) same) a b h (omega (arith, same b h))
