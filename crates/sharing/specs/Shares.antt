-- By shares: the place with the smaller part of its lane's capacity beyond the target comes first, and of equals that of
-- the earlier lane.
use Rattle.std.specs.Prelude.{ℕ, ◌+◌, ◌*◌, ◌&&◌, ◌||◌, ◌==◌, nat_le, nat_lt}
use Rattle.sharing.specs.Cards.{Terms}
use Rattle.sharing.specs.Orders.{Standing}
use Rattle.sharing.specs.Rules.{at}

-- what place k of lane g counts beside lane h: (k − t_g) × q_h, with t_g × q_h and t_h × q_g added to both sides of a
-- comparison, so that no number is below 0
abbrev pub weight : Terms → ℕ → ℕ → ℕ → ℕ
weight c g k h = k * at c.capacities h + at c.targets h * at c.capacities g

abbrev pub shares : Standing
shares = record {
  before = λ c g k h m. nat_lt (weight c g k h) (weight c h m g) || (weight c g k h == weight c h m g && nat_lt g h);
  gains = λ c a w b v. nat_le (weight c b (v + 1) a + at c.capacities b) (weight c a w b);
}
