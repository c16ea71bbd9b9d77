-- By turns: the place with the smaller number beyond its target comes first, and of equals that of the earlier lane.
use Rattle.std.specs.Prelude.{◌+◌, ◌&&◌, ◌||◌, ◌==◌, nat_le, nat_lt}
use Rattle.sharing.specs.Orders.{Standing}
use Rattle.sharing.specs.Rules.{at}

-- A place k beyond a target t has the whole number k − t, which is not above 0 up to the target, so places up to the
-- targets come first. Two such numbers, k − t and m − u, are compared as k + u and m + t.
abbrev pub turns : Standing
turns = record {
  before = λ c g k h m. nat_lt (k + at c.targets h) (m + at c.targets g) || (k + at c.targets h == m + at c.targets g && nat_lt g h);
  gains = λ c a w b v. nat_le (v + 1 + (at c.targets a + 1)) (w + at c.targets b);
}
