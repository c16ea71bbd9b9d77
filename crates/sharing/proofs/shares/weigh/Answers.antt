use Rattle.std.proofs.Common.{ℕ, ◌+◌, ◌*◌, ◌^◌, ◌<◌, ◌≤◌, arith}
use Rattle.std.proofs.lemmas.Nat.{mul-le}
use Rattle.sharing.proofs.shares.weigh.Goals as goal

-- a place's number times one number of a card, and two numbers of a card, are small
small_sum : (k q t r : ℕ) → k ≤ 2 ^ 32 → q ≤ 4095 → t ≤ 4095 → r ≤ 4095 → k * q + t * r < 2 ^ 45
small_sum k q t r hk hq ht hr = omega (arith, mul-le k q (2 ^ 32) 4095 hk hq, mul-le t r 4095 4095 ht hr)

pub overflow_add-result : goal.overflow_add-result
overflow_add-result c = grind (arith, small_sum)

pub returns-clause-small : goal.returns-clause-small
returns-clause-small c = grind (arith, small_sum)
