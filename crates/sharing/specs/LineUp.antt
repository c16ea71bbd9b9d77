-- The line-up: all places of a shed stand in line, and as many from the front are kept as the cap allows.
use Rattle.std.specs.Prelude.{◌≡◌, ℕ, zero, suc, ◌+◌, ◌<◌, ◌≤◌, Bool, true, false, cond, ◌&&◌, ltb, List, map, Some, None, Option, nat_lt, slice_set}
use Rattle.std.specs.List.{range_with_len}
use Rattle.sharing.specs.Cards.{Terms}
use Rattle.sharing.specs.Orders.{Standing, Ordered}
use Rattle.sharing.specs.Rules.{at, lanes, places, sum_to, kept, Meaning, NoGainAtFillings}

-- how many of the numbers 1 to n pass
abbrev pub count_to : (ℕ → Bool) → ℕ → ℕ
count_to p zero = 0
count_to p (suc n) = cond (p (suc n)) 1 0 + count_to p n

-- how many places of the shed stand before place k of lane l
abbrev pub ahead : Standing → Terms → List ℕ → ℕ → ℕ → ℕ
ahead s c x l k = sum_to (λ h. count_to (λ m. s.before c h m l k) (places c x h)) (lanes c)

-- how many places of a lane are kept: those with fewer than the cap before them
abbrev pub front : Standing → Terms → List ℕ → ℕ → ℕ
front s c x l = count_to (λ k. ltb (ahead s c x l k) c.limit) (places c x l)

abbrev pub line_up : Standing → Terms → List ℕ → List ℕ
line_up s c x = map (front s c x) (range_with_len 0 (lanes c))

-- the rule of an order
abbrev pub rule_of : Standing → Meaning
rule_of s = record { choice = line_up s; gain = λ c w a b. s.gains c a (at w a) b (at w b) }

-- every kept place stands before every place that is not kept, no lane keeps more than its places, and the shed keeps
-- its cap if it does not keep every place
pub record Front (s : Standing) (c : Terms) (x k : List ℕ) : Type 0 where
  pub inside : (l : ℕ) → l < lanes c → at k l ≤ places c x l
  pub capped : kept c k ≤ c.limit
  pub full : (l : ℕ) → l < lanes c → at k l < places c x l → kept c k ≡ c.limit
  pub first : (l h i j : ℕ) → l < lanes c → h < lanes c → 1 ≤ i → i ≤ at k l → at k h < j → j ≤ places c x h → s.before c l i h j ≡ true

-- dealing: the lane among the first n whose next place stands first
abbrev pub better : Standing → Terms → List ℕ → ℕ → Option ℕ → Bool
better s c k l None = true
better s c k l (Some b) = s.before c l (at k l + 1) b (at k b + 1)

abbrev pub picked : Standing → Terms → List ℕ → List ℕ → ℕ → Option ℕ → Option ℕ
picked s c x k n best = elim (nat_lt (at k n) (places c x n) && better s c k n best) [ true ↦ Some n | false ↦ best ]

abbrev pub pick : Standing → Terms → List ℕ → List ℕ → ℕ → Option ℕ
pick s c x k zero = None
pick s c x k (suc n) = picked s c x k n (pick s c x k n)

-- up to n places are dealt out, one at a time
abbrev pub deal : Standing → Terms → List ℕ → ℕ → List ℕ → List ℕ
deal s c x zero k = k
deal s c x (suc n) k = elim (pick s c x k (lanes c)) [ None ↦ k | Some b ↦ deal s c x n (slice_set k b (at k b + 1)) ]

-- by a line-up no shed gains by moving a lot to a lane that keeps fewer than it has places, at any filling with the numbers of the
-- choice
abbrev pub LineUpsKeepNoGain : Type 0
LineUpsKeepNoGain = (s : Standing) → Ordered s → NoGainAtFillings (rule_of s)
