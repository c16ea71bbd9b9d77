-- A rule that is none: all to the longest queue.
use Rattle.std.specs.Prelude.{ℕ, ◌-◌, min, Bool, false, cond, ◌&&◌, ◌||◌, List, map, ◌==◌, nat_lt}
use Rattle.std.specs.List.{range_with_len}
use Rattle.sharing.specs.Rules.{at, lanes, places, sum_to, Meaning, Lawful}

-- lane h comes before lane l if its supply is larger, or as large and it is the earlier lane
abbrev pub longer : List ℕ → ℕ → ℕ → Bool
longer x h l = nat_lt (at x l) (at x h) || (at x l == at x h && nat_lt h l)

-- a lane keeps what the lanes before it leave of the cap
abbrev pub longest_queue : Meaning
longest_queue = record {
  choice = λ t x. map (λ l. min (places t x l) (t.limit - sum_to (λ h. cond (longer x h l) (places t x h) 0) (lanes t))) (range_with_len 0 (lanes t));
  gain = λ t w a b. false;
}

-- it breaks the substitutes law: under a cap of 2 and capacities of 3, of (2, 3) the lanes keep (0, 2), of (2, 1) they
-- keep (2, 0)
abbrev pub LongestQueueUnlawful : Type 0
LongestQueueUnlawful = Lawful longest_queue → ⊥
