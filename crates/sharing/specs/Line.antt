-- What is dealt next, in the words of places.
use Rattle.std.specs.Prelude.{ℕ, ◌+◌, List, Option, Some, None, nat_lt, if◌then◌else◌}
use Rattle.sharing.specs.declared.order.Place.{Place}
use Rattle.sharing.specs.Cards.{Terms}
use Rattle.sharing.specs.Orders.{Standing}
use Rattle.sharing.specs.Rules.{at, places}

-- the place of one lot more in a lane
abbrev pub place_after : List ℕ → ℕ → Place
place_after k l = record { lane = l; number = at k l + 1 }

-- the place of one lot more, in a lane that keeps fewer than it has places
abbrev pub open_place : Terms → List ℕ → List ℕ → ℕ → Option Place
open_place c x k l = if nat_lt (at k l) (places c x l) then Some (place_after k l) else None

-- of two places that which stands first
abbrev pub earlier : Standing → Terms → Place → Place → Place
earlier s c p q = if s.before c q.lane q.number p.lane p.number then q else p
