-- What is told of a lane is what the book answers about it.
use Rattle.std.proofs.Common.{◌≡◌, ℕ, length, Some, sym, arith}
use Rattle.std.specs.Prelude.{Option}
use Rattle.std.specs.List.{slice_get}
use Rattle.std.specs.Option.{option_map}
use Rattle.std.proofs.lemmas.Grind.{common_steps}
use Rattle.std.proofs.lemmas.Option.{get_or_from_slice_get}
use Rattle.sharing.specs.Cards.{Terms}
use Rattle.sharing.specs.Rules.{at}
use Rattle.books.specs.Lanes.{Entry}
use Rattle.books.specs.Contents.{Contents, no_shed}
use Rattle.books.specs.Laid.{shed_of}
use Rattle.listing.specs.Lines.{told_in}
use Rattle.listing.specs.declared.lane.LaneLine.{LaneLine}

pub told_is : (c : Contents) (g l : ℕ) (t : Terms) (place ranked target capacity : ℕ) → target ≡ at t.targets place → capacity ≡ at t.capacities place →
    Some g ≡ option_map (λ (e : Entry). e.shed) (slice_get c.lanes l) → Some t ≡ slice_get c.sheds g →
    Some place ≡ option_map (λ (e : Entry). e.place) (slice_get c.lanes l) → Some ranked ≡ option_map (λ (e : Entry). length e.ranking) (slice_get c.lanes l) →
    ◌≡◌ {A = Option LaneLine} (Some (record { lane = l; target = target; capacity = capacity; ranked = ranked })) (told_in c g l)
told_is c g l t place ranked target capacity of_target of_capacity s k p r =
    let card : shed_of c g ≡ t = get_or_from_slice_get c.sheds g t no_shed (sym k) in
    rw (of_target, of_capacity) (grind (arith, common_steps))
