use Rattle.std.proofs.Common.{◌≡◌, true, [], ◌∷◌, ◌++◌, length, sym, ap, ◌∙◌, subst, arith, rules}
use Rattle.books.specs.Lanes.{lots_in, distinct, all_below}
use Rattle.books.proofs.Distinct.{distinct_room, distinct_push, below_push}
use Rattle.books.proofs.Edits.{pushed_on_ok}
use Rattle.books.proofs.lane.Lane.rank.Goals as goal

pub unwrap-requires : goal.unwrap-requires
unwrap-requires c =
    let lane = c.args.self.now in
    let room = distinct_room 256 c.args.lot (lots_in lane.ranking) lane.below lane.once (search rules) c.requires.fresh in
    c.push.ensures.room.1 (omega (arith, room, ap (λ r. length (lots_in r)) c.in-Some.is))

pub invariant_of-self : goal.invariant_of-self
invariant_of-self c =
    let lane = c.args.self.now in
    let old = lots_in lane.ranking in
    let room = distinct_room 256 c.args.lot old lane.below lane.once (search rules) c.requires.fresh in
    let pushed = pushed_on_ok c.push.result (c.push.ensures.room.1 (omega (arith, room, ap (λ r. length (lots_in r)) c.in-Some.is))) c.push.ensures.ok in
    let is : c.push.new.self.items ≡ old ++ c.args.lot ∷ [] = pushed ∙ ap (λ r. lots_in r ++ c.args.lot ∷ []) (sym c.in-Some.is) in
    record {
      once = subst (λ xs. distinct xs ≡ true) (sym is) (distinct_push old c.args.lot lane.once c.requires.fresh);
      below = subst (λ xs. all_below 256 xs ≡ true) (sym is) (below_push 256 c.args.lot old lane.below (search rules));
    }
