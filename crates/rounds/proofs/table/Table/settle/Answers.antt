use Rattle.std.proofs.Common.{◌≡◌, ℕ, suc, ◌-◌, ◌<◌, Some, sym, ap, ◌∙◌, arith}
use Rattle.sharing.specs.Rules.{Meaning, Lawful}
use Rattle.rounds.specs.declared.table.Table.{Table}
use Rattle.boards.specs.Lines.{lowest}
use Rattle.boards.specs.Boards.{Board, apply, all_wishes, settle}
use Rattle.rounds.specs.Tables.{board}
use Rattle.boards.proofs.CallsRun.{lowest_is, apply_lists, count_more}
use Rattle.rounds.proofs.FormedTables.{formed}
use Rattle.boards.proofs.SettlesAll.{settle_stop, settle_step, goes_on}
use Rattle.rounds.proofs.table.Table.settle.Goals as goal

-- one turn of the loop
module _ (m : Meaning) (law : Lawful m) (t u : Table) (lot : ℕ) (looks : lowest 0 (board t).lines ≡ Some lot) (is : board u ≡ apply m (board t) lot) where
  counted : u.lots.count ≡ suc t.lots.count
  counted = ap (λ (s : Board). s.count) is ∙ count_more m law (board t) lot (lowest_is (board t).lines lot looks)

  same_wishes : all_wishes (board u).lists ≡ all_wishes (board t).lists
  same_wishes = ap (λ (s : Board). all_wishes s.lists) is ∙ ap all_wishes (apply_lists m (board t) lot).1

  less : all_wishes (board u).lists - u.lots.count < all_wishes (board t).lists - t.lots.count
  less = omega (arith, counted, same_wishes, goes_on m law (board t) (formed t) lot looks)

  same : settle m (board u) ≡ settle m (board t)
  same = ap (settle m) is ∙ settle_step m law (board t) (formed t) lot looks

pub loop-lot-smaller : goal.loop-lot-smaller
loop-lot-smaller g c =
    less (g.R.SharingRule.meaning c.args.rule.now) (g.met.R.SharingRule.lawful c.args.rule.now) c.loop-lot.self c.apply.new.self c.in-Some.lot (sym c.lowest_looking.ensures ∙ c.in-Some.is) c.apply.ensures.board

pub loop-lot-preserved : goal.loop-lot-preserved
loop-lot-preserved g c =
    let m = g.R.SharingRule.meaning c.args.rule.now in
    let law = g.met.R.SharingRule.lawful c.args.rule.now in
    let looks = sym c.lowest_looking.ensures ∙ c.in-Some.is in
    let more = counted m law c.loop-lot.self c.apply.new.self c.in-Some.lot looks c.apply.ensures.board in
    (same m law c.loop-lot.self c.apply.new.self c.in-Some.lot looks c.apply.ensures.board ∙ c.loop-lot.invariant.0, c.loop-lot.invariant.1, omega (arith, c.loop-lot.invariant.2))

pub returns : goal.returns
returns g c =
    let m = g.R.SharingRule.meaning c.args.rule.now in
    let s = board c.loop-lot.self in
    let done : s ≡ settle m (board c.args.self.now) = sym (settle_stop m (all_wishes s.lists) s (sym c.lowest_looking.ensures ∙ c.in_default.is)) ∙ c.loop-lot.invariant.0 in
    record {
      answer = (λ i. ap (λ (s : Board). s.count) done i - c.loop-lot.invariant.1 i);
      board = done;
    }
