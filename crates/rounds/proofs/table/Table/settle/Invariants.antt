use Rattle.std.proofs.Common.{◌≡◌, ◌-◌, ◌≤◌}
use Rattle.boards.specs.Boards.{all_wishes, settle}
use Rattle.rounds.specs.Tables.{board}
use Rattle.rounds.proofs.table.Table.settle.Given as goal

abbrev pub invariant-loop-lot : goal.invariant-loop-lot
invariant-loop-lot g l =
    (settle (g.R.SharingRule.meaning l.rule) (board l.self) ≡ settle (g.R.SharingRule.meaning l.rule) (board l.initial.self)) ×
    (l.before ≡ l.initial.self.lots.count) × (l.before ≤ l.self.lots.count)

abbrev pub decreases-loop-lot : goal.decreases-loop-lot
decreases-loop-lot g l = all_wishes (l.self.lots.lists) - l.self.lots.count
