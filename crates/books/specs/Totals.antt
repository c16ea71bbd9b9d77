-- What a book has altogether.
use Rattle.std.specs.Prelude.{ℕ, List, length, sum_by, sum}
use Rattle.sharing.specs.Cards.{Terms}
use Rattle.books.specs.declared.totals.Totals.{Totals}
use Rattle.books.specs.Contents.{Contents}
use Rattle.books.specs.Lanes.{Entry}

-- the sums of the caps, the targets and the capacities
abbrev pub shed_totals : List Terms → ℕ × ℕ × ℕ
shed_totals ts = (sum_by (λ t. t.limit) ts, sum_by (λ t. sum t.targets) ts, sum_by (λ t. sum t.capacities) ts)

-- the lots in all rankings
abbrev pub lots_ranked : List Entry → ℕ
lots_ranked es = sum_by (λ e. length e.ranking) es

abbrev pub totals_of : Contents → Totals
totals_of c = record {
  sheds = length c.sheds;
  lanes = length c.lanes;
  caps = (shed_totals c.sheds).0;
  targets = (shed_totals c.sheds).1;
  capacities = (shed_totals c.sheds).2;
  ranked = lots_ranked c.lanes;
}
