-- What a row ends as, where a `&mut` to its items is returned.
use Rattle.std.specs.Prelude.{ℕ, List, ◌++◌, length, take, drop, slice_set, Option}
use Rattle.std.specs.Borrow.{Lends, LendsIf, Fml, RattleType, MutBor, Array}
use Rattle.rows.specs.Listed.{Listed}
use Rattle.rows.specs.contracts.row.Row.{the_row}

module _ {T : Type 0} where
  -- the row with another item at a place that it has
  abbrev pub with_item : Listed T → ℕ → T → Listed T
  with_item r i x = record { items = slice_set r.items i x; spare = r.spare; count = r.count }

  -- the row after a write of its items as a slice, which keeps their number
  abbrev pub with_items : Listed T → List T → Listed T
  with_items r xs = record {
    items = take (length r.items) (xs ++ r.spare);
    spare = drop (length r.items) (xs ++ r.spare);
    count = r.count;
  }

module _ (T N : RattleType) (r : MutBor (Listed T.Denot)) where
  -- once the borrow b ends, the items are those that b shows last
  abbrev pub lends_slice : MutBor (List T.Denot) → Fml
  lends_slice b = Lends (the_row T N) (Array T 0) r b (with_items r.now)

  -- once the borrow b ends, place i has the item that b shows last
  abbrev pub lends_item : ℕ → MutBor T.Denot → Fml
  lends_item i b = Lends (the_row T N) T r b (with_item r.now i)

  -- the same where there may be no such place, and the row then stays as it is
  abbrev pub lends_get : ℕ → Option (MutBor T.Denot) → Fml
  lends_get i b = LendsIf (the_row T N) T r b (with_item r.now i) r.now
