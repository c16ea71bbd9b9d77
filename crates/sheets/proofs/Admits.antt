-- What an admitted word says of how far the sheet has come.
use Rattle.std.proofs.Common.{◌≡◌, ◌<◌, true, false, is_ok, arith}
use Rattle.std.proofs.lemmas.Bool.Decides.{nat_tests}
use Rattle.sheets.specs.declared.progress.Progress.{Progress}
use Rattle.sheets.specs.Progress.{admits_shed, admits_lane, admits_lot}

-- a SHED word stands before any ranking and behind at most seven others
pub shed_admitted : (p : Progress) → is_ok (admits_shed p) ≡ true → (p.ranking ≡ false) × (p.sheds < 8)
shed_admitted p e = (grind (arith, nat_tests), grind (arith, nat_tests))

-- a LANE word stands in a shed, before any ranking, and there is room for it in the shed and in the book
pub lane_admitted : (p : Progress) → is_ok (admits_lane p) ≡ true → (p.ranking ≡ false) × (0 < p.sheds) × (p.lanes_here < 8) × (p.lanes < 32)
lane_admitted p e = (grind (arith, nat_tests), grind (arith, nat_tests), grind (arith, nat_tests), grind (arith, nat_tests))

-- a NEXT word stands behind a ranking
pub lot_admitted : (p : Progress) → is_ok (admits_lot p) ≡ true → p.ranking ≡ true
lot_admitted p e = grind (arith, nat_tests)
