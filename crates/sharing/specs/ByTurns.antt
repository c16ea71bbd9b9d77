use Rattle.std.proofs.Common.{arith}
use Rattle.std.proofs.lemmas.Bool.Decides.{nat_tests}
use Rattle.sharing.specs.Orders.{Ordered}
use Rattle.sharing.specs.Turns.{turns}

pub turns_ordered : Ordered turns
turns_ordered = record {
  same_lane = λ c g k m a. grind (arith, nat_tests);
  either = λ c g k h m a b apart e. grind (arith, nat_tests);
  not_both = λ c g k h m a b e f. grind (arith, nat_tests);
  along = λ c g k h m i n a b d e f. grind (arith, nat_tests);
  wider = λ c g k h m j n a b e low high. grind (arith, nat_tests);
  gain_before = λ c a w b v x y apart some e. grind (arith, nat_tests);
}
