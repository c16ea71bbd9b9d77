use Rattle.std.proofs.Common.{◌≡◌, ◌+◌, ◌-◌, ◌<◌, ◌^◌, length, drop}
use Rattle.intake.specs.Slips.{cut, enter_all}
use Rattle.intake.proofs.enter.enter_slips.Given as goal

abbrev pub invariant-loop-slip : goal.invariant-loop-slip
invariant-loop-slip g l = record {
  words : l.reader.words.now ≡ l.day.slips.now;
  rule : l.round.rule ≡ l.initial.round.rule;
  room : l.first + length l.day.slips.now < 2 ^ 64;
  rest : enter_all (l.first + l.reader.at) l.round.board (cut (drop l.reader.at l.day.slips.now)) ≡ enter_all l.first l.initial.round.board (cut l.day.slips.now);
}

abbrev pub decreases-loop-slip : goal.decreases-loop-slip
decreases-loop-slip g l = length l.day.slips.now - l.reader.at
