use Rattle.std.proofs.Common.{◌≡◌, map, take}
use Rattle.std.specs.List.{range_with_len}
use Rattle.days.specs.Input.{word_at}
use Rattle.days.proofs.input.fill.Given as goal

abbrev pub invariant-loop-place : goal.invariant-loop-place
invariant-loop-place l = take l.place l.words ≡ map (word_at l.bytes) (range_with_len 0 l.place)
