use Rattle.std.proofs.Common.{◌≡◌, ◌+◌, drop}
use Rattle.sheets.specs.Progress.{run_length, run_progress}
use Rattle.sheets.proofs.progress.Progress.run.Given as goal

abbrev pub invariant-loop-length : goal.invariant-loop-length
invariant-loop-length l = record {
  length : l.length + run_length l.self (drop l.length l.words) ≡ run_length l.fn.self l.words;
  progress : run_progress l.self (drop l.length l.words) ≡ run_progress l.fn.self l.words;
}
