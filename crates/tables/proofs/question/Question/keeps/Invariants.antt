use Rattle.std.proofs.Common.{◌≡◌, ℕ, map}
use Rattle.tables.proofs.question.Question.keeps.Given as goal

-- the lanes so far keep what each rule keeps
abbrev pub invariant-loop-turns : goal.invariant-loop-turns
invariant-loop-turns l =
    (goal.iterator-loop-turns).can_next l.turns-iterator × (goal.iterator-loop-turns).is_finite l.turns-iterator
    × (map {B = ℕ × ℕ} (λ k. (k.turns, k.shares)) l.kept.items ≡ map (λ p. (p.0.now, p.1.now)) l.yielded)
