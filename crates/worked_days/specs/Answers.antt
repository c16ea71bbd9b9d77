-- Worked cases, over the definitions that the contracts cite.
use Rattle.std.specs.Prelude.{◌≡◌, ℕ, true, false, [], ◌∷◌}
use Rattle.sharing.specs.Cards.{Terms}
use Rattle.sharing.specs.LineUp.{rule_of}
use Rattle.sharing.specs.Rules.{gains}
use Rattle.sharing.specs.Shares.{shares}
use Rattle.sharing.specs.Turns.{turns}

-- a shed with a cap and two lanes of given capacities and targets
abbrev pub two_lanes : ℕ → ℕ → ℕ → ℕ → ℕ → Terms
two_lanes limit q t r u = record { shed = 0; limit = limit; capacities = q ∷ r ∷ []; targets = t ∷ u ∷ [] }

-- what the two rules keep and gain
abbrev pub WorkedAnswers : Type 0
WorkedAnswers =
    ((rule_of turns).choice (two_lanes 4 4 0 2 0) (4 ∷ 2 ∷ []) ≡ 2 ∷ 2 ∷ []) ×
    ((rule_of shares).choice (two_lanes 4 4 0 2 0) (4 ∷ 2 ∷ []) ≡ 3 ∷ 1 ∷ []) ×
    ((rule_of turns).choice (two_lanes 3 4 0 2 0) (4 ∷ 2 ∷ []) ≡ 2 ∷ 1 ∷ []) ×
    ((rule_of turns).choice (two_lanes 2 4 0 2 2) (4 ∷ 1 ∷ []) ≡ 1 ∷ 1 ∷ []) ×
    (gains (rule_of turns) (two_lanes 4 4 0 2 0) (3 ∷ 1 ∷ []) 0 1 ≡ true) ×
    (gains (rule_of turns) (two_lanes 4 4 0 2 0) (2 ∷ 1 ∷ []) 0 1 ≡ false) ×
    (gains (rule_of shares) (two_lanes 4 4 0 2 0) (3 ∷ 1 ∷ []) 0 1 ≡ false) ×
    (gains (rule_of shares) (two_lanes 4 4 0 2 0) (4 ∷ 0 ∷ []) 0 1 ≡ true)
