-- What an answer tells.
use Rattle.std.specs.Prelude.{ℕ, Bool, true, false, List, length, map, Some, None, Option, nat_lt}
use Rattle.sharing.specs.Rules.{at}
use Rattle.tables.specs.declared.answer.Answer.{Answer}
use Rattle.tables.specs.declared.answer.ByRule.{ByRule}

-- how many lots each lane of the card keeps by turns and by shares, and whether the shed gains by the move
pub record Told : Type 0 where
  pub turns : List ℕ
  pub shares : List ℕ
  pub gain : Option (ByRule Bool)

-- the row has what each lane of the card keeps
abbrev pub tells : Answer → Told
tells a = record { turns = map (λ k. k.turns) a.kept.items; shares = map (λ k. k.shares) a.kept.items; gain = a.gain }

-- what one lane keeps; none if it is not on the card
abbrev pub kept_at : Told → ℕ → Option (ByRule ℕ)
kept_at t lane = elim (nat_lt lane (length t.turns)) [ true ↦ Some (record { turns = at t.turns lane; shares = at t.shares lane }) | false ↦ None ]
