use Rattle.std.proofs.Common.{◌≡◌, ℕ, suc, ◌+◌, true, false, cond, List, [], ◌∷◌, Some, refl, ap, ◌∙◌, arith, rules, tests}
use Rattle.std.specs.List.{position_from}
use Rattle.std.proofs.lemmas.Iterator.{YieldsList-from_slice}
use Rattle.std.proofs.lemmas.Iterator.Adapters.{position_from-zero}
use Rattle.std.proofs.lemmas.Iterator.Search.{position_from_yields_List}
use Rattle.boards.specs.declared.line.Line.{Line}
use Rattle.boards.specs.Lines.{looks, lowest}
use Rattle.rounds.proofs.lines.Lines.lowest_looking.Goals as goal

-- the lowest lot that looks is the first place whose line looks
lowest_from : (ys : List Line) (k : ℕ) → position_from looks k ys ≡ lowest k ys
lowest_from [] k = refl
lowest_from (y ∷ ys) k = elim (looks y) as (λ b. cond b (Some k) (position_from looks (k + 1) ys) ≡ elim b [ true ↦ Some k | false ↦ lowest (suc k) ys ]) [
  | true ↦ refl
  | false ↦ (let more : k + 1 ≡ suc k = omega arith in ap (λ n. position_from looks n ys) more ∙ lowest_from ys (suc k))
]

pub returns : goal.returns
returns c =
    let ys = c.self.inside.lines in
    position_from_yields_List looks _ _ c.position.result c.position.ensures.ran (YieldsList-from_slice ys c.iter.ensures.rest) (λ x b q k. search (rules, tests))
    ∙ position_from-zero looks ys ∙ lowest_from ys 0 ∙ ap (lowest 0) c.self.view_is
