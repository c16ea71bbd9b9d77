use Rattle.std.proofs.Common.{◌≡◌, ℕ, not, eqb, List, [], ◌∷◌, length, take_while, refl, ◌∙◌, arith, rules, tests}
use Rattle.std.proofs.lemmas.Grind.{common_steps}
use Rattle.std.proofs.lemmas.Iterator.{YieldsList-from_slice}
use Rattle.std.proofs.lemmas.Iterator.Consumers.{count_from_yields_List}
use Rattle.std.proofs.lemmas.Iterator.Search.{YieldsList-from_take_while}
use Rattle.sheets.specs.Words.{kind}
use Rattle.sheets.specs.Records.{slip_length}
use Rattle.sheets.proofs.reader.words_before_slip.Goals as goal

length-before_slip : (ws : List ℕ) → length (take_while (λ w. not (eqb (kind w) 5)) ws) ≡ slip_length ws
length-before_slip [] = refl
length-before_slip (w ∷ ws) = grind (arith, common_steps, length-before_slip ws)

pub returns-clause-count : goal.returns-clause-count
returns-clause-count c =
    count_from_yields_List c.take_while.result _ c.count.ensures.ran (YieldsList-from_take_while _ (λ w. not (eqb (kind w) 5)) (YieldsList-from_slice c.args.words.now cc) c.take_while.ensures.closure c.take_while.ensures.done (λ x b q k. search (rules, tests)))
    ∙ length-before_slip c.args.words.now
