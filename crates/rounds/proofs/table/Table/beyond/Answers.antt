use Rattle.std.proofs.Common.{◌≡◌, ℕ, zero, suc, Bool, true, false, cond, List, [], ◌∷◌, Some, refl, sym, ◌∙◌, rules, tests}
use Rattle.std.specs.List.{filter, slice_get}
use Rattle.std.proofs.lemmas.Iterator.{YieldsList-from_slice}
use Rattle.std.proofs.lemmas.Iterator.Adapters.{option_map_id}
use Rattle.std.proofs.lemmas.Iterator.Consumers.{YieldsList-at, YieldsList-from_copied, YieldsList-from_filter, nth_from_yields_List}
use Rattle.books.specs.Contents.{contents, ranking_of}
use Rattle.boards.specs.Searches.{beyond}
use Rattle.rounds.specs.Claims.{claiming}
use Rattle.rounds.proofs.table.Table.beyond.Goals as goal

-- of the lots that are on offer, the one behind the best n
nth_offered : (O : ℕ → Bool) (R : List ℕ) (n : ℕ) → slice_get (filter O R) n ≡ beyond n O R
nth_offered O [] n = refl
nth_offered O (r ∷ R) zero = elim (O r) as (λ b. slice_get (cond b (r ∷ filter O R) (filter O R)) 0 ≡ elim b [ true ↦ Some r | false ↦ beyond zero O R ]) [ true ↦ refl | false ↦ nth_offered O R zero ]
nth_offered O (r ∷ R) (suc n) = elim (O r) as (λ b. slice_get (cond b (r ∷ filter O R) (filter O R)) (suc n) ≡ elim b [ true ↦ beyond n O R | false ↦ beyond (suc n) O R ]) [ true ↦ nth_offered O R n | false ↦ nth_offered O R (suc n) ]

pub returns : goal.returns
returns c =
    let O = claiming c.args.self.now c.args.asked c.args.lane in
    let R = ranking_of (contents c.args.self.now.book) c.args.lane in
    sym (option_map_id c.nth.result)
    ∙ nth_from_yields_List c.nth.result c.nth.new.self c.args.keep c.nth.ensures.ran (YieldsList-from_filter _ O (YieldsList-at c.filter.ensures.source (YieldsList-from_copied (YieldsList-at c.copied.ensures.source (YieldsList-from_slice R (c.iter.ensures.rest ∙ c.ranking.ensures))))) c.filter.ensures.closure (λ x b q k. search (rules, tests)))
    ∙ nth_offered O R c.args.keep
