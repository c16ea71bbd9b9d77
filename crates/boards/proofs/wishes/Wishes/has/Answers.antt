use Rattle.std.proofs.Common.{ℕ, Bool, ◌||◌, List, eqb, refl, ap, ◌∙◌}
use Rattle.std.proofs.lemmas.List.Recursion.{same_from_clauses}
use Rattle.std.specs.List.{list_any}
use Rattle.books.specs.Lanes.{has}
use Rattle.boards.proofs.wishes.Wishes.has.Goals as goal

pub returns : goal.returns
returns c =
    let lane = c.args.lane in
    let listed : List ℕ → Bool = λ xs. has xs lane in
    c.contains.ensures.value
    ∙ same_from_clauses (list_any (λ x. eqb x lane)) listed (λ x b. eqb x lane || b) refl (λ _ _. refl) (λ _ _. refl) c.deref.result.now
    ∙ ap listed c.deref.ensures.0
