use Rattle.std.proofs.Common.{◌≡◌, ℕ, ◌<◌, [], ◌∷◌, length, Some, None, Option, sym, ap, ◌∙◌, arith, rules}
use Rattle.std.proofs.lemmas.Bool.Decides.{nat_tests}
use Rattle.std.proofs.lemmas.Iterator.{YieldsList-from_slice}
use Rattle.std.specs.ControlFlow.{continue_value}
use Rattle.tables.specs.Numbers.{go_on}
use Rattle.tables.proofs.TryFolds.{try_fold_from_yields_List}
use Rattle.tables.proofs.Figures.{with_digits, with_digits-go_on, some_digits}
use Rattle.tables.proofs.number.number_of.Goals as goal

pub returns : goal.returns
returns c =
    let w = c.args.word.now in
    let some : 0 < length w = let e = c.if-is_empty.ensures in grind (arith, nat_tests) in
    try_fold_from_yields_List {Z = Option ℕ} _ (λ x. x.now) _ (λ o k. o ≡ continue_value k) (λ e o. o ≡ None) (λ o. o) (λ v bs. with_digits (Some v) bs) _
    (λ v r is. is)
    (λ v n x o q bs call is. (search rules, let one : o ≡ go_on v (x.now ∷ []) = search rules in ap (λ p. with_digits p bs) {x = Some n} (sym is ∙ one)))
    (λ v x o q e r bs call is out. let one : o ≡ go_on v (x.now ∷ []) = search rules in out ∙ ap (λ p. with_digits p bs) {x = None} (sym is ∙ one))
    _ _ w 0 c.try_fold.result c.try_fold.ensures.ran (YieldsList-from_slice w cc)
    ∙ with_digits-go_on 0 w (omega arith) ∙ sym (some_digits w some)
