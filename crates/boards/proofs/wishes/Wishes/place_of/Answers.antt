use Rattle.std.proofs.Common.{◌≡◌, ℕ, List, unwrap_or, length, sym, refl, ap, add-one, ◌∙◌, rules, tests}
use Rattle.std.proofs.lemmas.Iterator.{YieldsList-from_slice, IsFirst-from_position, index_from_first}
use Rattle.std.proofs.lemmas.Bool.{eq-eqb, ne_eqb}
use Rattle.boards.proofs.BoardLines.{place_yes, place_no}
use Rattle.boards.specs.Lines.{place}
use Rattle.boards.proofs.wishes.Wishes.place_of.Goals as goal

pub returns : goal.returns
returns c =
    let lane = c.args.lane in
    let xs = c.deref.result.now in
    let found : List ℕ → ℕ = λ xs. place xs lane in
    let first = IsFirst-from_position _ _ c.position.result (λ x. x ≡ lane) (λ x. x ≡ lane → ⊥) c.position.ensures.ran (YieldsList-from_slice xs cc) (λ x q k. search (rules, tests)) (λ x q k. search (rules, tests)) in
    let is = c.deref.ensures.0 in
    c.unwrap_or.ensures
    ∙ ap (unwrap_or c.position.result) (c.len.ensures ∙ ap length (sym is))
    ∙ sym (index_from_first found (λ x. x ≡ lane) (λ x. x ≡ lane → ⊥) refl (λ x xs e. place_yes x xs lane (eq-eqb x lane e)) (λ x xs e. place_no x xs lane (ne_eqb x lane e) ∙ sym (add-one (place xs lane))) xs c.position.result first)
    ∙ ap found is
