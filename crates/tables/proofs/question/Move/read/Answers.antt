use Rattle.std.proofs.Common.{Some, sym, ap, ◌∙◌}
use Rattle.tables.specs.Numbers.{number}
use Rattle.tables.proofs.Parts.{step, step_none, move_parts}
use Rattle.tables.proofs.question.Move.read.Goals as goal

pub returns-in_err-number_of-2 : goal.returns-in_err-number_of-2
returns-in_err-number_of-2 c =
    let a = c.in_ok-from.from.now in
    let parts = move_parts c.args.word.now a c.in_ok-from.to.now c.in_ok-from.ensures in
    let none = sym c.number_of-2.ensures ∙ c.in_err-number_of-2.was in
    c.from_residual-in_err-number_of-2.ensures ∙ sym (parts ∙ ap (step (number a)) none ∙ step_none (number a))

pub returns : goal.returns
returns c =
    let parts = move_parts c.args.word.now c.in_ok-from.from.now c.in_ok-from.to.now c.in_ok-from.ensures in
    let first = sym c.number_of.ensures ∙ c.in_ok-number_of.was in
    let second = sym c.number_of-2.ensures ∙ c.in_ok-number_of-2.was in
    (λ i. Some (record { from = c.from.ensures i; to = c.from-2.ensures i })) ∙ sym (parts ∙ (λ i. step (first i) (second i)))
