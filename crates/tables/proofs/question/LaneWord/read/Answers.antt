use Rattle.std.proofs.Common.{sym, ap, ◌∙◌}
use Rattle.tables.specs.Numbers.{number}
use Rattle.tables.proofs.Parts.{lane, lane_none, lane_parts}
use Rattle.tables.proofs.question.LaneWord.read.Goals as goal

pub returns-in_err-number_of-3 : goal.returns-in_err-number_of-3
returns-in_err-number_of-3 c =
    let q = c.in_ok-capacity.capacity.now in
    let t = c.in_ok-target.target.now in
    let parts = lane_parts c.args.word.now q c.in_ok-capacity.rest.now t c.in_ok-target.number.now c.in_ok-capacity.ensures c.in_ok-target.ensures in
    let none = sym c.number_of-3.ensures ∙ c.in_err-number_of-3.was in
    c.from_residual-in_err-number_of-3.ensures ∙ sym (parts ∙ ap (lane (number q) (number t)) none ∙ lane_none (number q) (number t))

pub returns : goal.returns
returns c =
    let parts = lane_parts c.args.word.now c.in_ok-capacity.capacity.now c.in_ok-capacity.rest.now c.in_ok-target.target.now c.in_ok-target.number.now c.in_ok-capacity.ensures c.in_ok-target.ensures in
    let first = sym c.number_of.ensures ∙ c.in_ok-number_of.was in
    let second = sym c.number_of-2.ensures ∙ c.in_ok-number_of-2.was in
    let third = sym c.number_of-3.ensures ∙ c.in_ok-number_of-3.was in
    sym (parts ∙ (λ i. lane (first i) (second i) (third i)))
