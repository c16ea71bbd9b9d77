use Rattle.std.proofs.Common.{◌≡◌, [], ◌∷◌, ◌++◌, ◌/◌, map, length, ap, sym, ◌∙◌, arith}
use Rattle.std.specs.List.{range_with_len}
use Rattle.std.proofs.lemmas.List.{take_more_set}
use Rattle.std.proofs.lemmas.List.FromFn.{map-range_with_len_more}
use Rattle.days.specs.Input.{word_at}
use Rattle.days.proofs.Days.{word_in_four}
use Rattle.days.proofs.input.fill.Goals as goal

pub loop-place-preserved : goal.loop-place-preserved
loop-place-preserved c =
    let x = c.loop-place in
    let bs = c.args.bytes.now in
    let word = c.from_be_bytes.result in
    let more = take_more_set x.words x.place word (omega (arith, c.in_ok-words.ensures.lookup)) in
    let then = map-range_with_len_more (word_at bs) 0 x.place x.place (omega arith) in
    let here : word ≡ word_at bs x.place = c.from_be_bytes.ensures ∙ word_in_four bs c.as_chunks.result.0.now (length bs / 4) x.place _ c.as_chunks.ensures.front (omega arith) in
    more ∙ ap (λ v. v ++ word ∷ []) x.invariant ∙ ap (λ y. map (word_at bs) (range_with_len 0 x.place) ++ y ∷ []) here ∙ sym then
