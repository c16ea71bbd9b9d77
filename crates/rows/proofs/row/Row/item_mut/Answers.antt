use Rattle.std.proofs.Common.{◌<◌, arith, refl, rules}
use Rattle.std.proofs.Math.Seq.{take-set-lt}
use Rattle.std.proofs.lemmas.List.{drop-set-lt, places}
use Rattle.rows.proofs.row.Row.item_mut.Goals as goal

pub returns : goal.returns
returns g c =
    let inside = c.self.inside in
    let i = c.args.place in
    let below : i < inside.len = search rules in (
      (
        refl,
        λ w. rw (← c.self.view_is) (λ t. record {
          items = take-set-lt inside.len inside.cells i w below t;
          spare = drop-set-lt inside.len inside.cells i w below t;
          count = inside.len;
        }),
      ),
      record { writes_back = tt; value = grind (arith, places) },
    )
