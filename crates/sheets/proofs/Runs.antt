-- A run of words that go on with a record, one word at a time.
use Rattle.std.proofs.Common.{◌≡◌, ℕ, suc, ◌+◌, ◌<◌, ◌≤◌, Bool, true, false, eqb, List, length, get_or, drop, Some, None, sym, ap, ◌∙◌, one-add}
use Rattle.std.proofs.lemmas.List.{at_drop_more, at_drop_all}
use Rattle.sheets.specs.declared.progress.Progress.{Progress}
use Rattle.sheets.specs.Words.{kind}
use Rattle.sheets.specs.Records.{slip_length}
use Rattle.sheets.specs.Progress.{goes_on, run_length, run_progress}

module _ (p : Progress) (ws : List ℕ) (at : ℕ) where
  -- behind the last word no run goes on
  pub run_past : length ws ≤ at → (run_length p (drop at ws) ≡ 0) × (run_progress p (drop at ws) ≡ p)
  run_past h = (at_drop_all (run_length p) ws at h, at_drop_all (run_progress p) ws at h)

  -- a word that does not go on with the record ends the run
  pub run_stop : at < length ws → goes_on p (get_or ws at 0) ≡ None → (run_length p (drop at ws) ≡ 0) × (run_progress p (drop at ws) ≡ p)
  run_stop h e = (
    at_drop_more (run_length p) ws at 0 h ∙ ap (λ z. elim z [ None ↦ 0 | Some q ↦ suc (run_length q (drop (at + 1) ws)) ]) e,
    at_drop_more (run_progress p) ws at 0 h ∙ ap (λ z. elim z [ None ↦ p | Some q ↦ run_progress q (drop (at + 1) ws) ]) e,
  )

  -- a word that goes on with the record is one more of the run
  pub run_more : (q : Progress) → at < length ws → goes_on p (get_or ws at 0) ≡ Some q →
      (run_length p (drop at ws) ≡ 1 + run_length q (drop (at + 1) ws)) × (run_progress p (drop at ws) ≡ run_progress q (drop (at + 1) ws))
  run_more q h e = (
    at_drop_more (run_length p) ws at 0 h ∙ ap (λ z. elim z [ None ↦ 0 | Some q ↦ suc (run_length q (drop (at + 1) ws)) ]) e ∙ sym (one-add (run_length q (drop (at + 1) ws))),
    at_drop_more (run_progress p) ws at 0 h ∙ ap (λ z. elim z [ None ↦ p | Some q ↦ run_progress q (drop (at + 1) ws) ]) e,
  )

module _ (ws : List ℕ) (at : ℕ) where
  -- behind the last word no slip goes on
  pub slip_past : length ws ≤ at → slip_length (drop at ws) ≡ 0
  slip_past h = at_drop_all slip_length ws at h

  module _ (h : at < length ws) where
    turn : Bool → ℕ
    turn b = elim b [ true ↦ 0 | false ↦ suc (slip_length (drop (at + 1) ws)) ]

    -- a word of kind 5 ends a slip
    pub slip_stop : eqb (kind (get_or ws at 0)) 5 ≡ true → slip_length (drop at ws) ≡ 0
    unfolding turn
    slip_stop e = at_drop_more slip_length ws at 0 h ∙ ap turn e

    -- a word of another kind is one more of the slip
    pub slip_more : eqb (kind (get_or ws at 0)) 5 ≡ false → slip_length (drop at ws) ≡ 1 + slip_length (drop (at + 1) ws)
    unfolding turn
    slip_more e = at_drop_more slip_length ws at 0 h ∙ ap turn e ∙ sym (one-add (slip_length (drop (at + 1) ws)))
