-- The part of a sheet that is the next record.
use Rattle.std.proofs.Common.{◌≡◌, ℕ, suc, ◌+◌, ◌-◌, ◌<◌, ◌≤◌, List, ◌∷◌, length, get_or, take, drop, Some, None, Ok, Err, Option, Result, sym, ap, ◌∙◌, arith, length-drop, length-take}
use Rattle.std.proofs.lemmas.List.{at_drop_more, at_drop_all, drop_more}
use Rattle.sheets.specs.declared.fault.Fault.{Fault}
use Rattle.sheets.specs.declared.progress.Progress.{Progress}
use Rattle.sheets.specs.Progress.{judged, run_length, run_progress}
use Rattle.sheets.specs.Records.{Page, next_record, record_progress}

-- the words of a part that begins at a place and has n words behind the first
pub part_words : (ws : List ℕ) (at end n : ℕ) → at < length ws → end ≡ at + 1 + n → get_or ws at 0 ∷ take n (drop (at + 1) ws) ≡ take (end - at) (drop at ws)
part_words ws at end n h e =
    let more : end - at ≡ suc n = omega arith in
    rw (more, drop_more ws at 0 h)

-- a part ends as many words behind its place as it has
pub part_length : (ws : List ℕ) (at end : ℕ) → at ≤ end → end ≤ length ws → end ≡ at + length (take (end - at) (drop at ws))
part_length ws at end h e = simp (length-take, length-drop) (omega arith)

module _ (p : Progress) (ws : List ℕ) (at : ℕ) where
  -- behind the last word there is no record
  pub record_past : length ws ≤ at → (next_record p at (drop at ws) ≡ Ok None) × (record_progress p at (drop at ws) ≡ p)
  record_past h = (at_drop_all (next_record p at) ws at h, at_drop_all (record_progress p at) ws at h)

  module _ (h : at < length ws) where
    found : (r : Result Progress Fault) → Result (Option Page) Fault
    found r = elim r [ Err f ↦ Err f | Ok q ↦ Ok (Some (record { words = get_or ws at 0 ∷ take (run_length q (drop (at + 1) ws)) (drop (at + 1) ws); place = at })) ]

    -- a first word that is refused is no record, and leads no further
    pub record_refused : (f : Fault) → judged p (get_or ws at 0) at ≡ Err f → (next_record p at (drop at ws) ≡ Err f) × (record_progress p at (drop at ws) ≡ p)
    unfolding found
    record_refused f e = (
      at_drop_more (next_record p at) ws at 0 h ∙ ap found e,
      at_drop_more (record_progress p at) ws at 0 h ∙ ap (λ r. elim r [ Err f ↦ p | Ok q ↦ run_progress q (drop (at + 1) ws) ]) e,
    )

    -- a first word that is accepted begins a record, which has the words that go on with it
    pub record_found : (q : Progress) (end : ℕ) → judged p (get_or ws at 0) at ≡ Ok q → end ≡ at + 1 + run_length q (drop (at + 1) ws) →
        (Ok (Some (record { words = take (end - at) (drop at ws); place = at })) ≡ next_record p at (drop at ws)) × (run_progress q (drop (at + 1) ws) ≡ record_progress p at (drop at ws))
    unfolding found
    record_found q end e l =
        let words = part_words ws at end (run_length q (drop (at + 1) ws)) h l in (
          sym (at_drop_more (next_record p at) ws at 0 h ∙ ap found e ∙ ap (λ v. Ok (Some (record { words = v; place = at }))) words),
          sym (at_drop_more (record_progress p at) ws at 0 h ∙ ap (λ r. elim r [ Err f ↦ p | Ok q ↦ run_progress q (drop (at + 1) ws) ]) e),
        )
