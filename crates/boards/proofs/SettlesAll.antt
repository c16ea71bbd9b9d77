-- Settling step by step.
use Rattle.std.proofs.Common.{◌≡◌, ℕ, zero, suc, ◌+◌, ◌≤◌, Some, None, Option, sym, refl, ap, ◌∙◌, arith}
use Rattle.sharing.specs.Rules.{Meaning, Lawful}
use Rattle.boards.specs.Lines.{lowest}
use Rattle.boards.specs.Boards.{Board, apply, settle_for, all_wishes, settle}
use Rattle.boards.specs.Formed.{Formed}
use Rattle.boards.proofs.CallsRun.{lowest_is, apply_keeps, apply_lists, count_bound, count_more}

-- with nobody looking, a round is settled
pub settle_stop : (m : Meaning) (k : ℕ) (s : Board) → lowest 0 s.lines ≡ None → settle_for m k s ≡ s
settle_stop m zero s e = refl
settle_stop m (suc k) s e = ap (λ (o : Option ℕ). elim o [ None ↦ s | Some i ↦ settle_for m k (apply m s i) ]) e

module _ (m : Meaning) (law : Lawful m) where
  -- one application more has room
  pub goes_on : (s : Board) → Formed s → (i : ℕ) → lowest 0 s.lines ≡ Some i → suc s.count ≤ all_wishes s.lists
  goes_on s v i e = omega (arith, count_more m law s i (lowest_is s.lines i e), count_bound (apply m s i) (apply_keeps m law s v i).0, ap all_wishes (apply_lists m s i).1)

  -- how often it may apply does not matter, once it is often enough
  enough : (k j : ℕ) (s : Board) → Formed s → all_wishes s.lists ≤ s.count + k → all_wishes s.lists ≤ s.count + j → settle_for m k s ≡ settle_for m j s
  enough zero j s v a b = go (lowest 0 s.lines) refl
    where
      go : (o : Option ℕ) → lowest 0 s.lines ≡ o → s ≡ settle_for m j s
      go None e = sym (settle_stop m j s e)
      go (Some i) e = absurd (omega (arith, goes_on s v i e))
  enough (suc k) zero s v a b = go (lowest 0 s.lines) refl
    where
      go : (o : Option ℕ) → lowest 0 s.lines ≡ o → settle_for m (suc k) s ≡ s
      go None e = settle_stop m (suc k) s e
      go (Some i) e = absurd (omega (arith, goes_on s v i e))
  enough (suc k) (suc j) s v a b = go (λ i. enough k j (apply m s i) (apply_keeps m law s v i).0) (lowest 0 s.lines) refl
    where
      go : ((i : ℕ) → all_wishes (apply m s i).lists ≤ (apply m s i).count + k → all_wishes (apply m s i).lists ≤ (apply m s i).count + j → settle_for m k (apply m s i) ≡ settle_for m j (apply m s i)) → (o : Option ℕ) → lowest 0 s.lines ≡ o →
          ◌≡◌ {A = Board} (elim o [ None ↦ s | Some i ↦ settle_for m k (apply m s i) ]) (elim o [ None ↦ s | Some i ↦ settle_for m j (apply m s i) ])
      go rest None e = refl
      go rest (Some i) e =
          let one = count_more m law s i (lowest_is s.lines i e) in
          let same = ap all_wishes (apply_lists m s i).1 in
          rest i (omega arith) (omega arith)

  -- settling after the lowest looking lot has applied is settling
  pub settle_step : (s : Board) → Formed s → (i : ℕ) → lowest 0 s.lines ≡ Some i → settle m (apply m s i) ≡ settle m s
  settle_step s v i e = go (all_wishes s.lists) refl
    where
      go : (w : ℕ) → all_wishes s.lists ≡ w → settle m (apply m s i) ≡ settle_for m w s
      go zero q = absurd (omega (arith, goes_on s v i e))
      go (suc w) q =
          let one = count_more m law s i (lowest_is s.lines i e) in
          let same = ap all_wishes (apply_lists m s i).1 in
          enough (all_wishes (apply m s i).lists) w (apply m s i) (apply_keeps m law s v i).0 (omega arith) (omega arith) ∙
          sym (ap (λ (o : Option ℕ). elim o [ None ↦ s | Some k ↦ settle_for m w (apply m s k) ]) e)
