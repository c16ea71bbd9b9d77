-- What `find_map` answers over the numbers below n, where its closure answers what a function does.
use Rattle.std.proofs.Common.{◌≡◌, ℕ, zero, suc, ◌+◌, ◌-◌, ◌<◌, ◌≤◌, IsTrue, IfSome, IsSomeAnd, Some, None, Option, MatchOption, sym, ap, ◌∙◌, subst, arith}
use denote.Param.Members.{Mut, Called}
use Rattle.std.specs.declared.ops.Range.{Range}
use Rattle.std.specs.Iterator.Runs.{Run, SomeRun, CallKeepsClosure, AllItemsGive, IsFirstToGive, ItemsCountUp}
use Rattle.std.proofs.iter.Yields.{nat_range_steps}
use Rattle.std.proofs.lemmas.Iterator.Adapters.{option_map_id}
use Rattle.std.proofs.iter.runs.Sources.{range_runs}
use Rattle.boards.specs.Searches.{first_of}
use Rattle.boards.proofs.Searching.{first_finds, first_passes, first_ends}

-- the first of n answers, where none comes at a place before i
module _ (f : ℕ → Option ℕ) (n : ℕ) where
  from_place : (i : ℕ) → i ≤ n → ((k : ℕ) → k < i → f k ≡ None) → first_of f 0 n ≡ first_of f i (n - i)
  from_place zero h none = ap (first_of f 0) (let all : n ≡ n - 0 = omega arith in all)
  from_place (suc i) h none =
      let more : i + 1 ≡ suc i = omega arith in
      from_place i (omega arith) (λ k l. none k (omega arith)) ∙ first_passes f i n (omega arith) (none i (omega arith)) ∙ ap (λ (k : ℕ). first_of f k (n - k)) more

  found_at : (i x : ℕ) → i < n → f i ≡ Some x → ((k : ℕ) → k < i → f k ≡ None) → first_of f 0 n ≡ Some x
  found_at i x h e none = from_place i (omega arith) none ∙ first_finds f i n x h e

  found_nowhere : ((k : ℕ) → k < n → f k ≡ None) → first_of f 0 n ≡ None
  found_nowhere none = from_place n (omega arith) none ∙ first_ends f n n (omega arith)

module _ {F : Type 0} (g : Mut F (ℕ × Unit {0}) (Option ℕ)) (h : F) (f : ℕ → Option ℕ) (answers : (x : ℕ) (o : Option ℕ) (q : F) → Called g h (x, tt) o q → (q ≡ h) × (o ≡ f x)) where
  keeps : CallKeepsClosure g h
  keeps a o q called = (answers a.0 o q called).0

  module _ (n : ℕ) (p : Run nat_range_steps) (from : p.from ≡ (record { start = 0; end = n })) where
    counts : ItemsCountUp p 0 n
    counts = subst (λ (s : Range ℕ). ItemsCountUp p s.start s.end) from (range_runs p p.seen)

    item : (k : ℕ) → k < p.len → p.at k ≡ Some k
    item k l = sym (option_map_id (p.at k)) ∙ counts.3 k l ∙ ap Some (let is : 0 + k ≡ k = omega arith in is)

  pub first_from_find_map : (n : ℕ) (r : Option ℕ) → SomeRun nat_range_steps (record { start = 0; end = n }) (λ p. MatchOption r (IsTrue p.whole × AllItemsGive p g h None) (λ y. (i : ℕ) × (i < p.len) × (p.len ≡ i + 1) × IsFirstToGive p g h (Some y) None i)) → r ≡ first_of f 0 n
  first_from_find_map n None (p, from, ended) =
      let all : p.len ≡ n - 0 = (counts n p from).1 ended.0 in
      sym (found_nowhere f n (λ k l.
      let below : k < p.len = omega arith in
      sym (answers k None h (subst (λ (o : Option ℕ). IfSome o (λ x. Called g h (x, tt) None h)) (item n p from k below) (ended.1 keeps k))).1))
  first_from_find_map n (Some y) (p, from, found) =
      let few : p.len ≤ n - 0 = (counts n p from).0 in
      let i = found.0 in
      let there = found.3 keeps in
      sym (found_at f n i y (omega arith)
      (sym (answers i (Some y) h (subst (λ (o : Option ℕ). IsSomeAnd o (λ x. Called g h (x, tt) (Some y) h)) (item n p from i found.1) there.0)).1)
      (λ k l.
      let below : k < p.len = omega arith in
      sym (answers k None h (subst (λ (o : Option ℕ). IsSomeAnd o (λ x. Called g h (x, tt) None h)) (item n p from k below) (there.1 k l))).1))
