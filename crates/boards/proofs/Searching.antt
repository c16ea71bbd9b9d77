-- Along a ranking and along a card: the search goes on from the next place.
use Rattle.std.proofs.Common.{◌≡◌, ℕ, zero, suc, ◌+◌, ◌-◌, ◌<◌, ◌≤◌, Bool, true, false, List, [], ◌∷◌, length, get_or, drop, Some, None, Option, unwrap_or, sym, refl, ap, ◌∙◌, inl, inr, arith}
use Rattle.std.specs.List.{slice_get}
use Rattle.std.specs.Option.{option_map}
use Rattle.std.proofs.lemmas.List.{get_or_past, at_drop_more, at_drop_all}
use Rattle.std.proofs.lemmas.Option.{slice_get-get_or as nth-getD, slice_get_past as nth_past}
use Rattle.std.proofs.lemmas.Bool.{cases_lt}
use Rattle.books.specs.Lanes.{Entry}
use Rattle.books.specs.Contents.{Contents, no_entry, ranking_of}
use Rattle.boards.specs.Searches.{beyond, first_of}

-- what stands at a place, and that the place is there
pub nth_some : (xs : List ℕ) (i x : ℕ) → slice_get xs i ≡ Some x → (i < length xs) × (get_or xs i 0 ≡ x)
nth_some xs i x e =
    elim (cases_lt i (length xs)) [
      | inl inside ↦ (inside, let is = nth-getD xs i 0 inside in let same : get_or xs i 0 ≡ x = cc in same)
      | inr past ↦ absurd (let is = nth_past xs i past in let z : ◌≡◌ {A = ℕ} 0 1 = cc in omega arith)
    ]

-- nothing stands at a place: it is past the end
pub nth_none : (xs : List ℕ) (i : ℕ) → slice_get xs i ≡ None → length xs ≤ i
nth_none xs i e =
    elim (cases_lt i (length xs)) [
      | inl inside ↦ absurd (let is = nth-getD xs i 0 inside in let z : ◌≡◌ {A = ℕ} 0 1 = cc in omega arith)
      | inr past ↦ past
    ]

-- how many lots a lane ranks, none where the lane is not in the book
pub ranked_all : (c : Contents) (l : ℕ) → unwrap_or (option_map (λ (e : Entry). length e.ranking) (slice_get c.lanes l)) 0 ≡ length (ranking_of c l)
ranked_all c l =
    elim (cases_lt l (length c.lanes)) [
      | inl inside ↦ ap (λ o. unwrap_or (option_map (λ (e : Entry). length e.ranking) o) 0) (nth-getD c.lanes l no_entry inside)
      | inr past ↦ ap (λ o. unwrap_or (option_map (λ (e : Entry). length e.ranking) o) 0) (nth_past c.lanes l past) ∙ sym (ap (λ (e : Entry). length e.ranking) (get_or_past c.lanes l no_entry past))
    ]

module _ (O : ℕ → Bool) (R : List ℕ) (i : ℕ) where
  -- the lot at the place is not on offer
  pub beyond_skips : (n r : ℕ) → slice_get R i ≡ Some r → O r ≡ false → beyond n O (drop i R) ≡ beyond n O (drop (i + 1) R)
  beyond_skips n r e off = let s = nth_some R i r e in at_drop_more (beyond n O) R i 0 s.0 ∙ ap (λ x. beyond n O (x ∷ drop (i + 1) R)) s.1 ∙ skips n
    where
      skips : (n : ℕ) → beyond n O (r ∷ drop (i + 1) R) ≡ beyond n O (drop (i + 1) R)
      skips zero = ap {B = Option ℕ} (λ (z : Bool). elim z [ true ↦ Some r | false ↦ beyond zero O (drop (i + 1) R) ]) off
      skips (suc n) = ap {B = Option ℕ} (λ (z : Bool). elim z [ true ↦ beyond n O (drop (i + 1) R) | false ↦ beyond (suc n) O (drop (i + 1) R) ]) off

  -- it is on offer and one of those that are kept
  pub beyond_passes : (n r : ℕ) → slice_get R i ≡ Some r → O r ≡ true → 1 ≤ n → beyond n O (drop i R) ≡ beyond (n - 1) O (drop (i + 1) R)
  beyond_passes n r e on more = let s = nth_some R i r e in at_drop_more (beyond n O) R i 0 s.0 ∙ ap (λ x. beyond n O (x ∷ drop (i + 1) R)) s.1 ∙ passes n more
    where
      passes : (n : ℕ) → 1 ≤ n → beyond n O (r ∷ drop (i + 1) R) ≡ beyond (n - 1) O (drop (i + 1) R)
      passes zero h = absurd (omega arith)
      passes (suc n) h = ap {B = Option ℕ} (λ (z : Bool). elim z [ true ↦ beyond n O (drop (i + 1) R) | false ↦ beyond (suc n) O (drop (i + 1) R) ]) on ∙ ap (λ k. beyond k O (drop (i + 1) R)) (let less : n ≡ suc n - 1 = omega arith in less)

  -- it is on offer, and as many as are kept stand before it
  pub beyond_finds : (r : ℕ) → slice_get R i ≡ Some r → O r ≡ true → beyond 0 O (drop i R) ≡ Some r
  beyond_finds r e on =
      let s = nth_some R i r e in
      at_drop_more (beyond 0 O) R i 0 s.0 ∙ ap (λ x. beyond 0 O (x ∷ drop (i + 1) R)) s.1 ∙ ap {B = Option ℕ} (λ (z : Bool). elim z [ true ↦ Some r | false ↦ beyond zero O (drop (i + 1) R) ]) on

  -- no lot is left on the ranking
  pub beyond_ends : (n : ℕ) → length R ≤ i → beyond n O (drop i R) ≡ None
  beyond_ends n past = at_drop_all (beyond n O) R i past ∙ nothing n
    where
      nothing : (n : ℕ) → beyond n O [] ≡ None
      nothing zero = refl
      nothing (suc n) = refl

-- the first answer from place i on, of n places
module _ (f : ℕ → Option ℕ) (i n : ℕ) where
  from_here : i < n → first_of f i (n - i) ≡ elim (f i) [ Some y ↦ Some y | None ↦ first_of f (suc i) (n - (i + 1)) ]
  from_here h = ap (first_of f i) (let more : n - i ≡ suc (n - (i + 1)) = omega arith in more)

  pub first_finds : (x : ℕ) → i < n → f i ≡ Some x → first_of f i (n - i) ≡ Some x
  first_finds x h e = from_here h ∙ ap {B = Option ℕ} (λ (o : Option ℕ). elim o [ Some y ↦ Some y | None ↦ first_of f (suc i) (n - (i + 1)) ]) e

  pub first_passes : i < n → f i ≡ None → first_of f i (n - i) ≡ first_of f (i + 1) (n - (i + 1))
  first_passes h e =
      from_here h ∙ ap {B = Option ℕ} (λ (o : Option ℕ). elim o [ Some y ↦ Some y | None ↦ first_of f (suc i) (n - (i + 1)) ]) e ∙
      ap (λ k. first_of f k (n - (i + 1))) (let more : suc i ≡ i + 1 = omega arith in more)

  pub first_ends : n ≤ i → first_of f i (n - i) ≡ None
  first_ends h = ap (first_of f i) (let none : n - i ≡ 0 = omega arith in none)
