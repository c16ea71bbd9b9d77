-- The lane that is picked is that of the first of all next places, and has room.
use Rattle.std.proofs.Common.{◌≡◌, ℕ, zero, suc, ◌+◌, ◌-◌, ◌<◌, ◌≤◌, true, false, ◌&&◌, ltb, nat_lt, List, [], ◌∷◌, ◌++◌, set, IfSome, Some, None, Option, fold, sym, refl, ap, ◌∙◌, subst, arith, add-one, if◌then◌else◌}
use denote.Param.Members.{Mut, Called}
use Rattle.std.proofs.iter.Yields.{gives_Drains}
use Rattle.std.specs.Iterator.{Drains}
use Rattle.std.specs.List.{range_with_len, reduce, filter_map, cons_option, FoldsTo}
use Rattle.std.proofs.lemmas.Bool.{and_parts, ltb-true}
use Rattle.std.proofs.lemmas.Fn.{fold_same}
use Rattle.std.proofs.lemmas.Iterator.{YieldsList}
use Rattle.std.proofs.lemmas.List.{map-id, append-nil}
use Rattle.std.proofs.lemmas.List.FromFn.{map-range_with_len_more}
use Rattle.std.specs.Option.{option_map, MatchOption}
use Rattle.std.proofs.lemmas.List.Elements.{filter_map-append}
use Rattle.std.proofs.lemmas.List.Sums.{fold-append}
use Rattle.sharing.specs.declared.order.Place.{Place}
use Rattle.sharing.specs.Cards.{Terms}
use Rattle.sharing.specs.Line.{place_after, open_place, earlier}
use Rattle.sharing.specs.Fronts.{picked_room}
use Rattle.sharing.specs.LineUp.{better, pick, deal}
use Rattle.sharing.specs.Orders.{Standing, Ordered}
use Rattle.sharing.specs.Rules.{at, lanes, places}

-- one item more
reduce_more : {A : Type 0} (f : A → A → A) (xs : List A) (y : A) → reduce f (xs ++ y ∷ []) ≡ Some (elim (reduce f xs) [ None ↦ y | Some x ↦ f x y ])
reduce_more f [] y = refl
reduce_more f (x ∷ xs) y = ap Some (fold-append f x xs (y ∷ []))

range_more : (n : ℕ) → range_with_len 0 (n + 1) ≡ range_with_len 0 n ++ n ∷ []
range_more n = sym (map-id (range_with_len 0 (n + 1))) ∙ map-range_with_len_more (λ m. m) 0 n n (omega arith) ∙ ap (λ ns. ns ++ n ∷ []) (map-id (range_with_len 0 n))

-- what `reduce` gives of a chain, where each call computes h
pub reduced : {S A F : Type 0} {steps : S → Option A → S → Type 0} {s : S} {all : List A} (g : Mut F (A × (A × Unit {0})) A) (h : A → A → A) {f : F} (r : Option A)
    → MatchOption r (Drains steps s []) (λ y. (x : A) × (xs : List A) × (f' : F) × Drains steps s (x ∷ xs) × FoldsTo {P = F × A} (λ p x q. Called g p.0 (p.1, (x, tt)) q.1 q.0) (f, x) xs (f', y))
    → YieldsList steps (λ x. x) s all → ((a x b : A) (q : F) → Called g f (a, (x, tt)) b q → (q ≡ f) × (b ≡ h a x)) → r ≡ reduce h all
reduced {steps} {s} {all} g h None d e k = ap (reduce h) (gives_Drains steps (λ x. x) [] all s e.runs d)
reduced {steps} {s} {all} g h {f} (Some y) d e k =
    let folded : y ≡ fold h d.0 d.1 =
    fold_same g (λ xs a. a ≡ fold h d.0 xs) f (λ xs a x b q j call. let r = k a x b q call in (r.1 ∙ ap (λ v. h v x) j ∙ sym (fold-append h d.0 xs (x ∷ [])), r.0)) d.1 d.0 y d.2 refl d.4
    in
    ap Some folded ∙ ap (reduce h) (sym (map-id (d.0 ∷ d.1)) ∙ gives_Drains steps (λ x. x) (d.0 ∷ d.1) all s e.runs d.3)

module _ (s : Standing) (c : Terms) (x k : List ℕ) where
  abbrev Roomy : ℕ → Option ℕ → Type 0
  Roomy n t = IfSome t (λ b. (b < n) × (at k b < places c x b))

  roomier : (n : ℕ) (t : Option ℕ) → Roomy n t → Roomy (suc n) t
  roomier n None r = r
  roomier n (Some b) r = (omega (arith, r.0), r.1)

  -- the lane that is picked has room, in whatever order the places stand
  pub picks_room : (n : ℕ) → IfSome (pick s c x k n) (λ b. (b < n) × (at k b < places c x b))
  picks_room zero = tt
  picks_room (suc n) =
      (elim (ltb (at k n) (places c x n) && better s c k n (pick s c x k n)) as (λ v. (ltb (at k n) (places c x n) && better s c k n (pick s c x k n)) ≡ v → Roomy (suc n) (elim v [ true ↦ Some n | false ↦ pick s c x k n ])) [
        | true ↦ λ e. (omega arith, ltb-true (at k n) (places c x n) (and_parts (ltb (at k n) (places c x n)) (better s c k n (pick s c x k n)) e).0)
        | false ↦ λ e. roomier n (pick s c x k n) (picks_room n)
      ]) refl

  -- it is one of eight, and keeps less than the largest capacity
  pub small_room : lanes c ≤ 8 → ((l : ℕ) → at c.capacities l ≤ 4095) → (n : ℕ) (t : Option ℕ) → t ≡ pick s c x k n → n ≤ lanes c → IfSome t (λ b. (b < 8) × (at k b < 4095))
  small_room few small n None e h = tt
  small_room few small n (Some b) e h =
      let r = subst (λ t. Roomy n t) (sym e) (picks_room n) in
      (omega (arith, r.0, few), omega (arith, r.1, small b))

  -- the next place of one lane more
  joins : (n : ℕ) (t : Option ℕ) → Some (elim (option_map (place_after k) t) [ None ↦ place_after k n | Some p ↦ earlier s c p (place_after k n) ]) ≡ option_map (place_after k) (elim (better s c k n t) [ true ↦ Some n | false ↦ t ])
  joins n None = refl
  joins n (Some b) = elim (s.before c n (at k n + 1) b (at k b + 1)) as (λ v. Some (if v then place_after k n else place_after k b) ≡ option_map (place_after k) (elim v [ true ↦ Some n | false ↦ Some b ])) [ true ↦ refl | false ↦ refl ]

  pub reduce_picks : (n : ℕ) → reduce (earlier s c) (filter_map (open_place c x k) (range_with_len 0 n)) ≡ option_map (place_after k) (pick s c x k n)
  reduce_picks zero = refl
  reduce_picks (suc n) =
      let f = earlier s c in
      let rest = filter_map (open_place c x k) (range_with_len 0 n) in
      let t = pick s c x k n in
      ap (λ ns. reduce f (filter_map (open_place c x k) ns)) (ap (range_with_len 0) (sym (add-one n)) ∙ range_more n)
      ∙ ap (reduce f) (filter_map-append (open_place c x k) (range_with_len 0 n) (n ∷ []))
      ∙ (elim (nat_lt (at k n) (places c x n)) as (λ v. reduce f (rest ++ cons_option (if v then Some (place_after k n) else None) []) ≡ option_map (place_after k) (elim (v && better s c k n t) [ true ↦ Some n | false ↦ t ])) [
        | true ↦ reduce_more f rest (place_after k n) ∙ ap (λ o. Some (elim o [ None ↦ place_after k n | Some p ↦ f p (place_after k n) ])) (reduce_picks n) ∙ joins n t
        | false ↦ ap (reduce f) (append-nil rest) ∙ reduce_picks n
      ])

  -- the next place is in a lane of the card that can keep one more
  pub next_room : Ordered s → lanes c ≤ 8 → ((l : ℕ) → at c.capacities l ≤ 4095) → (r : Option Place) → r ≡ option_map (place_after k) (pick s c x k (lanes c)) → IfSome r (λ p. (p.lane < 8) × (at k p.lane < 65535))
  next_room o few small r e = subst (λ (r : Option Place). IfSome r (λ p. (p.lane < 8) × (at k p.lane < 65535))) (sym e) (room (pick s c x k (lanes c)) (picked_room s o c x k (lanes c)))
    where
      room : (t : Option ℕ) → IfSome t (λ b. (b < lanes c) × (at k b < places c x b)) → IfSome (option_map (place_after k) t) (λ p. (p.lane < 8) × (at k p.lane < 65535))
      room None h = tt
      room (Some b) h = (omega (arith, few, h.0), omega (arith, h.1, small b))

  -- one place less to deal out, by the next place
  pub deal_next : (most i : ℕ) (p : Place) → i < most → Some p ≡ option_map (place_after k) (pick s c x k (lanes c)) → deal s c x (most - i) k ≡ deal s c x (most - (i + 1)) (set k p.lane (at k p.lane + 1))
  deal_next most i p h e =
      let step : most - i ≡ suc (most - (i + 1)) = omega arith in
      ap (λ n. deal s c x n k) step ∙ dealt (pick s c x k (lanes c)) e
    where
      dealt : (t : Option ℕ) → Some p ≡ option_map (place_after k) t → elim t [ None ↦ k | Some b ↦ deal s c x (most - (i + 1)) (set k b (at k b + 1)) ] ≡ deal s c x (most - (i + 1)) (set k p.lane (at k p.lane + 1))
      dealt None e = absurd (cc)
      dealt (Some b) e = let same : p ≡ place_after k b = cc in ap (λ (q : Place). deal s c x (most - (i + 1)) (set k q.lane (at k q.lane + 1))) (sym same)

-- one place less to deal out
pub deal_more : (s : Standing) (c : Terms) (x k : List ℕ) (most i b : ℕ) → i < most → pick s c x k (lanes c) ≡ Some b → deal s c x (most - i) k ≡ deal s c x (most - (i + 1)) (set k b (at k b + 1))
deal_more s c x k most i b h e =
    let step : most - i ≡ suc (most - (i + 1)) = omega arith in
    ap (λ n. deal s c x n k) step ∙ ap (λ t. elim t [ None ↦ k | Some b ↦ deal s c x (most - (i + 1)) (set k b (at k b + 1)) ]) e

-- where no lane has room, nothing more is dealt out
pub deal_none : (s : Standing) (c : Terms) (x k : List ℕ) (most i : ℕ) → i < most → pick s c x k (lanes c) ≡ None → deal s c x (most - i) k ≡ k
deal_none s c x k most i h e =
    let step : most - i ≡ suc (most - (i + 1)) = omega arith in
    ap (λ n. deal s c x n k) step ∙ ap (λ t. elim t [ None ↦ k | Some b ↦ deal s c x (most - (i + 1)) (set k b (at k b + 1)) ]) e
