-- Every plan is stable.
use Rattle.std.proofs.Common.{◌≡◌, ℕ, zero, suc, ◌+◌, ◌<◌, ◌≤◌, Bool, true, false, cond, eqb, ltb, List, [], ◌∷◌, length, Option, sym, refl, ap, ◌∙◌, subst, inl, inr, arith}
use Rattle.std.proofs.lemmas.Bool.Decides.{nat_tests}
use Rattle.std.proofs.lemmas.Bool.{cases_lt, cases_Bool, cases_eq, both_ways, eqb-true, eq-eqb, ne_eqb}
use Rattle.sharing.specs.Cards.{Terms}
use Rattle.sharing.specs.Rules.{at, lanes, places, kept, gains, Row, Small, Meaning, Lawful, NoGainAtFillings}
use Rattle.sharing.specs.Sums.{sum_same}
use Rattle.books.specs.Lanes.{has, distinct}
use Rattle.books.specs.Contents.{Contents, lane_of, ranking_of}
use Rattle.books.specs.Laid.{shed_of, first_lane}
use Rattle.books.proofs.Laid.{lane_at_place}
use Rattle.matching.specs.Offers.{Offers, best, offered, supply_of}
use Rattle.matching.specs.Vectors.{offers}
use Rattle.matching.proofs.Best.{offered_same, best_ranked, best_short}
use Rattle.matching.proofs.Sheds.{Rule, shed_rule, supply_on, supply_small, chosen_at}
use Rattle.matching.proofs.Wishes.{has_take_at, below_at}
use Rattle.boards.specs.declared.line.Line.{Line}
use Rattle.boards.specs.declared.line.Line.TheVariants.{Absent, Looking, Held, Spent}
use Rattle.boards.specs.Lines.{place, holds, looks, tried_of, wishes_of, fits_list}
use Rattle.boards.specs.Slips.{Lists, list_at}
use Rattle.boards.specs.Boards.{Board, line_of, wishes, holding, tried}
use Rattle.boards.specs.Formed.{Formed}
use Rattle.boards.specs.Calls.{Stand, Quiet, accepted}
use Rattle.boards.specs.Stable.{Placing, on, lots_on, holds_on, filling_on, above, Excuse, Stable}
use Rattle.boards.specs.Plans.{lane_in, placing, settled, StablePlan}
use Rattle.boards.proofs.BoardCounts.{up_to, up_to_ranking, map_same}
use Rattle.boards.proofs.BoardLines.{place_lt, place_apart, held_on_list, none_empty}
use Rattle.boards.proofs.CallsRun.{held_known, every_run, settle_keeps}
use Rattle.boards.proofs.PlansSame.{ended, on_holds}

-- along a ranking, exactly as many are kept as there are places, if so many are on offer
best_exact : (O : ℕ → Bool) (R : List ℕ) (k : ℕ) → distinct R ≡ true → k ≤ offered O R → offered (best k O R) R ≡ k
best_exact O [] k d le = omega arith
best_exact O (r ∷ R) zero d le = none (r ∷ R)
  where
    none : (Q : List ℕ) → offered (best zero O (r ∷ R)) Q ≡ 0
    none [] = refl
    none (q ∷ Q) = none Q
best_exact O (r ∷ R) (suc k) d le =
    let fresh : has R r ≡ false = grind (arith, nat_tests) in
    elim (cases_Bool (O r)) [
      | inl e ↦
          let same = offered_same (best (suc k) O (r ∷ R)) (best k O R) R (λ i h. let ne : eqb r i ≡ false = ne_eqb r i (λ q. both_ways (has R r) fresh (subst (λ (z : ℕ). has R z ≡ true) (sym q) h)) in grind (arith, nat_tests)) in
          let t = best_exact O R k (grind (arith, nat_tests)) (grind (arith, nat_tests)) in
          grind (arith, nat_tests)
      | inr e ↦
          let same = offered_same (best (suc k) O (r ∷ R)) (best (suc k) O R) R (λ i h. grind (arith, nat_tests)) in
          let t = best_exact O R (suc k) (grind (arith, nat_tests)) (grind (arith, nat_tests)) in
          let here : best (suc k) O R r ≡ false = elim (cases_Bool (best (suc k) O R r)) [ inl b ↦ absurd (both_ways (has R r) fresh (best_ranked O R (suc k) r b)) | inr b ↦ b ] in
          grind (arith, nat_tests)
    ]

-- who is kept is ranked higher than who is on offer and not kept
best_higher : (O : ℕ → Bool) (R : List ℕ) (k x i : ℕ) → O i ≡ true → has R i ≡ true → best k O R x ≡ true → best k O R i ≡ false → place R x < place R i
best_higher O R zero x i o h b f = absurd (both_ways false refl b)
best_higher O [] (suc k) x i o h b f = absurd (both_ways false refl b)
best_higher O (r ∷ R) (suc k) x i o h b f =
    elim (cases_eq r i) [
      | inl q ↦
          let here : best (suc k) O (r ∷ R) i ≡ true = let a : O r ≡ true = ap O q ∙ o in let c = eq-eqb r i q in grind (arith, nat_tests) in
          absurd (both_ways (best (suc k) O (r ∷ R) i) f here)
      | inr q ↦
          let ni = ne_eqb r i q in
          let pi : place (r ∷ R) i ≡ suc (place R i) = ap (λ (z : Bool). elim z [ true ↦ 0 | false ↦ suc (place R i) ]) ni in
          elim (cases_eq r x) [
            | inl s ↦ let px : place (r ∷ R) x ≡ 0 = ap (λ (z : Bool). elim z [ true ↦ 0 | false ↦ suc (place R x) ]) (eq-eqb r x s) in omega arith
            | inr s ↦
                let nx = ne_eqb r x s in
                let px : place (r ∷ R) x ≡ suc (place R x) = ap (λ (z : Bool). elim z [ true ↦ 0 | false ↦ suc (place R x) ]) nx in
                elim (cases_Bool (O r)) [
                  | inl e ↦ let t = best_higher O R k x i o (grind (arith, nat_tests)) (grind (arith, nat_tests)) (grind (arith, nat_tests)) in omega arith
                  | inr e ↦ let t = best_higher O R (suc k) x i o (grind (arith, nat_tests)) (grind (arith, nat_tests)) (grind (arith, nat_tests)) in omega arith
                ]
          ]
    ]

-- counting from either end
lots_up : (p : Placing) (l n : ℕ) → lots_on p l n ≡ up_to (λ x. on (p x) l) n
lots_up p l zero = refl
lots_up p l (suc n) = shift p n ∙ step (on (p 0) l) (lots_on (λ x. p (suc x)) l n) (up_to (λ x. on (p (suc x)) l) n) (lots_up (λ x. p (suc x)) l n)
  where
    shift : (p : Placing) (n : ℕ) → lots_on p l (suc n) ≡ cond (on (p 0) l) 1 0 + lots_on (λ x. p (suc x)) l n
    shift p zero = refl
    shift p (suc n) = omega (arith, shift p n)

    step : (b : Bool) (x y : ℕ) → x ≡ y → cond b 1 0 + x ≡ elim b [ true ↦ suc y | false ↦ y ]
    step true x y e = omega arith
    step false x y e = omega arith

-- a wish above the lot's lane was tried
above_tried : (y : Line) (o : Option (List ℕ)) → fits_list y o ≡ true → looks y ≡ false → (k : ℕ) → k < above (wishes_of o) (lane_in y) → (k < tried_of y (wishes_of o)) × (k < length (wishes_of o))
above_tried Absent o f q k h = absurd (omega (arith, none_empty o (grind (arith, nat_tests))))
above_tried (Looking n) o f q k h = absurd (both_ways true q refl)
above_tried (Held l) o f q k h = (omega arith, omega (arith, place_lt (wishes_of o) l f))
above_tried Spent o f q k h = (h, h)

-- and it is not the lot's lane
above_other : (y : Line) (xs : List ℕ) (k : ℕ) → place xs (at xs k) ≡ k → k < above xs (lane_in y) → holds y (at xs k) ≡ false
above_other Absent xs k e h = refl
above_other (Looking n) xs k e h = refl
above_other (Held l) xs k e h = elim (cases_Bool (eqb l (at xs k))) [ inl q ↦ absurd (omega (arith, ap (place xs) (eqb-true l (at xs k) q))) | inr q ↦ q ]
above_other Spent xs k e h = refl

module _ (m : Meaning) (law : Lawful m) (front : NoGainAtFillings m) (t : Board) (v : Formed t) (stand : Stand m t) (quiet : Quiet t) where
  abbrev c : Contents
  c = t.book

  abbrev p : Placing
  p = placing t

  abbrev H : Offers
  H = holding t

  abbrev O : Offers
  O = offers (wishes t) (tried t)

  held_as : (l x : ℕ) → on (placing t x) l ≡ holding t l x
  held_as l x = on_holds (line_of t x) l

  ranked_here : (l x : ℕ) → holding t l x ≡ true → has (ranking_of t.book l) x ≡ true
  ranked_here l x o = v.fits.ranked l x (held_known t v l x o) o

  holds_offered : (l : ℕ) → holds_on (placing t) l ≡ offered (holding t l) (ranking_of t.book l)
  holds_offered l =
      lots_up p l 256 ∙
      up_to_ranking 256 (ranking_of c l) (v.laid.once l) (v.laid.lots l) (λ x. on (p x) l) (λ x _ o. ranked_here l x (sym (held_as l x) ∙ o)) ∙
      offered_same (λ x. on (p x) l) (H l) (ranking_of c l) (λ x _. held_as l x)

  filling_is : (g : ℕ) → filling_on t.book (placing t) g ≡ supply_of t.book (holding t) g
  filling_is g =
      map_same (λ k. elim (ltb k (lanes (shed_of c g))) [ true ↦ holds_on p (first_lane c g + k) | false ↦ 0 ]) (λ k. elim (ltb k (lanes (shed_of c g))) [ true ↦ offered (H (first_lane c g + k)) (ranking_of c (first_lane c g + k)) | false ↦ 0 ]) 8
      (λ k _. ap {B = ℕ} (λ (n : ℕ). elim (ltb k (lanes (shed_of c g))) [ true ↦ n | false ↦ 0 ]) (holds_offered (first_lane c g + k)))

  -- a pair of a lot and a lane that ranks it, above its own on its list
  module _ (i k : ℕ) (up : k < above (wishes t i) (placing t i)) (ranks : has (ranking_of t.book (at (wishes t i) k)) i ≡ true) where
    abbrev h : ℕ
    h = at (wishes t i) k

    abbrev g : ℕ
    g = (lane_of t.book (at (wishes t i) k)).shed

    abbrev T : Terms
    T = shed_of t.book (lane_of t.book (at (wishes t i) k)).shed

    abbrev X : List ℕ
    X = supply_of t.book (offers (wishes t) (tried t)) (lane_of t.book (at (wishes t i) k)).shed

    abbrev K : List ℕ
    K = m.choice (shed_of t.book (lane_of t.book (at (wishes t i) k)).shed) (supply_of t.book (offers (wishes t) (tried t)) (lane_of t.book (at (wishes t i) k)).shed)

    was : (k < tried t i) × (k < length (wishes t i))
    was = above_tried (line_of t i) (list_at t.lists i) (v.fit_lists i) (quiet i) k up

    known : h < length c.lanes
    known = below_at (length c.lanes) (wishes t i) (v.known i) k was.1

    here : (lane_of t.book (at (wishes t i) k)).shed < length t.book.sheds
    here = v.laid.in_shed h known

    slot : (lane_of t.book (at (wishes t i) k)).place < lanes (shed_of t.book (lane_of t.book (at (wishes t i) k)).shed)
    slot = v.laid.stands_on_card h known

    rule : Rule m (shed_of t.book (lane_of t.book (at (wishes t i) k)).shed)
    rule = shed_rule c m v.laid law g here

    small : Small (shed_of t.book (lane_of t.book (at (wishes t i) k)).shed) X
    small = supply_small c v.laid g here O

    asked : O h i ≡ true
    asked = has_take_at (wishes t i) k (tried t i) was.0 was.1

    not_held : H h i ≡ false
    not_held = above_other (line_of t i) (wishes t i) k (place_apart (wishes t i) (v.once i) k was.1) up

    not_kept : best (at K (lane_of c h).place) (O h) (ranking_of c h) i ≡ false
    not_kept = sym (stand.held_is_chosen h i known) ∙ not_held

    short : at K (lane_of c h).place < offered (O h) (ranking_of c h)
    short = best_short (O h) i asked (ranking_of c h) ranks (at K (lane_of c h).place) not_kept

    supplied : at X (lane_of c h).place ≡ offered (O h) (ranking_of c h)
    supplied = supply_on c v.laid g here O (lane_of c h).place slot ∙ ap (λ (w : ℕ). offered (O w) (ranking_of c w)) (v.laid.in_order h known)

    -- what the lanes of the shed hold is what the rule chooses of all that was offered
    held_choice : (j : ℕ) → j < lanes T → at (filling_on c p g) j ≡ at K j
    held_choice j b =
        let l : ℕ = first_lane c g + j in
        let ln = lane_at_place c v.laid g j here b in
        let kept_few : at K j ≤ offered (O l) (ranking_of c l) = omega (arith, rule.inside X small j b, supply_on c v.laid g here O j b) in
        ap (λ (f : List ℕ). at f j) (filling_is g) ∙ supply_on c v.laid g here H j b ∙
        offered_same (H l) (best (at K j) (O l) (ranking_of c l)) (ranking_of c l) (λ x _. stand.held_is_chosen l x ln ∙ chosen_at c m v.laid law g here O j b x) ∙
        best_exact (O l) (ranking_of c l) (at K j) (v.laid.once l) kept_few

    holds_choice : holds_on p h ≡ at K (lane_of c h).place
    holds_choice =
        holds_offered h ∙
        offered_same (H h) (best (at K (lane_of c h).place) (O h) (ranking_of c h)) (ranking_of c h) (λ x _. stand.held_is_chosen h x known) ∙
        best_exact (O h) (ranking_of c h) (at K (lane_of c h).place) (v.laid.once h) (omega (arith, short))

    total : kept T (filling_on c p g) ≡ kept T K
    total = sum_same (at (filling_on c p g)) (at K) (lanes T) held_choice

    row : Row (filling_on c p g)
    row = subst Row (sym (filling_is g)) (supply_small c v.laid g here H).0

    no_gain : at K (lane_of c h).place < places T X (lane_of c h).place → (a : ℕ) → gains m T (filling_on c p g) a (lane_of c h).place ≡ false
    no_gain fewer a =
        let d = v.laid.carded g here in
        subst (λ (u : Terms). Small u X → ((l : ℕ) → l < lanes u → at (filling_on c p g) l ≡ at (m.choice u X) l) → (lane_of c h).place < lanes u → at (m.choice u X) (lane_of c h).place < places u X (lane_of c h).place → gains m u (filling_on c p g) a (lane_of c h).place ≡ false) d.1
        (λ sm same b few. front d.0 X (filling_on c p g) sm row same a (lane_of c h).place b few) small held_choice slot fewer

    excuse : Excuse c m p i h
    excuse = record {
      higher = λ x o. best_higher (O h) (ranking_of c h) (at K (lane_of c h).place) x i asked ranks (sym (stand.held_is_chosen h x known) ∙ sym (held_as h x) ∙ o) not_kept;
      no_room = elim (cases_lt (at K (lane_of c h).place) (at T.capacities (lane_of c h).place)) [
        | inl below ↦
            let fewer : at K (lane_of c h).place < places T X (lane_of c h).place = omega (arith, short, supplied) in
            inr (total ∙ rule.unwasted X small (lane_of c h).place slot fewer, λ l o same. no_gain fewer (lane_of c l).place)
        | inr full ↦ inl (holds_choice ∙ (let most = rule.inside X small (lane_of c h).place slot in let e : at K (lane_of c h).place ≡ at T.capacities (lane_of c h).place = omega arith in e))
      ];
    }

  settled_stable : Stable t.book m t.lists (placing t)
  settled_stable = record {
    listed = λ i l o. held_on_list (line_of t i) (list_at t.lists i) (v.fit_lists i) l (sym (held_as l i) ∙ o);
    ranked = λ i l o. ranked_here l i (sym (held_as l i) ∙ o);
    lanes_within = λ l k. subst (λ (n : ℕ). n ≤ at (shed_of c (lane_of c l).shed).capacities (lane_of c l).place) (sym (holds_offered l)) (v.fits.capacity l k);
    sheds_within = λ g k. subst (λ (f : List ℕ). kept (shed_of c g) f ≤ (shed_of c g).limit) (sym (filling_is g)) (v.fits.store g k);
    excused = λ i k up. elim (cases_Bool (has (ranking_of c (at (wishes t i) k)) i)) [ inl r ↦ inr (excuse i k up r) | inr r ↦ inl r ];
  }

pub stable_plan : StablePlan
stable_plan c m laid law front ks =
    let t : Board = settled c m ks in
    let e = ended c m laid law ks in
    let r = every_run c m laid law ks in
    let stand : Stand m t = (settle_keeps m law _ _ r.formed).1 r.stand in
    subst (λ (b : Contents). Stable b m (accepted c ks) (placing t)) e.same_book
    (subst (λ (ls : Lists). Stable t.book m ls (placing t)) e.same_lists
    (settled_stable m law front t e.formed stand e.quiet))
