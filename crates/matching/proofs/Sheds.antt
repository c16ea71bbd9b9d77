-- What the lanes of a shed choose, from the laws of the rule.
use Rattle.std.proofs.Common.{◌≡◌, ℕ, ◌+◌, ◌<◌, ◌≤◌, min, Bool, true, false, ltb, List, length, sym, ap, ◌∙◌, subst, inl, inr, arith}
use Rattle.std.proofs.lemmas.List.{get_or_past}
use Rattle.std.proofs.lemmas.List.FromFn.{get_or-map-range_with_len, length-map-range_with_len}
use Rattle.std.proofs.lemmas.Bool.{cases_lt, lt-ltb}
use Rattle.sharing.specs.declared.card.Card.{Card}
use Rattle.sharing.specs.Cards.{Terms, terms}
use Rattle.sharing.specs.Rules.{at, lanes, places, kept, Small, Meaning, Lawful}
use Rattle.sharing.specs.Sums.{sum_less}
use Rattle.sharing.specs.Within.{lanes_are_few}
use Rattle.books.specs.Contents.{Contents, lane_of, ranking_of}
use Rattle.books.specs.Laid.{Laid, shed_of, first_lane}
use Rattle.books.proofs.Distinct.{distinct_short}
use Rattle.books.proofs.Laid.{lane_at_place, lane_stands}
use Rattle.matching.specs.Offers.{Offers, best, offered, supply_of, chosen}
use Rattle.matching.specs.Choosing.{Choosing}
use Rattle.matching.specs.Theorems.{LanesChoose}
use Rattle.matching.proofs.Best.{offered_le, offered_length, best_offered, best_ranked, best_less, best_all, best_same, best_room}

-- the laws of a rule at the terms of one shed
pub record Rule (m : Meaning) (t : Terms) : Type 0 where
  pub inside : (x : List ℕ) → Small t x → (l : ℕ) → l < lanes t → at (m.choice t x) l ≤ places t x l
  pub capped : (x : List ℕ) → Small t x → kept t (m.choice t x) ≤ t.limit
  pub unwasted : (x : List ℕ) → Small t x → (l : ℕ) → l < lanes t → at (m.choice t x) l < places t x l → kept t (m.choice t x) ≡ t.limit
  pub substitutes : (x y : List ℕ) → Small t x → Small t y → ((l : ℕ) → l < lanes t → at x l ≤ at y l) → (l : ℕ) → l < lanes t → min (at x l) (at (m.choice t y) l) ≤ at (m.choice t x) l

rule_of_is : (m : Meaning) → Lawful m → (d : Card) → Rule m (terms d)
rule_of_is m law d = record {
  inside = λ x s. (law.within d x s).0;
  capped = λ x s. (law.within d x s).1;
  unwasted = law.unwasted d;
  substitutes = law.substitutes d;
}

-- a supply that lies between a choice and the supply of that choice is answered alike
consistent : (m : Meaning) (t : Terms) → Rule m t → (x y : List ℕ) → Small t x → Small t y → ((l : ℕ) → l < lanes t → at (m.choice t y) l ≤ at x l) → ((l : ℕ) → l < lanes t → at x l ≤ at y l) →
    (l : ℕ) → l < lanes t → at (m.choice t x) l ≡ at (m.choice t y) l
consistent m t r x y sx sy room le l h =
    elim (cases_lt (at (m.choice t y) l) (at (m.choice t x) l)) [
      | inl more ↦
          let full = r.unwasted y sy l h (omega (arith, r.inside x sx l h, le l h)) in
          absurd (omega (arith, r.capped x sx, sum_less (at (m.choice t y)) (at (m.choice t x)) (lanes t) l up h more))
      | inr same ↦ omega (arith, up l h)
    ]
  where
    up : (j : ℕ) → j < lanes t → at (m.choice t y) j ≤ at (m.choice t x) j
    up j k = omega (arith, r.substitutes x y sx sy le j k, room j k)

module _ (c : Contents) (laid : Laid c) where
  module _ (g : ℕ) (here : g < length c.sheds) where
    pub few_on_card : lanes (shed_of c g) ≤ 8
    few_on_card =
        let d = laid.carded g here in
        subst (λ (t : Terms). lanes t ≤ 8) d.1 (lanes_are_few d.0)

    module _ (O : Offers) where
      abbrev supplied : ℕ → ℕ
      supplied j = elim (ltb j (lanes (shed_of c g))) [ true ↦ offered (O (first_lane c g + j)) (ranking_of c (first_lane c g + j)) | false ↦ 0 ]

      supplied_on : (j : ℕ) → j < lanes (shed_of c g) → supplied j ≡ offered (O (first_lane c g + j)) (ranking_of c (first_lane c g + j))
      supplied_on j h = ap (λ (z : Bool). elim z [ true ↦ offered (O (first_lane c g + j)) (ranking_of c (first_lane c g + j)) | false ↦ 0 ]) (lt-ltb j (lanes (shed_of c g)) h)

      pub supply_on : (j : ℕ) → j < lanes (shed_of c g) → at (supply_of c O g) j ≡ offered (O (first_lane c g + j)) (ranking_of c (first_lane c g + j))
      supply_on j h = get_or-map-range_with_len supplied 0 8 j j 0 (omega (arith, few_on_card)) (omega arith) ∙ supplied_on j h

      offered_few : (l : ℕ) → offered (O l) (ranking_of c l) ≤ 256
      offered_few l = omega (arith, offered_length (O l) (ranking_of c l), distinct_short 256 (ranking_of c l) (laid.lots l) (laid.once l))

      supplied_few : (j : ℕ) → supplied j ≤ 256
      supplied_few j = elim (ltb j (lanes (shed_of c g))) as (λ z. elim z [ true ↦ offered (O (first_lane c g + j)) (ranking_of c (first_lane c g + j)) | false ↦ 0 ] ≤ 256) [ true ↦ offered_few (first_lane c g + j) | false ↦ omega arith ]

      supply_few : (j : ℕ) → at (supply_of c O g) j ≤ 256
      supply_few j =
          elim (cases_lt j 8) [
            | inl h ↦ omega (arith, get_or-map-range_with_len supplied 0 8 j j 0 h (omega arith), supplied_few j)
            | inr h ↦ omega (arith, get_or_past (supply_of c O g) j 0 (omega (arith, length-map-range_with_len supplied 0 8)))
          ]

      pub supply_small : Small (shed_of c g) (supply_of c O g)
      supply_small = ((length-map-range_with_len supplied 0 8, λ j. omega (arith, supply_few j)), λ j h. supply_few j)

module _ (c : Contents) (m : Meaning) (laid : Laid c) (law : Lawful m) where
  module _ (g : ℕ) (here : g < length c.sheds) where
    pub shed_rule : Rule m (shed_of c g)
    shed_rule = let d = laid.carded g here in subst (Rule m) d.1 (rule_of_is m law d.0)

    abbrev lane : ℕ → ℕ
    lane j = first_lane c g + j

    module _ (O : Offers) where
      -- what is chosen at the lane that stands at place j
      pub chosen_at : (j : ℕ) → j < lanes (shed_of c g) → (i : ℕ) → chosen c m O (first_lane c g + j) i ≡ best (at (m.choice (shed_of c g) (supply_of c O g)) j) (O (first_lane c g + j)) (ranking_of c (first_lane c g + j)) i
      chosen_at j h i =
          let stands = lane_stands c laid g j here h in
          ap (λ (s : ℕ). best (at (m.choice (shed_of c s) (supply_of c O s)) (lane_of c (lane j)).place) (O (lane j)) (ranking_of c (lane j)) i) stands.0 ∙
          ap (λ (p : ℕ). best (at (m.choice (shed_of c g) (supply_of c O g)) p) (O (lane j)) (ranking_of c (lane j)) i) stands.1

    -- offers within others at the lanes of the shed
    module _ (O P : Offers) (within : (j i : ℕ) → j < lanes (shed_of c g) → O (first_lane c g + j) i ≡ true → P (first_lane c g + j) i ≡ true) where
      supply_le : (j : ℕ) → j < lanes (shed_of c g) → at (supply_of c O g) j ≤ at (supply_of c P g) j
      supply_le j h = omega (arith, supply_on c laid g here O j h, supply_on c laid g here P j h, offered_le (O (lane j)) (P (lane j)) (λ i. within j i h) (ranking_of c (lane j)))

      place_substitutes : (j i : ℕ) → j < lanes (shed_of c g) → O (lane j) i ≡ true →
          best (at (m.choice (shed_of c g) (supply_of c O g)) j) (O (lane j)) (ranking_of c (lane j)) i ≡ false →
          best (at (m.choice (shed_of c g) (supply_of c P g)) j) (P (lane j)) (ranking_of c (lane j)) i ≡ false
      place_substitutes j i h o f =
          elim (best_all (O (lane j)) i o (ranking_of c (lane j)) (at (m.choice (shed_of c g) (supply_of c O g)) j) f) [
            | inl late ↦
                best_less (O (lane j)) (P (lane j)) (λ i. within j i h) i o (ranking_of c (lane j)) (at (m.choice (shed_of c g) (supply_of c O g)) j) (at (m.choice (shed_of c g) (supply_of c P g)) j)
                (omega (arith, supply_on c laid g here O j h, shed_rule.substitutes (supply_of c O g) (supply_of c P g) (supply_small c laid g here O) (supply_small c laid g here P) supply_le j h)) f
            | inr never ↦ never (at (m.choice (shed_of c g) (supply_of c P g)) j) (P (lane j))
          ]

      module _ (still : (j i : ℕ) → j < lanes (shed_of c g) → chosen c m P (first_lane c g + j) i ≡ true → O (first_lane c g + j) i ≡ true) where
        place_still : (j i : ℕ) → j < lanes (shed_of c g) → best (at (m.choice (shed_of c g) (supply_of c P g)) j) (P (lane j)) (ranking_of c (lane j)) i ≡ true → O (lane j) i ≡ true
        place_still j i h b = still j i h (chosen_at P j h i ∙ b)

        same_choice : (j : ℕ) → j < lanes (shed_of c g) → at (m.choice (shed_of c g) (supply_of c O g)) j ≡ at (m.choice (shed_of c g) (supply_of c P g)) j
        same_choice = consistent m (shed_of c g) shed_rule (supply_of c O g) (supply_of c P g) (supply_small c laid g here O) (supply_small c laid g here P)
            (λ j h. omega (
              arith,
              supply_on c laid g here O j h,
              supply_on c laid g here P j h,
              best_room (O (lane j)) (P (lane j)) (ranking_of c (lane j)) (at (m.choice (shed_of c g) (supply_of c P g)) j) (λ i b. place_still j i h b) (omega (arith, shed_rule.inside (supply_of c P g) (supply_small c laid g here P) j h, supply_on c laid g here P j h)),
            ))
            supply_le

        pub place_irrelevant : (j i : ℕ) → j < lanes (shed_of c g) → chosen c m O (first_lane c g + j) i ≡ chosen c m P (first_lane c g + j) i
        place_irrelevant j i h =
            chosen_at O j h i ∙
            ap (λ (k : ℕ). best k (O (lane j)) (ranking_of c (lane j)) i) (same_choice j h) ∙
            best_same (O (lane j)) (P (lane j)) (λ i. within j i h) (ranking_of c (lane j)) (at (m.choice (shed_of c g) (supply_of c P g)) j) (λ i b. place_still j i h b) i ∙
            sym (chosen_at P j h i)

  -- the same for lanes by their numbers
  module _ (l : ℕ) (h : l < length c.lanes) where
    abbrev home : ℕ
    home = (lane_of c l).shed

    abbrev slot : ℕ
    slot = (lane_of c l).place

    pub number : first_lane c (lane_of c l).shed + (lane_of c l).place ≡ l
    number = laid.in_order l h

    pub home_known : (lane_of c l).shed < length c.sheds
    home_known = laid.in_shed l h

    pub slot_known : (lane_of c l).place < lanes (shed_of c (lane_of c l).shed)
    slot_known = laid.stands_on_card l h

    irrelevant : (O P : Offers) →
        ((j i : ℕ) → j < lanes (shed_of c home) → O (first_lane c home + j) i ≡ true → P (first_lane c home + j) i ≡ true) →
        ((j i : ℕ) → j < lanes (shed_of c home) → chosen c m P (first_lane c home + j) i ≡ true → O (first_lane c home + j) i ≡ true) →
        (i : ℕ) → chosen c m O l i ≡ chosen c m P l i
    irrelevant O P within still i = subst (λ (z : ℕ). chosen c m O z i ≡ chosen c m P z i) number (place_irrelevant home home_known O P within still slot i slot_known)

  only : (O : Offers) (l i : ℕ) → chosen c m O l i ≡ true → O l i ≡ true
  only O l i b = best_offered (O l) (ranking_of c l) (at (m.choice (shed_of c (lane_of c l).shed) (supply_of c O (lane_of c l).shed)) (lane_of c l).place) i b

  in_book : (l j : ℕ) → l < length c.lanes → j < lanes (shed_of c (lane_of c l).shed) → first_lane c (lane_of c l).shed + j < length c.lanes
  in_book l j h k = lane_at_place c laid (lane_of c l).shed j (home_known l h) k

  pub choosing : Choosing (length c.lanes) (λ l. (lane_of c l).shed) (ranking_of c) (chosen c m)
  choosing = record {
    only_offered = only;
    only_ranked = λ O l i b. best_ranked (O l) (ranking_of c l) (at (m.choice (shed_of c (lane_of c l).shed) (supply_of c O (lane_of c l).shed)) (lane_of c l).place) i b;
    substitutes = λ O P within l i h o f.
        let g = (lane_of c l).shed in
        let p = (lane_of c l).place in
        subst (λ (z : ℕ). best (at (m.choice (shed_of c g) (supply_of c P g)) p) (P z) (ranking_of c z) i ≡ false) (number l h)
        (place_substitutes g (home_known l h) O P (λ j x k. within (first_lane c g + j) x (in_book l j h k)) p i (slot_known l h)
        (subst (λ (z : ℕ). O z i ≡ true) (sym (number l h)) o)
        (subst (λ (z : ℕ). best (at (m.choice (shed_of c g) (supply_of c O g)) p) (O z) (ranking_of c z) i ≡ false) (sym (number l h)) f));
    irrelevance = λ O P within still l i h. irrelevant l h O P
        (λ j x k. within (first_lane c (lane_of c l).shed + j) x (in_book l j h k))
        (λ j x k. still (first_lane c (lane_of c l).shed + j) x (in_book l j h k)) i;
    own_shed = λ O P l h agree i.
        let same : (j x : ℕ) → j < lanes (shed_of c (lane_of c l).shed) → O (first_lane c (lane_of c l).shed + j) x ≡ P (first_lane c (lane_of c l).shed + j) x = λ j x k. agree (first_lane c (lane_of c l).shed + j) x (in_book l j h k) (lane_stands c laid (lane_of c l).shed j (home_known l h) k).0 in
        irrelevant l h O P (λ j x k o. sym (same j x k) ∙ o) (λ j x k b. same j x k ∙ only P (first_lane c (lane_of c l).shed + j) x b) i;
  }

pub lanes_choose : LanesChoose
lanes_choose c m laid law = choosing c m laid law
