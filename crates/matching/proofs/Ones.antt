-- One lot more at lanes that hold no more than they may: at most one is not kept, and the rest is within bounds again.
use Rattle.std.proofs.Common.{◌≡◌, ℕ, zero, suc, ◌+◌, ◌<◌, ◌≤◌, Bool, true, false, ◌⊎◌, List, length, sym, refl, ap, ◌∙◌, subst, inl, inr, arith}
use Rattle.std.proofs.lemmas.Bool.Decides.{nat_tests}
use Rattle.std.proofs.lemmas.Bool.{cases_lt, cases_Bool, cases_eq, eqb-true, eq-eqb, ne_eqb}
use Rattle.sharing.specs.Rules.{at, lanes, places, kept, sum_to, Small, Meaning, Lawful}
use Rattle.sharing.specs.Sums.{sum_mono, sum_same, sum_less}
use Rattle.books.specs.Lanes.{has}
use Rattle.books.specs.Contents.{Contents, lane_of, ranking_of}
use Rattle.books.specs.Laid.{Laid, shed_of, first_lane}
use Rattle.books.proofs.Laid.{lane_at_place, lane_stands}
use Rattle.matching.specs.Offers.{Offers, asking, best, offered, supply_of, chosen, cleared}
use Rattle.matching.specs.Theorems.{Fits, AtMostOneGoes, ClearingFits}
use Rattle.matching.proofs.Best.{offered_same, offered_one, best_short, best_short_two, best_few, best_ranked}
use Rattle.matching.proofs.Sheds.{Rule, shed_rule, supply_on, supply_small}

-- one summand larger by one
pub sum_one : (f g : ℕ → ℕ) (n r : ℕ) → r < n → f r ≡ suc (g r) → ((j : ℕ) → j < n → (j ≡ r → ⊥) → f j ≡ g j) → sum_to f n ≡ suc (sum_to g n)
sum_one f g zero r l a h = absurd (omega arith)
sum_one f g (suc n) r l a h =
    elim (cases_eq n r) [
      | inl e ↦
          let here : f n ≡ suc (g n) = subst (λ (k : ℕ). f k ≡ suc (g k)) (sym e) a in
          let rest = sum_same f g n (λ j k. h j (omega arith) (λ q. omega arith)) in
          omega arith
      | inr ne ↦ omega (arith, h n (omega arith) ne, sum_one f g n r (omega (arith, ne)) a (λ j k. h j (omega arith)))
    ]

-- one summand larger by two
sum_by_two : (f g : ℕ → ℕ) (n a : ℕ) → ((j : ℕ) → j < n → f j ≤ g j) → a < n → suc (f a) < g a → suc (sum_to f n) < sum_to g n
sum_by_two f g zero a h l s = absurd (omega arith)
sum_by_two f g (suc n) a h l s =
    elim (cases_eq n a) [
      | inl e ↦
          let here : suc (f n) < g n = subst (λ (k : ℕ). suc (f k) < g k) (sym e) s in
          omega (arith, sum_mono f g n (λ j k. h j (omega arith)))
      | inr ne ↦ omega (arith, h n (omega arith), sum_by_two f g n a (λ j k. h j (omega arith)) (omega (arith, ne)) s)
    ]

-- two summands larger
sum_two : (f g : ℕ → ℕ) (n a b : ℕ) → ((j : ℕ) → j < n → f j ≤ g j) → (a ≡ b → ⊥) → a < n → b < n → f a < g a → f b < g b → suc (sum_to f n) < sum_to g n
sum_two f g zero a b h d l k s r = absurd (omega arith)
sum_two f g (suc n) a b h d l k s r =
    elim (cases_eq n a) [
      | inl e ↦
          let here : f n < g n = subst (λ (k : ℕ). f k < g k) (sym e) s in
          omega (arith, sum_less f g n b (λ j k. h j (omega arith)) (omega (arith, d)) r)
      | inr na ↦ elim (cases_eq n b) [
        | inl e ↦
            let here : f n < g n = subst (λ (k : ℕ). f k < g k) (sym e) r in
            omega (arith, sum_less f g n a (λ j k. h j (omega arith)) (omega (arith, na)) s)
        | inr nb ↦ omega (arith, h n (omega arith), sum_two f g n a b (λ j k. h j (omega arith)) d (omega (arith, na)) (omega (arith, nb)) s r)
      ]
    ]

some_less : (n : ℕ) (K Y : ℕ → ℕ) → ((j : ℕ) × (j < n) × (K j < Y j)) ⊎ ((j : ℕ) → j < n → Y j ≤ K j)
some_less zero K Y = inr (λ j h. absurd (omega arith))
some_less (suc n) K Y =
    elim (cases_lt (K n) (Y n)) [
      | inl l ↦ inl (n, omega arith, l)
      | inr l ↦ elim (some_less n K Y) [
        | inl t ↦ inl (t.0, omega (arith, t.1), t.2)
        | inr t ↦ inr (λ j h. elim (cases_eq j n) [ inl q ↦ subst (λ (k : ℕ). Y k ≤ K k) (sym q) l | inr q ↦ t j (omega (arith, q)) ])
      ]
    ]

module _ (c : Contents) (m : Meaning) (laid : Laid c) (law : Lawful m) (H : Offers) (fits : Fits c H) (h i : ℕ) (inside : h < length c.lanes) (ranks : has (ranking_of c h) i ≡ true) where
  abbrev claims : Offers
  claims = asking H h i

  abbrev g : ℕ
  g = (lane_of c h).shed

  abbrev X : List ℕ
  X = supply_of c (asking H h i) (lane_of c h).shed

  abbrev F : List ℕ
  F = supply_of c H (lane_of c h).shed

  abbrev K : List ℕ
  K = m.choice (shed_of c (lane_of c h).shed) (supply_of c (asking H h i) (lane_of c h).shed)

  abbrev n : ℕ
  n = lanes (shed_of c (lane_of c h).shed)

  here : (lane_of c h).shed < length c.sheds
  here = laid.in_shed h inside

  rule : Rule m (shed_of c (lane_of c h).shed)
  rule = shed_rule c m laid law g here

  small : Small (shed_of c (lane_of c h).shed) X
  small = supply_small c laid g here claims

  X-at : (j : ℕ) → j < n → at X j ≡ offered (claims (first_lane c g + j)) (ranking_of c (first_lane c g + j))
  X-at = supply_on c laid g here claims

  F-at : (j : ℕ) → j < n → at F j ≡ offered (H (first_lane c g + j)) (ranking_of c (first_lane c g + j))
  F-at = supply_on c laid g here H

  K-X : (j : ℕ) → j < n → at K j ≤ at X j
  K-X j k = omega (arith, rule.inside X small j k)

  claimed_ranked : (l x : ℕ) → l < length c.lanes → claims l x ≡ true → has (ranking_of c l) x ≡ true
  claimed_ranked l x k o = elim (cases_Bool (H l x)) [
    | inl t ↦ fits.ranked l x k t
    | inr t ↦
        let p : l ≡ h = eqb-true l h (grind (arith, nat_tests)) in
        let q : x ≡ i = eqb-true x i (grind (arith, nat_tests)) in
        subst (λ (l : ℕ). has (ranking_of c l) x ≡ true) (sym p) (subst (λ (x : ℕ). has (ranking_of c h) x ≡ true) (sym q) ranks)
  ]

  -- a lane of that shed
  module _ (l : ℕ) (known : l < length c.lanes) (same : (lane_of c l).shed ≡ (lane_of c h).shed) where
    slot_in : (lane_of c l).place < n
    slot_in = subst (λ (s : ℕ). (lane_of c l).place < lanes (shed_of c s)) same (laid.stands_on_card l known)

    back : first_lane c g + (lane_of c l).place ≡ l
    back = ap (λ (s : ℕ). first_lane c s + (lane_of c l).place) (sym same) ∙ laid.in_order l known

    chosen_here : (x : ℕ) → chosen c m claims l x ≡ best (at K (lane_of c l).place) (claims l) (ranking_of c l) x
    chosen_here x = ap (λ (s : ℕ). best (at (m.choice (shed_of c s) (supply_of c claims s)) (lane_of c l).place) (claims l) (ranking_of c l) x) same

    X-lane : at X (lane_of c l).place ≡ offered (claims l) (ranking_of c l)
    X-lane = X-at (lane_of c l).place slot_in ∙ ap (λ (w : ℕ). offered (claims w) (ranking_of c w)) back

    F-lane : at F (lane_of c l).place ≡ offered (H l) (ranking_of c l)
    F-lane = F-at (lane_of c l).place slot_in ∙ ap (λ (w : ℕ). offered (H w) (ranking_of c w)) back

    over : (x : ℕ) → claims l x ≡ true → chosen c m claims l x ≡ false → at K (lane_of c l).place < at X (lane_of c l).place
    over x o f = omega (arith, X-lane, best_short (claims l) x o (ranking_of c l) (claimed_ranked l x known o) (at K (lane_of c l).place) (sym (chosen_here x) ∙ f))

    over_two : (x y : ℕ) → (x ≡ y → ⊥) → claims l x ≡ true → chosen c m claims l x ≡ false → claims l y ≡ true → chosen c m claims l y ≡ false → suc (at K (lane_of c l).place) < at X (lane_of c l).place
    over_two x y d o f p q =
        omega (arith, X-lane, best_short_two (claims l) x y d o p (ranking_of c l) (claimed_ranked l x known o) (claimed_ranked l y known p) (at K (lane_of c l).place) (sym (chosen_here x) ∙ f) (sym (chosen_here y) ∙ q))

  module _ (free : H h i ≡ false) where
    elsewhere : (w x : ℕ) → (w ≡ h → ⊥) → claims w x ≡ H w x
    elsewhere w x ne = let e = ne_eqb w h ne in grind (arith, nat_tests)

    others : (x : ℕ) → (x ≡ i → ⊥) → claims h x ≡ H h x
    others x ne = let e = ne_eqb x i ne in grind (arith, nat_tests)

    asks : claims h i ≡ true
    asks = let p = eq-eqb h h refl in let q = eq-eqb i i refl in grind (arith, nat_tests)

    off : (j : ℕ) → j < n → (j ≡ (lane_of c h).place → ⊥) → at X j ≡ at F j
    off j k ne =
        X-at j k ∙
        offered_same (claims (first_lane c g + j)) (H (first_lane c g + j)) (ranking_of c (first_lane c g + j)) (λ x _. elsewhere (first_lane c g + j) x (λ q. ne (omega (arith, laid.in_order h inside)))) ∙
        sym (F-at j k)

    on : at X (lane_of c h).place ≡ suc (at F (lane_of c h).place)
    on = X-lane h inside refl ∙ offered_one (claims h) (H h) i asks free others (ranking_of c h) (laid.once h) ranks ∙ ap suc (sym (F-lane h inside refl))

    one_more : sum_to (at X) n ≡ suc (sum_to (at F) n)
    one_more = sum_one (at X) (at F) n (lane_of c h).place (laid.stands_on_card h inside) on off

    F-X : (j : ℕ) → j < n → at F j ≤ at X j
    F-X j k = elim (cases_eq j (lane_of c h).place) [
      | inl q ↦ subst (λ (j : ℕ). at F j ≤ at X j) (sym q) (omega (arith, on))
      | inr q ↦ omega (arith, off j k q)
    ]

    F-capacity : (j : ℕ) → j < n → at F j ≤ at (shed_of c g).capacities j
    F-capacity j k =
        let stands = lane_stands c laid g j here k in
        let fit = fits.capacity (first_lane c g + j) (lane_at_place c laid g j here k) in
        let there : at (shed_of c (lane_of c (first_lane c g + j)).shed).capacities (lane_of c (first_lane c g + j)).place ≡ at (shed_of c g).capacities j =
        ap (λ (s : ℕ). at (shed_of c s).capacities (lane_of c (first_lane c g + j)).place) stands.0 ∙ ap (at (shed_of c g).capacities) stands.1
        in
        omega (arith, F-at j k)

    enough : sum_to (at F) n ≤ sum_to (at K) n
    enough =
        elim (some_less n (at K) (places (shed_of c g) X)) [
          | inl s ↦ omega (arith, rule.unwasted X small s.0 s.1 s.2, fits.store g here)
          | inr s ↦ sum_mono (at F) (at K) n (λ j k. omega (arith, s j k, F-X j k, F-capacity j k))
        ]

    same_pair : (l x k y : ℕ) → l < length c.lanes → k < length c.lanes → (lane_of c l).shed ≡ (lane_of c h).shed → (lane_of c k).shed ≡ (lane_of c h).shed →
        claims l x ≡ true → chosen c m claims l x ≡ false → claims k y ≡ true → chosen c m claims k y ≡ false → (l ≡ k) × (x ≡ y)
    same_pair l x k y ln kn ls ks o f p q =
        elim (cases_eq l k) [
          | inl e ↦ elim (cases_eq x y) [
            | inl d ↦ (e, d)
            | inr d ↦ absurd (omega (
              arith,
              one_more,
              enough,
              sum_by_two (at K) (at X) n (lane_of c l).place K-X (slot_in l ln ls)
                  (over_two l ln ls x y d o f (subst (λ (k : ℕ). claims k y ≡ true) (sym e) p) (subst (λ (k : ℕ). chosen c m claims k y ≡ false) (sym e) q)),
            ))
          ]
          | inr e ↦ absurd (omega (
            arith,
            one_more,
            enough,
            sum_two (at K) (at X) n (lane_of c l).place (lane_of c k).place K-X
                (λ d. e (sym (back l ln ls) ∙ ap (λ (z : ℕ). first_lane c g + z) d ∙ back k kn ks))
                (slot_in l ln ls) (slot_in k kn ks) (over l ln ls x o f) (over k kn ks y p q),
          ))
        ]

  -- who is held then
  abbrev after : Offers
  after = cleared c m H h i

  in_shed : (l x : ℕ) → (lane_of c l).shed ≡ (lane_of c h).shed → after l x ≡ chosen c m claims l x
  in_shed l x e = ap (λ (z : Bool). elim z [ true ↦ chosen c m claims l x | false ↦ H l x ]) (eq-eqb (lane_of c l).shed g e)

  off_shed : (l x : ℕ) → ((lane_of c l).shed ≡ (lane_of c h).shed → ⊥) → after l x ≡ H l x
  off_shed l x e = ap (λ (z : Bool). elim z [ true ↦ chosen c m claims l x | false ↦ H l x ]) (ne_eqb (lane_of c l).shed g e)

  few_here : (l : ℕ) → (known : l < length c.lanes) → (same : (lane_of c l).shed ≡ (lane_of c h).shed) → offered (after l) (ranking_of c l) ≤ at K (lane_of c l).place
  few_here l known same =
      omega (
        arith,
        best_few (claims l) (ranking_of c l) (at K (lane_of c l).place) (laid.once l),
        offered_same (after l) (best (at K (lane_of c l).place) (claims l) (ranking_of c l)) (ranking_of c l) (λ x _. in_shed l x same ∙ chosen_here l known same x),
      )

  same_there : (l : ℕ) → ((lane_of c l).shed ≡ (lane_of c h).shed → ⊥) → offered (after l) (ranking_of c l) ≡ offered (H l) (ranking_of c l)
  same_there l e = offered_same (after l) (H l) (ranking_of c l) (λ x _. off_shed l x e)

  store_here : kept (shed_of c (lane_of c h).shed) (supply_of c after (lane_of c h).shed) ≤ (shed_of c (lane_of c h).shed).limit
  store_here =
      omega (
        arith,
        rule.capped X small,
        sum_mono (at (supply_of c after g)) (at K) n (λ j k.
            let stands = lane_stands c laid g j here k in
            let few = few_here (first_lane c g + j) (lane_at_place c laid g j here k) stands.0 in
            omega (arith, supply_on c laid g here after j k, ap (at K) stands.1)),
      )

  store_there : (s : ℕ) → s < length c.sheds → (s ≡ (lane_of c h).shed → ⊥) → kept (shed_of c s) (supply_of c after s) ≤ (shed_of c s).limit
  store_there s k ne =
      omega (
        arith,
        fits.store s k,
        sum_same (at (supply_of c after s)) (at (supply_of c H s)) (lanes (shed_of c s)) (λ j b.
            supply_on c laid s k after j b ∙ same_there (first_lane c s + j) (λ q. ne (sym (lane_stands c laid s j k b).0 ∙ q)) ∙ sym (supply_on c laid s k H j b)),
      )

  fits_after : Fits c (cleared c m H h i)
  fits_after = record {
    ranked = λ l x k o. elim (cases_eq (lane_of c l).shed g) [
      | inl e ↦ best_ranked (claims l) (ranking_of c l) (at K (lane_of c l).place) x (sym (chosen_here l k e x) ∙ sym (in_shed l x e) ∙ o)
      | inr e ↦ fits.ranked l x k (sym (off_shed l x e) ∙ o)
    ];
    capacity = λ l k. elim (cases_eq (lane_of c l).shed g) [
      | inl e ↦ omega (arith, few_here l k e, rule.inside X small (lane_of c l).place (slot_in l k e), ap (λ (s : ℕ). at (shed_of c s).capacities (lane_of c l).place) e)
      | inr e ↦ omega (arith, same_there l e, fits.capacity l k)
    ];
    store = λ s k. elim (cases_eq s g) [
      | inl e ↦ subst (λ (s : ℕ). kept (shed_of c s) (supply_of c after s) ≤ (shed_of c s).limit) (sym e) store_here
      | inr e ↦ store_there s k e
    ];
  }

pub at_most_one_goes : AtMostOneGoes
at_most_one_goes c m laid law H fits h i inside ranks free = same_pair c m laid law H fits h i inside ranks free

pub clearing_fits : ClearingFits
clearing_fits c m laid law H fits h i inside ranks = fits_after c m laid law H fits h i inside ranks
