-- Why the order of slips and applications does not matter. Nothing here knows cards, caps or words.
use Rattle.std.proofs.Common.{◌≡◌, ℕ, suc, ◌-◌, ◌<◌, ◌≤◌, true, false, ◌⊎◌, List, [], length, take, sym, refl, ap, ◌∙◌, subst, inl, inr, arith}
use mathlib.Core.Path.{fun_ext}
use Rattle.std.proofs.lemmas.Bool.Decides.{nat_tests}
use Rattle.std.proofs.lemmas.Bool.{cases_lt, cases_Bool, cases_eq, both_ways, eqb-true, eq-eqb}
use Rattle.sharing.specs.Rules.{at}
use Rattle.books.specs.Lanes.{has}
use Rattle.matching.specs.Offers.{Offers, asking}
use Rattle.matching.specs.Choosing.{Within, Choosing}
use Rattle.matching.specs.Vectors.{Listed, put, offers, Closed, Least}
use Rattle.matching.specs.Stands.{Stands}
use Rattle.matching.specs.Theorems.{BeginningStands, EnteringStands, ApplyingStands, OthersStay, ApplyingLeavesOthers, SettledIsLeast, OrdersDoNotMatter}
use Rattle.matching.proofs.Wishes.{has_take_at, has_take_more, below_at, offers_within, put_here, put_there, put_all}

-- a choice of nothing
chosen_none : (n : ℕ) (home : ℕ → ℕ) (R : ℕ → List ℕ) (C : Offers → Offers) → Choosing n home R C → (O : Offers) (l i : ℕ) → O l i ≡ false → C O l i ≡ false
chosen_none n home R C ch O l i e = elim (cases_Bool (C O l i)) [ inl c ↦ absurd (both_ways (O l i) e (ch.only_offered O l i c)) | inr c ↦ c ]

pub beginning_stands : BeginningStands
beginning_stands n home R C ch = record {
  within = λ i. omega arith;
  held_is_chosen = λ l i h. sym (chosen_none n home R C ch (offers (λ i. []) (λ i. 0)) l i refl);
  below_closed = λ b cb i. omega arith;
}

module _ (n : ℕ) (home : ℕ → ℕ) (R : ℕ → List ℕ) (C : Offers → Offers) (ch : Choosing n home R C) (L : ℕ → List ℕ) (a : ℕ → ℕ) (H : Offers) (ls : Listed n L) (s : Stands n C L a H) where
  wish_known : (i k : ℕ) → k < length (L i) → at (L i) k < n
  wish_known i = below_at n (L i) (ls.known i)

  -- a slip more
  module _ (i : ℕ) (xs : List ℕ) (e : L i ≡ []) where
    abbrev L' : ℕ → List ℕ
    L' = put L i xs

    none_tried : a i ≡ 0
    none_tried = omega (arith, s.within i, ap length e)

    same_at : (l x : ℕ) → offers L' a l x ≡ offers L a l x
    same_at l x =
        elim (cases_eq x i) [
          | inl q ↦
              let z : a x ≡ 0 = ap a q ∙ none_tried in
              ap (λ (k : ℕ). has (take k (L' x)) l) z ∙ sym (ap (λ (k : ℕ). has (take k (L x)) l) z)
          | inr q ↦ ap (λ (ys : List ℕ). has (take (a x) ys) l) (put_there L i xs x q)
        ]

    module _ (b : ℕ → ℕ) (cb : Closed C L' b) where
      abbrev b' : ℕ → ℕ
      b' = put b i 0

      less : Within n (offers L b') (offers L' b)
      less l x h o =
          elim (cases_eq x i) [
            | inl q ↦ absurd (both_ways (offers L b' l x) (subst (λ (x : ℕ). offers L b' l x ≡ false) (sym q) (ap (λ (z : ℕ). has (take z (L i)) l) (put_here b i 0))) o)
            | inr q ↦ subst (λ (ys : List ℕ). has (take (b x) ys) l ≡ true) (sym (put_there L i xs x q)) (subst (λ (z : ℕ). has (take z (L x)) l ≡ true) (put_there b i 0 x q) o)
          ]

      other : (x : ℕ) → b' x < length (L x) → x ≡ i → ⊥
      other x h q = omega (arith, subst (λ (x : ℕ). b' x < length (L x)) q h, ap length e)

      without : Closed C L b'
      without = record {
        within = put_all (λ x k. k ≤ length (L x)) b i 0 (omega arith) (λ x q. omega (arith, cb.within x, ap length (put_there L i xs x q)));
        begun = λ x h. let q = other x h in omega (arith, put_there b i 0 x q, cb.begun x (omega (arith, put_there b i 0 x q, ap length (put_there L i xs x q))));
        chosen_last = λ x h.
            let q = other x h in
            let bx : b' x ≡ b x = put_there b i 0 x q in
            let lx : L' x ≡ L x = put_there L i xs x q in
            let inside : b x < length (L' x) = omega (arith, ap length lx) in
            let some = cb.begun x inside in
            let k : ℕ = b' x - 1 in
            let kk : b x - 1 ≡ k = omega arith in
            let kw : k < length (L x) = omega arith in
            let won : C (offers L' b) (at (L x) k) x ≡ true = subst (λ (z : ℕ). C (offers L' b) z x ≡ true) (ap (λ (ys : List ℕ). at ys (b x - 1)) lx ∙ ap (at (L x)) kk) (cb.chosen_last x inside) in
            elim (cases_Bool (C (offers L b') (at (L x) k) x)) [
              | inl t ↦ t
              | inr t ↦ absurd (both_ways (C (offers L' b) (at (L x) k) x) (ch.substitutes (offers L b') (offers L' b) less (at (L x) k) x (wish_known x k kw) (has_take_at (L x) k (b' x) (omega arith) kw) t) won)
            ];
      }

      still_below : (x : ℕ) → a x ≤ b x
      still_below x =
          elim (cases_eq x i) [
            | inl q ↦ let z : a x ≡ 0 = ap a q ∙ none_tried in omega arith
            | inr q ↦ omega (arith, s.below_closed b' without x, put_there b i 0 x q)
          ]

    entered : Stands n C (put L i xs) a H
    entered = record {
      within = λ x. elim (cases_eq x i) [
        | inl q ↦ let z : a x ≡ 0 = ap a q ∙ none_tried in omega arith
        | inr q ↦ omega (arith, s.within x, ap length (put_there L i xs x q))
      ];
      held_is_chosen = λ l x h. s.held_is_chosen l x h ∙ sym (ap (λ (O : Offers). C O l x) (fun_ext (λ l. fun_ext (λ x. same_at l x))));
      below_closed = still_below;
    }

  -- an application more
  module _ (i : ℕ) (room : a i < length (L i)) (looks : (l : ℕ) → l < n → H l i ≡ false) where
    abbrev wish : ℕ
    wish = at (L i) (a i)

    abbrev a' : ℕ → ℕ
    a' = put a i (suc (a i))

    abbrev before : Offers
    before = offers L a

    abbrev behind : Offers
    behind = offers L (put a i (suc (a i)))

    abbrev asked : Offers
    asked = asking H (at (L i) (a i)) i

    wish_in : at (L i) (a i) < n
    wish_in = wish_known i (a i) room

    up : (x : ℕ) → a x ≤ a' x
    up x = elim (cases_eq x i) [
      | inl q ↦ subst (λ (x : ℕ). a x ≤ a' x) (sym q) (omega (arith, put_here a i (suc (a i))))
      | inr q ↦ omega (arith, put_there a i (suc (a i)) x q)
    ]

    larger : Within n before behind
    larger = offers_within n L a a' up

    -- what is new on offer: the applicant at its wish
    fresh_i : (l : ℕ) → behind l i ≡ true → (before l i ≡ true) ⊎ ((i ≡ i) × (l ≡ wish))
    fresh_i l p =
        elim (has_take_more (L i) (a i) l (subst (λ (z : ℕ). has (take z (L i)) l ≡ true) (put_here a i (suc (a i))) p)) [
          | inl t ↦ inl t
          | inr t ↦ inr (refl, sym t)
        ]

    fresh : (l x : ℕ) → behind l x ≡ true → (before l x ≡ true) ⊎ ((x ≡ i) × (l ≡ wish))
    fresh l x p = elim (cases_eq x i) [
      | inl q ↦ subst (λ (x : ℕ). behind l x ≡ true → (before l x ≡ true) ⊎ ((x ≡ i) × (l ≡ wish))) (sym q) (fresh_i l) p
      | inr q ↦ inl (subst (λ (z : ℕ). has (take z (L x)) l ≡ true) (put_there a i (suc (a i)) x q) p)
    ]

    applicant : (l x : ℕ) → l ≡ wish → x ≡ i → behind l x ≡ true
    applicant l x p q =
        subst (λ (l : ℕ). behind l x ≡ true) (sym p) (subst (λ (x : ℕ). behind wish x ≡ true) (sym q)
        (subst (λ (z : ℕ). has (take z (L i)) wish ≡ true) (sym (put_here a i (suc (a i)))) (has_take_at (L i) (a i) (suc (a i)) (omega arith) room)))

    held_offered : (l x : ℕ) → l < n → H l x ≡ true → before l x ≡ true
    held_offered l x h o = ch.only_offered before l x (sym (s.held_is_chosen l x h) ∙ o)

    asked_offered : (l x : ℕ) → l < n → asked l x ≡ true → behind l x ≡ true
    asked_offered l x h o = elim (cases_Bool (H l x)) [
      | inl t ↦ larger l x h (held_offered l x h t)
      | inr t ↦ applicant l x (eqb-true l wish (grind (arith, nat_tests))) (eqb-true x i (grind (arith, nat_tests)))
    ]

    -- who is chosen from the larger offers was held, or is the applicant at its wish
    chosen_asked : (l x : ℕ) → l < n → C behind l x ≡ true → asked l x ≡ true
    chosen_asked l x h c =
        elim (fresh l x (ch.only_offered behind l x c)) [
          | inl o ↦ elim (cases_Bool (C before l x)) [
            | inl t ↦ let z : H l x ≡ true = s.held_is_chosen l x h ∙ t in grind (arith, nat_tests)
            | inr t ↦ absurd (both_ways (C behind l x) (ch.substitutes before behind larger l x h o t) c)
          ]
          | inr r ↦ let p = eq-eqb l wish r.1 in let q = eq-eqb x i r.0 in grind (arith, nat_tests)
        ]

    asks_same : (l x : ℕ) → l < n → C asked l x ≡ C behind l x
    asks_same = ch.irrelevance asked behind asked_offered chosen_asked

    others_stay : OthersStay n home R C H (at (L i) (a i)) i
    others_stay = record {
      other_sheds = λ l x h ne. asks_same l x h ∙ ch.own_shed behind before l h (λ k j kn same. agree k j kn (λ q. ne (sym same ∙ ap home q))) x ∙ sym (s.held_is_chosen l x h);
      unranked = λ u l x h. asks_same l x h ∙ sym (ch.irrelevance before behind larger (λ l x h c. ranked_before u l x c) l x h) ∙ sym (s.held_is_chosen l x h);
    }
      where
        agree : (k j : ℕ) → k < n → (k ≡ wish → ⊥) → behind k j ≡ before k j
        agree k j kn ne =
            elim (cases_Bool (behind k j)) [
              | inl p ↦ elim (fresh k j p) [ inl o ↦ p ∙ sym o | inr r ↦ absurd (ne r.1) ]
              | inr p ↦ elim (cases_Bool (before k j)) [
                | inl o ↦ absurd (both_ways (behind k j) p (larger k j kn o))
                | inr o ↦ p ∙ sym o
              ]
            ]

        ranked_before : has (R wish) i ≡ false → (l x : ℕ) → C behind l x ≡ true → before l x ≡ true
        ranked_before u l x c = elim (fresh l x (ch.only_offered behind l x c)) [
          | inl o ↦ o
          | inr r ↦ absurd (both_ways (has (R wish) i) u (subst (λ (l : ℕ). has (R l) i ≡ true) r.1 (subst (λ (x : ℕ). has (R l) x ≡ true) r.0 (ch.only_ranked behind l x c))))
        ]

    bump : (b : ℕ → ℕ) → Closed C L b → suc (a i) ≤ b i
    bump b cb =
        elim (cases_lt (a i) (b i)) [
          | inl h ↦ h
          | inr h ↦
              let eq : b i ≡ a i = omega (arith, s.below_closed b cb i) in
              let inside : b i < length (L i) = omega arith in
              let some = cb.begun i inside in
              let k : ℕ = b i - 1 in
              let kw : k < length (L i) = omega arith in
              let ka : k < a i = omega arith in
              let nowhere : C before (at (L i) k) i ≡ false = sym (s.held_is_chosen (at (L i) k) i (wish_known i k kw)) ∙ looks (at (L i) k) (wish_known i k kw) in
              absurd (both_ways (C (offers L b) (at (L i) k) i)
              (ch.substitutes before (offers L b) (offers_within n L a b (s.below_closed b cb)) (at (L i) k) i (wish_known i k kw) (has_take_at (L i) k (a i) ka kw) nowhere) (cb.chosen_last i inside))
        ]

    applied : Stands n C L (put a i (suc (a i))) (C asked)
    applied = record {
      within = put_all (λ x k. k ≤ length (L x)) a i (suc (a i)) room (λ x q. s.within x);
      held_is_chosen = asks_same;
      below_closed = λ b cb. put_all (λ x k. k ≤ b x) a i (suc (a i)) (bump b cb) (λ x q. s.below_closed b cb x);
    }

  -- nobody has to go on
  settled : ((i : ℕ) → a i < length (L i) → (1 ≤ a i) × (H (at (L i) (a i - 1)) i ≡ true)) → Least C L a
  settled held = record {
    closed = record {
      within = s.within;
      begun = λ i h. (held i h).0;
      chosen_last = λ i h.
          let some = (held i h).0 in
          sym (s.held_is_chosen (at (L i) (a i - 1)) i (wish_known i (a i - 1) (omega arith))) ∙ (held i h).1;
    };
    least = s.below_closed;
  }

pub entering_stands : EnteringStands
entering_stands n home R C ch L a H ls s i xs e = entered n home R C ch L a H ls s i xs e

pub applying_stands : ApplyingStands
applying_stands n home R C ch L a H ls s i room looks = applied n home R C ch L a H ls s i room looks

pub applying_leaves_others : ApplyingLeavesOthers
applying_leaves_others n home R C ch L a H ls s i room looks = others_stay n home R C ch L a H ls s i room looks

pub settled_is_least : SettledIsLeast
settled_is_least n home R C ch L a H ls s held = settled n home R C ch L a H ls s held

pub orders_do_not_matter : OrdersDoNotMatter
orders_do_not_matter n C L a b H K s t la lb =
    let same : (i : ℕ) → a i ≡ b i = λ i. omega (arith, la.least b lb.closed i, lb.least a la.closed i) in (
      same,
      λ l i h. s.held_is_chosen l i h ∙ ap (λ (v : ℕ → ℕ). C (offers L v) l i) (fun_ext same) ∙ sym (t.held_is_chosen l i h),
    )
