-- The front of a line-up is fixed by what it is, and dealing gives it.
use Rattle.std.specs.Prelude.{◌≡◌, ℕ, zero, suc, ◌+◌, ◌-◌, ◌<◌, ◌≤◌, Bool, true, false, ◌&&◌, ltb, List, length, set, replicate, Some, None, IfSome, Option, ◌≢◌, nat_lt, slice_set, refl}
use Rattle.std.proofs.Common.{sym, ◌∙◌}
use Rattle.std.proofs.Math.Path.{ap, subst}
use Rattle.std.proofs.Math.Logic.{inl, inr}
use native.Mathlib.Omega.{arith}
use Rattle.std.proofs.Math.ListN.{length-set}
use Rattle.std.proofs.lemmas.List.FromFn.{get_or-map-range_with_len, length-map-range_with_len}
use Rattle.std.proofs.lemmas.List.{get_or-set_same, get_or-set_other, get_or-take, length-take-le, ext_get_or}
use Rattle.std.proofs.lemmas.Bool.{cases_Bool, cases_lt, cases_eq, both_ways, lt-ltb, ltb-true, ltb-false, and_parts, and_cases}
use Rattle.sharing.specs.Cards.{Terms}
use Rattle.sharing.specs.LineUp.{count_to, ahead, front, line_up, Front, better, pick, deal}
use Rattle.sharing.specs.Orders.{Standing, Open, Ordered}
use Rattle.sharing.specs.Rules.{at, lanes, on_card, places, sum_to, kept}
use Rattle.sharing.specs.Sums.{at-zeros, count_most, count_least, sum_mono, sum_less, sum_set}

module _ (s : Standing) (o : Ordered s) (c : Terms) (x : List ℕ) where
  -- a lane with a place can have places
  open_lane : (l j : ℕ) → 1 ≤ j → j ≤ places c x l → Open c l
  open_lane l j a b = omega arith

  module _ (k : List ℕ) (f : Front s c x k) where
    -- a kept place has fewer than the cap before it
    kept_few : (l i : ℕ) → l < lanes c → 1 ≤ i → i ≤ at k l → ahead s c x l i < c.limit
    kept_few l i h a b =
        let in_lane : Open c l = open_lane l i a (omega (arith, f.inside l h)) in
        let most : (g : ℕ) → g < lanes c → count_to (λ m. s.before c g m l i) (places c x g) ≤ at k g =
        λ g inside. count_most (λ m. s.before c g m l i) (at k g) (places c x g) (λ m low high e.
        elim (cases_lt (at k g) m) [
          | inl past ↦ absurd (o.not_both c g m l i (open_lane g m low high) in_lane e (f.first l g i m h inside a b past high))
          | inr low-enough ↦ low-enough
        ])
        in
        let own : count_to (λ m. s.before c l m l i) (places c x l) ≤ i - 1 =
        count_most (λ m. s.before c l m l i) (i - 1) (places c x l) (λ m low high e. let t = ltb-true m i (sym (o.same_lane c l m i in_lane) ∙ e) in omega arith)
        in
        omega (arith, sum_less (λ g. count_to (λ m. s.before c g m l i) (places c x g)) (at k) (lanes c) l most h (omega arith), f.capped)

    -- a place that is not kept has the cap before it
    left_many : (l i : ℕ) → l < lanes c → at k l < i → i ≤ places c x l → c.limit ≤ ahead s c x l i
    left_many l i h a b =
        let least : (g : ℕ) → g < lanes c → at k g ≤ count_to (λ m. s.before c g m l i) (places c x g) =
        λ g inside. count_least (λ m. s.before c g m l i) (at k g) (places c x g) (f.inside g inside) (λ m low high. f.first g l m i inside h low high a b)
        in
        omega (arith, sum_mono (at k) (λ g. count_to (λ m. s.before c g m l i) (places c x g)) (lanes c) least, f.full l h (omega arith))

    pub front_is : (l : ℕ) → l < lanes c → at k l ≡ front s c x l
    front_is l h =
        let p : ℕ → Bool = λ i. ltb (ahead s c x l i) c.limit in
        let most = count_most p (at k l) (places c x l) (λ m low high e.
        elim (cases_lt (at k l) m) [
          | inl past ↦ absurd (let t = ltb-true (ahead s c x l m) c.limit e in omega (arith, left_many l m h past high))
          | inr low-enough ↦ low-enough
        ])
        in
        let least = count_least p (at k l) (places c x l) (f.inside l h) (λ m low high. lt-ltb (ahead s c x l m) c.limit (kept_few l m h low high)) in
        omega (arith, most, least)

    pub line_up_is : (l : ℕ) → l < lanes c → at (line_up s c x) l ≡ at k l
    line_up_is l h = get_or-map-range_with_len (front s c x) 0 (lanes c) l l 0 h (omega arith) ∙ sym (front_is l h)

  module _ (k : List ℕ) where
    -- a lane with room
    abbrev Room : ℕ → Type 0
    Room l = at k l < places c x l

    -- lane b has room, and its next place stands before that of every other of the first n lanes with room
    First : ℕ → Option ℕ → Type 0
    First n None = (l : ℕ) → l < n → places c x l ≤ at k l
    First n (Some b) = (b < n) × Room b × ((l : ℕ) → l < n → (l ≢ b) → Room l → s.before c b (at k b + 1) l (at k l + 1) ≡ true)

    room_open : (l : ℕ) → Room l → Open c l
    room_open l r = open_lane l (at k l + 1) (omega arith) (omega arith)

    -- one lane more: it has no room, or it comes first, or it does not
    first_full : (n : ℕ) (t : Option ℕ) → First n t → places c x n ≤ at k n → First (suc n) t
    unfolding First
    first_full n None f full = λ l h. elim (cases_eq l n) [ inl e ↦ subst (λ i. places c x i ≤ at k i) (sym e) full | inr ne ↦ f l (omega (arith, ne)) ]
    first_full n (Some b) f full = (
      omega (arith, f.0),
      f.1,
      λ l h apart room. elim (cases_eq l n) [
        | inl e ↦ absurd (let r = subst (λ i. at k i < places c x i) e room in omega arith)
        | inr ne ↦ f.2 l (omega (arith, ne)) apart room
      ],
    )

    first_new : (n : ℕ) (t : Option ℕ) → First n t → Room n → better s c k n t ≡ true → First (suc n) (Some n)
    unfolding First
    first_new n None f room e = (omega arith, room, λ l h apart r. absurd (omega (arith, f l (omega (arith, apart)))))
    first_new n (Some b) f room e = (
      omega arith,
      room,
      λ l h apart r. elim (cases_eq l b) [
        | inl same ↦ subst (λ i. s.before c n (at k n + 1) i (at k i + 1) ≡ true) (sym same) e
        | inr other ↦ o.along c n (at k n + 1) b (at k b + 1) l (at k l + 1) (room_open n room) (room_open b f.1) (room_open l r) e (f.2 l (omega (arith, apart)) other r)
      ],
    )

    first_old : (n : ℕ) (t : Option ℕ) → First n t → Room n → better s c k n t ≡ false → First (suc n) t
    unfolding First
    first_old n None f room e = absurd (both_ways true e refl)
    first_old n (Some b) f room e = (
      omega (arith, f.0),
      f.1,
      λ l h apart r. elim (cases_eq l n) [
        | inl same ↦ subst (λ i. s.before c b (at k b + 1) i (at k i + 1) ≡ true) (sym same) (o.either c n (at k n + 1) b (at k b + 1) (room_open n room) (room_open b f.1) (λ z. omega (arith, z, f.0)) e)
        | inr ne ↦ f.2 l (omega (arith, ne)) apart r
      ],
    )

    picked : (n : ℕ) (t : Option ℕ) → First n t → First (suc n) (elim (nat_lt (at k n) (places c x n) && better s c k n t) [ true ↦ Some n | false ↦ t ])
    picked n t f =
        (elim (nat_lt (at k n) (places c x n) && better s c k n t) as (λ v. (nat_lt (at k n) (places c x n) && better s c k n t) ≡ v → First (suc n) (elim v [ true ↦ Some n | false ↦ t ])) [
          | true ↦ λ e. let p = and_parts (nat_lt (at k n) (places c x n)) (better s c k n t) e in first_new n t f (ltb-true (at k n) (places c x n) p.0) p.1
          | false ↦ λ e. elim (cases_Bool (nat_lt (at k n) (places c x n))) [
            | inl room ↦ first_old n t f (ltb-true (at k n) (places c x n) room) (elim (and_cases (nat_lt (at k n) (places c x n)) (better s c k n t) e) [ inl z ↦ absurd (both_ways (nat_lt (at k n) (places c x n)) z room) | inr z ↦ z ])
            | inr full ↦ first_full n t f (ltb-false (at k n) (places c x n) full)
          ]
        ]) refl

    picks : (n : ℕ) → First n (pick s c x k n)
    unfolding First
    picks zero = λ l h. absurd (omega arith)
    picks (suc n) = picked n (pick s c x k n) (picks n)

  -- the lane that is picked has room
  pub picked_room : (k : List ℕ) (n : ℕ) → IfSome (pick s c x k n) (λ b. (b < n) × (at k b < places c x b))
  unfolding First
  picked_room k n = (elim (pick s c x k n) as (λ t. First k n t → IfSome t (λ b. (b < n) × (at k b < places c x b))) [ None ↦ λ f. tt | Some b ↦ λ f. (f.0, f.1) ]) (picks k n)

  -- what has been dealt out so far: n places, and every kept place stands before every place that is not
  record Dealt (n : ℕ) (k : List ℕ) : Type 0 where
    long : length k ≡ 8
    inside : (l : ℕ) → l < lanes c → at k l ≤ places c x l
    many : kept c k ≡ n
    first : (l h i j : ℕ) → l < lanes c → h < lanes c → 1 ≤ i → i ≤ at k l → at k h < j → j ≤ places c x h → s.before c l i h j ≡ true

  -- one place more goes to the lane whose next place stands first
  one_more : lanes c ≤ 8 → (n : ℕ) (k : List ℕ) (b : ℕ) → Dealt n k → First k (lanes c) (Some b) → Dealt (n + 1) (slice_set k b (at k b + 1))
  unfolding First
  one_more few n k b d f =
      let k' = set k b (at k b + 1) in
      let in_list : b < length k = omega (arith, d.long, f.0, few) in
      let here : at k' b ≡ at k b + 1 = get_or-set_same k b (at k b + 1) 0 in_list in
      let other : (l : ℕ) → (l ≢ b) → at k' l ≡ at k l = λ l apart. get_or-set_other k b l (at k b + 1) 0 apart in
      record {
        long = length-set k b (at k b + 1) ∙ d.long;
        inside = λ l h. elim (cases_eq l b) [
          | inl e ↦ subst (λ i. at k' i ≤ places c x i) (sym e) (omega (arith, here, f.1))
          | inr ne ↦ omega (arith, other l ne, d.inside l h)
        ];
        many = sum_set k b (lanes c) f.0 in_list ∙ ap (λ m. m + 1) d.many;
        first = λ l h i j inl' inh low high past room.
            elim (cases_eq h b) [
              | inl hb ↦
                  let past-b : at k b + 1 < j = let p = subst (λ v. at k' v < j) hb past in omega (arith, here) in
                  elim (cases_eq l b) [
                    | inl lb ↦ subst (λ v. s.before c v i h j ≡ true) (sym lb) (subst (λ v. s.before c b i v j ≡ true) (sym hb)
                        (o.same_lane c b i j (room_open k b f.1) ∙ lt-ltb i j (let q = subst (λ v. i ≤ at k' v) lb high in omega (arith, here))))
                    | inr lb ↦ d.first l h i j inl' inh low (omega (arith, other l lb)) (subst (λ v. at k v < j) (sym hb) (omega arith)) room
                  ]
              | inr hb ↦
                  let past-h : at k h < j = omega (arith, other h hb) in
                  elim (cases_eq l b) [
                    | inl lb ↦
                        let high-b : i ≤ at k b + 1 = let q = subst (λ v. i ≤ at k' v) lb high in omega (arith, here) in
                        let room-h : at k h < places c x h = omega arith in
                        subst (λ v. s.before c v i h j ≡ true) (sym lb)
                        (o.wider c b (at k b + 1) h (at k h + 1) i j (room_open k b f.1) (room_open k h room-h) (f.2 h inh hb room-h) high-b (omega arith))
                    | inr lb ↦ d.first l h i j inl' inh low (omega (arith, other l lb)) past-h room
                  ]
            ];
      }

  -- dealing gives the front
  done : (n : ℕ) (k : List ℕ) → Dealt n k → n ≡ c.limit → Front s c x k
  done n k d e = record { inside = d.inside; capped = omega (arith, d.many); full = λ l h r. d.many ∙ e; first = d.first }

  spent : (n : ℕ) (k : List ℕ) → Dealt n k → n ≤ c.limit → First k (lanes c) None → Front s c x k
  unfolding First
  spent n k d low f = record { inside = d.inside; capped = omega (arith, d.many); full = λ l h r. absurd (omega (arith, f l h)); first = d.first }

  deals : lanes c ≤ 8 → (m n : ℕ) (k : List ℕ) → Dealt n k → n + m ≡ c.limit → Front s c x (deal s c x m k)
  deals few zero n k d e = done n k d (omega arith)
  deals few (suc m) n k d e =
      (elim (pick s c x k (lanes c)) as (λ t. First k (lanes c) t → Front s c x (elim t [ None ↦ k | Some b ↦ deal s c x m (slice_set k b (at k b + 1)) ])) [
        | None ↦ λ f. spent n k d (omega arith) f
        | Some b ↦ λ f. deals few m (n + 1) (slice_set k b (at k b + 1)) (one_more few n k b d f) (omega arith)
      ]) (picks k (lanes c))

  none_kept : (n : ℕ) → sum_to (at (replicate 8 0)) n ≡ 0
  none_kept zero = refl
  none_kept (suc n) = omega (arith, at-zeros 8 n, none_kept n)

  undealt : Dealt 0 (replicate 8 0)
  undealt = record {
    long = refl;
    inside = λ l h. omega (arith, at-zeros 8 l);
    many = none_kept (lanes c);
    first = λ l h i j a b low high past room. absurd (omega (arith, at-zeros 8 l));
  }

  pub dealt_front : lanes c ≤ 8 → Front s c x (deal s c x c.limit (replicate 8 0))
  dealt_front few = deals few c.limit 0 (replicate 8 0) undealt (omega arith)

  -- dealing keeps of each lane what the line-up does
  pub dealt_line_up : lanes c ≤ 8 → (l : ℕ) → l < lanes c → at (line_up s c x) l ≡ at (deal s c x c.limit (replicate 8 0)) l
  dealt_line_up few = line_up_is (deal s c x c.limit (replicate 8 0)) (dealt_front few)

-- numbers that agree with the line-up on the card
pub same_on_card : (s : Standing) (c : Terms) (x k : List ℕ) → lanes c ≤ length k → ((l : ℕ) → l < lanes c → at (line_up s c x) l ≡ at k l) → on_card c k ≡ on_card c (line_up s c x)
same_on_card s c x k long same =
    let lined : length (line_up s c x) ≡ lanes c = length-map-range_with_len (front s c x) 0 (lanes c) in
    let ours : length (on_card c k) ≡ lanes c = length-take-le (lanes c) k long in
    let theirs : length (on_card c (line_up s c x)) ≡ lanes c = length-take-le (lanes c) (line_up s c x) (omega (arith, lined)) in
    ext_get_or 0 (on_card c k) (on_card c (line_up s c x)) (ours ∙ sym theirs)
    (λ l h. let inside : l < lanes c = omega (arith, ours) in get_or-take (lanes c) k l 0 inside ∙ sym (same l inside) ∙ sym (get_or-take (lanes c) (line_up s c x) l 0 inside))
