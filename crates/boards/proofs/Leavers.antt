-- Who has to go: the search finds the only lot that is not kept, and its line and the applicant's are all that change.
use Rattle.std.proofs.Common.{◌≡◌, ℕ, zero, suc, ◌+◌, ◌<◌, ◌≤◌, Bool, true, false, cond, eqb, ltb, List, [], ◌∷◌, length, get_or, set, Some, None, Option, sym, refl, ap, ◌∙◌, subst, inl, inr, arith}
use Rattle.std.proofs.lemmas.List.{ext_get_or, length-set, get_or_past, get_or-set_same, get_or-set_other}
use Rattle.std.proofs.lemmas.List.FromFn.{get_or-map-range_with_len, length-map-range_with_len}
use Rattle.std.proofs.lemmas.List.Sums.{sum_by-set}
use Rattle.std.proofs.lemmas.Bool.Decides.{nat_tests}
use Rattle.std.proofs.lemmas.Bool.{cases_lt, cases_Bool, cases_eq, both_ways, eqb-true, eq-eqb, ne_eqb, lt-ltb, le-ltb}
use Rattle.sharing.specs.Rules.{at, lanes, Meaning, Lawful}
use Rattle.books.specs.Lanes.{has, distinct}
use Rattle.books.specs.Contents.{Contents, lane_of, ranking_of}
use Rattle.books.specs.Laid.{Laid, shed_of, first_lane}
use Rattle.books.proofs.Laid.{lane_stands}
use Rattle.matching.specs.Offers.{Offers, asking, best, offered, chosen, cleared}
use Rattle.matching.proofs.Best.{best_short}
use Rattle.matching.proofs.Sheds.{few_on_card, supply_on}
use Rattle.matching.proofs.Wishes.{put_here, put_there}
use Rattle.boards.specs.declared.line.Line.{Line}
use Rattle.boards.specs.declared.line.Line.TheVariants.{Absent, Looking, Held}
use Rattle.boards.specs.declared.line.Event.TheVariants.{Taken, Dropped, TurnedAway}
use Rattle.boards.specs.Lines.{next, noted, holds, looks, tried_of}
use Rattle.boards.specs.Boards.{Board, line_of, wishes, holding, held, filling, keeps, stays, turned, leaves, leaver}
use Rattle.boards.specs.Formed.{Formed}
use Rattle.boards.specs.Calls.{Claims}
use Rattle.boards.specs.Searches.{supplied, beyond, first_of, beyond_at, note_in, moved}
use Rattle.boards.proofs.BoardLines.{place_apart, stays_all, stays_dropped, leaves_held, leaves_yes}
use Rattle.boards.proofs.FormedApplies.{room, looks_in, wish_in, seated, claims, all_claims, claims_ranked, same_supply, keeps_here, keeps_there, get_d_turned_0, length_turned}
use Rattle.boards.proofs.CallsRun.{claim_known, same_pair}

-- along a ranking
pub beyond_some : (O : ℕ → Bool) (R : List ℕ) (k x : ℕ) → distinct R ≡ true → beyond k O R ≡ Some x → (O x ≡ true) × (best k O R x ≡ false) × (has R x ≡ true)
beyond_some O [] k x d e = cc
beyond_some O (r ∷ R) zero x d e = go (O r) refl e (λ q. beyond_some O R zero x (grind (arith, nat_tests)) q)
  where
    go : (p : Bool) → O r ≡ p → ◌≡◌ {A = Option ℕ} (elim p [ true ↦ Some r | false ↦ beyond zero O R ]) (Some x) → (beyond zero O R ≡ Some x → (O x ≡ true) × (best zero O R x ≡ false) × (has R x ≡ true)) → (O x ≡ true) × (best zero O (r ∷ R) x ≡ false) × (has (r ∷ R) x ≡ true)
    go true q e rest = let same : r ≡ x = cc in (ap O (sym same) ∙ q, refl, let s = eq-eqb r x same in grind (arith, nat_tests))
    go false q e rest = let t = rest e in (t.0, refl, let h = t.2 in grind (arith, nat_tests))
beyond_some O (r ∷ R) (suc k) x d e =
    go (O r) refl e (λ q. beyond_some O R k x (grind (arith, nat_tests)) q) (λ q. beyond_some O R (suc k) x (grind (arith, nat_tests)) q)
  where
    fresh : has R r ≡ false
    fresh = grind (arith, nat_tests)

    apart : has R x ≡ true → eqb r x ≡ false
    apart h = ne_eqb r x (λ q. both_ways (has R r) fresh (subst (λ (z : ℕ). has R z ≡ true) (sym q) h))

    go : (p : Bool) → O r ≡ p → ◌≡◌ {A = Option ℕ} (elim p [ true ↦ beyond k O R | false ↦ beyond (suc k) O R ]) (Some x) →
        (beyond k O R ≡ Some x → (O x ≡ true) × (best k O R x ≡ false) × (has R x ≡ true)) → (beyond (suc k) O R ≡ Some x → (O x ≡ true) × (best (suc k) O R x ≡ false) × (has R x ≡ true)) →
        (O x ≡ true) × (best (suc k) O (r ∷ R) x ≡ false) × (has (r ∷ R) x ≡ true)
    go true q e one two = let t = one e in let b = t.1 in let h = t.2 in let a = apart h in (t.0, grind (arith, nat_tests), grind (arith, nat_tests))
    go false q e one two = let t = two e in let b = t.1 in let h = t.2 in (t.0, grind (arith, nat_tests), grind (arith, nat_tests))

pub beyond_none : (O : ℕ → Bool) (R : List ℕ) (k : ℕ) → beyond k O R ≡ None → (z : ℕ) → O z ≡ true → has R z ≡ true → best k O R z ≡ true
beyond_none O [] k e z o h = absurd (grind (arith, nat_tests))
beyond_none O (r ∷ R) zero e z o h = absurd (go (O r) refl e (λ q. beyond_none O R zero q z o))
  where
    go : (p : Bool) → O r ≡ p → ◌≡◌ {A = Option ℕ} (elim p [ true ↦ Some r | false ↦ beyond zero O R ]) None → (beyond zero O R ≡ None → has R z ≡ true → best zero O R z ≡ true) → ⊥
    go true q e rest = let w : ◌≡◌ {A = ℕ} 0 1 = cc in omega arith
    go false q e rest =
        let ne : eqb r z ≡ false = elim (cases_eq r z) [ inl s ↦ absurd (both_ways (O z) (ap O (sym s) ∙ q) o) | inr s ↦ ne_eqb r z s ] in
        let t = rest e (grind (arith, nat_tests)) in
        both_ways false refl t
beyond_none O (r ∷ R) (suc k) e z o h = go (O r) refl e (λ q. beyond_none O R k q z o) (λ q. beyond_none O R (suc k) q z o)
  where
    go : (p : Bool) → O r ≡ p → ◌≡◌ {A = Option ℕ} (elim p [ true ↦ beyond k O R | false ↦ beyond (suc k) O R ]) None → (beyond k O R ≡ None → has R z ≡ true → best k O R z ≡ true) → (beyond (suc k) O R ≡ None → has R z ≡ true → best (suc k) O R z ≡ true) → best (suc k) O (r ∷ R) z ≡ true
    go true q e one two = elim (cases_eq r z) [
      | inl s ↦ let t = eq-eqb r z s in grind (arith, nat_tests)
      | inr s ↦ let t = ne_eqb r z s in let u = one e (grind (arith, nat_tests)) in grind (arith, nat_tests)
    ]
    go false q e one two =
        let ne : eqb r z ≡ false = elim (cases_eq r z) [ inl s ↦ absurd (both_ways (O z) (ap O (sym s) ∙ q) o) | inr s ↦ ne_eqb r z s ] in
        let u = two e (grind (arith, nat_tests)) in grind (arith, nat_tests)

-- the first of some answers
pub first_some : (f : ℕ → Option ℕ) (k n x : ℕ) → first_of f k n ≡ Some x → (j : ℕ) × (k ≤ j) × (j < k + n) × (f j ≡ Some x)
first_some f k zero x e = cc
first_some f k (suc n) x e = go (f k) refl e (λ q. first_some f (suc k) n x q)
  where
    go : (o : Option ℕ) → f k ≡ o → ◌≡◌ {A = Option ℕ} (elim o [ Some y ↦ Some y | None ↦ first_of f (suc k) n ]) (Some x) → (first_of f (suc k) n ≡ Some x → (j : ℕ) × (suc k ≤ j) × (j < suc k + n) × (f j ≡ Some x)) → (j : ℕ) × (k ≤ j) × (j < k + suc n) × (f j ≡ Some x)
    go None q e rest = let t = rest e in (t.0, omega (arith, t.1), omega (arith, t.2), t.3)
    go (Some y) q e rest = (k, omega arith, omega arith, q ∙ e)

pub first_none : (f : ℕ → Option ℕ) (k n : ℕ) → first_of f k n ≡ None → (j : ℕ) → k ≤ j → j < k + n → f j ≡ None
first_none f k zero e j a b = absurd (omega arith)
first_none f k (suc n) e j a b = go (f k) refl e (λ q h. first_none f (suc k) n q j h (omega arith))
  where
    go : (o : Option ℕ) → f k ≡ o → ◌≡◌ {A = Option ℕ} (elim o [ Some y ↦ Some y | None ↦ first_of f (suc k) n ]) None → (first_of f (suc k) n ≡ None → suc k ≤ j → f j ≡ None) → f j ≡ None
    go (Some y) q e rest = cc
    go None q e rest = elim (cases_eq j k) [ inl s ↦ ap f s ∙ q | inr s ↦ rest e (omega (arith, s)) ]

pub first_same : (f g : ℕ → Option ℕ) (k n : ℕ) → ((j : ℕ) → k ≤ j → j < k + n → f j ≡ g j) → first_of f k n ≡ first_of g k n
first_same f g k zero h = refl
first_same f g k (suc n) h =
    ap (λ (o : Option ℕ). elim o [ Some y ↦ Some y | None ↦ first_of f (suc k) n ]) (h k (omega arith) (omega arith)) ∙
    ap {B = Option ℕ} (λ (t : Option ℕ). elim (g k) [ Some y ↦ Some y | None ↦ t ]) (first_same f g (suc k) n (λ j a b. h j (omega arith) (omega arith)))

-- the lowest lot that leaves
leaver_looks : (p : ℕ → ℕ → Bool) (ys : List Line) (k x : ℕ) → leaver p k ys ≡ Some x → (j : ℕ) × (x ≡ k + j) × (leaves (p (k + j)) (get_or ys j Absent) ≡ true)
leaver_looks p [] k x e = cc
leaver_looks p (y ∷ ys) k x e = go (leaves (p k) y) refl e (λ q. leaver_looks p ys (suc k) x q)
  where
    go : (b : Bool) → leaves (p k) y ≡ b → ◌≡◌ {A = Option ℕ} (elim b [ true ↦ Some k | false ↦ leaver p (suc k) ys ]) (Some x) → (leaver p (suc k) ys ≡ Some x → (j : ℕ) × (x ≡ suc k + j) × (leaves (p (suc k + j)) (get_or ys j Absent) ≡ true)) → (j : ℕ) × (x ≡ k + j) × (leaves (p (k + j)) (get_or (y ∷ ys) j Absent) ≡ true)
    go true q e rest = let same : k ≡ x = cc in (0, omega arith, subst (λ (z : ℕ). leaves (p z) y ≡ true) (let z : k ≡ k + 0 = omega arith in z) q)
    go false q e rest = let t = rest e in (suc t.0, omega (arith, t.1), subst (λ (z : ℕ). leaves (p z) (get_or ys t.0 Absent) ≡ true) (let z : suc k + t.0 ≡ k + suc t.0 = omega arith in z) t.2)

pub leaver_leaves : (p : ℕ → ℕ → Bool) (ys : List Line) (x : ℕ) → leaver p 0 ys ≡ Some x → leaves (p x) (get_or ys x Absent) ≡ true
leaver_leaves p ys x e = let t = leaver_looks p ys 0 x e in subst (λ (z : ℕ). leaves (p z) (get_or ys z Absent) ≡ true) (let z : t.0 ≡ x = omega (arith, t.1) in z) (subst (λ (z : ℕ). leaves (p z) (get_or ys t.0 Absent) ≡ true) (let z : 0 + t.0 ≡ t.0 = omega arith in z) t.2)

leaver_stays : (p : ℕ → ℕ → Bool) (ys : List Line) (k : ℕ) → leaver p k ys ≡ None → (j : ℕ) → leaves (p (k + j)) (get_or ys j Absent) ≡ false
leaver_stays p [] k e j = refl
leaver_stays p (y ∷ ys) k e j = go (leaves (p k) y) refl e (λ q. leaver_stays p ys (suc k) q) j
  where
    go : (b : Bool) → leaves (p k) y ≡ b → ◌≡◌ {A = Option ℕ} (elim b [ true ↦ Some k | false ↦ leaver p (suc k) ys ]) None → (leaver p (suc k) ys ≡ None → (j : ℕ) → leaves (p (suc k + j)) (get_or ys j Absent) ≡ false) → (j : ℕ) → leaves (p (k + j)) (get_or (y ∷ ys) j Absent) ≡ false
    go true q e rest j = cc
    go false q e rest zero = subst (λ (z : ℕ). leaves (p z) y ≡ false) (let z : k ≡ k + 0 = omega arith in z) q
    go false q e rest (suc j) = subst (λ (z : ℕ). leaves (p z) (get_or ys j Absent) ≡ false) (let z : suc k + j ≡ k + suc j = omega arith in z) (rest e j)

pub leaver_none : (p : ℕ → ℕ → Bool) (ys : List Line) → leaver p 0 ys ≡ None → (x : ℕ) → leaves (p x) (get_or ys x Absent) ≡ false
leaver_none p ys e x = subst (λ (z : ℕ). leaves (p z) (get_or ys x Absent) ≡ false) (let z : 0 + x ≡ x = omega arith in z) (leaver_stays p ys 0 e x)

-- one more at the wished lane
held_set : (ys : List Line) (i h l : ℕ) → i < length ys → holds (get_or ys i Absent) l ≡ false → held l (set ys i (Held h)) ≡ held l ys + cond (eqb h l) 1 0
held_set ys i h l k f =
    let t = sum_by-set (λ y. cond (holds y l) 1 0) ys i (Held h) Absent k in
    let u : ◌≡◌ {A = ℕ} (cond (holds (get_or ys i Absent) l) 1 0) 0 = ap (λ (b : Bool). cond b 1 0) f in
    omega (arith, t, u)

module _ (c : Contents) (laid : Laid c) (ys : List Line) (i h : ℕ) (inside : i < length ys) (known : h < length c.lanes) (free : (l : ℕ) → holds (get_or ys i Absent) l ≡ false) where
  abbrev filled : List Line → ℕ → ℕ
  filled zs k = elim (ltb k (lanes (shed_of c (lane_of c h).shed))) [ true ↦ held (first_lane c (lane_of c h).shed + k) zs | false ↦ 0 ]

  on_yes : (zs : List Line) (k : ℕ) → k < lanes (shed_of c (lane_of c h).shed) → filled zs k ≡ held (first_lane c (lane_of c h).shed + k) zs
  on_yes zs k b = ap {B = ℕ} (λ (z : Bool). elim z [ true ↦ held (first_lane c (lane_of c h).shed + k) zs | false ↦ 0 ]) (lt-ltb k (lanes (shed_of c (lane_of c h).shed)) b)

  on_no : (zs : List Line) (k : ℕ) → lanes (shed_of c (lane_of c h).shed) ≤ k → filled zs k ≡ 0
  on_no zs k b = ap {B = ℕ} (λ (z : Bool). elim z [ true ↦ held (first_lane c (lane_of c h).shed + k) zs | false ↦ 0 ]) (le-ltb k (lanes (shed_of c (lane_of c h).shed)) b)

  long : (zs : List Line) → length (filling c zs (lane_of c h).shed) ≡ 8
  long zs = length-map-range_with_len (filled zs) 0 8

  filling_at : (zs : List Line) (k : ℕ) → k < 8 → at (filling c zs (lane_of c h).shed) k ≡ filled zs k
  filling_at zs k b = get_or-map-range_with_len (filled zs) 0 8 k k 0 b (omega arith)

  slot : (lane_of c h).place < lanes (shed_of c (lane_of c h).shed)
  slot = laid.stands_on_card h known

  few : lanes (shed_of c (lane_of c h).shed) ≤ 8
  few = few_on_card c laid (lane_of c h).shed (laid.in_shed h known)

  wished : (k : ℕ) → k ≡ (lane_of c h).place → filled (set ys i (Held h)) k ≡ at (filling c ys (lane_of c h).shed) k + 1
  wished k e =
      let b : k < lanes (shed_of c (lane_of c h).shed) = omega (arith, slot) in
      let l : ℕ = first_lane c (lane_of c h).shed + k in
      let same : h ≡ l = omega (arith, laid.in_order h known) in
      let one : ◌≡◌ {A = ℕ} (cond (eqb h l) 1 0) 1 = ap (λ (b : Bool). cond b 1 0) (eq-eqb h l same) in
      omega (arith, on_yes (set ys i (Held h)) k b, held_set ys i h l inside (free l), one, filling_at ys k (omega (arith, few)), on_yes ys k b)

  unwished : (k : ℕ) → k < 8 → (k ≡ (lane_of c h).place → ⊥) → filled (set ys i (Held h)) k ≡ at (filling c ys (lane_of c h).shed) k
  unwished k b ne =
      elim (cases_lt k (lanes (shed_of c (lane_of c h).shed))) [
        | inl on ↦
            let l : ℕ = first_lane c (lane_of c h).shed + k in
            let none : ◌≡◌ {A = ℕ} (cond (eqb h l) 1 0) 0 = ap (λ (b : Bool). cond b 1 0) (ne_eqb h l (λ q. ne (omega (arith, laid.in_order h known)))) in
            let e : filled (set ys i (Held h)) k ≡ filled ys k = omega (arith, on_yes (set ys i (Held h)) k on, held_set ys i h l inside (free l), none, on_yes ys k on) in e
        | inr off ↦ on_no (set ys i (Held h)) k off ∙ sym (on_no ys k off)
      ] ∙ sym (filling_at ys k b)

  pub supplied_is : filling c (set ys i (Held h)) (lane_of c h).shed ≡ supplied c ys h
  supplied_is =
      ext_get_or 0 (filling c (set ys i (Held h)) (lane_of c h).shed) (supplied c ys h) (long (set ys i (Held h)) ∙ sym (length-set (filling c ys (lane_of c h).shed) (lane_of c h).place (at (filling c ys (lane_of c h).shed) (lane_of c h).place + 1) ∙ long ys))
      (λ k b. let k8 : k < 8 = omega (arith, long (set ys i (Held h))) in
      filling_at (set ys i (Held h)) k k8 ∙ elim (cases_eq k (lane_of c h).place) [
        | inl e ↦ wished k e ∙ sym (ap (λ (z : ℕ). get_or (supplied c ys h) z 0) e ∙ get_or-set_same (filling c ys (lane_of c h).shed) (lane_of c h).place (at (filling c ys (lane_of c h).shed) (lane_of c h).place + 1) 0 (omega (arith, long ys, slot, few)) ∙ ap (λ (z : ℕ). at (filling c ys (lane_of c h).shed) z + 1) (sym e))
        | inr ne ↦ unwished k k8 ne ∙ sym (get_or-set_other (filling c ys (lane_of c h).shed) (lane_of c h).place k (at (filling c ys (lane_of c h).shed) (lane_of c h).place + 1) 0 ne)
      ])

-- an application to a lane that ranks the lot
module _ (m : Meaning) (law : Lawful m) (s : Board) (v : Formed s) (i n : ℕ) (e : line_of s i ≡ Looking n) (ranks : has (ranking_of s.book (at (wishes s i) n)) i ≡ true) where
  abbrev c : Contents
  c = s.book

  abbrev h : ℕ
  h = at (wishes s i) n

  abbrev g : ℕ
  g = (lane_of s.book (at (wishes s i) n)).shed

  abbrev H : Offers
  H = holding s

  abbrev O : Offers
  O = asking (holding s) (at (wishes s i) n) i

  abbrev ys : List Line
  ys = set s.lines i (Held (at (wishes s i) n))

  abbrev X : List ℕ
  X = filling s.book (set s.lines i (Held (at (wishes s i) n))) (lane_of s.book (at (wishes s i) n)).shed

  abbrev K : List ℕ
  K = m.choice (shed_of s.book (lane_of s.book (at (wishes s i) n)).shed) (filling s.book (set s.lines i (Held (at (wishes s i) n))) (lane_of s.book (at (wishes s i) n)).shed)

  abbrev p : ℕ → ℕ → Bool
  p = keeps s.book (set s.lines i (Held (at (wishes s i) n))) (lane_of s.book (at (wishes s i) n)).shed (m.choice (shed_of s.book (lane_of s.book (at (wishes s i) n)).shed) (filling s.book (set s.lines i (Held (at (wishes s i) n))) (lane_of s.book (at (wishes s i) n)).shed))

  known : h < length c.lanes
  known = wish_in m law s v i n e

  claims_of : (x l : ℕ) → holds (get_or ys x Absent) l ≡ true → Claims s i x l
  claims_of x l o =
      let asked : asking H h i l x ≡ true = sym (claims m law s v i n e l x) ∙ o in
      elim (cases_Bool (H l x)) [
        | inl t ↦ inl t
        | inr t ↦ inr (eqb-true x i (grind (arith, nat_tests)), ap looks e, ap (λ (y : Line). at (wishes s i) (tried_of y (wishes s i))) e ∙ sym (eqb-true l h (grind (arith, nat_tests))))
      ]

  -- who leaves is not kept at a lane of the shed
  pub record Leaves (x : ℕ) : Type 0 where
    pub lane : ℕ
    pub sits : get_or (set s.lines i (Held (at (wishes s i) n))) x Absent ≡ Held lane
    pub same_shed : (lane_of s.book lane).shed ≡ (lane_of s.book (at (wishes s i) n)).shed
    pub not_kept : p x lane ≡ false

  leaves_at : (x : ℕ) → leaves (p x) (get_or ys x Absent) ≡ true → Leaves x
  leaves_at x q =
      let t = leaves_held (p x) (get_or ys x Absent) q in
      record {
        lane = t.0;
        sits = t.1;
        same_shed = elim (cases_eq (lane_of c t.0).shed g) [
          | inl r ↦ r
          | inr r ↦ absurd (both_ways (p x t.0) t.2 (keeps_there m law s v i n e ranks x t.0 r))
        ];
        not_kept = t.2;
      }

  gone : (x : ℕ) (u : Leaves x) → cleared c m H h i u.lane x ≡ false
  gone x u = ap (λ (z : Bool). elim z [ true ↦ chosen c m O u.lane x | false ↦ H u.lane x ]) (eq-eqb (lane_of c u.lane).shed g u.same_shed) ∙ sym (keeps_here m law s v i n e ranks x u.lane u.same_shed) ∙ u.not_kept

  sits_there : (x : ℕ) (u : Leaves x) → holds (get_or ys x Absent) u.lane ≡ true
  sits_there x u = ap (λ (y : Line). holds y u.lane) u.sits ∙ eq-eqb u.lane u.lane refl

  pub only_one : (x z : ℕ) → leaves (p x) (get_or ys x Absent) ≡ true → leaves (p z) (get_or ys z Absent) ≡ true → x ≡ z
  only_one x z a b =
      let u = leaves_at x a in
      let w = leaves_at z b in
      (same_pair m law s v i n e ranks x z u.lane w.lane (claims_of x u.lane (sits_there x u)) (gone x u) (claims_of z w.lane (sits_there z w)) (gone z w)).1

  -- the search
  abbrev search_at : ℕ → Option ℕ
  search_at = beyond_at s.book (asking (holding s) (at (wishes s i) n) i) (first_lane s.book (lane_of s.book (at (wishes s i) n)).shed) (filling s.book (set s.lines i (Held (at (wishes s i) n))) (lane_of s.book (at (wishes s i) n)).shed) (m.choice (shed_of s.book (lane_of s.book (at (wishes s i) n)).shed) (filling s.book (set s.lines i (Held (at (wishes s i) n))) (lane_of s.book (at (wishes s i) n)).shed))

  here : (lane_of c h).shed < length c.sheds
  here = v.laid.in_shed h known

  kept_as : (x l : ℕ) → (lane_of c l).shed ≡ g → p x l ≡ best (at K (lane_of c l).place) (O l) (ranking_of c l) x
  kept_as x l same =
      ap (λ (z : Bool). elim z [ true ↦ best (at K (lane_of c l).place) (λ r. holds (get_or ys r Absent) l) (ranking_of c l) x | false ↦ true ]) (eq-eqb (lane_of c l).shed g same) ∙
      ap (λ (Q : Offers). best (at K (lane_of c l).place) (Q l) (ranking_of c l) x) (all_claims m law s v i n e)

  found_leaves : (j x : ℕ) → j < lanes (shed_of c g) → search_at j ≡ Some x → leaves (p x) (get_or ys x Absent) ≡ true
  found_leaves j x b q = go (ltb (at K j) (at X j)) q
    where
      go : (t : Bool) → ◌≡◌ {A = Option ℕ} (elim t [ true ↦ beyond (at K j) (O (first_lane c g + j)) (ranking_of c (first_lane c g + j)) | false ↦ None ]) (Some x) → leaves (p x) (get_or ys x Absent) ≡ true
      go false q = cc
      go true q =
          let l : ℕ = first_lane c g + j in
          let stands = lane_stands c v.laid g j here b in
          let t = beyond_some (O l) (ranking_of c l) (at K j) x (v.laid.once l) q in
          leaves_yes (p x) (get_or ys x Absent) l (claims m law s v i n e l x ∙ t.0)
          (kept_as x l stands.0 ∙ ap (λ (z : ℕ). best (at K z) (O l) (ranking_of c l) x) stands.1 ∙ t.1)

  none_leaves : ((j : ℕ) → j < lanes (shed_of c g) → search_at j ≡ None) → (x : ℕ) → leaves (p x) (get_or ys x Absent) ≡ false
  none_leaves none x = elim (cases_Bool (leaves (p x) (get_or ys x Absent))) [
    | inr f ↦ f
    | inl t ↦ absurd (impossible (leaves_at x t))
  ]
    where
      impossible : Leaves x → ⊥
      impossible u =
          let l : ℕ = u.lane in
          let j : ℕ = (lane_of c l).place in
          let asked : O l x ≡ true = sym (claims m law s v i n e l x) ∙ sits_there x u in
          let lk : l < length c.lanes = claim_known m law s v i n e x l (claims_of x l (sits_there x u)) in
          let jn : j < lanes (shed_of c g) = subst (λ (z : ℕ). (lane_of c l).place < lanes (shed_of c z)) u.same_shed (v.laid.stands_on_card l lk) in
          let back : first_lane c g + j ≡ l = ap (λ (z : ℕ). first_lane c z + (lane_of c l).place) (sym u.same_shed) ∙ v.laid.in_order l lk in
          let ranked : has (ranking_of c l) x ≡ true = claims_ranked m law s v i n e ranks l x lk asked in
          let out : best (at K j) (O l) (ranking_of c l) x ≡ false = sym (kept_as x l u.same_shed) ∙ u.not_kept in
          let short = best_short (O l) x asked (ranking_of c l) ranked (at K j) out in
          let supply : at X j ≡ offered (O l) (ranking_of c l) = ap (λ (f : List ℕ). at f j) (same_supply m law s v i n e ranks) ∙ supply_on c v.laid g here O j jn ∙ ap (λ (w : ℕ). offered (O w) (ranking_of c w)) back in
          let fewer : ltb (at K j) (at X j) ≡ true = lt-ltb (at K j) (at X j) (omega arith) in
          let nothing : beyond (at K j) (O l) (ranking_of c l) ≡ None = sym (ap (λ (w : ℕ). beyond (at K j) (O w) (ranking_of c w)) back) ∙ sym (ap (λ (b : Bool). elim b [ true ↦ beyond (at K j) (O (first_lane c g + j)) (ranking_of c (first_lane c g + j)) | false ↦ None ]) fewer) ∙ none j jn in
          both_ways (best (at K j) (O l) (ranking_of c l) x) out (beyond_none (O l) (ranking_of c l) (at K j) nothing x asked ranked)

  pub search_finds : first_of search_at 0 (lanes (shed_of c g)) ≡ leaver p 0 ys
  search_finds = go (first_of search_at 0 (lanes (shed_of c g))) refl (leaver p 0 ys) refl
    where
      go : (a : Option ℕ) → first_of search_at 0 (lanes (shed_of c g)) ≡ a → (b : Option ℕ) → leaver p 0 ys ≡ b → a ≡ b
      go None q None r = refl
      go None q (Some z) r = absurd (both_ways (leaves (p z) (get_or ys z Absent)) (none_leaves (λ j b. first_none search_at 0 (lanes (shed_of c g)) q j (omega arith) (omega arith)) z) (leaver_leaves p ys z r))
      go (Some x) q None r = let t = first_some search_at 0 (lanes (shed_of c g)) x q in absurd (both_ways (leaves (p x) (get_or ys x Absent)) (leaver_none p ys r x) (found_leaves t.0 x (omega (arith, t.2)) t.3))
      go (Some x) q (Some z) r = let t = first_some search_at 0 (lanes (shed_of c g)) x q in ap Some (only_one x z (found_leaves t.0 x (omega (arith, t.2)) t.3) (leaver_leaves p ys z r))

  -- the lines that change
  abbrev F : ℕ → Line → Line
  F x y = stays (wishes s x) (p x) y

  seated_here : get_or ys i Absent ≡ Held h
  seated_here = seated m law s v i n e i ∙ put_here (line_of s) i (Held h)

  seated_there : (x : ℕ) → (x ≡ i → ⊥) → get_or ys x Absent ≡ line_of s x
  seated_there x ne = seated m law s v i n e x ∙ put_there (line_of s) i (Held h) x ne

  in_table : i < length s.lines
  in_table = omega (arith, looks_in m law s v i n e, v.every_line)

  lines_long : length (turned F 0 ys) ≡ length s.lines
  lines_long = length_turned F 0 ys ∙ length-set s.lines i (Held h)

  each : (zs : List Line) → length zs ≡ length s.lines → ((x : ℕ) → F x (get_or ys x Absent) ≡ get_or zs x Absent) → turned F 0 ys ≡ zs
  each zs long same = ext_get_or Absent (turned F 0 ys) zs (lines_long ∙ sym long) (λ x k. get_d_turned_0 F (λ x. refl) ys x ∙ same x)

  taken : noted (wishes s i) (line_of s i) Taken ≡ Held h
  taken = ap (λ (y : Line). noted (wishes s i) y Taken) e

  away : noted (wishes s i) (line_of s i) TurnedAway ≡ next (wishes s i) (suc n)
  away = ap (λ (y : Line). noted (wishes s i) y TurnedAway) e

  staying : (x z : ℕ) → leaves (p x) (get_or ys x Absent) ≡ true → (z ≡ x → ⊥) → F z (get_or ys z Absent) ≡ get_or ys z Absent
  staying x z a ne = stays_all (wishes s z) (p z) (get_or ys z Absent) (elim (cases_Bool (leaves (p z) (get_or ys z Absent))) [ inl b ↦ absurd (ne (only_one z x b a)) | inr b ↦ b ])

  leaves_in : (x : ℕ) → leaves (p x) (get_or ys x Absent) ≡ true → x < length s.lines
  leaves_in x a = elim (cases_lt x (length s.lines)) [
    | inl k ↦ k
    | inr k ↦ absurd (both_ways (leaves (p x) (get_or ys x Absent)) (ap (leaves (p x)) (get_or_past ys x Absent (omega (arith, length-set s.lines i (Held h))))) a)
  ]

  pub lines_moved : (o : Option ℕ) → leaver p 0 ys ≡ o → turned F 0 ys ≡ moved s.lists s.lines i o
  lines_moved None q =
      each (note_in s.lists s.lines i Taken) (length-set s.lines i (noted (wishes s i) (line_of s i) Taken)) (λ x.
      stays_all (wishes s x) (p x) (get_or ys x Absent) (leaver_none p ys q x) ∙ ap (λ (y : Line). get_or (set s.lines i y) x Absent) (sym taken))
  lines_moved (Some x) q = way (eqb x i) refl
    where
      out : leaves (p x) (get_or ys x Absent) ≡ true
      out = leaver_leaves p ys x q

      way : (b : Bool) → eqb x i ≡ b → turned F 0 ys ≡ elim b [ true ↦ note_in s.lists s.lines i TurnedAway | false ↦ note_in s.lists (note_in s.lists s.lines x Dropped) i Taken ]
      way true b =
          let same : x ≡ i = eqb-true x i b in
          each (note_in s.lists s.lines i TurnedAway) (length-set s.lines i (noted (wishes s i) (line_of s i) TurnedAway)) (λ z. elim (cases_eq z i) [
            | inl r ↦
                ap (λ (z : ℕ). F z (get_or ys z Absent)) (r ∙ sym same) ∙
                stays_dropped (wishes s x) (p x) (get_or ys x Absent) out ∙
                ap (λ (z : ℕ). noted (wishes s z) (get_or ys z Absent) Dropped) same ∙
                ap (λ (y : Line). noted (wishes s i) y Dropped) seated_here ∙
                ap (λ (k : ℕ). next (wishes s i) (suc k)) (place_apart (wishes s i) (v.once i) n (room m law s v i n e)) ∙
                sym (ap (λ (z : ℕ). get_or (note_in s.lists s.lines i TurnedAway) z Absent) r ∙ get_or-set_same s.lines i (noted (wishes s i) (line_of s i) TurnedAway) Absent in_table ∙ away)
            | inr r ↦
                staying x z out (λ k. r (k ∙ same)) ∙ seated_there z r ∙ sym (get_or-set_other s.lines i z (noted (wishes s i) (line_of s i) TurnedAway) Absent r)
          ])
      way false b =
          let other : x ≡ i → ⊥ = λ k. both_ways (eqb x i) b (eq-eqb x i k) in
          let zs : List Line = note_in s.lists s.lines x Dropped in
          let zs-long : length zs ≡ length s.lines = length-set s.lines x (noted (wishes s x) (line_of s x) Dropped) in
          let unmoved : get_or zs i Absent ≡ line_of s i = get_or-set_other s.lines x i (noted (wishes s x) (line_of s x) Dropped) Absent (λ k. other (sym k)) in
          let last : noted (wishes s i) (get_or zs i Absent) Taken ≡ Held h = ap (λ (y : Line). noted (wishes s i) y Taken) unmoved ∙ taken in
          each (note_in s.lists zs i Taken) (length-set zs i (noted (wishes s i) (get_or zs i Absent) Taken) ∙ zs-long) (λ z. elim (cases_eq z i) [
            | inl r ↦
                staying x z out (λ k. other (sym k ∙ r)) ∙ ap (λ (z : ℕ). get_or ys z Absent) r ∙ seated_here ∙
                sym (ap (λ (z : ℕ). get_or (note_in s.lists zs i Taken) z Absent) r ∙ get_or-set_same zs i (noted (wishes s i) (get_or zs i Absent) Taken) Absent (omega (arith, zs-long, in_table)) ∙ last)
            | inr r ↦ elim (cases_eq z x) [
              | inl k ↦
                  ap (λ (z : ℕ). F z (get_or ys z Absent)) k ∙ stays_dropped (wishes s x) (p x) (get_or ys x Absent) out ∙ ap (λ (y : Line). noted (wishes s x) y Dropped) (seated_there x other) ∙
                  sym (get_or-set_other zs i z (noted (wishes s i) (get_or zs i Absent) Taken) Absent r ∙ ap (λ (z : ℕ). get_or zs z Absent) k ∙ get_or-set_same s.lines x (noted (wishes s x) (line_of s x) Dropped) Absent (leaves_in x out))
              | inr k ↦
                  staying x z out k ∙ seated_there z r ∙
                  sym (get_or-set_other zs i z (noted (wishes s i) (get_or zs i Absent) Taken) Absent r ∙ get_or-set_other s.lines x z (noted (wishes s x) (line_of s x) Dropped) Absent k)
            ]
          ])
