-- Counting over the lines and counting along a ranking.
use Rattle.std.proofs.Common.{◌≡◌, ℕ, zero, suc, ◌+◌, ◌<◌, Bool, true, false, cond, eqb, ltb, List, [], ◌∷◌, map, length, get_or, count_by, sym, refl, ap, ◌∙◌, inl, inr, arith}
use Rattle.std.specs.List.{range_with_len}
use Rattle.std.proofs.lemmas.List.{ext_get_or}
use Rattle.std.proofs.lemmas.List.Sums.{sum_by-cons}
use Rattle.std.proofs.lemmas.List.FromFn.{get_or-map-range_with_len, length-map-range_with_len}
use Rattle.std.proofs.lemmas.Bool.Decides.{nat_tests}
use Rattle.std.proofs.lemmas.Bool.{cases_Bool, cases_eq, cases_lt, lt-ltb, le-ltb}
use Rattle.sharing.specs.Rules.{lanes}
use Rattle.books.specs.Lanes.{has, distinct, all_below}
use Rattle.books.specs.Contents.{Contents, ranking_of}
use Rattle.books.specs.Laid.{Laid, shed_of, first_lane}
use Rattle.books.proofs.Laid.{lane_at_place}
use Rattle.matching.specs.Offers.{offered, supply_of}
use Rattle.matching.proofs.Best.{offered_same}
use Rattle.boards.specs.declared.line.Line.{Line}
use Rattle.boards.specs.declared.line.Line.TheVariants.{Absent}
use Rattle.boards.specs.Lines.{holds}
use Rattle.boards.specs.Boards.{held, filling}

-- how many numbers below n pass
abbrev pub up_to : (ℕ → Bool) → ℕ → ℕ
up_to f zero = 0
up_to f (suc n) = elim (f 0) [ true ↦ suc (up_to (λ x. f (suc x)) n) | false ↦ up_to (λ x. f (suc x)) n ]

count_up_to : (p : Line → Bool) (ys : List Line) → count_by p ys ≡ up_to (λ x. p (get_or ys x Absent)) (length ys)
count_up_to p [] = refl
count_up_to p (y ∷ ys) = sum_by-cons (λ x. cond (p x) 1 0) y ys ∙ step (p y) (count_by p ys) (up_to (λ x. p (get_or ys x Absent)) (length ys)) (count_up_to p ys)
  where
    step : (b : Bool) (m n : ℕ) → m ≡ n → cond b 1 0 + m ≡ elim b [ true ↦ suc n | false ↦ n ]
    step true m n e = omega arith
    step false m n e = omega arith

up_to_same : (f g : ℕ → Bool) (n : ℕ) → ((x : ℕ) → x < n → f x ≡ g x) → up_to f n ≡ up_to g n
up_to_same f g zero h = refl
up_to_same f g (suc n) h = let t = up_to_same (λ x. f (suc x)) (λ x. g (suc x)) n (λ x k. h (suc x) (omega arith)) in let u = h 0 (omega arith) in grind (arith, nat_tests)

up_to_none : (f : ℕ → Bool) (n : ℕ) → ((x : ℕ) → x < n → f x ≡ false) → up_to f n ≡ 0
up_to_none f zero h = refl
up_to_none f (suc n) h = let t = up_to_none (λ x. f (suc x)) n (λ x k. h (suc x) (omega arith)) in let u = h 0 (omega arith) in grind (arith, nat_tests)

-- two tests that differ at r alone
up_to_one : (f g : ℕ → Bool) (n r : ℕ) → r < n → f r ≡ true → g r ≡ false → ((x : ℕ) → (x ≡ r → ⊥) → f x ≡ g x) → up_to f n ≡ suc (up_to g n)
up_to_one f g zero r l a c h = absurd (omega arith)
up_to_one f g (suc n) zero l a c h = let t = up_to_same (λ x. f (suc x)) (λ x. g (suc x)) n (λ x k. h (suc x) (λ e. omega arith)) in grind (arith, nat_tests)
up_to_one f g (suc n) (suc r) l a c h =
    let t = up_to_one (λ x. f (suc x)) (λ x. g (suc x)) n r (omega arith) a c (λ x k. h (suc x) (λ e. k (omega arith))) in
    let u = h 0 (λ e. omega arith) in grind (arith, nat_tests)

abbrev without : (ℕ → Bool) → ℕ → ℕ → Bool
without f r x = elim (eqb r x) [ true ↦ false | false ↦ f x ]

pub up_to_ranking : (n : ℕ) (R : List ℕ) → distinct R ≡ true → all_below n R ≡ true → (f : ℕ → Bool) → ((x : ℕ) → x < n → f x ≡ true → has R x ≡ true) → up_to f n ≡ offered f R
up_to_ranking n [] d a f h = up_to_none f n (λ x l. elim (cases_Bool (f x)) [ inl e ↦ absurd (let z = h x l e in grind (arith, nat_tests)) | inr e ↦ e ])
up_to_ranking n (r ∷ R) d a f h =
    let dr : has R r ≡ false = grind (arith, nat_tests) in
    let t = up_to_ranking n R (grind (arith, nat_tests)) (grind (arith, nat_tests)) (without f r) (λ x l e. let z = h x l (grind (arith, nat_tests)) in grind (arith, nat_tests)) in
    let s = offered_same f (without f r) R (λ i k. elim (cases_eq r i) [ inl e ↦ absurd (let z : has R r ≡ true = rw e k in grind (arith, nat_tests)) | inr e ↦ grind (arith, nat_tests) ]) in
    let rn : r < n = grind (arith, nat_tests) in
    elim (cases_Bool (f r)) [
      | inl e ↦ let u = up_to_one f (without f r) n r rn e (grind (arith, nat_tests)) (λ x k. grind (arith, nat_tests)) in grind (arith, nat_tests)
      | inr e ↦ let u = up_to_same f (without f r) n (λ x k. elim (cases_eq r x) [ inl q ↦ let z : f x ≡ false = rw q at e in grind (arith, nat_tests) | inr q ↦ grind (arith, nat_tests) ]) in grind (arith, nat_tests)
    ]

-- over the lines or along the ranking: the same lots
pub held_offered : (ys : List Line) → length ys ≡ 256 → (R : List ℕ) → distinct R ≡ true → all_below 256 R ≡ true → (l : ℕ) → ((x : ℕ) → holds (get_or ys x Absent) l ≡ true → has R x ≡ true) → held l ys ≡ offered (λ x. holds (get_or ys x Absent) l) R
held_offered ys long R d a l h =
    count_up_to (λ y. holds y l) ys ∙ ap (up_to (λ x. holds (get_or ys x Absent) l)) long ∙ up_to_ranking 256 R d a (λ x. holds (get_or ys x Absent) l) (λ x _. h x)

pub map_same : (f g : ℕ → ℕ) (n : ℕ) → ((k : ℕ) → k < n → f k ≡ g k) → map f (range_with_len 0 n) ≡ map g (range_with_len 0 n)
map_same f g n h =
    ext_get_or 0 (map f (range_with_len 0 n)) (map g (range_with_len 0 n)) (length-map-range_with_len f 0 n ∙ sym (length-map-range_with_len g 0 n))
    (λ i k. let l : i < n = omega (arith, length-map-range_with_len f 0 n) in
    get_or-map-range_with_len f 0 n i i 0 l (omega arith) ∙ h i l ∙ sym (get_or-map-range_with_len g 0 n i i 0 l (omega arith)))

-- so the filling of a shed is the supply of what its lanes hold
pub filling_supply : (c : Contents) → Laid c → (ys : List Line) → length ys ≡ 256 → (g : ℕ) → g < length c.sheds → ((l x : ℕ) → l < length c.lanes → holds (get_or ys x Absent) l ≡ true → has (ranking_of c l) x ≡ true) → filling c ys g ≡ supply_of c (λ l x. holds (get_or ys x Absent) l) g
filling_supply c laid ys long g here ranked =
    map_same (λ k. elim (ltb k (lanes (shed_of c g))) [ true ↦ held (first_lane c g + k) ys | false ↦ 0 ])
    (λ k. elim (ltb k (lanes (shed_of c g))) [ true ↦ offered (λ x. holds (get_or ys x Absent) (first_lane c g + k)) (ranking_of c (first_lane c g + k)) | false ↦ 0 ]) 8
    (λ k _. same k)
  where
    same : (k : ℕ) → ◌≡◌ {A = ℕ} (elim (ltb k (lanes (shed_of c g))) [ true ↦ held (first_lane c g + k) ys | false ↦ 0 ]) (elim (ltb k (lanes (shed_of c g))) [ true ↦ offered (λ x. holds (get_or ys x Absent) (first_lane c g + k)) (ranking_of c (first_lane c g + k)) | false ↦ 0 ])
    same k =
        elim (cases_lt k (lanes (shed_of c g))) [
          | inl h ↦
              let l : ℕ = first_lane c g + k in
              let e = held_offered ys long (ranking_of c l) (laid.once l) (laid.lots l) l (λ x. ranked l x (lane_at_place c laid g k here h)) in
              let b = lt-ltb k (lanes (shed_of c g)) h in
              ap {B = ℕ} (λ (z : Bool). elim z [ true ↦ held l ys | false ↦ 0 ]) b ∙ e ∙ sym (ap {B = ℕ} (λ (z : Bool). elim z [ true ↦ offered (λ x. holds (get_or ys x Absent) l) (ranking_of c l) | false ↦ 0 ]) b)
          | inr h ↦
              let l : ℕ = first_lane c g + k in
              let b = le-ltb k (lanes (shed_of c g)) h in
              ap {B = ℕ} (λ (z : Bool). elim z [ true ↦ held l ys | false ↦ 0 ]) b ∙ sym (ap {B = ℕ} (λ (z : Bool). elim z [ true ↦ offered (λ x. holds (get_or ys x Absent) l) (ranking_of c l) | false ↦ 0 ]) b)
        ]
