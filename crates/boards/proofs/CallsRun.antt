-- Lists of calls: what every round has, and that it stands.
use Rattle.std.proofs.Common.{◌≡◌, ℕ, zero, suc, ◌+◌, ◌-◌, ◌*◌, ◌<◌, ◌≤◌, Bool, true, false, cond, ltb, List, [], ◌∷◌, ◌++◌, length, get_or, set, is_some, Some, None, Ok, Err, Option, Result, sym, refl, ap, ◌∙◌, subst, inl, inr, arith}
use Rattle.std.proofs.lemmas.List.Sums.{sum_by-cons}
use Rattle.std.proofs.lemmas.Bool.Decides.{nat_tests}
use Rattle.std.proofs.lemmas.Bool.{cases_eq, both_ways, eq-eqb, ne_eqb, ltb-true}
use Rattle.sheets.specs.declared.fault.Fault.{Fault}
use Rattle.sharing.specs.Rules.{at, sum_to, Meaning, Lawful}
use Rattle.sharing.specs.Sums.{sum_mono}
use Rattle.books.specs.Lanes.{has, all_below}
use Rattle.books.specs.Contents.{Contents, lane_of, ranking_of}
use Rattle.books.specs.Laid.{Laid}
use Rattle.matching.specs.Offers.{asking, chosen, cleared}
use Rattle.matching.proofs.Ones.{at_most_one_goes}
use Rattle.matching.proofs.Orders.{settled_is_least}
use Rattle.matching.proofs.Sheds.{choosing}
use Rattle.boards.specs.declared.line.Line.{Line}
use Rattle.boards.specs.declared.line.Line.TheVariants.{Absent, Looking, Held, Spent}
use Rattle.boards.specs.declared.outcome.Outcome.{Outcome}
use Rattle.boards.specs.Lines.{looks, tried_of, wishes_of, lowest}
use Rattle.boards.specs.Slips.{Lists, list_at}
use Rattle.boards.specs.Boards.{Board, line_of, wishes, holding, tried, begun, entered, slip_of, enter, ask, turn_away, apply_to, applied, board_of, apply, settle_for, all_wishes, settle}
use Rattle.boards.specs.Formed.{Formed}
use Rattle.boards.specs.Calls.{Call, enters, applies, settles, call, calls, after, listed, accepts, Stand, Reached, EveryRun, GoesOn, SettlesLeast, entered_lots, Claims, AtMostOneGoes, Quiet}
use Rattle.boards.proofs.BoardLines.{tried_within, held_last, held_on_list, looking}
use Rattle.boards.proofs.FormedApplies.{wish_in, free, step_asked, step_away, apply_formed, apply_stands}
use Rattle.boards.proofs.FormedEnters.{entering_ok, begun_formed, begun_stands, enter_formed, enter_stands}

-- the lowest looking lot looks
lowest_looks : (ys : List Line) (k i : ℕ) → lowest k ys ≡ Some i → (j : ℕ) × (i ≡ k + j) × (looks (get_or ys j Absent) ≡ true)
lowest_looks [] k i e = cc
lowest_looks (y ∷ ys) k i e = go (λ q. lowest_looks ys (suc k) i q) (looks y) refl e
  where
    go : (lowest (suc k) ys ≡ Some i → (j : ℕ) × (i ≡ suc k + j) × (looks (get_or ys j Absent) ≡ true)) → (p : Bool) → looks y ≡ p → ◌≡◌ {A = Option ℕ} (elim p [ true ↦ Some k | false ↦ lowest (suc k) ys ]) (Some i) → (j : ℕ) × (i ≡ k + j) × (looks (get_or (y ∷ ys) j Absent) ≡ true)
    go rest true q e = let same : k ≡ i = cc in (0, omega arith, q)
    go rest false q e = let r = rest e in (suc r.0, omega (arith, r.1), r.2)

pub lowest_is : (ys : List Line) (i : ℕ) → lowest 0 ys ≡ Some i → looks (get_or ys i Absent) ≡ true
lowest_is ys i e = let r = lowest_looks ys 0 i e in subst (λ (k : ℕ). looks (get_or ys k Absent) ≡ true) (let z : r.0 ≡ i = omega (arith, r.1) in z) r.2

pub lowest_none : (ys : List Line) (k : ℕ) → lowest k ys ≡ None → (i : ℕ) → looks (get_or ys i Absent) ≡ false
lowest_none [] k e i = refl
lowest_none (y ∷ ys) k e i = go (λ q. lowest_none ys (suc k) q) (looks y) refl e i
  where
    go : (lowest (suc k) ys ≡ None → (i : ℕ) → looks (get_or ys i Absent) ≡ false) → (p : Bool) → looks y ≡ p → ◌≡◌ {A = Option ℕ} (elim p [ true ↦ Some k | false ↦ lowest (suc k) ys ]) None → (i : ℕ) → looks (get_or (y ∷ ys) i Absent) ≡ false
    go rest true q e i = cc
    go rest false q e zero = q
    go rest false q e (suc i) = rest e i

pub below_has : (n : ℕ) (xs : List ℕ) → all_below n xs ≡ true → (l : ℕ) → has xs l ≡ true → l < n
below_has n [] a l h = absurd (grind (arith, nat_tests))
below_has n (x ∷ xs) a l h =
    elim (cases_eq x l) [
      | inl e ↦ let b : ltb x n ≡ true = grind (arith, nat_tests) in subst (λ (z : ℕ). z < n) e (ltb-true x n b)
      | inr e ↦ let ne = ne_eqb x l e in below_has n xs (grind (arith, nat_tests)) l (grind (arith, nat_tests))
    ]

pub held_known : (s : Board) → Formed s → (l x : ℕ) → holding s l x ≡ true → l < length s.book.lanes
held_known s v l x o = below_has (length s.book.lanes) (wishes s x) (v.known x) l (held_on_list (line_of s x) (list_at s.lists x) (v.fit_lists x) l o)

module _ (m : Meaning) (law : Lawful m) where
  -- applying
  pub apply_keeps : (s : Board) → Formed s → (i : ℕ) → Formed (apply m s i) × (Stand m s → Stand m (apply m s i))
  apply_keeps s v i = go (line_of s i) refl
    where
      go : (y : Line) → line_of s i ≡ y → Formed (board_of s (applied m s i y)) × (Stand m s → Stand m (board_of s (applied m s i y)))
      go Absent e = (v, λ st. st)
      go (Looking n) e = (apply_formed m law s v i n e, apply_stands m law s v i n e)
      go (Held l) e = (v, λ st. st)
      go Spent e = (v, λ st. st)

  -- entering
  pub enter_keeps : (s : Board) → Formed s → (ws : List ℕ) → Formed (enter s ws) × (Stand m s → Stand m (enter s ws))
  enter_keeps s v ws = go (slip_of s ws) refl
    where
      go : (r : Result (ℕ × List ℕ) Fault) → slip_of s ws ≡ r → Formed (entered s r) × (Stand m s → Stand m (entered s r))
      go (Err f) e = (v, λ st. st)
      go (Ok p) e =
          let ok = entering_ok (length s.book.lanes) s.lists ws p e in
          (enter_formed s v p.0 p.1 ok, enter_stands s v p.0 p.1 ok m law)

  -- settling
  pub settle_keeps : (k : ℕ) (s : Board) → Formed s → Formed (settle_for m k s) × (Stand m s → Stand m (settle_for m k s))
  settle_keeps zero s v = (v, λ st. st)
  settle_keeps (suc k) s v = go (λ i. settle_keeps k (apply m s i) (apply_keeps s v i).0) (lowest 0 s.lines)
    where
      go : ((i : ℕ) → Formed (settle_for m k (apply m s i)) × (Stand m (apply m s i) → Stand m (settle_for m k (apply m s i)))) → (o : Option ℕ) →
          Formed (elim o [ None ↦ s | Some i ↦ settle_for m k (apply m s i) ]) × (Stand m s → Stand m (elim o [ None ↦ s | Some i ↦ settle_for m k (apply m s i) ]))
      go rest None = (v, λ st. st)
      go rest (Some i) = ((rest i).0, λ st. (rest i).1 ((apply_keeps s v i).1 st))

  pub call_keeps : (s : Board) → Formed s → (k : Call) → Formed (call m s k) × (Stand m s → Stand m (call m s k))
  call_keeps s v (enters ws) = enter_keeps s v ws
  call_keeps s v (applies i) = apply_keeps s v i
  call_keeps s v settles = settle_keeps (all_wishes s.lists) s v

  pub calls_keep : (ks : List Call) (s : Board) → Formed s → Formed (calls m s ks) × (Stand m s → Stand m (calls m s ks))
  calls_keep [] s v = (v, λ st. st)
  calls_keep (k ∷ ks) s v = let here = call_keeps s v k in let rest = calls_keep ks (call m s k) here.0 in (rest.0, λ st. rest.1 (here.1 st))

-- the book stays, and the lists are those that were accepted
pub apply_lists : (m : Meaning) (s : Board) (i : ℕ) → ((apply m s i).book ≡ s.book) × ((apply m s i).lists ≡ s.lists)
apply_lists m s i = go (line_of s i)
  where
    to : (h : ℕ) → ((apply_to m s i h).1.book ≡ s.book) × ((apply_to m s i h).1.lists ≡ s.lists)
    to h = way (has (ranking_of s.book h) i)
      where
        pick : Bool → Outcome × Board
        pick p = elim p [ true ↦ ask m s i h (set s.lines i (Held h)) (lane_of s.book h).shed | false ↦ turn_away s i ]

        way : (p : Bool) → ((pick p).1.book ≡ s.book) × ((pick p).1.lists ≡ s.lists)
        way true = (refl, refl)
        way false = (refl, refl)

    go : (y : Line) → ((board_of s (applied m s i y)).book ≡ s.book) × ((board_of s (applied m s i y)).lists ≡ s.lists)
    go Absent = (refl, refl)
    go (Looking n) = to (at (wishes s i) n)
    go (Held l) = (refl, refl)
    go Spent = (refl, refl)

abbrev Same : Board → Board → Type 0
Same s t = (t.book ≡ s.book) × (t.lists ≡ s.lists)

pub settle_lists : (m : Meaning) (k : ℕ) (s : Board) → ((settle_for m k s).book ≡ s.book) × ((settle_for m k s).lists ≡ s.lists)
settle_lists m zero s = (refl, refl)
settle_lists m (suc k) s = go (λ i. settle_lists m k (apply m s i)) (lowest 0 s.lines)
  where
    go : ((i : ℕ) → Same (apply m s i) (settle_for m k (apply m s i))) → (o : Option ℕ) → Same s (elim o [ None ↦ s | Some i ↦ settle_for m k (apply m s i) ])
    go rest None = (refl, refl)
    go rest (Some i) = ((rest i).0 ∙ (apply_lists m s i).0, (rest i).1 ∙ (apply_lists m s i).1)

entered_lists : (s : Board) (r : Result (ℕ × List ℕ) Fault) → ((entered s r).book ≡ s.book) × ((entered s r).lists ≡ listed s.lists r)
entered_lists s (Err f) = (refl, refl)
entered_lists s (Ok p) = (refl, refl)

pub calls_accept : (m : Meaning) (ks : List Call) (s : Board) → ((calls m s ks).book ≡ s.book) × ((calls m s ks).lists ≡ accepts (length s.book.lanes) s.lists ks)
calls_accept m [] s = (refl, refl)
calls_accept m (enters ws ∷ ks) s =
    let rest = calls_accept m ks (enter s ws) in
    let here = entered_lists s (slip_of s ws) in (
      rest.0 ∙ here.0,
      rest.1 ∙ ap (λ (c : Contents). accepts (length c.lanes) (enter s ws).lists ks) here.0 ∙ ap (λ (ls : Lists). accepts (length s.book.lanes) ls ks) here.1,
    )
calls_accept m (applies i ∷ ks) s =
    let rest = calls_accept m ks (apply m s i) in
    let here = apply_lists m s i in (
      rest.0 ∙ here.0,
      rest.1 ∙ ap (λ (c : Contents). accepts (length c.lanes) (apply m s i).lists ks) here.0 ∙ ap (λ (ls : Lists). accepts (length s.book.lanes) ls ks) here.1,
    )
calls_accept m (settles ∷ ks) s =
    let rest = calls_accept m ks (settle m s) in
    let here = settle_lists m (all_wishes s.lists) s in (
      rest.0 ∙ here.0,
      rest.1 ∙ ap (λ (c : Contents). accepts (length c.lanes) (settle m s).lists ks) here.0 ∙ ap (λ (ls : Lists). accepts (length s.book.lanes) ls ks) here.1,
    )

-- every list of calls
pub every_run : (c : Contents) (m : Meaning) → Laid c → Lawful m → EveryRun c m
every_run c m laid law ks =
    let keep = calls_keep m law ks (begun c) (begun_formed c laid) in
    let lists = calls_accept m ks (begun c) in
    record {
      runs = refl;
      same_book = lists.0;
      accepted_lists = lists.1;
      formed = keep.0;
      stand = keep.1 (begun_stands c laid m law);
    }

-- one call more
pub calls_more : (m : Meaning) (ks : List Call) (k : Call) (s : Board) → calls m s (ks ++ k ∷ []) ≡ call m (calls m s ks) k
calls_more m [] k s = refl
calls_more m (j ∷ ks) k s = calls_more m ks k (call m s j)

pub goes_on : (m : Meaning) → Lawful m → (s : Board) → Laid s.book → (k : Call) (t : Board) → t ≡ call m s k → GoesOn m s k t
goes_on m law s laid k t is ks e =
    let same : t ≡ after s.book m (ks ++ k ∷ []) = is ∙ ap (λ (z : Board). call m z k) e ∙ sym (calls_more m ks k (begun s.book)) in
    subst (Reached s.book m (ks ++ k ∷ [])) (sym same) (every_run s.book m laid law (ks ++ k ∷ []))

-- settling ends: the count of applications has a bound, and each application raises it
all_wishes_sum : (ls : Lists) → all_wishes ls ≡ sum_to (λ x. length (wishes_of (list_at ls x))) (length ls)
all_wishes_sum ls = sum_front ls
  where
    shift : (f : ℕ → ℕ) (n : ℕ) → sum_to f (suc n) ≡ f 0 + sum_to (λ x. f (suc x)) n
    shift f zero = refl
    shift f (suc n) = omega (arith, shift f n)

    sum_front : (ls : Lists) → all_wishes ls ≡ sum_to (λ x. length (wishes_of (list_at ls x))) (length ls)
    sum_front [] = refl
    sum_front (o ∷ os) = omega (arith, sum_front os, shift (λ x. length (wishes_of (list_at (o ∷ os) x))) (length os))

-- by variables, since a sum up to 256 would be computed
joins : (k s u w : ℕ) → k ≡ s → s ≤ u → w ≡ u → k ≤ w
joins k s u w p q r = omega arith

pub count_bound : (s : Board) → Formed s → s.count ≤ all_wishes s.lists
count_bound s v =
    joins s.count (sum_to (tried s) 256) (sum_to (λ x. length (wishes s x)) 256) (all_wishes s.lists)
    v.counted
    (sum_mono (tried s) (λ x. length (wishes s x)) 256 (λ x h. tried_within (line_of s x) (list_at s.lists x) (v.fit_lists x)))
    (all_wishes_sum s.lists ∙ ap (sum_to (λ x. length (wishes s x))) v.every_list)

module _ (m : Meaning) (law : Lawful m) where
  pub count_more : (s : Board) (i : ℕ) → looks (line_of s i) ≡ true → (apply m s i).count ≡ suc s.count
  count_more s i e = let n = looking (line_of s i) e in ap (λ (y : Line). (board_of s (applied m s i y)).count) n.1 ∙ to (at (wishes s i) n.0)
    where
      to : (h : ℕ) → (apply_to m s i h).1.count ≡ suc s.count
      to h = way (has (ranking_of s.book h) i)
        where
          pick : Bool → Outcome × Board
          pick p = elim p [ true ↦ ask m s i h (set s.lines i (Held h)) (lane_of s.book h).shed | false ↦ turn_away s i ]

          way : (p : Bool) → (pick p).1.count ≡ suc s.count
          way true = refl
          way false = refl

  pub settle_ends : (k : ℕ) (s : Board) → Formed s → all_wishes s.lists ≤ s.count + k → Quiet (settle_for m k s)
  settle_ends zero s v h = go (lowest 0 s.lines) refl
    where
      go : (o : Option ℕ) → lowest 0 s.lines ≡ o → Quiet s
      go None e = lowest_none s.lines 0 e
      go (Some i) e = absurd (omega (arith, count_more s i (lowest_is s.lines i e), count_bound (apply m s i) (apply_keeps m law s v i).0, ap all_wishes (apply_lists m s i).1))
  settle_ends (suc k) s v h = go (λ i. settle_ends k (apply m s i) (apply_keeps m law s v i).0) (lowest 0 s.lines) refl
    where
      go : ((i : ℕ) → all_wishes (apply m s i).lists ≤ (apply m s i).count + k → Quiet (settle_for m k (apply m s i))) → (o : Option ℕ) → lowest 0 s.lines ≡ o → Quiet (elim o [ None ↦ s | Some i ↦ settle_for m k (apply m s i) ])
      go rest None e = lowest_none s.lines 0 e
      go rest (Some i) e = rest i (omega (arith, count_more s i (lowest_is s.lines i e), ap all_wishes (apply_lists m s i).1))

  pub settled_quiet : (s : Board) → Formed s → Quiet (settle m s)
  settled_quiet s v = settle_ends (all_wishes s.lists) s v (omega arith)

  -- at most one goes
  module _ (s : Board) (v : Formed s) (i n : ℕ) (e : line_of s i ≡ Looking n) where
    abbrev h : ℕ
    h = at (wishes s i) n

    claimed : (x l : ℕ) → Claims s i x l → asking (holding s) h i l x ≡ true
    claimed x l k = elim k [
      | inl o ↦ grind (arith, nat_tests)
      | inr p ↦
          let q = eq-eqb x i p.0 in
          let r = eq-eqb l h (sym p.2 ∙ ap (λ (y : Line). at (wishes s i) (tried_of y (wishes s i))) e) in
          grind (arith, nat_tests)
    ]

    pub claim_known : (x l : ℕ) → Claims s i x l → l < length s.book.lanes
    claim_known x l k = elim k [
      | inl o ↦ held_known s v l x o
      | inr p ↦ subst (λ (z : ℕ). z < length s.book.lanes) (sym (ap (λ (y : Line). at (wishes s i) (tried_of y (wishes s i))) e) ∙ p.2) (wish_in m law s v i n e)
    ]

    -- the wished lane ranks the lot: who goes was not chosen, in that shed
    module _ (ranks : has (ranking_of s.book (at (wishes s i) n)) i ≡ true) where
      gone : (x l : ℕ) → Claims s i x l → cleared s.book m (holding s) h i l x ≡ false → ((lane_of s.book l).shed ≡ (lane_of s.book h).shed) × (chosen s.book m (asking (holding s) h i) l x ≡ false)
      gone x l k f =
          elim (cases_eq (lane_of s.book l).shed (lane_of s.book h).shed) [
            | inl same ↦ (same, sym (ap (λ (z : Bool). elim z [ true ↦ chosen s.book m (asking (holding s) h i) l x | false ↦ holding s l x ]) (eq-eqb (lane_of s.book l).shed (lane_of s.book h).shed same)) ∙ f)
            | inr other ↦
                let o : holding s l x ≡ false = sym (ap (λ (z : Bool). elim z [ true ↦ chosen s.book m (asking (holding s) h i) l x | false ↦ holding s l x ]) (ne_eqb (lane_of s.book l).shed (lane_of s.book h).shed other)) ∙ f in
                let ne = ne_eqb l h (λ q. other (ap (λ (z : ℕ). (lane_of s.book z).shed) q)) in
                let c = claimed x l k in
                absurd (both_ways (asking (holding s) h i l x) (grind (arith, nat_tests)) c)
          ]

      pub same_pair : (x y l k : ℕ) → Claims s i x l → cleared s.book m (holding s) (at (wishes s i) n) i l x ≡ false → Claims s i y k → cleared s.book m (holding s) (at (wishes s i) n) i k y ≡ false → (l ≡ k) × (x ≡ y)
      same_pair x y l k cx fx cy fy =
          let gx = gone x l cx fx in
          let gy = gone y k cy fy in
          at_most_one_goes s.book m v.laid law (holding s) v.fits h i (wish_in m law s v i n e) ranks (free m law s v i n e h) l x k y (claim_known x l cx) (claim_known y k cy) gx.0 gy.0 (claimed x l cx) gx.1 (claimed y k cy) gy.1

    alone : (x l : ℕ) → Claims s i x l → holding s l x ≡ false → x ≡ i
    alone x l k f = elim k [ inl o ↦ absurd (both_ways (holding s l x) f o) | inr p ↦ p.0 ]

    one_goes_looking : AtMostOneGoes s i (apply_to m s i (at (wishes s i) n)).1
    one_goes_looking = go (has (ranking_of s.book h) i) refl
      where
        pick : Bool → Outcome × Board
        pick p = elim p [ true ↦ ask m s i h (set s.lines i (Held h)) (lane_of s.book h).shed | false ↦ turn_away s i ]

        go : (p : Bool) → has (ranking_of s.book h) i ≡ p → AtMostOneGoes s i (pick p).1
        go true r x y l k cx fx cy fy =
            let st = step_asked m law s v i n e r in
            (same_pair r x y l k cx (sym (st.holds_now l x) ∙ fx) cy (sym (st.holds_now k y) ∙ fy)).1
        go false r x y l k cx fx cy fy =
            let st = step_away m law s v i n e in
            alone x l cx (sym (st.holds_now l x) ∙ fx) ∙ sym (alone y k cy (sym (st.holds_now k y) ∙ fy))

  pub one_goes : (s : Board) → Formed s → (i : ℕ) → AtMostOneGoes s i (apply m s i)
  one_goes s v i = go (line_of s i) refl
    where
      still : (y : Line) → line_of s i ≡ y → looks y ≡ false → (x l : ℕ) → Claims s i x l → holding s l x ≡ false → ⊥
      still y e q x l k f = elim k [
        | inl o ↦ both_ways (holding s l x) f o
        | inr p ↦ both_ways (looks (line_of s i)) (ap looks e ∙ q) p.1
      ]

      go : (y : Line) → line_of s i ≡ y → AtMostOneGoes s i (board_of s (applied m s i y))
      go Absent e x z l k cx fx cz fz = absurd (still Absent e refl x l cx fx)
      go (Looking n) e x z l k cx fx cz fz = one_goes_looking s v i n e x z l k cx fx cz fz
      go (Held w) e x z l k cx fx cz fz = absurd (still (Held w) e refl x l cx fx)
      go Spent e x z l k cx fx cz fz = absurd (still Spent e refl x l cx fx)

  -- a settled round that calls have led to has tried the least closed vector
  pub settles_least : (s : Board) → Formed s → SettlesLeast m s (settle m s)
  settles_least s v ks e =
      let t : Board = settle m s in
      let k = settle_keeps m law (all_wishes s.lists) s v in
      let u : Formed t = k.0 in
      let stand : Stand m t = k.1 (subst (Stand m) (sym e) (every_run s.book m v.laid law ks).stand) in
      let quiet = settled_quiet s v in
      settled_is_least (length t.book.lanes) (λ l. (lane_of t.book l).shed) (ranking_of t.book) (chosen t.book m) (choosing t.book m u.laid law) (wishes t) (tried t) (holding t)
      (record { known = u.known; once = u.once }) stand
      (λ i h. let last = held_last (line_of t i) (list_at t.lists i) (u.fit_lists i) (quiet i) h in (last.0, last.1 (tried t i - 1) (omega (arith, last.0))))

-- at most 12 applications for each entered lot
pub all_wishes_few : (ls : Lists) → ((i : ℕ) → length (wishes_of (list_at ls i)) ≤ 12) → all_wishes ls ≤ 12 * entered_lots ls
all_wishes_few [] h = omega arith
all_wishes_few (o ∷ os) h =
    let rest = all_wishes_few os (λ i. h (suc i)) in
    let here = step o (h 0) in
    omega (arith, sum_by-cons (λ z. cond (is_some z) 1 0) o os)
  where
    step : (o : Option (List ℕ)) → length (wishes_of o) ≤ 12 → length (wishes_of o) ≤ 12 * cond (is_some o) 1 0
    step None h = omega arith
    step (Some xs) h = omega arith

pub settle_few : (m : Meaning) → Lawful m → (s : Board) → Formed s → (settle m s).count - s.count ≤ 12 * entered_lots s.lists
settle_few m law s v =
    let u = (settle_keeps m law (all_wishes s.lists) s v).0 in
    let same = ap all_wishes (settle_lists m (all_wishes s.lists) s).1 in
    omega (arith, count_bound (settle m s) u, all_wishes_few s.lists v.few)
