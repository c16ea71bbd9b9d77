-- A new round, and a slip more.
use Rattle.std.proofs.Common.{◌≡◌, ℕ, zero, suc, ◌+◌, ◌<◌, ◌≤◌, Bool, true, false, not, leb, List, [], ◌∷◌, length, get_or, replicate, is_some, Some, None, Ok, Err, Option, Result, sym, refl, ap, ◌∙◌, subst, inl, inr, arith}
use mathlib.Core.Path.{fun_ext}
use Rattle.std.proofs.lemmas.List.{length-set, length-replicate}
use Rattle.std.proofs.lemmas.Bool.{cases_eq, both_ways, leb-false, ltb-true}
use Rattle.sheets.specs.declared.fault.Fault.{Fault}
use Rattle.sheets.specs.declared.fault.Refusal.TheVariants.{Unknown, Twice}
use Rattle.sheets.specs.Faults.{fault}
use Rattle.sheets.specs.Slips.{taken_apart}
use Rattle.sharing.specs.Rules.{at, lanes, sum_to, Meaning, Lawful}
use Rattle.sharing.specs.Sums.{sum_same}
use Rattle.books.specs.Lanes.{has, distinct, all_below}
use Rattle.books.specs.Contents.{Contents, lane_of, ranking_of}
use Rattle.books.specs.Laid.{Laid, shed_of, first_lane}
use Rattle.matching.specs.Offers.{Offers, offered, supply_of, chosen}
use Rattle.matching.specs.Vectors.{put}
use Rattle.matching.specs.Stands.{Stands}
use Rattle.matching.specs.Theorems.{Fits}
use Rattle.matching.proofs.Wishes.{put_here, put_there, put_all}
use Rattle.matching.proofs.Sheds.{choosing, supply_on}
use Rattle.matching.proofs.Orders.{beginning_stands, entering_stands}
use Rattle.boards.specs.declared.line.Line.{Line}
use Rattle.boards.specs.declared.line.Line.TheVariants.{Absent, Looking, Held, Spent}
use Rattle.boards.specs.declared.line.Event.TheVariants.{Entered}
use Rattle.boards.specs.Lines.{next, noted, holds, tried_of, wishes_of}
use Rattle.boards.specs.Slips.{wishes_from, Lists, list_at, entering}
use Rattle.boards.specs.Boards.{Board, line_of, wishes, holding, tried, begun, entered, slip_of, enter}
use Rattle.boards.specs.Formed.{Formed}
use Rattle.boards.specs.Calls.{Stand}
use Rattle.boards.proofs.Walks.{Sound, read_sound}
use Rattle.boards.proofs.BoardLines.{FitsList, next_tried, next_holds, next_fits, get_d_set_put}

-- what an accepted slip says
pub record Accepts (n : ℕ) (ls : Lists) (i : ℕ) (xs : List ℕ) : Type 0 where
  pub lot : i < 256
  pub fresh : is_some (list_at ls i) ≡ false
  pub lawful : Sound n xs

pub entering_ok : (n : ℕ) (ls : Lists) (ws : List ℕ) (p : ℕ × List ℕ) → entering n ls ws ≡ Ok p → Accepts n ls p.0 p.1
entering_ok n ls ws p = first (taken_apart ws)
  where
    fourth : (i : ℕ) → i < 256 → is_some (list_at ls i) ≡ false → (r : Result (List ℕ) Fault) → ((xs : List ℕ) → r ≡ Ok xs → Sound n xs) → ◌≡◌ {A = Result (ℕ × List ℕ) Fault} (elim r [ Err f ↦ Err f | Ok xs ↦ Ok (i, xs) ]) (Ok p) → Accepts n ls p.0 p.1
    fourth i a b (Err f) v e = cc
    fourth i a b (Ok xs) v e =
        let same : (i, xs) ≡ p = cc in
        subst (λ (q : ℕ × List ℕ). Accepts n ls q.0 q.1) same (record { lot = a; fresh = b; lawful = v xs refl })

    third : (i : ℕ) (rest : List ℕ) → i < 256 → (q : Bool) → is_some (list_at ls i) ≡ q → ◌≡◌ {A = Result (ℕ × List ℕ) Fault} (elim q [ true ↦ Err (fault Twice 0) | false ↦ elim (wishes_from n [] 1 rest) [ Err f ↦ Err f | Ok xs ↦ Ok (i, xs) ] ]) (Ok p) → Accepts n ls p.0 p.1
    third i rest a true b e = cc
    third i rest a false b e = fourth i a b (wishes_from n [] 1 rest) (λ xs q. read_sound n rest xs q) e

    second : (i : ℕ) (rest : List ℕ) → (q : Bool) → leb 256 i ≡ q → ◌≡◌ {A = Result (ℕ × List ℕ) Fault} (elim q [ true ↦ Err (fault Unknown 0) | false ↦ elim (is_some (list_at ls i)) [ true ↦ Err (fault Twice 0) | false ↦ elim (wishes_from n [] 1 rest) [ Err f ↦ Err f | Ok xs ↦ Ok (i, xs) ] ] ]) (Ok p) → Accepts n ls p.0 p.1
    second i rest true a e = cc
    second i rest false a e = third i rest (leb-false 256 i a) (is_some (list_at ls i)) refl e

    first : (r : Result (ℕ × List ℕ) Fault) → ◌≡◌ {A = Result (ℕ × List ℕ) Fault} (elim r [ Err f ↦ Err f | Ok q ↦ elim (leb 256 q.0) [ true ↦ Err (fault Unknown 0) | false ↦ elim (is_some (list_at ls q.0)) [ true ↦ Err (fault Twice 0) | false ↦ elim (wishes_from n [] 1 q.1) [ Err f ↦ Err f | Ok xs ↦ Ok (q.0, xs) ] ] ] ]) (Ok p) → Accepts n ls p.0 p.1
    first (Err f) e = cc
    first (Ok q) e = second q.0 q.1 (leb 256 q.0) refl e

-- a lot without a list is absent
no_list : (o : Option (List ℕ)) → is_some o ≡ false → o ≡ None
no_list None e = refl
no_list (Some xs) e = absurd (both_ways true e refl)

pub unlisted_absent : (y : Line) (o : Option (List ℕ)) → FitsList y o → is_some o ≡ false → y ≡ Absent
unlisted_absent Absent o f e = refl
unlisted_absent (Looking n) o f e = absurd (omega (arith, ltb-true n (length (wishes_of o)) f, ap (λ (z : Option (List ℕ)). length (wishes_of z)) (no_list o e)))
unlisted_absent (Held l) o f e = absurd (both_ways (has (wishes_of o) l) (ap (λ (z : Option (List ℕ)). has (wishes_of z) l) (no_list o e)) f)
unlisted_absent Spent o f e = absurd (both_ways (is_some o) e f)

get_d_all : {A : Type 0} (n i : ℕ) (d : A) → get_or (replicate n d) i d ≡ d
get_d_all zero i d = refl
get_d_all (suc n) zero d = refl
get_d_all (suc n) (suc i) d = get_d_all n i d

offered_none : (R : List ℕ) → offered (λ i. false) R ≡ 0
offered_none [] = refl
offered_none (r ∷ R) = offered_none R

sum_zero : (n : ℕ) → sum_to (λ k. 0) n ≡ 0
sum_zero zero = refl
sum_zero (suc n) = omega (arith, sum_zero n)

-- nobody is held
nobody_fits : (c : Contents) → Laid c → Fits c (λ l i. false)
nobody_fits c laid = record {
  ranked = λ l i k e. absurd (both_ways false refl e);
  capacity = λ l k. omega (arith, offered_none (ranking_of c l));
  store = λ g k. omega (arith, sum_same (at (supply_of c (λ l i. false) g)) (λ j. 0) (lanes (shed_of c g)) (λ j b. supply_on c laid g k (λ l i. false) j b ∙ offered_none (ranking_of c (first_lane c g + j))), sum_zero (lanes (shed_of c g)));
}

module _ (c : Contents) (laid : Laid c) where
  all_absent : (x : ℕ) → line_of (begun c) x ≡ Absent
  all_absent x = get_d_all 256 x Absent

  no_lists : (x : ℕ) → list_at (begun c).lists x ≡ None
  no_lists x = get_d_all 256 x None

  no_wishes : (x : ℕ) → wishes (begun c) x ≡ []
  no_wishes x = ap wishes_of (no_lists x)

  none_held : (l x : ℕ) → holding (begun c) l x ≡ false
  none_held l x = ap (λ (y : Line). holds y l) (all_absent x)

  none_tried : (x : ℕ) → tried (begun c) x ≡ 0
  none_tried x = ap (λ (y : Line). tried_of y (wishes (begun c) x)) (all_absent x)

  pub begun_formed : Formed (begun c)
  begun_formed = record {
    laid = laid;
    every_line = length-replicate 256 Absent;
    every_list = length-replicate {A = Option (List ℕ)} 256 None;
    known = λ x. subst (λ (xs : List ℕ). all_below (length c.lanes) xs ≡ true) (sym (no_wishes x)) refl;
    once = λ x. subst (λ (xs : List ℕ). distinct xs ≡ true) (sym (no_wishes x)) refl;
    few = λ x. subst (λ (xs : List ℕ). length xs ≤ 12) (sym (no_wishes x)) (omega arith);
    fit_lists = λ x. subst (λ (y : Line). FitsList y (list_at (begun c).lists x)) (sym (all_absent x)) (ap (λ (o : Option (List ℕ)). not (is_some o)) (no_lists x));
    fits = subst (Fits c) (sym (fun_ext (λ l. fun_ext (λ x. none_held l x)))) (nobody_fits c laid);
    counted = sym (sum_same (tried (begun c)) (λ k. 0) 256 (λ x h. none_tried x) ∙ sum_zero 256);
  }

  pub begun_stands : (m : Meaning) → Lawful m → Stand m (begun c)
  begun_stands m law =
      subst (λ (L : ℕ → List ℕ). Stands (length c.lanes) (chosen c m) L (tried (begun c)) (holding (begun c))) (sym (fun_ext no_wishes))
      (subst (λ (a : ℕ → ℕ). Stands (length c.lanes) (chosen c m) (λ i. []) a (holding (begun c))) (sym (fun_ext none_tried))
      (subst (λ (H : Offers). Stands (length c.lanes) (chosen c m) (λ i. []) (λ i. 0) H) (sym (fun_ext (λ l. fun_ext (λ x. none_held l x))))
      (beginning_stands (length c.lanes) (λ l. (lane_of c l).shed) (ranking_of c) (chosen c m) (choosing c m laid law))))

-- an accepted slip
module _ (s : Board) (v : Formed s) (i : ℕ) (xs : List ℕ) (ok : Accepts (length s.book.lanes) s.lists i xs) where
  abbrev t : Board
  t = entered s (Ok (i, xs))

  was : line_of s i ≡ Absent
  was = unlisted_absent (line_of s i) (list_at s.lists i) (v.fit_lists i) ok.fresh

  unlisted : wishes s i ≡ []
  unlisted = ap wishes_of (no_list (list_at s.lists i) ok.fresh)

  lines_at : (x : ℕ) → line_of t x ≡ put (line_of s) i (next xs 0) x
  lines_at x = get_d_set_put Absent s.lines i (noted xs (line_of s i) Entered) (omega (arith, v.every_line, ok.lot)) x ∙ ap (λ (y : Line). put (line_of s) i (noted xs y Entered) x) was

  lists_at : (x : ℕ) → list_at t.lists x ≡ put (list_at s.lists) i (Some xs) x
  lists_at x = get_d_set_put None s.lists i (Some xs) (omega (arith, v.every_list, ok.lot)) x

  wishes_at : (x : ℕ) → wishes t x ≡ put (wishes s) i xs x
  wishes_at x = ap wishes_of (lists_at x) ∙ elim (cases_eq x i) [
    | inl q ↦ subst (λ (x : ℕ). wishes_of (put (list_at s.lists) i (Some xs) x) ≡ put (wishes s) i xs x) (sym q) (ap wishes_of (put_here (list_at s.lists) i (Some xs)) ∙ sym (put_here (wishes s) i xs))
    | inr q ↦ ap wishes_of (put_there (list_at s.lists) i (Some xs) x q) ∙ sym (put_there (wishes s) i xs x q)
  ]

  pub enter_holds : (l x : ℕ) → holding t l x ≡ holding s l x
  enter_holds l x = ap (λ (y : Line). holds y l) (lines_at x) ∙ put_all (λ x y. holds y l ≡ holding s l x) (line_of s) i (next xs 0) (next_holds xs 0 l ∙ sym (ap (λ (y : Line). holds y l) was)) (λ x q. refl) x

  pub enter_tried : (x : ℕ) → tried t x ≡ tried s x
  enter_tried x = ap (λ (y : Line). tried_of y (wishes t x)) (lines_at x) ∙ ap (tried_of (put (line_of s) i (next xs 0) x)) (wishes_at x) ∙ elim (cases_eq x i) [
    | inl q ↦ subst (λ (x : ℕ). tried_of (put (line_of s) i (next xs 0) x) (put (wishes s) i xs x) ≡ tried s x) (sym q) (
        ap (λ (y : Line). tried_of y (put (wishes s) i xs i)) (put_here (line_of s) i (next xs 0)) ∙ ap (tried_of (next xs 0)) (put_here (wishes s) i xs) ∙ next_tried xs 0 (omega arith) ∙ sym (ap (λ (y : Line). tried_of y (wishes s i)) was))
    | inr q ↦ ap (λ (y : Line). tried_of y (put (wishes s) i xs x)) (put_there (line_of s) i (next xs 0) x q) ∙ ap (tried_of (line_of s x)) (put_there (wishes s) i xs x q)
  ]

  pub enter_formed : Formed (entered s (Ok (i, xs)))
  enter_formed = record {
    laid = v.laid;
    every_line = length-set s.lines i (noted xs (line_of s i) Entered) ∙ v.every_line;
    every_list = length-set s.lists i (Some xs) ∙ v.every_list;
    known = λ x. subst (λ (zs : List ℕ). all_below (length s.book.lanes) zs ≡ true) (sym (wishes_at x)) (put_all (λ x zs. all_below (length s.book.lanes) zs ≡ true) (wishes s) i xs ok.lawful.known (λ x q. v.known x) x);
    once = λ x. subst (λ (zs : List ℕ). distinct zs ≡ true) (sym (wishes_at x)) (put_all (λ x zs. distinct zs ≡ true) (wishes s) i xs ok.lawful.once (λ x q. v.once x) x);
    few = λ x. subst (λ (zs : List ℕ). length zs ≤ 12) (sym (wishes_at x)) (put_all (λ x zs. length zs ≤ 12) (wishes s) i xs ok.lawful.few (λ x q. v.few x) x);
    fit_lists = λ x. elim (cases_eq x i) [
      | inl q ↦ subst (λ (x : ℕ). FitsList (line_of t x) (list_at t.lists x)) (sym q)
          (subst (λ (y : Line). FitsList y (list_at t.lists i)) (sym (lines_at i ∙ put_here (line_of s) i (next xs 0)))
          (subst (λ (o : Option (List ℕ)). FitsList (next xs 0) o) (sym (lists_at i ∙ put_here (list_at s.lists) i (Some xs))) (next_fits (Some xs) 0 refl)))
      | inr q ↦ subst (λ (y : Line). FitsList y (list_at t.lists x)) (sym (lines_at x ∙ put_there (line_of s) i (next xs 0) x q))
          (subst (λ (o : Option (List ℕ)). FitsList (line_of s x) o) (sym (lists_at x ∙ put_there (list_at s.lists) i (Some xs) x q)) (v.fit_lists x))
    ];
    fits = subst (Fits s.book) (sym (fun_ext (λ l. fun_ext (λ x. enter_holds l x)))) v.fits;
    counted = v.counted ∙ sym (sum_same (tried t) (tried s) 256 (λ x h. enter_tried x));
  }

  pub enter_stands : (m : Meaning) → Lawful m → Stand m s → Stand m (entered s (Ok (i, xs)))
  enter_stands m law stand =
      subst (λ (L : ℕ → List ℕ). Stands (length s.book.lanes) (chosen s.book m) L (tried t) (holding t)) (sym (fun_ext wishes_at))
      (subst (λ (a : ℕ → ℕ). Stands (length s.book.lanes) (chosen s.book m) (put (wishes s) i xs) a (holding t)) (sym (fun_ext enter_tried))
      (subst (λ (H : Offers). Stands (length s.book.lanes) (chosen s.book m) (put (wishes s) i xs) (tried s) H) (sym (fun_ext (λ l. fun_ext (λ x. enter_holds l x))))
      (entering_stands (length s.book.lanes) (λ l. (lane_of s.book l).shed) (ranking_of s.book) (chosen s.book m) (choosing s.book m v.laid law) (wishes s) (tried s) (holding s)
      (record { known = v.known; once = v.once }) stand i xs unlisted)))

pub entered_formed : (s : Board) → Formed s → (ws : List ℕ) → Formed (enter s ws)
entered_formed s v ws = go (slip_of s ws) refl
  where
    go : (r : Result (ℕ × List ℕ) Fault) → slip_of s ws ≡ r → Formed (entered s r)
    go (Err f) e = v
    go (Ok p) e = enter_formed s v p.0 p.1 (entering_ok (length s.book.lanes) s.lists ws p e)
