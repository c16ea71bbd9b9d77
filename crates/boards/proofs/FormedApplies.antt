-- An application keeps what every round has, and a round that stands stands again.
use Rattle.std.proofs.Common.{◌≡◌, ℕ, zero, suc, ◌+◌, ◌<◌, ◌≤◌, Bool, true, false, eqb, List, [], ◌∷◌, length, get_or, set, Option, sym, refl, ap, ◌∙◌, subst, inl, inr, arith}
use mathlib.Core.Path.{fun_ext}
use Rattle.std.proofs.lemmas.List.{length-set, get_or_past}
use Rattle.std.proofs.lemmas.Bool.Decides.{nat_tests}
use Rattle.std.proofs.lemmas.Bool.{cases_lt, cases_Bool, cases_eq, both_ways, eqb-true, eq-eqb, ne_eqb, ltb-true}
use Rattle.sharing.specs.Rules.{at, Meaning, Lawful}
use Rattle.books.specs.Lanes.{has, distinct, all_below}
use Rattle.books.specs.Contents.{Contents, lane_of, ranking_of}
use Rattle.books.specs.Laid.{Laid, shed_of}
use Rattle.matching.specs.Offers.{Offers, asking, best, supply_of, chosen, cleared}
use Rattle.matching.specs.Vectors.{put}
use Rattle.matching.specs.Stands.{Stands}
use Rattle.matching.specs.Theorems.{Fits, OthersStay}
use Rattle.matching.proofs.Wishes.{has_at, below_at, put_here, put_there, put_all}
use Rattle.matching.proofs.Sheds.{choosing}
use Rattle.matching.proofs.Ones.{sum_one, clearing_fits}
use Rattle.matching.proofs.Orders.{applying_stands, applying_leaves_others}
use Rattle.boards.specs.declared.line.Line.{Line}
use Rattle.boards.specs.declared.line.Line.TheVariants.{Absent, Looking, Held}
use Rattle.boards.specs.declared.line.Event.TheVariants.{TurnedAway}
use Rattle.boards.specs.declared.outcome.Outcome.{Outcome}
use Rattle.boards.specs.Lines.{next, noted, holds, looks, tried_of, wishes_of}
use Rattle.boards.specs.Slips.{list_at}
use Rattle.boards.specs.Boards.{Board, line_of, wishes, holding, tried, filling, keeps, stays, turned, ask, turn_away, apply_to}
use Rattle.boards.specs.Formed.{Formed}
use Rattle.boards.specs.Calls.{Stand}
use Rattle.boards.proofs.BoardLines.{FitsList, place_apart, next_tried, next_holds, next_fits, long_some, stays_tried, stays_fits, stays_held, stays_other, get_d_set_put}
use Rattle.boards.proofs.BoardCounts.{filling_supply}

pub get_d_turned : (F : ℕ → Line → Line) → ((x : ℕ) → F x Absent ≡ Absent) → (k : ℕ) (ys : List Line) (x : ℕ) → get_or (turned F k ys) x Absent ≡ F (k + x) (get_or ys x Absent)
get_d_turned F a k [] x = sym (a (k + x))
get_d_turned F a k (y ∷ ys) zero = ap (λ (z : ℕ). F z y) (let q : k ≡ k + 0 = omega arith in q)
get_d_turned F a k (y ∷ ys) (suc x) = get_d_turned F a (suc k) ys x ∙ ap (λ (z : ℕ). F z (get_or ys x Absent)) (let q : suc k + x ≡ k + suc x = omega arith in q)

pub get_d_turned_0 : (F : ℕ → Line → Line) → ((x : ℕ) → F x Absent ≡ Absent) → (ys : List Line) (x : ℕ) → get_or (turned F 0 ys) x Absent ≡ F x (get_or ys x Absent)
get_d_turned_0 F a ys x = get_d_turned F a 0 ys x ∙ ap (λ (z : ℕ). F z (get_or ys x Absent)) (let q : 0 + x ≡ x = omega arith in q)

pub length_turned : (F : ℕ → Line → Line) (k : ℕ) (ys : List Line) → length (turned F k ys) ≡ length ys
length_turned F k [] = refl
length_turned F k (y ∷ ys) = ap suc (length_turned F (suc k) ys)

eqb_sym : (a b : ℕ) → eqb a b ≡ eqb b a
eqb_sym a b = elim (cases_eq a b) [ inl e ↦ eq-eqb a b e ∙ sym (eq-eqb b a (sym e)) | inr e ↦ ne_eqb a b e ∙ sym (ne_eqb b a (λ q. e (sym q))) ]

-- what an application of lot i leaves: one more wish of that lot is tried, and H says who is held
pub record Step (s t : Board) (i : ℕ) (H : Offers) : Type 0 where
  pub same_book : t.book ≡ s.book
  pub same_lists : t.lists ≡ s.lists
  pub one_more : t.count ≡ suc s.count
  pub every_line : length t.lines ≡ 256
  pub fit_lists : (x : ℕ) → FitsList (line_of t x) (list_at s.lists x)
  pub tries : (x : ℕ) → tried_of (line_of t x) (wishes s x) ≡ put (tried s) i (suc (tried s i)) x
  pub holds_now : (l x : ℕ) → holding t l x ≡ H l x

module _ (m : Meaning) (law : Lawful m) (s : Board) (v : Formed s) (i n : ℕ) (e : line_of s i ≡ Looking n) where
  abbrev c : Contents
  c = s.book

  abbrev h : ℕ
  h = at (wishes s i) n

  abbrev g : ℕ
  g = (lane_of s.book (at (wishes s i) n)).shed

  abbrev H : Offers
  H = holding s

  pub room : n < length (wishes s i)
  room = ltb-true n (length (wishes s i)) (subst (λ (y : Line). FitsList y (list_at s.lists i)) e (v.fit_lists i))

  pub looks_in : i < 256
  looks_in = elim (cases_lt i 256) [
    | inl l ↦ l
    | inr l ↦ absurd (both_ways (looks (line_of s i)) (ap looks (get_or_past s.lines i Absent (omega (arith, v.every_line)))) (ap looks e))
  ]

  pub wish_in : at (wishes s i) n < length s.book.lanes
  wish_in = below_at (length c.lanes) (wishes s i) (v.known i) n room

  was : tried s i ≡ n
  was = ap (λ (y : Line). tried_of y (wishes s i)) e

  pub free : (l : ℕ) → holding s l i ≡ false
  free l = ap (λ (y : Line). holds y l) e

  abbrev ys : List Line
  ys = set s.lines i (Held (at (wishes s i) n))

  pub seated : (x : ℕ) → get_or (set s.lines i (Held (at (wishes s i) n))) x Absent ≡ put (line_of s) i (Held (at (wishes s i) n)) x
  seated = get_d_set_put Absent s.lines i (Held h) (omega (arith, looks_in, v.every_line))

  pub claims : (l x : ℕ) → holds (get_or (set s.lines i (Held (at (wishes s i) n))) x Absent) l ≡ asking (holding s) (at (wishes s i) n) i l x
  claims l x = ap (λ (y : Line). holds y l) (seated x) ∙ elim (cases_eq x i) [
    | inl q ↦ subst (λ (x : ℕ). holds (put (line_of s) i (Held h) x) l ≡ asking H h i l x) (sym q) (
        ap (λ (y : Line). holds y l) (put_here (line_of s) i (Held h)) ∙ eqb_sym h l ∙ (
        let f = free l in let r = eq-eqb i i refl in grind (arith, nat_tests)))
    | inr q ↦ ap (λ (y : Line). holds y l) (put_there (line_of s) i (Held h) x q) ∙ (let r = ne_eqb x i q in grind (arith, nat_tests))
  ]

  pub all_claims : (λ (l x : ℕ). holds (get_or (set s.lines i (Held (at (wishes s i) n))) x Absent) l) ≡ asking (holding s) (at (wishes s i) n) i
  all_claims = fun_ext (λ l. fun_ext (λ x. claims l x))

  seated_fits : (x : ℕ) → FitsList (get_or ys x Absent) (list_at s.lists x)
  seated_fits x = subst (λ (y : Line). FitsList y (list_at s.lists x)) (sym (seated x))
      (put_all (λ x y. FitsList y (list_at s.lists x)) (line_of s) i (Held h) (has_at (wishes s i) n room) (λ x q. v.fit_lists x) x)

  seated_tried : (x : ℕ) → tried_of (get_or ys x Absent) (wishes s x) ≡ put (tried s) i (suc (tried s i)) x
  seated_tried x = ap (λ (y : Line). tried_of y (wishes s x)) (seated x) ∙ elim (cases_eq x i) [
    | inl q ↦ subst (λ (x : ℕ). tried_of (put (line_of s) i (Held h) x) (wishes s x) ≡ put (tried s) i (suc (tried s i)) x) (sym q) (
        ap (λ (y : Line). tried_of y (wishes s i)) (put_here (line_of s) i (Held h)) ∙ ap suc (place_apart (wishes s i) (v.once i) n room ∙ sym was) ∙ sym (put_here (tried s) i (suc (tried s i))))
    | inr q ↦ ap (λ (y : Line). tried_of y (wishes s x)) (put_there (line_of s) i (Held h) x q) ∙ sym (put_there (tried s) i (suc (tried s i)) x q)
  ]

  -- the wished lane ranks the lot
  module _ (ranks : has (ranking_of s.book (at (wishes s i) n)) i ≡ true) where
    pub claims_ranked : (l x : ℕ) → l < length c.lanes → asking H h i l x ≡ true → has (ranking_of c l) x ≡ true
    claims_ranked l x k o = elim (cases_Bool (H l x)) [
      | inl t ↦ v.fits.ranked l x k t
      | inr t ↦
          let p : l ≡ h = eqb-true l h (grind (arith, nat_tests)) in
          let q : x ≡ i = eqb-true x i (grind (arith, nat_tests)) in
          subst (λ (l : ℕ). has (ranking_of c l) x ≡ true) (sym p) (subst (λ (x : ℕ). has (ranking_of c h) x ≡ true) (sym q) ranks)
    ]

    pub same_supply : filling s.book (set s.lines i (Held (at (wishes s i) n))) (lane_of s.book (at (wishes s i) n)).shed ≡ supply_of s.book (asking (holding s) (at (wishes s i) n) i) (lane_of s.book (at (wishes s i) n)).shed
    same_supply =
        filling_supply c v.laid ys (length-set s.lines i (Held h) ∙ v.every_line) g (v.laid.in_shed h wish_in) (λ l x k o. claims_ranked l x k (sym (claims l x) ∙ o)) ∙
        ap (λ (O : Offers). supply_of c O g) all_claims

    abbrev K : List ℕ
    K = m.choice (shed_of s.book (lane_of s.book (at (wishes s i) n)).shed) (filling s.book (set s.lines i (Held (at (wishes s i) n))) (lane_of s.book (at (wishes s i) n)).shed)

    pub keeps_here : (x l : ℕ) → (lane_of s.book l).shed ≡ (lane_of s.book (at (wishes s i) n)).shed → keeps c ys g K x l ≡ chosen c m (asking H h i) l x
    keeps_here x l same =
        ap (λ (z : Bool). elim z [ true ↦ best (at K (lane_of c l).place) (λ r. holds (get_or ys r Absent) l) (ranking_of c l) x | false ↦ true ]) (eq-eqb (lane_of c l).shed g same) ∙
        ap (λ (O : Offers). best (at K (lane_of c l).place) (O l) (ranking_of c l) x) all_claims ∙
        ap (λ (f : List ℕ). best (at (m.choice (shed_of c g) f) (lane_of c l).place) (asking H h i l) (ranking_of c l) x) same_supply ∙
        ap (λ (z : ℕ). best (at (m.choice (shed_of c z) (supply_of c (asking H h i) z)) (lane_of c l).place) (asking H h i l) (ranking_of c l) x) (sym same)

    pub keeps_there : (x l : ℕ) → ((lane_of s.book l).shed ≡ (lane_of s.book (at (wishes s i) n)).shed → ⊥) → keeps c ys g K x l ≡ true
    keeps_there x l ne = ap (λ (z : Bool). elim z [ true ↦ best (at K (lane_of c l).place) (λ r. holds (get_or ys r Absent) l) (ranking_of c l) x | false ↦ true ]) (ne_eqb (lane_of c l).shed g ne)

    abbrev F : ℕ → Line → Line
    F x y = stays (wishes s x) (keeps c ys g K x) y

    pub new_line : (x : ℕ) → get_or (turned F 0 ys) x Absent ≡ stays (wishes s x) (keeps c ys g K x) (get_or ys x Absent)
    new_line x = get_d_turned_0 F (λ x. refl) ys x

    asked_off : (l x : ℕ) → ((lane_of c l).shed ≡ g → ⊥) → asking H h i l x ≡ H l x
    asked_off l x ne = let r = ne_eqb l h (λ q. ne (ap (λ (z : ℕ). (lane_of c z).shed) q)) in grind (arith, nat_tests)

    new_holding : (l x : ℕ) → holds (get_or (turned F 0 ys) x Absent) l ≡ cleared c m H h i l x
    new_holding l x = ap (λ (y : Line). holds y l) (new_line x) ∙ elim (cases_eq (lane_of c l).shed g) [
      | inl same ↦
          elim (cases_Bool (holds (get_or ys x Absent) l)) [
            | inl o ↦ stays_held (wishes s x) (keeps c ys g K x) (get_or ys x Absent) l o ∙ keeps_here x l same
            | inr o ↦ stays_other (wishes s x) (keeps c ys g K x) (get_or ys x Absent) l o ∙ sym (not_chosen l x o)
          ] ∙ sym (ap (λ (z : Bool). elim z [ true ↦ chosen c m (asking H h i) l x | false ↦ H l x ]) (eq-eqb (lane_of c l).shed g same))
      | inr other ↦
          elim (cases_Bool (holds (get_or ys x Absent) l)) [
            | inl o ↦ stays_held (wishes s x) (keeps c ys g K x) (get_or ys x Absent) l o ∙ keeps_there x l other ∙ sym (sym (asked_off l x other) ∙ sym (claims l x) ∙ o)
            | inr o ↦ stays_other (wishes s x) (keeps c ys g K x) (get_or ys x Absent) l o ∙ sym (sym (asked_off l x other) ∙ sym (claims l x) ∙ o)
          ] ∙ sym (ap (λ (z : Bool). elim z [ true ↦ chosen c m (asking H h i) l x | false ↦ H l x ]) (ne_eqb (lane_of c l).shed g other))
    ]
      where
        not_chosen : (l x : ℕ) → holds (get_or ys x Absent) l ≡ false → chosen c m (asking H h i) l x ≡ false
        not_chosen l x o = elim (cases_Bool (chosen c m (asking H h i) l x)) [
          | inl b ↦ absurd (both_ways (asking H h i l x) (sym (claims l x) ∙ o) ((choosing c m v.laid law).only_offered (asking H h i) l x b))
          | inr b ↦ b
        ]

    pub step_asked : Step s (ask m s i (at (wishes s i) n) (set s.lines i (Held (at (wishes s i) n))) (lane_of s.book (at (wishes s i) n)).shed).1 i (cleared s.book m (holding s) (at (wishes s i) n) i)
    step_asked = record {
      same_book = refl;
      same_lists = refl;
      one_more = refl;
      every_line = length_turned F 0 ys ∙ length-set s.lines i (Held h) ∙ v.every_line;
      fit_lists = λ x. subst (λ (y : Line). FitsList y (list_at s.lists x)) (sym (new_line x)) (stays_fits (list_at s.lists x) (keeps c ys g K x) (get_or ys x Absent) (seated_fits x));
      tries = λ x. ap (λ (y : Line). tried_of y (wishes s x)) (new_line x) ∙ stays_tried (list_at s.lists x) (keeps c ys g K x) (get_or ys x Absent) (seated_fits x) ∙ seated_tried x;
      holds_now = new_holding;
    }

  -- it does not
  turned_line : noted (wishes s i) (line_of s i) TurnedAway ≡ next (wishes s i) (suc n)
  turned_line = ap (λ (y : Line). noted (wishes s i) y TurnedAway) e

  away : (x : ℕ) → get_or (set s.lines i (noted (wishes s i) (line_of s i) TurnedAway)) x Absent ≡ put (line_of s) i (next (wishes s i) (suc n)) x
  away x = get_d_set_put Absent s.lines i (noted (wishes s i) (line_of s i) TurnedAway) (omega (arith, looks_in, v.every_line)) x ∙ ap (λ (y : Line). put (line_of s) i y x) turned_line

  pub step_away : Step s (turn_away s i).1 i (holding s)
  step_away = record {
    same_book = refl;
    same_lists = refl;
    one_more = refl;
    every_line = length-set s.lines i (noted (wishes s i) (line_of s i) TurnedAway) ∙ v.every_line;
    fit_lists = λ x. subst (λ (y : Line). FitsList y (list_at s.lists x)) (sym (away x))
        (put_all (λ x y. FitsList y (list_at s.lists x)) (line_of s) i (next (wishes s i) (suc n)) (next_fits (list_at s.lists i) (suc n) (long_some (list_at s.lists i) n room)) (λ x q. v.fit_lists x) x);
    tries = λ x. ap (λ (y : Line). tried_of y (wishes s x)) (away x) ∙ elim (cases_eq x i) [
      | inl q ↦ subst (λ (x : ℕ). tried_of (put (line_of s) i (next (wishes s i) (suc n)) x) (wishes s x) ≡ put (tried s) i (suc (tried s i)) x) (sym q) (
          ap (λ (y : Line). tried_of y (wishes s i)) (put_here (line_of s) i (next (wishes s i) (suc n))) ∙ next_tried (wishes s i) (suc n) room ∙ ap suc (sym was) ∙ sym (put_here (tried s) i (suc (tried s i))))
      | inr q ↦ ap (λ (y : Line). tried_of y (wishes s x)) (put_there (line_of s) i (next (wishes s i) (suc n)) x q) ∙ sym (put_there (tried s) i (suc (tried s i)) x q)
    ];
    holds_now = λ l x. ap (λ (y : Line). holds y l) (away x) ∙ elim (cases_eq x i) [
      | inl q ↦ subst (λ (x : ℕ). holds (put (line_of s) i (next (wishes s i) (suc n)) x) l ≡ H l x) (sym q) (
          ap (λ (y : Line). holds y l) (put_here (line_of s) i (next (wishes s i) (suc n))) ∙ next_holds (wishes s i) (suc n) l ∙ sym (free l))
      | inr q ↦ ap (λ (y : Line). holds y l) (put_there (line_of s) i (next (wishes s i) (suc n)) x q)
    ];
  }

  -- both ways: what every round has
  module _ (t : Board) (O : Offers) (st : Step s t i O) (fits : Fits s.book O) where
    stepped : Formed t
    stepped =
        let lists : (x : ℕ) → wishes t x ≡ wishes s x = λ x. ap (λ (ls : List (Option (List ℕ))). wishes_of (list_at ls x)) st.same_lists in
        let lanes : length t.book.lanes ≡ length s.book.lanes = ap (λ (b : Contents). length b.lanes) st.same_book in
        record {
          laid = subst Laid (sym st.same_book) v.laid;
          every_line = st.every_line;
          every_list = ap length st.same_lists ∙ v.every_list;
          known = λ x. subst2_known (length s.book.lanes) (length t.book.lanes) (wishes s x) (wishes t x) (sym lanes) (sym (lists x)) (v.known x);
          once = λ x. subst (λ (xs : List ℕ). distinct xs ≡ true) (sym (lists x)) (v.once x);
          few = λ x. subst (λ (xs : List ℕ). length xs ≤ 12) (sym (lists x)) (v.few x);
          fit_lists = λ x. subst (λ (ls : List (Option (List ℕ))). FitsList (line_of t x) (list_at ls x)) (sym st.same_lists) (st.fit_lists x);
          fits = subst (λ (b : Contents). Fits b (holding t)) (sym st.same_book) (subst (Fits s.book) (sym (fun_ext (λ l. fun_ext (λ x. st.holds_now l x)))) fits);
          counted = st.one_more ∙ ap suc v.counted ∙ sym (sum_one (tried t) (tried s) 256 i looks_in
              (now_tried i ∙ put_here (tried s) i (suc (tried s i)))
              (λ x _ q. now_tried x ∙ put_there (tried s) i (suc (tried s i)) x q));
        }
      where
        subst2_known : (a b : ℕ) (xs zs : List ℕ) → a ≡ b → xs ≡ zs → all_below a xs ≡ true → all_below b zs ≡ true
        subst2_known a b xs zs p q k = subst (λ (b : ℕ). all_below b zs ≡ true) p (subst (λ (zs : List ℕ). all_below a zs ≡ true) q k)

        now_tried : (x : ℕ) → tried t x ≡ put (tried s) i (suc (tried s i)) x
        now_tried x = ap (λ (ls : List (Option (List ℕ))). tried_of (line_of t x) (wishes_of (list_at ls x))) st.same_lists ∙ st.tries x

    -- and a round that stands
    stood : Stand m s → ((l x : ℕ) → l < length s.book.lanes → O l x ≡ chosen s.book m (asking (holding s) (at (wishes s i) (tried s i)) i) l x) → Stand m t
    stood stand is =
        let ch = choosing s.book m v.laid law in
        let up = applying_stands (length s.book.lanes) (λ l. (lane_of s.book l).shed) (ranking_of s.book) (chosen s.book m) ch (wishes s) (tried s) (holding s)
        (record { known = v.known; once = v.once }) stand i (subst (λ (k : ℕ). k < length (wishes s i)) (sym was) room) (λ l _. free l) in
        subst (λ (b : Contents). Stands (length b.lanes) (chosen b m) (wishes t) (tried t) (holding t)) (sym st.same_book)
        (subst (λ (L : ℕ → List ℕ). Stands (length s.book.lanes) (chosen s.book m) L (tried t) (holding t)) (sym same_wishes)
        (subst (λ (a : ℕ → ℕ). Stands (length s.book.lanes) (chosen s.book m) (wishes s) a (holding t)) (sym same_tried)
        (record {
          within = up.within;
          held_is_chosen = λ l x k. st.holds_now l x ∙ is l x k ∙ up.held_is_chosen l x k;
          below_closed = up.below_closed;
        })))
      where
        same_wishes : wishes t ≡ wishes s
        same_wishes = fun_ext (λ x. ap (λ (ls : List (Option (List ℕ))). wishes_of (list_at ls x)) st.same_lists)

        same_tried : tried t ≡ put (tried s) i (suc (tried s i))
        same_tried = fun_ext (λ x. ap (λ (ls : List (Option (List ℕ))). tried_of (line_of t x) (wishes_of (list_at ls x))) st.same_lists ∙ st.tries x)

  -- the two ways of an application
  abbrev way : Bool → Outcome × Board
  way p = elim p [
    | true ↦ ask m s i (at (wishes s i) n) (set s.lines i (Held (at (wishes s i) n))) (lane_of s.book (at (wishes s i) n)).shed
    | false ↦ turn_away s i
  ]

  pub apply_formed : Formed (apply_to m s i (at (wishes s i) n)).1
  apply_formed =
      (elim (has (ranking_of s.book (at (wishes s i) n)) i) as (λ p. has (ranking_of s.book (at (wishes s i) n)) i ≡ p → Formed (way p).1) [
        | true ↦ λ r. stepped (ask m s i h ys g).1 (cleared c m H h i) (step_asked r) (clearing_fits c m v.laid law H v.fits h i wish_in r)
        | false ↦ λ r. stepped (turn_away s i).1 H step_away v.fits
      ]) refl

  others : Stand m s → OthersStay (length s.book.lanes) (λ l. (lane_of s.book l).shed) (ranking_of s.book) (chosen s.book m) (holding s) (at (wishes s i) (tried s i)) i
  others stand = applying_leaves_others (length s.book.lanes) (λ l. (lane_of s.book l).shed) (ranking_of s.book) (chosen s.book m) (choosing s.book m v.laid law) (wishes s) (tried s) (holding s)
      (record { known = v.known; once = v.once }) stand i (subst (λ (k : ℕ). k < length (wishes s i)) (sym was) room) (λ l _. free l)

  pub apply_stands : Stand m s → Stand m (apply_to m s i (at (wishes s i) n)).1
  apply_stands stand =
      (elim (has (ranking_of s.book (at (wishes s i) n)) i) as (λ p. has (ranking_of s.book (at (wishes s i) n)) i ≡ p → Stand m (way p).1) [
        | true ↦ λ r. stood (ask m s i h ys g).1 (cleared c m H h i) (step_asked r) (clearing_fits c m v.laid law H v.fits h i wish_in r) stand (λ l x k. at_wish (λ (z : ℕ). cleared c m H h i l x ≡ chosen c m (asking H z i) l x) (in_shed l x k))
        | false ↦ λ r. stood (turn_away s i).1 H step_away v.fits stand (λ l x k. sym ((others stand).unranked (at_wish (λ (z : ℕ). has (ranking_of c z) i ≡ false) r) l x k))
      ]) refl
    where
      at_wish : (P : ℕ → Type 0) → P h → P (at (wishes s i) (tried s i))
      at_wish P p = subst (λ (k : ℕ). P (at (wishes s i) k)) (sym was) p

      off_wish : (P : ℕ → Type 0) → P (at (wishes s i) (tried s i)) → P h
      off_wish P p = subst (λ (k : ℕ). P (at (wishes s i) k)) was p

      in_shed : (l x : ℕ) → l < length c.lanes → cleared c m H h i l x ≡ chosen c m (asking H h i) l x
      in_shed l x k = elim (cases_eq (lane_of c l).shed g) [
        | inl same ↦ ap (λ (z : Bool). elim z [ true ↦ chosen c m (asking H h i) l x | false ↦ H l x ]) (eq-eqb (lane_of c l).shed g same)
        | inr other ↦ ap (λ (z : Bool). elim z [ true ↦ chosen c m (asking H h i) l x | false ↦ H l x ]) (ne_eqb (lane_of c l).shed g other) ∙
            sym (off_wish (λ (z : ℕ). ((lane_of c l).shed ≡ (lane_of c z).shed → ⊥) → chosen c m (asking H z i) l x ≡ H l x) ((others stand).other_sheds l x k) other)
      ]
