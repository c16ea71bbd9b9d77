-- What the words before say is what the book says, so the walk refuses a word exactly if it has a fault.
use Rattle.std.proofs.Common.{◌≡◌, ℕ, zero, suc, ◌+◌, ◌<◌, ◌≤◌, Bool, true, false, cond, not, ◌||◌, eqb, ltb, leb, List, [], ◌∷◌, ◌++◌, map, reverse, length, get_or, take, is_some, Some, None, Ok, Err, sum, Option, Result, sym, refl, ap, ◌∙◌, subst, inl, inr, append_assoc, append-nil, arith, length-set}
use mathlib.Core.List.{reverse-cons, map-append}
use Rattle.std.proofs.lemmas.List.{get_or-set_same, get_or_push, get_or_append_left, length_push}
use Rattle.std.proofs.lemmas.Bool.{cases_Bool, cases_lt, eq-eqb, ne_eqb, eqb-false, leb-false, or_parts, not-false, both_ways}
use Rattle.std.proofs.lemmas.Bool.Decides.{nat_tests}
use Rattle.std.proofs.lemmas.List.Sums.{sum_by_push}
use Rattle.sheets.specs.declared.fault.Refusal.{Refusal}
use Rattle.sheets.specs.declared.fault.Refusal.TheVariants.{Ragged, Strange, Misplaced, TooMany, Unknown, Twice, Overtargeted}
use Rattle.sheets.specs.declared.fault.Fault.{Fault}
use Rattle.sheets.specs.declared.progress.Progress.{Progress}
use Rattle.sheets.specs.declared.word.BookWord.{BookWord}
use Rattle.sheets.specs.declared.word.BookWord.TheVariants.{Shed, Lane, Rank, Next}
use Rattle.sheets.specs.Faults.{standing, fault}
use Rattle.sheets.specs.Words.{book_word}
use Rattle.sharing.specs.Cards as cards
use Rattle.books.specs.Contents.{Contents, blank_entry, last_terms, last_shed, no_entry, with_shed, with_lane, with_record, with_lot, lane_of, ranked_entry, recorded_entry}
use Rattle.books.specs.Faulty.{is_shed, is_lane, is_rank, ranks_lane, names_lot, targets_in, any_of, count_of, since, nearest_cap, misplaced, too_many, unknown, twice, overtargeted, wrong, faulty, strange_only, HasFault, FirstFault}
use Rattle.books.specs.Lanes.{has}
use Rattle.books.proofs.Distinct.{has_push}
use Rattle.books.proofs.Standing.{at_lanes}
use Rattle.books.proofs.Walks.{last_of_shed, last_of_lane}
use Rattle.books.specs.Opening.{Reading, progress_of, noted, before, judge, taken, walk, unread, opening, answered}

-- the words before, the nearest first, and what was read of them
pub record Reads (os : List (Option BookWord)) (r : Reading) : Type 0 where
  pub sheds : length r.book.sheds ≡ count_of is_shed os
  pub some_shed : eqb (length r.book.sheds) 0 ≡ not (any_of is_shed os)
  pub lanes : length r.book.lanes ≡ count_of is_lane os
  pub here : length (last_terms r.book).capacities ≡ count_of is_lane (since is_shed os)
  pub limit : (last_terms r.book).limit ≡ nearest_cap os
  pub targets : sum (last_terms r.book).targets ≡ targets_in (since is_shed os)
  pub ranking : is_some r.ranking ≡ any_of is_rank os
  pub known : (l : ℕ) → r.ranking ≡ Some l → l < length r.book.lanes
  pub current : (l : ℕ) → r.ranking ≡ Some l → (lane_of r.book l).recorded ≡ true
  pub recorded : (l : ℕ) → l < length r.book.lanes → (lane_of r.book l).recorded ≡ any_of (ranks_lane l) os
  pub blank : (l : ℕ) → l < length r.book.lanes → (lane_of r.book l).recorded ≡ false → (lane_of r.book l).ranking ≡ []
  pub lots : (l i : ℕ) → r.ranking ≡ Some l → has (lane_of r.book l).ranking i ≡ any_of (names_lot i) (since is_rank os)

nothing_read : Reads [] unread
nothing_read = record {
  sheds = refl;
  some_shed = refl;
  lanes = refl;
  here = refl;
  limit = refl;
  targets = refl;
  ranking = refl;
  known = λ l e. absurd cc;
  current = λ l e. absurd cc;
  recorded = λ l h. absurd (omega arith);
  blank = λ l h e. absurd (omega arith);
  lots = λ l i e. absurd cc;
}

-- a SHED word more
reads_shed : (os : List (Option BookWord)) (r : Reading) (limit : ℕ) → Reads os r → Reads (Some (Shed limit) ∷ os) (record { book = with_shed r.book limit; ranking = r.ranking })
reads_shed os r limit k =
    let more = length_push r.book.sheds (record { shed = length r.book.sheds; limit = limit; capacities = []; targets = [] }) in
    let last = last_of_shed r.book limit in
    record {
      sheds = omega (arith, more, k.sheds);
      some_shed = ne_eqb _ 0 (λ z. omega (arith, more));
      lanes = omega (arith, k.lanes);
      here = ap (λ t. length t.capacities) last;
      limit = ap (λ t. t.limit) last;
      targets = ap (λ t. sum t.targets) last;
      ranking = k.ranking;
      known = k.known;
      current = k.current;
      recorded = k.recorded;
      blank = k.blank;
      lots = k.lots;
    }

no_rank : (os : List (Option BookWord)) (l : ℕ) → any_of is_rank os ≡ false → any_of (ranks_lane l) os ≡ false
no_rank [] l e = refl
no_rank (Some (Rank m) ∷ os) l e = absurd cc
no_rank (_ ∷ os) l e = no_rank os l e

-- a LANE word more, behind a shed and before any ranking
reads_lane : (os : List (Option BookWord)) (r : Reading) (t q : ℕ) → 0 < length r.book.sheds → is_some r.ranking ≡ false → Reads os r →
    Reads (Some (Lane t q) ∷ os) (record { book = with_lane r.book t q; ranking = r.ranking })
reads_lane os r t q some none k =
    let c = r.book in
    let fresh = blank_entry (last_shed c) (length (last_terms c).capacities) in
    let same = length-set c.sheds (last_shed c) (cards.more_terms (last_terms c) t q) in
    let more = length_push c.lanes fresh in
    let last = last_of_lane c t q some in
    let unranked : (l : ℕ) → r.ranking ≡ Some l → ⊥ = λ l e. let z = ap is_some e in cc in
    let old : (l : ℕ) → l < length c.lanes → lane_of (with_lane c t q) l ≡ lane_of c l = λ l h. get_or_append_left c.lanes (fresh ∷ []) no_entry l h in
    let new : (l : ℕ) → length c.lanes ≡ l → lane_of (with_lane c t q) l ≡ fresh = λ l e. get_or_push c.lanes fresh no_entry l e in
    record {
      sheds = omega (arith, same, k.sheds);
      some_shed = ap (λ n. eqb n 0) same ∙ k.some_shed;
      lanes = omega (arith, more, k.lanes);
      here = ap (λ u. length u.capacities) last ∙ omega (arith, length_push (last_terms c).capacities q, k.here);
      limit = ap (λ u. u.limit) last ∙ k.limit;
      targets = ap (λ u. sum u.targets) last ∙ omega (arith, sum_by_push (λ x. x) (last_terms c).targets t, k.targets);
      ranking = k.ranking;
      known = λ l e. absurd (unranked l e);
      current = λ l e. absurd (unranked l e);
      recorded = λ l h. elim (cases_lt l (length c.lanes)) [
        | inl inside ↦ ap (λ e. e.recorded) (old l inside) ∙ k.recorded l inside
        | inr at ↦ ap (λ e. e.recorded) (new l (omega (arith, more))) ∙ sym (no_rank os l (sym k.ranking ∙ none))
      ];
      blank = λ l h e. elim (cases_lt l (length c.lanes)) [
        | inl inside ↦ ap (λ e. e.ranking) (old l inside) ∙ k.blank l inside (sym (ap (λ e. e.recorded) (old l inside)) ∙ e)
        | inr at ↦ ap (λ e. e.ranking) (new l (omega (arith, more)))
      ];
      lots = λ l i e. absurd (unranked l e);
    }

-- a RANK word more, for a lane that is known and has no record
reads_rank : (os : List (Option BookWord)) (r : Reading) (l : ℕ) → l < length r.book.lanes → (lane_of r.book l).recorded ≡ false → Reads os r →
    Reads (Some (Rank l) ∷ os) (record { book = with_record r.book l; ranking = Some l })
reads_rank os r l h fresh k =
    let c = r.book in
    let e = recorded_entry (lane_of c l) in
    let same = length-set c.lanes l e in
    record {
      sheds = omega (arith, k.sheds);
      some_shed = k.some_shed;
      lanes = omega (arith, same, k.lanes);
      here = omega (arith, k.here);
      limit = k.limit;
      targets = omega (arith, k.targets);
      ranking = refl;
      known = λ m is. let here : l ≡ m = cc in omega (arith, same);
      current = λ m is. let here : l ≡ m = cc in subst (λ n. (lane_of (with_record c l) n).recorded ≡ true) here (ap (λ x. x.recorded) (get_or-set_same c.lanes l e no_entry h));
      recorded = λ m inside. at_lanes (λ n x. x.recorded ≡ (eqb l n || any_of (ranks_lane n) os)) c l m e h
          (sym (ap (λ b. b || any_of (ranks_lane l) os) (eq-eqb l l refl)))
          (λ apart. let t = k.recorded m (omega (arith, same)) in let u = ne_eqb l m (λ z. apart (sym z)) in t ∙ sym (ap (λ b. b || any_of (ranks_lane m) os) u));
      blank = λ m inside. at_lanes (λ n x. x.recorded ≡ false → x.ranking ≡ []) c l m e h (λ z. absurd cc) (λ apart. k.blank m (omega (arith, same)));
      lots = λ m i is. let here : l ≡ m = cc in subst (λ n. has (lane_of (with_record c l) n).ranking i ≡ false) here (ap (λ x. has x.ranking i) (get_or-set_same c.lanes l e no_entry h) ∙ ap (λ v. has v i) (k.blank l h fresh));
    }

-- a NEXT word more
reads_next : (os : List (Option BookWord)) (r : Reading) (l lot : ℕ) → r.ranking ≡ Some l → Reads os r → Reads (Some (Next lot) ∷ os) (record { book = with_lot r.book l lot; ranking = r.ranking })
reads_next os r l lot now k =
    let c = r.book in
    let e = ranked_entry (lane_of c l) lot in
    let same = length-set c.lanes l e in
    let h = k.known l now in
    record {
      sheds = omega (arith, k.sheds);
      some_shed = k.some_shed;
      lanes = omega (arith, same, k.lanes);
      here = omega (arith, k.here);
      limit = k.limit;
      targets = omega (arith, k.targets);
      ranking = k.ranking;
      known = λ m is. omega (arith, same, k.known m is);
      current = λ m is. at_lanes (λ n x. x.recorded ≡ true) c l m e h (k.current l now) (λ apart. k.current m is);
      recorded = λ m inside. at_lanes (λ n x. x.recorded ≡ any_of (ranks_lane n) os) c l m e h (k.recorded l h) (λ apart. k.recorded m (omega (arith, same)));
      blank = λ m inside. at_lanes (λ n x. x.recorded ≡ false → x.ranking ≡ []) c l m e h (λ z. let t = k.current l now in absurd cc) (λ apart. k.blank m (omega (arith, same)));
      lots = λ m i is.
          let here : l ≡ m = cc in
          let pushed = has_push (lane_of c l).ranking lot i in
          let listed = k.lots l i now in
          let both : has ((lane_of c l).ranking ++ lot ∷ []) i ≡ (eqb lot i || any_of (names_lot i) (since is_rank os)) = grind (arith, nat_tests) in
          subst (λ n. has (lane_of (with_lot c l lot) n).ranking i ≡ (eqb lot i || any_of (names_lot i) (since is_rank os))) here (ap (λ x. has x.ranking i) (get_or-set_same c.lanes l e no_entry h) ∙ both);
    }

-- the five tests of a word that is not strange, and the order in which they are made
abbrev flags : Bool → Bool → Bool → Bool → Bool → Refusal → Bool
flags m t u w o Misplaced = m
flags m t u w o TooMany = t
flags m t u w o Unknown = u
flags m t u w o Twice = w
flags m t u w o Overtargeted = o
flags m t u w o _ = false

abbrev in_order : {A : Type 0} → Bool → Bool → Bool → Bool → Bool → A → Result A Refusal
in_order m t u w o a =
    elim m [
      | true ↦ Err Misplaced
      | false ↦
          elim t [
            | true ↦ Err TooMany
            | false ↦
                elim u [
                  | true ↦ Err Unknown
                  | false ↦
                      elim w [
                        | true ↦ Err Twice
                        | false ↦
                            elim o [ true ↦ Err Overtargeted | false ↦ Ok a ]
                      ]
                ]
          ]
    ]

wrong_flags : (os : List (Option BookWord)) (b : BookWord) (x : Refusal) →
    wrong x os b ≡ flags (misplaced os b) (too_many os b) (unknown os b) (twice os b) (overtargeted os b) x
wrong_flags os b Ragged = refl
wrong_flags os b _ = refl

-- the first test that fails has the smallest number
least : (m t u w o : Bool) (x : Refusal) → flags m t u w o x ≡ true → cond m 3 (cond t 4 (cond u 5 (cond w 6 7))) ≤ (standing x).0
least m t u w o Ragged e = absurd cc
least m t u w o Strange e = absurd cc
least m t u w o _ e = grind (arith, nat_tests)

first_wrong : {A : Type 0} (m t u w o : Bool) (a : A) (x : Refusal) → in_order m t u w o a ≡ Err x → (flags m t u w o x ≡ true) × ((standing x).0 ≡ cond m 3 (cond t 4 (cond u 5 (cond w 6 7))))
first_wrong true t u w o a x e = let is : Misplaced ≡ x = cc in subst (λ y. (flags true t u w o y ≡ true) × ((standing y).0 ≡ 3)) is (refl, refl)
first_wrong false true u w o a x e = let is : TooMany ≡ x = cc in subst (λ y. (flags false true u w o y ≡ true) × ((standing y).0 ≡ 4)) is (refl, refl)
first_wrong false false true w o a x e = let is : Unknown ≡ x = cc in subst (λ y. (flags false false true w o y ≡ true) × ((standing y).0 ≡ 5)) is (refl, refl)
first_wrong false false false true o a x e = let is : Twice ≡ x = cc in subst (λ y. (flags false false false true o y ≡ true) × ((standing y).0 ≡ 6)) is (refl, refl)
first_wrong false false false false true a x e = let is : Overtargeted ≡ x = cc in subst (λ y. (flags false false false false true y ≡ true) × ((standing y).0 ≡ 7)) is (refl, refl)
first_wrong false false false false false a x e = absurd cc

no_flag : (x : Refusal) → flags false false false false false x ≡ false
no_flag Ragged = refl
no_flag _ = refl

none_wrong : {A : Type 0} (m t u w o : Bool) (a s : A) → in_order m t u w o a ≡ Ok s → ((x : Refusal) → flags m t u w o x ≡ false) × (s ≡ a)
none_wrong false false false false false a s e = (no_flag, cc)
none_wrong _ _ _ _ _ a s e = absurd cc

-- what a word that is accepted makes of the reading
ranked : Reading → ℕ → Option ℕ → Reading
ranked r lot None = r
ranked r lot (Some l) = record { book = with_lot r.book l lot; ranking = r.ranking }

next : Reading → BookWord → Reading
next r (Shed limit) = record { book = with_shed r.book limit; ranking = r.ranking }
next r (Lane t q) = record { book = with_lane r.book t q; ranking = r.ranking }
next r (Rank l) = record { book = with_record r.book l; ranking = Some l }
next r (Next lot) = ranked r lot r.ranking

record_first : (a b : Bool) (q : Progress) (n : Result Reading Refusal) →
    before (elim a [ true ↦ Err Misplaced | false ↦ elim b [ true ↦ Err TooMany | false ↦ Ok q ] ]) n ≡ elim a [ true ↦ Err Misplaced | false ↦ elim b [ true ↦ Err TooMany | false ↦ n ] ]
record_first true b q n = refl
record_first false true q n = refl
record_first false false q n = refl

-- the judges of the walk make the five tests in their order
abbrev by_words_before : List (Option BookWord) → Reading → BookWord → Result Reading Refusal
by_words_before os r b = in_order (misplaced os b) (too_many os b) (unknown os b) (twice os b) (overtargeted os b) (next r b)

lot_judged : (os : List (Option BookWord)) (r : Reading) (lot : ℕ) → Reads os r → (v : Option ℕ) → r.ranking ≡ v →
    before {B = Reading} (elim (is_some v) [ true ↦ Ok (progress_of r) | false ↦ Err Misplaced ])
    (elim v [
      | None ↦ Err Misplaced
      | Some l ↦
          elim (leb 256 lot) [
            | true ↦ Err Unknown
            | false ↦
                elim (has (lane_of r.book l).ranking lot) [
                  | true ↦ Err Twice
                  | false ↦
                      Ok (record { book = with_lot r.book l lot; ranking = r.ranking })
                ]
          ]
    ])
    ≡ in_order (not (any_of is_rank os)) false (leb 256 lot) (any_of (names_lot lot) (since is_rank os)) false (ranked r lot v)
unfolding ranked
lot_judged os r lot k None e =
    let none : any_of is_rank os ≡ false = sym k.ranking ∙ ap is_some e in
    sym (ap (λ b. in_order (not b) false (leb 256 lot) (any_of (names_lot lot) (since is_rank os)) false r) none)
lot_judged os r lot k (Some l) e =
    let some : is_some r.ranking ≡ true = ap is_some e in
    let rank = sym some ∙ k.ranking in
    let listed = k.lots l lot e in
    λ i. in_order (not (rank i)) false (leb 256 lot) (listed i) false (record { book = with_lot r.book l lot; ranking = r.ranking })

judge_order : (os : List (Option BookWord)) (r : Reading) → Reads os r → (b : BookWord) → judge r (Some b) ≡ by_words_before os r b
unfolding next
judge_order os r k (Shed limit) =
    record_first (is_some r.ranking) (leb 8 (length r.book.sheds)) _ (noted r (Shed limit)) ∙
    (λ i. in_order (k.ranking i) (leb 8 (k.sheds i)) false false false (record { book = with_shed r.book limit; ranking = r.ranking }))
judge_order os r k (Lane t q) =
    record_first (is_some r.ranking || eqb (length r.book.sheds) 0) (leb 8 (length (last_terms r.book).capacities) || leb 32 (length r.book.lanes)) _ (noted r (Lane t q)) ∙
    (λ i. in_order (k.ranking i || k.some_shed i) (leb 8 (k.here i) || leb 32 (k.lanes i)) false false (ltb q t || ltb (k.limit i) (k.targets i + t)) (record { book = with_lane r.book t q; ranking = r.ranking }))
judge_order os r k (Rank l) =
    let then : Reading = record { book = with_record r.book l; ranking = Some l } in
    elim (cases_Bool (leb (length r.book.lanes) l)) [
      | inl past ↦
          let past' : leb (count_of is_lane os) l ≡ true = sym (ap (λ n. leb n l) k.lanes) ∙ past in
          (λ i. in_order false false (past i) (lane_of r.book l).recorded false then) ∙ sym (λ i. in_order false false (past' i) (any_of (ranks_lane l) os) false then)
      | inr inside ↦
          let listed = k.recorded l (leb-false (length r.book.lanes) l inside) in
          λ i. in_order false false (leb (k.lanes i) l) (listed i) false then
    ]
judge_order os r k (Next lot) = lot_judged os r lot k r.ranking refl

strange_least : (x : Refusal) → strange_only x ≡ true → 2 ≤ (standing x).0
strange_least Ragged e = absurd cc
strange_least _ e = omega arith

-- the walk refuses a word with its first fault
word_refused : (os : List (Option BookWord)) (r : Reading) → Reads os r → (o : Option BookWord) (x : Refusal) → judge r o ≡ Err x →
    (faulty x os o ≡ true) × ((y : Refusal) → faulty y os o ≡ true → (standing x).0 ≤ (standing y).0)
word_refused os r k None x e = let is : Strange ≡ x = cc in subst (λ v. (strange_only v ≡ true) × ((y : Refusal) → strange_only y ≡ true → (standing v).0 ≤ (standing y).0)) is (refl, strange_least)
word_refused os r k (Some b) x e =
    let found = first_wrong (misplaced os b) (too_many os b) (unknown os b) (twice os b) (overtargeted os b) (next r b) x (sym (judge_order os r k b) ∙ e) in (
      wrong_flags os b x ∙ found.0,
      λ y h. let l = least (misplaced os b) (too_many os b) (unknown os b) (twice os b) (overtargeted os b) y (sym (wrong_flags os b y) ∙ h) in omega (arith, l, found.1),
    )

reads_next_word : (os : List (Option BookWord)) (r : Reading) → Reads os r → (b : BookWord) → ((x : Refusal) → wrong x os b ≡ false) → Reads (Some b ∷ os) (next r b)
unfolding next ranked
reads_next_word os r k (Shed limit) none = reads_shed os r limit k
reads_next_word os r k (Lane t q) none =
    let placed = or_parts (any_of is_rank os) (not (any_of is_shed os)) (none Misplaced) in
    let some : 0 < length r.book.sheds = let apart = eqb-false (length r.book.sheds) 0 (k.some_shed ∙ placed.1) in omega (arith, apart) in
    reads_lane os r t q some (k.ranking ∙ placed.0) k
reads_next_word os r k (Rank l) none =
    let inside : l < length r.book.lanes = omega (arith, leb-false (count_of is_lane os) l (none Unknown), k.lanes) in
    reads_rank os r l inside (k.recorded l inside ∙ none Twice) k
reads_next_word os r k (Next lot) none =
    (elim r.ranking as (λ v. r.ranking ≡ v → Reads (Some (Next lot) ∷ os) (ranked r lot v)) [
      | None ↦ λ e. let some = not-false (any_of is_rank os) (none Misplaced) in let gone = sym k.ranking ∙ ap is_some e in absurd cc
      | Some l ↦ λ e. reads_next os r l lot e k
    ]) refl

word_accepted : (os : List (Option BookWord)) (r : Reading) → Reads os r → (o : Option BookWord) (s : Reading) → judge r o ≡ Ok s → Reads (o ∷ os) s × ((x : Refusal) → faulty x os o ≡ true → ⊥)
word_accepted os r k None s e = absurd cc
word_accepted os r k (Some b) s e =
    let found = none_wrong (misplaced os b) (too_many os b) (unknown os b) (twice os b) (overtargeted os b) (next r b) s (sym (judge_order os r k b) ∙ e) in
    let none : (x : Refusal) → wrong x os b ≡ false = λ x. wrong_flags os b x ∙ found.0 x in
    (subst (Reads (Some b ∷ os)) (sym found.1) (reads_next_word os r k b none), λ x h. both_ways (wrong x os b) (none x) h)

-- the words before word k of a list, behind those of os
earlier : List (Option BookWord) → List ℕ → ℕ → List (Option BookWord)
earlier os ws zero = os
earlier os [] (suc k) = os
earlier os (w ∷ ws) (suc k) = earlier (book_word w ∷ os) ws k

earlier_is : (os : List (Option BookWord)) (ws : List ℕ) (k : ℕ) → earlier os ws k ≡ map book_word (reverse (take k ws)) ++ os
unfolding earlier
earlier_is os ws zero = refl
earlier_is os [] (suc k) = refl
earlier_is os (w ∷ ws) (suc k) =
    earlier_is (book_word w ∷ os) ws k
    ∙ sym (append_assoc (map book_word (reverse (take k ws))) (book_word w ∷ []) os)
    ∙ ap (λ v. v ++ os) (sym (ap (map book_word) (reverse-cons w (take k ws)) ∙ map-append book_word (reverse (take k ws)) (w ∷ [])))

rest_of : ℕ → List ℕ → Result Reading Refusal → Result Reading Fault
rest_of place ws t = elim t [ Err x ↦ Err (fault x place) | Ok s ↦ walk s (suc place) ws ]

walk_clean : (os : List (Option BookWord)) (r : Reading) → Reads os r → (place : ℕ) (ws : List ℕ) (s : Reading) → walk r place ws ≡ Ok s → (p : ℕ) (x : Refusal) → p < length ws →
    faulty x (earlier os ws p) (book_word (get_or ws p 0)) ≡ true → ⊥
unfolding rest_of earlier
walk_clean os r k place [] s e p x h bad = omega arith
walk_clean os r k place (w ∷ ws) s e p x h bad =
    (elim (taken r w) as (λ t. taken r w ≡ t → rest_of place ws t ≡ Ok s → ⊥) [
      | Err y ↦ λ t g. absurd cc
      | Ok u ↦ λ t g.
          let word = word_accepted os r k (book_word w) u t in
          (elim p as (λ p. p < length (w ∷ ws) → faulty x (earlier os (w ∷ ws) p) (book_word (get_or (w ∷ ws) p 0)) ≡ true → ⊥) [
            | zero ↦ λ h bad. word.1 x bad
            | suc q ↦ λ h bad. walk_clean (book_word w ∷ os) u word.0 (suc place) ws s g q x (omega arith) bad
          ]) h bad
    ]) refl e

-- the fault that a walk tells
record Found (os : List (Option BookWord)) (ws : List ℕ) (place : ℕ) (f : Fault) : Type 0 where
  at : ℕ
  inside : at < length ws
  is : f ≡ fault f.refusal (place + at)
  there : faulty f.refusal (earlier os ws at) (book_word (get_or ws at 0)) ≡ true
  least : (y : Refusal) → faulty y (earlier os ws at) (book_word (get_or ws at 0)) ≡ true → (standing f.refusal).0 ≤ (standing y).0
  none : (p : ℕ) (y : Refusal) → p < at → faulty y (earlier os ws p) (book_word (get_or ws p 0)) ≡ true → ⊥

walk_found : (os : List (Option BookWord)) (r : Reading) → Reads os r → (place : ℕ) (ws : List ℕ) (f : Fault) → walk r place ws ≡ Err f → Found os ws place f
unfolding rest_of earlier
walk_found os r k place [] f e = absurd cc
walk_found os r k place (w ∷ ws) f e =
    (elim (taken r w) as (λ t. taken r w ≡ t → rest_of place ws t ≡ Err f → Found os (w ∷ ws) place f) [
      | Err x ↦ λ t g.
          let is : fault x place ≡ f = cc in
          let word = word_refused os r k (book_word w) x t in
          let here : place ≡ place + 0 = omega arith in
          subst (Found os (w ∷ ws) place) is (record { at = 0; inside = omega arith; is = ap (fault x) here; there = word.0; least = word.1; none = λ p y h bad. omega arith })
      | Ok u ↦ λ t g.
          let word = word_accepted os r k (book_word w) u t in
          let rest = walk_found (book_word w ∷ os) u word.0 (suc place) ws f g in
          let here : suc place + rest.at ≡ place + suc rest.at = omega arith in
          record {
            at = suc rest.at;
            inside = omega (arith, rest.inside);
            is = rest.is ∙ ap (fault f.refusal) here;
            there = rest.there;
            least = rest.least;
            none = λ p y h bad.
                (elim p as (λ p. p < suc rest.at → faulty y (earlier os (w ∷ ws) p) (book_word (get_or (w ∷ ws) p 0)) ≡ true → ⊥) [
                  | zero ↦ λ h bad. word.1 y bad
                  | suc q ↦ λ h bad. rest.none q y (omega arith) bad
                ]) h bad;
          }
    ]) refl e

-- the same of the words before as the sheet has them
before_is : (ws : List ℕ) (p : ℕ) → earlier [] ws p ≡ map book_word (reverse (take p ws))
before_is ws p = earlier_is [] ws p ∙ append-nil (map book_word (reverse (take p ws)))

abbrev book_of : Result Reading Fault → Result Contents Fault
book_of (Err f) = Err f
book_of (Ok r) = Ok r.book

clean : (ws : List ℕ) (s : Reading) → walk unread 0 ws ≡ Ok s → FirstFault ws (Ok tt)
clean ws s e = λ p x h bad. walk_clean [] unread nothing_read 0 ws s e p x h (subst (λ os. faulty x os (book_word (get_or ws p 0)) ≡ true) (sym (before_is ws p)) bad)

told : (ws : List ℕ) (f : Fault) → walk unread 0 ws ≡ Err f → FirstFault ws (Err f)
told ws f e =
    let found = walk_found [] unread nothing_read 0 ws f e in
    let place : f.place ≡ found.at = ap (λ g. g.place) found.is ∙ omega arith in
    let has : (p : ℕ) (y : Refusal) → HasFault ws p y → faulty y (earlier [] ws p) (book_word (get_or ws p 0)) ≡ true =
    λ p y h. subst (λ os. faulty y os (book_word (get_or ws p 0)) ≡ true) (sym (before_is ws p)) h
    in (
      found.is ∙ ap (fault f.refusal) (omega (arith, place)),
      omega (arith, place, found.inside),
      subst (λ p. HasFault ws p f.refusal) (sym place) (subst (λ os. faulty f.refusal os (book_word (get_or ws found.at 0)) ≡ true) (before_is ws found.at) found.there),
      (λ y h. found.least y (has found.at y (subst (λ p. HasFault ws p y) place h))),
      λ p y h bad. found.none p y (omega (arith, place)) (has p y bad),
    )

pub first_fault : (ws : List ℕ) → FirstFault ws (answered (opening ws))
first_fault ws =
    (elim (walk unread 0 ws) as (λ t. walk unread 0 ws ≡ t → FirstFault ws (answered (book_of t))) [ Ok s ↦ λ e. clean ws s e | Err f ↦ λ e. told ws f e ]) refl

pub first_fault_answered : (ws : List ℕ) (answer : Result (Unit {0}) Fault) → answer ≡ answered (opening ws) → FirstFault ws answer
first_fault_answered ws answer e = subst (FirstFault ws) (sym e) (first_fault ws)
