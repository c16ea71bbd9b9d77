-- A walk over the words of a sheet, by words, by records and as a whole.
use Rattle.std.proofs.Common.{◌≡◌, ℕ, suc, ◌+◌, ◌-◌, ◌<◌, Bool, true, false, ◌||◌, eqb, leb, List, [], ◌∷◌, ◌++◌, length, get_or, take, drop, set, is_some, is_ok, Some, None, Ok, Err, Option, Result, sym, refl, ap, ◌∙◌, subst, arith, length-set}
use Rattle.std.proofs.lemmas.List.{get_or-set_same, get_or_push, length_push, drop_more, drop-drop}
use Rattle.std.specs.Result.{result_ok}
use Rattle.sheets.specs.declared.fault.Refusal.{Refusal}
use Rattle.sheets.specs.declared.fault.Refusal.TheVariants.{Strange, Misplaced, TooMany, Unknown, Twice, Overtargeted}
use Rattle.sheets.specs.declared.fault.Fault.{Fault}
use Rattle.sheets.specs.declared.progress.Progress.{Progress}
use Rattle.sheets.specs.declared.word.BookWord.{BookWord}
use Rattle.sheets.specs.declared.word.BookWord.TheVariants.{Shed, Lane, Rank, Next}
use Rattle.sheets.specs.Faults.{fault, located}
use Rattle.sheets.specs.Progress.{admits, admits_lot, judged, accepts, passes, along, run_length}
use Rattle.sheets.specs.declared.reader.Part.{Part}
use Rattle.sheets.specs.Records.{Page, page, next_record, record_progress}
use Rattle.sheets.specs.Words.{book_word}
use Rattle.sheets.proofs.Passes.{Handed, handed}
use Rattle.sheets.proofs.Admits.{lane_admitted}
use Rattle.sharing.specs.Cards.{overtargeted, more_terms}
use Rattle.books.specs.Contents.{Contents, blank_entry, last_terms, last_shed, no_shed, with_shed, with_lane, with_record, with_lot, lane_of, ranked_entry, recorded_entry}
use Rattle.books.specs.Lanes.{Entry, has}
use Rattle.books.specs.Opening.{Reading, progress_of, noted, before, judge, taken, walk, unread, opening, Outcome}

-- an outcome says what the definition gives
pub refused_outcome : {E : Type 0} (t : Result Reading E) (x : E) (s : Reading) → Outcome t (Err x) s → t ≡ Err x
refused_outcome (Ok r) x s o = let e = o.0 in cc
refused_outcome (Err y) x s o = cc

pub accepted_outcome : {E : Type 0} (t : Result Reading E) (s : Reading) → Outcome t (Ok tt) s → t ≡ Ok s
accepted_outcome (Ok r) s o = ap Ok (sym o.1)
accepted_outcome (Err y) s o = cc

pub outcome_refused : {E : Type 0} (t : Result Reading E) (x : E) (s : Reading) → t ≡ Err x → Outcome t (Err x) s
outcome_refused t x s e = subst (λ u. Outcome u (Err x) s) (sym e) refl

pub outcome_accepted : {E : Type 0} (t : Result Reading E) (s : Reading) → t ≡ Ok s → Outcome t (Ok tt) s
outcome_accepted t s e = subst (λ u. Outcome u (Ok tt) s) (sym e) (refl, refl)

-- nested tests that came out accepted
pub one_test : {A E : Type 0} (b : Bool) (e : E) (x s : A) → ◌≡◌ {A = Result A E} (elim b [ true ↦ Err e | false ↦ Ok x ]) (Ok s) → s ≡ x
one_test true e x s h = cc
one_test false e x s h = cc

other_test : {A E : Type 0} (b : Bool) (e : E) (x s : A) → ◌≡◌ {A = Result A E} (elim b [ true ↦ Ok x | false ↦ Err e ]) (Ok s) → x ≡ s
other_test true e x s h = cc
other_test false e x s h = cc

pub two_tests : {A E : Type 0} (b c : Bool) (e f : E) (x s : A) → ◌≡◌ {A = Result A E} (elim b [ true ↦ Err e | false ↦ elim c [ true ↦ Err f | false ↦ Ok x ] ]) (Ok s) → s ≡ x
two_tests true c e f x s h = cc
two_tests false true e f x s h = cc
two_tests false false e f x s h = cc

-- the last shed, behind one shed or one lane more
pub last_of_shed : (c : Contents) (limit : ℕ) → last_terms (with_shed c limit) ≡ record { shed = length c.sheds; limit = limit; capacities = []; targets = [] }
last_of_shed c limit = get_or_push c.sheds _ no_shed (last_shed (with_shed c limit)) (omega (arith, length_push c.sheds (record { shed = length c.sheds; limit = limit; capacities = []; targets = [] })))

pub last_of_lane : (c : Contents) (target capacity : ℕ) → 0 < length c.sheds → last_terms (with_lane c target capacity) ≡ more_terms (last_terms c) target capacity
last_of_lane c target capacity some =
    let wider = more_terms (last_terms c) target capacity in
    ap (λ n. get_or (with_lane c target capacity).sheds (n - 1) no_shed) (length-set c.sheds (last_shed c) wider) ∙ get_or-set_same c.sheds (last_shed c) wider no_shed (omega arith)

-- the record reader and the book keep step: what the reader knows is what the book says
module _ (c : Contents) (l : Option ℕ) where
  shed_progress : (limit : ℕ) → progress_of (record { book = with_shed c limit; ranking = l }) ≡ record { sheds = length c.sheds + 1; lanes = length c.lanes; lanes_here = 0; ranking = is_some l }
  shed_progress limit = λ i. record {
    sheds = length_push c.sheds (record { shed = length c.sheds; limit = limit; capacities = []; targets = [] }) i;
    lanes = length c.lanes;
    lanes_here = ap (λ t. length t.capacities) (last_of_shed c limit) i;
    ranking = is_some l;
  }

  lane_progress : (target capacity : ℕ) → 0 < length c.sheds →
      progress_of (record { book = with_lane c target capacity; ranking = l }) ≡
      record { sheds = length c.sheds; lanes = length c.lanes + 1; lanes_here = length (last_terms c).capacities + 1; ranking = is_some l }
  lane_progress target capacity some = λ i. record {
    sheds = length-set c.sheds (last_shed c) (more_terms (last_terms c) target capacity) i;
    lanes = length_push c.lanes (blank_entry (last_shed c) (length (last_terms c).capacities)) i;
    lanes_here = (ap (λ t. length t.capacities) (last_of_lane c target capacity some) ∙ length_push (last_terms c).capacities capacity) i;
    ranking = is_some l;
  }

  entry_progress : (n : ℕ) (e : Entry) → progress_of (record { book = record { sheds = c.sheds; lanes = set c.lanes n e }; ranking = l }) ≡ progress_of (record { book = c; ranking = l })
  entry_progress n e = λ i. record { sheds = length c.sheds; lanes = length-set c.lanes n e i; lanes_here = length (last_terms c).capacities; ranking = is_some l }

lot_then : (p q : Progress) → admits_lot p ≡ Ok q → p ≡ q
lot_then p q e = other_test p.ranking Misplaced p q e

lot_noted : (r s : Reading) (lot : ℕ) (o : Option ℕ) →
    ◌≡◌ {A = Result Reading Refusal} (elim o [
      | None ↦ Err Misplaced
      | Some l ↦
          elim (leb 256 lot) [
            | true ↦ Err Unknown
            | false ↦
                elim (has (lane_of r.book l).ranking lot) [
                  | true ↦ Err Twice
                  | false ↦
                      Ok (record { book = with_lot r.book l lot; ranking = r.ranking })
                ]
          ]
    ]) (Ok s) → progress_of s ≡ progress_of r
lot_noted r s lot None e = cc
lot_noted r s lot (Some l) e =
    let is = two_tests (leb 256 lot) (has (lane_of r.book l).ranking lot) Unknown Twice (record { book = with_lot r.book l lot; ranking = r.ranking }) s e in
    ap progress_of is ∙ entry_progress r.book r.ranking l (ranked_entry (lane_of r.book l) lot)

pub progress_noted : (r s : Reading) (b : BookWord) (q : Progress) → admits (progress_of r) b ≡ Ok q → noted r b ≡ Ok s → progress_of s ≡ q
progress_noted r s (Shed limit) q a n =
    let is : s ≡ record { book = with_shed r.book limit; ranking = r.ranking } = cc in
    let then = two_tests (progress_of r).ranking (leb 8 (length r.book.sheds)) Misplaced TooMany _ q a in
    ap progress_of is ∙ shed_progress r.book r.ranking limit ∙ sym then
progress_noted r s (Lane target capacity) q a n =
    let is = one_test (overtargeted (last_terms r.book) target capacity) Overtargeted (record { book = with_lane r.book target capacity; ranking = r.ranking }) s n in
    let then = two_tests ((progress_of r).ranking || eqb (length r.book.sheds) 0) (leb 8 (length (last_terms r.book).capacities) || leb 32 (length r.book.lanes)) Misplaced TooMany _ q a in
    let room = lane_admitted (progress_of r) (ap is_ok a) in
    ap progress_of is ∙ lane_progress r.book r.ranking target capacity room.1 ∙ sym then
progress_noted r s (Rank l) q a n =
    let is = two_tests (leb (length r.book.lanes) l) (lane_of r.book l).recorded Unknown Twice (record { book = with_record r.book l; ranking = Some l }) s n in
    let then : q ≡ progress_of (record { book = r.book; ranking = Some l }) = cc in
    ap progress_of is ∙ entry_progress r.book (Some l) l (recorded_entry (lane_of r.book l)) ∙ sym then
progress_noted r s (Next lot) q a n = lot_noted r s lot r.ranking n ∙ lot_then (progress_of r) q a

-- an admitted word is taken as the book notes it
noted_when : (t : Result Progress Refusal) (n : Result Reading Refusal) → is_ok t ≡ true → before t n ≡ n
noted_when (Ok p) n e = refl
noted_when (Err x) n e = absurd cc

pub word_taken : (r : Reading) (w : ℕ) (b : BookWord) → book_word w ≡ Some b → is_ok (admits (progress_of r) b) ≡ true → taken r w ≡ noted r b
word_taken r w b is admitted =
    ap (judge r) is ∙ noted_when (admits (progress_of r) b) (noted r b) admitted

accepted_then : (r u : Reading) (q : Progress) (o : Option BookWord) → elim o [ None ↦ None | Some b ↦ result_ok (admits (progress_of r) b) ] ≡ Some q →
    judge r o ≡ Ok u → progress_of u ≡ q
accepted_then r u q None a n = cc
accepted_then r u q (Some b) a n =
    (elim (admits (progress_of r) b) as (λ t. admits (progress_of r) b ≡ t → result_ok t ≡ Some q → before t (noted r b) ≡ Ok u → progress_of u ≡ q) [
      | Ok p ↦ λ e a n. let same : p ≡ q = cc in progress_noted r u b q (e ∙ ap Ok same) n
      | Err x ↦ λ e a n. cc
    ]) refl a n

-- a walk of accepted words
pub step_accepted : (r s : Reading) (place w : ℕ) (ws : List ℕ) → passes (progress_of r) (w ∷ ws) ≡ true → taken r w ≡ Ok s → passes (progress_of s) ws ≡ true
step_accepted r s place w ws pass e =
    (elim (accepts (progress_of r) w) as (λ o. accepts (progress_of r) w ≡ o → elim o [ None ↦ false | Some q ↦ passes q ws ] ≡ true → passes (progress_of s) ws ≡ true) [
      | None ↦ λ a h. absurd cc
      | Some q ↦ λ a h. ap (λ p. passes p ws) (accepted_then r s q (book_word w) a e) ∙ h
    ]) refl pass

along_accepted : (r s : Reading) (w : ℕ) (ws : List ℕ) → passes (progress_of r) (w ∷ ws) ≡ true → taken r w ≡ Ok s → along (progress_of s) ws ≡ along (progress_of r) (w ∷ ws)
along_accepted r s w ws pass e =
    (elim (accepts (progress_of r) w) as (λ o. accepts (progress_of r) w ≡ o → elim o [ None ↦ false | Some q ↦ passes q ws ] ≡ true → along (progress_of s) ws ≡ elim o [ None ↦ progress_of r | Some q ↦ along q ws ]) [
      | None ↦ λ a h. absurd cc
      | Some q ↦ λ a h. ap (λ p. along p ws) (accepted_then r s q (book_word w) a e)
    ]) refl pass

-- the rest of a walk, behind a word or behind a record
abbrev behind : ℕ → List ℕ → Result Reading Refusal → Result Reading Fault
behind place ws (Err x) = Err (fault x place)
behind place ws (Ok s) = walk s (suc place) ws

abbrev pub onto : ℕ → List ℕ → Result Reading Fault → Result Reading Fault
onto place ws (Err f) = Err f
onto place ws (Ok s) = walk s place ws

taken_from_walk : (t : Result Reading Refusal) (place : ℕ) (s : Reading) → behind place [] t ≡ Ok s → t ≡ Ok s
taken_from_walk (Ok u) place s e = cc
taken_from_walk (Err x) place s e = cc

refused_from_walk : (t : Result Reading Refusal) (place : ℕ) (f : Fault) (ws : List ℕ) → behind place [] t ≡ Err f → behind place ws t ≡ Err f
refused_from_walk (Ok u) place f ws e = cc
refused_from_walk (Err x) place f ws e = e

-- the first word decides, or the walk goes on behind it
pub first_accepted : (r s : Reading) (place w : ℕ) (ws : List ℕ) → passes (progress_of r) (w ∷ ws) ≡ true → walk r place (w ∷ []) ≡ Ok s →
    (walk r place (w ∷ ws) ≡ walk s (suc place) ws) × (passes (progress_of s) ws ≡ true)
first_accepted r s place w ws pass e = let t = taken_from_walk (taken r w) place s e in (ap (behind place ws) t, step_accepted r s place w ws pass t)

pub first_refused : (r : Reading) (place w : ℕ) (ws : List ℕ) (f : Fault) → walk r place (w ∷ []) ≡ Err f → walk r place (w ∷ ws) ≡ Err f
first_refused r place w ws f e = refused_from_walk (taken r w) place f ws e

-- the first word of a record that passes is accepted
pub first_passes : (p : Progress) (w : ℕ) (ws : List ℕ) → passes p (w ∷ ws) ≡ true → is_some (accepts p w) ≡ true
first_passes p w ws e =
    (elim (accepts p w) as (λ o. elim o [ None ↦ false | Some q ↦ passes q ws ] ≡ true → is_some o ≡ true) [
      | None ↦ λ h. h
      | Some q ↦ λ h. refl
    ]) e

-- a walk over a record and what is behind it
pub walk_append : (r : Reading) (place : ℕ) (xs ys : List ℕ) → walk r place (xs ++ ys) ≡ onto (place + length xs) ys (walk r place xs)
walk_append r place [] ys = ap (λ n. walk r n ys) (omega arith)
walk_append r place (w ∷ xs) ys =
    elim (taken r w) as (λ t. behind place (xs ++ ys) t ≡ onto (place + suc (length xs)) ys (behind place xs t)) [
      | Err x ↦ refl
      | Ok s ↦ let same : suc place + length xs ≡ place + suc (length xs) = omega arith in walk_append s (suc place) xs ys ∙ ap (λ n. onto n ys (walk s (suc place) xs)) same
    ]

-- behind a record that passed, the reader knows what the book says
pub walk_progress : (r s : Reading) (place : ℕ) (ws : List ℕ) → passes (progress_of r) ws ≡ true → walk r place ws ≡ Ok s → progress_of s ≡ along (progress_of r) ws
walk_progress r s place [] pass e = let same : s ≡ r = cc in ap progress_of same
walk_progress r s place (w ∷ ws) pass e =
    (elim (taken r w) as (λ t. taken r w ≡ t → behind place ws t ≡ Ok s → progress_of s ≡ along (progress_of r) (w ∷ ws)) [
      | Err x ↦ λ t h. absurd cc
      | Ok u ↦ λ t h. walk_progress u s (suc place) ws (step_accepted r u place w ws pass t) h ∙ along_accepted r u w ws pass t
    ]) refl e

-- what the record reader refuses the walk refuses
judged_refused : (r : Reading) (place : ℕ) (ws : List ℕ) (f : Fault) (o : Option BookWord) →
    ◌≡◌ {A = Result Progress Fault} (elim o [ None ↦ Err (fault Strange place) | Some b ↦ located place (admits (progress_of r) b) ]) (Err f) → behind place ws (judge r o) ≡ Err f
judged_refused r place ws f None e = cc
judged_refused r place ws f (Some b) e =
    (elim (admits (progress_of r) b) as (λ t. located place t ≡ Err f → behind place ws (before t (noted r b)) ≡ Err f) [
      | Ok p ↦ λ h. absurd cc
      | Err x ↦ λ h. cc
    ]) e

pub record_refused : (r : Reading) (place : ℕ) (ws : List ℕ) (f : Fault) → next_record (progress_of r) place ws ≡ Err f → walk r place ws ≡ Err f
record_refused r place [] f e = cc
record_refused r place (w ∷ ws) f e =
    judged_refused r place ws f (book_word w)
    ((elim (judged (progress_of r) w place) as (λ t. ◌≡◌ {A = Result (Option Page) Fault} (elim t [ Err g ↦ Err g | Ok q ↦ Ok (Some (record { words = w ∷ take (run_length q ws) ws; place = place })) ]) (Err f) → t ≡ Err f) [
      | Err g ↦ λ h. cc
      | Ok q ↦ λ h. cc
    ]) e)

ok_from_part : (t : Result Progress Refusal) → is_some (result_ok t) ≡ true → is_ok t ≡ true
ok_from_part (Ok p) e = refl
ok_from_part (Err x) e = e

accepted_word : (p : Progress) (o : Option BookWord) (b : BookWord) → o ≡ Some b → is_some (elim o [ None ↦ None | Some b ↦ result_ok (admits p b) ]) ≡ true → is_ok (admits p b) ≡ true
accepted_word p o b is some = ok_from_part (admits p b) (subst (λ o. is_some (elim o [ None ↦ None | Some b ↦ result_ok (admits p b) ]) ≡ true) is some)

-- an accepted word that the book refuses is what the walk refuses
pub word_refused : (r : Reading) (place w : ℕ) (b : BookWord) (x : Refusal) → book_word w ≡ Some b → is_some (accepts (progress_of r) w) ≡ true → noted r b ≡ Err x → walk r place (w ∷ []) ≡ Err (fault x place)
word_refused r place w b x is some e = ap (behind place []) (word_taken r w b is (accepted_word (progress_of r) (book_word w) b is some) ∙ e)

-- the first word that is left of a list is accepted, and it decides or the walk goes on behind it
module _ (ws : List ℕ) (i : ℕ) (h : i < length ws) where
  pub at_passes : (p : Progress) → passes p (drop i ws) ≡ true → is_some (accepts p (get_or ws i 0)) ≡ true
  at_passes p pass = first_passes p (get_or ws i 0) (drop (i + 1) ws) (subst (λ v. passes p v ≡ true) (drop_more ws i 0 h) pass)

  pub at_accepted : (r s : Reading) (place : ℕ) → passes (progress_of r) (drop i ws) ≡ true → walk r (place + i) (get_or ws i 0 ∷ []) ≡ Ok s →
      (passes (progress_of s) (drop (i + 1) ws) ≡ true) × (walk s (place + (i + 1)) (drop (i + 1) ws) ≡ walk r (place + i) (drop i ws))
  at_accepted r s place pass e =
      let first = first_accepted r s (place + i) (get_or ws i 0) (drop (i + 1) ws) (subst (λ v. passes (progress_of r) v ≡ true) (drop_more ws i 0 h) pass) e in
      let next : place + (i + 1) ≡ suc (place + i) = omega arith in
      (first.1, ap (λ n. walk s n (drop (i + 1) ws)) next ∙ sym first.0 ∙ ap (walk r (place + i)) (sym (drop_more ws i 0 h)))

  pub at_refused : (r : Reading) (place : ℕ) (f : Fault) → walk r (place + i) (get_or ws i 0 ∷ []) ≡ Err f → walk r (place + i) (drop i ws) ≡ Err f
  at_refused r place f e = ap (walk r (place + i)) (drop_more ws i 0 h) ∙ first_refused r (place + i) (get_or ws i 0) (drop (i + 1) ws) f e

-- the walk over a record that is handed out, and over what is behind it
module _ (r : Reading) (at : ℕ) (ws : List ℕ) (page : Page) (hand : Handed (progress_of r) at ws page) where
  handed_walk : walk r at ws ≡ onto (at + length page.words) (drop (length page.words) ws) (walk r page.place page.words)
  handed_walk =
      ap (walk r at) (sym hand.front)
      ∙ walk_append r at page.words (drop (length page.words) ws)
      ∙ ap (λ n. onto (at + length page.words) (drop (length page.words) ws) (walk r n page.words)) (sym hand.place)

-- a record of the sheet that is read, or at which the sheet is refused
module _ (r : Reading) (sheet : List ℕ) (at : ℕ) (page : Page) (hand : Handed (progress_of r) at (drop at sheet) page) where
  whole_walk : walk r at (drop at sheet) ≡ onto (at + length page.words) (drop (at + length page.words) sheet) (walk r page.place page.words)
  whole_walk =
      handed_walk r at (drop at sheet) page hand
      ∙ ap (λ v. onto (at + length page.words) v (walk r page.place page.words)) (drop-drop (length page.words) at sheet)

  pub record_read : (s : Reading) → walk r page.place page.words ≡ Ok s →
      (record_progress (progress_of r) at (drop at sheet) ≡ progress_of s) × (walk s (at + length page.words) (drop (at + length page.words) sheet) ≡ walk r at (drop at sheet))
  record_read s e = (
    hand.progress ∙ sym (walk_progress r s page.place page.words hand.passing e),
    sym (whole_walk ∙ ap (onto (at + length page.words) (drop (at + length page.words) sheet)) e),
  )

  pub record_stopped : (f : Fault) → walk r page.place page.words ≡ Err f → walk r at (drop at sheet) ≡ Err f
  record_stopped f e = whole_walk ∙ ap (onto (at + length page.words) (drop (at + length page.words) sheet)) e

-- a record that the reader hands out or refuses, where what it knows is what the book says: the walk reads the record and
-- goes on behind it, or stops in it
module _ (r : Reading) (p : Progress) (at : ℕ) (ws : List ℕ) (known : p ≡ progress_of r) where
  pub part_refused : (f : Fault) → Err f ≡ next_record p at ws → walk r at ws ≡ Err f
  part_refused f e = record_refused r at ws f (ap (λ q. next_record q at ws) (sym known) ∙ sym e)

  module _ (part : Part) (e : Ok (Some (page part)) ≡ next_record p at ws) where
    pub part_handed : Handed (progress_of r) at ws (page part)
    part_handed = handed (progress_of r) at ws (page part) (ap (λ q. next_record q at ws) (sym known) ∙ sym e)

    pub part_read : (s : Reading) → walk r part.place part.words.now ≡ Ok s →
        (record_progress p at ws ≡ progress_of s) × (walk s (at + length part.words.now) (drop (length part.words.now) ws) ≡ walk r at ws)
    part_read s e = (
      ap (λ q. record_progress q at ws) known ∙ part_handed.progress ∙ sym (walk_progress r s part.place part.words.now part_handed.passing e),
      sym (handed_walk r at ws (page part) part_handed ∙ ap (onto (at + length part.words.now) (drop (length part.words.now) ws)) e),
    )

    pub part_stopped : (f : Fault) → walk r part.place part.words.now ≡ Err f → walk r at ws ≡ Err f
    part_stopped f e = handed_walk r at ws (page part) part_handed ∙ ap (onto (at + length part.words.now) (drop (length part.words.now) ws)) e

-- what the whole sheet means, from its walk
pub opening_refused : (sheet : List ℕ) (f : Fault) → walk unread 0 sheet ≡ Err f → opening sheet ≡ Err f
opening_refused sheet f e = ap (λ t. elim t [ Err g ↦ Err g | Ok r ↦ Ok r.book ]) e
