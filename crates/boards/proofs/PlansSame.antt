-- The same accepted slips give the same plan, and its count is what the lists say.
use Rattle.std.proofs.Common.{◌≡◌, ℕ, zero, suc, ◌<◌, Bool, true, false, List, [], ◌∷◌, ◌++◌, length, Some, None, Option, sym, refl, ap, ◌∙◌, subst, inl, inr}
use mathlib.Core.Path.{fun_ext}
use Rattle.std.proofs.lemmas.List.{get_or_past}
use Rattle.std.proofs.lemmas.Bool.{cases_lt, both_ways, eqb-true, eq-eqb}
use Rattle.sharing.specs.Cards.{Terms}
use Rattle.sharing.specs.Rules.{at, on_card, Row, Meaning, Lawful, Alike}
use Rattle.sharing.specs.Sums.{on_card_at, sum_same}
use Rattle.books.specs.Contents.{Contents, lane_of, no_entry, ranking_of}
use Rattle.books.specs.Laid.{Laid, shed_of}
use Rattle.matching.specs.Offers.{Offers, best, supply_of, chosen}
use Rattle.matching.specs.Vectors.{Least}
use Rattle.matching.specs.Stands.{Stands}
use Rattle.matching.proofs.Sheds.{supply_small}
use Rattle.matching.proofs.Orders.{orders_do_not_matter}
use Rattle.boards.specs.declared.line.Line.{Line}
use Rattle.boards.specs.declared.line.Line.TheVariants.{Absent, Looking, Held, Spent}
use Rattle.boards.specs.Lines.{holds, looks, tried_of, wishes_of, fits_list}
use Rattle.boards.specs.Slips.{Lists, list_at}
use Rattle.boards.specs.Boards.{Board, line_of, holding, tried, all_wishes}
use Rattle.boards.specs.Formed.{Formed}
use Rattle.boards.specs.Calls.{Call, after, accepted, Quiet}
use Rattle.boards.specs.Stable.{on}
use Rattle.boards.specs.Plans.{lane_in, placing, count_word, lot_words, settled, tried_places, SamePlan, CountIsPlaces}
use Rattle.boards.proofs.CallsRun.{every_run, settle_keeps, settle_lists, settled_quiet, settles_least, held_known}

-- rules that answer alike choose alike
module _ (c : Contents) (m n : Meaning) (laid : Laid c) (alike : Alike m n) where
  same_choice : (O : Offers) (l : ℕ) → l < length c.lanes → at (m.choice (shed_of c (lane_of c l).shed) (supply_of c O (lane_of c l).shed)) (lane_of c l).place ≡ at (n.choice (shed_of c (lane_of c l).shed) (supply_of c O (lane_of c l).shed)) (lane_of c l).place
  same_choice O l h =
      let g = (lane_of c l).shed in
      let here = laid.in_shed l h in
      let d = laid.carded g here in
      let row : Row (supply_of c O g) = (supply_small c laid g here O).0 in
      let same : on_card (shed_of c g) (m.choice (shed_of c g) (supply_of c O g)) ≡ on_card (shed_of c g) (n.choice (shed_of c g) (supply_of c O g)) =
      subst (λ (t : Terms). on_card t (m.choice t (supply_of c O g)) ≡ on_card t (n.choice t (supply_of c O g))) d.1 (alike.choice d.0 (supply_of c O g) row)
      in
      on_card_at (shed_of c g) (m.choice (shed_of c g) (supply_of c O g)) (n.choice (shed_of c g) (supply_of c O g)) same (lane_of c l).place (laid.stands_on_card l h)

  nobody : (k : ℕ) (O : ℕ → Bool) (i : ℕ) → best k O [] i ≡ false
  nobody zero O i = refl
  nobody (suc k) O i = refl

  chosen_same : (O : Offers) (l i : ℕ) → chosen c m O l i ≡ chosen c n O l i
  chosen_same O l i = elim (cases_lt l (length c.lanes)) [
    | inl h ↦ ap (λ (k : ℕ). best k (O l) (ranking_of c l) i) (same_choice O l h)
    | inr h ↦
        let none : ranking_of c l ≡ [] = ap (λ e. e.ranking) (get_or_past c.lanes l no_entry h) in
        let km = at (m.choice (shed_of c (lane_of c l).shed) (supply_of c O (lane_of c l).shed)) (lane_of c l).place in
        let kn = at (n.choice (shed_of c (lane_of c l).shed) (supply_of c O (lane_of c l).shed)) (lane_of c l).place in
        ap (λ (R : List ℕ). best km (O l) R i) none ∙ nobody km (O l) i ∙ sym (ap (λ (R : List ℕ). best kn (O l) R i) none ∙ nobody kn (O l) i)
  ]

  pub alike_choose : chosen c m ≡ chosen c n
  alike_choose = fun_ext (λ O. fun_ext (λ l. fun_ext (λ i. chosen_same O l i)))

-- a settled round
pub record Ended (c : Contents) (m : Meaning) (ls : Lists) (t : Board) : Type 0 where
  pub same_book : t.book ≡ c
  pub same_lists : t.lists ≡ ls
  pub formed : Formed t
  pub quiet : Quiet t
  pub stands : Stands (length c.lanes) (chosen c m) (λ i. wishes_of (list_at ls i)) (tried t) (holding t)
  pub least : Least (chosen c m) (λ i. wishes_of (list_at ls i)) (tried t)

pub ended : (c : Contents) (m : Meaning) → Laid c → Lawful m → (ks : List Call) → Ended c m (accepted c ks) (settled c m ks)
ended c m laid law ks =
    let s : Board = after c m ks in
    let r = every_run c m laid law ks in
    let keep = settle_keeps m law (all_wishes s.lists) s r.formed in
    let same = settle_lists m (all_wishes s.lists) s in
    let t : Board = settled c m ks in
    let book : t.book ≡ c = same.0 ∙ r.same_book in
    let lists : t.lists ≡ accepted c ks = same.1 ∙ r.accepted_lists in
    let least = settles_least m law s r.formed ks (ap (λ (b : Contents). after b m ks) (sym r.same_book)) in
    record {
      same_book = book;
      same_lists = lists;
      formed = keep.0;
      quiet = settled_quiet m law s r.formed;
      stands = subst (λ (b : Contents). Stands (length b.lanes) (chosen b m) (λ i. wishes_of (list_at (accepted c ks) i)) (tried t) (holding t)) book
          (subst (λ (ls : Lists). Stands (length t.book.lanes) (chosen t.book m) (λ i. wishes_of (list_at ls i)) (tried t) (holding t)) lists (keep.1 r.stand));
      least = subst (λ (b : Contents). Least (chosen b m) (λ i. wishes_of (list_at (accepted c ks) i)) (tried t)) book
          (subst (λ (ls : Lists). Least (chosen t.book m) (λ i. wishes_of (list_at ls i)) (tried t)) lists least);
    }

pub on_holds : (y : Line) (l : ℕ) → on (lane_in y) l ≡ holds y l
on_holds Absent l = refl
on_holds (Looking n) l = refl
on_holds (Held k) l = refl
on_holds Spent l = refl

-- two lines that are held at the same lanes
same_lane : (y z : Line) → ((l : ℕ) → holds y l ≡ true → holds z l ≡ true) → ((l : ℕ) → holds z l ≡ true → holds y l ≡ true) → lane_in y ≡ lane_in z
same_lane (Held k) (Held j) f g = ap Some (sym (eqb-true j k (f k (eq-eqb k k refl))))
same_lane (Held k) Absent f g = absurd (both_ways false refl (f k (eq-eqb k k refl)))
same_lane (Held k) (Looking n) f g = absurd (both_ways false refl (f k (eq-eqb k k refl)))
same_lane (Held k) Spent f g = absurd (both_ways false refl (f k (eq-eqb k k refl)))
same_lane Absent (Held j) f g = absurd (both_ways false refl (g j (eq-eqb j j refl)))
same_lane (Looking n) (Held j) f g = absurd (both_ways false refl (g j (eq-eqb j j refl)))
same_lane Spent (Held j) f g = absurd (both_ways false refl (g j (eq-eqb j j refl)))
same_lane Absent Absent f g = refl
same_lane Absent (Looking n) f g = refl
same_lane Absent Spent f g = refl
same_lane (Looking n) Absent f g = refl
same_lane (Looking n) (Looking k) f g = refl
same_lane (Looking n) Spent f g = refl
same_lane Spent Absent f g = refl
same_lane Spent (Looking n) f g = refl
same_lane Spent Spent f g = refl

pub same_plan : SamePlan
same_plan c m n laid lm ln alike ks js e =
    let t : Board = settled c m ks in
    let u : Board = settled c n js in
    let p = ended c m laid lm ks in
    let q = ended c n laid ln js in
    let C = alike_choose c m n laid alike in
    let us : Stands (length c.lanes) (chosen c m) (λ i. wishes_of (list_at (accepted c ks) i)) (tried u) (holding u) =
    subst (λ (ls : Lists). Stands (length c.lanes) (chosen c m) (λ i. wishes_of (list_at ls i)) (tried u) (holding u)) (sym e) (subst (λ (D : Offers → Offers). Stands (length c.lanes) D (λ i. wishes_of (list_at (accepted c js) i)) (tried u) (holding u)) (sym C) q.stands)
    in
    let ul : Least (chosen c m) (λ i. wishes_of (list_at (accepted c ks) i)) (tried u) =
    subst (λ (ls : Lists). Least (chosen c m) (λ i. wishes_of (list_at ls i)) (tried u)) (sym e) (subst (λ (D : Offers → Offers). Least D (λ i. wishes_of (list_at (accepted c js) i)) (tried u)) (sym C) q.least)
    in
    let same = orders_do_not_matter (length c.lanes) (chosen c m) (λ i. wishes_of (list_at (accepted c ks) i)) (tried t) (tried u) (holding t) (holding u) p.stands us p.least ul in
    let lists : t.lists ≡ u.lists = p.same_lists ∙ e ∙ sym q.same_lists in
    let known-t : (l i : ℕ) → holding t l i ≡ true → l < length c.lanes = λ l i o. subst (λ (b : Contents). l < length b.lanes) p.same_book (held_known t p.formed l i o) in
    let known-u : (l i : ℕ) → holding u l i ≡ true → l < length c.lanes = λ l i o. subst (λ (b : Contents). l < length b.lanes) q.same_book (held_known u q.formed l i o) in
    let placed : placing t ≡ placing u = fun_ext (λ i. same_lane (line_of t i) (line_of u i) (λ l o. sym (same.1 l i (known-t l i o)) ∙ o) (λ l o. same.1 l i (known-u l i o) ∙ o)) in
    let count : t.count ≡ u.count = p.formed.counted ∙ sum_same (tried t) (tried u) 256 (λ i _. same.0 i) ∙ sym q.formed.counted in
    λ z. lot_words (placed z) 0 (lists z) ++ count_word (count z) ∷ []

-- what a lot has tried in a settled round
tried_places_is : (y : Line) (o : Option (List ℕ)) → fits_list y o ≡ true → looks y ≡ false → tried_of y (wishes_of o) ≡ tried_places o (lane_in y)
tried_places_is Absent None f q = refl
tried_places_is Absent (Some xs) f q = absurd (both_ways false refl f)
tried_places_is (Looking n) o f q = absurd (both_ways true q refl)
tried_places_is (Held l) None f q = absurd (both_ways false refl f)
tried_places_is (Held l) (Some xs) f q = refl
tried_places_is Spent None f q = absurd (both_ways false refl f)
tried_places_is Spent (Some xs) f q = refl

pub count_is_places : CountIsPlaces
count_is_places c m laid law ks =
    let t : Board = settled c m ks in
    let p = ended c m laid law ks in
    p.formed.counted ∙ sum_same (tried t) (λ i. tried_places (list_at (accepted c ks) i) (placing t i)) 256
    (λ i _. tried_places_is (line_of t i) (list_at t.lists i) (p.formed.fit_lists i) (p.quiet i) ∙ ap (λ (ls : Lists). tried_places (list_at ls i) (placing t i)) p.same_lists)
