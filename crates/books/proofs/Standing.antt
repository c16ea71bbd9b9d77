-- The lanes of a book stay in order, word by word.
use Rattle.std.proofs.Common.{◌≡◌, ℕ, zero, suc, ◌+◌, ◌<◌, ◌≤◌, ◌≢◌, true, List, [], ◌∷◌, map, length, get_or, set, sym, refl, ap, ◌∙◌, subst, inl, inr, arith, length-set}
use Rattle.std.proofs.lemmas.List.{get_or-set_same, get_or-set_other, get_or_past, get_or_push, get_or_append_left, get_or-map, map-set, length-map, length_push}
use Rattle.std.proofs.lemmas.Bool.{cases_eq, cases_lt}
use Rattle.sharing.specs.declared.card.Card.{Card}
use Rattle.sharing.specs.Cards.{Terms, terms, more_terms}
use Rattle.sharing.specs.Rules.{lanes, sum_to}
use Rattle.sharing.specs.Sums.{sum_same}
use Rattle.sharing.specs.Within.{lanes_are}
use Rattle.books.specs.declared.lane.Lane.{Lane}
use Rattle.books.specs.Lanes.{Entry}
use Rattle.books.specs.Entries.{Contents, contents_of, no_shed, no_entry, lane_of, last_shed, last_terms, with_shed, with_lane, blank_entry, with_lot, ranked_entry}
use Rattle.books.specs.Laid.{shed_of, first_lane, Stands, LanesOrdered}

-- a sum over more sheds
pub sum_longer : (f : ℕ → ℕ) (m n : ℕ) → m ≤ n → sum_to f m ≤ sum_to f n
sum_longer f m zero h = let none : m ≡ 0 = omega arith in subst (λ k. sum_to f k ≤ 0) (sym none) (omega arith)
sum_longer f m (suc n) h =
    elim (cases_eq m (suc n)) [
      | inl e ↦ subst (λ k. sum_to f k ≤ f n + sum_to f n) (sym e) (omega arith)
      | inr ne ↦ omega (arith, sum_longer f m n (omega (arith, ne)))
    ]

-- the last summand
pub sum_last : (f : ℕ → ℕ) (g n : ℕ) → n ≡ g + 1 → sum_to f n ≡ f g + sum_to f g
sum_last f g n e = let next : n ≡ suc g = omega arith in subst (λ k. sum_to f k ≡ f g + sum_to f g) (sym next) refl

-- what holds of the entry that is written and of every other lane holds of every lane
pub at_lanes : (P : ℕ → Entry → Type 0) (c : Contents) (l m : ℕ) (e : Entry) → l < length c.lanes → P l e → ((m ≡ l → ⊥) → P m (lane_of c m)) → P m (lane_of (record { sheds = c.sheds; lanes = set c.lanes l e }) m)
at_lanes P c l m e h here other =
    elim (cases_eq m l) [
      | inl same ↦ subst (λ n. P n (lane_of (record { sheds = c.sheds; lanes = set c.lanes l e }) n)) (sym same) (subst (P l) (sym (get_or-set_same c.lanes l e no_entry h)) here)
      | inr apart ↦ subst (P m) (sym (get_or-set_other c.lanes l m e no_entry apart)) (other apart)
    ]

-- a lane with a record has it still when another lot is ranked
pub recorded_on : (c : Contents) (l m lot : ℕ) → (lane_of c l).recorded ≡ true → (lane_of c m).recorded ≡ true → (lane_of (with_lot c l lot) m).recorded ≡ true
recorded_on c l m lot here there =
    elim (cases_lt l (length c.lanes)) [
      | inl known ↦ at_lanes (λ _ e. e.recorded ≡ true) c l m (ranked_entry (lane_of c l) lot) known here (λ _. there)
      | inr past ↦ let none = ap (λ (e : Entry). e.recorded) (get_or_past c.lanes l no_entry past) in absurd cc
    ]

-- the lanes on a card
pub lanes_at : (cards : List Card) (ls : List Lane) (g : ℕ) (d : Card) → g < length cards → lanes (shed_of (contents_of cards ls) g) ≡ length (get_or cards g d).lanes.items
lanes_at cards ls g d h = ap lanes (get_or-map terms cards g d no_shed h) ∙ lanes_are (get_or cards g d)

pub one_lane_more : (card wider : Card) (target capacity : ℕ) → terms wider ≡ more_terms (terms card) target capacity → length wider.lanes.items ≡ length card.lanes.items + 1
one_lane_more card wider target capacity e = sym (lanes_are wider) ∙ ap lanes e ∙ length_push (terms card).capacities capacity ∙ ap (λ n. n + 1) (lanes_are card)

-- one card is written
module _ (cards : List Card) (ls : List Lane) (at : ℕ) (card : Card) where
  pub written_here : at < length cards → lanes (shed_of (contents_of (set cards at card) ls) at) ≡ length card.lanes.items
  written_here h = ap (λ xs. lanes (get_or xs at no_shed)) (map-set terms cards at card) ∙ ap lanes (get_or-set_same (map terms cards) at (terms card) no_shed (simp length-map h)) ∙ lanes_are card

  pub written_other : (g : ℕ) → g ≢ at → shed_of (contents_of (set cards at card) ls) g ≡ shed_of (contents_of cards ls) g
  written_other g ne = ap (λ xs. get_or xs g no_shed) (map-set terms cards at card) ∙ get_or-set_other (map terms cards) at g (terms card) no_shed ne

  pub written_before : (n : ℕ) → n ≤ at → first_lane (contents_of (set cards at card) ls) n ≡ first_lane (contents_of cards ls) n
  written_before n h = sum_same (λ k. lanes (shed_of (contents_of (set cards at card) ls) k)) (λ k. lanes (shed_of (contents_of cards ls) k)) n (λ g k. ap lanes (written_other g (λ e. omega (arith, e))))

  -- all lanes, where that shed is the last
  pub sum_written : (sheds : ℕ) → sheds ≡ at + 1 → at < length cards → first_lane (contents_of (set cards at card) ls) sheds ≡ length card.lanes.items + first_lane (contents_of cards ls) at
  sum_written sheds last inside = omega (arith, sum_last (λ k. lanes (shed_of (contents_of (set cards at card) ls) k)) at sheds last, written_here inside, written_before at (omega arith))

-- where the sheds before one are as they were, it has the same first lane
kept_before : (c w : Contents) (n : ℕ) → ((g : ℕ) → g < n → shed_of w g ≡ shed_of c g) → first_lane w n ≡ first_lane c n
kept_before c w n same = sum_same (λ k. lanes (shed_of w k)) (λ k. lanes (shed_of c k)) n (λ g i. ap lanes (same g i))

-- one shed is written, or is new behind the others: the lanes of the sheds up to it stand where they stood, if it has lost none
pub stands_on : (c w : Contents) (at : ℕ) (e : Entry) (l : ℕ) → length c.sheds ≤ length w.sheds → length c.sheds ≤ at + 1 → ((g : ℕ) → g < at → g < length c.sheds → shed_of w g ≡ shed_of c g) → (at < length c.sheds → lanes (shed_of c at) ≤ lanes (shed_of w at))
    → Stands c e l → Stands w e l
stands_on c w at e l wide last same lost stands =
    let before = kept_before c w e.shed (λ g i. same g (omega (arith, i, stands.0)) (omega (arith, i, stands.0))) in
    let room : e.place < lanes (shed_of w e.shed) = elim (cases_eq e.shed at) [
      | inl here ↦ subst (λ g. e.place < lanes (shed_of w g)) (sym here) (let was = subst (λ g. e.place < lanes (shed_of c g)) here stands.1 in omega (arith, lost (omega (arith, here, stands.0)), was))
      | inr apart ↦ let kept = ap lanes (same e.shed (omega (arith, apart, stands.0)) stands.0) in omega (arith, kept, stands.1)
    ] in
    (omega (arith, stands.0), room, omega (arith, before, stands.2))

-- a new lane in a shed stands behind the others
pub stands_new : (c w : Contents) (at place l : ℕ) → at < length w.sheds → ((g : ℕ) → g < at → shed_of w g ≡ shed_of c g) → place < lanes (shed_of w at) → first_lane c at + place ≡ l → Stands w (blank_entry at place) l
stands_new c w at place l last same room order = (last, room, omega (arith, kept_before c w at same, order))

pub ordered_shed : (c : Contents) (limit : ℕ) → LanesOrdered c → LanesOrdered (with_shed c limit)
ordered_shed c limit o =
    let w = with_shed c limit in
    let new : Terms = record { shed = length c.sheds; limit = limit; capacities = []; targets = [] } in
    let more = length_push c.sheds new in
    let kept = λ (g : ℕ) (h : g < length c.sheds). get_or_append_left c.sheds (new ∷ []) no_shed g h in
    record {
      lanes_stand = λ l h. stands_on c w (length c.sheds) (lane_of c l) l (omega (arith, more)) (omega arith) (λ g i. kept g) (λ i. absurd (omega (arith, i))) (o.lanes_stand l h);
      all_lanes = omega (
        arith,
        sum_last (λ k. lanes (shed_of w k)) (length c.sheds) (length w.sheds) more,
        ap lanes (get_or_push c.sheds new no_shed (length c.sheds) refl),
        kept_before c w (length c.sheds) kept,
        o.all_lanes,
      );
    }

pub ordered_lane : (c : Contents) (target capacity : ℕ) → 0 < length c.sheds → LanesOrdered c → LanesOrdered (with_lane c target capacity)
ordered_lane c target capacity some o =
    let w = with_lane c target capacity in
    let at = last_shed c in
    let wider = more_terms (last_terms c) target capacity in
    let new = blank_entry at (length (last_terms c).capacities) in
    let same = length-set c.sheds at wider in
    let more = length_push c.lanes new in
    let here : lanes (shed_of w at) ≡ lanes (last_terms c) + 1 = ap lanes (get_or-set_same c.sheds at wider no_shed (omega arith)) ∙ length_push (last_terms c).capacities capacity in
    let kept = λ (g : ℕ) (h : g < at). get_or-set_other c.sheds at g wider no_shed (λ e. omega (arith, e, h)) in
    let last = sum_last (λ k. lanes (shed_of c k)) at (length c.sheds) (omega arith) in
    record {
      lanes_stand = λ l h. elim (cases_lt l (length c.lanes)) [
        | inl inside ↦
            subst (λ e. Stands w e l) (sym (get_or_append_left c.lanes (new ∷ []) no_entry l inside))
            (stands_on c w at (lane_of c l) l (omega (arith, same)) (omega arith) (λ g i _. kept g i) (λ i. omega (arith, here)) (o.lanes_stand l inside))
        | inr past ↦
            let is : length c.lanes ≡ l = omega (arith, more) in
            subst (λ e. Stands w e l) (sym (get_or_push c.lanes new no_entry l is))
            (stands_new c w at (length (last_terms c).capacities) l (omega (arith, same)) kept (omega (arith, here)) (omega (arith, last, o.all_lanes)))
      ];
      all_lanes = omega (arith, same, more, sum_last (λ k. lanes (shed_of w k)) at (length w.sheds) (omega (arith, same)), here, kept_before c w at kept, last, o.all_lanes);
    }

-- another entry for a lane, at the same place
pub ordered_entry : (c : Contents) (l : ℕ) (e : Entry) → l < length c.lanes → e.shed ≡ (lane_of c l).shed → e.place ≡ (lane_of c l).place → LanesOrdered c → LanesOrdered (record { sheds = c.sheds; lanes = set c.lanes l e })
ordered_entry c l e h shed place o =
    let same = length-set c.lanes l e in
    let here : Stands c e l =
    subst (λ g. (g < length c.sheds) × (e.place < lanes (shed_of c g)) × (first_lane c g + e.place ≡ l)) (sym shed)
    (subst (λ k. ((lane_of c l).shed < length c.sheds) × (k < lanes (shed_of c (lane_of c l).shed)) × (first_lane c (lane_of c l).shed + k ≡ l)) (sym place) (o.lanes_stand l h))
    in
    record {
      lanes_stand = λ m inside. at_lanes (λ n x. Stands c x n) c l m e h here (λ apart. o.lanes_stand m (omega (arith, same)));
      all_lanes = o.all_lanes ∙ sym same;
    }
