-- A lot that asks a lane, and what the code learns of the lane.
use Rattle.std.proofs.Common.{◌≡◌, ℕ, ◌+◌, ◌<◌, ◌≤◌, Bool, true, false, ltb, List, length, set, Some, None, Option, sym, refl, ap, ◌∙◌, subst, inl, inr, arith}
use Rattle.std.specs.List.{slice_get}
use Rattle.std.specs.Option.{option_map}
use Rattle.std.proofs.lemmas.List.{get_or_past}
use Rattle.std.proofs.lemmas.Option.{slice_get-get_or, get_or_from_slice_get}
use Rattle.std.proofs.lemmas.List.FromFn.{get_or-map-range_with_len, length-map-range_with_len}
use Rattle.std.proofs.lemmas.List.Sums.{count_by-le-length}
use Rattle.std.proofs.lemmas.Bool.{cases_lt, ltb-true}
use Rattle.sharing.specs.declared.card.Card.{Card}
use Rattle.sharing.specs.Cards.{Terms, terms}
use Rattle.sharing.specs.Rules.{at, lanes, on_card, Meaning, Lawful}
use Rattle.sharing.specs.Sums.{on_card_at}
use Rattle.books.specs.Lanes.{has, Entry}
use Rattle.books.specs.Contents.{Contents, lane_of, no_entry, no_shed, ranking_of}
use Rattle.books.specs.Laid.{shed_of, first_lane}
use Rattle.matching.specs.Offers.{asking}
use Rattle.matching.proofs.Wishes.{below_at}
use Rattle.boards.specs.declared.line.Line.{Line}
use Rattle.boards.specs.declared.line.Line.TheVariants.{Absent, Looking, Held, Spent}
use Rattle.boards.specs.Lines.{holds, fits_list}
use Rattle.boards.specs.Slips.{list_at}
use Rattle.boards.specs.Boards.{Board, line_of, wishes, holding, held, filling, leaver, keeps}
use Rattle.boards.specs.Formed.{Formed}
use Rattle.boards.specs.Searches.{supplied, beyond, first_of, beyond_at, next_wish, goes}
use Rattle.boards.proofs.FormedApplies.{looks_in, wish_in, free}
use Rattle.boards.proofs.Leavers.{first_same, supplied_is, search_finds}

-- a lot with a next wish looks at it
pub wish_of : (y : Line) (xs : List ℕ) (h : ℕ) → next_wish y xs ≡ Some h → (n : ℕ) × (y ≡ Looking n) × (at xs n ≡ h)
wish_of Absent xs h e = cc
wish_of (Looking n) xs h e = (n, refl, get_or_from_slice_get xs n h 0 e)
wish_of (Held l) xs h e = cc
wish_of Spent xs h e = cc

-- and the lane is in the book
pub asked_known : (s : Board) → Formed s → (i h : ℕ) → next_wish (line_of s i) (wishes s i) ≡ Some h → h < length s.book.lanes
asked_known s v i h e =
    let w = wish_of (line_of s i) (wishes s i) h e in
    let room : w.0 < length (wishes s i) = ltb-true w.0 (length (wishes s i)) (subst (λ (y : Line). fits_list y (list_at s.lists i) ≡ true) w.1 (v.fit_lists i)) in
    subst (λ (z : ℕ). z < length s.book.lanes) w.2 (below_at (length s.book.lanes) (wishes s i) (v.known i) w.0 room)

-- what the book says of a lane that it has

module _ {B : Type 0} (c : Contents) (h : ℕ) (known : h < length c.lanes) (f : Entry → B) (r : Option B) (says : r ≡ option_map f (slice_get c.lanes h)) where
  told : r ≡ Some (f (lane_of c h))
  told = says ∙ ap (option_map f) (slice_get-get_or c.lanes h no_entry known)

  pub lane_says : (x : B) → r ≡ Some x → x ≡ f (lane_of c h)
  lane_says x e = let t = told in cc

  pub lane_there : r ≡ None → ⊥
  lane_there e = cc told

module _ (c : Contents) (g : ℕ) (known : g < length c.sheds) (r : Option Card) (says : option_map terms r ≡ slice_get c.sheds g) where
  pub card_says : (d : Card) → r ≡ Some d → terms d ≡ shed_of c g
  card_says d e = let t : Some (terms d) ≡ Some (shed_of c g) = sym (ap (option_map terms) e) ∙ says ∙ slice_get-get_or c.sheds g no_shed known in cc

  pub card_there : r ≡ None → ⊥
  card_there e = let there = says ∙ slice_get-get_or c.sheds g no_shed known in let none = ap (option_map terms) e in cc

-- no lane holds more lots than there are lines
pub filling_few : (c : Contents) (ys : List Line) (g k : ℕ) → at (filling c ys g) k ≤ length ys
filling_few c ys g k =
    elim (cases_lt k 8) [
      | inl b ↦ subst (λ (z : ℕ). z ≤ length ys) (sym (get_or-map-range_with_len count 0 8 k k 0 b (omega arith))) (few (ltb k (lanes (shed_of c g))))
      | inr b ↦ subst (λ (z : ℕ). z ≤ length ys) (sym (get_or_past (filling c ys g) k 0 (omega (arith, length-map-range_with_len count 0 8)))) (omega arith)
    ]
  where
    count : ℕ → ℕ
    count k = elim (ltb k (lanes (shed_of c g))) [ true ↦ held (first_lane c g + k) ys | false ↦ 0 ]

    few : (b : Bool) → elim b [ true ↦ held (first_lane c g + k) ys | false ↦ 0 ] ≤ length ys
    few true = count_by-le-length (λ y. holds y (first_lane c g + k)) ys
    few false = omega arith

-- the search as the code makes it
module _ (m : Meaning) (law : Lawful m) (s : Board) (v : Formed s) (i n : ℕ) (e : line_of s i ≡ Looking n) where
  pub found : (h : ℕ) → at (wishes s i) n ≡ h → has (ranking_of s.book h) i ≡ true → (first : ℕ) → first ≡ first_lane s.book (lane_of s.book h).shed →
      (x : List ℕ) → x ≡ supplied s.book s.lines h → (t : Terms) → t ≡ shed_of s.book (lane_of s.book h).shed → (k : List ℕ) → on_card t k ≡ on_card t (m.choice t x) →
      first_of (beyond_at s.book (asking (holding s) h i) first x k) 0 (lanes t) ≡ goes m s i h
  found h q = subst (λ (h : ℕ). has (ranking_of s.book h) i ≡ true → (first : ℕ) → first ≡ first_lane s.book (lane_of s.book h).shed →
      (x : List ℕ) → x ≡ supplied s.book s.lines h → (t : Terms) → t ≡ shed_of s.book (lane_of s.book h).shed → (k : List ℕ) → on_card t k ≡ on_card t (m.choice t x) →
      first_of (beyond_at s.book (asking (holding s) h i) first x k) 0 (lanes t) ≡ goes m s i h) q at_wish
    where
      w : ℕ
      w = at (wishes s i) n

      gw : ℕ
      gw = (lane_of s.book (at (wishes s i) n)).shed

      X : List ℕ
      X = filling s.book (set s.lines i (Held (at (wishes s i) n))) (lane_of s.book (at (wishes s i) n)).shed

      at_wish : has (ranking_of s.book (at (wishes s i) n)) i ≡ true → (first : ℕ) → first ≡ first_lane s.book (lane_of s.book (at (wishes s i) n)).shed →
          (x : List ℕ) → x ≡ supplied s.book s.lines (at (wishes s i) n) → (t : Terms) → t ≡ shed_of s.book (lane_of s.book (at (wishes s i) n)).shed → (k : List ℕ) → on_card t k ≡ on_card t (m.choice t x) →
          first_of (beyond_at s.book (asking (holding s) (at (wishes s i) n) i) first x k) 0 (lanes t) ≡ goes m s i (at (wishes s i) n)
      at_wish ranks first fe x xe t te k ke =
          let xs : x ≡ X = xe ∙ sym (supplied_is s.book v.laid s.lines i w (omega (arith, looks_in m law s v i n e, v.every_line)) (wish_in m law s v i n e) (free m law s v i n e)) in
          let same : (j : ℕ) → j < lanes t → at k j ≡ at (m.choice (shed_of s.book gw) X) j =
          λ j b. on_card_at t k (m.choice t x) ke j b ∙ ap (λ (z : List ℕ). at (m.choice t z) j) xs ∙ ap (λ (z : Terms). at (m.choice z X) j) te
          in
          ap (λ (z : ℕ). first_of (beyond_at s.book (asking (holding s) w i) z x k) 0 (lanes t)) fe ∙
          ap (λ (z : List ℕ). first_of (beyond_at s.book (asking (holding s) w i) (first_lane s.book gw) z k) 0 (lanes t)) xs ∙
          first_same (beyond_at s.book (asking (holding s) w i) (first_lane s.book gw) X k) (beyond_at s.book (asking (holding s) w i) (first_lane s.book gw) X (m.choice (shed_of s.book gw) X)) 0 (lanes t)
          (λ j a b. ap (λ (z : ℕ). elim (ltb z (at X j)) [ true ↦ beyond z (asking (holding s) w i (first_lane s.book gw + j)) (ranking_of s.book (first_lane s.book gw + j)) | false ↦ None ]) (same j (omega arith))) ∙
          ap (λ (z : Terms). first_of (beyond_at s.book (asking (holding s) w i) (first_lane s.book gw) X (m.choice (shed_of s.book gw) X)) 0 (lanes z)) te ∙
          search_finds m law s v i n e ranks ∙
          sym (ap (λ (b : Bool). elim b [ true ↦ leaver (keeps s.book (set s.lines i (Held w)) gw (m.choice (shed_of s.book gw) X)) 0 (set s.lines i (Held w)) | false ↦ Some i ]) ranks)
