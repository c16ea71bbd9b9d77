-- What every book says is laid out by the cards of its sheds.
use Rattle.std.proofs.Common.{◌≡◌, ℕ, zero, suc, ◌+◌, ◌<◌, ◌≤◌, true, List, [], ◌∷◌, map, length, get_or, refl, ap, inl, inr, arith}
use Rattle.std.proofs.lemmas.Bool.{cases_lt}
use Rattle.std.proofs.lemmas.List.{length-map}
use Rattle.sharing.specs.declared.card.Card.{Card}
use Rattle.sharing.specs.Cards.{terms}
use Rattle.sharing.specs.Rules.{lanes}
use Rattle.books.specs.declared.book.Book.{Book}
use Rattle.books.specs.declared.lane.Lane.{Lane}
use Rattle.books.specs.Lanes.{distinct, all_below}
use Rattle.books.specs.Entries.{Contents, entry, contents_of, lane_of, no_shed, ranking_of}
use Rattle.books.specs.Contents.{contents}
use Rattle.books.specs.Laid.{Laid, shed_of, first_lane}
use Rattle.books.proofs.Standing.{sum_longer}

-- what is shown of an element is shown of one
shown_of : {X Y : Type 0} (f : X → Y) (e : Y) (xs : List X) (i : ℕ) → i < length (map f xs) → (x : X) × (f x ≡ get_or (map f xs) i e)
shown_of f e [] i h = absurd (omega arith)
shown_of f e (x ∷ xs) zero h = (x, refl)
shown_of f e (x ∷ xs) (suc i) h = shown_of f e xs i (omega arith)

-- what holds of the ranking of each lane in the book, and of none, holds of every ranking
of_rankings : (P : List ℕ → Type 0) → P [] → (cards : List Card) (ls : List Lane) → ((l : ℕ) (x : Lane) → l < length ls → x ≡ get_or ls l x → P (entry x).ranking) → (l : ℕ) → P (ranking_of (contents_of cards ls) l)
of_rankings P none cards [] each l = none
of_rankings P none cards (x ∷ ls) each zero = each 0 x (omega arith) refl
of_rankings P none cards (x ∷ ls) each (suc l) = of_rankings P none cards ls (λ k y h e. each (suc k) y (omega (arith, h)) e) l

-- each fact of the type of Book, told of its contents
pub book_laid : (b : Book) → Laid (contents b)
book_laid b = record {
  sheds_are_few = simp length-map b.few_sheds;
  lanes_are_few = simp length-map b.few_lanes;
  carded = λ g h. shown_of terms no_shed b.cards.items g h;
  in_shed = λ l h. (b.ordered.lanes_stand l h).0;
  stands_on_card = λ l h. (b.ordered.lanes_stand l h).1;
  in_order = λ l h. (b.ordered.lanes_stand l h).2;
  all_lanes = b.ordered.all_lanes;
  once = of_rankings (λ xs. distinct xs ≡ true) refl b.cards.items b.lanes.items (λ l x h e. x.once);
  lots = of_rankings (λ xs. all_below 256 xs ≡ true) refl b.cards.items b.lanes.items (λ l x h e. x.below);
}

-- the lanes by their places, in whatever is laid out so
module _ (c : Contents) (laid : Laid c) where
  -- the lanes of a shed come before those of a later shed
  shed_before : (g h : ℕ) → g < h → first_lane c g + lanes (shed_of c g) ≤ first_lane c h
  shed_before g h less = omega (arith, sum_longer (λ k. lanes (shed_of c k)) (suc g) h (omega arith))

  -- the number of a place on a card is that of a lane
  pub lane_at_place : (g m : ℕ) → g < length c.sheds → m < lanes (shed_of c g) → first_lane c g + m < length c.lanes
  lane_at_place g m known on = omega (arith, shed_before g (length c.sheds) known, laid.all_lanes)

  -- no two sheds have a place with the same number
  one_place : (g m h n : ℕ) → m < lanes (shed_of c g) → n < lanes (shed_of c h) → first_lane c g + m ≡ first_lane c h + n → g ≡ h
  one_place g m h n on off e =
      elim (cases_lt g h) [
        | inl less ↦ absurd (omega (arith, shed_before g h less))
        | inr more ↦ elim (cases_lt h g) [
          | inl less ↦ absurd (omega (arith, shed_before h g less))
          | inr same ↦ omega arith
        ]
      ]

  -- the lane with the number of a place stands there
  pub lane_stands : (g m : ℕ) → g < length c.sheds → m < lanes (shed_of c g) → ((lane_of c (first_lane c g + m)).shed ≡ g) × ((lane_of c (first_lane c g + m)).place ≡ m)
  lane_stands g m known on =
      let l = first_lane c g + m in
      let inside = lane_at_place g m known on in
      let order = laid.in_order l inside in
      let shed = one_place (lane_of c l).shed (lane_of c l).place g m (laid.stands_on_card l inside) on order in
      (shed, omega (arith, order, ap (first_lane c) shed))
