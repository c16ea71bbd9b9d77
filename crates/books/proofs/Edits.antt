-- What is shown of a book's cards and lanes after a write.
use Rattle.std.proofs.Common.{◌≡◌, ℕ, ◌+◌, ◌-◌, ◌<◌, ◌≤◌, true, List, [], ◌∷◌, ◌++◌, map, length, get_or, take, set, Ok, Err, Result, sym, ap, ◌∙◌, subst, arith}
use lib.Seq.{take-set-lt}
use Rattle.std.proofs.lemmas.List.{take_more_set, get_or-map, get_or-take, map_push, map-set, length-map, length-take, length-set}
use Rattle.std.specs.Result.{IsOk, OnOk}
use Rattle.rows.specs.declared.row.Full.{Full}
use Rattle.sharing.specs.declared.card.Card.{Card}
use Rattle.sharing.specs.Cards.{terms, more_terms}
use Rattle.books.specs.declared.book.Book.{Book}
use Rattle.books.specs.declared.lane.Lane.{Lane}
use Rattle.books.specs.Lanes.{Entry, has}
use Rattle.sharing.specs.Rules.{lanes}
use Rattle.books.specs.Entries.{Contents, entry, no_entry, no_shed, blank_entry, contents_of, lane_of, last_shed, last_terms, ranking_of, with_lane}
use Rattle.books.specs.Contents.{contents}
use Rattle.books.specs.Laid.{LanesOrdered}
use Rattle.books.proofs.Distinct.{distinct_all}
use Rattle.books.proofs.Laid.{book_laid}
use Rattle.books.proofs.Standing.{ordered_entry}

-- what is shown of the front of a list
module _ {X Y : Type 0} (f : X → Y) (xs : List X) where
  pub shown_push : (n : ℕ) (x : X) → n < length xs → map f (take (n + 1) (set xs n x)) ≡ map f (take n xs) ++ f x ∷ []
  shown_push n x h = ap (map f) (take_more_set xs n x h) ∙ map_push f (take n xs) x

  pub shown_set : (n i : ℕ) (x : X) → i < n → map f (take n (set xs i x)) ≡ set (map f (take n xs)) i (f x)
  shown_set n i x h = ap (map f) (take-set-lt n xs i x h) ∙ map-set f (take n xs) i x

  pub shown_length : (n : ℕ) → n ≤ length xs → length (map f (take n xs)) ≡ n
  shown_length n h = simp (length-map, length-take) (omega arith)

  pub shown_at : (n i : ℕ) (d : X) (e : Y) → i < n → n ≤ length xs → get_or (map f (take n xs)) i e ≡ f (get_or xs i d)
  shown_at n i d e h l = get_or-map f (take n xs) i d e (simp length-take (omega arith)) ∙ ap f (get_or-take n xs i d h)

-- what a push ensures where there is room
pub pushed_on_ok : {P : Type 0} (r : Result (Unit {0}) Full) → IsOk r → OnOk r P → P
pushed_on_ok (Ok u) ok then = then
pushed_on_ok (Err e) ok then = absurd cc

-- a lane of the book
pub lane_known : (cards : List Card) (ls : List Lane) (l : ℕ) (x : Lane) → l < length ls → x ≡ get_or ls l x → lane_of (contents_of cards ls) l ≡ entry x
lane_known cards ls l x h is = get_or-map entry ls l x no_entry h ∙ ap entry (sym is)

-- a write to a lane's entry adds no lane
pub same_lanes : (b d : Book) (l : ℕ) (e : Entry) → (contents d).lanes ≡ set (contents b).lanes l e → length d.lanes.items ≡ length b.lanes.items
same_lanes b d l e is = sym (length-map d.lanes.items entry) ∙ ap length is ∙ length-set (contents b).lanes l e ∙ length-map b.lanes.items entry

-- a lane that ranks 256 lots ranks every lot
pub ranks_everyone : (b : Book) (l lot : ℕ) → length (ranking_of (contents b) l) ≡ 256 → lot < 256 → has (ranking_of (contents b) l) lot ≡ true
ranks_everyone b l lot full below = let laid = book_laid b in distinct_all 256 lot (ranking_of (contents b) l) (laid.lots l) (laid.once l) full below

-- its entry is changed
module _ (cards : List Card) (ls : List Lane) (l : ℕ) (old new : Lane) (change : Entry → Entry) (h : l < length ls) (is : old ≡ get_or ls l old) (told : entry new ≡ change (entry old)) where
  pub lane_changed : contents_of cards (set ls l new) ≡ record { sheds = map terms cards; lanes = set (map entry ls) l (change (lane_of (contents_of cards ls) l)) }
  lane_changed = ap {B = Contents} (λ v. record { sheds = map terms cards; lanes = v }) (map-set entry ls l new ∙ ap (set (map entry ls) l) (told ∙ ap change (sym (lane_known cards ls l old h is))))

  -- and stands where it stood
  pub ordered_changed : ((e : Entry) → (change e).shed ≡ e.shed) → ((e : Entry) → (change e).place ≡ e.place) → LanesOrdered (contents_of cards ls) → LanesOrdered (contents_of cards (set ls l new))
  ordered_changed shed place o =
      let e = lane_of (contents_of cards ls) l in
      subst LanesOrdered (sym lane_changed) (ordered_entry (contents_of cards ls) l (change e) (simp length-map h) (shed e) (place e) o)

-- a lane more, on the last card and behind the other lanes
pub lane_pushed : (cards : List Card) (ls : List Lane) (d wider : Card) (x : Lane) (target capacity : ℕ) → 0 < length cards → d ≡ get_or cards (length cards - 1) d → terms wider ≡ more_terms (terms d) target capacity →
    entry x ≡ blank_entry (length cards - 1) (lanes (terms d)) → contents_of (set cards (length cards - 1) wider) (ls ++ x ∷ []) ≡ with_lane (contents_of cards ls) target capacity
lane_pushed cards ls d wider x target capacity some is more new =
    let at : last_shed (contents_of cards ls) ≡ length cards - 1 = ap (λ n. n - 1) (length-map cards terms) in
    let last : last_terms (contents_of cards ls) ≡ terms d = ap (λ n. get_or (map terms cards) n no_shed) at ∙ get_or-map terms cards (length cards - 1) d no_shed (omega arith) ∙ ap terms (sym is) in
    let sheds : map terms (set cards (length cards - 1) wider) ≡ (with_lane (contents_of cards ls) target capacity).sheds =
    map-set terms cards (length cards - 1) wider ∙ (λ i. set (map terms cards) (sym at i) ((more ∙ ap (λ t. more_terms t target capacity) (sym last)) i))
    in
    let entries : map entry (ls ++ x ∷ []) ≡ (with_lane (contents_of cards ls) target capacity).lanes =
    map_push entry ls x ∙ ap (λ e. map entry ls ++ e ∷ []) (new ∙ (λ i. blank_entry (sym at i) (lanes (sym last i))))
    in
    λ i. record { sheds = sheds i; lanes = entries i }
