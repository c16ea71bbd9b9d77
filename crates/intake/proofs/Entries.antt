-- Slips that are entered, one at a time.
use Rattle.std.proofs.Common.{◌≡◌, ℕ, suc, ◌+◌, ◌≤◌, Bool, true, false, leb, List, [], ◌∷◌, map, length, drop, is_some, Some, None, Ok, Err, Option, Result, sym, refl, ap, ◌∙◌, subst, arith}
use Rattle.std.proofs.lemmas.List.{drop-drop}
use Rattle.sheets.specs.declared.fault.Fault.{Fault}
use Rattle.sheets.specs.declared.fault.Refusal.{Refusal}
use Rattle.sheets.specs.declared.fault.Refusal.TheVariants.{Strange, Misplaced, Unknown, Twice}
use Rattle.sheets.specs.declared.word.SlipWord.{SlipWord}
use Rattle.sheets.specs.declared.word.SlipWord.TheVariants.{Lot, Wish}
use Rattle.sheets.specs.Faults.{fault, located}
use Rattle.sheets.specs.Records.{Page}
use Rattle.sheets.specs.Slips.{taken_apart}
use Rattle.sheets.specs.Words.{slip_word}
use Rattle.sharing.specs.Rules.{Meaning}
use Rattle.books.specs.Contents.{Contents}
use Rattle.books.specs.Opening.{opening, left}
use Rattle.boards.specs.Boards.{Board, begun, slip_of, entered, enter, lot_of}
use Rattle.boards.specs.Calls.{enters, calls, after, Reached, EveryRun}
use Rattle.boards.specs.Slips.{Lists, list_at, wish_more, wished, wishes_from, entering}
use Rattle.days.specs.Input.{Day, day_of, book_in}
use Rattle.intake.specs.Slips.{cut, in_day_at, enter_all, EntersSlips}
use Rattle.intake.proofs.Cuts.{Next}

-- a refusal is told at a place that is at most n
abbrev Within : {A : Type 0} → ℕ → Result A Fault → Type 0
Within n (Ok a) = Unit {0}
Within n (Err f) = f.place ≤ n

located_within : {A : Type 0} (place : ℕ) (r : Result A Refusal) → Within place (located place r)
located_within place (Ok a) = tt
located_within place (Err x) = omega arith

wished_within : (n : ℕ) (xs : List ℕ) (place w : ℕ) → Within place (wished n xs place w)
wished_within n xs place w = word (slip_word w)
  where
    word : (o : Option SlipWord) → Within {A = List ℕ} place (elim o [ None ↦ Err (fault Strange place) | Some s ↦ located place (wish_more n xs s) ])
    word None = omega arith
    word (Some s) = located_within place (wish_more n xs s)

wishes_within : (n : ℕ) (xs : List ℕ) (place : ℕ) (ws : List ℕ) → Within (place + length ws) (wishes_from n xs place ws)
wishes_within n xs place [] = tt
wishes_within n xs place (w ∷ ws) = go (λ ys. wishes_within n ys (suc place) ws) (wished n xs place w) (wished_within n xs place w)
  where
    go : ((ys : List ℕ) → Within (suc place + length ws) (wishes_from n ys (suc place) ws)) → (r : Result (List ℕ) Fault) → Within place r → Within {A = List ℕ} (place + suc (length ws)) (elim r [ Err f ↦ Err f | Ok ys ↦ wishes_from n ys (suc place) ws ])
    go rest (Err f) h = omega arith
    go rest (Ok ys) h = subst (λ (k : ℕ). Within k (wishes_from n ys (suc place) ws)) (let z : suc place + length ws ≡ place + suc (length ws) = omega arith in z) (rest ys)

-- of a slip the words behind the first are left, or it is refused at its first place
abbrev Apart : List ℕ → Result (ℕ × List ℕ) Fault → Type 0
Apart ws (Ok p) = length ws ≡ suc (length p.1)
Apart ws (Err f) = f.place ≡ 0

apart : (ws : List ℕ) → Apart ws (taken_apart ws)
apart [] = refl
apart (w ∷ ws) = go (slip_word w)
  where
    go : (o : Option SlipWord) → Apart (w ∷ ws) (elim o [ None ↦ Err (fault Strange 0) | Some (Lot lot) ↦ Ok (lot, ws) | Some (Wish lane) ↦ Err (fault Misplaced 0) ])
    go None = refl
    go (Some (Lot lot)) = refl
    go (Some (Wish lane)) = refl

slip_within : (n : ℕ) (ls : Lists) (ws : List ℕ) → Within (length ws) (entering n ls ws)
slip_within n ls ws = go (taken_apart ws) (apart ws)
  where
    read : (lot : ℕ) (k : ℕ) (r : Result (List ℕ) Fault) → Within k r → Within {A = ℕ × List ℕ} k (elim r [ Err f ↦ Err f | Ok xs ↦ Ok (lot, xs) ])
    read lot k (Ok xs) h = tt
    read lot k (Err f) h = h

    new : (p : ℕ × List ℕ) → length ws ≡ suc (length p.1) → (b : Bool) → Within {A = ℕ × List ℕ} (length ws) (elim b [ true ↦ Err (fault Twice 0) | false ↦ elim (wishes_from n [] 1 p.1) [ Err f ↦ Err f | Ok xs ↦ Ok (p.0, xs) ] ])
    new p h true = omega arith
    new p h false = read p.0 (length ws) (wishes_from n [] 1 p.1) (subst (λ (k : ℕ). Within k (wishes_from n [] 1 p.1)) (let z : 1 + length p.1 ≡ length ws = omega (arith, h) in z) (wishes_within n [] 1 p.1))

    known : (p : ℕ × List ℕ) → length ws ≡ suc (length p.1) → (b : Bool) → Within {A = ℕ × List ℕ} (length ws) (elim b [ true ↦ Err (fault Unknown 0) | false ↦ elim (is_some (list_at ls p.0)) [ true ↦ Err (fault Twice 0) | false ↦ elim (wishes_from n [] 1 p.1) [ Err f ↦ Err f | Ok xs ↦ Ok (p.0, xs) ] ] ])
    known p h true = omega arith
    known p h false = new p h (is_some (list_at ls p.0))

    go : (r : Result (ℕ × List ℕ) Fault) → Apart ws r → Within {A = ℕ × List ℕ} (length ws) (elim r [
      | Err f ↦ Err f
      | Ok p ↦ elim (leb 256 p.0) [ true ↦ Err (fault Unknown 0) | false ↦ elim (is_some (list_at ls p.0)) [ true ↦ Err (fault Twice 0) | false ↦ elim (wishes_from n [] 1 p.1) [ Err f ↦ Err f | Ok xs ↦ Ok (p.0, xs) ] ] ]
    ])
    go (Err f) h = omega (arith, h)
    go (Ok p) h = known p h (leb 256 p.0)

-- a slip is refused at a place that is at most its length
pub refused_within : (s : Board) (ws : List ℕ) (f : Fault) → Err f ≡ lot_of (slip_of s ws) → (slip_of s ws ≡ Err f) × (f.place ≤ length ws)
refused_within s ws f e = go (slip_of s ws) (slip_within (length s.book.lanes) s.lists ws) e
  where
    go : (r : Result (ℕ × List ℕ) Fault) → Within (length ws) r → Err f ≡ lot_of r → (r ≡ Err f) × (f.place ≤ length ws)
    go (Ok p) h e = cc
    go (Err g) h e = let same : g ≡ f = cc in (ap Err same, subst (λ (x : Fault). x.place ≤ length ws) same h)

accepted : (s : Board) (ws : List ℕ) (lot : ℕ) → Ok lot ≡ lot_of (slip_of s ws) → (p : ℕ × List ℕ) × (slip_of s ws ≡ Ok p)
accepted s ws lot e = go (slip_of s ws) e
  where
    go : (r : Result (ℕ × List ℕ) Fault) → Ok lot ≡ lot_of r → (p : ℕ × List ℕ) × (r ≡ Ok p)
    go (Ok p) e = (p, refl)
    go (Err g) e = cc

module _ (first at : ℕ) (s : Board) (slips : List ℕ) (p : Page) (next : Next at (drop at slips) p) where
  abbrev behind : List (List ℕ)
  behind = cut (drop (length p.words) (drop at slips))

  turn : Result (ℕ × List ℕ) Fault → Result Board Fault
  turn r = elim r [ Err f ↦ Err (in_day_at (first + at) f) | Ok q ↦ enter_all (first + at + length p.words) (entered s (Ok q)) behind ]

  here : enter_all (first + at) s (cut (drop at slips)) ≡ turn (slip_of s p.words)
  unfolding turn
  here = ap (enter_all (first + at) s) next.slips

  pub slip_refused : (f : Fault) → slip_of s p.words ≡ Err f → enter_all (first + at) s (cut (drop at slips)) ≡ Err (in_day_at (first + at) f)
  unfolding turn
  slip_refused f e = here ∙ ap turn e

  pub slip_entered : (lot : ℕ) → Ok lot ≡ lot_of (slip_of s p.words) → enter_all (first + at) s (cut (drop at slips)) ≡ enter_all (first + (at + length p.words)) (enter s p.words) (cut (drop (at + length p.words) slips))
  unfolding turn
  slip_entered lot e =
      let q = accepted s p.words lot e in
      let place : first + at + length p.words ≡ first + (at + length p.words) = omega arith in
      here
      ∙ ap turn q.1
      ∙ ap (λ (r : Result (ℕ × List ℕ) Fault). enter_all (first + at + length p.words) (entered s r) behind) (sym q.1)
      ∙ ap (λ (k : ℕ). enter_all k (enter s p.words) behind) place
      ∙ ap (λ (ws : List ℕ). enter_all (first + (at + length p.words)) (enter s p.words) (cut ws)) (drop-drop (length p.words) at slips)

-- slips that are all accepted are calls that enter them
pub all_entered : (m : Meaning) (place : ℕ) (s : Board) (slips : List (List ℕ)) (t : Board) → enter_all place s slips ≡ Ok t → t ≡ calls m s (map enters slips)
all_entered m place s [] t e = let same : s ≡ t = cc in sym same
all_entered m place s (slip ∷ slips) t e = go (λ q. all_entered m (place + length slip) (entered s q) slips t) (slip_of s slip) refl e
  where
    go : ((q : Result (ℕ × List ℕ) Fault) → enter_all (place + length slip) (entered s q) slips ≡ Ok t → t ≡ calls m (entered s q) (map enters slips)) → (r : Result (ℕ × List ℕ) Fault) → slip_of s slip ≡ r →
        ◌≡◌ {A = Result Board Fault} (elim r [ Err f ↦ Err (in_day_at place f) | Ok p ↦ enter_all (place + length slip) (entered s (Ok p)) slips ]) (Ok t) → t ≡ calls m (enter s slip) (map enters slips)
    go rest (Err f) is e = cc
    go rest (Ok p) is e = rest (Ok p) e ∙ ap (λ (q : Result (ℕ × List ℕ) Fault). calls m (entered s q) (map enters slips)) (sym is)

-- what opening says where it accepts the sheet
pub opened : (t : Result Contents Fault) → Ok tt ≡ book_in t → t ≡ Ok (left t)
opened (Ok c) e = refl
opened (Err f) e = cc

-- every list of calls leads to a round that stands, and so do those that enter the slips of a day
pub day_reached : (m : Meaning) (bs : List ℕ) (d : Day) (place : ℕ) → day_of bs ≡ Ok d → EveryRun (left (opening d.book)) m → (t : Result Board Fault) → t ≡ enter_all place (begun (left (opening d.book))) (cut d.slips) → EntersSlips m bs t
day_reached m bs d place day every (Err f) e = tt
day_reached m bs d place day every (Ok s) e =
    let c = left (opening d.book) in
    let ks = map enters (cut d.slips) in
    let runs : s ≡ after c m ks = all_entered m place (begun c) (cut d.slips) s (sym e) in
    λ other is.
    let same : d ≡ other = cc in
    subst (λ (x : Day). Reached (left (opening x.book)) m (map enters (cut x.slips)) s) same (subst (Reached c m ks) (sym runs) (every ks))
