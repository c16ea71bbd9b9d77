-- Every accepted slip enters one lot more.
use Rattle.std.proofs.Common.{◌≡◌, ℕ, zero, suc, ◌+◌, ◌<◌, false, count_by, add-zero, zero-add, cond, List, [], ◌∷◌, length, set, is_some, Some, None, Ok, Err, Option, Result, sym, refl, ap, ◌∙◌, subst, arith, length-set}
use Rattle.std.proofs.lemmas.List.Sums.{sum_by-cons}
use Rattle.std.specs.List.{range_with_len}
use Rattle.std.specs.Option.{option_map}
use Rattle.sheets.specs.declared.fault.Fault.{Fault}
use Rattle.books.specs.Opening.{opening, left}
use Rattle.boards.specs.declared.wishes.Wishes.{Wishes}
use Rattle.boards.specs.Boards.{Board, begun, slip_of, entered}
use Rattle.boards.specs.Calls.{entered_lots}
use Rattle.boards.specs.Slips.{Lists, list_at, list_of}
use Rattle.boards.proofs.FormedEnters.{entering_ok}
use Rattle.days.specs.Input.{Day, day_of}
use Rattle.intake.specs.Slips.{cut, in_day_at, enter_all, LotForEachSlip}

one : Option (List ℕ) → ℕ
one o = cond (is_some o) 1 0

lots_cons : (o : Option (List ℕ)) (os : Lists) → entered_lots (o ∷ os) ≡ one o + entered_lots os
unfolding one
lots_cons o os = sum_by-cons (λ o. cond (is_some o) 1 0) o os

one_none : (o : Option (List ℕ)) → is_some o ≡ false → one o ≡ 0
unfolding one
one_none o e = ap (λ b. cond b 1 0) e

one_some : (xs : List ℕ) → one (Some xs) ≡ 1
unfolding one
one_some xs = refl

-- a list for a lot that has none
one_more : (ls : Lists) (i : ℕ) (xs : List ℕ) → i < length ls → is_some (list_at ls i) ≡ false → entered_lots (set ls i (Some xs)) ≡ suc (entered_lots ls)
one_more [] i xs h e = absurd (omega arith)
one_more (o ∷ os) zero xs h e = omega (arith, lots_cons (Some xs) os, lots_cons o os, one_none o e, one_some xs)
one_more (o ∷ os) (suc i) xs h e = omega (arith, one_more os i xs (omega (arith, h)) e, lots_cons o (set os i (Some xs)), lots_cons o os)

all_counted : (place : ℕ) (s : Board) (slips : List (List ℕ)) (t : Board) → length s.lists ≡ 256 → enter_all place s slips ≡ Ok t → entered_lots t.lists ≡ entered_lots s.lists + length slips
all_counted place s [] t h e = let same : s ≡ t = cc in omega (arith, ap (λ (u : Board). entered_lots u.lists) same)
all_counted place s (slip ∷ slips) t h e = go (λ q. all_counted (place + length slip) (entered s q) slips t) (slip_of s slip) refl e
  where
    go : ((q : Result (ℕ × List ℕ) Fault) → length (entered s q).lists ≡ 256 → enter_all (place + length slip) (entered s q) slips ≡ Ok t → entered_lots t.lists ≡ entered_lots (entered s q).lists + length slips) → (r : Result (ℕ × List ℕ) Fault) → slip_of s slip ≡ r →
        ◌≡◌ {A = Result Board Fault} (elim r [ Err f ↦ Err (in_day_at place f) | Ok p ↦ enter_all (place + length slip) (entered s (Ok p)) slips ]) (Ok t) → entered_lots t.lists ≡ entered_lots s.lists + suc (length slips)
    go rest (Err f) is e = cc
    go rest (Ok p) is e =
        let ok = entering_ok (length s.book.lanes) s.lists slip p is in
        let lot = ok.lot in
        let more = one_more s.lists p.0 p.1 (omega (arith, lot, h)) ok.fresh in
        let long : length (set s.lists p.0 (Some p.1)) ≡ 256 = length-set s.lists p.0 (Some p.1) ∙ h in
        omega (arith, rest (Ok p) long e, more)

-- in a new round nobody is entered
pub slips_counted : (bs : List ℕ) (d : Day) (place : ℕ) → day_of bs ≡ Ok d → (t : Result Board Fault) → t ≡ enter_all place (begun (left (opening d.book))) (cut d.slips) → LotForEachSlip bs t
slips_counted bs d place day (Err f) e = tt
slips_counted bs d place day (Ok s) e =
    let count : entered_lots s.lists ≡ 0 + length (cut d.slips) = all_counted place (begun (left (opening d.book))) (cut d.slips) s refl (sym e) in
    λ other is.
    let same : d ≡ other = cc in
    subst (λ (x : Day). entered_lots s.lists ≡ length (cut x.slips)) same (omega (arith, count))

-- a list that is handed out is there
pub list_is : (o : Option Wishes) (q : Option (List ℕ)) → option_map list_of o ≡ q → is_some q ≡ is_some o
list_is None q e = ap is_some (sym e)
list_is (Some w) q e = ap is_some (sym e)

-- the lots from one on that have a list
listed_from : (ls os : Lists) (a : ℕ) → ((i : ℕ) → list_at ls (a + i) ≡ list_at os i) → count_by (λ lot. is_some (list_at ls lot)) (range_with_len a (length os)) ≡ entered_lots os
listed_from ls [] a same = refl
listed_from ls (o ∷ os) a same =
    let listed : ℕ → ℕ = λ lot. cond (is_some (list_at ls lot)) 1 0 in
    let here : list_at ls a ≡ o = ap (list_at ls) (sym (add-zero a)) ∙ same 0 in
    let first : listed a ≡ cond (is_some o) 1 0 = ap (λ (q : Option (List ℕ)). cond (is_some q) 1 0) here in
    let rest = listed_from ls os (a + 1) (λ i. let on : a + 1 + i ≡ a + suc i = omega arith in ap (list_at ls) on ∙ same (suc i)) in
    sum_by-cons listed a (range_with_len (a + 1) (length os)) ∙ (λ i. first i + rest i) ∙ sym (sum_by-cons (λ (q : Option (List ℕ)). cond (is_some q) 1 0) o os)

pub all_listed : (ls : Lists) → length ls ≡ 256 → count_by (λ lot. is_some (list_at ls lot)) (range_with_len 0 256) ≡ entered_lots ls
all_listed ls full = ap (λ (n : ℕ). count_by (λ lot. is_some (list_at ls lot)) (range_with_len 0 n)) (sym full) ∙ listed_from ls ls 0 (λ i. ap (list_at ls) (zero-add i))
