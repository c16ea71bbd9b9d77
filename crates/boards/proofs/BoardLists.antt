-- The lists in a table, and a slip step by step.
use Rattle.std.proofs.Common.{◌≡◌, ℕ, zero, suc, ◌<◌, ◌≤◌, Bool, true, false, leb, List, [], ◌∷◌, get_or, replicate, is_some, Some, None, Ok, Err, Option, Result, unwrap_or, refl, ap, ◌∙◌}
use Rattle.std.proofs.Math.ListN.{get_or-map}
use Rattle.std.specs.Option.{option_map}
use Rattle.std.proofs.lemmas.Bool.{le-leb, lt-leb}
use Rattle.sheets.specs.declared.fault.Fault.{Fault}
use Rattle.sheets.specs.declared.fault.Refusal.TheVariants.{Unknown, Twice}
use Rattle.sheets.specs.Faults.{fault}
use Rattle.sheets.specs.Slips.{taken_apart}
use Rattle.boards.specs.declared.wishes.Wishes.{Wishes}
use Rattle.boards.specs.Lines.{wishes_of}
use Rattle.boards.specs.Slips.{list_of, lists_of, Lists, list_at, wishes_from, entering}

pub lists_at : (os : List (Option Wishes)) (i : ℕ) → list_at (lists_of os) i ≡ option_map list_of (get_or os i None)
lists_at os i = get_or-map (option_map list_of) os i None

-- where no slip has come, no lot has lanes
pub lists_none : (n : ℕ) → lists_of (replicate n None) ≡ replicate n None
lists_none zero = refl
lists_none (suc n) = ap (λ (ls : Lists). None ∷ ls) (lists_none n)

-- the list of a lot, or one without a wish, says what the lot wants
pub value_list : (o : Option Wishes) (w : Wishes) → list_of w ≡ [] → list_of (unwrap_or o w) ≡ wishes_of (option_map list_of o)
value_list None w e = e
value_list (Some v) w e = refl

-- a lot has a list where its lanes are there
pub mapped_some : (o : Option Wishes) → is_some (option_map list_of o) ≡ is_some o
mapped_some None = refl
mapped_some (Some v) = refl

module _ (n : ℕ) (ls : Lists) (ws : List ℕ) (lot : ℕ) (rest : List ℕ) (apart : taken_apart ws ≡ Ok (lot, rest)) where
  abbrev read : Result (ℕ × List ℕ) Fault → Result (ℕ × List ℕ) Fault
  read r = elim r [
    | Err f ↦ Err f
    | Ok p ↦ elim (leb 256 p.0) [
      | true ↦ Err (fault Unknown 0)
      | false ↦ elim (is_some (list_at ls p.0)) [ true ↦ Err (fault Twice 0) | false ↦ elim (wishes_from n [] 1 p.1) [ Err f ↦ Err f | Ok xs ↦ Ok (p.0, xs) ] ]
    ]
  ]

  abbrev known : Bool → Result (ℕ × List ℕ) Fault
  known b = elim b [ true ↦ Err (fault Unknown 0) | false ↦ elim (is_some (list_at ls lot)) [ true ↦ Err (fault Twice 0) | false ↦ elim (wishes_from n [] 1 rest) [ Err f ↦ Err f | Ok xs ↦ Ok (lot, xs) ] ] ]

  abbrev fresh : Bool → Result (ℕ × List ℕ) Fault
  fresh b = elim b [ true ↦ Err (fault Twice 0) | false ↦ elim (wishes_from n [] 1 rest) [ Err f ↦ Err f | Ok xs ↦ Ok (lot, xs) ] ]

  abbrev listing : Result (List ℕ) Fault → Result (ℕ × List ℕ) Fault
  listing r = elim r [ Err f ↦ Err f | Ok xs ↦ Ok (lot, xs) ]

  pub slip_unknown : 256 ≤ lot → entering n ls ws ≡ Err (fault Unknown 0)
  slip_unknown h = ap read apart ∙ ap known (le-leb 256 lot h)

  -- a second slip of a lot is refused
  pub slip_twice : lot < 256 → is_some (list_at ls lot) ≡ true → entering n ls ws ≡ Err (fault Twice 0)
  slip_twice h e = ap read apart ∙ ap known (lt-leb 256 lot h) ∙ ap fresh e

  pub slip_read : lot < 256 → is_some (list_at ls lot) ≡ false → (r : Result (List ℕ) Fault) → wishes_from n [] 1 rest ≡ r → entering n ls ws ≡ elim r [ Err f ↦ Err f | Ok xs ↦ Ok (lot, xs) ]
  slip_read h e r q = ap read apart ∙ ap known (lt-leb 256 lot h) ∙ ap fresh e ∙ ap listing q
