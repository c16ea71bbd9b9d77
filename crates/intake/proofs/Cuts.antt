-- A run of words and its slips, one at a time.
use Rattle.std.proofs.Common.{◌≡◌, ℕ, suc, ◌≤◌, Bool, true, false, eqb, List, [], ◌∷◌, length, take, drop, Some, None, sym, refl, ap, ◌∙◌, subst, arith, length-take}
use Rattle.sheets.specs.Records.{Page, slip_length, next_slip}
use Rattle.sheets.specs.Words.{kind}
use Rattle.intake.specs.Slips.{in_front, cut}

-- the first slip is what the reader hands out
cut_first : (w : ℕ) (ws : List ℕ) → cut (w ∷ ws) ≡ (w ∷ take (slip_length ws) ws) ∷ cut (drop (slip_length ws) ws)
cut_first w [] = refl
cut_first w (v ∷ vs) = go (cut_first v vs) (eqb (kind v) 5)
  where
    more : Bool → ℕ
    more b = elim b [ true ↦ 0 | false ↦ suc (slip_length vs) ]

    go : cut (v ∷ vs) ≡ (v ∷ take (slip_length vs) vs) ∷ cut (drop (slip_length vs) vs) → (b : Bool) →
        ◌≡◌ {A = List (List ℕ)} (elim b [ true ↦ (w ∷ []) ∷ cut (v ∷ vs) | false ↦ in_front w (cut (v ∷ vs)) ]) ((w ∷ take (more b) (v ∷ vs)) ∷ cut (drop (more b) (v ∷ vs)))
    go rest true = refl
    go rest false = ap (in_front w) rest

slip_short : (ws : List ℕ) → slip_length ws ≤ length ws
slip_short [] = omega arith
slip_short (w ∷ ws) = go (slip_short ws) (eqb (kind w) 5)
  where
    go : slip_length ws ≤ length ws → (b : Bool) → elim b [ true ↦ 0 | false ↦ suc (slip_length ws) ] ≤ suc (length ws)
    go rest true = omega arith
    go rest false = omega arith

-- a slip that is handed out has a word, and the slips of the words are this one and those of the words behind it
pub record Next (at : ℕ) (ws : List ℕ) (p : Page) : Type 0 where
  pub place : p.place ≡ at
  pub some : 1 ≤ length p.words
  pub slips : cut ws ≡ p.words ∷ cut (drop (length p.words) ws)

pub next_slip_is : (at : ℕ) (ws : List ℕ) (p : Page) → next_slip at ws ≡ Some p → Next at ws p
next_slip_is at [] p e = cc
next_slip_is at (w ∷ ws) p e =
    let k = slip_length ws in
    let same : record { words = w ∷ take k ws; place = at } ≡ p = cc in
    let long : length (take k ws) ≡ k = omega (arith, length-take k ws, slip_short ws) in
    subst (Next at (w ∷ ws)) same (record {
      place = refl;
      some = omega arith;
      slips = cut_first w ws ∙ ap (λ (n : ℕ). (w ∷ take k ws) ∷ cut (drop n ws)) (sym long);
    })

-- no slip is handed out only where none is left to cut
pub no_slip : (at : ℕ) (ws : List ℕ) → next_slip at ws ≡ None → cut ws ≡ []
no_slip at [] e = refl
no_slip at (w ∷ ws) e = cc
