-- Bytes that are cut at marks.
use Rattle.std.proofs.Common.{◌≡◌, ℕ, zero, suc, ◌+◌, ◌-◌, ◌<◌, ◌≤◌, Bool, true, false, not, ◌||◌, cond, ltb, List, [], ◌∷◌, length, get_or, take, drop, Some, None, sym, refl, ap, ◌∙◌, inl, inr, arith, length-drop}
use Rattle.std.proofs.lemmas.Bool.{cases_Bool, ltb-true, ltb-false, ne_eqb}
use Rattle.std.proofs.lemmas.List.{take_all}
use Rattle.std.proofs.lemmas.List.Splits.{slice_split-cons_yes, slice_split-cons_no, slice_split_first}
use Rattle.std.specs.List.{onto_first, position, position_or_len}
use Rattle.tables.specs.Cuts.{has, pieces, filled, words}

-- none of the first n bytes is a mark
abbrev pub Unmarked : (ℕ → Bool) → List ℕ → ℕ → Type 0
Unmarked mark bs n = (k : ℕ) → k < n → mark (get_or bs k 0) ≡ false

-- the first mark is behind n bytes
pub pieces_found : (mark : ℕ → Bool) (bs : List ℕ) (n : ℕ) → n < length bs → Unmarked mark bs n → mark (get_or bs n 0) ≡ true → pieces mark bs ≡ take n bs ∷ pieces mark (drop (suc n) bs)
pieces_found mark [] n h none is = absurd (omega arith)
pieces_found mark (b ∷ bs) zero h none is = slice_split-cons_yes mark b bs is
pieces_found mark (b ∷ bs) (suc n) h none is =
    slice_split-cons_no mark b bs (none 0 (omega arith)) ∙ ap (onto_first b) (pieces_found mark bs n (omega arith) (λ k l. none (suc k) (omega arith)) is)

pub has_found : (mark : ℕ → Bool) (bs : List ℕ) (n : ℕ) → n < length bs → Unmarked mark bs n → mark (get_or bs n 0) ≡ true → has mark bs ≡ true
has_found mark [] n h none is = absurd (omega arith)
has_found mark (b ∷ bs) zero h none is = ap (λ t. t || has mark bs) is
has_found mark (b ∷ bs) (suc n) h none is = ap (λ t. t || has mark bs) (none 0 (omega arith)) ∙ has_found mark bs n (omega arith) (λ k l. none (suc k) (omega arith)) is

-- there is no mark
pub pieces_none : (mark : ℕ → Bool) (bs : List ℕ) → Unmarked mark bs (length bs) → pieces mark bs ≡ bs ∷ []
pieces_none mark [] none = refl
pieces_none mark (b ∷ bs) none = slice_split-cons_no mark b bs (none 0 (omega arith)) ∙ ap (onto_first b) (pieces_none mark bs (λ k l. none (suc k) (omega arith)))

pub has_none : (mark : ℕ → Bool) (bs : List ℕ) → Unmarked mark bs (length bs) → has mark bs ≡ false
has_none mark [] none = refl
has_none mark (b ∷ bs) none = ap (λ t. t || has mark bs) (none 0 (omega arith)) ∙ has_none mark bs (λ k l. none (suc k) (omega arith))

-- the same where the first mark is looked for by its position
pub pieces_at : (mark : ℕ → Bool) (bs : List ℕ) (n : ℕ) → Some n ≡ position mark bs → pieces mark bs ≡ take n bs ∷ pieces mark (take (length bs - (n + 1)) (drop (n + 1) bs))
pieces_at mark bs n e =
    elim (cases_Bool (ltb (position_or_len mark bs) (length bs))) [
      | inl t ↦
          let same : Some n ≡ Some (position_or_len mark bs) = e ∙ ap (λ b. cond b (Some (position_or_len mark bs)) None) t in
          let at : n ≡ position_or_len mark bs = cc in
          let rest : take (length bs - (n + 1)) (drop (n + 1) bs) ≡ drop (n + 1) bs = take_all (length bs - (n + 1)) (drop (n + 1) bs) (omega (arith, length-drop (n + 1) bs)) in
          slice_split_first mark bs 0 (ltb-true _ _ t) ∙ (λ i. take (sym at i) bs ∷ pieces mark (drop (sym at i + 1) bs)) ∙ ap (λ p. take n bs ∷ pieces mark p) (sym rest)
      | inr f ↦ let none : Some n ≡ None = e ∙ ap (λ b. cond b (Some (position_or_len mark bs)) None) f in cc
    ]

-- the same where none is found
unmarked : (mark : ℕ → Bool) (bs : List ℕ) → length bs ≤ position_or_len mark bs → pieces mark bs ≡ bs ∷ []
unmarked mark [] h = refl
unmarked mark (b ∷ bs) h =
    elim (cases_Bool (mark b)) [
      | inl t ↦ let first : position_or_len mark (b ∷ bs) ≡ 0 = ap (λ m. cond (not m) (1 + position_or_len mark bs) 0) t in absurd (omega arith)
      | inr f ↦
          let later : position_or_len mark (b ∷ bs) ≡ 1 + position_or_len mark bs = ap (λ m. cond (not m) (1 + position_or_len mark bs) 0) f in
          slice_split-cons_no mark b bs f ∙ ap (onto_first b) (unmarked mark bs (omega arith))
    ]

pub pieces_unmarked : (mark : ℕ → Bool) (bs : List ℕ) → None ≡ position mark bs → pieces mark bs ≡ bs ∷ []
pieces_unmarked mark bs e =
    elim (cases_Bool (ltb (position_or_len mark bs) (length bs))) [
      | inl t ↦ let some : None ≡ Some (position_or_len mark bs) = e ∙ ap (λ b. cond b (Some (position_or_len mark bs)) None) t in cc
      | inr f ↦ unmarked mark bs (ltb-false _ _ f)
    ]

-- the words of a line, by its first piece p and what the pieces behind it make
pub words_skip : (ws : List (List ℕ)) (p : List ℕ) (ps : List (List ℕ)) → ws ≡ filled (p ∷ ps) → length p ≡ 0 → ws ≡ filled ps
words_skip ws [] ps e h = e
words_skip ws (b ∷ bs) ps e h = absurd (omega arith)

pub words_first : (ws : List (List ℕ)) (p : List ℕ) (ps : List (List ℕ)) → ws ≡ filled (p ∷ ps) → 0 < length p → ws ≡ p ∷ filled ps
words_first ws [] ps e h = absurd (omega arith)
words_first ws (b ∷ bs) ps e h = e ∙ ap (λ t. cond (not t) ((b ∷ bs) ∷ filled ps) (filled ps)) (ne_eqb (length (b ∷ bs)) 0 (λ z. omega (arith, z, h)))

-- a line with nothing in it has no words
pub no_words : (line : List ℕ) → length line ≡ 0 → words line ≡ []
no_words [] h = refl
no_words (b ∷ bs) h = absurd (omega arith)
