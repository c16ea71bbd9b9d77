-- Numbers between marks.
use Rattle.std.proofs.Common.{◌≡◌, ℕ, Bool, true, false, ◌&&◌, leb, ◌⊎◌, List, [], ◌∷◌, Some, None, Option, sym, refl, ap, ◌∙◌, inl, inr, arith}
use Rattle.std.proofs.lemmas.Bool.{cases_Bool}
use Rattle.std.proofs.lemmas.Bool.Decides.{nat_tests}
use Rattle.std.proofs.lemmas.List.Splits.{slice_split-cons_yes, slice_split-cons_no}
use Rattle.std.specs.List.{onto_first}
use Rattle.tables.specs.declared.question.LaneWord.{LaneWord}
use Rattle.tables.specs.declared.question.Move.{Move}
use Rattle.tables.specs.Cuts.{slash, arrow, pieces}
use Rattle.tables.specs.Numbers.{digit, digits, value, number}
use Rattle.tables.specs.Questions.{lane_of, move_of}

some_piece : (mark : ℕ → Bool) (bs : List ℕ) → (p : List ℕ) × (ps : List (List ℕ)) × (pieces mark bs ≡ p ∷ ps)
some_piece mark [] = ([], [], refl)
some_piece mark (b ∷ bs) =
    elim (cases_Bool (mark b)) [
      | inl t ↦ ([], pieces mark bs, slice_split-cons_yes mark b bs t)
      | inr f ↦ let rest = some_piece mark bs in (b ∷ rest.0, rest.1, slice_split-cons_no mark b bs f ∙ ap (onto_first b) rest.2)
    ]

-- bytes that are no digits alone
digits_no : (b : ℕ) (bs : List ℕ) → (digit b ≡ false) ⊎ (digits bs ≡ false) → digits (b ∷ bs) ≡ false
digits_no b bs (inl e) = ap (λ t. t && digits bs) e
digits_no b bs (inr e) = let d = digit b in grind (arith, nat_tests)

no_number : (bs : List ℕ) → digits bs ≡ false → number bs ≡ None
no_number [] e = refl
no_number (b ∷ bs) e = let n = value 0 (b ∷ bs) in ap (λ t. elim (t && leb n 65535) [ true ↦ Some n | false ↦ None ]) e

-- bytes with no mark in them are one piece; if no mark is a digit, others are no number, and more than one piece
abbrev pub Apart : (ℕ → Bool) → List ℕ → Type 0
Apart mark bs = (pieces mark bs ≡ bs ∷ []) ⊎ ((p : List ℕ) × (q : List ℕ) × (ps : List (List ℕ)) × (pieces mark bs ≡ p ∷ q ∷ ps) × (digits bs ≡ false))

apart : (mark : ℕ → Bool) → ((b : ℕ) → mark b ≡ true → digit b ≡ false) → (bs : List ℕ) → Apart mark bs
apart mark strange [] = inl refl
apart mark strange (b ∷ bs) =
    elim (cases_Bool (mark b)) [
      | inl t ↦ let rest = some_piece mark bs in inr ([], rest.0, rest.1, slice_split-cons_yes mark b bs t ∙ ap (λ ps. [] ∷ ps) rest.2, digits_no b bs (inl (strange b t)))
      | inr f ↦
          elim (apart mark strange bs) [
            | inl one ↦ inl (slice_split-cons_no mark b bs f ∙ ap (onto_first b) one)
            | inr more ↦ inr (b ∷ more.0, more.1, more.2, slice_split-cons_no mark b bs f ∙ ap (onto_first b) more.3, digits_no b bs (inr more.4))
          ]
    ]

-- The last number of a lane or a move has no mark in it: bytes with one are no number.
abbrev pub lane : Option ℕ → Option ℕ → Option ℕ → Option LaneWord
lane o p r = elim o [ None ↦ None | Some capacity ↦ elim p [ None ↦ None | Some target ↦ elim r [ None ↦ None | Some load ↦ Some (record { capacity = capacity; target = target; number = load }) ] ] ]

pub lane_none : (o p : Option ℕ) → lane o p None ≡ None
lane_none None p = refl
lane_none (Some x) None = refl
lane_none (Some x) (Some y) = refl

lane_apart : (q t n : List ℕ) → lane_of (q ∷ t ∷ pieces slash n) ≡ lane (number q) (number t) (number n)
lane_apart q t n =
    elim (apart slash (λ b e. grind (arith, nat_tests)) n) [
      | inl one ↦ ap (λ ps. lane_of (q ∷ t ∷ ps)) one
      | inr more ↦ ap (λ ps. lane_of (q ∷ t ∷ ps)) more.3 ∙ sym (ap (lane (number q) (number t)) (no_number n more.4) ∙ lane_none (number q) (number t))
    ]

-- a word that was cut twice
pub lane_parts : (w q rest t n : List ℕ) → pieces slash w ≡ q ∷ pieces slash rest → pieces slash rest ≡ t ∷ pieces slash n → lane_of (pieces slash w) ≡ lane (number q) (number t) (number n)
lane_parts w q rest t n first second = ap lane_of (first ∙ ap (λ ps. q ∷ ps) second) ∙ lane_apart q t n

abbrev pub step : Option ℕ → Option ℕ → Option Move
step o p = elim o [ None ↦ None | Some from ↦ elim p [ None ↦ None | Some to ↦ Some (record { from = from; to = to }) ] ]

pub step_none : (o : Option ℕ) → step o None ≡ None
step_none None = refl
step_none (Some x) = refl

-- a word that was cut once
pub move_parts : (w a b : List ℕ) → pieces arrow w ≡ a ∷ pieces arrow b → move_of (pieces arrow w) ≡ step (number a) (number b)
move_parts w a b first =
    ap move_of first
    ∙ elim (apart arrow (λ x e. grind (arith, nat_tests)) b) [
      | inl one ↦ ap (λ ps. move_of (a ∷ ps)) one
      | inr more ↦ ap (λ ps. move_of (a ∷ ps)) more.3 ∙ sym (ap (step (number a)) (no_number b more.4) ∙ step_none (number a))
    ]
