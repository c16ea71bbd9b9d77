-- Digits behind a number that is begun.
use Rattle.std.proofs.Common.{◌≡◌, ℕ, ◌+◌, ◌-◌, ◌*◌, ◌<◌, ◌≤◌, Bool, true, false, ◌&&◌, leb, List, [], ◌∷◌, length, Some, None, Option, sym, refl, ap, ◌∙◌, inl, inr, arith}
use Rattle.std.proofs.lemmas.Bool.{le-leb, lt-leb, cases_Bool, cases_lt}
use Rattle.std.proofs.lemmas.Bool.Decides.{nat_tests}
use Rattle.tables.specs.Numbers.{digit, digit_of, digits, value, go_on, number}

-- a number only grows
value_grows : (v : ℕ) (bs : List ℕ) → v ≤ value v bs
value_grows v [] = omega arith
value_grows v (b ∷ bs) = let more = value_grows (v * 10 + (b - 48)) bs in omega arith

abbrev told : Bool → ℕ → Option ℕ
told t n = elim t [ true ↦ Some n | false ↦ None ]

-- one digit more
pub goes_on : (v b : ℕ) (bs : List ℕ) → digit b ≡ true → go_on v (b ∷ bs) ≡ go_on (v * 10 + (b - 48)) bs
goes_on v b bs e = let rest = value (v * 10 + (b - 48)) bs in ap (λ t. told (t && digits bs && leb rest 65535) rest) e

pub no_digit : (v b : ℕ) (bs : List ℕ) → digit b ≡ false → go_on v (b ∷ bs) ≡ None
no_digit v b bs e = let rest = value (v * 10 + (b - 48)) bs in ap (λ t. told (t && digits bs && leb rest 65535) rest) e

pub too_large : (v : ℕ) (bs : List ℕ) → 65535 < v → go_on v bs ≡ None
too_large v bs h =
    let grows = value_grows v bs in
    let large : leb (value v bs) 65535 ≡ false = lt-leb (value v bs) 65535 (omega arith) in
    ap (λ t. told (digits bs && t) (value v bs)) large ∙ (let d = digits bs in grind (arith, nat_tests))

pub at_end : (v : ℕ) → v ≤ 65535 → go_on v [] ≡ Some v
at_end v h = ap (λ t. told t v) (le-leb v 65535 h)

-- digits behind a number that is begun, one after another: the first that is no digit or makes the number too large ends it
abbrev pub with_digits : Option ℕ → List ℕ → Option ℕ
with_digits None bs = None
with_digits (Some v) [] = Some v
with_digits (Some v) (b ∷ bs) = with_digits (go_on v (b ∷ [])) bs

stopped : (o : Option ℕ) (bs : List ℕ) → o ≡ None → with_digits o bs ≡ None
stopped o bs e = ap (λ p. with_digits p bs) e

pub with_digits-go_on : (v : ℕ) (bs : List ℕ) → v ≤ 65535 → with_digits (Some v) bs ≡ go_on v bs
with_digits-go_on v [] h = sym (at_end v h)
with_digits-go_on v (b ∷ bs) h =
    elim (cases_Bool (digit b)) [
      | inr other ↦ stopped (go_on v (b ∷ [])) bs (no_digit v b [] other) ∙ sym (no_digit v b bs other)
      | inl is ↦
          let n = v * 10 + (b - 48) in
          elim (cases_lt 65535 n) [
            | inl large ↦ stopped (go_on v (b ∷ [])) bs (goes_on v b [] is ∙ too_large n [] large) ∙ sym (goes_on v b bs is ∙ too_large n bs large)
            | inr small ↦ ap (λ o. with_digits o bs) (goes_on v b [] is ∙ at_end n small) ∙ with_digits-go_on n bs small ∙ sym (goes_on v b bs is)
          ]
    ]

-- a digit and its value, and a byte that is none
pub digit_known : (b d : ℕ) → digit_of b ≡ Some d → (digit b ≡ true) × (d ≡ b - 48)
digit_known b d e =
    elim (cases_Bool (digit b)) [
      | inl t ↦ let is : digit_of b ≡ Some (b - 48) = ap (λ x. told x (b - 48)) t in (t, cc)
      | inr f ↦ let is : digit_of b ≡ None = ap (λ x. told x (b - 48)) f in absurd cc
    ]

pub digit_none : (b : ℕ) → digit_of b ≡ None → digit b ≡ false
digit_none b e =
    elim (cases_Bool (digit b)) [
      | inl t ↦ let is : digit_of b ≡ Some (b - 48) = ap (λ x. told x (b - 48)) t in absurd cc
      | inr f ↦ f
    ]

pub some_digits : (w : List ℕ) → 0 < length w → number w ≡ go_on 0 w
some_digits [] h = absurd (omega arith)
some_digits (b ∷ bs) h = refl
