-- A number is one or more of the digits 0 to 9 and at most 65,535.
use Rattle.std.specs.Prelude.{ℕ, ◌+◌, ◌-◌, ◌*◌, Bool, true, false, ◌&&◌, List, [], ◌∷◌, Some, None, Option, nat_le}

abbrev pub digit : ℕ → Bool
digit b = nat_le 48 b && nat_le b 57

abbrev pub digit_of : ℕ → Option ℕ
digit_of b = elim (digit b) [ true ↦ Some (b - 48) | false ↦ None ]

abbrev pub digits : List ℕ → Bool
digits [] = true
digits (b ∷ bs) = digit b && digits bs

-- the value of digits behind a number that is begun
abbrev pub value : ℕ → List ℕ → ℕ
value v [] = v
value v (b ∷ bs) = value (v * 10 + (b - 48)) bs

-- digits behind a number that is begun, if they are digits and the number is not too large
abbrev pub go_on : ℕ → List ℕ → Option ℕ
go_on v bs = elim (digits bs && nat_le (value v bs) 65535) [ true ↦ Some (value v bs) | false ↦ None ]

abbrev pub number : List ℕ → Option ℕ
number [] = None
number (b ∷ bs) = go_on 0 (b ∷ bs)
