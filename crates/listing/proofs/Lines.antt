-- Lines, number by number.
use Rattle.std.proofs.Common.{◌≡◌, ℕ, suc, ◌+◌, List, ◌++◌, Some, None, arith, ap, sym, ◌∙◌, append-nil}
use Rattle.std.specs.Prelude.{Option}
use Rattle.std.specs.Option.{option_map}
use Rattle.listing.specs.Lines.{ended, shown, lines}

one_more : {A : Type 0} (line : ℕ → A → List ℕ) (found : ℕ → Option A) (n : ℕ) (o : Option A) → found n ≡ o → lines line found n ++ shown (option_map (line n) o) ≡ lines line found (n + 1)
one_more line found n o e =
    let next : suc n ≡ n + 1 = omega arith in
    ap (λ p. lines line found n ++ shown (option_map (line n) p)) (sym e) ∙ ap (lines line found) next

-- a number with a line
pub one_line : {A : Type 0} (line : ℕ → A → List ℕ) (found : ℕ → Option A) (n : ℕ) (a : A) → found n ≡ Some a → lines line found n ++ ended (line n a) ≡ lines line found (n + 1)
one_line line found n a = one_more line found n (Some a)

-- a number without
pub no_line : {A : Type 0} (line : ℕ → A → List ℕ) (found : ℕ → Option A) (n : ℕ) → found n ≡ None → lines line found n ≡ lines line found (n + 1)
no_line line found n e = sym (append-nil (lines line found n)) ∙ one_more line found n None e
