-- The order in which the places of a shed stand in line.
use Rattle.std.specs.Prelude.{◌≡◌, ℕ, ◌+◌, ◌<◌, ◌≤◌, Bool, true, false, ◌≢◌, nat_lt}
use Rattle.sharing.specs.Cards.{Terms}
use Rattle.sharing.specs.Rules.{at}

-- does place k of lane g stand before place m of lane h; does the shed gain by moving one of the w lots of lane a to
-- lane b, which holds v
pub record Standing : Type 0 where
  pub before : Terms → ℕ → ℕ → ℕ → ℕ → Bool
  pub gains : Terms → ℕ → ℕ → ℕ → ℕ → Bool

-- a lane that can have places
abbrev pub Open : Terms → ℕ → Type 0
Open c l = 0 < at c.capacities l

-- an order of the places of all lanes that can have some
pub record Ordered (s : Standing) : Type 0 where
  -- in one lane the smaller number comes first
  pub same_lane : (c : Terms) (g k m : ℕ) → Open c g → s.before c g k g m ≡ nat_lt k m
  -- of two places in different lanes one stands before the other
  pub either : (c : Terms) (g k h m : ℕ) → Open c g → Open c h → (g ≢ h) → s.before c g k h m ≡ false → s.before c h m g k ≡ true
  pub not_both : (c : Terms) (g k h m : ℕ) → Open c g → Open c h → s.before c g k h m ≡ true → s.before c h m g k ≢ true
  pub along : (c : Terms) (g k h m i n : ℕ) → Open c g → Open c h → Open c i → s.before c g k h m ≡ true → s.before c h m i n ≡ true → s.before c g k i n ≡ true
  -- an earlier place of the one lane stands before a later one of the other
  pub wider : (c : Terms) (g k h m j n : ℕ) → Open c g → Open c h → s.before c g k h m ≡ true → j ≤ k → m ≤ n → s.before c g j h n ≡ true
  -- a gain says that the next place of b stands before the last place of a
  pub gain_before : (c : Terms) (a w b v : ℕ) → Open c a → Open c b → (a ≢ b) → 0 < w → s.gains c a w b v ≡ true → s.before c a w b (v + 1) ≡ false
