-- The theorems of the theory.
use Rattle.std.specs.Prelude.{◌≡◌, ℕ, suc, ◌-◌, ◌<◌, ◌≤◌, true, false, List, [], length, ◌≢◌}
use Rattle.sharing.specs.Rules.{at, kept, Meaning, Lawful}
use Rattle.books.specs.Lanes.{has}
use Rattle.books.specs.Contents.{Contents, lane_of, ranking_of}
use Rattle.books.specs.Laid.{Laid, shed_of}
use Rattle.matching.specs.Offers.{Offers, asking, offered, supply_of, chosen, cleared}
use Rattle.matching.specs.Choosing.{Choosing}
use Rattle.matching.specs.Vectors.{Listed, put, Least}
use Rattle.matching.specs.Stands.{Stands}

-- what the lanes of any book choose under any lawful rule has the facts that the argument on orders rests on
abbrev pub LanesChoose : Type 0
LanesChoose = (c : Contents) (m : Meaning) → Laid c → Lawful m → Choosing (length c.lanes) (λ l. (lane_of c l).shed) (ranking_of c) (chosen c m)

-- what the lanes hold is ranked and within every capacity and every cap
pub record Fits (c : Contents) (H : Offers) : Type 0 where
  pub ranked : (l i : ℕ) → l < length c.lanes → H l i ≡ true → has (ranking_of c l) i ≡ true
  pub capacity : (l : ℕ) → l < length c.lanes → offered (H l) (ranking_of c l) ≤ at (shed_of c (lane_of c l).shed).capacities (lane_of c l).place
  pub store : (g : ℕ) → g < length c.sheds → kept (shed_of c g) (supply_of c H g) ≤ (shed_of c g).limit

-- where the lanes hold no more than they may and one more lot asks, at most one lot is not chosen in that shed
abbrev pub AtMostOneGoes : Type 0
AtMostOneGoes =
    (c : Contents) (m : Meaning) → Laid c → Lawful m → (H : Offers) → Fits c H → (h i : ℕ) → h < length c.lanes → has (ranking_of c h) i ≡ true → H h i ≡ false →
    (l x k y : ℕ) → l < length c.lanes → k < length c.lanes → (lane_of c l).shed ≡ (lane_of c h).shed → (lane_of c k).shed ≡ (lane_of c h).shed →
    asking H h i l x ≡ true → chosen c m (asking H h i) l x ≡ false → asking H h i k y ≡ true → chosen c m (asking H h i) k y ≡ false → (l ≡ k) × (x ≡ y)

-- and what the lanes hold then is within every capacity and every cap again
abbrev pub ClearingFits : Type 0
ClearingFits =
    (c : Contents) (m : Meaning) → Laid c → Lawful m → (H : Offers) → Fits c H → (h i : ℕ) → h < length c.lanes → has (ranking_of c h) i ≡ true → Fits c (cleared c m H h i)

-- before the first slip a round stands
abbrev pub BeginningStands : Type 0
BeginningStands =
    (n : ℕ) (home : ℕ → ℕ) (R : ℕ → List ℕ) (C : Offers → Offers) → Choosing n home R C → Stands n C (λ i. []) (λ i. 0) (λ l i. false)

-- a lot without a list may be given one, at any time
abbrev pub EnteringStands : Type 0
EnteringStands =
    (n : ℕ) (home : ℕ → ℕ) (R : ℕ → List ℕ) (C : Offers → Offers) → Choosing n home R C →
    (L : ℕ → List ℕ) (a : ℕ → ℕ) (H : Offers) → Listed n L → Stands n C L a H →
    (i : ℕ) (xs : List ℕ) → L i ≡ [] → Stands n C (put L i xs) a H

-- a lot that no lane holds may try its next wish, at any time: then those are held that are chosen of who was held and the applicant
abbrev pub ApplyingStands : Type 0
ApplyingStands =
    (n : ℕ) (home : ℕ → ℕ) (R : ℕ → List ℕ) (C : Offers → Offers) → Choosing n home R C →
    (L : ℕ → List ℕ) (a : ℕ → ℕ) (H : Offers) → Listed n L → Stands n C L a H →
    (i : ℕ) → a i < length (L i) → ((l : ℕ) → l < n → H l i ≡ false) →
    Stands n C L (put a i (suc (a i))) (C (asking H (at (L i) (a i)) i))

-- and other sheds, and all of them if the wished lane does not rank the applicant, hold what they held
pub record OthersStay (n : ℕ) (home : ℕ → ℕ) (R : ℕ → List ℕ) (C : Offers → Offers) (H : Offers) (h i : ℕ) : Type 0 where
  pub other_sheds : (l x : ℕ) → l < n → (home l ≢ home h) → C (asking H h i) l x ≡ H l x
  pub unranked : has (R h) i ≡ false → (l x : ℕ) → l < n → C (asking H h i) l x ≡ H l x

abbrev pub ApplyingLeavesOthers : Type 0
ApplyingLeavesOthers =
    (n : ℕ) (home : ℕ → ℕ) (R : ℕ → List ℕ) (C : Offers → Offers) → Choosing n home R C →
    (L : ℕ → List ℕ) (a : ℕ → ℕ) (H : Offers) → Listed n L → Stands n C L a H →
    (i : ℕ) → a i < length (L i) → ((l : ℕ) → l < n → H l i ≡ false) →
    OthersStay n home R C H (at (L i) (a i)) i

-- once every lot that has wishes left is held at the last one that it has tried, the vector is the least closed one
abbrev pub SettledIsLeast : Type 0
SettledIsLeast =
    (n : ℕ) (home : ℕ → ℕ) (R : ℕ → List ℕ) (C : Offers → Offers) → Choosing n home R C →
    (L : ℕ → List ℕ) (a : ℕ → ℕ) (H : Offers) → Listed n L → Stands n C L a H →
    ((i : ℕ) → a i < length (L i) → (1 ≤ a i) × (H (at (L i) (a i - 1)) i ≡ true)) → Least C L a

-- there is one least closed vector, so two rounds with the same lists end alike, in whatever orders slips and applications came
abbrev pub OrdersDoNotMatter : Type 0
OrdersDoNotMatter =
    (n : ℕ) (C : Offers → Offers) (L : ℕ → List ℕ) (a b : ℕ → ℕ) (H K : Offers) → Stands n C L a H → Stands n C L b K → Least C L a → Least C L b →
    ((i : ℕ) → a i ≡ b i) × ((l i : ℕ) → l < n → H l i ≡ K l i)
