-- What cards and lanes say, and what comes to it word by word.
use Rattle.std.specs.Prelude.{ℕ, ◌-◌, true, false, List, [], ◌∷◌, ◌++◌, map, length, is_some, slice_index_or, slice_set}
use Rattle.sharing.specs.declared.card.Card.{Card}
use Rattle.sharing.specs.Cards.{Terms, terms, more_terms}
use Rattle.books.specs.declared.lane.Lane.{Lane}
use Rattle.books.specs.Lanes.{Entry, lots_in}

-- what a lane says
abbrev pub entry : Lane → Entry
entry l = record { shed = l.shed; place = l.place; recorded = is_some l.ranking; ranking = lots_in l.ranking }

-- the terms of each shed and the entry of each lane, in the order of the sheet
pub record Contents : Type 0 where
  pub sheds : List Terms
  pub lanes : List Entry

-- what cards and lanes say together
abbrev pub contents_of : List Card → List Lane → Contents
contents_of cards lanes = record { sheds = map terms cards; lanes = map entry lanes }

-- no shed, no lane
abbrev pub nothing : Contents
nothing = record { sheds = []; lanes = [] }

abbrev pub no_shed : Terms
no_shed = record { shed = 0; limit = 0; capacities = []; targets = [] }

abbrev pub no_entry : Entry
no_entry = record { shed = 0; place = 0; recorded = false; ranking = [] }

abbrev pub lane_of : Contents → ℕ → Entry
lane_of c l = slice_index_or c.lanes l no_entry

-- the lots that a lane ranks; none if it is not in the book
abbrev pub ranking_of : Contents → ℕ → List ℕ
ranking_of c l = (lane_of c l).ranking

-- the last shed and its number
abbrev pub last_shed : Contents → ℕ
last_shed c = length c.sheds - 1

abbrev pub last_terms : Contents → Terms
last_terms c = slice_index_or c.sheds (last_shed c) no_shed

-- one shed more, without lanes
abbrev pub with_shed : Contents → ℕ → Contents
with_shed c limit = record { sheds = c.sheds ++ (record { shed = length c.sheds; limit = limit; capacities = []; targets = [] }) ∷ []; lanes = c.lanes }

-- a lane without a ranking
abbrev pub blank_entry : ℕ → ℕ → Entry
blank_entry shed place = record { shed = shed; place = place; recorded = false; ranking = [] }

-- one lane more in the last shed, without a ranking
abbrev pub with_lane : Contents → ℕ → ℕ → Contents
with_lane c target capacity = record {
  sheds = slice_set c.sheds (last_shed c) (more_terms (last_terms c) target capacity);
  lanes = c.lanes ++ blank_entry (last_shed c) (length (last_terms c).capacities) ∷ [];
}

abbrev pub recorded_entry : Entry → Entry
recorded_entry e = record { shed = e.shed; place = e.place; recorded = true; ranking = e.ranking }

-- a ranking record for a lane
abbrev pub with_record : Contents → ℕ → Contents
with_record c l = record { sheds = c.sheds; lanes = slice_set c.lanes l (recorded_entry (lane_of c l)) }

abbrev pub ranked_entry : Entry → ℕ → Entry
ranked_entry e lot = record { shed = e.shed; place = e.place; recorded = e.recorded; ranking = e.ranking ++ lot ∷ [] }

-- one lot more in a lane's ranking
abbrev pub with_lot : Contents → ℕ → ℕ → Contents
with_lot c l lot = record { sheds = c.sheds; lanes = slice_set c.lanes l (ranked_entry (lane_of c l) lot) }
