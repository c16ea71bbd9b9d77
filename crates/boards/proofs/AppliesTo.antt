-- An application, by the lot that has to go.
use Rattle.std.proofs.Common.{◌≡◌, ℕ, zero, suc, ◌*◌, ◌<◌, ◌≤◌, Bool, true, false, eqb, List, length, set, Some, None, Ok, Err, Option, Result, sym, refl, ap, ◌∙◌, subst, arith}
use Rattle.std.proofs.lemmas.Option.{slice_get-get_or}
use Rattle.std.proofs.lemmas.Bool.{eq-eqb, ltb-true}
use Rattle.sheets.specs.declared.fault.Fault.{Fault}
use Rattle.sheets.specs.declared.fault.Refusal.TheVariants.{Idle}
use Rattle.sheets.specs.Faults.{fault}
use Rattle.sharing.specs.Rules.{at, sum_to, Meaning, Lawful}
use Rattle.books.specs.Lanes.{has}
use Rattle.books.specs.Contents.{lane_of, ranking_of}
use Rattle.books.specs.Laid.{shed_of}
use Rattle.boards.specs.declared.line.Line.{Line}
use Rattle.boards.specs.declared.line.Line.TheVariants.{Absent, Looking, Held, Spent}
use Rattle.boards.specs.declared.line.Event.TheVariants.{Taken, Dropped, TurnedAway}
use Rattle.boards.specs.declared.outcome.Outcome.{Outcome}
use Rattle.boards.specs.declared.outcome.Outcome.TheVariants.{TurnedAway as Refused, TakenFor}
use Rattle.boards.specs.Lines.{fits_list}
use Rattle.boards.specs.Slips.{list_at}
use Rattle.boards.specs.Boards.{Board, line_of, wishes, tried, filling, keeps, leaver, outcome, ask, turn_away, apply_to, applied, application}
use Rattle.boards.specs.Formed.{Formed}
use Rattle.boards.specs.Searches.{next_wish, note_in, moved, goes}
use Rattle.boards.proofs.BoardLines.{tried_within}
use Rattle.boards.proofs.FormedApplies.{looks_in}
use Rattle.boards.proofs.Leavers.{lines_moved}
use Rattle.boards.proofs.LeaversAsked.{wish_of}

-- a round after an application
abbrev pub gone : Board → ℕ → Option ℕ → Board
gone s i o = record { book = s.book; lists = s.lists; lines = moved s.lists s.lines i o; count = suc s.count }

module _ (m : Meaning) (law : Lawful m) (s : Board) (v : Formed s) (i : ℕ) where
  at_wish : (n : ℕ) → line_of s i ≡ Looking n → apply_to m s i (at (wishes s i) n) ≡ (outcome i (goes m s i (at (wishes s i) n)), gone s i (goes m s i (at (wishes s i) n)))
  at_wish n e = way (has (ranking_of s.book (at (wishes s i) n)) i) refl
    where
      h : ℕ
      h = at (wishes s i) n

      ys : List Line
      ys = set s.lines i (Held (at (wishes s i) n))

      who : Option ℕ
      who = leaver (keeps s.book (set s.lines i (Held (at (wishes s i) n))) (lane_of s.book (at (wishes s i) n)).shed (m.choice (shed_of s.book (lane_of s.book (at (wishes s i) n)).shed) (filling s.book (set s.lines i (Held (at (wishes s i) n))) (lane_of s.book (at (wishes s i) n)).shed))) 0 (set s.lines i (Held (at (wishes s i) n)))

      made : Bool → Outcome × Board
      made b = elim b [ true ↦ ask m s i (at (wishes s i) n) (set s.lines i (Held (at (wishes s i) n))) (lane_of s.book (at (wishes s i) n)).shed | false ↦ turn_away s i ]

      leaving : Bool → Option ℕ
      leaving b = elim b [ true ↦ who | false ↦ Some i ]

      asked : has (ranking_of s.book (at (wishes s i) n)) i ≡ true → ask m s i (at (wishes s i) n) (set s.lines i (Held (at (wishes s i) n))) (lane_of s.book (at (wishes s i) n)).shed ≡ (outcome i who, gone s i who)
      asked r = ap (λ (zs : List Line). (outcome i who, record { book = s.book; lists = s.lists; lines = zs; count = suc s.count })) (lines_moved m law s v i n e r who refl)

      turning : Bool → Outcome × Board
      turning b = (elim b [ true ↦ Refused | false ↦ TakenFor i ], record { book = s.book; lists = s.lists; lines = elim b [ true ↦ note_in s.lists s.lines i TurnedAway | false ↦ note_in s.lists (note_in s.lists s.lines i Dropped) i Taken ]; count = suc s.count })

      self : eqb i i ≡ true
      self = eq-eqb i i refl

      away : turn_away s i ≡ (outcome i (Some i), gone s i (Some i))
      away = sym (ap turning self)

      way : (b : Bool) → has (ranking_of s.book (at (wishes s i) n)) i ≡ b → made b ≡ (outcome i (leaving b), gone s i (leaving b))
      way true r = asked r
      way false r = away

  pub applies : (h : ℕ) → next_wish (line_of s i) (wishes s i) ≡ Some h → application m s i ≡ Ok (outcome i (goes m s i h), gone s i (goes m s i h))
  applies h q =
      let w = wish_of (line_of s i) (wishes s i) h q in
      ap (applied m s i) w.1 ∙ ap {B = Result (Outcome × Board) Fault} Ok (at_wish w.0 w.1) ∙ ap (λ (z : ℕ). Ok (outcome i (goes m s i z), gone s i (goes m s i z))) w.2

  pub idle : next_wish (line_of s i) (wishes s i) ≡ None → application m s i ≡ Err (fault Idle 0)
  idle q = go (line_of s i) refl q
    where
      go : (y : Line) → line_of s i ≡ y → next_wish y (wishes s i) ≡ None → applied m s i y ≡ Err (fault Idle 0)
      go Absent e q = refl
      go (Looking n) e q =
          let here = ltb-true n (length (wishes s i)) (subst (λ (y : Line). fits_list y (list_at s.lists i) ≡ true) e (v.fit_lists i)) in
          let some = slice_get-get_or (wishes s i) n 0 here in
          cc
      go (Held l) e q = refl
      go Spent e q = refl

  pub applies_below : (h : ℕ) → next_wish (line_of s i) (wishes s i) ≡ Some h → i < 256
  applies_below h q = let w = wish_of (line_of s i) (wishes s i) h q in looks_in m law s v i w.0 w.1

-- a round makes few applications
sum_few : (f : ℕ → ℕ) (k n : ℕ) → ((x : ℕ) → f x ≤ k) → sum_to f n ≤ n * k
sum_few f k zero h = omega arith
sum_few f k (suc n) h = omega (arith, h n, sum_few f k n h)

pub count_few : (s : Board) → Formed s → s.count ≤ 3072
count_few s v = joins s.count (sum_to (tried s) 256) v.counted (sum_few (tried s) 12 256 (λ x. below x (tried_within (line_of s x) (list_at s.lists x) (v.fit_lists x)) (v.few x)))
  where
    below : (x : ℕ) → tried s x ≤ length (wishes s x) → length (wishes s x) ≤ 12 → tried s x ≤ 12
    below x a b = omega arith

    joins : (a b : ℕ) → a ≡ b → b ≤ 256 * 12 → a ≤ 3072
    joins a b p q = omega arith
