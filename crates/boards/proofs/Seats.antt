-- The lots at each place of a shed's card, counted line by line.
use Rattle.std.proofs.Common.{◌≡◌, ℕ, ◌+◌, ◌<◌, ◌≤◌, Bool, true, false, eqb, ltb, List, [], length, get_or, take, set, replicate, IfSome, Some, None, Option, sym, refl, ap, ◌∙◌, subst, inl, inr, arith, length-set}
use lib.ListN.{length-replicate}
use Rattle.std.specs.List.{slice_get}
use Rattle.std.specs.Option.{option_map}
use Rattle.std.proofs.lemmas.List.{get_or_past, get_or-set_same, get_or-set_other, get_or-replicate, take_all}
use Rattle.std.proofs.lemmas.List.FromFn.{fill_by_all}
use Rattle.std.proofs.lemmas.Option.{slice_get-get_or, slice_get_past}
use Rattle.std.proofs.lemmas.List.Sums.{count_by-le-length, count_by_more_yes, count_by_more_no}
use Rattle.std.proofs.lemmas.Bool.{cases_eq, cases_lt, lt-ltb, le-ltb, eq-eqb, ne_eqb}
use Rattle.sharing.specs.Rules.{lanes}
use Rattle.sharing.specs.Within.{lanes_are_few}
use Rattle.books.specs.Lanes.{Entry}
use Rattle.books.specs.Contents.{Contents, lane_of, no_entry, no_shed}
use Rattle.books.specs.Laid.{Laid, shed_of, first_lane}
use Rattle.books.proofs.Laid.{lane_at_place, lane_stands}
use Rattle.boards.specs.declared.line.Line.{Line}
use Rattle.boards.specs.declared.line.Line.TheVariants.{Absent, Looking, Held, Spent}
use Rattle.boards.specs.Lines.{holds}
use Rattle.boards.specs.Boards.{held, filling}
use Rattle.boards.specs.Searches.{seat}

-- where a held lot sits, by its lane
pub seat_here : (c : Contents) (g l : ℕ) → l < length c.lanes → (lane_of c l).shed ≡ g → seat c g (Held l) ≡ Some (lane_of c l).place
seat_here c g l inside e =
    ap {B = Option ℕ} (λ (z : Bool). elim z [ true ↦ elim (eqb (lane_of c l).shed g) [ true ↦ Some (lane_of c l).place | false ↦ None ] | false ↦ None ]) (lt-ltb l (length c.lanes) inside) ∙
    ap {B = Option ℕ} (λ (z : Bool). elim z [ true ↦ Some (lane_of c l).place | false ↦ None ]) (eq-eqb (lane_of c l).shed g e)

pub seat_elsewhere : (c : Contents) (g l : ℕ) → l < length c.lanes → ((lane_of c l).shed ≡ g → ⊥) → seat c g (Held l) ≡ None
seat_elsewhere c g l inside other =
    ap {B = Option ℕ} (λ (z : Bool). elim z [ true ↦ elim (eqb (lane_of c l).shed g) [ true ↦ Some (lane_of c l).place | false ↦ None ] | false ↦ None ]) (lt-ltb l (length c.lanes) inside) ∙
    ap {B = Option ℕ} (λ (z : Bool). elim z [ true ↦ Some (lane_of c l).place | false ↦ None ]) (ne_eqb (lane_of c l).shed g other)

pub seat_past : (c : Contents) (g l : ℕ) → length c.lanes ≤ l → seat c g (Held l) ≡ None
seat_past c g l past = ap {B = Option ℕ} (λ (z : Bool). elim z [ true ↦ elim (eqb (lane_of c l).shed g) [ true ↦ Some (lane_of c l).place | false ↦ None ] | false ↦ None ]) (le-ltb l (length c.lanes) past)

-- the same, by what the book says of the lane
pub seat_there : (c : Contents) (g l : ℕ) → option_map (λ (e : Entry). e.shed) (slice_get c.lanes l) ≡ Some g → seat c g (Held l) ≡ option_map (λ (e : Entry). e.place) (slice_get c.lanes l)
seat_there c g l e =
    elim (cases_lt l (length c.lanes)) [
      | inl inside ↦
          let is = slice_get-get_or c.lanes l no_entry inside in
          let shed = ap (option_map (λ (x : Entry). x.shed)) is in
          let same : (lane_of c l).shed ≡ g = cc in
          seat_here c g l inside same ∙ sym (ap (option_map (λ (x : Entry). x.place)) is)
      | inr past ↦ seat_past c g l past ∙ sym (ap (option_map (λ (x : Entry). x.place)) (slice_get_past c.lanes l past))
    ]

pub seat_not : (c : Contents) (g l : ℕ) → (option_map (λ (e : Entry). e.shed) (slice_get c.lanes l) ≡ Some g → ⊥) → seat c g (Held l) ≡ None
seat_not c g l never =
    elim (cases_lt l (length c.lanes)) [
      | inl inside ↦ seat_elsewhere c g l inside (λ same. never (ap (option_map (λ (x : Entry). x.shed)) (slice_get-get_or c.lanes l no_entry inside) ∙ ap Some same))
      | inr past ↦ seat_past c g l past
    ]

-- how many lots the lane at a place of the card of shed g holds
abbrev pub seated : Contents → List Line → ℕ → ℕ → ℕ
seated c ys g k = elim (ltb k (lanes (shed_of c g))) [ true ↦ held (first_lane c g + k) ys | false ↦ 0 ]

seated_on : (c : Contents) (ys : List Line) (g k : ℕ) → k < lanes (shed_of c g) → seated c ys g k ≡ held (first_lane c g + k) ys
seated_on c ys g k on = ap {B = ℕ} (λ (z : Bool). elim z [ true ↦ held (first_lane c g + k) ys | false ↦ 0 ]) (lt-ltb k (lanes (shed_of c g)) on)

seated_off : (c : Contents) (ys : List Line) (g k : ℕ) → lanes (shed_of c g) ≤ k → seated c ys g k ≡ 0
seated_off c ys g k off = ap {B = ℕ} (λ (z : Bool). elim z [ true ↦ held (first_lane c g + k) ys | false ↦ 0 ]) (le-ltb k (lanes (shed_of c g)) off)

pub seated_few : (c : Contents) (ys : List Line) (g k : ℕ) → seated c ys g k ≤ length ys
seated_few c ys g k =
    elim (cases_lt k (lanes (shed_of c g))) [
      | inl on ↦ omega (arith, seated_on c ys g k on, count_by-le-length (λ y. holds y (first_lane c g + k)) ys)
      | inr off ↦ omega (arith, seated_off c ys g k off)
    ]

module _ (c : Contents) (laid : Laid c) (g : ℕ) where
  -- a shed with a place on its card is in the book
  known : (k : ℕ) → k < lanes (shed_of c g) → g < length c.sheds
  known k on =
      elim (cases_lt g (length c.sheds)) [
        | inl inside ↦ inside
        | inr past ↦ absurd (omega (arith, ap lanes (get_or_past c.sheds g no_shed past)))
      ]

  -- who sits at a place is held by the lane there
  sits : (y : Line) (k : ℕ) → seat c g y ≡ Some k → (k < lanes (shed_of c g)) × (holds y (first_lane c g + k) ≡ true)
  sits Absent k e = cc
  sits (Looking n) k e = cc
  sits (Held l) k e =
      elim (cases_lt l (length c.lanes)) [
        | inl inside ↦ elim (cases_eq (lane_of c l).shed g) [
          | inl here ↦
              let there = seat_here c g l inside here in
              let at-k : (lane_of c l).place ≡ k = cc in
              (omega (arith, laid.stands_on_card l inside, ap (λ h. lanes (shed_of c h)) here), eq-eqb l (first_lane c g + k) (omega (arith, laid.in_order l inside, ap (first_lane c) here)))
          | inr other ↦ cc (seat_elsewhere c g l inside other)
        ]
        | inr past ↦ cc (seat_past c g l past)
      ]
  sits Spent k e = cc

  -- at one of eight places
  pub seat_small : (y : Line) → IfSome (seat c g y) (λ p. p < 8)
  seat_small y = by_some (seat c g y) (λ k e. let s = sits y k e in small k s.0)
    where
      small : (k : ℕ) → k < lanes (shed_of c g) → k < 8
      small k on = let card = laid.carded g (known k on) in omega (arith, lanes_are_few card.0, ap lanes card.1)

      by_some : (o : Option ℕ) → ((k : ℕ) → o ≡ Some k → k < 8) → IfSome o (λ p. p < 8)
      by_some None h = tt
      by_some (Some k) h = h k refl

  -- and who sits elsewhere is not
  sits_not : (y : Line) (k : ℕ) → k < lanes (shed_of c g) → (seat c g y ≡ Some k → ⊥) → holds y (first_lane c g + k) ≡ false
  sits_not Absent k on never = refl
  sits_not (Looking n) k on never = refl
  sits_not (Held l) k on never =
      ne_eqb l (first_lane c g + k) (λ e.
      let inside = lane_at_place c laid g k (known k on) on in
      let stands = lane_stands c laid g k (known k on) on in
      never (ap (λ z. seat c g (Held z)) e ∙ seat_here c g (first_lane c g + k) inside stands.0 ∙ ap Some stands.1))
  sits_not Spent k on never = refl

  -- one line more
  module _ (ys : List Line) (i : ℕ) (h : i < length ys) where
    seated_more : (k : ℕ) → seat c g (get_or ys i Absent) ≡ Some k → seated c (take (i + 1) ys) g k ≡ seated c (take i ys) g k + 1
    seated_more k e =
        let s = sits (get_or ys i Absent) k e in
        omega (arith, seated_on c (take (i + 1) ys) g k s.0, seated_on c (take i ys) g k s.0, count_by_more_yes (λ y. holds y (first_lane c g + k)) ys i Absent h s.1)

    seated_same : (k : ℕ) → (seat c g (get_or ys i Absent) ≡ Some k → ⊥) → seated c (take (i + 1) ys) g k ≡ seated c (take i ys) g k
    seated_same k never =
        elim (cases_lt k (lanes (shed_of c g))) [
          | inl on ↦ omega (arith, seated_on c (take (i + 1) ys) g k on, seated_on c (take i ys) g k on, count_by_more_no (λ y. holds y (first_lane c g + k)) ys i Absent h (sits_not (get_or ys i Absent) k on never))
          | inr off ↦ omega (arith, seated_off c (take (i + 1) ys) g k off, seated_off c (take i ys) g k off)
        ]

-- the counts of a shed's card over some lines
abbrev pub Counts : Contents → List Line → ℕ → List ℕ → Type 0
Counts c ys g xs = (length xs ≡ 8) × ((k : ℕ) → k < 8 → get_or xs k 0 ≡ seated c ys g k)

-- eight places without a lot
pub counts_none : (c : Contents) (g : ℕ) → Counts c [] g (replicate 8 0)
counts_none c g = (length-replicate {A = ℕ} 8 0, λ k below. get_or-replicate 8 k 0 0 below ∙ sym (none k))
  where
    none : (k : ℕ) → seated c [] g k ≡ 0
    none k =
        elim (cases_lt k (lanes (shed_of c g))) [
          | inl on ↦ seated_on c [] g k on
          | inr off ↦ seated_off c [] g k off
        ]

module _ (c : Contents) (laid : Laid c) (g : ℕ) (ys : List Line) (i : ℕ) (h : i < length ys) (xs : List ℕ) (counts : Counts c (take i ys) g xs) where
  -- one more where the next lot sits
  pub counts_more : (p : ℕ) → p < 8 → seat c g (get_or ys i Absent) ≡ Some p → Counts c (take (i + 1) ys) g (set xs p (get_or xs p 0 + 1))
  counts_more p small e = (
    omega (arith, length-set xs p (get_or xs p 0 + 1), counts.0),
    λ k below. elim (cases_eq k p) [
      | inl same ↦ subst (λ z. get_or (set xs p (get_or xs p 0 + 1)) z 0 ≡ seated c (take (i + 1) ys) g z) (sym same)
          (omega (arith, get_or-set_same xs p (get_or xs p 0 + 1) 0 (omega (arith, counts.0)), counts.1 p small, seated_more c laid g ys i h p e))
      | inr other ↦ omega (arith, get_or-set_other xs p k (get_or xs p 0 + 1) 0 other, counts.1 k below, seated_same c laid g ys i h k (λ q. other (let z : k ≡ p = cc in z)))
    ],
  )

  pub counts_same : seat c g (get_or ys i Absent) ≡ None → Counts c (take (i + 1) ys) g xs
  counts_same e = (counts.0, λ k below. counts.1 k below ∙ sym (seated_same c laid g ys i h k (λ q. cc)))

pub counts_all : (c : Contents) (g : ℕ) (ys : List Line) (i : ℕ) → length ys ≤ i → (xs : List ℕ) → Counts c (take i ys) g xs → xs ≡ filling c ys g
counts_all c g ys i past xs counts = fill_by_all (seated c ys g) xs 8 0 counts.0 (λ k below. counts.1 k below ∙ ap (λ zs. seated c zs g k) (take_all i ys past))
