-- Lines and the lists that they fit.
use Rattle.std.proofs.Common.{◌≡◌, ℕ, zero, suc, ◌<◌, ◌≤◌, Bool, true, false, eqb, ltb, List, [], ◌∷◌, length, get_or, set, is_some, Some, None, Option, sym, refl, ap, ◌∙◌, subst, inl, inr, arith}
use Rattle.std.proofs.lemmas.List.{get_or-set_same, get_or-set_other}
use Rattle.std.proofs.lemmas.Bool.Decides.{nat_tests}
use Rattle.std.proofs.lemmas.Bool.{cases_Bool, cases_eq, both_ways, eqb-true, eq-eqb, ltb-true}
use Rattle.sharing.specs.Rules.{at}
use Rattle.books.specs.Lanes.{has, distinct}
use Rattle.matching.specs.Vectors.{put}
use Rattle.matching.proofs.Wishes.{has_at, put_here, put_there}
use Rattle.boards.specs.declared.line.Line.{Line}
use Rattle.boards.specs.declared.line.Line.TheVariants.{Absent, Looking, Held, Spent}
use Rattle.boards.specs.declared.line.Event.TheVariants.{Dropped}
use Rattle.boards.specs.Lines.{place, next, noted, holds, looks, tried_of, wishes_of, fits_list}
use Rattle.boards.specs.Boards.{stays, leaves}

-- a line fits a list
abbrev pub FitsList : Line → Option (List ℕ) → Type 0
FitsList y o = fits_list y o ≡ true

-- without a list there are no wishes
pub none_empty : (o : Option (List ℕ)) → is_some o ≡ false → length (wishes_of o) ≡ 0
none_empty None e = refl
none_empty (Some xs) e = absurd (both_ways true e refl)

pub place_lt : (xs : List ℕ) (l : ℕ) → has xs l ≡ true → place xs l < length xs
place_lt [] l e = absurd (grind (arith, nat_tests))
place_lt (x ∷ xs) l e = let t = place_lt xs l in grind (arith, nat_tests)

pub place_within : (xs : List ℕ) (l : ℕ) → place xs l ≤ length xs
place_within [] l = omega arith
place_within (x ∷ xs) l =
    let rest = place_within xs l in
    elim (eqb x l) as (λ b. elim b [ true ↦ 0 | false ↦ suc (place xs l) ] ≤ suc (length xs)) [ true ↦ omega arith | false ↦ omega arith ]

pub place_yes : (x : ℕ) (xs : List ℕ) (l : ℕ) → eqb x l ≡ true → place (x ∷ xs) l ≡ 0
place_yes x xs l e = ap (λ (z : Bool). elim z [ true ↦ 0 | false ↦ suc (place xs l) ]) e

pub place_no : (x : ℕ) (xs : List ℕ) (l : ℕ) → eqb x l ≡ false → place (x ∷ xs) l ≡ suc (place xs l)
place_no x xs l e = ap (λ (z : Bool). elim z [ true ↦ 0 | false ↦ suc (place xs l) ]) e

pub place_at : (xs : List ℕ) (l : ℕ) → has xs l ≡ true → at xs (place xs l) ≡ l
place_at [] l e = absurd (grind (arith, nat_tests))
place_at (x ∷ xs) l e =
    elim (cases_Bool (eqb x l)) [
      | inl q ↦ ap (at (x ∷ xs)) (place_yes x xs l q) ∙ eqb-true x l q
      | inr q ↦ ap (at (x ∷ xs)) (place_no x xs l q) ∙ place_at xs l (grind (arith, nat_tests))
    ]

-- where no lane stands twice, the place of the k-th wish is k
pub place_apart : (xs : List ℕ) → distinct xs ≡ true → (k : ℕ) → k < length xs → place xs (at xs k) ≡ k
place_apart [] d k h = absurd (omega arith)
place_apart (x ∷ xs) d zero h = grind (arith, nat_tests)
place_apart (x ∷ xs) d (suc k) h =
    let t = place_apart xs (grind (arith, nat_tests)) k (omega arith) in
    let u : has xs (at xs k) ≡ true = has_at xs k (omega arith) in
    elim (cases_eq x (at xs k)) [
      | inl q ↦ absurd (let z : has xs x ≡ true = rw q u in grind (arith, nat_tests))
      | inr q ↦ grind (arith, nat_tests)
    ]

next_yes : (xs : List ℕ) (k : ℕ) → ltb k (length xs) ≡ true → next xs k ≡ Looking k
next_yes xs k e = ap (λ (z : Bool). elim z [ true ↦ Looking k | false ↦ Spent ]) e

next_no : (xs : List ℕ) (k : ℕ) → ltb k (length xs) ≡ false → next xs k ≡ Spent
next_no xs k e = ap (λ (z : Bool). elim z [ true ↦ Looking k | false ↦ Spent ]) e

pub next_tried : (xs : List ℕ) (k : ℕ) → k ≤ length xs → tried_of (next xs k) xs ≡ k
next_tried xs k h =
    elim (cases_Bool (ltb k (length xs))) [
      | inl e ↦ ap (λ (y : Line). tried_of y xs) (next_yes xs k e)
      | inr e ↦ ap (λ (y : Line). tried_of y xs) (next_no xs k e) ∙ (let z : length xs ≡ k = grind (arith, nat_tests) in z)
    ]

pub next_holds : (xs : List ℕ) (k l : ℕ) → holds (next xs k) l ≡ false
next_holds xs k l =
    elim (cases_Bool (ltb k (length xs))) [
      | inl e ↦ ap (λ (y : Line). holds y l) (next_yes xs k e)
      | inr e ↦ ap (λ (y : Line). holds y l) (next_no xs k e)
    ]

pub next_fits : (o : Option (List ℕ)) (k : ℕ) → is_some o ≡ true → FitsList (next (wishes_of o) k) o
next_fits o k some =
    elim (cases_Bool (ltb k (length (wishes_of o)))) [
      | inl e ↦ subst (λ (y : Line). FitsList y o) (sym (next_yes (wishes_of o) k e)) e
      | inr e ↦ subst (λ (y : Line). FitsList y o) (sym (next_no (wishes_of o) k e)) some
    ]

-- a list with a wish is there
pub has_some : (o : Option (List ℕ)) (l : ℕ) → has (wishes_of o) l ≡ true → is_some o ≡ true
has_some None l e = absurd (grind (arith, nat_tests))
has_some (Some xs) l e = refl

pub long_some : (o : Option (List ℕ)) (k : ℕ) → k < length (wishes_of o) → is_some o ≡ true
long_some None k h = absurd (omega arith)
long_some (Some xs) k h = refl

pub tried_within : (y : Line) (o : Option (List ℕ)) → FitsList y o → tried_of y (wishes_of o) ≤ length (wishes_of o)
tried_within Absent o v = omega arith
tried_within (Looking n) o v = omega (arith, ltb-true n (length (wishes_of o)) v)
tried_within (Held l) o v = place_lt (wishes_of o) l v
tried_within Spent o v = omega arith

-- a lot that no longer looks and has wishes left is held at the last one that it tried
pub held_last : (y : Line) (o : Option (List ℕ)) → FitsList y o → looks y ≡ false → tried_of y (wishes_of o) < length (wishes_of o) →
    (1 ≤ tried_of y (wishes_of o)) × ((k : ℕ) → suc k ≡ tried_of y (wishes_of o) → holds y (at (wishes_of o) k) ≡ true)
held_last Absent o v q h = absurd (omega (arith, none_empty o (grind (arith, nat_tests))))
held_last (Looking n) o v q h = absurd (both_ways true q refl)
held_last (Held l) o v q h = (omega arith, λ k e. eq-eqb l (at (wishes_of o) k) (sym (place_at (wishes_of o) l v) ∙ ap (at (wishes_of o)) (let z : place (wishes_of o) l ≡ k = omega arith in z)))
held_last Spent o v q h = absurd (omega arith)

pub held_on_list : (y : Line) (o : Option (List ℕ)) → FitsList y o → (l : ℕ) → holds y l ≡ true → has (wishes_of o) l ≡ true
held_on_list Absent o v l h = absurd (grind (arith, nat_tests))
held_on_list (Looking n) o v l h = absurd (grind (arith, nat_tests))
held_on_list (Held k) o v l h = subst (λ (z : ℕ). has (wishes_of o) z ≡ true) (eqb-true k l h) v
held_on_list Spent o v l h = absurd (grind (arith, nat_tests))

-- who stays and who is dropped
pub stays_yes : (xs : List ℕ) (p : ℕ → Bool) (l : ℕ) → p l ≡ true → stays xs p (Held l) ≡ Held l
stays_yes xs p l e = ap (λ (z : Bool). elim z [ true ↦ Held l | false ↦ next xs (suc (place xs l)) ]) e

pub stays_no : (xs : List ℕ) (p : ℕ → Bool) (l : ℕ) → p l ≡ false → stays xs p (Held l) ≡ next xs (suc (place xs l))
stays_no xs p l e = ap (λ (z : Bool). elim z [ true ↦ Held l | false ↦ next xs (suc (place xs l)) ]) e

pub stays_tried : (o : Option (List ℕ)) (p : ℕ → Bool) (y : Line) → FitsList y o → tried_of (stays (wishes_of o) p y) (wishes_of o) ≡ tried_of y (wishes_of o)
stays_tried o p Absent v = refl
stays_tried o p (Looking n) v = refl
stays_tried o p (Held l) v =
    elim (cases_Bool (p l)) [
      | inl e ↦ ap (λ (y : Line). tried_of y (wishes_of o)) (stays_yes (wishes_of o) p l e)
      | inr e ↦ ap (λ (y : Line). tried_of y (wishes_of o)) (stays_no (wishes_of o) p l e) ∙ next_tried (wishes_of o) (suc (place (wishes_of o) l)) (place_lt (wishes_of o) l v)
    ]
stays_tried o p Spent v = refl

pub stays_fits : (o : Option (List ℕ)) (p : ℕ → Bool) (y : Line) → FitsList y o → FitsList (stays (wishes_of o) p y) o
stays_fits o p Absent v = v
stays_fits o p (Looking n) v = v
stays_fits o p (Held l) v =
    elim (cases_Bool (p l)) [
      | inl e ↦ subst (λ (y : Line). FitsList y o) (sym (stays_yes (wishes_of o) p l e)) v
      | inr e ↦ subst (λ (y : Line). FitsList y o) (sym (stays_no (wishes_of o) p l e)) (next_fits o (suc (place (wishes_of o) l)) (has_some o l v))
    ]
stays_fits o p Spent v = v

pub stays_held : (xs : List ℕ) (p : ℕ → Bool) (y : Line) (l : ℕ) → holds y l ≡ true → holds (stays xs p y) l ≡ p l
stays_held xs p Absent l h = absurd (grind (arith, nat_tests))
stays_held xs p (Looking n) l h = absurd (grind (arith, nat_tests))
stays_held xs p (Held k) l h =
    let q : p k ≡ p l = ap p (eqb-true k l h) in
    elim (cases_Bool (p k)) [
      | inl e ↦ ap (λ (y : Line). holds y l) (stays_yes xs p k e) ∙ h ∙ sym e ∙ q
      | inr e ↦ ap (λ (y : Line). holds y l) (stays_no xs p k e) ∙ next_holds xs (suc (place xs k)) l ∙ sym e ∙ q
    ]
stays_held xs p Spent l h = absurd (grind (arith, nat_tests))

pub stays_other : (xs : List ℕ) (p : ℕ → Bool) (y : Line) (l : ℕ) → holds y l ≡ false → holds (stays xs p y) l ≡ false
stays_other xs p Absent l h = refl
stays_other xs p (Looking n) l h = refl
stays_other xs p (Held k) l h =
    elim (cases_Bool (p k)) [
      | inl e ↦ ap (λ (y : Line). holds y l) (stays_yes xs p k e) ∙ h
      | inr e ↦ ap (λ (y : Line). holds y l) (stays_no xs p k e) ∙ next_holds xs (suc (place xs k)) l
    ]
stays_other xs p Spent l h = refl

-- who does not leave stays as it is
pub stays_all : (xs : List ℕ) (p : ℕ → Bool) (y : Line) → leaves p y ≡ false → stays xs p y ≡ y
stays_all xs p Absent h = refl
stays_all xs p (Looking n) h = refl
stays_all xs p (Held l) h = stays_yes xs p l (grind (arith, nat_tests))
stays_all xs p Spent h = refl

-- and who leaves was held and is dropped
pub leaves_held : (p : ℕ → Bool) (y : Line) → leaves p y ≡ true → (l : ℕ) × (y ≡ Held l) × (p l ≡ false)
leaves_held p Absent h = absurd (grind (arith, nat_tests))
leaves_held p (Looking n) h = absurd (grind (arith, nat_tests))
leaves_held p (Held l) h = (l, refl, grind (arith, nat_tests))
leaves_held p Spent h = absurd (grind (arith, nat_tests))

pub leaves_yes : (p : ℕ → Bool) (y : Line) (l : ℕ) → holds y l ≡ true → p l ≡ false → leaves p y ≡ true
leaves_yes p Absent l h f = absurd (grind (arith, nat_tests))
leaves_yes p (Looking n) l h f = absurd (grind (arith, nat_tests))
leaves_yes p (Held k) l h f = let q : p k ≡ p l = ap p (eqb-true k l h) in grind (arith, nat_tests)
leaves_yes p Spent l h f = absurd (grind (arith, nat_tests))

pub stays_dropped : (xs : List ℕ) (p : ℕ → Bool) (y : Line) → leaves p y ≡ true → stays xs p y ≡ noted xs y Dropped
stays_dropped xs p Absent h = absurd (grind (arith, nat_tests))
stays_dropped xs p (Looking n) h = absurd (grind (arith, nat_tests))
stays_dropped xs p (Held l) h = stays_no xs p l (grind (arith, nat_tests))
stays_dropped xs p Spent h = absurd (grind (arith, nat_tests))

pub looking : (y : Line) → looks y ≡ true → (n : ℕ) × (y ≡ Looking n)
looking Absent e = absurd (grind (arith, nat_tests))
looking (Looking n) e = (n, refl)
looking (Held l) e = absurd (grind (arith, nat_tests))
looking Spent e = absurd (grind (arith, nat_tests))

-- a list with another element at i, as a function
pub get_d_set_put : {A : Type 0} (d : A) (ys : List A) (i : ℕ) (y : A) → i < length ys → (x : ℕ) → get_or (set ys i y) x d ≡ put (λ j. get_or ys j d) i y x
get_d_set_put d ys i y h x =
    elim (cases_eq x i) [
      | inl q ↦ ap (λ (x : ℕ). get_or (set ys i y) x d) q ∙ get_or-set_same ys i y d h ∙ sym (ap (λ (x : ℕ). put (λ j. get_or ys j d) i y x) q ∙ put_here (λ j. get_or ys j d) i y)
      | inr q ↦ get_or-set_other ys i x y d q ∙ sym (put_there (λ j. get_or ys j d) i y x q)
    ]
