-- What `try_fold` makes of the list that an iterator yields.
use Rattle.std.proofs.Common.{◌≡◌, List, [], ◌∷◌, Some, None, Option, refl, sym, ap, ◌∙◌, subst}
use Rattle.std.proofs.lemmas.Iterator.{YieldsList}
use Rattle.std.specs.Fn.{Called, Mut}
use Rattle.std.specs.Iterator.{AlwaysYields, TryFoldTurn, TryFoldsItems, Yields}
use Rattle.std.specs.List.{FoldsTo}
use Rattle.std.specs.Option.{MatchOption}
use Rattle.std.specs.declared.ops.ControlFlow.{ControlFlow}
use Rattle.std.specs.declared.ops.ControlFlow.TheVariants.{Continue, Break}

-- `made` says what the result has to show, by the total so far and the list that is left. The calls leave the closure as it
-- was; each that goes on takes one item off the list, and the first that breaks off gives the result.
module _ {S A X F B R E Z : Type 0} (steps : S → Option A → S → Type 0) (v : A → X) (g : Mut F (B × (A × Unit {0})) R) (branches : R → ControlFlow E B → Type 0) (resumes : E → R → Type 0)
    (shown : R → Z) (made : B → List X → Z) (f : F)
    (ends : (a : B) (r : R) → branches r (Continue a) → shown r ≡ made a [])
    (goes_on : (a b : B) (x : A) (w : R) (q : F) (xs : List X) → Called g f (a, (x, tt)) w q → branches w (Continue b) → (q ≡ f) × (made b xs ≡ made a (v x ∷ xs)))
    (breaks : (a : B) (x : A) (w : R) (q : F) (e : E) (r : R) (xs : List X) → Called g f (a, (x, tt)) w q → branches w (Break e) → resumes e r → shown r ≡ made a (v x ∷ xs)) where
  abbrev Last : Option A → F → B → R → Type 0
  Last o h b r = MatchOption o (branches r (Continue b)) (λ x. (w : R) × (q : F) × (e : E) × Called g h (b, (x, tt)) w q × branches w (Break e) × resumes e r)

  at_last : (all : List X) (s u : S) (o : Option A) (h : F) (a : B) (r : R) → AlwaysYields steps v s all → steps s o u → h ≡ f → Last o h a r → shown r ≡ made a all
  at_last [] s u None h a r list last same end = ends a r end
  at_last [] s u (Some x) h a r list last same end = absurd (list x u last)
  at_last (y ∷ ys) s u None h a r list last same end = absurd (list.0 u last)
  at_last (y ∷ ys) s u (Some x) h a r list last same end =
      breaks a x end.0 end.1 end.2 r ys (subst (λ (k : F). Called g k (a, (x, tt)) end.0 end.1) same end.3) end.4 end.5
      ∙ ap (λ z. made a (z ∷ ys)) (list.1 x u last).0

  over : (all : List X) (xs : List A) (s t u : S) (o : Option A) (h k : F) (a b : B) (r : R) → AlwaysYields steps v s all → Yields steps s xs t → steps t o u → h ≡ f → FoldsTo {P = F × B} (TryFoldTurn g branches) (h, a) xs (k, b) → Last o k b r → shown r ≡ made a all
  over all [] s t u o h k a b r list so_far last same turns end =
      at_last all s u o k a r list (subst (λ (j : S). steps j o u) (sym so_far) last) (sym (ap (λ p. p.0) turns) ∙ same) (subst (λ (c : B). Last o k c r) (sym (ap (λ p. p.1) turns)) end)
  over [] (x ∷ xs) s t u o h k a b r list so_far last same turns end = absurd (list x so_far.0 so_far.1)
  over (y ∷ ys) (x ∷ xs) s t u o h k a b r list so_far last same turns end =
      let here = list.1 x so_far.0 so_far.1 in
      let turn = turns.1 in
      let on = goes_on a turns.0.1 x turn.0 turns.0.0 ys (subst (λ (k : F). Called g k (a, (x, tt)) turn.0 turns.0.0) same turn.1) turn.2 in
      over ys xs so_far.0 t u o turns.0.0 k turns.0.1 b r here.1 so_far.2 last on.0 turns.2 end ∙ on.1 ∙ ap (λ z. made a (z ∷ ys)) here.0

  pub try_fold_from_yields_List : (s u : S) (all : List X) (init : B) (r : R) → TryFoldsItems steps g branches resumes s f init r u → YieldsList steps v s all → shown r ≡ made init all
  try_fold_from_yields_List s u all init r ran list = over all ran.0 s ran.4.0 u ran.1 f ran.2 init ran.3 r list.runs ran.4.1 ran.4.2 refl ran.5 ran.6
