-- The words of a line, one after another.
use Rattle.std.proofs.Common.{◌≡◌, ℕ, Bool, false, not, ◌==◌, List, [], ◌∷◌, length, Some, None, Ok, Err, Option, Bor, sym, refl, ap, ◌∙◌, subst}
use Rattle.std.proofs.lemmas.Iterator.{YieldsList}
use Rattle.std.proofs.lemmas.Iterator.Consumers.{YieldsList-at, YieldsList-from_filter}
use Rattle.std.proofs.lemmas.Iterator.Splits.{YieldsList-from_slice_split}
use Rattle.std.specs.Fn.{CalledAt, Mut}
use Rattle.std.specs.Iterator.{AlwaysYields}
use Rattle.std.specs.Iterator.Adapters.{filter_source, filter_callee, filter_steps}
use Rattle.std.specs.Slice.Iter.{split_rest, split_done, split_callee, split_steps}
use Rattle.std.specs.declared.iter.Filter.{Filter}
use Rattle.std.specs.declared.slice.Split.{Split}
use Rattle.tables.specs.declared.complaint.Complaint.{Complaint}
use Rattle.tables.specs.declared.complaint.Complaint.TheVariants.{NoCap}
use Rattle.tables.specs.Cuts.{blank, words}
use Rattle.tables.specs.Numbers.{number}
use Rattle.tables.specs.Questions.{Asked, capped, with_word, with_words, judged, question}

-- a line that is split at its blanks, without the pieces that are empty
pub YieldsList-words : {P Q : Type 0} (g : Mut P (Bor ℕ × Unit {0}) Bool) (h : Mut Q (Bor (Bor (List ℕ)) × Unit {0}) Bool) {f : P} {k : Q} (line : List ℕ) {s : Split ℕ P} {t : Filter (Split ℕ P) Q}
    → split_rest s ≡ line → split_done s ≡ false → split_callee s ≡ f → ((x : ℕ) (b : Bool) (q : P) → CalledAt g f x b q → (q ≡ f) × (b ≡ blank x))
    → filter_source t ≡ s → filter_callee t ≡ k → ((x : Bor (List ℕ)) (b : Bool) (q : Q) → CalledAt h k x b q → (q ≡ k) × (b ≡ not (length x.now == 0)))
    → YieldsList (filter_steps (split_steps g) h) (λ x. x.now) t (words line)
YieldsList-words g h line rest done pred marks source test fills =
    YieldsList-from_filter h (λ p. not (length p == 0)) (YieldsList-at source (YieldsList-from_slice_split g blank line rest done pred marks)) test fills

module _ {S : Type 0} (steps : S → Option (Bor (List ℕ)) → S → Type 0) (s t : S) where
  -- there is no first word
  no_word : (ws : List (List ℕ)) → AlwaysYields steps (λ x. x.now) s ws → steps s None t → judged ws ≡ Err NoCap
  no_word [] list step = refl
  no_word (w ∷ ws) list step = absurd (list.0 t step)

  pub judged_none : (ws : List (List ℕ)) (r : Option (Bor (List ℕ))) → YieldsList steps (λ x. x.now) s ws → steps s r t → r ≡ None → judged ws ≡ Err NoCap
  judged_none ws r list step is = no_word ws list.runs (subst (λ (o : Option (Bor (List ℕ))). steps s o t) is step)

  -- the first word, and those that are left
  first_word : (w : Bor (List ℕ)) (ws : List (List ℕ)) → AlwaysYields steps (λ x. x.now) s ws → steps s (Some w) t → (rest : List (List ℕ)) × (judged ws ≡ with_words (capped (number w.now)) rest) × YieldsList steps (λ x. x.now) t rest
  first_word w [] list step = absurd (list w t step)
  first_word w (v ∷ ws) list step = let here = list.1 w t step in (ws, ap (λ x. with_words (capped (number x)) ws) (sym here.0), record { runs = here.1 })

  pub judged_first : (w : Bor (List ℕ)) (ws : List (List ℕ)) (r : Option (Bor (List ℕ))) → YieldsList steps (λ x. x.now) s ws → steps s r t → r ≡ Some w → (rest : List (List ℕ)) × (judged ws ≡ with_words (capped (number w.now)) rest) × YieldsList steps (λ x. x.now) t rest
  judged_first w ws r list step is = first_word w ws list.runs (subst (λ (o : Option (Bor (List ℕ))). steps s o t) is step)

-- the first word is the cap
pub begun : (line w : List ℕ) (left : List (List ℕ)) (a : Asked) → words line ≡ w ∷ left → Ok a ≡ capped (number w) → with_words (Ok a) left ≡ question line
begun line w left a first asks = ap (λ r. with_words r left) asks ∙ sym (ap judged first)

-- a word with a fault, and the end of the words
pub refused : (a : Asked) (w : List ℕ) (ws : List (List ℕ)) (e : Complaint) → Err e ≡ with_word a w → with_words (Ok a) (w ∷ ws) ≡ Err e
refused a w ws e told = ap (λ r. with_words r ws) (sym told)

pub done : (a : Asked) → with_words (Ok a) [] ≡ Ok a
done a = refl
