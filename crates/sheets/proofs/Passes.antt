-- The words of a record that is handed out are accepted in turn.
use Rattle.std.proofs.Common.{◌≡◌, ℕ, zero, suc, ◌<◌, true, false, List, [], ◌∷◌, ◌++◌, length, take, drop, Some, None, Ok, Err, Option, Result, refl, ap, arith}
use Rattle.std.proofs.lemmas.Grind.{common_steps}
use Rattle.std.specs.Option.{ok_or}
use Rattle.std.specs.Result.{result_ok}
use Rattle.sheets.specs.declared.fault.Fault.{Fault}
use Rattle.sheets.specs.declared.fault.Refusal.{Refusal}
use Rattle.sheets.specs.declared.fault.Refusal.TheVariants.{Strange}
use Rattle.sheets.specs.declared.progress.Progress.{Progress}
use Rattle.sheets.specs.declared.word.BookWord.{BookWord}
use Rattle.sheets.specs.declared.word.BookWord.TheVariants.{Shed, Lane, Rank, Next}
use Rattle.sheets.specs.Faults.{fault, located}
use Rattle.sheets.specs.Words.{book_word}
use Rattle.sheets.specs.Progress.{admits, judged, onward, goes_on, accepts, passes, along, run_length, run_progress}
use Rattle.sheets.specs.Records.{Page, next_record, record_progress}

-- what is not refused was there
pub some_from_ok : {T E : Type 0} (o : Option T) (e : E) (x : T) → ok_or o e ≡ Ok x → o ≡ Some x
some_from_ok None e x h = cc
some_from_ok (Some y) e x h = cc

onward_admitted : (p q : Progress) (b : BookWord) → onward p b ≡ Some q → result_ok (admits p b) ≡ Some q
onward_admitted p q (Shed c) e = cc
onward_admitted p q (Lane t c) e = e
onward_admitted p q (Rank l) e = cc
onward_admitted p q (Next i) e = e

onward_accepted : (p q : Progress) (o : Option BookWord) → elim o [ None ↦ None | Some b ↦ onward p b ] ≡ Some q → elim o [ None ↦ None | Some b ↦ result_ok (admits p b) ] ≡ Some q
onward_accepted p q None e = e
onward_accepted p q (Some b) e = onward_admitted p q b e

-- a word that goes on with a record is accepted
pub goes_on_accepted : (p q : Progress) (w : ℕ) → goes_on p w ≡ Some q → accepts p w ≡ Some q
goes_on_accepted p q w e = onward_accepted p q (book_word w) e

admitted : (q : Progress) (place : ℕ) (t : Result Progress Refusal) → located place t ≡ Ok q → result_ok t ≡ Some q
admitted q place (Ok s) e = cc
admitted q place (Err r) e = cc

judged_at : (p q : Progress) (place : ℕ) (o : Option BookWord) →
    ◌≡◌ {A = Result Progress Fault} (elim o [ None ↦ Err (fault Strange place) | Some b ↦ located place (admits p b) ]) (Ok q) →
    elim o [ None ↦ None | Some b ↦ result_ok (admits p b) ] ≡ Some q
judged_at p q place None e = cc
judged_at p q place (Some b) e = admitted q place (admits p b) e

-- a word that is not refused at its place is accepted
pub judged_accepted : (p q : Progress) (w place : ℕ) → judged p w place ≡ Ok q → accepts p w ≡ Some q
judged_accepted p q w place e = judged_at p q place (book_word w) e

-- one word more in front
pub passes_more : (p q : Progress) (w : ℕ) (ws : List ℕ) → accepts p w ≡ Some q → (passes p (w ∷ ws) ≡ passes q ws) × (along p (w ∷ ws) ≡ along q ws)
passes_more p q w ws e = (ap (λ o. elim o [ None ↦ false | Some s ↦ passes s ws ]) e, ap (λ o. elim o [ None ↦ p | Some s ↦ along s ws ]) e)

passing-run : (p : Progress) (ws : List ℕ) → passes p (take (run_length p ws) ws) ≡ true
passing-run p [] = refl
passing-run p (w ∷ ws) = grind (arith, common_steps, λ (q : Progress). passing-run q ws)

along-run : (p : Progress) (ws : List ℕ) → along p (take (run_length p ws) ws) ≡ run_progress p ws
along-run p [] = refl
along-run p (w ∷ ws) = grind (arith, common_steps, λ (q : Progress). along-run q ws)

-- the words that go on with a record are accepted in turn, and lead as far as they all do
run_passes : (p : Progress) (ws : List ℕ) → (passes p (take (run_length p ws) ws) ≡ true) × (along p (take (run_length p ws) ws) ≡ run_progress p ws)
run_passes p ws = (passing-run p ws, along-run p ws)

-- what a record that is handed out says
pub record Handed (p : Progress) (at : ℕ) (ws : List ℕ) (page : Page) : Type 0 where
  pub place : page.place ≡ at
  pub front : page.words ++ drop (length page.words) ws ≡ ws
  pub some : 0 < length page.words
  pub passing : passes p page.words ≡ true
  pub progress : record_progress p at ws ≡ along p page.words

-- words taken from the front stand before those behind as many
front_of : (n : ℕ) (ws : List ℕ) → take n ws ++ drop (length (take n ws)) ws ≡ ws
front_of zero ws = refl
front_of (suc n) [] = refl
front_of (suc n) (w ∷ ws) = ap (λ v. w ∷ v) (front_of n ws)

pub handed : (p : Progress) (at : ℕ) (ws : List ℕ) (page : Page) → next_record p at ws ≡ Ok (Some page) → Handed p at ws page
handed p at ws page e = record {
  place = grind (arith, common_steps);
  front = grind (arith, common_steps);
  some = grind (arith, common_steps);
  passing = grind (arith, common_steps, λ (q : Progress) (vs : List ℕ). (run_passes q vs).0);
  progress = grind (arith, common_steps, λ (q : Progress) (vs : List ℕ). (run_passes q vs).1);
}

-- no record is left only at the end
pub none_left : (p : Progress) (at : ℕ) (ws : List ℕ) → next_record p at ws ≡ Ok None → ws ≡ []
none_left p at [] e = refl
none_left p at (w ∷ ws) e =
    (elim (judged p w at) as (λ t. ◌≡◌ {A = Result (Option Page) Fault} (elim t [ Err f ↦ Err f | Ok q ↦ Ok (Some (record { words = w ∷ take (run_length q ws) ws; place = at })) ]) (Ok None) → w ∷ ws ≡ []) [
      | Err f ↦ λ h. cc
      | Ok q ↦ λ h. cc
    ]) e
