-- A walk over the words behind the LOT word of a slip.
use Rattle.std.proofs.Common.{◌≡◌, ℕ, suc, ◌+◌, ◌<◌, ◌≤◌, Bool, true, false, leb, List, [], ◌∷◌, ◌++◌, length, get_or, drop, Some, None, Ok, Err, Option, Result, sym, refl, ap, ◌∙◌, subst, arith}
use Rattle.std.proofs.lemmas.List.{at_drop_more, length_push}
use Rattle.std.proofs.lemmas.Bool.{leb-false}
use Rattle.sheets.specs.declared.fault.Fault.{Fault}
use Rattle.sheets.specs.declared.fault.Refusal.{Refusal}
use Rattle.sheets.specs.declared.fault.Refusal.TheVariants.{Strange, TooMany, Unknown, Twice}
use Rattle.sheets.specs.declared.word.SlipWord.{SlipWord}
use Rattle.sheets.specs.declared.word.SlipWord.TheVariants.{Lot, Wish}
use Rattle.sheets.specs.Faults.{fault, located}
use Rattle.sheets.specs.Words.{slip_word}
use Rattle.books.specs.Lanes.{has, distinct, all_below}
use Rattle.books.proofs.Distinct.{distinct_push, below_push}
use Rattle.boards.specs.Reading.{Pushed}
use Rattle.boards.specs.Slips.{wish_more, wished, wishes_from}

-- what was left says what the definition gives
pub accepted_pushed : {E : Type 0} (t : Result (List ℕ) E) (xs : List ℕ) → Pushed t (Ok tt) xs → t ≡ Ok xs
accepted_pushed (Ok ys) xs p = ap Ok (sym p.1)
accepted_pushed (Err f) xs p = cc

pub refused_pushed : {E : Type 0} (t : Result (List ℕ) E) (f : E) (xs : List ℕ) → Pushed t (Err f) xs → t ≡ Err f
refused_pushed (Ok ys) f xs p = let e = p.0 in cc
refused_pushed (Err g) f xs p = cc

-- a wish that is accepted is new, names a lane of the book, and is one of at most twelve
pub record Accepted (n : ℕ) (xs ys : List ℕ) : Type 0 where
  pub lane : ℕ
  pub longer : ys ≡ xs ++ lane ∷ []
  pub room : length xs < 12
  pub known : lane < n
  pub fresh : has xs lane ≡ false

tests : {A E : Type 0} (a b c : Bool) (e f g : E) (x s : A) →
    ◌≡◌ {A = Result A E} (elim a [ true ↦ Err e | false ↦ elim b [ true ↦ Err f | false ↦ elim c [ true ↦ Err g | false ↦ Ok x ] ] ]) (Ok s) → (a ≡ false) × (b ≡ false) × (c ≡ false) × (s ≡ x)
tests true b c e f g x s h = cc
tests false true c e f g x s h = cc
tests false false true e f g x s h = cc
tests false false false e f g x s h = (refl, refl, refl, cc)

wish_accepted : (n : ℕ) (xs : List ℕ) (w : SlipWord) (ys : List ℕ) → wish_more n xs w ≡ Ok ys → Accepted n xs ys
wish_accepted n xs (Lot lot) ys e = cc
wish_accepted n xs (Wish l) ys e =
    let t = tests (leb 12 (length xs)) (leb n l) (has xs l) TooMany Unknown Twice (xs ++ l ∷ []) ys e in
    record { lane = l; longer = t.3; room = leb-false 12 (length xs) t.0; known = leb-false n l t.1; fresh = t.2 }

-- an answer at its place is accepted as it is
located_ok : {A : Type 0} (place : ℕ) (r : Result A Refusal) (x : A) → located place r ≡ Ok x → r ≡ Ok x
located_ok place (Ok y) x e = cc
located_ok place (Err q) x e = cc

pub wished_accepted : (n : ℕ) (xs : List ℕ) (place w : ℕ) (ys : List ℕ) → wished n xs place w ≡ Ok ys → Accepted n xs ys
wished_accepted n xs place w ys e = go (slip_word w) e
  where
    go : (o : Option SlipWord) → ◌≡◌ {A = Result (List ℕ) Fault} (elim o [ None ↦ Err (fault Strange place) | Some s ↦ located place (wish_more n xs s) ]) (Ok ys) → Accepted n xs ys
    go None h = cc
    go (Some s) h = wish_accepted n xs s ys (located_ok place (wish_more n xs s) ys h)

pub accepted_length : (n : ℕ) (xs ys : List ℕ) → Accepted n xs ys → length ys ≡ length xs + 1
accepted_length n xs ys a = ap length a.longer ∙ length_push xs a.lane

-- a word further, and a word that is refused
abbrev onward : ℕ → ℕ → List ℕ → Result (List ℕ) Fault → Result (List ℕ) Fault
onward n place ws t = elim t [ Err f ↦ Err f | Ok ys ↦ wishes_from n ys (suc place) ws ]

pub wishes_more : (n : ℕ) (xs : List ℕ) (place : ℕ) (ws : List ℕ) (i : ℕ) (ys : List ℕ) → i < length ws → wished n xs place (get_or ws i 0) ≡ Ok ys →
    wishes_from n xs place (drop i ws) ≡ wishes_from n ys (suc place) (drop (i + 1) ws)
wishes_more n xs place ws i ys h e = at_drop_more (wishes_from n xs place) ws i 0 h ∙ ap (onward n place (drop (i + 1) ws)) e

pub wishes_refused : (n : ℕ) (xs : List ℕ) (place : ℕ) (ws : List ℕ) (i : ℕ) (f : Fault) → i < length ws → wished n xs place (get_or ws i 0) ≡ Err f →
    wishes_from n xs place (drop i ws) ≡ Err f
wishes_refused n xs place ws i f h e = at_drop_more (wishes_from n xs place) ws i 0 h ∙ ap (onward n place (drop (i + 1) ws)) e

-- a list that was read names at most twelve lanes of the book, each once
pub record Sound (n : ℕ) (xs : List ℕ) : Type 0 where
  pub few : length xs ≤ 12
  pub known : all_below n xs ≡ true
  pub once : distinct xs ≡ true

sound_more : (n : ℕ) (xs ys : List ℕ) → Sound n xs → Accepted n xs ys → Sound n ys
sound_more n xs ys s a =
    record {
      few = omega (arith, accepted_length n xs ys a, a.room);
      known = subst (λ v. all_below n v ≡ true) (sym a.longer) (below_push n a.lane xs s.known a.known);
      once = subst (λ v. distinct v ≡ true) (sym a.longer) (distinct_push xs a.lane s.once a.fresh);
    }

pub wishes_sound : (n : ℕ) (xs : List ℕ) (place : ℕ) (ws ys : List ℕ) → Sound n xs → wishes_from n xs place ws ≡ Ok ys → Sound n ys
wishes_sound n xs place [] ys s e = let same : xs ≡ ys = cc in subst (Sound n) same s
wishes_sound n xs place (w ∷ ws) ys s e =
    (elim (wished n xs place w) as (λ t. wished n xs place w ≡ t → onward n place ws t ≡ Ok ys → Sound n ys) [
      | Err f ↦ λ t g. cc
      | Ok zs ↦ λ t g. wishes_sound n zs (suc place) ws ys (sound_more n xs zs s (wished_accepted n xs place w zs t)) g
    ]) refl e

pub read_sound : (n : ℕ) (ws ys : List ℕ) → wishes_from n [] 1 ws ≡ Ok ys → Sound n ys
read_sound n ws ys e = wishes_sound n [] 1 ws ys (record { few = omega arith; known = refl; once = refl }) e
