-- What both rules keep on a card, lane by lane.
use Rattle.std.proofs.Common.{◌≡◌, ℕ, ◌<◌, ◌≤◌, Bool, true, false, ltb, List, [], ◌∷◌, length, map, get_or, take, Some, None, Option, sym, refl, ap, ◌∙◌, arith}
use Rattle.std.proofs.lemmas.List.{take_all, take-map, get_or-map, length-map}
use Rattle.std.proofs.lemmas.Bool.{lt-ltb, le-ltb}
use Rattle.std.proofs.lemmas.List.FromFn.{length-map-range_with_len}
use Rattle.std.proofs.lemmas.Slice.Zip.{firsts-zip, seconds-zip}
use Rattle.std.specs.List.{zip}
use Rattle.std.specs.Option.{option_map}
use Rattle.sharing.specs.Cards.{Terms}
use Rattle.sharing.specs.LineUp.{front, line_up}
use Rattle.sharing.specs.Orders.{Standing}
use Rattle.sharing.specs.Rules.{at, lanes, on_card}
use Rattle.sharing.specs.Shares.{shares}
use Rattle.sharing.specs.Turns.{turns}
use Rattle.tables.specs.declared.answer.Answer.{Answer}
use Rattle.tables.specs.declared.answer.ByRule.{ByRule}
use Rattle.tables.specs.Answers.{gained, answered}
use Rattle.tables.specs.Questions.{Asked}
use Rattle.tables.specs.Told.{tells, kept_at}

-- what each rule keeps, of the pairs of both
firsts : (ks : List (ByRule ℕ)) → map (λ (p : ℕ × ℕ). p.0) (map {B = ℕ × ℕ} (λ k. (k.turns, k.shares)) ks) ≡ map (λ k. k.turns) ks
firsts [] = refl
firsts (k ∷ ks) = ap (λ l. k.turns ∷ l) (firsts ks)

seconds : (ks : List (ByRule ℕ)) → map (λ (p : ℕ × ℕ). p.1) (map {B = ℕ × ℕ} (λ k. (k.turns, k.shares)) ks) ≡ map (λ k. k.shares) ks
seconds [] = refl
seconds (k ∷ ks) = ap (λ l. k.shares ∷ l) (seconds ks)

-- a line-up has a number for each lane of the card and no more
line_up_on_card : (s : Standing) (t : Terms) (x : List ℕ) → on_card t (line_up s t x) ≡ line_up s t x
line_up_on_card s t x = take_all (lanes t) (line_up s t x) (omega (arith, length-map-range_with_len (front s t x) 0 (lanes t)))

module _ (ks : List (ByRule ℕ)) (n : ℕ) (turns shares : List ℕ) (same : length shares ≡ length turns) (both : map {B = ℕ × ℕ} (λ k. (k.turns, k.shares)) ks ≡ take n (zip turns shares)) (t : Terms) (all : n ≡ lanes t) (s : Standing) (x : List ℕ) where
  pub turns_told : on_card t turns ≡ on_card t (line_up s t x) → map (λ k. k.turns) ks ≡ line_up s t x
  turns_told e =
      sym (firsts ks) ∙ ap (λ ps. map (λ (p : ℕ × ℕ). p.0) ps) both ∙ sym (take-map (λ (p : ℕ × ℕ). p.0) n (zip turns shares)) ∙ ap (take n) (firsts-zip turns shares same)
      ∙ ap (λ m. take m turns) all ∙ e ∙ line_up_on_card s t x

  pub shares_told : on_card t shares ≡ on_card t (line_up s t x) → map (λ k. k.shares) ks ≡ line_up s t x
  shares_told e =
      sym (seconds ks) ∙ ap (λ ps. map (λ (p : ℕ × ℕ). p.1) ps) both ∙ sym (take-map (λ (p : ℕ × ℕ). p.1) n (zip turns shares)) ∙ ap (take n) (seconds-zip turns shares same)
      ∙ ap (λ m. take m shares) all ∙ e ∙ line_up_on_card s t x

-- an answer that has for each lane of the card what the rules keep, and the gain of the move, tells what both rules answer
pub all_told : (a : Asked) (b : Answer) → length b.kept.items ≡ lanes a.terms → on_card a.terms (tells b).turns ≡ on_card a.terms (line_up turns a.terms a.numbers) → on_card a.terms (tells b).shares ≡ on_card a.terms (line_up shares a.terms a.numbers)
    → b.gain ≡ option_map (gained a) a.moved → tells b ≡ answered a
all_told a b same by-turns by-shares gain =
    let each = λ (m : ByRule ℕ → ℕ). take_all (lanes a.terms) (map m b.kept.items) (omega (arith, same, length-map b.kept.items m)) in
    let first = sym (each (λ k. k.turns)) ∙ by-turns ∙ line_up_on_card turns a.terms a.numbers in
    let second = sym (each (λ k. k.shares)) ∙ by-shares ∙ line_up_on_card shares a.terms a.numbers in
    λ i. record { turns = first i; shares = second i; gain = gain i }

-- a lane on the card, and one that is not
pub kept_on : (a : Answer) (lane : ℕ) (d : ByRule ℕ) → lane < length a.kept.items → Some (get_or a.kept.items lane d) ≡ kept_at (tells a) lane
kept_on a lane d here =
    let first = get_or-map (λ (k : ByRule ℕ). k.turns) a.kept.items lane d 0 here in
    let second = get_or-map (λ (k : ByRule ℕ). k.shares) a.kept.items lane d 0 here in
    let on : ltb lane (length (tells a).turns) ≡ true = lt-ltb lane (length (tells a).turns) (omega (arith, here, length-map a.kept.items (λ (k : ByRule ℕ). k.turns))) in
    (λ i. Some (record { turns = sym first i; shares = sym second i }))
    ∙ sym (ap (λ b. elim b [ true ↦ Some (record { turns = at (tells a).turns lane; shares = at (tells a).shares lane }) | false ↦ None ]) on)

pub kept_off : (a : Answer) (lane : ℕ) → length a.kept.items ≤ lane → None ≡ kept_at (tells a) lane
kept_off a lane off =
    let out : ltb lane (length (tells a).turns) ≡ false = le-ltb lane (length (tells a).turns) (omega (arith, off, length-map a.kept.items (λ (k : ByRule ℕ). k.turns))) in
    sym (ap (λ b. elim b [ true ↦ Some (record { turns = at (tells a).turns lane; shares = at (tells a).shares lane }) | false ↦ None ]) out)
