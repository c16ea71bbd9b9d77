use Rattle.std.proofs.Common.{◌≡◌, ℕ, ◌+◌, ◌-◌, ◌^◌, ◌<◌, ◌≤◌, List, length, drop, Some, Ok, Err, Result, IfErr, sym, refl, ap, ◌∙◌, subst, arith}
use Rattle.std.proofs.lemmas.Result.{err_from_is_err_and}
use Rattle.sheets.specs.declared.reader.Part.{Part}
use Rattle.sheets.specs.declared.fault.Fault.{Fault}
use Rattle.sheets.specs.Records.{page, next_slip}
use Rattle.boards.specs.Boards.{Board, slip_of, lot_of}
use Rattle.intake.specs.Slips.{cut, in_day_at, answer_at, enter_all}
use Rattle.intake.proofs.Cuts.{Next, next_slip_is}
use Rattle.intake.proofs.Entries.{refused_within, slip_refused, slip_entered}
use Rattle.intake.proofs.enter.enter_slips.Goals as goal

-- a slip that the reader hands out at a place of the slips, and that ends within them
record Handed (slips : List ℕ) (at : ℕ) (part : Part) : Type 0 where
  next : Next at (drop at slips) (page part)
  within : at + length part.words.now ≤ length slips

handed : (words last slips : List ℕ) (at end : ℕ) (part : Part) → words ≡ slips → last ≡ words → Some (page part) ≡ next_slip at (drop at words) → end ≡ at + length part.words.now → end ≤ length last → Handed slips at part
handed words last slips at end part w v h e l = record {
  next = next_slip_is at (drop at slips) (page part) (sym (h ∙ ap (λ (x : List ℕ). next_slip at (drop at x)) w));
  within = subst (λ (n : ℕ). n ≤ length slips) e (subst (λ (x : List ℕ). end ≤ length x) (v ∙ w) l);
}

pub loop-slip-init : goal.loop-slip-init
loop-slip-init g c =
    let slips = c.args.day.slips.now in
    let first = 1 + length c.args.day.book.now in
    let s = c.args.round.board in
    let none : first + 0 ≡ first = omega arith in
    record {
      words = c.new-reader.ensures.words;
      rule = refl;
      room = omega arith;
      rest = ap (λ (k : ℕ). enter_all (first + k) s (cut (drop k slips))) c.new-reader.ensures.at ∙ ap (λ (k : ℕ). enter_all k s (cut slips)) none;
    }

-- a refusal is told at a place of the input, if it is told of words that end there
refusal_fits : (s : Board) (ws : List ℕ) (answer : Result ℕ Fault) (told : ℕ) → answer ≡ lot_of (slip_of s ws) → told + length ws < 2 ^ 64 → IfErr answer (λ f. told + f.place < 2 ^ 64)
refusal_fits s ws (Ok lot) told e room = tt
refusal_fits s ws (Err f) told e room = let short = (refused_within s ws f e).1 in omega arith

pub overflow_add-first-in-Some : goal.overflow_add-first-in-Some
overflow_add-first-in-Some g c =
    let r = c.loop-slip.reader in
    let slips = c.args.day.slips.now in
    let slip = c.in-Some.slip in
    let got = c.in-Some.ensures in
    let end = c.next_slip.new.self in
    let hand = handed r.words.now end.words.now slips r.at end.at slip c.loop-slip.invariant.words got.words got.part got.at end.within in
    let place = hand.next.place in
    let within = hand.within in
    omega (arith, c.loop-slip.invariant.room)

pub answer_at-requires : goal.answer_at-requires
answer_at-requires g c =
    let r = c.loop-slip.reader in
    let slips = c.args.day.slips.now in
    let slip = c.in-Some.slip in
    let got = c.in-Some.ensures in
    let end = c.next_slip.new.self in
    let hand = handed r.words.now end.words.now slips r.at end.at slip c.loop-slip.invariant.words got.words got.part got.at end.within in
    let place = hand.next.place in
    let within = hand.within in
    refusal_fits c.loop-slip.round.board slip.words.now c.enter.result _ c.enter.ensures.answer (omega (arith, c.loop-slip.invariant.room))

-- behind a slip fewer words are left
fewer_left : (n at end k : ℕ) → end ≡ at + k → 1 ≤ k → at + k ≤ n → n - end < n - at
fewer_left n at end k e some within = omega (arith, e, some, within)

pub loop-slip-smaller : goal.loop-slip-smaller
loop-slip-smaller g c =
    let r = c.loop-slip.reader in
    let slips = c.args.day.slips.now in
    let slip = c.in-Some.slip in
    let got = c.in-Some.ensures in
    let end = c.next_slip.new.self in
    let hand = handed r.words.now end.words.now slips r.at end.at slip c.loop-slip.invariant.words got.words got.part got.at end.within in
    fewer_left (length slips) r.at end.at (length slip.words.now) got.at hand.next.some hand.within

-- what a call answered, by its answer in the whole input
kept_answer : (place : ℕ) (r : Result ℕ Fault) (x : ℕ) → Ok x ≡ answer_at place r → Ok x ≡ r
kept_answer place (Ok y) x h = h
kept_answer place (Err e) x h = cc

told_fault : (place : ℕ) (r : Result ℕ Fault) (f : Fault) → Err f ≡ answer_at place r → (e : Fault) × (r ≡ Err e) × (f ≡ in_day_at place e)
told_fault place (Ok y) f h = cc
told_fault place (Err e) f h = (e, refl, cc)

pub loop-slip-preserved : goal.loop-slip-preserved
loop-slip-preserved g c =
    let r = c.loop-slip.reader in
    let slips = c.args.day.slips.now in
    let first = 1 + length c.args.day.book.now in
    let slip = c.in-Some.slip in
    let got = c.in-Some.ensures in
    let end = c.next_slip.new.self in
    let hand = handed r.words.now end.words.now slips r.at end.at slip c.loop-slip.invariant.words got.words got.part got.at end.within in
    let s = c.loop-slip.round.board in
    let t = c.enter.new.self.board in
    let entered = slip_entered first r.at s slips (page slip) hand.next c.in_ok-answer_at.field-0 (kept_answer (first + slip.place) c.enter.result c.in_ok-answer_at.field-0 c.in_ok-answer_at.ensures ∙ c.enter.ensures.answer) in
    record {
      words = got.words ∙ c.loop-slip.invariant.words;
      rule = c.enter.ensures.rule ∙ c.loop-slip.invariant.rule;
      room = c.loop-slip.invariant.room;
      rest =
          ap (λ (n : ℕ). enter_all (first + n) t (cut (drop n slips))) got.at
          ∙ ap (λ (u : Board). enter_all (first + (r.at + length slip.words.now)) u (cut (drop (r.at + length slip.words.now) slips))) c.enter.ensures.board
          ∙ sym entered
          ∙ c.loop-slip.invariant.rest;
    }

pub returns-in_err-answer_at-clause-board : goal.returns-in_err-answer_at-clause-board
returns-in_err-answer_at-clause-board g c =
    let r = c.loop-slip.reader in
    let slips = c.args.day.slips.now in
    let first = 1 + length c.args.day.book.now in
    let slip = c.in-Some.slip in
    let got = c.in-Some.ensures in
    let end = c.next_slip.new.self in
    let hand = handed r.words.now end.words.now slips r.at end.at slip c.loop-slip.invariant.words got.words got.part got.at end.within in
    let s = c.loop-slip.round.board in
    let found = told_fault (first + slip.place) c.enter.result c.in_err-answer_at.field-0.0 c.in_err-answer_at.ensures in
    let refused = (refused_within s slip.words.now found.0 (sym found.1 ∙ c.enter.ensures.answer)).0 in
    let out = err_from_is_err_and c.from_residual.result c.from_residual.ensures.1 in
    rw (out.1, out.2) (
    ap Err (found.2 ∙ ap (λ (k : ℕ). in_day_at (first + k) found.0) hand.next.place)
    ∙ sym (slip_refused first r.at s slips (page slip) hand.next found.0 refused)
    ∙ c.loop-slip.invariant.rest
    )
