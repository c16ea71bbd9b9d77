-- What both rules answer.
use Rattle.std.specs.Prelude.{Bool}
use Rattle.std.specs.Option.{option_map}
use Rattle.sharing.specs.LineUp.{line_up, rule_of}
use Rattle.sharing.specs.Rules.{gains}
use Rattle.sharing.specs.Shares.{shares}
use Rattle.sharing.specs.Turns.{turns}
use Rattle.tables.specs.declared.answer.ByRule.{ByRule}
use Rattle.tables.specs.declared.question.Move.{Move}
use Rattle.tables.specs.Questions.{Asked}
use Rattle.tables.specs.Told.{Told}

-- does the shed gain by a move, with the numbers as its filling?
abbrev pub gained : Asked → Move → ByRule Bool
gained a m = record {
  turns = gains (rule_of turns) a.terms a.numbers m.from m.to;
  shares = gains (rule_of shares) a.terms a.numbers m.from m.to;
}

-- what the lanes keep, with the numbers as their supply, and the gain of the move
abbrev pub answered : Asked → Told
answered a = record { turns = line_up turns a.terms a.numbers; shares = line_up shares a.terms a.numbers; gain = option_map (gained a) a.moved }
