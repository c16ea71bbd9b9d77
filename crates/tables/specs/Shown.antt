-- What is printed of an answer.
use Rattle.std.specs.Prelude.{ℕ, Bool, true, false, List, ◌++◌, codes, decimal}
use Rattle.tables.specs.declared.answer.ByRule.{ByRule}
use Rattle.tables.specs.declared.question.Move.{Move}

-- as "turns keep 2, shares keep 3"
abbrev pub kept_shown : ByRule ℕ → List ℕ
kept_shown k = codes "turns keep " ++ (decimal k.turns ++ (codes ", shares keep " ++ decimal k.shares))

-- as "0>1"
abbrev pub move_shown : Move → List ℕ
move_shown m = decimal m.from ++ (codes ">" ++ decimal m.to)

abbrev pub yes_or_no : Bool → List ℕ
yes_or_no true = codes "yes"
yes_or_no false = codes "no"

-- as "turns gain yes, shares gain no"
abbrev pub gain_shown : ByRule Bool → List ℕ
gain_shown g = codes "turns gain " ++ (yes_or_no g.turns ++ (codes ", shares gain " ++ yes_or_no g.shares))
