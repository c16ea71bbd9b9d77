-- What a program prints after a refusal.
use Rattle.std.specs.Prelude.{ℕ, List, ◌++◌, codes, decimal}
use Rattle.sheets.specs.declared.fault.Fault.{Fault}
use Rattle.sheets.specs.declared.fault.Layer.{Layer}
use Rattle.sheets.specs.declared.fault.Layer.TheVariants.{Input, Word, Record, Book, Round, Plan}
use Rattle.sheets.specs.Faults.{standing}

abbrev pub layer_name : Layer → List ℕ
layer_name Input = codes "input"
layer_name Word = codes "word"
layer_name Record = codes "record"
layer_name Book = codes "book"
layer_name Round = codes "round"
layer_name Plan = codes "plan"

-- as "refused 7 at 3 in book"
abbrev pub refusal_line : Fault → List ℕ
refusal_line f = codes "refused " ++ (decimal (standing f.refusal).0 ++ (codes " at " ++ (decimal f.place ++ (codes " in " ++ layer_name f.layer))))
