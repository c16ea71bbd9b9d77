-- What is said of a line that is no question.
use Rattle.std.specs.Prelude.{ℕ, List, ◌++◌, Some, None, codes, decimal, Option}
use Rattle.tables.specs.declared.complaint.Complaint.{Complaint}
use Rattle.tables.specs.declared.complaint.Complaint.TheVariants.{NoCap, WrongCap, WordBehindMove, WrongMove, NinthLane, WrongLane, CapacityTooLarge, TargetAboveCapacity, TargetsAboveCap}

-- each complaint's number, and the lane that is at fault
abbrev pub standing : Complaint → ℕ × Option ℕ
standing NoCap = (1, None)
standing WrongCap = (2, None)
standing WordBehindMove = (3, None)
standing WrongMove = (4, None)
standing NinthLane = (5, None)
standing (WrongLane k) = (6, Some k)
standing (CapacityTooLarge k) = (7, Some k)
standing (TargetAboveCapacity k) = (8, Some k)
standing (TargetsAboveCap k) = (9, Some k)

-- the words of a complaint
abbrev pub said : Complaint → List ℕ
said NoCap = codes "no cap"
said WrongCap = codes "the cap is no number up to 4095"
said WordBehindMove = codes "a word behind the move"
said WrongMove = codes "the move is not A>B"
said NinthLane = codes "more than 8 lanes"
said (WrongLane k) = codes "lane " ++ (decimal k ++ codes " is not CAPACITY/TARGET/NUMBER")
said (CapacityTooLarge k) = codes "lane " ++ (decimal k ++ codes " has a capacity above 4095")
said (TargetAboveCapacity k) = codes "lane " ++ (decimal k ++ codes " has a target above its capacity")
said (TargetsAboveCap k) = codes "the targets up to lane " ++ (decimal k ++ codes " are above the cap")
