use Rattle.rounds.proofs.lots.Lots.new.Goals as goal

pub returns : goal.returns
returns c = λ i. record { lists = c.new.ensures i; lines = c.new-2.ensures i; count = 0 }
