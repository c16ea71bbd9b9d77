use Rattle.sharing.specs.Laws.{no_gain_at_fillings}
use Rattle.sharing.proofs.no_gain.line_ups_keep_no_gain.Goals as goal

pub returns : goal.returns
returns c = no_gain_at_fillings
