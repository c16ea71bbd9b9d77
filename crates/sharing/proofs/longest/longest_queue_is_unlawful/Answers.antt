use Rattle.sharing.proofs.Unlawful.{longest_queue_unlawful}
use Rattle.sharing.proofs.longest.longest_queue_is_unlawful.Goals as goal

pub returns : goal.returns
returns c = longest_queue_unlawful
