use Rattle.drawing_exists.proofs.Existence.{drawing_exists}
use Rattle.drawing_exists.proofs.drawings_exist.Goals as goal

pub returns : goal.returns
returns c = drawing_exists
