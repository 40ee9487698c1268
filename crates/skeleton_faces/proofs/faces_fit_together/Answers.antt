use Rattle.skeleton_faces.proofs.Fitted.{faces-fit}
use Rattle.skeleton_faces.proofs.faces_fit_together.Goals as goal

pub returns : goal.returns
returns c = faces-fit
