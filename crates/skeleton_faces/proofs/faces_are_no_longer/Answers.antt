use Rattle.skeleton_faces.proofs.NoLonger.{faces-no_longer}
use Rattle.skeleton_faces.proofs.Every.{none-longer}
use Rattle.skeleton_faces.proofs.faces_are_no_longer.Goals as goal

pub returns : goal.returns
returns c = record { following = faces-no_longer; every = none-longer }
