-- The lists that are open, from the vector that holds them.
use Rattle.std.proofs.Common.{◌≡◌, ◌+◌, List, [], ◌∷◌, ◌++◌, length, refl, arith}
use Rattle.gml_text.specs.Pairs.{document_of}
use Rattle.gml_text.specs.Partial.{Frame, frames_onto}
use Rattle.gml_text.specs.declared.partial.OpenList.{OpenList}

-- the list that was opened last is the innermost
pub frames_onto-push : (open_lists : List OpenList) (open_list : OpenList) (frames : List Frame) → frames_onto (open_lists ++ (open_list ∷ [])) frames ≡ record { before = document_of open_list.before.items; key = open_list.key } ∷ frames_onto open_lists frames
frames_onto-push [] open_list frames = refl
frames_onto-push (o ∷ os) open_list frames = frames_onto-push os open_list (record { before = document_of o.before.items; key = o.key } ∷ frames)

-- as many as the vector has
pub length-frames_onto : (open_lists : List OpenList) (frames : List Frame) → length (frames_onto open_lists frames) ≡ length open_lists + length frames
length-frames_onto [] frames = omega arith
length-frames_onto (o ∷ os) frames = omega (arith, length-frames_onto os (record { before = document_of o.before.items; key = o.key } ∷ frames))
