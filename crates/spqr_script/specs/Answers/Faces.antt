-- The text of the answer to `faces`.
use Rattle.std.specs.Prelude.{◌≡◌, ℕ, List, [], ◌∷◌, ◌++◌, length, slice_index, codes, decimal}
use Rattle.multigraph.specs.Graph.{Multigraph}
use Rattle.multigraph.specs.Part.{GraphPart}
use Rattle.rotations.specs.Rotation.{IsRotationSystem}
use Rattle.faces.specs.Trace.{face_lists}
use Rattle.spqr_script.specs.Text.{line_end}

-- the pairs of a vertex and an edge, each as `V-E` with a space before it, in the numbers of the whole graph
abbrev pub spaced_pairs : GraphPart → List (ℕ × ℕ) → List ℕ
spaced_pairs part [] = []
spaced_pairs part (pair ∷ pairs) =
    codes " " ++ decimal (slice_index part.vertices pair.0) ++ codes "-" ++ decimal (slice_index part.edges pair.1) ++ spaced_pairs part pairs

-- `face V-E V-E ..`: a face, as the pairs along it
abbrev pub face_text : GraphPart → List (ℕ × ℕ) → List ℕ
face_text part pairs = codes "face" ++ spaced_pairs part pairs ++ line_end

-- the lines of some faces, in order
abbrev pub face_texts : GraphPart → List (List (ℕ × ℕ)) → List ℕ
face_texts part [] = []
face_texts part (face ∷ faces) = face_text part face ++ face_texts part faces

-- `faces B F` and a line for each of the F faces
abbrev pub faces_text : GraphPart → ℕ → List (List (ℕ × ℕ)) → List ℕ
faces_text part b faces =
    codes "faces " ++ decimal b ++ codes " " ++ decimal (length faces) ++ line_end ++ face_texts part faces

-- the faces of a rotation system of g, each from its least pair on, in order of these
abbrev pub AreFaces : Multigraph → List (List (ℕ × ℕ)) → Type 0
AreFaces g faces = (r : List (List ℕ)) × IsRotationSystem g r × (faces ≡ face_lists g r)
