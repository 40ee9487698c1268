use Rattle.std.proofs.Common.{◌≡◌, ℕ, List, length}
use Rattle.multigraph.specs.Graph.{Multigraph}
use Rattle.face_weights.specs.Weights.{weight_of}
use Rattle.long_face.specs.Ready.{AreKnown}
use Rattle.long_face.specs.Walk.{AreSettledUpTo}
use Rattle.long_face.proofs.walking.wants_from.Given as goal

abbrev pub invariant-loop-k : goal.invariant-loop-k
invariant-loop-k l = (length l.wants.items ≡ length l.tree)
    × ((g : Multigraph) (family : List (List (List ℕ))) → AreKnown g l.tree family l.faces l.weights → AreSettledUpTo l.tree family (weight_of l.tree l.weights) l.top l.weights.most l.parents l.order l.k-index l.wants.items)
