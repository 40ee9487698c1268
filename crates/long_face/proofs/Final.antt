-- The moves that the walk from the top gives lead to a longest face.
use Rattle.std.proofs.Common.{◌≡◌, ℕ, ◌<◌, true, List, length}
use Rattle.std.specs.Prelude.{Option}
use Rattle.permutations.specs.Members.{is_distinct, place_of}
use Rattle.multigraph.specs.Graph.{Multigraph}
use Rattle.faces.specs.Euler.{IsPlaneSystem}
use Rattle.pair_split.specs.Tutte.{Node, components, node_at}
use Rattle.pair_split.specs.declared.components.Kind.TheVariants.{P}
use Rattle.skeletons.specs.Families.{FollowsFamily}
use Rattle.skeleton_faces.specs.Faces.{EdgesWeighOne}
use Rattle.spqr_tree.specs.Keys.{AreOrdered}
use Rattle.long_face.specs.Longest.{HasFace, IsLongest}
use Rattle.long_face.specs.Laws.{WalkLeadsToLongest}
use Rattle.long_face.specs.Moves.{moves_towards}
use Rattle.long_face.specs.Ready.{IsReady}
use Rattle.long_face.specs.Settled.{has_want, want_or, want_at, AreSettled}
use Rattle.long_face.specs.Wanted.{Want, IsPair, AreWanted, choice_wanted}
use Rattle.long_face.proofs.FromTop.{are-wanted}
use Rattle.long_face.proofs.Greatest.{table-bounds, wanted-reached, wanted-longest}

module _ (g : Multigraph) (nodes : List Node) (family : List (List (List ℕ))) (weight : ℕ → ℕ → ℕ) (top most : ℕ) (y : IsReady g nodes family weight top most) (parents order : List ℕ) (o : AreOrdered (components nodes) top parents order)
    (once : is_distinct order ≡ true) (wants : List (Option Want)) (s : AreSettled nodes family weight top most parents wants) where
  -- the wanted faces fit together
  wanted : AreWanted nodes family weight top most (λ k. has_want (want_at wants k)) (λ k. want_or (want_at wants k)) (place_of order)
  wanted = are-wanted g nodes y.block family y.systems y.plane weight top most parents order o once wants s

  -- those of bonds are of two items
  pub wanted-pairs : (k : ℕ) → k < length nodes → has_want (want_at wants k) ≡ true → (node_at nodes k).kind ≡ P → IsPair (length (node_at nodes k).items) (want_or (want_at wants k))
  wanted-pairs k l h e = wanted.pairs k l h e

  -- and the moves lead to a longest face
  pub walked-longest : (r : List (List ℕ)) → IsPlaneSystem g r → FollowsFamily nodes family r → EdgesWeighOne nodes weight → (HasFace g r most → ⊥)
      → IsLongest g nodes r most (moves_towards nodes r (choice_wanted nodes r (λ k. has_want (want_at wants k)) (λ k. want_or (want_at wants k))) (length nodes))
  walked-longest r p follows ones lacks = wanted-longest g nodes r most (choice_wanted nodes r (λ k. has_want (want_at wants k)) (λ k. want_or (want_at wants k)))
      (table-bounds g nodes family weight most y.block y.systems y.plane ones y.table) lacks
      (wanted-reached g nodes r family weight top most (λ k. has_want (want_at wants k)) (λ k. want_or (want_at wants k)) (place_of order) y.block p y.systems follows ones y.table wanted)

-- the law
pub walk-longest : WalkLeadsToLongest
walk-longest g nodes r family weight top most parents order wants y p follows ones o once s lacks = walked-longest g nodes family weight top most y parents order o once wants s r p follows ones lacks
