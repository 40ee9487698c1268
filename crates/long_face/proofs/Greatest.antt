-- The greatest length of a face, and the moves to a plane rotation system that has one.
use Rattle.std.proofs.Common.{◌≡◌, ℕ, zero, suc, ◌+◌, ◌<◌, ◌≤◌, cond, List, [], ◌++◌, length, refl, sym, ap, ap₂, ◌∙◌, subst, arith, add-one}
use Rattle.multigraph.specs.Graph.{Multigraph}
use Rattle.faces.specs.Euler.{IsPlaneSystem}
use Rattle.pair_split.specs.Tutte.{Node, node_at}
use Rattle.skeletons.specs.Choices.{choice}
use Rattle.skeletons.specs.Families.{AreSkeletonSystems, FollowsFamily}
use Rattle.skeletons.specs.Items.{IsBlockTree}
use Rattle.skeletons.specs.Moves.{Move, move_of_kind, moves_below}
use Rattle.skeletons.proofs.Leading.{is-same}
use Rattle.skeleton_planes.proofs.Followed.{follows-plane_back}
use Rattle.skeleton_faces.specs.Faces.{face_length}
use Rattle.skeleton_faces.proofs.Every.{none-longer}
use Rattle.long_face.specs.Longest.{HasFace, NoneLonger, IsLongest}
use Rattle.long_face.specs.Laws.{TableBoundsFaces, WantedIsReached}
use Rattle.long_face.specs.Moves.{move_towards, moves_towards}
use Rattle.long_face.proofs.Lengths.{listed-dart, dart-listed}
use Rattle.long_face.proofs.Reached.{IsReached, reached}
use Rattle.skeletons.proofs.Places.{contiguous-follows}
use Rattle.skeleton_runs.proofs.Contiguous.{plane-contiguous}

-- no face is longer
pub table-bounds : TableBoundsFaces
table-bounds g nodes family weight most b systems plane ones table q p other has =
    let d = listed-dart g q b.graph p.system other has in
    subst (λ n. n ≤ most) d.2 (none-longer g nodes family weight most b systems plane ones table q p d.0 d.1)

-- and one is as long
pub wanted-reached : WantedIsReached
wanted-reached g nodes r family weight top most is_on want rank b p systems follows ones table w =
    let plane = follows-plane_back g nodes b family systems r p.system follows p.plane in
    let o : IsReached g nodes r most is_on want = reached g nodes b r p family systems follows plane weight top most ones is_on want rank w most table in
    let bound = none-longer g nodes family weight most b systems plane ones table o.system o.plane o.dart o.dart_in in
    let e : face_length g o.system o.dart ≡ most = exact (face_length g o.system o.dart) most o.long bound in
    (o.system, o.plane, subst (HasFace g o.system) e (dart-listed g o.system b.graph o.plane.system o.dart o.dart_in), o.choices)
  where
    exact : (a c : ℕ) → c ≤ a → a ≤ c → a ≡ c
    exact a c u v = omega (arith, u, v)

-- no moves lead from a rotation system to itself
pub no-moves : (nodes : List Node) (r : List (List ℕ)) (n : ℕ) → moves_below nodes r r n ≡ []
no-moves nodes r zero = refl
no-moves nodes r (suc n) = ap₂ (λ (a c : List Move). a ++ c) (no-moves nodes r n) (ap (λ z. cond z [] (move_of_kind (node_at nodes n).kind n (choice nodes r n))) (is-same (choice nodes r n) (choice nodes r n) refl))

-- the moves towards the choices of a rotation system
pub moves-same : (nodes : List Node) (r q : List (List ℕ)) (keys : ℕ → List ℕ) (n : ℕ) → ((k : ℕ) → k < n → choice nodes q k ≡ keys k) → moves_below nodes r q n ≡ moves_towards nodes r keys n
moves-same nodes r q keys zero h = refl
moves-same nodes r q keys (suc n) h = ap₂ (λ (a c : List Move). a ++ c) (moves-same nodes r q keys n (λ k l. h k (omega (arith, l)))) (ap (move_towards nodes r n) (h n (omega arith)))

-- one node more
pub towards-more : (nodes : List Node) (r : List (List ℕ)) (keys : ℕ → List ℕ) (k : ℕ) (list found : List Move) → list ≡ moves_towards nodes r keys k → found ≡ move_towards nodes r k (keys k) → list ++ found ≡ moves_towards nodes r keys (k + 1)
towards-more nodes r keys k list found e f = ap₂ (λ (a c : List Move). a ++ c) e f ∙ sym (ap (moves_towards nodes r keys) (add-one k))

-- a block with a face of the greatest length needs no moves
pub present-longest : (g : Multigraph) (nodes : List Node) (r : List (List ℕ)) (most : ℕ) → IsPlaneSystem g r → NoneLonger g most → HasFace g r most → IsLongest g nodes r most []
present-longest g nodes r most p none has = record { system = r; plane = p; reached = has; none_longer = none; moves_are = sym (no-moves nodes r (length nodes)); stays = λ h. refl }

-- and another the moves towards the wanted choices
pub wanted-longest : (g : Multigraph) (nodes : List Node) (r : List (List ℕ)) (most : ℕ) (keys : ℕ → List ℕ) → NoneLonger g most → (HasFace g r most → ⊥)
    → (q : List (List ℕ)) × IsPlaneSystem g q × HasFace g q most × ((k : ℕ) → k < length nodes → choice nodes q k ≡ keys k) → IsLongest g nodes r most (moves_towards nodes r keys (length nodes))
wanted-longest g nodes r most keys none lacks w = record { system = w.0; plane = w.1; reached = w.2; none_longer = none; moves_are = sym (moves-same nodes r w.0 keys (length nodes) w.3); stays = λ h. absurd (lacks h) }

-- a plane rotation system follows a family, of plane rotation systems
pub present-family : (g : Multigraph) (nodes : List Node) (r : List (List ℕ)) → IsBlockTree g nodes → IsPlaneSystem g r → (family : List (List (List ℕ))) × AreSkeletonSystems nodes family × FollowsFamily nodes family r
present-family g nodes r b p = contiguous-follows g nodes r b p.system (plane-contiguous g nodes r b p)
