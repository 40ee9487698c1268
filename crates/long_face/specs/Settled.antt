-- State of a loop over the nodes from the top on: what each node wants, by what its parent wants.
use Rattle.std.specs.Prelude.{◌≡◌, ◌≢◌, ℕ, ◌+◌, ◌/◌, ◌<◌, Bool, true, false, List, length, slice_index_or, Option, None, Some}
use Rattle.dart_maps.specs.Map.{twin}
use Rattle.pair_split.specs.Tutte.{Node, node_at}
use Rattle.pair_split.specs.declared.components.Kind.TheVariants.{P}
use Rattle.skeletons.specs.Families.{skeleton_graph, system_at}
use Rattle.skeleton_faces.specs.Faces.{IsSkeletonDart, AreAcross}
use Rattle.spqr_tree.specs.Keys.{parent_at}
use Rattle.long_face.specs.Wanted.{Want, IsPair, on_wanted, wanted_weight}

-- whether something is wanted
abbrev pub has_want : Option Want → Bool
has_want None = false
has_want (Some w) = true

-- what is wanted; without meaning where nothing is
abbrev pub want_or : Option Want → Want
want_or None = record { dart = 0; turned = false; first = 0; second = 0 }
want_or (Some w) = w

-- what is wanted of node k
abbrev pub want_at : List (Option Want) → ℕ → Option Want
want_at wants k = slice_index_or wants k None

-- the wanted face of node k weighs this
pub record IsBest (nodes : List Node) (family : List (List (List ℕ))) (weight : ℕ → ℕ → ℕ) (k : ℕ) (w : Want) (len : ℕ) : Type 0 where
  pub pairs : (node_at nodes k).kind ≡ P → IsPair (length (node_at nodes k).items) w
  pub weighs : wanted_weight (node_at nodes k).kind (skeleton_graph nodes k) (system_at family k) (weight k) w ≡ len

-- dart x of node p is wanted
abbrev pub IsWantedAt : List Node → List (List (List ℕ)) → ℕ → Option Want → ℕ → Type 0
IsWantedAt nodes family p above x = (has_want above ≡ true) × (on_wanted (node_at nodes p).kind (skeleton_graph nodes p) (system_at family p) (want_or above) x ≡ true)

-- node k wants the face of the dart of the link back that is opposite a wanted dart of its parent p, where there is one, and this face
-- weighs as much as the link and the link back
pub record IsSettled (nodes : List Node) (family : List (List (List ℕ))) (weight : ℕ → ℕ → ℕ) (p : ℕ) (above : Option Want) (k : ℕ) (own : Option Want) : Type 0 where
  pub forced : (x e : ℕ) → AreAcross nodes p x k e → IsWantedAt nodes family p above x → (has_want own ≡ true) × ((want_or own).dart ≡ twin e)
  pub source : has_want own ≡ true → (x : ℕ) × (e : ℕ) × AreAcross nodes p x k e × IsWantedAt nodes family p above x × ((want_or own).dart ≡ twin e)
      × IsBest nodes family weight k (want_or own) (weight k ((want_or own).dart / 2) + weight p (x / 2))

-- so do all nodes but the top, which wants a face of this weight
pub record AreSettled (nodes : List Node) (family : List (List (List ℕ))) (weight : ℕ → ℕ → ℕ) (top len : ℕ) (parents : List ℕ) (wants : List (Option Want)) : Type 0 where
  pub top_in : top < length nodes
  pub top_on : has_want (want_at wants top) ≡ true
  pub top_dart : IsSkeletonDart nodes top (want_or (want_at wants top)).dart
  pub top_best : IsBest nodes family weight top (want_or (want_at wants top)) len
  pub each : (k : ℕ) → k < length nodes → k ≢ top → IsSettled nodes family weight (parent_at parents k) (want_at wants (parent_at parents k)) k (want_at wants k)
