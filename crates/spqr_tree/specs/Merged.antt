-- Components merged into groups: the links between the components of a group go, those out of it lead to groups. Nothing is
-- said of the order of the pieces, nor of the order of the two ends of a piece.
use Rattle.std.specs.Prelude.{◌≡◌, ◌≢◌, ℕ, ◌<◌, ◌⊎◌, Bool, true, not, ◌&&◌, ◌==◌, cond, List, length, map, filter, slice_index_or}
use Rattle.permutations.specs.Count.{sum_below}
use Rattle.pair_split.specs.Skeleton.{IsSkeleton}
use Rattle.pair_split.specs.Split.{component_at, items_of, piece_ends, LinksTo}
use Rattle.pair_split.specs.declared.components.Kind.{Kind}
use Rattle.pair_split.specs.declared.components.Kind.TheVariants.{S, P}
use Rattle.pair_split.specs.declared.components.What.{What}
use Rattle.pair_split.specs.declared.components.What.TheVariants.{Real, Link}
use Rattle.pair_split.specs.declared.components.Piece.{Piece}
use Rattle.pair_split.specs.declared.components.Comp.{Comp}

-- how many of the pieces pass the test
abbrev pub how_many : (Piece → Bool) → List Piece → ℕ
how_many t pieces = length (filter t pieces)

-- whether it is no link into group k
abbrev pub is_outer : (ℕ → ℕ) → ℕ → What → Bool
is_outer lead k (Real e) = true
is_outer lead k (Link j) = not (lead j == k)

-- how many pieces of the components of group k pass the test, links within the group aside
abbrev pub gathered : List Comp → (ℕ → ℕ) → ℕ → (Piece → Bool) → ℕ
gathered comps lead k t = sum_below (length comps) (λ x. cond (lead x == k) (how_many (λ piece. is_outer lead k piece.what && t piece) (items_of comps x)) 0)

-- the components of group k are connected by links among them: a test that these links respect is the same on all of them
abbrev pub IsJoined : List Comp → (ℕ → ℕ) → ℕ → Type 0
IsJoined comps lead k =
    (t : ℕ → Bool) → ((x y : ℕ) → LinksTo comps x y → lead x ≡ k → lead y ≡ k → t x ≡ t y)
    → (x y : ℕ) → x < length comps → y < length comps → lead x ≡ k → lead y ≡ k → t x ≡ t y

-- group k has these pieces: it is made of components of one kind that links connect, and its pieces are theirs, without the
-- links within the group, and make a skeleton of this kind
pub record IsGroup (comps : List Comp) (lead : ℕ → ℕ) (k : ℕ) (kind : Kind) (pieces : List Piece) : Type 0 where
  pub member : (x : ℕ) × (x < length comps) × (lead x ≡ k)
  pub kinds : (x : ℕ) → x < length comps → lead x ≡ k → (component_at comps x).kind ≡ kind
  pub joined : IsJoined comps lead k
  pub gathers : (t : Piece → Bool) → how_many t pieces ≡ gathered comps lead k t
  pub of_kind : IsSkeleton kind (map piece_ends pieces)

-- components of this kind are merged where links join them
abbrev pub IsMerged : Kind → Type 0
IsMerged kind = (kind ≡ S) ⊎ (kind ≡ P)

-- no piece of a group of polygons or of bonds is a link to a component of its kind: nothing more can be put into it
abbrev pub NoneAlike : List Comp → Kind → List Piece → Type 0
NoneAlike comps kind pieces =
    (i d : ℕ) → i < length pieces → (slice_index_or pieces i (record { a = 0; b = 0; what = Real 0 })).what ≡ Link d → IsMerged kind → (component_at comps d).kind ≢ kind

-- each component is in one of the groups
pub record AreGroups (comps : List Comp) (lead : ℕ → ℕ) (groups : List Comp) : Type 0 where
  pub into : (x : ℕ) → x < length comps → lead x < length groups
  pub each : (k : ℕ) → k < length groups → IsGroup comps lead k (component_at groups k).kind (items_of groups k)

-- a link turned to another number
abbrev pub relinked : (ℕ → ℕ) → What → What
relinked lead (Real e) = Real e
relinked lead (Link j) = Link (lead j)

-- a piece with its link turned so
abbrev pub redirect : (ℕ → ℕ) → Piece → Piece
redirect lead piece = record { a = piece.a; b = piece.b; what = relinked lead piece.what }

-- the test passes a piece whichever of its ends comes first, or neither way
abbrev pub IsSymmetric : (Piece → Bool) → Type 0
IsSymmetric t = (a b : ℕ) (what : What) → t (record { a = a; b = b; what = what }) ≡ t (record { a = b; b = a; what = what })

-- the other components are the groups in another order, group k at the place π k, with their pieces in any order, the ends of
-- a piece in any order, and each link turned to the place of the group to which it leads
pub record AreRearranged (lead π : ℕ → ℕ) (groups others : List Comp) : Type 0 where
  pub number : length others ≡ length groups
  pub into : (k : ℕ) → k < length groups → π k < length groups
  pub differ : (k j : ℕ) → k < length groups → j < length groups → π k ≡ π j → k ≡ j
  pub onto : (h : ℕ) → h < length groups → (k : ℕ) × (k < length groups) × (π k ≡ h)
  pub kinds : (k : ℕ) → k < length groups → (component_at others (π k)).kind ≡ (component_at groups k).kind
  pub pieces : (k : ℕ) (t : Piece → Bool) → k < length groups → IsSymmetric t → how_many t (items_of others (π k)) ≡ how_many (λ piece. t (redirect (λ x. π (lead x)) piece)) (items_of groups k)
