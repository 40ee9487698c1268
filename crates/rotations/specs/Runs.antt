-- Runs of edges around a vertex, and a cyclic order after a run was moved or reversed.
use Rattle.std.specs.Prelude.{◌≡◌, ◌≢◌, ℕ, List, [], ◌∷◌, ◌++◌, length, map, reverse}
use Rattle.permutations.specs.Cyclic.{from_least, IsTurn}
use Rattle.rotations.specs.Rotation.{order_at}

-- edges in a row, the first of them and the last
pub record IsRun (first last : ℕ) (run : List ℕ) : Type 0 where
  pub behind : List ℕ
  pub begins : run ≡ first ∷ behind
  pub ahead : List ℕ
  pub ends : run ≡ ahead ++ last ∷ []

-- a cyclic order is a run from first to last and then the other edges
pub record IsParted (order : List ℕ) (first last : ℕ) (run others : List ℕ) : Type 0 where
  pub is_run : IsRun first last run
  pub round : IsTurn order (run ++ others)

-- an edge of the cyclic order is not in the run from first to last
pub record IsOutside (order : List ℕ) (first last edge : ℕ) : Type 0 where
  pub run : List ℕ
  pub front : List ℕ
  pub back : List ℕ
  pub parted : IsParted order first last run (front ++ edge ∷ back)

-- the run from first to last was taken out and inserted after an edge that is not in it
pub record IsRunMoved (old new : List ℕ) (first last edge : ℕ) : Type 0 where
  pub run : List ℕ
  pub front : List ℕ
  pub back : List ℕ
  pub parted : IsParted old first last run (front ++ edge ∷ back)
  pub moved : new ≡ from_least (front ++ edge ∷ (run ++ back))

-- the run from first to last was reversed in its place
pub record IsRunTurned (old new : List ℕ) (first last : ℕ) : Type 0 where
  pub run : List ℕ
  pub others : List ℕ
  pub parted : IsParted old first last run others
  pub turned : new ≡ from_least (reverse run ++ others)

-- equally many vertices, and those other than v have the cyclic orders that they had
pub record IsKeptElsewhere (old new : List (List ℕ)) (v : ℕ) : Type 0 where
  pub vertices : length new ≡ length old
  pub others : (w : ℕ) → w ≢ v → order_at new w ≡ order_at old w

-- the mirror image: each cyclic order is reversed, and written from its least edge on again
abbrev pub mirror_image : List (List ℕ) → List (List ℕ)
mirror_image r = map (λ order. from_least (reverse order)) r
