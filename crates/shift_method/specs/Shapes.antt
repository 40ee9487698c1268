-- The numbers that the shift method keeps of each vertex, and what one step does to them (Chrobak and Payne 1995). The heads of a vertex
-- are its neighbours on the contour on which it is placed, from left to right.
use Rattle.std.specs.Prelude.{◌≡◌, ℕ, ◌+◌, ◌-◌, ◌*◌, ◌/◌, ◌<◌, ◌≤◌, true, List, [], ◌∷◌, ◌++◌, length, drop, replicate, slice_index, slice_set}
use Rattle.permutations.specs.Members.{is_member, is_distinct}
use Rattle.canonical_orders.specs.Order.{Removed}

-- by vertices: how far it lies to the right of its left neighbour on the contour; its height; how far it lay to the right of its first head
-- when it was placed; and how far to the right of the first head of the vertex that covers it
pub record ShapeState : Type 0 where
  pub gap : List ℕ
  pub height : List ℕ
  pub half : List ℕ
  pub offset : List ℕ

-- each of the lists has a number for each of n vertices
pub record IsShapeOf (n : ℕ) (s : ShapeState) : Type 0 where
  pub gaps : length s.gap ≡ n
  pub heights : length s.height ≡ n
  pub halves : length s.half ≡ n
  pub offsets : length s.offset ≡ n

-- nothing is placed yet but the two ends, both at the height 0
abbrev pub fresh : ℕ → ShapeState
fresh n = record { gap = replicate n 0; height = replicate n 0; half = replicate n 0; offset = replicate n 0 }

-- the sum of the gaps of these vertices
abbrev pub total : (ℕ → ℕ) → List ℕ → ℕ
total g [] = 0
total g (v ∷ l) = g v + total g l

-- one more at v
abbrev pub one_more : List ℕ → ℕ → List ℕ
one_more l v = slice_set l v (slice_index l v + 1)

abbrev pub last_of : List ℕ → ℕ
last_of l = slice_index l (length l - 1)

-- the gaps before the first and before the last of these vertices are one more
abbrev pub widened : List ℕ → List ℕ → List ℕ
widened gap l = one_more (one_more gap (slice_index l 0)) (last_of l)

-- the offset of each of these vertices is the sum of the gaps up to it, from `sum` on
abbrev pub covered : (ℕ → ℕ) → ℕ → List ℕ → List ℕ → List ℕ
covered g sum [] offset = offset
covered g sum (v ∷ l) offset = covered g (sum + g v) l (slice_set offset v (sum + g v))

abbrev pub with_widened : ShapeState → List ℕ → ShapeState
with_widened s l = record s { gap = widened s.gap l }

abbrev pub with_covered : ShapeState → List ℕ → ShapeState
with_covered s l = record s { offset = covered (slice_index s.gap) 0 l s.offset }

-- the vertex has this height, and lies this far to the right of its left neighbour
abbrev pub raised : ShapeState → ℕ → ℕ → ℕ → ShapeState
raised s v half height = record s {
  gap = slice_set s.gap v half;
  height = slice_set s.height v height;
  half = slice_set s.half v half;
}

abbrev pub with_gap : ShapeState → ℕ → ℕ → ShapeState
with_gap s v x = record s { gap = slice_set s.gap v x }

-- from the first head to the last, once there is room
abbrev pub width_of : ShapeState → List ℕ → ℕ
width_of s heads = total (slice_index (widened s.gap (drop 1 heads))) (drop 1 heads)

-- from the first head to the vertex that is placed
abbrev pub half_of : ShapeState → List ℕ → ℕ
half_of s heads = (width_of s heads + slice_index s.height (last_of (drop 1 heads)) - slice_index s.height (slice_index heads 0)) / 2

-- the numbers after vertex w was placed over its heads
unfoldable pub placed : ShapeState → ℕ → List ℕ → ShapeState
placed s w heads = with_gap (raised (with_covered (with_widened s (drop 1 heads)) (drop 1 heads)) w (half_of s heads) (slice_index s.height (slice_index heads 0) + half_of s heads))
    (last_of (drop 1 heads)) (width_of s heads - half_of s heads)

-- the numbers after these vertices were placed, the last one first
abbrev pub all_placed : ShapeState → List Removed → ShapeState
all_placed s [] = s
all_placed s (r ∷ l) = placed (all_placed s l) r.0 r.1

-- vertex w, one of n, can be placed over its heads: they are different, two or more, and the sum of their gaps is even with the difference of the
-- heights of the first and the last, and no less; all sums stay below 2n
pub record CanStack (n : ℕ) (gap height : ℕ → ℕ) (w : ℕ) (heads : List ℕ) : Type 0 where
  pub left : ℕ
  pub inner : List ℕ
  pub right : ℕ
  pub stretch : heads ≡ left ∷ (inner ++ right ∷ [])
  pub distinct : is_distinct (w ∷ heads) ≡ true
  pub within : (v : ℕ) → is_member v (w ∷ heads) ≡ true → v < n
  pub rest : ℕ
  pub even : total gap (inner ++ right ∷ []) + height right ≡ height left + 2 * rest
  pub slow : rest ≤ total gap (inner ++ right ∷ [])
  pub fits : total gap (inner ++ right ∷ []) + height right + height left + 6 ≤ 2 * n
