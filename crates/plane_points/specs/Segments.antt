-- Segments, their points, and when two of them have none in common.
use Rattle.std.specs.Prelude.{◌≡◌, ℕ, ◌+◌, ◌*◌, ◌<◌, Bool, not, ◌&&◌, ◌||◌, nat_lt}
use Rattle.plane_points.specs.Turning.{turns_left}

-- s times p and t times q: the points of the segment from p to q are these, divided by s + t
abbrev pub weighted : ℕ → ℕ × ℕ → ℕ → ℕ × ℕ → ℕ × ℕ
weighted s p t q = (s * p.0 + t * q.0, s * p.1 + t * q.1)

abbrev pub times : ℕ → ℕ × ℕ → ℕ × ℕ
times k p = (k * p.0, k * p.1)

-- the segments from a to b and from c to d have a point in common
pub record DoMeet (a b c d : ℕ × ℕ) : Type 0 where
  pub s : ℕ
  pub t : ℕ
  pub u : ℕ
  pub w : ℕ
  pub some : 0 < s + t
  pub same : s + t ≡ u + w
  pub there : weighted s a t b ≡ weighted u c w d

-- all of a and b comes before all of c and d in the one direction
abbrev pub both_less : ℕ → ℕ → ℕ → ℕ → Bool
both_less a b c d = nat_lt a c && (nat_lt a d && (nat_lt b c && nat_lt b d))

-- the boxes around the segments have no point in common
abbrev pub boxes_apart : ℕ × ℕ → ℕ × ℕ → ℕ × ℕ → ℕ × ℕ → Bool
boxes_apart a b c d = both_less a.0 b.0 c.0 d.0 || (both_less c.0 d.0 a.0 b.0 || (both_less a.1 b.1 c.1 d.1 || both_less c.1 d.1 a.1 b.1))

-- c and d are on one side of the line through a and b, and not on it
abbrev pub are_beside : ℕ × ℕ → ℕ × ℕ → ℕ × ℕ → ℕ × ℕ → Bool
are_beside a b c d = (turns_left a b c && turns_left a b d) || (turns_left b a c && turns_left b a d)

-- the segments from a to b and from c to d are apart: so are their boxes, or the one is beside the line of the other
abbrev pub are_apart : ℕ × ℕ → ℕ × ℕ → ℕ × ℕ → ℕ × ℕ → Bool
are_apart a b c d = boxes_apart a b c d || (are_beside a b c d || are_beside c d a b)

-- a, b and p lie on one line
abbrev pub in_line : ℕ × ℕ → ℕ × ℕ → ℕ × ℕ → Bool
in_line a b p = not (turns_left a b p) && not (turns_left b a p)

-- p is no less than the lesser of a and b, and no greater than the greater
abbrev pub in_range : ℕ → ℕ → ℕ → Bool
in_range a b p = not (nat_lt p a && nat_lt p b) && not (nat_lt a p && nat_lt b p)

-- p is a point of the segment from a to b
abbrev pub is_on : ℕ × ℕ → ℕ × ℕ → ℕ × ℕ → Bool
is_on a b p = in_line a b p && (in_range a.0 b.0 p.0 && in_range a.1 b.1 p.1)

-- p is less than z and q greater, or the reverse
abbrev pub on_two_sides : ℕ → ℕ → ℕ → Bool
on_two_sides z p q = (nat_lt p z && nat_lt z q) || (nat_lt q z && nat_lt z p)

-- seen from z, p and q lie in one direction
abbrev pub same_way : ℕ × ℕ → ℕ × ℕ → ℕ × ℕ → Bool
same_way z p q = in_line z p q && (not (on_two_sides z.0 p.0 q.0) && not (on_two_sides z.1 p.1 q.1))
