-- What placing one vertex does to the numbers.
use Rattle.std.proofs.Common.{◌≡◌, ◌≢◌, ℕ, suc, ◌+◌, ◌*◌, ◌-◌, ◌/◌, ◌<◌, ◌≤◌, true, false, List, [], ◌∷◌, ◌++◌, length, slice_index, slice_set, arith, refl, sym, ap, ap₂, ◌∙◌, subst}
use Rattle.std.proofs.Math.ListN.{length-set}
use Rattle.std.proofs.lemmas.Bool.{both_ways}
use Rattle.std.proofs.lemmas.List.{get_or-set_same, get_or-set_other}
use Rattle.permutations.specs.Members.{is_member, is_distinct}
use Rattle.permutations.specs.Cyclic.{first_or}
use Rattle.permutations.proofs.Members.{member-head, member-tail, member-append_left, member-append_right, no_member-head, no_member-tail, distinct-head, distinct-tail, distinct-append_apart}
use Rattle.shift_method.specs.Shapes.{ShapeState, IsShapeOf, total, one_more, last_of, widened, covered, width_of, half_of, placed, CanStack}
use Rattle.shift_method.proofs.Stretches.{Offsets, total-more, offsets-same, offsets-first}

-- w was placed over its heads: t are the numbers after s
pub record IsPlacing (n : ℕ) (s t : ShapeState) (w left : ℕ) (inner : List ℕ) (right : ℕ) : Type 0 where
  pub half : ℕ
  pub width : ℕ
  pub wide : width ≡ total (slice_index s.gap) (inner ++ right ∷ []) + 2
  pub some : 0 < half
  pub more : half < width
  pub top : slice_index t.height w ≡ slice_index s.height left + half
  pub peak : slice_index t.height w + half ≡ slice_index s.height right + width
  pub high : slice_index t.height w + 2 ≤ n
  pub offsets : Offsets (slice_index s.gap) (slice_index t.offset) 1 inner
  pub half_here : slice_index t.half w ≡ half
  pub gap_here : slice_index t.gap w ≡ half
  pub gap_right : slice_index t.gap right + half ≡ width
  pub offset_else : (v : ℕ) → is_member v (inner ++ right ∷ []) ≡ false → slice_index t.offset v ≡ slice_index s.offset v
  pub height_else : (v : ℕ) → v ≢ w → slice_index t.height v ≡ slice_index s.height v
  pub half_else : (v : ℕ) → v ≢ w → slice_index t.half v ≡ slice_index s.half v
  pub gap_else : (v : ℕ) → is_member v (inner ++ right ∷ []) ≡ false → v ≢ w → slice_index t.gap v ≡ slice_index s.gap v
  pub sizes : IsShapeOf n t

-- the number that was written, and another one
same-at : (l : List ℕ) (i x : ℕ) → i < length l → slice_index (slice_set l i x) i ≡ x
same-at l i x h = get_or-set_same l i x 0 h

other-at : (l : List ℕ) (i x j : ℕ) → j ≢ i → slice_index (slice_set l i x) j ≡ slice_index l j
other-at l i x j h = get_or-set_other l i j x 0 h

-- the last member, and the first
pub last-is : (l : List ℕ) (r : ℕ) → last_of (l ++ r ∷ []) ≡ r
last-is [] r = refl
last-is (b ∷ l) r = ap (λ (i : ℕ). slice_index (b ∷ (l ++ r ∷ [])) i) (one l) ∙ last-is l r
  where
    one : (l : List ℕ) → suc (length (l ++ r ∷ [])) - 1 ≡ suc (length (l ++ r ∷ []) - 1)
    one [] = refl
    one (c ∷ l) = omega arith

first-is : (l : List ℕ) (r : ℕ) → slice_index (l ++ r ∷ []) 0 ≡ first_or r l
first-is [] r = refl
first-is (b ∷ l) r = refl

-- covering
covered-length : (g : ℕ → ℕ) (c : ℕ) (l off : List ℕ) → length (covered g c l off) ≡ length off
covered-length g c [] off = refl
covered-length g c (v ∷ l) off = covered-length g (c + g v) l (slice_set off v (c + g v)) ∙ length-set off v (c + g v)

covered-else : (g : ℕ → ℕ) (c : ℕ) (l off : List ℕ) (u : ℕ) → is_member u l ≡ false → slice_index (covered g c l off) u ≡ slice_index off u
covered-else g c [] off u i = refl
covered-else g c (v ∷ l) off u i = covered-else g (c + g v) l (slice_set off v (c + g v)) u (no_member-tail u v l i) ∙ other-at off v (c + g v) u (λ e. no_member-head u v l i (sym e))

covered-offsets : (g : ℕ → ℕ) (c : ℕ) (l off : List ℕ) → is_distinct l ≡ true → ((v : ℕ) → is_member v l ≡ true → v < length off) → Offsets g (slice_index (covered g c l off)) c l
covered-offsets g c [] off d b = tt
covered-offsets g c (v ∷ l) off d b = (
  covered-else g (c + g v) l (slice_set off v (c + g v)) v (distinct-head v l d) ∙ same-at off v (c + g v) (b v (member-head v l)),
  covered-offsets g (c + g v) l (slice_set off v (c + g v)) (distinct-tail v l d) (λ u i. subst (λ (z : ℕ). u < z) (sym (length-set off v (c + g v))) (b u (member-tail u v l i))),
)

module _ (n : ℕ) (s : ShapeState) (z : IsShapeOf n s) (w left : ℕ) (inner : List ℕ) (right : ℕ) (distinct : is_distinct (w ∷ left ∷ (inner ++ right ∷ [])) ≡ true)
    (within : (v : ℕ) → is_member v (w ∷ left ∷ (inner ++ right ∷ [])) ≡ true → v < n) (rest : ℕ)
    (even : total (slice_index s.gap) (inner ++ right ∷ []) + slice_index s.height right ≡ slice_index s.height left + 2 * rest) (slow : rest ≤ total (slice_index s.gap) (inner ++ right ∷ []))
    (fits : total (slice_index s.gap) (inner ++ right ∷ []) + slice_index s.height right + slice_index s.height left + 6 ≤ 2 * n) where
  abbrev whole : List ℕ
  whole = left ∷ (inner ++ right ∷ [])

  abbrev row : List ℕ
  row = inner ++ right ∷ []

  a : ℕ
  a = first_or right inner

  once : List ℕ
  once = one_more s.gap a

  twice : List ℕ
  twice = one_more once right

  widened-is : widened s.gap row ≡ twice
  unfolding once a twice
  widened-is = ap₂ (λ (i j : ℕ). one_more (one_more s.gap i) j) (first-is inner right) (last-is inner right)

  row-distinct : is_distinct row ≡ true
  row-distinct = distinct-tail left row (distinct-tail w whole distinct)

  row-within : (v : ℕ) → is_member v row ≡ true → v < n
  row-within v i = within v (member-tail v w whole (member-tail v left row i))

  right-in : is_member right row ≡ true
  right-in = member-append_right right inner (right ∷ []) (member-head right [])

  first-in : (l : List ℕ) → is_member (first_or right l) (l ++ right ∷ []) ≡ true
  first-in [] = member-head right []
  first-in (b ∷ l) = member-head b (l ++ right ∷ [])

  a-in : is_member a row ≡ true
  unfolding a
  a-in = first-in inner

  once-at : slice_index once a ≡ slice_index s.gap a + 1
  unfolding once
  once-at = same-at s.gap a (slice_index s.gap a + 1) (subst (λ (k : ℕ). a < k) (sym z.gaps) (row-within a a-in))

  once-else : (v : ℕ) → v ≢ a → slice_index once v ≡ slice_index s.gap v
  unfolding once
  once-else v e = other-at s.gap a (slice_index s.gap a + 1) v e

  once-length : length once ≡ n
  unfolding once
  once-length = length-set s.gap a (slice_index s.gap a + 1) ∙ z.gaps

  twice-at : slice_index twice right ≡ slice_index once right + 1
  unfolding twice
  twice-at = same-at once right (slice_index once right + 1) (subst (λ (k : ℕ). right < k) (sym once-length) (row-within right right-in))

  twice-else : (v : ℕ) → v ≢ right → slice_index twice v ≡ slice_index once v
  unfolding twice
  twice-else v e = other-at once right (slice_index once right + 1) v e

  twice-length : length twice ≡ n
  unfolding twice
  twice-length = length-set once right (slice_index once right + 1) ∙ once-length

  width : ℕ
  width = total (slice_index s.gap) row + 2

  total-twice : total (slice_index twice) row ≡ width
  unfolding width
  total-twice = omega (arith, total-more (slice_index s.gap) (slice_index once) a row row-distinct a-in once-at once-else, total-more (slice_index once) (slice_index twice) right row row-distinct right-in twice-at twice-else)

  pub width-is : width_of s whole ≡ total (slice_index s.gap) row + 2
  unfolding width
  width-is = ap (λ (l : List ℕ). total (slice_index l) row) widened-is ∙ total-twice

  half : ℕ
  half = rest + 1

  pub half-is : half_of s whole ≡ rest + 1
  unfolding half width
  half-is = ap₂ (λ (d i : ℕ). (d + slice_index s.height i - slice_index s.height left) / 2) width-is (last-is inner right) ∙ omega (arith, even)

  gap-is : (placed s w whole).gap ≡ slice_set (slice_set twice w half) right (width - half)
  unfolding placed half width
  gap-is = ap₂ (λ (l : List ℕ) (h : ℕ). slice_set (slice_set l w h) (last_of row) (width_of s whole - h)) widened-is half-is ∙ ap₂ (λ (d i : ℕ). slice_set (slice_set twice w half) i (d - half)) width-is (last-is inner right)

  height-is : (placed s w whole).height ≡ slice_set s.height w (slice_index s.height left + half)
  unfolding placed half width
  height-is = ap (λ (h : ℕ). slice_set s.height w (slice_index s.height left + h)) half-is

  halves-are : (placed s w whole).half ≡ slice_set s.half w half
  unfolding placed half width
  halves-are = ap (λ (h : ℕ). slice_set s.half w h) half-is

  offset-is : (placed s w whole).offset ≡ covered (slice_index twice) 0 row s.offset
  unfolding placed half width
  offset-is = ap (λ (l : List ℕ). covered (slice_index l) 0 row s.offset) widened-is

  w-within : w < n
  w-within = within w (member-head w whole)

  w-right : w ≢ right
  w-right e = both_ways (is_member w whole) (distinct-head w whole distinct) (subst (λ (v : ℕ). is_member v whole ≡ true) (sym e) (member-tail right left row right-in))

  height-top : slice_index (placed s w whole).height w ≡ slice_index s.height left + half
  height-top = ap (λ (l : List ℕ). slice_index l w) height-is ∙ same-at s.height w (slice_index s.height left + half) (subst (λ (k : ℕ). w < k) (sym z.heights) w-within)

  -- the widened gaps of the inner vertices: the first one has one more
  inner-offsets : (l : List ℕ) → is_distinct (l ++ right ∷ []) ≡ true → a ≡ first_or right l → (off : ℕ → ℕ) → Offsets (slice_index twice) off 0 (l ++ right ∷ []) → Offsets (slice_index s.gap) off 1 l
  inner-offsets [] d e off o = tt
  inner-offsets (u ∷ l) d e off o = (
    o.0 ∙ first,
    offsets-same (slice_index twice) (slice_index s.gap) off (0 + slice_index twice u) (1 + slice_index s.gap u) l first (λ v i. twice-else v (not_right v (member-tail v u l i)) ∙ once-else v (not_first v i)) (offsets-first (slice_index twice) off (0 + slice_index twice u) l (right ∷ []) o.1),
  )
    where
      not_right : (v : ℕ) → is_member v (u ∷ l) ≡ true → v ≢ right
      not_right v i q = both_ways (is_member v (right ∷ [])) (distinct-append_apart (u ∷ l) (right ∷ []) d v i) (subst (λ (k : ℕ). is_member k (right ∷ []) ≡ true) (sym q) (member-head right []))

      not_first : (v : ℕ) → is_member v l ≡ true → v ≢ a
      not_first v i q = both_ways (is_member v (l ++ right ∷ [])) (subst (λ (k : ℕ). is_member k (l ++ right ∷ []) ≡ false) (sym (q ∙ e)) (distinct-head u (l ++ right ∷ []) d)) (member-append_left v l (right ∷ []) i)

      first : 0 + slice_index twice u ≡ 1 + slice_index s.gap u
      first = omega (arith, twice-else u (not_right u (member-head u l)), subst (λ (k : ℕ). slice_index once k ≡ slice_index s.gap k + 1) e once-at)

  pub placing : IsPlacing n s (placed s w whole) w left inner right
  unfolding half width a
  placing = record {
    half = half;
    width = width;
    wide = refl;
    some = omega arith;
    more = omega (arith, slow);
    top = height-top;
    peak = omega (arith, height-top, even);
    high = omega (arith, height-top, even, fits);
    offsets = inner-offsets inner row-distinct refl (slice_index (placed s w whole).offset)
        (subst (λ (l : List ℕ). Offsets (slice_index twice) (slice_index l) 0 row) (sym offset-is) (covered-offsets (slice_index twice) 0 row s.offset row-distinct (λ v i. subst (λ (k : ℕ). v < k) (sym z.offsets) (row-within v i))));
    half_here = ap (λ (l : List ℕ). slice_index l w) halves-are ∙ same-at s.half w half (subst (λ (k : ℕ). w < k) (sym z.halves) w-within);
    gap_here = ap (λ (l : List ℕ). slice_index l w) gap-is ∙ other-at (slice_set twice w half) right (width - half) w w-right ∙ same-at twice w half (subst (λ (k : ℕ). w < k) (sym twice-length) w-within);
    gap_right = omega (
      arith,
      slow,
      ap (λ (l : List ℕ). slice_index l right) gap-is,
      same-at (slice_set twice w half) right (width - half) (subst (λ (k : ℕ). right < k) (sym (length-set twice w half ∙ twice-length)) (row-within right right-in)),
    );
    offset_else = λ v i. ap (λ (l : List ℕ). slice_index l v) offset-is ∙ covered-else (slice_index twice) 0 row s.offset v i;
    height_else = λ v i. ap (λ (l : List ℕ). slice_index l v) height-is ∙ other-at s.height w (slice_index s.height left + half) v i;
    half_else = λ v i. ap (λ (l : List ℕ). slice_index l v) halves-are ∙ other-at s.half w half v i;
    gap_else = λ v i j. ap (λ (l : List ℕ). slice_index l v) gap-is ∙ other-at (slice_set twice w half) right (width - half) v (outside v i right right-in) ∙ other-at twice w half v j
        ∙ twice-else v (outside v i right right-in) ∙ once-else v (outside v i a a-in);
    sizes = record {
      gaps = ap (λ (l : List ℕ). length l) gap-is ∙ length-set (slice_set twice w half) right (width - half) ∙ length-set twice w half ∙ twice-length;
      heights = ap (λ (l : List ℕ). length l) height-is ∙ length-set s.height w (slice_index s.height left + half) ∙ z.heights;
      halves = ap (λ (l : List ℕ). length l) halves-are ∙ length-set s.half w half ∙ z.halves;
      offsets = ap (λ (l : List ℕ). length l) offset-is ∙ covered-length (slice_index twice) 0 row s.offset ∙ z.offsets;
    };
  }
    where
      outside : (v : ℕ) → is_member v row ≡ false → (u : ℕ) → is_member u row ≡ true → v ≢ u
      outside v i u j e = both_ways (is_member v row) i (subst (λ (k : ℕ). is_member k row ≡ true) (sym e) j)

-- where a vertex can be placed, this is so for the cut of its heads
pub placing-of : (n : ℕ) (s : ShapeState) → IsShapeOf n s → (w : ℕ) (heads : List ℕ) (c : CanStack n (slice_index s.gap) (slice_index s.height) w heads) → IsPlacing n s (placed s w heads) w c.left c.inner c.right
placing-of n s z w heads c = subst (λ (l : List ℕ). IsPlacing n s (placed s w l) w c.left c.inner c.right) (sym c.stretch)
    (placing n s z w c.left c.inner c.right (subst (λ (l : List ℕ). is_distinct (w ∷ l) ≡ true) c.stretch c.distinct)
    (λ v i. c.within v (subst (λ (l : List ℕ). is_member v (w ∷ l) ≡ true) (sym c.stretch) i)) c.rest c.even c.slow c.fits)
