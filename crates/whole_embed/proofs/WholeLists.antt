-- The lists of a component, vertex by vertex; and what comes after an edge in its block.
use Rattle.std.proofs.Common.{◌≡◌, ℕ, ◌+◌, ◌-◌, ◌<◌, true, false, List, [], ◌∷◌, ◌++◌, length, take, get_or, slice_index, slice_index_or, sym, ap, ◌∙◌, subst, arith}
use Rattle.std.proofs.lemmas.Bool.{cond-true, cond-false}
use Rattle.std.proofs.lemmas.List.{get_or-map, length-map, get_or-take, length-take-le, take_more}
use Rattle.permutations.specs.Members.{is_member, place_of}
use Rattle.permutations.specs.Cyclic.{successor}
use Rattle.permutations.proofs.Mapped.{map-member}
use Rattle.permutations.proofs.Successor.{successor-member}
use Rattle.permutations.proofs.Arrangements.{member-at}
use Rattle.permutations.proofs.Places.{place-below}
use Rattle.multigraph.specs.Graph.{edge_count}
use Rattle.multigraph.specs.Part.{GraphPart, Rises, IsNumbered}
use Rattle.multigraph.proofs.Places.{rises-once}
use Rattle.rotations.specs.Entries.{entry}
use Rattle.rotations.specs.Rotation.{order_at, IsRotationSystem}
use Rattle.faces.proofs.MapLists.{successor-map}
use Rattle.whole_embed.specs.Component.{Component, BlockInPlane}
use Rattle.whole_embed.specs.Around.{outer_at, edges_around}
use Rattle.whole_embed.specs.Whole.{first_order, order_around, whole_lists}
use Rattle.whole_embed.proofs.Outer.{place-rising}
use Rattle.whole_embed.proofs.FrameFacts.{round-below}

module _ (k : Component) (block : ℕ → BlockInPlane) (lists : List (List ℕ)) where
  -- a vertex with the order around it
  abbrev pair : ℕ → ℕ × List ℕ
  pair v = (v, order_around k block lists v)

  long : length (whole_lists k block lists) ≡ length k.part.vertices
  long = length-map k.part.vertices pair

  at : (i : ℕ) → i < length k.part.vertices → get_or (whole_lists k block lists) i (0, []) ≡ pair (slice_index k.part.vertices i)
  at i l = get_or-map pair k.part.vertices i 0 (0, []) l

  -- one vertex more
  pub lists-more : (i v : ℕ) (edges : List ℕ) (old new : List (ℕ × List ℕ)) → i < length k.part.vertices → old ≡ take i (whole_lists k block lists) → v ≡ slice_index k.part.vertices i
      → edges ≡ order_around k block lists (slice_index k.part.vertices i) → new ≡ old ++ (v, edges) ∷ [] → new ≡ take (i + 1) (whole_lists k block lists)
  lists-more i v edges old new l e q r h =
      let parts : (v, edges) ≡ pair (slice_index k.part.vertices i) = (λ j. (q j, r j)) in
      let both : (v, edges) ≡ get_or (whole_lists k block lists) i (0, []) = parts ∙ sym (at i l) in
      h ∙ (ap (λ (z : List (ℕ × List ℕ)). z ++ (v, edges) ∷ []) e
      ∙ (ap (λ (z : ℕ × List ℕ). take i (whole_lists k block lists) ++ z ∷ []) both
      ∙ sym (take_more (whole_lists k block lists) i (0, []) (omega (arith, l, long)))))

  -- the next vertex is above the last one
  pub lists-above : (i v : ℕ) (old : List (ℕ × List ℕ)) → Rises k.part.vertices → i < length k.part.vertices → old ≡ take i (whole_lists k block lists) → v ≡ slice_index k.part.vertices i → 0 < length old → (entry old (length old - 1)).0 < v
  lists-above i v old rise l e q some =
      let count : length old ≡ i = ap length e ∙ length-take-le i (whole_lists k block lists) (omega (arith, l, long)) in
      let before : length old - 1 < i = omega (arith, count, some) in
      let last : entry old (length old - 1) ≡ pair (slice_index k.part.vertices (length old - 1)) =
      ap (λ (z : List (ℕ × List ℕ)). get_or z (length old - 1) (0, [])) e ∙ (get_or-take i (whole_lists k block lists) (length old - 1) (0, []) before ∙ at (length old - 1) (omega (arith, before, l))) in
      omega (arith, ap (λ (z : ℕ × List ℕ). z.0) last, q, rise (length old - 1) i before l)

-- the order that is kept at a cut vertex
pub cut-order : (k : Component) (block : ℕ → BlockInPlane) (lists : List (List ℕ)) (v place : ℕ) (edges : List ℕ) → is_member v k.cuts ≡ true → place ≡ place_of k.cuts v → edges ≡ slice_index_or lists place [] → edges ≡ order_around k block lists v
cut-order k block lists v place edges m e h =
    h ∙ (ap (λ (i : ℕ). slice_index_or lists i []) e
    ∙ sym (cond-true (is_member v k.cuts) (slice_index_or lists (place_of k.cuts v) []) (first_order k block v (edges_around k v)) m))

-- and elsewhere
pub one-order : (k : Component) (block : ℕ → BlockInPlane) (lists : List (List ℕ)) (v : ℕ) (edges : List ℕ) → is_member v k.cuts ≡ false → edges ≡ first_order k block v (edges_around k v) → edges ≡ order_around k block lists v
one-order k block lists v edges m h = h ∙ sym (cond-false (is_member v k.cuts) (slice_index_or lists (place_of k.cuts v) []) (first_order k block v (edges_around k v)) m)

-- an edge around a vertex of a part
module _ (part : GraphPart) (r : List (List ℕ)) (n : IsNumbered part) (s : IsRotationSystem part.graph r) (v e : ℕ) (mv : is_member v part.vertices ≡ true) (me : is_member e (outer_at part r v) ≡ true) where
  abbrev o : List ℕ
  o = order_at r (place_of part.vertices v)

  inside : place_of part.vertices v < part.graph.vertex_count
  inside = omega (arith, place-below part.vertices v mv, n.vertex_each)

  -- its number in the part
  inner : (j : ℕ) × (is_member j (order_at r (place_of part.vertices v)) ≡ true) × (slice_index part.edges j ≡ e)
  inner = map-member (slice_index part.edges) (order_at r (place_of part.vertices v)) e me

  within : (j : ℕ) → is_member j (order_at r (place_of part.vertices v)) ≡ true → j < length part.edges
  within j m = omega (arith, round-below part.graph r (place_of part.vertices v) j s inside m, n.edge_each)

  pub edge-there : is_member e part.edges ≡ true
  edge-there = subst (λ (z : ℕ). is_member z part.edges ≡ true) inner.2 (member-at part.edges inner.0 0 (within inner.0 inner.1))

  place-is : place_of part.edges e ≡ inner.0
  place-is = ap (place_of part.edges) (sym inner.2) ∙ place-rising part.edges inner.0 n.edges_rise (within inner.0 inner.1)

  pub edge-inner : is_member (place_of part.edges e) (order_at r (place_of part.vertices v)) ≡ true
  edge-inner = subst (λ (z : ℕ). is_member z (order_at r (place_of part.vertices v)) ≡ true) (sym place-is) inner.1

  -- what comes after it
  pub next-within : successor (order_at r (place_of part.vertices v)) (place_of part.edges e) < edge_count part.graph
  next-within = round-below part.graph r (place_of part.vertices v) (successor o (place_of part.edges e)) s inside (successor-member o (place_of part.edges e) edge-inner)

  pub next-outer : slice_index part.edges (successor (order_at r (place_of part.vertices v)) (place_of part.edges e)) ≡ successor (outer_at part r v) e
  next-outer =
      ap (λ (j : ℕ). slice_index part.edges (successor o j)) place-is
      ∙ (sym (successor-map (slice_index part.edges) o inner.0 (λ z m q. rises-once part.edges n.edges_rise z inner.0 (within z m) (within inner.0 inner.1) q))
      ∙ ap (successor (outer_at part r v)) inner.2)
