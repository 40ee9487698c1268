-- The turns of the search, as what the code has after them.
use Rattle.std.proofs.Common.{◌≡◌, ℕ, ◌+◌, ◌-◌, ◌<◌, ◌≤◌, inl, inr, Bool, true, false, List, length, take, get_or, set, sym, ap, ◌∙◌, subst, arith}
use Rattle.std.proofs.lemmas.Bool.{cases_lt}
use Rattle.std.proofs.lemmas.List.{length-take-le}
use Rattle.permutations.proofs.Injection.{pigeonhole}
use Rattle.multigraph.proofs.Incident.{length-incident, incident_at-edge, incident_at-end}
use Rattle.multigraph.specs.Graph.{Multigraph, edge_count, is_end, other_end, incident_edges, IsGraph, IsWithinLimits}
use Rattle.search_forest.specs.Forest.{ForestState, frond_noted, child_noted, looked_further, left, degree, looks_left, IsOnPath, IsForest}
use Rattle.multigraph.specs.Marks.{is_marked}
use Rattle.search_forest.specs.Searching.{IsLast, IsSeenAt, IsTurned}
use Rattle.search_forest.proofs.Further.{further-forest, looks-fewer}
use Rattle.search_forest.proofs.Left.{left-forest}
use Rattle.search_forest.proofs.See.{see-frond, see-child}

-- the path has no more places than there are vertices
pub path-short : (g : Multigraph) (visited : List Bool) (parent depth path : List ℕ) → IsOnPath g visited parent depth path → length path ≤ g.vertex_count
path-short g visited parent depth path p = elim (cases_lt g.vertex_count (length path)) [
  | inl a ↦ absurd (twice a (pigeonhole g.vertex_count (λ j. get_or path j 0) (λ j l. p.within j (omega arith))))
  | inr b ↦ b
]
  where
    twice : g.vertex_count < length path → (i j : ℕ) × (i < j) × (j < g.vertex_count + 1) × (get_or path i 0 ≡ get_or path j 0) → ⊥
    twice a (i, j, l, m, e) = absurd (omega (arith, p.deep i (omega arith), p.deep j (omega arith), ap (λ (z : ℕ). get_or depth z 0) e))

-- a number of edges at a vertex can be counted on
pub degree-fits : (g : Multigraph) → IsWithinLimits g → (v x : ℕ) → x < degree g v → x + 1 < 4294967296
degree-fits g limits v x h = omega (arith, length-incident g v, limits.few_edges)

-- the depth of the last vertex of the path can be counted on
pub depth-fits : (g : Multigraph) → IsWithinLimits g → (s : ForestState) (v : ℕ) → IsForest g s → IsLast s v → get_or s.depth v 0 + 1 < 4294967296
depth-fits g limits s v k l =
    let d : get_or s.depth v 0 ≡ l.place = ap (λ (z : ℕ). get_or s.depth z 0) (sym l.is) ∙ k.on_path.deep l.place (omega (arith, l.last)) in
    omega (arith, l.last, path-short g s.visited s.parent s.depth s.path k.on_path, limits.few_vertices)

-- the state after an edge to an ancestor was noted
pub frond-seen : (g : Multigraph) → IsGraph g → (s new : ForestState) (v e w : ℕ) → IsForest g s → IsLast s v → e < edge_count g → is_end g v e ≡ true → is_marked s.seen e ≡ false → w ≡ other_end g e v → is_marked s.visited w ≡ true → new ≡ frond_noted s v e → IsSeenAt g s new v e
frond-seen g gg s new v e w k l m i u ew h en =
    subst (λ (z : ForestState). IsSeenAt g s z v e) (sym en)
    (see-frond g gg s v e k l m i u (subst (λ (z : ℕ). is_marked s.visited z ≡ true) ew h))

-- the state after an edge to a vertex not visited before was noted
pub child-seen : (g : Multigraph) → IsGraph g → (s new : ForestState) (v e w : ℕ) → IsForest g s → IsLast s v → e < edge_count g → is_end g v e ≡ true → is_marked s.seen e ≡ false → w ≡ other_end g e v → is_marked s.visited w ≡ false → new ≡ child_noted s v e w → IsSeenAt g s new v e
child-seen g gg s new v e w k l m i u ew h en =
    subst (λ (z : ForestState). IsSeenAt g s z v e) (sym (en ∙ ap (child_noted s v e) ew))
    (see-child g gg s v e k l m i u (subst (λ (z : ℕ). is_marked s.visited z ≡ false) ew h))

-- the state after a look
pub look-turned : (g : Multigraph) (s mid new : ForestState) (v e : ℕ) → v < g.vertex_count → get_or s.position v 0 < degree g v → e ≡ get_or (incident_edges g v) (get_or s.position v 0) 0 → IsSeenAt g s mid v e → new ≡ looked_further mid v → IsTurned g s new
look-turned g s mid new v e l d ee a en = subst (IsTurned g s) (sym en) (record {
  forest = further-forest g mid v l a.forest a.on_path more seen;
  keeps = record { visited = a.keeps.visited; roots = a.keeps.roots };
  nearer = omega (arith, a.longer, fewer, same);
  one = omega (arith, a.entered, fewer, same);
})
  where
    same : looks_left g mid.position g.vertex_count ≡ looks_left g s.position g.vertex_count
    same = ap (λ (p : List ℕ). looks_left g p g.vertex_count) a.position

    at : get_or mid.position v 0 ≡ get_or s.position v 0
    at = ap (λ (p : List ℕ). get_or p v 0) a.position

    more : get_or mid.position v 0 < degree g v
    more = omega (arith, at, d)

    fewer : looks_left g (set mid.position v (get_or mid.position v 0 + 1)) g.vertex_count + 1 ≡ looks_left g mid.position g.vertex_count
    fewer = looks-fewer g mid.position v g.vertex_count l (omega (arith, l, a.forest.places.position)) more

    seen : is_marked mid.seen (get_or (incident_edges g v) (get_or mid.position v 0) 0) ≡ true
    seen = subst (λ (z : ℕ). is_marked mid.seen z ≡ true) (ee ∙ ap (λ (z : ℕ). get_or (incident_edges g v) z 0) (sym at)) a.seen

-- the state after the last vertex of the path was left
pub leave-turned : (g : Multigraph) (s new : ForestState) (v : ℕ) → IsForest g s → IsLast s v → degree g v ≤ get_or s.position v 0 → new ≡ left s → IsTurned g s new
leave-turned g s new v k l d en = subst (IsTurned g s) (sym en) (record {
  forest = left-forest g s v l.place k (record { last = l.last; here = l.is; looked = omega (arith, d, k.looked.within v vl) });
  keeps = record { visited = λ u h. h; roots = λ u h e. (h, e) };
  nearer = omega (arith, shorter, l.last);
  one = omega (arith, shorter, l.last);
})
  where
    shorter : length (take (length s.path - 1) s.path) ≡ length s.path - 1
    shorter = let le : length s.path - 1 ≤ length s.path = omega arith in length-take-le (length s.path - 1) s.path le

    vl : v < g.vertex_count
    vl = subst (λ (z : ℕ). z < g.vertex_count) l.is (k.on_path.within l.place (omega (arith, l.last)))

-- the last vertex of the path is a vertex
pub last-in : (g : Multigraph) (s : ForestState) (v : ℕ) → IsForest g s → IsLast s v → v < g.vertex_count
last-in g s v k l = subst (λ (z : ℕ). z < g.vertex_count) l.is (k.on_path.within l.place (omega (arith, l.last)))

-- the edge that is looked at next is an edge at v
pub next-edge : (g : Multigraph) (v x e : ℕ) (edges : List ℕ) → edges ≡ incident_edges g v → x < degree g v → e ≡ get_or edges x 0 → (e < edge_count g) × (is_end g v e ≡ true)
next-edge g v x e edges q l ee =
    let f : get_or (incident_edges g v) x 0 ≡ e = ap (λ (z : List ℕ). get_or z x 0) (sym q) ∙ sym ee in
    (subst (λ (z : ℕ). z < edge_count g) f (incident_at-edge g v x 0 l), subst (λ (z : ℕ). is_end g v z ≡ true) f (incident_at-end g v x 0 l))

-- the place of the next look can be counted on
pub position-fits : (g : Multigraph) → IsWithinLimits g → (s mid : ForestState) (v e : ℕ) → get_or s.position v 0 < degree g v → IsSeenAt g s mid v e → get_or mid.position v 0 + 1 < 4294967296
position-fits g limits s mid v e l a = omega (arith, degree-fits g limits v (get_or s.position v 0) l, ap (λ (p : List ℕ). get_or p v 0) a.position)
