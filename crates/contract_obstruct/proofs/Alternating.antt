-- The K3,3 where edges that lead from x and edges that lead to neighbours of y alternate around the merged vertex of a level.
use Rattle.std.proofs.Common.{◌≡◌, ℕ, ◌<◌, ◌≤◌, inl, inr, Bool, true, false, if◌then◌else◌, List, [], ◌∷◌, ◌++◌, length, map, reverse, refl, sym, ap, ◌∙◌, subst}
use Rattle.std.proofs.lemmas.Bool.{cases_Bool, both_ways, or_left, or_right}
use Rattle.permutations.specs.Members.{is_member}
use Rattle.permutations.proofs.Members.{member-head, member-tail, member-cases, member-append_left, member-append_right, member-reverse}
use Rattle.permutations.proofs.Turned.{IsTurn-member}
use Rattle.multigraph.specs.Graph.{Multigraph, edge_count, is_end, other_end, max_darts}
use Rattle.multigraph.proofs.OtherEnd.{end-in}
use Rattle.rotations.specs.Rotation.{order_at, IsRotationSystem}
use Rattle.rotations.proofs.Membership.{member-edge, member-end}
use Rattle.faces.specs.Euler.{dart_count, dart_from, IsPlane}
use Rattle.faces.proofs.DartLemmas.{dart_from-below, member-incident}
use Rattle.contractions.specs.Contracted.{contracted_vertex}
use Rattle.kuratowski.specs.declared.subdivision.Pattern.TheVariants.{K33}
use Rattle.kuratowski.specs.Subdivision.{IsSubdivision}
use Rattle.planarity.specs.Circle.{arc_edges, six_paths}
use Rattle.planarity.proofs.Found.{IsSpoke}
use Rattle.planarity.proofs.FoundCircle.{IsTip, tip-first, tip-second, tip-either, four-found}
use Rattle.contractions.specs.Level.{IsLevel, contraction, edge_before}
use Rattle.contract_obstruct.specs.Steps.{AreSteps}
use Rattle.contract_obstruct.specs.Sectors.{LeadsOut}
use Rattle.contract_obstruct.specs.Crossing.{near_end, part_of, listed, AreCrossing, AreEdges, crossing_paths, crossing_branch, IsClosing}
use Rattle.contract_obstruct.specs.declared.crossing.Sector.{Sector}
use Rattle.contract_obstruct.specs.declared.crossing.Sectors.{Sectors}
use Rattle.contractions.specs.declared.level.Level.{Level}
use Rattle.contractions.proofs.LevelFacts.{level-contraction, level-graph, level-triconnected}
use Rattle.contract_obstruct.proofs.ArcsTold.{arcs-told}
use Rattle.contract_obstruct.proofs.OneSystem.{around-in}

-- darts of edges are darts
mapped-below : (h : Multigraph) (w : ℕ) (l : List ℕ) → ((i : ℕ) → is_member i l ≡ true → i < edge_count h) → (z : ℕ) → is_member z (map (dart_from h w) l) ≡ true → z < dart_count h
mapped-below h w [] f z m = absurd (both_ways false refl m)
mapped-below h w (i ∷ l) f z m = elim (member-cases z (dart_from h w i) (map (dart_from h w) l) m) [
  | inl e ↦ subst (λ u. u < dart_count h) e (dart_from-below h w i (f i (member-head i l)))
  | inr r ↦ mapped-below h w l (λ j q. f j (member-tail j i l q)) z r
]

module _ (level : Level) (k : IsLevel level) where
  abbrev g : Multigraph
  g = level.graph

  abbrev h : Multigraph
  h = contraction level

  abbrev w : ℕ
  w = contracted_vertex level.x level.y level.x

  abbrev Tip : ℕ → ℕ → Type 0
  Tip i p = IsTip g h level.edge level.x level.y (edge_before level) (contracted_vertex level.x level.y) k.graph (level-graph level k) (level-contraction level k) i p

  pub first : (i : ℕ) → i < edge_count h → is_end g level.x (edge_before level i) ≡ true → Tip i (other_end g (edge_before level i) level.x) × IsSpoke g level.x (other_end g (edge_before level i) level.x) (edge_before level i)
  first i l t = tip-first g h level.edge level.x level.y (edge_before level) (contracted_vertex level.x level.y) k.graph (level-graph level k) (level-contraction level k) i l t

  second : (i : ℕ) → i < edge_count h → is_end g level.y (edge_before level i) ≡ true → Tip i (other_end g (edge_before level i) level.y) × IsSpoke g level.y (other_end g (edge_before level i) level.y) (edge_before level i)
  second i l t = tip-second g h level.edge level.x level.y (edge_before level) (contracted_vertex level.x level.y) k.graph (level-graph level k) (level-contraction level k) i l t

  other : (i : ℕ) → i < edge_count h → is_end h w i ≡ true → is_end g level.x (edge_before level i) ≡ false → is_end g level.y (edge_before level i) ≡ true
  other i l t n = tip-either g h level.edge level.x level.y (edge_before level) (contracted_vertex level.x level.y) k.graph (level-graph level k) (level-contraction level k) i l t n

  -- an edge at the merged vertex was an edge at x or at y
  pub edge-out : (i : ℕ) → i < edge_count h → is_end h w i ≡ true → LeadsOut level i
  edge-out i l t = record {
    is_edge = (level-contraction level k).edges i l;
    leaves = elim (cases_Bool (is_end g level.x (edge_before level i))) [
      | inl p ↦ or_left (is_end g level.x (edge_before level i)) (is_end g level.y (edge_before level i)) p
      | inr p ↦ or_right (is_end g level.x (edge_before level i)) (is_end g level.y (edge_before level i)) (other i l t p)
    ];
  }

  w_in : w < h.vertex_count
  w_in = (level-contraction level k).vertices level.x (end-in g level.x level.edge k.graph k.oriented.edge_in k.oriented.first_end)

  -- the edges around the merged vertex
  pub round-in : (s : List (List ℕ)) → IsRotationSystem h s → (i : ℕ) → is_member i (order_at s w) ≡ true → (i < edge_count h) × (is_end h w i ≡ true)
  round-in s rot i m = let q = member-incident h s w i rot w_in m in (member-edge h w i q, member-end h w i q)

  -- where an edge at it leads, named as the near end
  near-tip : (i : ℕ) → i < edge_count h → is_end h w i ≡ true → Tip i (near_end g level.x level.y (edge_before level i))
  near-tip i l t = elim (cases_Bool (is_end g level.y (edge_before level i))) [
    | inl q ↦ subst (Tip i) (sym (ap (λ (b : Bool). if b then other_end g (edge_before level i) level.y else other_end g (edge_before level i) level.x) q)) (second i l q).0
    | inr q ↦ elim (cases_Bool (is_end g level.x (edge_before level i))) [
      | inl p ↦ subst (Tip i) (sym (ap (λ (b : Bool). if b then other_end g (edge_before level i) level.y else other_end g (edge_before level i) level.x) q)) (first i l p).0
      | inr p ↦ absurd (both_ways (is_end g level.y (edge_before level i)) q (other i l t p))
    ]
  ]

  module _ (s : List (List ℕ)) (next : List ℕ) (are : AreSteps h s next) where
    -- a part of the circle, by the steps
    pub part-told : (i : ℕ) (passed : List ℕ) → AreEdges h i passed → part_of h next w i passed ≡ arc_edges h s (map (dart_from h w) (i ∷ reverse passed))
    part-told i passed l = arcs-told h s next (level-graph level k) are (map (dart_from h w) (i ∷ reverse passed)) (mapped-below h w (i ∷ reverse passed) l)

    module _ (plane : IsPlane h s) (sectors : Sectors) (cross : AreCrossing level next sectors) where
      abbrev a : Sector
      a = sectors.left

      abbrev b : Sector
      b = sectors.near

      abbrev c : Sector
      c = sectors.right

      abbrev d : Sector
      d = sectors.far

      abbrev Among : List ℕ → Type 0
      Among l = (z : ℕ) → is_member z l ≡ true → (z < edge_count h) × (is_end h w z ≡ true)

      among : Among (listed a ++ (listed b ++ (listed c ++ listed d)))
      among z m = round-in s are.system z (sym (IsTurn-member (order_at s w) (listed a ++ (listed b ++ (listed c ++ listed d))) z (around-in level next (listed a ++ (listed b ++ (listed c ++ listed d))) cross.around s are)) ∙ m)

      in_a : Among (listed a)
      in_a z m = among z (member-append_left z (listed a) (listed b ++ (listed c ++ listed d)) m)

      in_b : Among (listed b)
      in_b z m = among z (member-append_right z (listed a) (listed b ++ (listed c ++ listed d)) (member-append_left z (listed b) (listed c ++ listed d) m))

      in_c : Among (listed c)
      in_c z m = among z (member-append_right z (listed a) (listed b ++ (listed c ++ listed d)) (member-append_right z (listed b) (listed c ++ listed d) (member-append_left z (listed c) (listed d) m)))

      in_d : Among (listed d)
      in_d z m = among z (member-append_right z (listed a) (listed b ++ (listed c ++ listed d)) (member-append_right z (listed b) (listed c ++ listed d) (member-append_right z (listed c) (listed d) m)))

      edges : (p q : Sector) → Among (listed p) → Among (listed q) → AreEdges h p.first q.behind.items
      edges p q u v z m = elim (member-cases z p.first (reverse q.behind.items) m) [
        | inl e ↦ subst (λ i. i < edge_count h) e (u p.first (member-head p.first p.behind.items)).0
        | inr r ↦ (v z (member-tail z q.first q.behind.items (sym (member-reverse z q.behind.items) ∙ r))).0
      ]

      -- the edges alternate, so there is a subdivision
      crossing-found : (near : ℕ) → near < edge_count g → is_end g level.y near ≡ true → other_end g near level.y ≡ near_end g level.x level.y (edge_before level b.first)
          → IsSubdivision g K33 (crossing_branch level sectors) (crossing_paths level h next sectors near)
      crossing-found near l t e =
          let ia = in_a a.first (member-head a.first a.behind.items) in
          let ib = in_b b.first (member-head b.first b.behind.items) in
          let jc = in_c c.first (member-head c.first c.behind.items) in
          let jd = in_d d.first (member-head d.first d.behind.items) in
          let ta = first a.first ia.0 cross.leads.left in
          let tc = first c.first jc.0 cross.leads.right in
          let td = second d.first jd.0 (other d.first jd.0 jd.1 cross.leads.far) in
          subst (IsSubdivision g K33 (crossing_branch level sectors))
          (sym (λ i. six_paths g level.edge (edge_before level) (other_end g (edge_before level d.first) level.y) (other_end g (edge_before level c.first) level.x) (near_end g level.x level.y (edge_before level b.first)) (other_end g (edge_before level a.first) level.x)
          (edge_before level d.first) (edge_before level c.first) near (edge_before level a.first) (part-told d.first c.behind.items (edges d c in_d in_c) i) (part-told c.first b.behind.items (edges c b in_c in_b) i) (part-told b.first a.behind.items (edges b a in_b in_a) i) (part-told a.first d.behind.items (edges a d in_a in_d) i)))
          (four-found g h level.edge level.x level.y (edge_before level) (contracted_vertex level.x level.y) k.graph (level-graph level k) (level-contraction level k) s are.system plane (level-triconnected level k)
          a.first b.first c.first d.first a.behind.items b.behind.items c.behind.items d.behind.items (around-in level next (listed a ++ (listed b ++ (listed c ++ listed d))) cross.around s are)
          (other_end g (edge_before level a.first) level.x) (near_end g level.x level.y (edge_before level b.first)) (other_end g (edge_before level c.first) level.x) (other_end g (edge_before level d.first) level.y)
          ta.0 (near-tip b.first ib.0 ib.1) tc.0 td.0 (edge_before level a.first) near (edge_before level c.first) (edge_before level d.first) ta.1 (record { is_edge = l; leaves = t; arrives = e }) tc.1 td.1)

      -- with an edge from y to where the near sector begins
      pub closing : length next ≤ max_darts → (near : ℕ) → near < edge_count g → is_end g level.y near ≡ true → other_end g near level.y ≡ near_end g level.x level.y (edge_before level b.first)
          → IsClosing level h next sectors near
      closing few near l t e = record {
        few = few;
        leads = cross.leads;
        far_right = edges d c in_d in_c;
        right_near = edges c b in_c in_b;
        near_left = edges b a in_b in_a;
        left_far = edges a d in_a in_d;
        subdivision = crossing-found near l t e;
      }
