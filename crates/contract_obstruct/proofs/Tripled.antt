-- The K5 where three edges round the merged vertex of a level lead to common neighbours.
use Rattle.std.proofs.Common.{◌≡◌, ℕ, ◌<◌, inl, inr, true, List, ◌++◌, reverse, sym, ◌∙◌, subst}
use Rattle.permutations.specs.Members.{is_member}
use Rattle.permutations.proofs.Members.{member-head, member-tail, member-cases, member-append_left, member-append_right, member-reverse}
use Rattle.permutations.proofs.Turned.{IsTurn-member}
use Rattle.multigraph.specs.Graph.{Multigraph, edge_count, is_end, other_end}
use Rattle.rotations.specs.Rotation.{order_at}
use Rattle.faces.specs.Euler.{IsPlane}
use Rattle.contractions.specs.Contracted.{contracted_vertex}
use Rattle.kuratowski.specs.declared.subdivision.Pattern.TheVariants.{K5}
use Rattle.kuratowski.specs.Subdivision.{IsSubdivision}
use Rattle.planarity.specs.Circle.{five_paths}
use Rattle.planarity.proofs.Found.{IsSpoke}
use Rattle.planarity.proofs.FoundCircle.{three-found}
use Rattle.contractions.specs.Level.{IsLevel, contraction, edge_before}
use Rattle.contract_obstruct.specs.Steps.{AreSteps}
use Rattle.contract_obstruct.specs.Crossing.{listed, AreEdges}
use Rattle.contract_obstruct.specs.Triple.{tip, AreTriple, triple_branch, triple_paths}
use Rattle.contractions.specs.declared.level.Level.{Level}
use Rattle.contract_obstruct.specs.declared.crossing.Sector.{Sector}
use Rattle.contractions.proofs.LevelFacts.{level-contraction, level-graph, level-triconnected}
use Rattle.contract_obstruct.proofs.Alternating.{round-in, first, part-told}
use Rattle.contract_obstruct.proofs.OneSystem.{around-in}

-- the edge f leads from y to where the first edge of the sector leads
pub record ToTip (level : Level) (sector : Sector) (f : ℕ) : Type 0 where
  pub within : f < edge_count level.graph
  pub leaves : is_end level.graph level.y f ≡ true
  pub arrives : other_end level.graph f level.y ≡ tip level sector

module _ (level : Level) (k : IsLevel level) (s : List (List ℕ)) (next : List ℕ) (are : AreSteps (contraction level) s next) (plane : IsPlane (contraction level) s)
    (a b c : Sector) (triple : AreTriple level next a b c) where
  abbrev h : Multigraph
  h = contraction level

  abbrev Among : List ℕ → Type 0
  Among l = (z : ℕ) → is_member z l ≡ true → z < edge_count h

  among : Among (listed a ++ (listed b ++ listed c))
  among z m = (round-in level k s are.system z (sym (IsTurn-member (order_at s (contracted_vertex level.x level.y level.x)) (listed a ++ (listed b ++ listed c)) z (around-in level next (listed a ++ (listed b ++ listed c)) triple.around s are)) ∙ m)).0

  pub among_a : Among (listed a)
  among_a z m = among z (member-append_left z (listed a) (listed b ++ listed c) m)

  pub among_b : Among (listed b)
  among_b z m = among z (member-append_right z (listed a) (listed b ++ listed c) (member-append_left z (listed b) (listed c) m))

  pub among_c : Among (listed c)
  among_c z m = among z (member-append_right z (listed a) (listed b ++ listed c) (member-append_right z (listed b) (listed c) m))

  pub edges_of : (p q : Sector) → Among (listed p) → Among (listed q) → AreEdges h p.first q.behind.items
  edges_of p q u v z m = elim (member-cases z p.first (reverse q.behind.items) m) [
    | inl e ↦ subst (λ i. i < edge_count h) e (u p.first (member-head p.first p.behind.items))
    | inr r ↦ v z (member-tail z q.first q.behind.items (sym (member-reverse z q.behind.items) ∙ r))
  ]

  spoke : (p : Sector) (f : ℕ) → ToTip level p f → IsSpoke level.graph level.y (tip level p) f
  spoke p f t = record { is_edge = t.within; leaves = t.leaves; arrives = t.arrives }

  -- so there is a subdivision
  pub triple-found : (to_a to_b to_c : ℕ) → ToTip level a to_a → ToTip level b to_b → ToTip level c to_c
      → IsSubdivision level.graph K5 (triple_branch level a b c) (triple_paths level h next a b c to_a to_b to_c)
  triple-found to_a to_b to_c sa sb sc =
      let ta = first level k a.first (among_a a.first (member-head a.first a.behind.items)) triple.first.leaves in
      let tb = first level k b.first (among_b b.first (member-head b.first b.behind.items)) triple.second.leaves in
      let tc = first level k c.first (among_c c.first (member-head c.first c.behind.items)) triple.third.leaves in
      subst (IsSubdivision level.graph K5 (triple_branch level a b c))
      (sym (λ i. five_paths level.graph level.edge (edge_before level) (tip level c) (tip level b) (tip level a) (edge_before level c.first) (edge_before level b.first) (edge_before level a.first) to_c to_b to_a
      (part-told level k s next are c.first b.behind.items (edges_of c b among_c among_b) i) (part-told level k s next are b.first a.behind.items (edges_of b a among_b among_a) i) (part-told level k s next are a.first c.behind.items (edges_of a c among_a among_c) i)))
      (three-found level.graph h level.edge level.x level.y (edge_before level) (contracted_vertex level.x level.y) k.graph (level-graph level k) (level-contraction level k) s are.system plane (level-triconnected level k)
      a.first b.first c.first a.behind.items b.behind.items c.behind.items (around-in level next (listed a ++ (listed b ++ listed c)) triple.around s are) (tip level a) (tip level b) (tip level c) ta.0 tb.0 tc.0
      (edge_before level a.first) (edge_before level b.first) (edge_before level c.first) to_a to_b to_c ta.1 tb.1 tc.1 (spoke a to_a sa) (spoke b to_b sb) (spoke c to_c sc))
