-- The mirror image of a rotation system, and the way that the orders turn.
use Rattle.std.proofs.Common.{◌≡◌, ℕ, ◌<◌, ◌≤◌, true, List, [], ◌∷◌, length, get_or, reverse, sym, ap, ◌∙◌, subst, arith}
use Rattle.permutations.specs.Cyclic.{first_or, successor, predecessor}
use Rattle.permutations.specs.Members.{is_member}
use Rattle.permutations.proofs.Members.{distinct-reverse}
use Rattle.permutations.proofs.NormalForm.{from_least-predecessor, mirror-successor}
use Rattle.permutations.proofs.Successor.{predecessor-reverse}
use Rattle.multigraph.specs.Graph.{Multigraph, incident_edges, IsGraph}
use Rattle.graph_theory.specs.Triconnected.{IsTriconnected}
use Rattle.graph_theory.proofs.Triconnected.{four-vertices}
use Rattle.contractions.proofs.Neighbours.{incident-three}
use Rattle.skel_compose.proofs.Rounds.{round-member}
use Rattle.rotations.specs.Rotation.{order_at, IsRotationSystem}
use Rattle.rotations.specs.Runs.{mirror_image}
use Rattle.faces.proofs.DartLemmas.{order-distinct}
use Rattle.faces.proofs.MapMirror.{mirror-order, mirror-system}
use Rattle.skel_embed.specs.Fan.{TurnsRight}

-- what an edge follows in the mirror image follows it in the rotation system
pub mirror-next : (g : Multigraph) (r : List (List ℕ)) → IsRotationSystem g r → (v e : ℕ) → v < g.vertex_count → predecessor (order_at r v) e ≡ successor (order_at (mirror_image r) v) e
mirror-next g r s v e l = sym (ap (λ (z : List ℕ). successor z e) (mirror-order r v) ∙ mirror-successor (order_at r v) e (order-distinct g r v s l))

-- and back
pub mirror-before : (g : Multigraph) (r : List (List ℕ)) → IsRotationSystem g r → (v e : ℕ) → v < g.vertex_count → successor (order_at r v) e ≡ predecessor (order_at (mirror_image r) v) e
mirror-before g r s v e l = sym (ap (λ (z : List ℕ). predecessor z e) (mirror-order r v) ∙ from_least-predecessor (reverse (order_at r v)) e (distinct-reverse (order_at r v) (order-distinct g r v s l)) ∙ predecessor-reverse (order_at r v) e)

-- where one turns left its mirror image turns right
pub mirror-right : (g : Multigraph) (r : List (List ℕ)) → IsRotationSystem g r → 0 < g.vertex_count → (x : ℕ) → x ≡ first_or 0 (incident_edges g 0) → predecessor (order_at r 0) x < successor (order_at r 0) x → TurnsRight (mirror_image r)
mirror-right g r s l x e h = subst (λ z. successor (order_at (mirror_image r) 0) z ≤ predecessor (order_at (mirror_image r) 0) z) (e ∙ sym ((mirror-system g r s).orders 0 l).least_first)
    (omega (arith, h, mirror-next g r s 0 x l, mirror-before g r s 0 x l))

-- where it doesn't, it turns right itself
pub own-right : (g : Multigraph) (r : List (List ℕ)) → IsRotationSystem g r → 0 < g.vertex_count → (x : ℕ) → x ≡ first_or 0 (incident_edges g 0) → successor (order_at r 0) x ≤ predecessor (order_at r 0) x → TurnsRight r
own-right g r s l x e h = subst (λ z. successor (order_at r 0) z ≤ predecessor (order_at r 0) z) (e ∙ sym (s.orders 0 l).least_first) h

-- a vertex of a triconnected graph has an edge, and the first one is in the order
pub three : (g : Multigraph) → IsGraph g → IsTriconnected g → 0 < length (incident_edges g 0)
three g ok t = let n : 3 ≤ length (incident_edges g 0) = incident-three g ok t 0 (omega (arith, four-vertices g t)) in omega (arith, n)

pub first-member : (g : Multigraph) → IsGraph g → IsTriconnected g → (r : List (List ℕ)) → IsRotationSystem g r → (edges : List ℕ) → edges ≡ incident_edges g 0 → is_member (get_or edges 0 0) (order_at r 0) ≡ true
first-member g ok t r s edges e = round-member g r s 0 (get_or edges 0 0) (omega (arith, four-vertices g t)) (ap (λ (z : List ℕ). get_or z 0 0) e) (three g ok t)

-- the first of a list
pub first-of : (l edges : List ℕ) → edges ≡ l → get_or edges 0 0 ≡ first_or 0 l
first-of [] edges e = ap (λ (z : List ℕ). get_or z 0 0) e
first-of (x ∷ l) edges e = ap (λ (z : List ℕ). get_or z 0 0) e
