-- A component is connected, so a rotation system of it is plane exactly where V - E + F is 2.
use Rattle.std.proofs.Common.{◌≡◌, ℕ, zero, suc, ◌+◌, ◌*◌, ◌<◌, inl, inr, Bool, true, ltb, List, length, slice_index, refl, sym, ap, ◌∙◌, subst, arith, add-one}
use Rattle.std.proofs.lemmas.Bool.{cases_Bool, cases_eq, cases_lt, lt-ltb, le-ltb}
use Rattle.std.proofs.lemmas.List.{get_or-map, get_or_default}
use Rattle.permutations.specs.Count.{count}
use Rattle.permutations.specs.Relation.{connected, leads}
use Rattle.permutations.specs.Members.{is_member, place_of}
use Rattle.permutations.proofs.Count.{count-ext, count-yes, count-no}
use Rattle.permutations.proofs.Leaders.{leads-from, not-leads}
use Rattle.permutations.proofs.Relation.{same-tests, connected-reflexive, connected-symmetric, connected-transitive, connected-least-typed}
use Rattle.permutations.proofs.Arrangements.{member-at}
use Rattle.permutations.proofs.Places.{place-below, place-holds}
use Rattle.dart_maps.proofs.Bond.{count-under}
use Rattle.multigraph.specs.Graph.{Multigraph, edge_count, ends_of, IsGraph, IsWithinLimits}
use Rattle.multigraph.proofs.OtherEnd.{is_end-from_first, is_end-from_second}
use Rattle.graph_theory.proofs.Connection.{ends-connected}
use Rattle.blocks.specs.Blocks.{BlockStructure, IsBlockStructure}
use Rattle.faces.specs.Euler.{face_count, component_count, IsPlane}
use Rattle.whole_embed.specs.Component.{Component, BlockInPlane, component_vertices, component_edges, component_of, IsComponentInPlane}
use Rattle.whole_embed.proofs.Outer.{place-rising}
use Rattle.whole_embed.proofs.Components.{vertices-rise, vertex-in, in-vertex, edge-component, end-component}
use Rattle.whole_embed.proofs.ComponentBlocks.{numbered}
use Rattle.whole_embed.proofs.Assembling.{of-component}

-- the number that passes after i others
nth-passing : (n : ℕ) (p : ℕ → Bool) (i : ℕ) → i < count n p → (v : ℕ) × (v < n) × (p v ≡ true) × (count v p ≡ i)
nth-passing zero p i l = absurd (omega (arith, l))
nth-passing (suc n) p i l = elim (cases_Bool (p n)) [
  | inl y ↦
      let e : count (suc n) p ≡ count n p + 1 = ap (λ z. count z p) (sym (add-one n)) ∙ count-yes n p y in
      elim (cases_eq (count n p) i) [
        | inl q ↦ (n, omega arith, y, q)
        | inr d ↦ (let w = nth-passing n p i (omega (arith, l, e, d)) in (w.0, omega (arith, w.1), w.2, w.3))
      ]
  | inr f ↦
      let e : count (suc n) p ≡ count n p = ap (λ z. count z p) (sym (add-one n)) ∙ count-no n p f in
      let w = nth-passing n p i (omega (arith, l, e)) in (w.0, omega (arith, w.1), w.2, w.3)
]

module _ (g : Multigraph) (s : BlockStructure) (c : ℕ) (is : IsBlockStructure g s) (ok : IsGraph g) (limits : IsWithinLimits g) where
  abbrev k : Component
  k = component_of g s c

  abbrev P : Multigraph
  P = k.part.graph

  abbrev V : List ℕ
  V = component_vertices s c

  abbrev E : List ℕ
  E = component_edges g s c

  abbrev pair : ℕ → ℕ × ℕ
  pair e = (place_of V (ends_of g e).0, place_of V (ends_of g e).1)

  -- the ends of an edge of the component, in its numbers
  inner-ends : (e : ℕ) → is_member e E ≡ true → ends_of P (place_of E e) ≡ (place_of V (ends_of g e).0, place_of V (ends_of g e).1)
  inner-ends e m = get_or-map pair E (place_of E e) 0 (0, 0) (place-below E e m) ∙ ap pair (place-holds E e m)

  inner-connected : (e : ℕ) → is_member e E ≡ true → connected P.ends (place_of V (ends_of g e).0) (place_of V (ends_of g e).1) ≡ true
  inner-connected e m =
      let l : place_of E e < edge_count P = omega (arith, place-below E e m, (numbered g s c is ok limits).edge_each) in
      subst (λ (z : ℕ × ℕ). connected P.ends z.0 z.1 ≡ true) (inner-ends e m) (ends-connected P (place_of E e) l)

  -- both are in the component or none, and those in it are connected in it
  abbrev Alike : ℕ → ℕ → Type 0
  Alike x y = (is_member x V ≡ is_member y V) × (is_member x V ≡ true → is_member y V ≡ true → connected P.ends (place_of V x) (place_of V y) ≡ true)

  link-alike : (e : ℕ) → e < edge_count g → Alike (ends_of g e).0 (ends_of g e).1
  link-alike e l =
      let first = is_end-from_first g (ends_of g e).0 e refl in
      let second = is_end-from_second g (ends_of g e).1 e refl in (
        same-tests (is_member (ends_of g e).0 V) (is_member (ends_of g e).1 V)
            (λ m. end-component g s c is ok e (ends_of g e).1 (edge-component g s c is ok e (ends_of g e).0 l first m) second)
            (λ m. end-component g s c is ok e (ends_of g e).0 (edge-component g s c is ok e (ends_of g e).1 l second m) first),
        λ m n. inner-connected e (edge-component g s c is ok e (ends_of g e).0 l first m),
      )

  alike : (x y : ℕ) → connected g.ends x y ≡ true → Alike x y
  alike x y h = connected-least-typed g.ends Alike
      (λ u. (refl, λ m n. connected-reflexive P.ends (place_of V u)))
      (λ u v a. (sym a.0, λ m n. connected-symmetric P.ends (place_of V u) (place_of V v) (a.1 n m)))
      (λ u v w a b. (a.0 ∙ b.0, λ m n. connected-transitive P.ends (place_of V u) (place_of V v) (place_of V w) (a.1 m (sym a.0 ∙ m)) (b.1 (sym a.0 ∙ m) n)))
      (λ e d l. subst (λ (z : ℕ × ℕ). Alike z.0 z.1) (sym (get_or_default g.ends e d (0, 0) l)) (link-alike e l))
      x y h

  -- all vertices of the component are connected with the first
  all-connected : (i : ℕ) → i < P.vertex_count → connected P.ends 0 i ≡ true
  all-connected i l =
      let h : i < length V = l in
      let z : 0 < length V = omega (arith, h) in
      let u = slice_index V 0 in
      let v = slice_index V i in
      let mu : is_member u V ≡ true = member-at V 0 0 z in
      let mv : is_member v V ≡ true = member-at V i 0 h in
      let wu = vertex-in g s c is u mu in
      let wv = vertex-in g s c is v mv in
      let a = alike u v ((is.components.same u v wu.0 wv.0).0 (wu.1 ∙ sym wv.1)) in
      subst (λ x. connected P.ends x i ≡ true) (place-rising V 0 (vertices-rise g s c is) z)
      (subst (λ x. connected P.ends (place_of V (slice_index V 0)) x ≡ true) (place-rising V i (vertices-rise g s c is) h) (a.1 mu mv))

  -- there is one
  some-vertex : c < s.component_count → 0 < P.vertex_count
  some-vertex l =
      let w = nth-passing g.vertex_count (leads (connected g.ends)) c (omega (arith, l, is.components.counted)) in
      let m : is_member w.0 V ≡ true = in-vertex g s c is w.0 w.1 (is.components.least w.0 w.1 w.2 ∙ w.3) in
      let p = place-below V w.0 m in
      omega (arith, p)

  pub one-component : c < s.component_count → component_count P ≡ 1
  one-component l = count-ext P.vertex_count (leads (connected P.ends)) (λ d. ltb d 1) (λ d h. elim (cases_lt d 1) [
    | inl t ↦ leads-from (connected P.ends) d (λ y i. absurd (omega (arith, i, t))) ∙ sym (lt-ltb d 1 t)
    | inr t ↦ not-leads (connected P.ends) d 0 (omega (arith, t)) (all-connected d h) ∙ sym (le-ltb d 1 t)
  ]) ∙ count-under P.vertex_count 1 (let z = some-vertex l in omega (arith, z))

-- a component is connected
pub component-connected : (k : Component) (block : ℕ → BlockInPlane) → IsComponentInPlane k block → component_count k.part.graph ≡ 1
component-connected k block w = of-component (λ z. component_count z.part.graph ≡ 1) k block w (one-component w.graph w.structure w.number w.is_structure w.is_graph w.limits w.within)

-- of a connected graph
pub plane-two : (g : Multigraph) (r : List (List ℕ)) → component_count g ≡ 1 → IsPlane g r → g.vertex_count + face_count g r ≡ edge_count g + 2
plane-two g r one p = p ∙ ap (λ z. edge_count g + 2 * z) one

pub two-plane : (g : Multigraph) (r : List (List ℕ)) → component_count g ≡ 1 → g.vertex_count + face_count g r ≡ edge_count g + 2 → IsPlane g r
two-plane g r one e = e ∙ ap (λ z. edge_count g + 2 * z) (sym one)
