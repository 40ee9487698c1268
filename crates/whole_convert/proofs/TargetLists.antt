-- The lists that a rotation system has around the cut vertices, set one after the other.
use Rattle.std.proofs.Common.{◌≡◌, ℕ, ◌+◌, ◌<◌, ◌≤◌, inl, inr, true, List, [], length, map, slice_index, slice_index_or, slice_set, sym, ap, ◌∙◌, subst, arith}
use Rattle.std.proofs.lemmas.Bool.{cases_eq}
use Rattle.std.proofs.lemmas.List.{length-map, length-set, get_or-map, ext_get_or, get_or-set_same, get_or-set_other}
use Rattle.permutations.specs.Members.{is_member, place_of}
use Rattle.multigraph.specs.Part.{Rises}
use Rattle.rotations.specs.Rotation.{IsCyclicOrder, IsRotationSystem}
use Rattle.whole_embed.specs.Component.{Component, BlockInPlane, component_of, IsComponentInPlane}
use Rattle.whole_embed.specs.Around.{outer_at, edges_around}
use Rattle.whole_embed.specs.Cuts.{CutState, set_around}
use Rattle.whole_embed.proofs.Assembling.{of-component}
use Rattle.whole_embed.proofs.ComponentBlocks.{numbered, subgraph}
use Rattle.whole_embed.proofs.Outer.{place-rising, round-permutation, round-first}

-- the first n lists are those of q, and the component is as it was
pub record AreTargetTo (old : CutState) (q : List (List ℕ)) (new : CutState) (n : ℕ) : Type 0 where
  pub component : new.component ≡ old.component
  pub count : length new.lists ≡ length old.lists
  pub done : (j : ℕ) → j < n → slice_index_or new.lists j [] ≡ outer_at old.component.part q (slice_index old.component.cuts j)

-- one more
pub target-more : (old : CutState) (q : List (List ℕ)) (now new : CutState) (i v : ℕ) (order : List ℕ) → Rises old.component.cuts → length old.lists ≡ length old.component.cuts → i < length old.component.cuts → AreTargetTo old q now i
    → v ≡ slice_index old.component.cuts i → order ≡ outer_at old.component.part q v → new ≡ set_around now v order → AreTargetTo old q new (i + 1)
target-more old q now new i v order rise long l h at own e = record {
  component = ap (λ (z : CutState). z.component) e ∙ h.component;
  count = ap (λ (z : CutState). length z.lists) e ∙ length-set now.lists (place_of now.component.cuts v) order ∙ h.count;
  done = λ j b. ap (λ (z : CutState). slice_index_or z.lists j []) e ∙ ap (λ p. slice_index_or (slice_set now.lists p order) j []) place ∙ elim (cases_eq j i) [
    | inl q ↦ there j q
    | inr n ↦ get_or-set_other now.lists i j order [] n ∙ h.done j (omega (arith, b, n))
  ];
}
  where
    place : place_of now.component.cuts v ≡ i
    place = ap (λ (z : Component). place_of z.cuts v) h.component ∙ ap (place_of old.component.cuts) at ∙ place-rising old.component.cuts i rise l

    there : (j : ℕ) → j ≡ i → slice_index_or (slice_set now.lists i order) j [] ≡ outer_at old.component.part q (slice_index old.component.cuts j)
    there j s = subst (λ z. slice_index_or (slice_set now.lists i order) z [] ≡ outer_at old.component.part q (slice_index old.component.cuts z)) (sym s)
        (get_or-set_same now.lists i order [] (omega (arith, l, long, h.count)) ∙ own ∙ ap (outer_at old.component.part q) at)

-- all of them
pub target-all : (old : CutState) (q : List (List ℕ)) (new : CutState) (n : ℕ) → length old.lists ≡ length old.component.cuts → length old.component.cuts ≤ n → AreTargetTo old q new n → new.lists ≡ map (outer_at old.component.part q) old.component.cuts
target-all old q new n long l h = ext_get_or [] new.lists (map (outer_at old.component.part q) old.component.cuts) (h.count ∙ long ∙ sym (length-map old.component.cuts (outer_at old.component.part q))) (λ j b.
    let m : j < length old.component.cuts = omega (arith, b, h.count, long) in
    h.done j (omega (arith, m, l)) ∙ sym (get_or-map (outer_at old.component.part q) old.component.cuts j 0 [] m))

-- the order that a rotation system has around a vertex is a cyclic order of its edges
pub round-order : (k : Component) (block : ℕ → BlockInPlane) (q : List (List ℕ)) (v : ℕ) → IsComponentInPlane k block → IsRotationSystem k.part.graph q → is_member v k.part.vertices ≡ true → IsCyclicOrder (edges_around k v) (outer_at k.part q v)
round-order k block q v w system m =
    of-component (λ (z : Component). IsRotationSystem z.part.graph q → is_member v z.part.vertices ≡ true → IsCyclicOrder (edges_around z v) (outer_at z.part q v)) k block w made system m
  where
    made : IsRotationSystem (component_of w.graph w.structure w.number).part.graph q → is_member v (component_of w.graph w.structure w.number).part.vertices ≡ true
        → IsCyclicOrder (edges_around (component_of w.graph w.structure w.number) v) (outer_at (component_of w.graph w.structure w.number).part q v)
    made s n =
        let part = (component_of w.graph w.structure w.number).part in
        let num = numbered w.graph w.structure w.number w.is_structure w.is_graph w.limits in
        let sub = subgraph w.graph w.structure w.number w.is_structure w.is_graph w.limits in
        record { arranged = round-permutation w.graph part num sub q s v n; least_first = round-first w.graph part num sub q s v n }
