-- What graphs with their blocks in the plane and walks through components keep.
use Rattle.std.proofs.Common.{◌≡◌, ℕ, ◌+◌, ◌<◌, inl, inr, true, List, [], ◌∷◌, ◌++◌, length, slice_index, slice_index_or, slice_set, Contains, None, refl, sym, ap, ◌∙◌, subst, arith}
use Rattle.std.proofs.lemmas.Bool.{cases_eq}
use Rattle.std.proofs.lemmas.List.{get_or_append_left, length-append, length-set, get_or-set_same, get_or-set_other}
use Rattle.std.proofs.Math.Seq.{get_or-append_seam}
use Rattle.permutations.specs.Members.{is_member, place_of}
use Rattle.permutations.proofs.Places.{place-below, place-holds}
use Rattle.multigraph.specs.Graph.{Multigraph, IsGraph, IsWithinLimits}
use Rattle.multigraph.specs.Part.{GraphPart, IsPart}
use Rattle.rotations.specs.Rotation.{IsCyclicOrder}
use Rattle.faces.specs.Euler.{IsPlaneSystem}
use Rattle.blocks.specs.Blocks.{BlockStructure, block_at, IsBlockStructure}
use Rattle.skeletons.specs.Items.{IsBlockTree}
use Rattle.arrangements.proofs.Laws.{arrangements_are_listed}
use Rattle.whole_embed.specs.declared.members.Member.{Member}
use Rattle.whole_embed.specs.Component.{Component, BlockInPlane, component_of, AreInPlane, IsComponentInPlane}
use Rattle.whole_embed.specs.Around.{edges_around, block_with, block_order, arrangements_around}
use Rattle.whole_embed.specs.Cuts.{CutState, no_part, in_plane, member_at, blocks_in, HavePlanes, set_around}
use Rattle.whole_embed.specs.Keeping.{AreFirstTo}
use Rattle.whole_embed.proofs.Components.{block-in}
use Rattle.whole_embed.proofs.Assembly.{assembled}
use Rattle.whole_embed.proofs.Advance.{set-here, set-there}
use Rattle.whole_embed.proofs.WalkSteps.{arranged-first}
use Rattle.embed_tests.specs.Wholes.{IsPlaneMember, ArePlaneMembers, KeepsPlane, AreReady}

-- no member yet
pub members-none : (g : Multigraph) (blocks : List (List ℕ)) → ArePlaneMembers g blocks 0 []
members-none g blocks = record { each = refl; is = λ b l. absurd (omega (arith, l)) }

-- and one more
pub members-more : (g : Multigraph) (blocks : List (List ℕ)) (n : ℕ) (all more : List Member) (m : Member) → ArePlaneMembers g blocks n all → IsPlaneMember g (block_at blocks n) m → more ≡ all ++ m ∷ [] → ArePlaneMembers g blocks (n + 1) more
members-more g blocks n all more m f is e = subst (ArePlaneMembers g blocks (n + 1)) (sym e) (record {
  each = omega (arith, length-append all (m ∷ []), f.each);
  is = λ b l. elim (cases_eq b n) [
    | inl q ↦ subst (λ (k : ℕ). IsPlaneMember g (block_at blocks k) (member_at (all ++ m ∷ []) k)) (sym q) (subst (IsPlaneMember g (block_at blocks n)) (sym (last n f.each)) is)
    | inr apart ↦ subst (IsPlaneMember g (block_at blocks b)) (sym (get_or_append_left all (m ∷ []) none b (omega (arith, l, apart, f.each)))) (f.is b (omega (arith, l, apart)))
  ];
})
  where
    none : Member
    none = record { part = no_part; plane = None }

    last : (k : ℕ) → length all ≡ k → member_at (all ++ m ∷ []) k ≡ m
    last k c = subst (λ (k : ℕ). member_at (all ++ m ∷ []) k ≡ m) c (get_or-append_seam all m [] none)

-- a block that keeps its part and its graph
pub member-kept : (g : Multigraph) (edges : List ℕ) (old new : Member) → IsPlaneMember g edges old → KeepsPlane old new → IsPlaneMember g edges new
member-kept g edges old new is k =
    let w = k.plane is.state is.plane in
    record {
      part = subst (IsPart g edges) (sym k.part) is.part;
      state = w.0;
      plane = w.1;
      graph = w.2 ∙ (is.graph ∙ sym (ap (λ (z : GraphPart). z.graph) k.part));
      is_state = w.3;
    }

-- among the others
pub members-set : (g : Multigraph) (blocks : List (List ℕ)) (n : ℕ) (all : List Member) (b : ℕ) (m : Member) → ArePlaneMembers g blocks n all → b < length all → KeepsPlane (member_at all b) m → ArePlaneMembers g blocks n (slice_set all b m)
members-set g blocks n all b m f within k = record {
  each = length-set all b m ∙ f.each;
  is = λ c l. elim (cases_eq c b) [
    | inl q ↦ subst (λ (z : ℕ). IsPlaneMember g (block_at blocks z) (member_at (slice_set all b m) z)) (sym q)
        (subst (IsPlaneMember g (block_at blocks b)) (sym (set-here all b m within)) (member-kept g (block_at blocks b) (member_at all b) m (f.is b (omega (arith, within, f.each))) k))
    | inr d ↦ subst (IsPlaneMember g (block_at blocks c)) (sym (set-there all b c m d)) (f.is c l)
  ];
}

module _ (g : Multigraph) (s : BlockStructure) (c : ℕ) (is : IsBlockStructure g s) (all : List Member) (f : ArePlaneMembers g s.blocks (length s.blocks) all) where
  -- a block of the component
  at : (b : ℕ) → is_member b (component_of g s c).blocks ≡ true → IsPlaneMember g (block_at s.blocks b) (member_at all b)
  at b m = f.is b (block-in g s c is b m).0

  -- as a block in the plane
  view : (b : ℕ) (m : is_member b (component_of g s c).blocks ≡ true) → blocks_in all b ≡ record { part = (member_at all b).part; nodes = (at b m).state.tree; rotation = (at b m).state.rotation; locks = (at b m).state.locks }
  view b m = ap (in_plane (member_at all b).part) (at b m).plane

  -- the blocks of the component are in the plane
  pub in-plane : AreInPlane g s c (blocks_in all)
  in-plane = record {
    parts = λ b m. subst (λ (z : BlockInPlane). IsPart g (block_at s.blocks b) z.part) (sym (view b m)) (at b m).part;
    trees = λ b m. subst (λ (z : BlockInPlane). IsBlockTree z.part.graph z.nodes) (sym (view b m)) (subst (λ (z : Multigraph). IsBlockTree z (at b m).state.tree) (at b m).graph (at b m).is_state.block);
    planes = λ b m. subst (λ (z : BlockInPlane). IsPlaneSystem z.part.graph z.rotation) (sym (view b m)) (subst (λ (z : Multigraph). IsPlaneSystem z (at b m).state.rotation) (at b m).graph (at b m).is_state.plane);
    locks = λ b m. subst (λ (z : BlockInPlane). length z.locks ≡ length z.nodes) (sym (view b m)) (at b m).is_state.locks;
  }

  pub have-planes : HavePlanes (component_of g s c) all
  have-planes = record {
    within = λ b m. omega (arith, (block-in g s c is b m).0, f.each);
    plane = λ b m. ((at b m).state, (at b m).plane, (at b m).graph);
  }

  -- with first arrangements it is ready
  pub ready-first : (cuts : CutState) → IsGraph g → IsWithinLimits g → c < s.component_count → cuts.component ≡ component_of g s c → AreFirstTo cuts.component (blocks_in all) cuts.lists (length cuts.component.cuts)
      → length cuts.lists ≡ length cuts.component.cuts → AreReady cuts all
  ready-first cuts ok limits less e first each = record {
    component = comp;
    planes = subst (λ (k : Component). HavePlanes k all) (sym e) have-planes;
    arranged = arranged-first cuts.component (blocks_in all) comp cuts.lists cuts.lists each (record { count = refl; first = λ j a b. first j b; before = λ j a. absurd (omega (arith, a)) });
  }
    where
      comp : IsComponentInPlane cuts.component (blocks_in all)
      comp = record {
        graph = g;
        structure = s;
        number = c;
        is_graph = ok;
        limits = limits;
        is_structure = is;
        within = less;
        component = e;
        blocks = in-plane;
      }

-- another arrangement at a cut vertex
pub ready-set : (cuts : CutState) (all : List Member) (v : ℕ) (l : List ℕ) → AreReady cuts all → is_member v cuts.component.cuts ≡ true → Contains (arrangements_around cuts.component (blocks_in all) v) l → AreReady (set_around cuts v l) all
ready-set cuts all v l h m has = record {
  component = h.component;
  planes = h.planes;
  arranged = record {
    one_each = length-set cuts.lists place l ∙ h.arranged.one_each;
    each = λ i less. elim (cases_eq i place) [
      | inl q ↦ subst (λ (z : ℕ). Contains (around (slice_index cuts.component.cuts z)) (slice_index_or (slice_set cuts.lists place l) z [])) (sym q)
          (subst (λ (z : ℕ). Contains (around z) (slice_index_or (slice_set cuts.lists place l) place [])) (sym (place-holds cuts.component.cuts v m))
          (subst (Contains (around v)) (sym (get_or-set_same cuts.lists place l [] within)) has))
      | inr d ↦ subst (Contains (around (slice_index cuts.component.cuts i))) (sym (get_or-set_other cuts.lists place i l [] d)) (h.arranged.each i less)
    ];
  };
}
  where
    place : ℕ
    place = place_of cuts.component.cuts v

    around : ℕ → List (List ℕ)
    around z = arrangements_around cuts.component (blocks_in all) z

    within : place < length cuts.lists
    within = omega (arith, place-below cuts.component.cuts v m, h.arranged.one_each)

-- the list that was set
pub set-list : (cuts : CutState) (all : List Member) (v i : ℕ) (l : List ℕ) → AreReady cuts all → is_member v cuts.component.cuts ≡ true → i ≡ place_of cuts.component.cuts v → slice_index_or (set_around cuts v l).lists i [] ≡ l
set-list cuts all v i l h m e = ap (λ (z : ℕ). slice_index_or (set_around cuts v l).lists z []) e ∙ get_or-set_same cuts.lists (place_of cuts.component.cuts v) l [] (omega (arith, place-below cuts.component.cuts v m, h.arranged.one_each))

-- an arrangement is a cyclic order
pub arrangement-cyclic : (cuts : CutState) (all : List Member) (v : ℕ) (l : List ℕ) → AreReady cuts all → is_member v cuts.component.cuts ≡ true → Contains (arrangements_around cuts.component (blocks_in all) v) l → IsCyclicOrder (edges_around cuts.component v) l
arrangement-cyclic cuts all v l h m has =
    let k = cuts.component in
    let block = blocks_in all in
    let made = assembled k block h.component in
    let a = ((arrangements_are_listed (block_with k) (block_order block v) (edges_around k v) (made.orders v (made.cuts_in v m))).exactly l).0 has in
    record { arranged = a.all; least_first = a.least_first }
