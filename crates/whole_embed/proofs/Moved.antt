-- Blocks that moved in their lists: the component is one in the plane as before, and its list is the same.
use Rattle.std.proofs.Common.{◌≡◌, ℕ, inl, inr, Bool, true, List, length, refl, sym, ap, ◌∙◌, subst}
use Rattle.permutations.specs.Members.{is_member}
use Rattle.multigraph.specs.Part.{GraphPart}
use Rattle.pair_split.specs.Tutte.{Node}
use Rattle.faces.specs.Euler.{IsPlaneSystem}
use Rattle.skeletons.specs.Items.{IsBlockTree}
use Rattle.skeletons.specs.Choices.{Precedes}
use Rattle.skeletons.specs.Lists.{IsKept, KeepsChoices}
use Rattle.skel_embed.specs.Block.{lock_at}
use Rattle.multigraph.specs.Part.{IsPart}
use Rattle.blocks.specs.Blocks.{block_at}
use Rattle.whole_embed.specs.Component.{Component, BlockInPlane, component_blocks, IsComponentInPlane}
use Rattle.whole_embed.specs.Whole.{block_part, IsWholeMember, WholePrecedes, IsWholeList}

-- b is the block a with another rotation system of its list
pub record IsMovedBlock (a b : BlockInPlane) : Type 0 where
  pub part : b.part ≡ a.part
  pub nodes : b.nodes ≡ a.nodes
  pub locks : b.locks ≡ a.locks
  pub plane : IsPlaneSystem a.part.graph b.rotation
  pub keeps : KeepsChoices a.nodes (lock_at a.locks) a.rotation b.rotation

-- all blocks of the component
abbrev pub AreMoved : Component → (ℕ → BlockInPlane) → (ℕ → BlockInPlane) → Type 0
AreMoved k old new = (b : ℕ) → is_member b k.blocks ≡ true → IsMovedBlock (old b) (new b)

-- in the list of the one, in the list of the other
kept-moved : (a b : BlockInPlane) → IsMovedBlock a b → (k : Component) (q : List (List ℕ)) → IsKept a.part.graph a.nodes (lock_at a.locks) a.rotation (block_part k a.part q) → IsKept b.part.graph b.nodes (lock_at b.locks) b.rotation (block_part k b.part q)
kept-moved a b m k q h =
    subst (λ (z : GraphPart). IsKept z.graph b.nodes (lock_at b.locks) b.rotation (block_part k z q)) (sym m.part)
    (subst (λ (z : List Node). IsKept a.part.graph z (lock_at b.locks) b.rotation (block_part k a.part q)) (sym m.nodes)
    (subst (λ (z : List Bool). IsKept a.part.graph a.nodes (lock_at z) b.rotation (block_part k a.part q)) (sym m.locks)
    (record { plane = h.plane; keeps = λ j l y. h.keeps j l y ∙ sym (m.keeps j l y) })))

kept-back : (a b : BlockInPlane) → IsMovedBlock a b → (k : Component) (q : List (List ℕ)) → IsKept b.part.graph b.nodes (lock_at b.locks) b.rotation (block_part k b.part q) → IsKept a.part.graph a.nodes (lock_at a.locks) a.rotation (block_part k a.part q)
kept-back a b m k q h =
    let w : IsKept a.part.graph a.nodes (lock_at a.locks) b.rotation (block_part k a.part q) =
    subst (λ (z : List Bool). IsKept a.part.graph a.nodes (lock_at z) b.rotation (block_part k a.part q)) m.locks
    (subst (λ (z : List Node). IsKept a.part.graph z (lock_at b.locks) b.rotation (block_part k a.part q)) m.nodes
    (subst (λ (z : GraphPart). IsKept z.graph b.nodes (lock_at b.locks) b.rotation (block_part k z q)) m.part h)) in
    record { plane = w.plane; keeps = λ j l y. w.keeps j l y ∙ m.keeps j l y }

-- the order is the same
precedes-forth : (a b : BlockInPlane) → IsMovedBlock a b → (k : Component) (q r : List (List ℕ)) → Precedes a.nodes (block_part k a.part q) (block_part k a.part r) → Precedes b.nodes (block_part k b.part q) (block_part k b.part r)
precedes-forth a b m k q r h =
    subst (λ (z : GraphPart). Precedes b.nodes (block_part k z q) (block_part k z r)) (sym m.part)
    (subst (λ (z : List Node). Precedes z (block_part k a.part q) (block_part k a.part r)) (sym m.nodes) h)

same-forth : (a b : BlockInPlane) → IsMovedBlock a b → (k : Component) (q r : List (List ℕ)) → block_part k a.part q ≡ block_part k a.part r → block_part k b.part q ≡ block_part k b.part r
same-forth a b m k q r h = subst (λ (z : GraphPart). block_part k z q ≡ block_part k z r) (sym m.part) h

module _ (k : Component) (old new : ℕ → BlockInPlane) (moved : AreMoved k old new) where
  pub member-moved : (q : List (List ℕ)) → IsWholeMember k old q → IsWholeMember k new q
  member-moved q m = record { plane = m.plane; kept = λ b c. kept-moved (old b) (new b) (moved b c) k q (m.kept b c) }

  pub member-back : (q : List (List ℕ)) → IsWholeMember k new q → IsWholeMember k old q
  member-back q m = record { plane = m.plane; kept = λ b c. kept-back (old b) (new b) (moved b c) k q (m.kept b c) }

  pub precedes-moved : (q r : List (List ℕ)) → WholePrecedes k old q r → WholePrecedes k new q r
  precedes-moved q r (inl w) = inl (
    w.0,
    record {
      among = w.1.among;
      same = λ a c l. same-forth (old a) (new a) (moved a c) k q r (w.1.same a c l);
      earlier = precedes-forth (old w.0) (new w.0) (moved w.0 w.1.among) k q r w.1.earlier;
    },
  )
  precedes-moved q r (inr w) = inr (
    w.0,
    record {
      among = w.1.among;
      parts = λ b c. same-forth (old b) (new b) (moved b c) k q r (w.1.parts b c);
      same = w.1.same;
      smaller = w.1.smaller;
    },
  )

  -- the list is the same
  pub list-moved : (l : List (List (List ℕ))) → IsWholeList k old l → IsWholeList k new l
  list-moved l h = record {
    rising = λ i j d a b. precedes-moved _ _ (h.rising i j d a b);
    members = λ q. (λ c. member-moved q ((h.members q).0 c), λ m. (h.members q).1 (member-back q m));
  }

  -- the component is in the plane
  pub component-moved : IsComponentInPlane k old → IsComponentInPlane k new
  component-moved h = record {
    graph = h.graph;
    structure = h.structure;
    number = h.number;
    is_graph = h.is_graph;
    is_structure = h.is_structure;
    limits = h.limits;
    within = h.within;
    component = h.component;
    blocks = record {
      parts = λ b c. subst (λ (z : GraphPart). IsPart h.graph (block_at h.structure.blocks b) z) (sym (at b c).part) (h.blocks.parts b c);
      trees = λ b c. subst (λ (z : GraphPart). IsBlockTree z.graph (new b).nodes) (sym (at b c).part) (subst (λ (z : List Node). IsBlockTree (old b).part.graph z) (sym (at b c).nodes) (h.blocks.trees b c));
      planes = λ b c. subst (λ (z : GraphPart). IsPlaneSystem z.graph (new b).rotation) (sym (at b c).part) (at b c).plane;
      locks = λ b c. ap length (at b c).locks ∙ h.blocks.locks b c ∙ sym (ap length (at b c).nodes);
    };
  }
    where
      at : (b : ℕ) → is_member b (component_blocks h.graph h.structure h.number) ≡ true → IsMovedBlock (old b) (new b)
      at b c = moved b (subst (λ (z : Component). is_member b z.blocks ≡ true) (sym h.component) c)

-- a block that did not move
pub unmoved : (a : BlockInPlane) → IsPlaneSystem a.part.graph a.rotation → IsMovedBlock a a
unmoved a p = record { part = refl; nodes = refl; locks = refl; plane = p; keeps = λ j l y. refl }
