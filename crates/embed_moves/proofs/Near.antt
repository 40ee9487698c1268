-- A bond brought to other keys by exchanges: the choices of the other nodes stay, and its own tells where that leads.
use Rattle.std.proofs.Common.{◌≡◌, ℕ, ◌<◌, true, List, length, slice_index_or, refl, sym, ap, ◌∙◌, subst, arith, IsPermutation}
use Rattle.std.proofs.lemmas.List.Sorted.{length_permutation}
use Rattle.permutations.specs.Cyclic.{from_least}
use Rattle.permutations.specs.Members.{is_member}
use Rattle.permutations.proofs.Arrangements.{permutation-member, member-at}
use Rattle.pair_split.specs.Tutte.{Node}
use Rattle.pair_split.specs.declared.components.Kind.TheVariants.{P}
use Rattle.multigraph.specs.Graph.{Multigraph}
use Rattle.skeletons.specs.Items.{node_keys}
use Rattle.faces.specs.Euler.{IsPlaneSystem}
use Rattle.skeletons.specs.Choices.{choice}
use Rattle.skeletons.specs.Moves.{permute, IsNodeOfKind, PermuteLeads}
use Rattle.skeletons.proofs.Moved.{move-others, permute-sets}
use Rattle.skeleton_runs.proofs.Contiguous.{plane-contiguous}
use Rattle.skeleton_choices.proofs.Listed.{choice-normal}
use Rattle.skel_embed.specs.Block.{BlockState, IsBlockState}
use Rattle.embed_moves.specs.Made.{IsMade, KeepsOthers}
use Rattle.embed_moves.proofs.Told.{permute-told}
use Rattle.embed_moves.proofs.Arranging.{choice-arranged}

-- a choice is as long as the list of the node's keys
pub keys-long : (s : BlockState) → IsBlockState s → (k i : ℕ) → IsNodeOfKind s.tree k P → (keys : List ℕ) → keys ≡ choice s.tree s.rotation k → i < length (node_keys s.tree k) → i < length keys
keys-long s is k i node keys e l = subst (λ (z : List ℕ). i < length z) (sym e) (omega (arith, l, length_permutation (node_keys s.tree k) (choice s.tree s.rotation k) (choice-arranged s is k node)))

-- what is in it is one of the node's keys
pub key-own : (s : BlockState) → IsBlockState s → (k i : ℕ) → IsNodeOfKind s.tree k P → (keys : List ℕ) → keys ≡ choice s.tree s.rotation k → i < length keys → is_member (slice_index_or keys i 0) (node_keys s.tree k) ≡ true
key-own s is k i node keys e l = sym (permutation-member (node_keys s.tree k) (choice s.tree s.rotation k) (slice_index_or keys i 0) (choice-arranged s is k node))
    ∙ subst (λ (z : List ℕ). is_member (slice_index_or keys i 0) z ≡ true) e (member-at keys i 0 l)

-- nothing changed
pub keeps-same : (s : BlockState) (k : ℕ) → KeepsOthers s s k
keeps-same s k = record { rest = refl; others = λ j l n. refl }

-- one change after another
pub keeps-then : (a b c : BlockState) (k : ℕ) → KeepsOthers a b k → KeepsOthers b c k → KeepsOthers a c k
keeps-then a b c k f s = record {
  rest = s.rest ∙ ap (λ (t : BlockState). record t { rotation = c.rotation; choices = c.choices }) f.rest;
  others = λ j l n. ap (λ (t : List Node). choice t c.rotation j) (sym tree) ∙ s.others j (subst (λ (t : List Node). j < length t) (sym tree) l) n
      ∙ ap (λ (t : List Node). choice t b.rotation j) tree ∙ f.others j l n;
}
  where
    tree : b.tree ≡ a.tree
    tree = ap (λ (t : BlockState). t.tree) f.rest

-- what holds of the tree holds of it after such changes
pub tree-kept : (T : List Node → Type 0) (old new : BlockState) (k : ℕ) → KeepsOthers old new k → T old.tree → T new.tree
tree-kept T old new k keeps t = subst T (sym (ap (λ (s : BlockState). s.tree) keeps.rest)) t

-- a permute of the node
pub keeps-permuted : (old new : BlockState) → IsBlockState old → (k : ℕ) → IsNodeOfKind old.tree k P → (keys : List ℕ) → PermuteLeads old.graph old.tree k keys old.rotation new.rotation
    → new ≡ record old { rotation = new.rotation; choices = new.choices } → KeepsOthers old new k
keeps-permuted old new is k node keys leads rest = record {
  rest = rest;
  others = λ j l n. move-others old.graph old.tree (permute k keys) old.rotation new.rotation is.block is.plane.system (plane-contiguous old.graph old.tree old.rotation is.block is.plane) (node, leads) j l n;
}

-- where the choice of the node is that of the keys, the permute was made
pub made-of : (old new : BlockState) → IsBlockState old → IsBlockState new → (k : ℕ) → IsNodeOfKind old.tree k P → (keys : List ℕ) → IsPermutation (node_keys old.tree k) keys → KeepsOthers old new k
    → choice old.tree new.rotation k ≡ from_least keys → IsMade (permute k keys) old new
made-of old new is now k node keys a keeps own = record {
  leads = (node, permute-told old.graph old.tree is.block old.rotation new.rotation is.plane plane k node keys a keeps.others own);
  rest = keeps.rest;
}
  where
    plane : IsPlaneSystem old.graph new.rotation
    plane = subst (λ (g : Multigraph). IsPlaneSystem g new.rotation) (ap (λ (t : BlockState). t.graph) keeps.rest) now.plane

-- the choice is the keys already
pub made-near : (old new : BlockState) → IsBlockState old → IsBlockState new → (k : ℕ) → IsNodeOfKind old.tree k P → (keys : List ℕ) → IsPermutation (node_keys old.tree k) keys → KeepsOthers old new k
    → choice new.tree new.rotation k ≡ keys → IsMade (permute k keys) old new
made-near old new is now k node keys a keeps e = made-of old new is now k node keys a keeps
    (ap (λ (t : List Node). choice t new.rotation k) (sym tree) ∙ sym (choice-normal new.graph new.tree now.block new.rotation k now.plane within).1 ∙ ap from_least e)
  where
    tree : new.tree ≡ old.tree
    tree = ap (λ (t : BlockState). t.tree) keeps.rest

    within : k < length new.tree
    within = subst (λ (t : List Node). k < length t) (sym tree) node.0

-- else its groups were all brought into their order
pub made-arranged : (old mid new : BlockState) → IsBlockState old → IsBlockState mid → IsBlockState new → (k : ℕ) → IsNodeOfKind old.tree k P → (keys : List ℕ) → IsPermutation (node_keys old.tree k) keys → KeepsOthers old mid k
    → PermuteLeads mid.graph mid.tree k keys mid.rotation new.rotation → new ≡ record mid { rotation = new.rotation; choices = new.choices } → IsMade (permute k keys) old new
made-arranged old mid new is between now k node keys a keeps leads rest = made-of old new is now k node keys a
    (keeps-then old mid new k keeps (keeps-permuted mid new between k here keys leads rest))
    (ap (λ (t : List Node). choice t new.rotation k) (sym tree)
    ∙ permute-sets mid.graph mid.tree k keys mid.rotation new.rotation between.block between.plane.system (plane-contiguous mid.graph mid.tree mid.rotation between.block between.plane) here leads)
  where
    tree : mid.tree ≡ old.tree
    tree = ap (λ (t : BlockState). t.tree) keeps.rest

    here : IsNodeOfKind mid.tree k P
    here = subst (λ (t : List Node). IsNodeOfKind t k P) (sym tree) node
