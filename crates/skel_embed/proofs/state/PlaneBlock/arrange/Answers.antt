use Rattle.std.proofs.Common.{◌≡◌, ◌<◌, ℕ, List, [], length, slice_index_or, slice_set, sym, ap, ◌∙◌, subst, IsPermutation}
use Rattle.permutations.specs.Cyclic.{from_least}
use Rattle.pair_split.specs.declared.components.Kind.TheVariants.{P}
use Rattle.skeletons.specs.Items.{node_keys}
use Rattle.skeletons.specs.Moves.{IsNodeOfKind, PermuteLeads}
use Rattle.skel_embed.specs.Block.{BlockState, IsBlockState}
use Rattle.skel_embed.specs.Flat.{lists_in, AreFlat}
use Rattle.skel_embed.specs.declared.state.Frame.{Frame}
use Rattle.skel_embed.proofs.States.{kept-written, kept-within, kept-arranged, state-arranged}
use Rattle.skel_embed.proofs.state.PlaneBlock.arrange.Goals as goal

pub arrange_choice-requires-clause-flat : goal.arrange_choice-requires-clause-flat
arrange_choice-requires-clause-flat c =
    let keys = c.self.inside.keys.items in
    let same : c.as_slice.result.now ≡ c.self.inside.frame.value.ends.items = c.as_slice.ensures.value ∙ ap (λ (z : Frame). z.ends.items) c.as_ref-frame.ensures in
    subst (λ (z : List ℕ). AreFlat (lists_in keys z) keys z) (sym same) c.self.invariant.1

pub arrange_choice-requires-clause-node : goal.arrange_choice-requires-clause-node
arrange_choice-requires-clause-node c =
    let s : BlockState = record { graph = c.self.inside.frame.value.graph; tree = c.self.inside.frame.value.tree; rotation = c.self.inside.rotation; choices = lists_in c.self.inside.keys.items c.self.inside.frame.value.ends.items; locks = c.self.inside.locks.items } in
    let node = subst (λ (z : BlockState). IsNodeOfKind z.tree c.args.k P) (sym c.self.view_is) c.requires.node in
    let keys = c.self.inside.keys.items in
    let same : c.as_slice.result.now ≡ c.self.inside.frame.value.ends.items = c.as_slice.ensures.value ∙ ap (λ (z : Frame). z.ends.items) c.as_ref-frame.ensures in
    subst (λ (z : List ℕ). c.args.k < length (lists_in keys z)) (sym same) (kept-within s c.self.invariant.0 c.args.k node.0)

pub arrange_choice-requires-clause-written : goal.arrange_choice-requires-clause-written
arrange_choice-requires-clause-written c =
    let s : BlockState = record { graph = c.self.inside.frame.value.graph; tree = c.self.inside.frame.value.tree; rotation = c.self.inside.rotation; choices = lists_in c.self.inside.keys.items c.self.inside.frame.value.ends.items; locks = c.self.inside.locks.items } in
    let node = subst (λ (z : BlockState). IsNodeOfKind z.tree c.args.k P) (sym c.self.view_is) c.requires.node in
    let keys = c.self.inside.keys.items in
    let same : c.as_slice.result.now ≡ c.self.inside.frame.value.ends.items = c.as_slice.ensures.value ∙ ap (λ (z : Frame). z.ends.items) c.as_ref-frame.ensures in
    subst (λ (z : List ℕ). from_least (slice_index_or (lists_in keys z) c.args.k []) ≡ slice_index_or (lists_in keys z) c.args.k []) (sym same) (kept-written s c.self.invariant.0 c.args.k node.0)

pub arrange_choice-requires-clause-arrangement : goal.arrange_choice-requires-clause-arrangement
arrange_choice-requires-clause-arrangement c =
    let s : BlockState = record { graph = c.self.inside.frame.value.graph; tree = c.self.inside.frame.value.tree; rotation = c.self.inside.rotation; choices = lists_in c.self.inside.keys.items c.self.inside.frame.value.ends.items; locks = c.self.inside.locks.items } in
    let node = subst (λ (z : BlockState). IsNodeOfKind z.tree c.args.k P) (sym c.self.view_is) c.requires.node in
    let keys = c.self.inside.keys.items in
    let same : c.as_slice.result.now ≡ c.self.inside.frame.value.ends.items = c.as_slice.ensures.value ∙ ap (λ (z : Frame). z.ends.items) c.as_ref-frame.ensures in
    subst (λ (z : List ℕ). IsPermutation (slice_index_or (lists_in keys z) c.args.k []) c.args.keys.now) (sym same)
    (kept-arranged s c.self.invariant.0 c.args.k c.args.keys.now node (subst (λ (z : BlockState). IsPermutation (node_keys z.tree c.args.k) c.args.keys.now) (sym c.self.view_is) c.requires.arrangement))

pub invariant_of-self : goal.invariant_of-self
invariant_of-self c =
    let s : BlockState = record { graph = c.self.inside.frame.value.graph; tree = c.self.inside.frame.value.tree; rotation = c.self.inside.rotation; choices = lists_in c.self.inside.keys.items c.self.inside.frame.value.ends.items; locks = c.self.inside.locks.items } in
    let node = subst (λ (z : BlockState). IsNodeOfKind z.tree c.args.k P) (sym c.self.view_is) c.requires.node in
    let keys = c.self.inside.keys.items in
    let same : c.as_slice.result.now ≡ c.self.inside.frame.value.ends.items = c.as_slice.ensures.value ∙ ap (λ (z : Frame). z.ends.items) c.as_ref-frame.ensures in
    let leads : PermuteLeads s.graph s.tree c.args.k c.args.keys.now s.rotation c.arrange_node.new.r = subst (λ (z : Frame). PermuteLeads z.graph z.tree c.args.k c.args.keys.now s.rotation c.arrange_node.new.r) c.as_ref-frame.ensures c.arrange_node.ensures in
    let new = c.arrange_choice.new.keys.items in
    let is : lists_in new c.self.inside.frame.value.ends.items ≡ slice_set s.choices c.args.k (from_least c.args.keys.now) =
    subst (λ (z : List ℕ). lists_in new z ≡ slice_set (lists_in keys z) c.args.k (from_least c.args.keys.now)) same c.arrange_choice.ensures.arranged in (
      subst (λ (z : List (List ℕ)). IsBlockState (record { graph = s.graph; tree = s.tree; rotation = c.arrange_node.new.r; choices = z; locks = s.locks })) (sym is)
          (state-arranged s c.self.invariant.0 c.args.k c.args.keys.now c.arrange_node.new.r node leads),
      subst (λ (z : List ℕ). AreFlat (lists_in new z) new z) same c.arrange_choice.ensures.flat,
    )
