use Rattle.std.proofs.Common.{◌≡◌, ◌<◌, ℕ, List, [], length, map, slice_index_or, slice_set, sym, ap, ◌∙◌, subst, IsPermutation}
use Rattle.std.proofs.lemmas.List.{get_or-set_same}
use Rattle.std.proofs.lemmas.List.Sorted.{IsPermutation-refl}
use Rattle.pair_split.specs.Tutte.{node_at}
use Rattle.pair_split.specs.declared.components.Kind.TheVariants.{P}
use Rattle.pair_split.specs.declared.components.Item.{Item}
use Rattle.skeletons.specs.Items.{item_key, node_keys}
use Rattle.skeletons.specs.Moves.{IsNodeOfKind, PermuteLeads}
use Rattle.skel_embed.specs.Block.{BlockState, IsBlockState}
use Rattle.skel_embed.specs.Flat.{lists_in, AreFlat}
use Rattle.skel_embed.specs.declared.state.Frame.{Frame}
use Rattle.skel_embed.proofs.States.{kept-within, kept-number, state-sorted}
use Rattle.skel_embed.proofs.state.PlaneBlock.sort.Goals as goal

pub write_choice-requires-clause-flat : goal.write_choice-requires-clause-flat
write_choice-requires-clause-flat c =
    let s : BlockState = record { graph = c.self.inside.frame.value.graph; tree = c.self.inside.frame.value.tree; rotation = c.self.inside.rotation; choices = lists_in c.self.inside.keys.items c.self.inside.frame.value.ends.items; locks = c.self.inside.locks.items } in
    let node = subst (λ (z : BlockState). IsNodeOfKind z.tree c.args.k P) (sym c.self.view_is) c.requires.node in
    let keys = c.self.inside.keys.items in
    let same : c.as_slice-ends.result.now ≡ c.self.inside.frame.value.ends.items = c.as_slice-ends.ensures.value ∙ ap (λ (z : Frame). z.ends.items) c.as_ref-frame.ensures in
    subst (λ (z : List ℕ). AreFlat (lists_in keys z) keys z) (sym same) c.self.invariant.1

pub write_choice-requires-clause-node : goal.write_choice-requires-clause-node
write_choice-requires-clause-node c =
    let s : BlockState = record { graph = c.self.inside.frame.value.graph; tree = c.self.inside.frame.value.tree; rotation = c.self.inside.rotation; choices = lists_in c.self.inside.keys.items c.self.inside.frame.value.ends.items; locks = c.self.inside.locks.items } in
    let node = subst (λ (z : BlockState). IsNodeOfKind z.tree c.args.k P) (sym c.self.view_is) c.requires.node in
    let keys = c.self.inside.keys.items in
    let same : c.as_slice-ends.result.now ≡ c.self.inside.frame.value.ends.items = c.as_slice-ends.ensures.value ∙ ap (λ (z : Frame). z.ends.items) c.as_ref-frame.ensures in
    subst (λ (z : List ℕ). c.args.k < length (lists_in keys z)) (sym same) (kept-within s c.self.invariant.0 c.args.k node.0)

pub write_choice-requires-clause-number : goal.write_choice-requires-clause-number
write_choice-requires-clause-number c =
    let s : BlockState = record { graph = c.self.inside.frame.value.graph; tree = c.self.inside.frame.value.tree; rotation = c.self.inside.rotation; choices = lists_in c.self.inside.keys.items c.self.inside.frame.value.ends.items; locks = c.self.inside.locks.items } in
    let node = subst (λ (z : BlockState). IsNodeOfKind z.tree c.args.k P) (sym c.self.view_is) c.requires.node in
    let keys = c.self.inside.keys.items in
    let same : c.as_slice-ends.result.now ≡ c.self.inside.frame.value.ends.items = c.as_slice-ends.ensures.value ∙ ap (λ (z : Frame). z.ends.items) c.as_ref-frame.ensures in
    let items : c.items.result.now ≡ (node_at s.tree c.args.k).items = c.items.ensures ∙ ap (λ (z : Frame). (node_at z.tree c.args.k).items) c.as_ref-frame.ensures in
    subst (λ (z : List ℕ). length (slice_index_or (lists_in keys z) c.args.k []) ≡ length c.items.result.now) (sym same) (kept-number s c.self.invariant.0 c.args.k node ∙ sym (ap length items))

pub arrange_node-requires-clause-arrangement : goal.arrange_node-requires-clause-arrangement
arrange_node-requires-clause-arrangement c =
    let s : BlockState = record { graph = c.self.inside.frame.value.graph; tree = c.self.inside.frame.value.tree; rotation = c.self.inside.rotation; choices = lists_in c.self.inside.keys.items c.self.inside.frame.value.ends.items; locks = c.self.inside.locks.items } in
    let node = subst (λ (z : BlockState). IsNodeOfKind z.tree c.args.k P) (sym c.self.view_is) c.requires.node in
    let keys = c.self.inside.keys.items in
    let same : c.as_slice-ends.result.now ≡ c.self.inside.frame.value.ends.items = c.as_slice-ends.ensures.value ∙ ap (λ (z : Frame). z.ends.items) c.as_ref-frame.ensures in
    let items : c.items.result.now ≡ (node_at s.tree c.args.k).items = c.items.ensures ∙ ap (λ (z : Frame). (node_at z.tree c.args.k).items) c.as_ref-frame.ensures in
    let new = c.write_choice.new.keys.items in
    let is : lists_in new c.self.inside.frame.value.ends.items ≡ slice_set s.choices c.args.k (node_keys s.tree c.args.k) =
    subst (λ (z : List ℕ). lists_in new z ≡ slice_set (lists_in keys z) c.args.k (map item_key c.items.result.now)) same c.write_choice.ensures.written ∙ ap (λ (z : List Item). slice_set s.choices c.args.k (map item_key z)) items in
    let told : c.at-keys.result.now ≡ node_keys s.tree c.args.k =
    c.at-keys.ensures ∙ ap (λ (z : List (List ℕ)). slice_index_or z c.args.k []) (c.of.ensures ∙ ap (λ (z : List ℕ). lists_in z c.as_slice-ends.result.now) c.as_slice.ensures.value ∙ ap (lists_in new) same ∙ is)
    ∙ get_or-set_same s.choices c.args.k (node_keys s.tree c.args.k) [] (kept-within s c.self.invariant.0 c.args.k node.0) in
    subst (IsPermutation (node_keys c.as_ref-frame.result.now.tree c.args.k)) (sym told)
    (subst (λ (z : Frame). IsPermutation (node_keys z.tree c.args.k) (node_keys s.tree c.args.k)) (sym c.as_ref-frame.ensures) (IsPermutation-refl (node_keys s.tree c.args.k)))

pub invariant_of-self : goal.invariant_of-self
invariant_of-self c =
    let s : BlockState = record { graph = c.self.inside.frame.value.graph; tree = c.self.inside.frame.value.tree; rotation = c.self.inside.rotation; choices = lists_in c.self.inside.keys.items c.self.inside.frame.value.ends.items; locks = c.self.inside.locks.items } in
    let node = subst (λ (z : BlockState). IsNodeOfKind z.tree c.args.k P) (sym c.self.view_is) c.requires.node in
    let keys = c.self.inside.keys.items in
    let same : c.as_slice-ends.result.now ≡ c.self.inside.frame.value.ends.items = c.as_slice-ends.ensures.value ∙ ap (λ (z : Frame). z.ends.items) c.as_ref-frame.ensures in
    let items : c.items.result.now ≡ (node_at s.tree c.args.k).items = c.items.ensures ∙ ap (λ (z : Frame). (node_at z.tree c.args.k).items) c.as_ref-frame.ensures in
    let new = c.write_choice.new.keys.items in
    let is : lists_in new c.self.inside.frame.value.ends.items ≡ slice_set s.choices c.args.k (node_keys s.tree c.args.k) =
    subst (λ (z : List ℕ). lists_in new z ≡ slice_set (lists_in keys z) c.args.k (map item_key c.items.result.now)) same c.write_choice.ensures.written ∙ ap (λ (z : List Item). slice_set s.choices c.args.k (map item_key z)) items in
    let told : c.at-keys.result.now ≡ node_keys s.tree c.args.k =
    c.at-keys.ensures ∙ ap (λ (z : List (List ℕ)). slice_index_or z c.args.k []) (c.of.ensures ∙ ap (λ (z : List ℕ). lists_in z c.as_slice-ends.result.now) c.as_slice.ensures.value ∙ ap (lists_in new) same ∙ is)
    ∙ get_or-set_same s.choices c.args.k (node_keys s.tree c.args.k) [] (kept-within s c.self.invariant.0 c.args.k node.0) in
    let leads : PermuteLeads s.graph s.tree c.args.k (node_keys s.tree c.args.k) s.rotation c.arrange_node.new.r =
    subst (λ (z : List ℕ). PermuteLeads s.graph s.tree c.args.k z s.rotation c.arrange_node.new.r) told
    (subst (λ (z : Frame). PermuteLeads z.graph z.tree c.args.k c.at-keys.result.now s.rotation c.arrange_node.new.r) c.as_ref-frame.ensures c.arrange_node.ensures) in (
      subst (λ (z : List (List ℕ)). IsBlockState (record { graph = s.graph; tree = s.tree; rotation = c.arrange_node.new.r; choices = z; locks = s.locks })) (sym is)
          (state-sorted s c.self.invariant.0 c.args.k c.arrange_node.new.r node leads),
      subst (λ (z : List ℕ). AreFlat (lists_in new z) new z) same c.write_choice.ensures.flat,
    )
