use Rattle.std.proofs.Common.{◌≡◌, ◌<◌, ℕ, true, List, [], length, slice_index_or, slice_set, sym, ap, ◌∙◌, subst}
use Rattle.permutations.specs.Cyclic.{from_least}
use Rattle.permutations.specs.Members.{is_member, is_distinct}
use Rattle.pair_split.specs.declared.components.Kind.TheVariants.{P}
use Rattle.skeletons.specs.Items.{node_keys}
use Rattle.skeletons.specs.Choices.{choice}
use Rattle.skeletons.specs.Moves.{IsNodeOfKind, PermuteLeads}
use Rattle.skel_embed.specs.Block.{BlockState, IsBlockState}
use Rattle.skel_embed.specs.Exchanges.{exchanged}
use Rattle.skel_embed.specs.Flat.{lists_in, AreFlat}
use Rattle.skel_embed.specs.declared.state.Frame.{Frame}
use Rattle.skel_embed.proofs.States.{kept-once, kept-written, kept-within, bond-member, state-permuted}
use Rattle.skel_embed.proofs.state.PlaneBlock.exchange_groups.Goals as goal

pub exchange_in_choice-requires-clause-flat : goal.exchange_in_choice-requires-clause-flat
exchange_in_choice-requires-clause-flat c =
    let keys = c.self.inside.keys.items in
    let same : c.as_slice.result.now ≡ c.self.inside.frame.value.ends.items = c.as_slice.ensures.value ∙ ap (λ (z : Frame). z.ends.items) c.as_ref-frame.ensures in
    subst (λ (z : List ℕ). AreFlat (lists_in keys z) keys z) (sym same) c.self.invariant.1

pub exchange_in_choice-requires-clause-node : goal.exchange_in_choice-requires-clause-node
exchange_in_choice-requires-clause-node c =
    let s : BlockState = record { graph = c.self.inside.frame.value.graph; tree = c.self.inside.frame.value.tree; rotation = c.self.inside.rotation; choices = lists_in c.self.inside.keys.items c.self.inside.frame.value.ends.items; locks = c.self.inside.locks.items } in
    let node = subst (λ (z : BlockState). IsNodeOfKind z.tree c.args.k P) (sym c.self.view_is) c.requires.node in
    let keys = c.self.inside.keys.items in
    let same : c.as_slice.result.now ≡ c.self.inside.frame.value.ends.items = c.as_slice.ensures.value ∙ ap (λ (z : Frame). z.ends.items) c.as_ref-frame.ensures in
    subst (λ (z : List ℕ). c.args.k < length (lists_in keys z)) (sym same) (kept-within s c.self.invariant.0 c.args.k node.0)

pub exchange_in_choice-requires-clause-once : goal.exchange_in_choice-requires-clause-once
exchange_in_choice-requires-clause-once c =
    let s : BlockState = record { graph = c.self.inside.frame.value.graph; tree = c.self.inside.frame.value.tree; rotation = c.self.inside.rotation; choices = lists_in c.self.inside.keys.items c.self.inside.frame.value.ends.items; locks = c.self.inside.locks.items } in
    let node = subst (λ (z : BlockState). IsNodeOfKind z.tree c.args.k P) (sym c.self.view_is) c.requires.node in
    let keys = c.self.inside.keys.items in
    let same : c.as_slice.result.now ≡ c.self.inside.frame.value.ends.items = c.as_slice.ensures.value ∙ ap (λ (z : Frame). z.ends.items) c.as_ref-frame.ensures in
    subst (λ (z : List ℕ). is_distinct (slice_index_or (lists_in keys z) c.args.k []) ≡ true) (sym same) (kept-once s c.self.invariant.0 c.args.k node.0)

pub exchange_in_choice-requires-clause-written : goal.exchange_in_choice-requires-clause-written
exchange_in_choice-requires-clause-written c =
    let s : BlockState = record { graph = c.self.inside.frame.value.graph; tree = c.self.inside.frame.value.tree; rotation = c.self.inside.rotation; choices = lists_in c.self.inside.keys.items c.self.inside.frame.value.ends.items; locks = c.self.inside.locks.items } in
    let node = subst (λ (z : BlockState). IsNodeOfKind z.tree c.args.k P) (sym c.self.view_is) c.requires.node in
    let keys = c.self.inside.keys.items in
    let same : c.as_slice.result.now ≡ c.self.inside.frame.value.ends.items = c.as_slice.ensures.value ∙ ap (λ (z : Frame). z.ends.items) c.as_ref-frame.ensures in
    subst (λ (z : List ℕ). from_least (slice_index_or (lists_in keys z) c.args.k []) ≡ slice_index_or (lists_in keys z) c.args.k []) (sym same) (kept-written s c.self.invariant.0 c.args.k node.0)

pub exchange_in_choice-requires-clause-first : goal.exchange_in_choice-requires-clause-first
exchange_in_choice-requires-clause-first c =
    let s : BlockState = record { graph = c.self.inside.frame.value.graph; tree = c.self.inside.frame.value.tree; rotation = c.self.inside.rotation; choices = lists_in c.self.inside.keys.items c.self.inside.frame.value.ends.items; locks = c.self.inside.locks.items } in
    let node = subst (λ (z : BlockState). IsNodeOfKind z.tree c.args.k P) (sym c.self.view_is) c.requires.node in
    let keys = c.self.inside.keys.items in
    let same : c.as_slice.result.now ≡ c.self.inside.frame.value.ends.items = c.as_slice.ensures.value ∙ ap (λ (z : Frame). z.ends.items) c.as_ref-frame.ensures in
    subst (λ (z : List ℕ). is_member c.args.a (slice_index_or (lists_in keys z) c.args.k []) ≡ true) (sym same)
    (bond-member s c.self.invariant.0 c.args.k c.args.a node (subst (λ (z : BlockState). is_member c.args.a (node_keys z.tree c.args.k) ≡ true) (sym c.self.view_is) c.requires.first))

pub exchange_in_choice-requires-clause-second : goal.exchange_in_choice-requires-clause-second
exchange_in_choice-requires-clause-second c =
    let s : BlockState = record { graph = c.self.inside.frame.value.graph; tree = c.self.inside.frame.value.tree; rotation = c.self.inside.rotation; choices = lists_in c.self.inside.keys.items c.self.inside.frame.value.ends.items; locks = c.self.inside.locks.items } in
    let node = subst (λ (z : BlockState). IsNodeOfKind z.tree c.args.k P) (sym c.self.view_is) c.requires.node in
    let keys = c.self.inside.keys.items in
    let same : c.as_slice.result.now ≡ c.self.inside.frame.value.ends.items = c.as_slice.ensures.value ∙ ap (λ (z : Frame). z.ends.items) c.as_ref-frame.ensures in
    subst (λ (z : List ℕ). is_member c.args.b (slice_index_or (lists_in keys z) c.args.k []) ≡ true) (sym same)
    (bond-member s c.self.invariant.0 c.args.k c.args.b node (subst (λ (z : BlockState). is_member c.args.b (node_keys z.tree c.args.k) ≡ true) (sym c.self.view_is) c.requires.second))

pub invariant_of-self : goal.invariant_of-self
invariant_of-self c =
    let s : BlockState = record { graph = c.self.inside.frame.value.graph; tree = c.self.inside.frame.value.tree; rotation = c.self.inside.rotation; choices = lists_in c.self.inside.keys.items c.self.inside.frame.value.ends.items; locks = c.self.inside.locks.items } in
    let node = subst (λ (z : BlockState). IsNodeOfKind z.tree c.args.k P) (sym c.self.view_is) c.requires.node in
    let keys = c.self.inside.keys.items in
    let same : c.as_slice.result.now ≡ c.self.inside.frame.value.ends.items = c.as_slice.ensures.value ∙ ap (λ (z : Frame). z.ends.items) c.as_ref-frame.ensures in
    let leads : PermuteLeads s.graph s.tree c.args.k (exchanged c.args.a c.args.b (choice s.tree s.rotation c.args.k)) s.rotation c.exchange_node.new.r =
    subst (λ (z : Frame). PermuteLeads z.graph z.tree c.args.k (exchanged c.args.a c.args.b (choice z.tree s.rotation c.args.k)) s.rotation c.exchange_node.new.r) c.as_ref-frame.ensures c.exchange_node.ensures in
    let new = c.exchange_in_choice.new.keys.items in
    let is : lists_in new c.self.inside.frame.value.ends.items ≡ slice_set s.choices c.args.k (from_least (exchanged c.args.a c.args.b (slice_index_or s.choices c.args.k []))) =
    subst (λ (z : List ℕ). lists_in new z ≡ slice_set (lists_in keys z) c.args.k (from_least (exchanged c.args.a c.args.b (slice_index_or (lists_in keys z) c.args.k [])))) same c.exchange_in_choice.ensures.exchanged in (
      subst (λ (z : List (List ℕ)). IsBlockState (record { graph = s.graph; tree = s.tree; rotation = c.exchange_node.new.r; choices = z; locks = s.locks })) (sym is)
          (state-permuted s c.self.invariant.0 c.args.k c.args.a c.args.b c.exchange_node.new.r node leads),
      subst (λ (z : List ℕ). AreFlat (lists_in new z) new z) same c.exchange_in_choice.ensures.flat,
    )
