use Rattle.std.proofs.Common.{◌≡◌, ◌<◌, ℕ, true, List, [], length, slice_index_or, slice_set, sym, ap, ◌∙◌, subst}
use Rattle.permutations.specs.Cyclic.{from_least}
use Rattle.permutations.specs.Members.{is_distinct}
use Rattle.rotations.specs.Rotation.{order_at}
use Rattle.pair_split.specs.Tutte.{group}
use Rattle.pair_split.specs.declared.components.Kind.TheVariants.{R}
use Rattle.skeletons.specs.Items.{has_vertex}
use Rattle.skeletons.specs.Moves.{IsNodeOfKind, FlipLeads}
use Rattle.skel_embed.specs.Block.{BlockState, IsBlockState}
use Rattle.skel_embed.specs.Exchanges.{turned_choice}
use Rattle.skel_embed.specs.Flat.{lists_in, AreFlat}
use Rattle.skel_embed.specs.Steps.{StandInTwoRuns}
use Rattle.skel_embed.specs.declared.state.Frame.{Frame}
use Rattle.skel_embed.proofs.States.{kept-once, kept-written, kept-within, rigid-runs, state-flipped}
use Rattle.skel_embed.proofs.state.PlaneBlock.turn.Goals as goal

pub turn_node-requires-clause-runs : goal.turn_node-requires-clause-runs
turn_node-requires-clause-runs c =
    let s : BlockState = record { graph = c.self.inside.frame.value.graph; tree = c.self.inside.frame.value.tree; rotation = c.self.inside.rotation; choices = lists_in c.self.inside.keys.items c.self.inside.frame.value.ends.items; locks = c.self.inside.locks.items } in
    let node = subst (λ (z : BlockState). IsNodeOfKind z.tree c.args.k R) (sym c.self.view_is) c.requires.node in
    subst (λ (z : Frame). (v : ℕ) → has_vertex z.tree c.args.k v ≡ true → StandInTwoRuns (group z.tree c.args.k) (order_at s.rotation v)) (sym c.as_ref-frame.ensures)
    (rigid-runs s c.self.invariant.0 c.args.k node)

pub turn_choice-requires-clause-flat : goal.turn_choice-requires-clause-flat
turn_choice-requires-clause-flat c =
    let keys = c.self.inside.keys.items in
    let same : c.as_slice.result.now ≡ c.self.inside.frame.value.ends.items = c.as_slice.ensures.value ∙ ap (λ (z : Frame). z.ends.items) c.as_ref-frame.ensures in
    subst (λ (z : List ℕ). AreFlat (lists_in keys z) keys z) (sym same) c.self.invariant.1

pub turn_choice-requires-clause-node : goal.turn_choice-requires-clause-node
turn_choice-requires-clause-node c =
    let s : BlockState = record { graph = c.self.inside.frame.value.graph; tree = c.self.inside.frame.value.tree; rotation = c.self.inside.rotation; choices = lists_in c.self.inside.keys.items c.self.inside.frame.value.ends.items; locks = c.self.inside.locks.items } in
    let node = subst (λ (z : BlockState). IsNodeOfKind z.tree c.args.k R) (sym c.self.view_is) c.requires.node in
    let keys = c.self.inside.keys.items in
    let same : c.as_slice.result.now ≡ c.self.inside.frame.value.ends.items = c.as_slice.ensures.value ∙ ap (λ (z : Frame). z.ends.items) c.as_ref-frame.ensures in
    subst (λ (z : List ℕ). c.args.k < length (lists_in keys z)) (sym same) (kept-within s c.self.invariant.0 c.args.k node.0)

pub turn_choice-requires-clause-once : goal.turn_choice-requires-clause-once
turn_choice-requires-clause-once c =
    let s : BlockState = record { graph = c.self.inside.frame.value.graph; tree = c.self.inside.frame.value.tree; rotation = c.self.inside.rotation; choices = lists_in c.self.inside.keys.items c.self.inside.frame.value.ends.items; locks = c.self.inside.locks.items } in
    let node = subst (λ (z : BlockState). IsNodeOfKind z.tree c.args.k R) (sym c.self.view_is) c.requires.node in
    let keys = c.self.inside.keys.items in
    let same : c.as_slice.result.now ≡ c.self.inside.frame.value.ends.items = c.as_slice.ensures.value ∙ ap (λ (z : Frame). z.ends.items) c.as_ref-frame.ensures in
    subst (λ (z : List ℕ). is_distinct (slice_index_or (lists_in keys z) c.args.k []) ≡ true) (sym same) (kept-once s c.self.invariant.0 c.args.k node.0)

pub turn_choice-requires-clause-written : goal.turn_choice-requires-clause-written
turn_choice-requires-clause-written c =
    let s : BlockState = record { graph = c.self.inside.frame.value.graph; tree = c.self.inside.frame.value.tree; rotation = c.self.inside.rotation; choices = lists_in c.self.inside.keys.items c.self.inside.frame.value.ends.items; locks = c.self.inside.locks.items } in
    let node = subst (λ (z : BlockState). IsNodeOfKind z.tree c.args.k R) (sym c.self.view_is) c.requires.node in
    let keys = c.self.inside.keys.items in
    let same : c.as_slice.result.now ≡ c.self.inside.frame.value.ends.items = c.as_slice.ensures.value ∙ ap (λ (z : Frame). z.ends.items) c.as_ref-frame.ensures in
    subst (λ (z : List ℕ). from_least (slice_index_or (lists_in keys z) c.args.k []) ≡ slice_index_or (lists_in keys z) c.args.k []) (sym same) (kept-written s c.self.invariant.0 c.args.k node.0)

pub invariant_of-self : goal.invariant_of-self
invariant_of-self c =
    let s : BlockState = record { graph = c.self.inside.frame.value.graph; tree = c.self.inside.frame.value.tree; rotation = c.self.inside.rotation; choices = lists_in c.self.inside.keys.items c.self.inside.frame.value.ends.items; locks = c.self.inside.locks.items } in
    let node = subst (λ (z : BlockState). IsNodeOfKind z.tree c.args.k R) (sym c.self.view_is) c.requires.node in
    let keys = c.self.inside.keys.items in
    let same : c.as_slice.result.now ≡ c.self.inside.frame.value.ends.items = c.as_slice.ensures.value ∙ ap (λ (z : Frame). z.ends.items) c.as_ref-frame.ensures in
    let leads : FlipLeads s.graph s.tree c.args.k s.rotation c.turn_node.new.r = subst (λ (z : Frame). FlipLeads z.graph z.tree c.args.k s.rotation c.turn_node.new.r) c.as_ref-frame.ensures c.turn_node.ensures in
    let new = c.turn_choice.new.keys.items in
    let is : lists_in new c.self.inside.frame.value.ends.items ≡ slice_set s.choices c.args.k (turned_choice (slice_index_or s.choices c.args.k [])) =
    subst (λ (z : List ℕ). lists_in new z ≡ slice_set (lists_in keys z) c.args.k (turned_choice (slice_index_or (lists_in keys z) c.args.k []))) same c.turn_choice.ensures.turned in (
      subst (λ (z : List (List ℕ)). IsBlockState (record { graph = s.graph; tree = s.tree; rotation = c.turn_node.new.r; choices = z; locks = s.locks })) (sym is)
          (state-flipped s c.self.invariant.0 c.args.k c.turn_node.new.r node leads),
      subst (λ (z : List ℕ). AreFlat (lists_in new z) new z) same c.turn_choice.ensures.flat,
    )
