use Rattle.std.proofs.Common.{◌≡◌, ◌≢◌, ℕ, Bool, cond, List, [], ◌∷◌, sym, ap, ◌∙◌}
use Rattle.std.proofs.lemmas.Bool.{both_ways}
use Rattle.std.proofs.lemmas.Bool.Decides.{Decides-eqb}
use Rattle.std.proofs.lemmas.Slice.Eq.{slice_eq-Decides}
use Rattle.pair_split.specs.Tutte.{Node, node_at, node_item}
use Rattle.pair_split.specs.declared.components.Kind.{Kind}
use Rattle.skeletons.specs.Choices.{choice}
use Rattle.skeletons.specs.Moves.{permute, move_of_kind}
use Rattle.skel_embed.specs.Exchanges.{turned_choice}
use Rattle.long_face.specs.Wanted.{wanted_choice}
use Rattle.long_face.proofs.Changes.{towards-kept, towards-moved}
use Rattle.long_face.proofs.Possible.{turned-differs}
use Rattle.long_face.proofs.moving.move_for.Goals as goal

pub returns-then-eq : goal.returns-then-eq
returns-then-eq c =
    let s = c.args.p.now in
    let key : ℕ → ℕ = λ i. (node_item s.tree c.args.k i).key in
    let present = choice s.tree s.rotation c.args.k in
    let d = slice_eq-Decides Decides-eqb c.keys.result.now c.as_slice.result.now c.eq.result c.eq.ensures in
    let kind = c.in-P.ensures {u = tt} ∙ ap (λ (z : List Node). (node_at z c.args.k).kind) c.tree.ensures.value in
    let target = c.as_slice.ensures.value ∙ c.in_ok-keys-in-P.ensures {u = tt} ∙ ap (λ (z : Kind). wanted_choice z key present c.args.want) kind in
    sym (towards-kept s.tree s.rotation c.args.k (wanted_choice (node_at s.tree c.args.k).kind key present c.args.want) (sym c.keys.ensures ∙ d.0 c.if-eq.true ∙ target))

pub returns-in_ok-of-in-P : goal.returns-in_ok-of-in-P
returns-in_ok-of-in-P c =
    let s = c.args.p.now in
    let key : ℕ → ℕ = λ i. (node_item s.tree c.args.k i).key in
    let present = choice s.tree s.rotation c.args.k in
    let wanted = wanted_choice (node_at s.tree c.args.k).kind key present c.args.want in
    let d = slice_eq-Decides Decides-eqb c.keys.result.now c.as_slice.result.now c.eq.result c.eq.ensures in
    let kind = c.in-P.ensures {u = tt} ∙ ap (λ (z : List Node). (node_at z c.args.k).kind) c.tree.ensures.value in
    let target = c.in_ok-keys-in-P.ensures {u = tt} ∙ ap (λ (z : Kind). wanted_choice z key present c.args.want) kind in
    let n : present ≢ wanted = λ e. both_ways c.eq.result c.if-eq.false (d.1 (c.keys.ensures ∙ e ∙ sym (c.as_slice.ensures.value ∙ target))) in
    ap (λ (z : List ℕ). permute c.args.k z ∷ []) (c.in_ok-of-in-P.ensures {u = tt} ∙ c.deref.ensures.value ∙ target) ∙ ap (λ (z : Kind). move_of_kind z c.args.k wanted) kind
    ∙ sym (towards-moved s.tree s.rotation c.args.k wanted n)

pub returns-then-want : goal.returns-then-want
returns-then-want c =
    let s = c.args.p.now in
    let key : ℕ → ℕ = λ i. (node_item s.tree c.args.k i).key in
    let present = choice s.tree s.rotation c.args.k in
    let wanted = wanted_choice (node_at s.tree c.args.k).kind key present c.args.want in
    let kind = c.in-R.ensures {u = tt} ∙ ap (λ (z : List Node). (node_at z c.args.k).kind) c.tree.ensures.value in
    let is : wanted ≡ turned_choice present = sym (ap (λ (z : Kind). wanted_choice z key present c.args.want) kind) ∙ ap (λ (t : Bool). cond t (turned_choice present) present) c.if-want.true in
    let n : present ≢ wanted = λ e. turned-differs s.graph s.tree c.belongs.ensures.block s.rotation c.belongs.ensures.plane c.args.k (c.requires.node, sym kind) (sym (e ∙ is)) in
    ap (λ (z : Kind). move_of_kind z c.args.k wanted) kind ∙ sym (towards-moved s.tree s.rotation c.args.k wanted n)

pub returns-else-want : goal.returns-else-want
returns-else-want c =
    let s = c.args.p.now in
    let key : ℕ → ℕ = λ i. (node_item s.tree c.args.k i).key in
    let present = choice s.tree s.rotation c.args.k in
    let wanted = wanted_choice (node_at s.tree c.args.k).kind key present c.args.want in
    let kind = c.in-R.ensures {u = tt} ∙ ap (λ (z : List Node). (node_at z c.args.k).kind) c.tree.ensures.value in
    let is : wanted ≡ present = sym (ap (λ (z : Kind). wanted_choice z key present c.args.want) kind) ∙ ap (λ (t : Bool). cond t (turned_choice present) present) c.if-want.false in
    sym (towards-kept s.tree s.rotation c.args.k wanted (sym is))
