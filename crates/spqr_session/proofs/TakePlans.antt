-- The plans of taking lists in: for a block that is seen in the plane, for one that is not, and for a block among others.
use Rattle.std.proofs.Common.{◌≡◌, ℕ, ◌<◌, List, length, map, Option, sym, ap, ◌∙◌, subst, arith}
use Rattle.std.proofs.lemmas.List.{length-map}
use Rattle.multigraph.specs.Graph.{Multigraph}
use Rattle.multigraph.specs.Part.{GraphPart, IsNumbered}
use Rattle.faces.specs.Euler.{IsPlaneSystem}
use Rattle.skeletons.specs.Lists.{KeepsChoices}
use Rattle.skel_embed.specs.Block.{BlockState, lock_at, IsBlockState}
use Rattle.skel_embed.specs.Taken.{IsLeastOther}
use Rattle.skel_embed.specs.Taken as taken
use Rattle.spqr_session.specs.Trees.{BlockTree}
use Rattle.spqr_session.specs.State.{Embedding, State}
use Rattle.spqr_session.specs.Embedded.{BlockView, view_tree, view_entry, view_at}
use Rattle.spqr_session.specs.Codes.{NoneApplies}
use Rattle.spqr_session.specs.Commands.Take.{IsLockedOut, TakeApplies, IsTaken}
use Rattle.spqr_session.specs.Planned.{embedding_of, IsLowestPlanAt, TakenCodes, IsTakePlan}
use Rattle.spqr_session.proofs.BlockPlans.{IsLowestPlan, EntryTakenCodes}
use Rattle.spqr_session.specs.declared.planned.Planned.{Planned}
use Rattle.spqr_session.specs.declared.planned.Planned.TheVariants.{Refused, Change}
use Rattle.spqr_session.proofs.Views.{trees-at}
use Rattle.spqr_session.proofs.Plans.{present-at}
use Rattle.spqr_session.proofs.Planes.{seen_embedding, SeenPlane}
use Rattle.spqr_session.proofs.Takings.{entry-alone, taken-none, entry-down, entry-lowest, alone-lowest}

-- a refusal by a locked node, in the words of the session
pub locked-out : (entries : List (ℕ × List ℕ)) (part : GraphPart) (p : BlockState) (k : ℕ) → taken.IsLockedOut p part entries k → IsLockedOut (record { part = part; nodes = p.tree }) entries (embedding_of p) k
locked-out entries part p k l =
    let least : IsLeastOther p l.system k = l.least in
    record {
      system = l.system;
      given = l.given;
      plane = l.plane;
      within = least.within;
      locked = least.locked;
      other = least.other;
      none_before = least.none_before;
    }

-- what was taken, in them
pub taken-plane : (entries : List (ℕ × List ℕ)) (part : GraphPart) (p q : BlockState) → part.graph ≡ p.graph → q ≡ record p { rotation = q.rotation; choices = q.choices } → IsBlockState q → taken.IsGiven part entries q.rotation
    → KeepsChoices p.tree (λ k. lock_at p.locks k) p.rotation q.rotation → IsTakePlan part entries p (Change q)
taken-plane entries part p q g rest state given keeps =
    let graph : q.graph ≡ p.graph = ap (λ (x : BlockState). x.graph) rest in
    let locks : q.locks ≡ p.locks = ap (λ (x : BlockState). x.locks) rest in (
      record { graph = graph; tree = ap (λ (x : BlockState). x.tree) rest; locks = locks },
      record { given = given; plane = subst (λ (x : Multigraph). IsPlaneSystem x q.rotation) (graph ∙ sym g) state.plane; keeps = keeps; locks = locks },
    )

module _ (entries : List (ℕ × List ℕ)) (v : BlockView) where
  module _ (p : BlockState) (seen : SeenPlane v p) (numbered : IsNumbered v.tree.part) where
    abbrev here : Embedding
    here = seen_embedding p

    -- the tree is that of the block
    same-tree : record { part = v.tree.part; nodes = p.tree } ≡ v.tree
    same-tree = λ i. record { part = v.tree.part; nodes = seen.nodes i }

    pub take-planned : (planned : Planned) → IsTakePlan v.tree.part entries p planned → IsLowestPlan (EntryTakenCodes entries v.tree v.entry) (IsTaken entries) v planned
    take-planned (Refused code) h =
        let own : EntryTakenCodes entries v.tree v.entry code =
        subst (λ (o : Option Embedding). EntryTakenCodes entries v.tree o code) (sym seen.entry) (subst (λ (t : BlockTree). TakenCodes entries t here code) same-tree h) in
        alone-lowest (EntryTakenCodes entries v.tree v.entry) code own (λ other a. entry-alone entries v.tree numbered seen.tree v.entry code other own a)
    take-planned (Change q) h =
        let made : IsTaken entries v.tree here (embedding_of q) = subst (λ (t : BlockTree). IsTaken entries t here (embedding_of q)) same-tree h.1 in (
          subst (λ (o : Option Embedding). NoneApplies (EntryTakenCodes entries v.tree o)) (sym seen.entry) (taken-none entries v.tree numbered seen.tree here (embedding_of q) made),
          (record { old = here; present = seen.entry; graph = h.0.graph ∙ seen.graph; nodes = h.0.tree ∙ seen.nodes; locks = h.0.locks }, made),
        )

-- ---- from the block to the blocks

module _ (entries : List (ℕ × List ℕ)) (views : List BlockView) (b : ℕ) (s : State) (present : s.present.entries ≡ map view_entry views) where
  -- the block that is found at its place
  pub take-found : (v : BlockView) (planned : Planned) → b < length views → v ≡ view_at views b → IsLowestPlan (EntryTakenCodes entries v.tree v.entry) (IsTaken entries) v planned
      → IsLowestPlanAt (TakeApplies (map view_tree views) b entries s) (IsTaken entries) views b planned
  take-found v planned l at p = by planned (subst (λ (x : BlockView). IsLowestPlan (EntryTakenCodes entries x.tree x.entry) (IsTaken entries) x planned) at p)
    where
      within : b < length (map view_tree views)
      within = omega (arith, l, length-map views view_tree)

      by : (planned : Planned) → IsLowestPlan (EntryTakenCodes entries (view_at views b).tree (view_at views b).entry) (IsTaken entries) (view_at views b) planned
          → IsLowestPlanAt (TakeApplies (map view_tree views) b entries s) (IsTaken entries) views b planned
      by (Refused code) q = entry-lowest entries (map view_tree views) b s (view_at views b).tree (trees-at views b) (view_at views b).entry (present-at views s b present) within code q
      by (Change x) q = (l, λ code a. q.0 code (entry-down entries (map view_tree views) b s (view_at views b).tree (trees-at views b) (view_at views b).entry (present-at views s b present) within code a), q.1)
