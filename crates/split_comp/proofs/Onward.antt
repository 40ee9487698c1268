-- A frond was pushed: it is joined with the one below, or noted, and the pass goes on.
use Rattle.std.proofs.Common.{◌≡◌, ℕ, ◌<◌, ◌≤◌, inl, inr, Bool, length, refl, sym, ap, ◌∙◌, subst, arith}
use Rattle.std.proofs.lemmas.Bool.{cases_Bool, cases_lt}
use Rattle.multigraph.specs.Graph.{Multigraph}
use Rattle.split_comp.specs.declared.items.StackEntry.{StackEntry}
use Rattle.split_comp.specs.Stack.{item}
use Rattle.split_comp.specs.Noting.{IsNoted}
use Rattle.split_comp.specs.Pass.{NumberedTree, IsNumbered, PassState, at_place, IsPass, IsFronted, CanJoin, IsParallel, IsJoined, IsFrondAdded, IsDartNoted, joined_item, pushed, new_frond}
use Rattle.split_comp.proofs.Entries.{item-last, length-push}
use Rattle.split_comp.proofs.Fronted.{fronted-can, joined-pass, first-pass, later-pass}

module _ (g : Multigraph) (t : NumberedTree) (numbered : IsNumbered g t) (m : PassState) (name up : ℕ) (fronted : IsFronted g t (pushed m (new_frond name m.at up m))) where
  abbrev old : PassState
  old = pushed m (new_frond name m.at up m)

  height : fronted.height ≡ length m.items
  height = omega (arith, fronted.size, length-push m.items (new_frond name m.at up m))

  pub fronted-joins : CanJoin g t.vertex old
  fronted-joins par = fronted-can g t numbered old fronted par

  pub fronted-added : (new : PassState) → IsFrondAdded g t.vertex name m.at up m new → IsPass g t new
  fronted-added new a = elim (cases_Bool a.joined) [
    | inl y ↦
        let j = subst (λ (b : Bool). IsJoined g t.vertex old a.mid b) y a.join in
        subst (IsPass g t) (sym (a.whole y ∙ (j.1.2 ∙ ap (λ (z : PassState). pushed z (joined_item g old)) j.1.1.now))) (joined-pass g t numbered old fronted j.0 j.1.0 j.1.1)
    | inr y ↦
        let j = subst (λ (b : Bool). IsJoined g t.vertex old a.mid b) y a.join in
        apart a.mid j.0 j.1 new (a.noted y)
  ]
    where
      apart : (mid : PassState) → mid ≡ old → (IsParallel old → ⊥) → (new : PassState) → IsDartNoted m.at (length m.items) up mid new → IsPass g t new
      apart mid e none new noted = elim (cases_lt (at_place mid.start m.at) (length m.items)) [
        | inl l ↦
            let n = noted.later l in
            subst (IsPass g t) (sym (n.2 ∙ ap (λ (z : PassState). record z { cuts = n.0 }) e)) (later-pass g t numbered old fronted none (omega (arith, height, subst (λ (z : PassState). at_place z.start m.at < length m.items) e l)) n.0
            (subst (λ (k : ℕ). IsNoted (at_place old.base m.at) (record { start = k; up = (item old.items k).up; low = m.at }) old.cuts n.0) (sym height)
            (subst (λ (z : PassState). IsNoted (at_place z.base m.at) (record { start = length m.items; up = (item old.items (length m.items)).up; low = m.at }) z.cuts n.0) e
            (subst (λ (u : ℕ). IsNoted (at_place mid.base m.at) (record { start = length m.items; up = u; low = m.at }) mid.cuts n.0) (sym (ap (λ (z : StackEntry). z.up) (item-last m.items (new_frond name m.at up m) (length m.items) refl))) n.1))))
        | inr l ↦ subst (IsPass g t) (sym (noted.first l ∙ e)) (first-pass g t numbered old fronted none (omega (arith, height, subst (λ (z : PassState). length m.items ≤ at_place z.start m.at) e l)))
      ]
