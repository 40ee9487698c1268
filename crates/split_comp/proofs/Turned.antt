-- One turn of the pass: a frond is gone along, or the search goes down.
use Rattle.std.proofs.Common.{◌≡◌, ◌≢◌, ℕ, ◌<◌, Bool, true, false, slice_index_or, sym, ap, ◌∙◌, subst, arith}
use Rattle.std.proofs.lemmas.List.{get_or_default}
use Rattle.multigraph.specs.Graph.{Multigraph}
use Rattle.split_comp.specs.declared.items.Dart.{Dart}
use Rattle.split_comp.specs.Palm.{tree_dart, tree_degree, tree_parent}
use Rattle.split_comp.specs.Pass.{NumberedTree, IsNumbered, PassState, at_place, IsPass, IsRaised, IsBack, IsPassed, IsFronted, IsTreeAdded, CanJoin, IsJoined, IsFrondAdded, IsAsFar, IsTurned, pushed, gone_along, gone_down, gone_back, new_frond, new_tree}
use Rattle.split_comp.proofs.Entries.{length-push}
use Rattle.split_comp.proofs.Reducing.{added-can, added-back}
use Rattle.split_comp.proofs.Coming.{come-raised, come-passed}
use Rattle.split_comp.proofs.Down.{down-pass}
use Rattle.split_comp.proofs.Going.{frond-fronted}
use Rattle.split_comp.proofs.Depth.{down-turned, frond-turned}
use Rattle.split_comp.proofs.AsFar.{frond-far}
use Rattle.split_comp.proofs.Onward.{fronted-joins, fronted-added}

module _ (g : Multigraph) (t : NumberedTree) (numbered : IsNumbered g t) (s : PassState) (p : IsPass g t s) (more : at_place s.gone s.at < tree_degree t.palm t.vertex s.at) (frond : (tree_dart g t.palm t.vertex s.at (at_place s.gone s.at)).tree ≡ false) where
  abbrev d : Dart
  d = tree_dart g t.palm t.vertex s.at (at_place s.gone s.at)

  abbrev old : PassState
  old = pushed (gone_along s s.at) (new_frond d.edge s.at d.far (gone_along s s.at))

  fronted : IsFronted g t old
  fronted = frond-fronted g t numbered s p more frond

  pub frond-can : CanJoin g t.vertex old
  frond-can par = fronted-joins g t numbered (gone_along s s.at) d.edge d.far fronted par

  pub frond-added : (new : PassState) → IsFrondAdded g t.vertex d.edge s.at d.far (gone_along s s.at) new → IsPass g t new
  frond-added new a = fronted-added g t numbered (gone_along s s.at) d.edge d.far fronted new a

-- the same, for the values that the code has
module _ (g : Multigraph) (t : NumberedTree) (numbered : IsNumbered g t) (s : PassState) (p : IsPass g t s) (more : at_place s.gone s.at < tree_degree t.palm t.vertex s.at) (v k : ℕ) (here : v ≡ s.at) (read : k ≡ slice_index_or s.gone v k) (dart : Dart) (is : dart ≡ tree_dart g t.palm t.vertex v k) where
  next : k ≡ at_place s.gone v
  next = read ∙ get_or_default s.gone v k 0 (omega (arith, here, p.places.gone, p.walk.current, p.walk.within))

  same : dart ≡ tree_dart g t.palm t.vertex s.at (at_place s.gone s.at)
  same = is ∙ (λ i. tree_dart g t.palm t.vertex (here i) ((next ∙ ap (at_place s.gone) here) i))

  pub along-child : dart.tree ≡ true → (new : PassState) → new ≡ gone_down s dart.far → IsPass g t new
  along-child tree new e = subst (IsPass g t) (sym (e ∙ ap (λ (x : Dart). gone_down s x.far) same)) (down-pass g t s p more (ap (λ (x : Dart). x.tree) (sym same) ∙ tree))

  pub along-child-turned : dart.tree ≡ true → (new : PassState) → new ≡ gone_down s dart.far → IsTurned g t s new
  along-child-turned tree new e = down-turned g t s p more (ap (λ (x : Dart). x.tree) (sym same) ∙ tree) new (e ∙ ap (λ (x : Dart). gone_down s x.far) same)

  module _ (frond : dart.tree ≡ false) (mid : PassState) (e : mid ≡ gone_along s v) where
    f : (tree_dart g t.palm t.vertex s.at (at_place s.gone s.at)).tree ≡ false
    f = ap (λ (x : Dart). x.tree) (sym same) ∙ frond

    mid-same : mid ≡ gone_along s s.at
    mid-same = e ∙ ap (gone_along s) here

    pub along-can : CanJoin g t.vertex (pushed mid (new_frond dart.edge v dart.far mid))
    along-can = subst (CanJoin g t.vertex) (λ i. pushed (sym mid-same i) (new_frond (sym same i).edge (sym here i) (sym same i).far (sym mid-same i))) (frond-can g t numbered s p more f)

    pub along-frond : (new : PassState) → IsFrondAdded g t.vertex dart.edge v dart.far mid new → IsPass g t new
    along-frond new a = frond-added g t numbered s p more f new (subst (λ (x : Dart × ℕ × PassState). IsFrondAdded g t.vertex x.0.edge x.1 x.0.far x.2 new) (λ i. (same i, here i, mid-same i)) a)

    pub along-frond-turned : (new : PassState) → IsFrondAdded g t.vertex dart.edge v dart.far mid new → IsTurned g t s new
    along-frond-turned new a = frond-turned g t s p more new (subst (λ (z : PassState). IsAsFar z new) mid-same (frond-far g t.vertex dart.edge v dart.far mid new a))

-- the search comes back to a parent that is not the root
module _ (g : Multigraph) (t : NumberedTree) (numbered : IsNumbered g t) (s : PassState) (p : IsPass g t s) (all : at_place s.gone s.at ≡ tree_degree t.palm t.vertex s.at) (not-top : s.at ≢ 0) (inner : tree_parent t.palm t.vertex s.at ≢ 0) where
  abbrev parent : ℕ
  parent = tree_parent t.palm t.vertex s.at

  abbrev last-dart : Dart
  last-dart = tree_dart g t.palm t.vertex parent (at_place s.gone parent)

  abbrev came : PassState
  came = pushed (gone_back (gone_along s parent) parent s.at) (new_tree last-dart.edge parent s.at (at_place s.start s.at))

  raised : IsRaised g t s.at came
  raised = come-raised g t numbered s p all not-top inner

  pub come-can : CanJoin g t.vertex came
  come-can = added-can g t numbered s.at came raised

  pub come-back : (new : PassState) (joined : Bool) → IsJoined g t.vertex came new joined → IsBack g t s.at new
  come-back new joined j = added-back g t numbered s.at came new raised (λ c l. omega (arith, ((p.cuts.sound not-top).each c l).within, raised.atop.size, length-push s.items (new_tree last-dart.edge parent s.at (at_place s.start s.at)))) joined j

  pub come-less : parent < g.vertex_count
  come-less = omega (arith, (p.palm.parent_less s.at (omega (arith, p.walk.current, p.walk.within)) not-top).0, p.walk.current, p.walk.within)

  -- for the values that the code has
  module _ (v k w start : ℕ) (up : v ≡ parent) (here : w ≡ s.at) (read : k ≡ slice_index_or s.gone v k) (from : start ≡ slice_index_or s.start w start) (dart : Dart) (is : dart ≡ tree_dart g t.palm t.vertex v k) (mid : PassState) (e : mid ≡ gone_back (gone_along s v) v w) where
    next-k : k ≡ at_place s.gone parent
    next-k = (read ∙ get_or_default s.gone v k 0 (omega (arith, up, p.places.gone, come-less))) ∙ ap (at_place s.gone) up

    starts-at : start ≡ at_place s.start s.at
    starts-at = (from ∙ get_or_default s.start w start 0 (omega (arith, here, p.places.start, p.walk.current, p.walk.within))) ∙ ap (at_place s.start) here

    came-is : pushed mid (new_tree dart.edge v w start) ≡ came
    came-is = (λ i. pushed (e i) (new_tree (is i).edge v w start)) ∙ (λ i. pushed (gone_back (gone_along s (up i)) (up i) (here i)) (new_tree (tree_dart g t.palm t.vertex (up i) (next-k i)).edge (up i) (here i) (starts-at i)))

    pub came-can : CanJoin g t.vertex (pushed mid (new_tree dart.edge v w start))
    came-can = subst (CanJoin g t.vertex) (sym came-is) come-can

    pub came-back : (new : PassState) → IsTreeAdded g t.vertex dart.edge v w start mid new → IsBack g t s.at new
    came-back new a = come-back new a.joined (subst (λ (m : PassState). IsJoined g t.vertex m new a.joined) came-is a.join)

-- the search comes back to the root
module _ (g : Multigraph) (t : NumberedTree) (numbered : IsNumbered g t) (s : PassState) (p : IsPass g t s) (all : at_place s.gone s.at ≡ tree_degree t.palm t.vertex s.at) (not-top : s.at ≢ 0) (outer : tree_parent t.palm t.vertex s.at ≡ 0)
    (v k w start : ℕ) (up : v ≡ tree_parent t.palm t.vertex s.at) (here : w ≡ s.at) (read : k ≡ slice_index_or s.gone v k) (from : start ≡ slice_index_or s.start w start) (dart : Dart) (is : dart ≡ tree_dart g t.palm t.vertex v k) (mid : PassState) (e : mid ≡ gone_back (gone_along s v) v w) where
  root-next : k ≡ at_place s.gone (tree_parent t.palm t.vertex s.at)
  root-next = (read ∙ get_or_default s.gone v k 0 (omega (arith, up, outer, p.places.gone, p.walk.current, p.walk.within))) ∙ ap (at_place s.gone) up

  root-starts : start ≡ at_place s.start s.at
  root-starts = (from ∙ get_or_default s.start w start 0 (omega (arith, here, p.places.start, p.walk.current, p.walk.within))) ∙ ap (at_place s.start) here

  pub came-home : (new : PassState) → new ≡ pushed mid (new_tree dart.edge v w start) → IsPassed g t new
  came-home new q = subst (IsPassed g t) (sym (q ∙ ((λ i. pushed (e i) (new_tree (is i).edge v w start)) ∙ (λ i. pushed (gone_back (gone_along s (up i)) (up i) (here i)) (new_tree (tree_dart g t.palm t.vertex (up i) (root-next i)).edge (up i) (here i) (root-starts i))))))
      (come-passed g t numbered s p all not-top outer)
