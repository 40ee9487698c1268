-- A plane rotation system with the choices that a permute leads to is the one that it leads to.
use Rattle.std.proofs.Common.{◌≡◌, ◌≢◌, ℕ, ◌<◌, inl, inr, List, length, sym, ◌∙◌, subst, IsPermutation}
use Rattle.std.proofs.lemmas.Bool.{cases_eq}
use Rattle.permutations.specs.Cyclic.{from_least}
use Rattle.multigraph.specs.Graph.{Multigraph}
use Rattle.pair_split.specs.Tutte.{Node}
use Rattle.pair_split.specs.declared.components.Kind.TheVariants.{P}
use Rattle.skeletons.specs.Items.{node_keys, IsBlockTree}
use Rattle.faces.specs.Euler.{IsPlaneSystem}
use Rattle.skeletons.specs.Choices.{choice}
use Rattle.skeletons.specs.Moves.{permute, IsNodeOfKind, PermuteLeads}
use Rattle.skeletons.proofs.Moved.{permute-exists, move-others, permute-sets}
use Rattle.skeleton_runs.proofs.Contiguous.{plane-contiguous}
use Rattle.skeleton_choices.proofs.Plane.{move-plane}
use Rattle.skeleton_choices.proofs.Told.{choices-tell}

pub permute-told : (g : Multigraph) (nodes : List Node) (b : IsBlockTree g nodes) (r q : List (List ℕ)) → IsPlaneSystem g r → IsPlaneSystem g q → (k : ℕ) → IsNodeOfKind nodes k P → (keys : List ℕ) → IsPermutation (node_keys nodes k) keys
    → ((j : ℕ) → j < length nodes → j ≢ k → choice nodes q j ≡ choice nodes r j) → choice nodes q k ≡ from_least keys → PermuteLeads g nodes k keys r q
permute-told g nodes b r q p s k is keys a others own = subst (PermuteLeads g nodes k keys r) same w.1
  where
    w : (m : List (List ℕ)) × PermuteLeads g nodes k keys r m
    w = permute-exists g nodes r b p.system (plane-contiguous g nodes r b p) k is keys a

    each : (j : ℕ) → j < length nodes → choice nodes w.0 j ≡ choice nodes q j
    each j l = elim (cases_eq j k) [
      | inl e ↦ subst (λ z. choice nodes w.0 z ≡ choice nodes q z) (sym e) (permute-sets g nodes k keys r w.0 b p.system (plane-contiguous g nodes r b p) is w.1 ∙ sym own)
      | inr n ↦ move-others g nodes (permute k keys) r w.0 b p.system (plane-contiguous g nodes r b p) (is, w.1) j l n ∙ sym (others j l n)
    ]

    same : w.0 ≡ q
    same = choices-tell g nodes w.0 q b (move-plane g nodes (permute k keys) r w.0 b p (is, w.1)) s each
