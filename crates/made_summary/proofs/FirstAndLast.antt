-- The list of a block that stands at its first member: that member stands at place 0, and the choices at the last are mirrored.
use Rattle.std.proofs.Common.{◌≡◌, ℕ, ◌+◌, ◌-◌, ◌<◌, inl, inr, Bool, false, List, [], length, slice_index_or, sym, ap, ◌∙◌, subst, arith}
use Rattle.std.specs.Prelude.{Contains}
use Rattle.std.proofs.lemmas.Bool.{cases_eq, both_ways}
use Rattle.std.proofs.lemmas.List.{get_or_default}
use Rattle.multigraph.specs.Graph.{Multigraph}
use Rattle.rotations.specs.Runs.{mirror_image}
use Rattle.pair_split.specs.Tutte.{Node}
use Rattle.choice_lists.specs.Choices.{mirror_choice}
use Rattle.skeletons.specs.Items.{IsBlockTree}
use Rattle.faces.specs.Euler.{IsPlaneSystem}
use Rattle.skeletons.specs.Choices.{choice, Precedes}
use Rattle.skeletons.specs.Lists.{IsFullList, IsKeptList}
use Rattle.skeletons.proofs.Leading.{unlocked-full}
use Rattle.skeletons.proofs.Moved.{mirror-turns}
use Rattle.skeleton_runs.proofs.Contiguous.{plane-contiguous}
use Rattle.skeleton_choices.proofs.Listed.{list-exists, last-mirror, choice-normal, mirror-same}
use Rattle.skel_embed.specs.Block.{BlockState, lock_at}
use Rattle.skel_embed.specs.First.{IsFirst}
use Rattle.embed_enum.specs.Walk.{IsMemberList}

module _ (g : Multigraph) (nodes : List Node) (b : IsBlockTree g nodes) (r : List (List ℕ)) (f : IsFirst g nodes r) where
  -- the list of all plane rotation systems
  pub all : List (List (List ℕ))
  all = (list-exists g nodes (λ k. false) r b f.plane).0

  pub all-full : IsFullList g nodes all
  unfolding all
  all-full = (unlocked-full g nodes r all).0 (list-exists g nodes (λ k. false) r b f.plane).1

  -- it is the list of a block in which no node is locked
  pub all-members : (locks : List Bool) (s : BlockState) → s.graph ≡ g → s.tree ≡ nodes → s.rotation ≡ r → s.locks ≡ locks → ((k : ℕ) → k < length nodes → lock_at locks k ≡ false) → IsMemberList s all
  all-members locks s eg et er el unlocked =
      subst (λ h. IsKeptList h s.tree (lock_at s.locks) s.rotation all) (sym eg)
      (subst (λ t. IsKeptList g t (lock_at s.locks) s.rotation all) (sym et)
      (subst (λ q. IsKeptList g nodes (lock_at s.locks) q all) (sym er)
      (subst (λ z. IsKeptList g nodes (lock_at z) r all) (sym el) kept)))
    where
      kept : IsKeptList g nodes (lock_at locks) r all
      kept = record {
        rising = all-full.rising;
        members = λ q. (
          λ c. record { plane = (all-full.members q).0 c; keeps = λ k l t. absurd (both_ways (lock_at locks k) (unlocked k l) t) },
          λ m. (all-full.members q).1 m.plane,
        );
      }

  -- it has a member
  here : Contains all r
  here = (all-full.members r).1 f.plane

  -- the first stands at place 0
  pub first-there : slice_index_or all 0 [] ≡ r
  first-there = elim (cases_eq here.0 0) [
    | inl e ↦ ap (λ i. slice_index_or all i []) (sym e) ∙ get_or_default all here.0 [] r here.1 ∙ here.2
    | inr n ↦
        let some : 0 < length all = omega (arith, here.1) in
        let first : List (List ℕ) = slice_index_or all 0 [] in
        let plane : IsPlaneSystem g first = (all-full.members first).0 (0, some, get_or_default all 0 first [] some) in
        absurd (f.none_before first plane (subst (λ q. Precedes nodes first q) (get_or_default all here.0 [] r here.1 ∙ here.2) (all-full.rising 0 here.0 [] (omega (arith, n)) here.1)))
  ]

  -- there is a last
  pub last : ℕ
  last = length all - 1

  pub last-is : length all ≡ last + 1
  unfolding last
  last-is = omega (arith, here.1)

  -- with the choices mirrored
  pub last-choice : (k : ℕ) → k < length nodes → choice nodes (slice_index_or all last []) k ≡ mirror_choice (choice nodes r k)
  last-choice k l =
      ap (λ q. choice nodes q k) (last-mirror g nodes all b all-full last last-is ∙ ap mirror_image first-there)
      ∙ mirror-turns g nodes r b f.plane.system (plane-contiguous g nodes r b f.plane) k l
      ∙ mirror-same (choice nodes r k) (choice-normal g nodes b r k f.plane l).0 (choice-normal g nodes b r k f.plane l).1
