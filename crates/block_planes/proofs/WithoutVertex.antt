-- Darts whose edges are connected without a vertex: a relation that is kept by the steps around all other vertices.
use Rattle.std.proofs.Common.{◌≡◌, ◌≢◌, ℕ, ◌/◌, ◌<◌, inl, inr, Bool, true, List, [], ◌∷◌, refl, sym, ◌∙◌, subst}
use Rattle.permutations.specs.Relation.{IsEquivalence, connected}
use Rattle.permutations.proofs.Relation.{connected-equivalence}
use Rattle.permutations.proofs.Renaming.{equivalence-through}
use Rattle.permutations.proofs.Members.{no_member-cons}
use Rattle.multigraph.specs.Graph.{Multigraph, IsGraph, is_end, other_end}
use Rattle.multigraph.proofs.OtherEnd.{other_end-is_end}
use Rattle.rotations.specs.Rotation.{IsRotationSystem}
use Rattle.graph_theory.specs.Triconnected.{ends_without}
use Rattle.graph_theory.specs.Block.{SameBlock}
use Rattle.graph_theory.proofs.Ends.{end-cases}
use Rattle.graph_theory.proofs.Removed.{step-without}
use Rattle.dart_maps.specs.Map.{twin}
use Rattle.dart_maps.proofs.Darts.{twin-edge}
use Rattle.faces.specs.Euler.{tail, dart_count}
use Rattle.faces.specs.Maps.{dart_after}
use Rattle.faces.proofs.DartLemmas.{dart-edge, tail-end}
use Rattle.faces.proofs.MapSteps.{after-tail}
use Rattle.block_planes.proofs.CommonCycles.{far-off, joined-block}

-- a dart's edge has an end other than v; whether those of two darts are connected without v
abbrev pub joined_off : Multigraph → ℕ → ℕ → ℕ → Bool
joined_off g v c d = connected (ends_without g (v ∷ [])) (other_end g (c / 2) v) (other_end g (d / 2) v)

pub off-equivalence : (g : Multigraph) (v : ℕ) → IsEquivalence (joined_off g v)
off-equivalence g v = equivalence-through (connected (ends_without g (v ∷ []))) (λ d. other_end g (d / 2) v) (connected-equivalence (ends_without g (v ∷ [])))

-- both darts of an edge
pub off-twin : (g : Multigraph) (v d : ℕ) → joined_off g v d (twin d) ≡ true
off-twin g v d = subst (λ e. connected (ends_without g (v ∷ [])) (other_end g (d / 2) v) (other_end g e v) ≡ true) (sym (twin-edge d)) ((connected-equivalence (ends_without g (v ∷ []))).reflexive (other_end g (d / 2) v))

-- the end of an edge other than v is connected with each end but v
off-tail : (g : Multigraph) → IsGraph g → (v d : ℕ) → d < dart_count g → tail g d ≢ v → connected (ends_without g (v ∷ [])) (other_end g (d / 2) v) (tail g d) ≡ true
off-tail g ok v d l n = elim (end-cases g (d / 2) (tail g d) (other_end g (d / 2) v) (tail-end g d) (other_end-is_end g (d / 2) v)) [
  | inl q ↦ subst (λ z. connected (ends_without g (v ∷ [])) z (tail g d) ≡ true) (sym q) (r.reflexive (tail g d))
  | inr q ↦ subst (λ z. connected (ends_without g (v ∷ [])) z (tail g d) ≡ true) (sym q)
      (r.symmetric (tail g d) (other_end g (d / 2) (tail g d)) (step-without g (v ∷ []) (d / 2) (tail g d) (dart-edge g d l) (tail-end g d)
      (no_member-cons (tail g d) v [] (λ e. n (sym e)) refl)
      (no_member-cons (other_end g (d / 2) (tail g d)) v [] (λ e. far-off g ok v (d / 2) (dart-edge g d l) (q ∙ sym e)) refl)))
]
  where
    r : IsEquivalence (connected (ends_without g (v ∷ [])))
    r = connected-equivalence (ends_without g (v ∷ []))

-- so a dart of another vertex is related with the one that follows it
pub off-after : (g : Multigraph) (r : List (List ℕ)) → IsGraph g → IsRotationSystem g r → (v d : ℕ) → d < dart_count g → dart_after g r d < dart_count g → tail g d ≢ v → joined_off g v d (dart_after g r d) ≡ true
off-after g r ok s v d l k n = c.transitive (other_end g (d / 2) v) (tail g d) (other_end g (dart_after g r d / 2) v) (off-tail g ok v d l n)
    (c.symmetric (other_end g (dart_after g r d / 2) v) (tail g d)
    (subst (λ z. connected (ends_without g (v ∷ [])) (other_end g (dart_after g r d / 2) v) z ≡ true) (after-tail g r d ok s l)
    (off-tail g ok v (dart_after g r d) k (λ q. n (sym (after-tail g r d ok s l) ∙ q)))))
  where
    c : IsEquivalence (connected (ends_without g (v ∷ [])))
    c = connected-equivalence (ends_without g (v ∷ []))

-- related darts of v are of one block
pub off-block : (g : Multigraph) → IsGraph g → (v c d : ℕ) → c < dart_count g → d < dart_count g → tail g c ≡ v → tail g d ≡ v → joined_off g v c d ≡ true → SameBlock g (c / 2) (d / 2)
off-block g ok v c d l k p q t = joined-block g ok v (c / 2) (d / 2) (dart-edge g c l) (dart-edge g d k)
    (subst (λ z. is_end g z (c / 2) ≡ true) p (tail-end g c)) (subst (λ z. is_end g z (d / 2) ≡ true) q (tail-end g d)) t
