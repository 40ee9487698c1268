-- The list of the face steps: it grows by both darts of an edge at once, and its orbits are the faces.
use Rattle.std.proofs.Common.{◌≡◌, ℕ, ◌+◌, ◌*◌, ◌/◌, ◌<◌, ◌≤◌, List, [], ◌∷◌, ◌++◌, length, slice_index, inl, inr, refl, sym, ap, ap₂, ◌∙◌, subst, arith, length-append}
use Rattle.std.proofs.lemmas.Bool.{cases_lt}
use Rattle.std.proofs.lemmas.List.{get_or_push, get_or_append_left}
use Rattle.permutations.specs.Count.{count}
use Rattle.permutations.specs.Permutation.{Permutes}
use Rattle.permutations.specs.Relation.{connected, leads}
use Rattle.permutations.proofs.Permutations.{permutes-ext}
use Rattle.permutations.proofs.Count.{count-within}
use Rattle.multigraph.specs.Graph.{Multigraph, IsGraph, IsWithinLimits, edge_count, ends_of, other_end}
use Rattle.multigraph.proofs.OtherEnd.{other_end-of_first, other_end-of_second}
use Rattle.rotations.specs.Rotation.{IsRotationSystem}
use Rattle.faces.specs.Euler.{dart_count, face_step, begins_orbit, is_isolated, face_count, component_count}
use Rattle.faces.specs.Marks.{IsPermutationBelow}
use Rattle.faces.specs.Steps.{AreStepsBelow, AreFaceSteps}
use Rattle.faces.proofs.DartLemmas.{onward, face_back, face_step-permutes, tail-first, tail-second}
use Rattle.faces.proofs.Starts.{starts-ext}

-- the first dart of an edge goes on from the edge's second end
pub face_step-first : (g : Multigraph) (r : List (List ℕ)) (e : ℕ) → face_step g r (2 * e) ≡ onward g r (ends_of g e).1 e
face_step-first g r e =
    let half : (2 * e) / 2 ≡ e = omega arith in
    ap₂ (λ v k. onward g r (other_end g k v) k) (tail-first g e) half ∙ ap (λ v. onward g r v e) (other_end-of_first g e (ends_of g e).0 refl)

-- and the second from the first end
pub face_step-second : (g : Multigraph) (r : List (List ℕ)) (e : ℕ) → IsGraph g → e < edge_count g → face_step g r (2 * e + 1) ≡ onward g r (ends_of g e).0 e
face_step-second g r e ok l =
    let half : (2 * e + 1) / 2 ≡ e = omega arith in
    ap₂ (λ v k. onward g r (other_end g k v) k) (tail-second g e) half ∙ ap (λ v. onward g r v e) (other_end-of_second g e (ends_of g e).1 refl (ok.no_loop e l))

-- one dart more
pub steps-push : (g : Multigraph) (r : List (List ℕ)) (n : ℕ) (s : List ℕ) (a : ℕ) → AreStepsBelow g r n s → a ≡ face_step g r n → AreStepsBelow g r (n + 1) (s ++ a ∷ [])
steps-push g r n s a all e = record {
  darts = omega (arith, length-append s (a ∷ []), all.darts);
  each = λ d l. each d l;
}
  where
    long : length s ≡ n
    long = all.darts

    each : (d : ℕ) → d < n + 1 → slice_index (s ++ a ∷ []) d ≡ face_step g r d
    each d l = elim (cases_lt d n) [
      | inl below ↦
          let inside : d < length s = omega arith in
          get_or_append_left s (a ∷ []) 0 d inside ∙ all.each d below
      | inr above ↦
          let last : length s ≡ d = omega arith in
          let here : n ≡ d = omega arith in
          get_or_push s a 0 d last ∙ e ∙ ap (face_step g r) here
    ]

-- both darts of an edge more
pub steps-more : (g : Multigraph) (r : List (List ℕ)) (e : ℕ) (s : List ℕ) (a b : ℕ) → IsGraph g → e < edge_count g → AreStepsBelow g r (2 * e) s
    → a ≡ onward g r (ends_of g e).1 e → b ≡ onward g r (ends_of g e).0 e → AreStepsBelow g r (2 * (e + 1)) ((s ++ a ∷ []) ++ b ∷ [])
steps-more g r e s a b ok l all one two =
    let sum : 2 * e + 1 + 1 ≡ 2 * (e + 1) = omega arith in
    subst (λ n. AreStepsBelow g r n ((s ++ a ∷ []) ++ b ∷ [])) sum
    (steps-push g r (2 * e + 1) (s ++ a ∷ []) b (steps-push g r (2 * e) s a all (one ∙ sym (face_step-first g r e))) (two ∙ sym (face_step-second g r e ok l)))

-- the face steps permute the darts
pub steps-permutation : (g : Multigraph) (r : List (List ℕ)) (s : List ℕ) → IsGraph g → IsRotationSystem g r → AreFaceSteps g r s → IsPermutationBelow (length s) (slice_index s)
steps-permutation g r s ok system all = (
  face_back g r,
  subst (λ n. Permutes n (slice_index s) (face_back g r)) (sym all.darts) (permutes-ext (dart_count g) (face_step g r) (face_back g r) (slice_index s) (face_back g r) (face_step-permutes g r ok system) all.each (λ d l. refl)),
)

-- their orbits are the faces
pub steps-faces : (g : Multigraph) (r : List (List ℕ)) (s : List ℕ) → IsGraph g → IsRotationSystem g r → AreFaceSteps g r s → count (length s) (begins_orbit (length s) (slice_index s)) ≡ count (dart_count g) (begins_orbit (dart_count g) (face_step g r))
steps-faces g r s ok system all =
    ap (λ n. count n (begins_orbit n (slice_index s))) all.darts
    ∙ sym (starts-ext (dart_count g) (face_step g r) (slice_index s) (λ d l. sym (all.each d l)) (face_back g r, face_step-permutes g r ok system))

-- the limits keep all its numbers small
pub faces-few : (g : Multigraph) (r : List (List ℕ)) → IsWithinLimits g → face_count g r ≤ 120000
faces-few g r limits = omega (arith, count-within (dart_count g) (begins_orbit (dart_count g) (face_step g r)), count-within g.vertex_count (is_isolated g), limits.few_vertices, limits.few_edges)

pub components-few : (g : Multigraph) → IsWithinLimits g → component_count g ≤ 20000
components-few g limits = omega (arith, count-within g.vertex_count (leads (connected g.ends)), limits.few_vertices)
