-- The cyclic order of a vertex, as it is read from the steps of a rotation system.
use Rattle.std.proofs.Common.{◌≡◌, ℕ, suc, ◌+◌, ◌-◌, ◌/◌, ◌<◌, true, false, List, [], ◌∷◌, ◌++◌, length, slice_index, refl, sym, ap, ◌∙◌, subst, arith, append_assoc}
use Rattle.std.proofs.lemmas.Bool.{both_ways, false_from_ne_true}
use Rattle.std.proofs.lemmas.List.{nil_from_length}
use Rattle.std.proofs.lemmas.List.Sorted.{length_permutation}
use Rattle.permutations.specs.Members.{is_member, is_distinct}
use Rattle.permutations.specs.Cyclic.{first_or, successor}
use Rattle.permutations.proofs.Members.{member-head, member-append_right, distinct-append_apart}
use Rattle.permutations.proofs.Successor.{successor-cut}
use Rattle.multigraph.specs.Graph.{Multigraph, incident_edges}
use Rattle.permutations.specs.Ring.{turns}
use Rattle.rotations.specs.Rotation.{order_at}
use Rattle.rotations.proofs.Membership.{member-edge, member-end}
use Rattle.faces.specs.Euler.{dart_from}
use Rattle.faces.proofs.DartLemmas.{dart_from-edge, dart_from-below, order-distinct, member-incident}
use Rattle.faces.proofs.MapSteps.{after-dart_from}
use Rattle.contract_obstruct.specs.Steps.{AreSteps}
use Rattle.multigraph.specs.Graph.{IsGraph}
use Rattle.faces.specs.Euler.{dart_count}
use Rattle.faces.proofs.MapSteps.{map-permutes}

-- one turn more
pub turns-next : (next edges : List ℕ) (d many k : ℕ) (all : List ℕ) → k < many → edges ++ turns next d (many - k) ≡ all → (edges ++ (d / 2) ∷ []) ++ turns next (slice_index next d) (many - (k + 1)) ≡ all
turns-next next edges d many k all l h = append_assoc edges ((d / 2) ∷ []) (turns next (slice_index next d) (many - (k + 1))) ∙ (ap (λ n. edges ++ turns next d n) (sym count) ∙ h)
  where
    count : many - k ≡ suc (many - (k + 1))
    count = omega arith

-- no turn left
pub turns-end : (next edges : List ℕ) (d many k : ℕ) (all : List ℕ) → many ≡ k → edges ++ turns next d (many - k) ≡ all → edges ≡ all
turns-end next edges d many k all e h = sym (right edges) ∙ (ap (λ n. edges ++ turns next d n) (sym none) ∙ h)
  where
    none : many - k ≡ 0
    none = omega arith

    right : (l : List ℕ) → l ++ [] ≡ l
    right [] = refl
    right (x ∷ xs) = ap (λ l. x ∷ l) (right xs)

module _ (g : Multigraph) (s : List (List ℕ)) (next : List ℕ) (a : AreSteps g s next) (v : ℕ) (lv : v < g.vertex_count) where
  -- from any place of the order to its end
  walk : (front back : List ℕ) (z : ℕ) → order_at s v ≡ front ++ back → turns next (dart_from g v (first_or z back)) (length back) ≡ back
  walk front [] z e = refl
  walk front (y ∷ ys) z e =
      (λ k. dart_from-edge g v y k ∷ turns next (step k) (length ys))
      ∙ ap (λ (l : List ℕ). y ∷ l) (walk (front ++ y ∷ []) ys (first_or y front) (e ∙ sym (append_assoc front (y ∷ []) ys)))
    where
      among : is_member y (order_at s v) ≡ true
      among = subst (λ (l : List ℕ). is_member y l ≡ true) (sym e) (member-append_right y front (y ∷ ys) (member-head y ys))

      incident : is_member y (incident_edges g v) ≡ true
      incident = member-incident g s v y a.system lv among

      new : is_member y front ≡ false
      new = false_from_ne_true (is_member y front)
          (λ m. both_ways (is_member y (y ∷ ys)) (distinct-append_apart front (y ∷ ys) (subst (λ (l : List ℕ). is_distinct l ≡ true) e (order-distinct g s v a.system lv)) y m) (member-head y ys))

      step : slice_index next (dart_from g v y) ≡ dart_from g v (first_or (first_or y front) ys)
      step = a.steps (dart_from g v y) (dart_from-below g v y (member-edge g v y incident)) ∙ (after-dart_from g s v y (member-end g v y incident)
          ∙ ap (dart_from g v) (ap (λ (l : List ℕ). successor l y) e ∙ successor-cut front y ys new))

  -- the whole order
  pub turns-order : turns next (dart_from g v (first_or 0 (incident_edges g v))) (length (incident_edges g v)) ≡ order_at s v
  turns-order = ap (λ z. turns next (dart_from g v z) (length (incident_edges g v))) (sym (a.system.orders v lv).least_first)
      ∙ (ap (turns next (dart_from g v (first_or 0 (order_at s v)))) (sym (length_permutation (incident_edges g v) (order_at s v) (a.system.orders v lv).arranged)) ∙ walk [] (order_at s v) 0 refl)

  -- no order, where there is no edge
  pub order-none : length (incident_edges g v) ≡ 0 → order_at s v ≡ []
  order-none e = nil_from_length (order_at s v) (length_permutation (incident_edges g v) (order_at s v) (a.system.orders v lv).arranged ∙ e)

-- steps lead to darts
pub steps-in : (g : Multigraph) → IsGraph g → (s : List (List ℕ)) (next : List ℕ) → AreSteps g s next → (d : ℕ) → d < dart_count g → slice_index next d < dart_count g
steps-in g i s next a d l = subst (λ z. z < dart_count g) (sym (a.steps d l)) ((map-permutes g s i a.system).forth d l)
