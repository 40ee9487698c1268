-- Darts entered as the contour's darts at the vertices that they leave, one after the other.
use Rattle.std.proofs.Common.{◌≡◌, ℕ, ◌+◌, ◌<◌, inl, inr, Bool, true, false, ◌||◌, ◌==◌, List, [], ◌∷◌, ◌++◌, length, take, drop, slice_index, slice_set, refl, sym, ap, ◌∙◌, subst, arith}
use Rattle.std.proofs.lemmas.Bool.{cases_Bool, cases_eq, eq-eqb, ne_eqb, both_ways, true≢false}
use Rattle.std.proofs.lemmas.List.{get_or-set_same, get_or-set_other, get_or_default, length-set, map-append, take-append-drop}
use Rattle.permutations.specs.Members.{is_member, is_distinct}
use Rattle.permutations.proofs.Members.{member-append, member-append_left, member-append_cases, member-cases, no_member-append_left, no_member-append_right, no_member-head}
use Rattle.permutations.proofs.Mapped.{member-map}
use Rattle.permutations.proofs.Arrangements.{all-member}
use Rattle.dart_maps.specs.Map.{twin, face}
use Rattle.multigraph.specs.Graph.{Multigraph, edge_count}
use Rattle.multigraph.specs.Marks.{is_marked}
use Rattle.faces.specs.Euler.{tail, dart_count}
use Rattle.triangulations.specs.Listed.{ListedMap}
use Rattle.canonical_orders.specs.State.{IsTriangulatedMap, IsMet, AreEntered, heads_of, tails_of, third_darts}
use Rattle.canonical_orders.proofs.Lists.{map-through}
use Rattle.triangulations.proofs.SimpleMaps.{face-in, tail-face}
use Rattle.canonical_orders.proofs.Counting.{images-take, image-new}

-- the test of equality has no side
pub eqb-sides : (a b : ℕ) → (a == b) ≡ (b == a)
eqb-sides a b = elim (cases_eq a b) [ inl e ↦ eq-eqb a b e ∙ sym (eq-eqb b a (sym e)) | inr n ↦ ne_eqb a b n ∙ sym (ne_eqb b a (λ e. n (sym e))) ]

-- no dart yet
pub entered-none : (h : Multigraph) (before : List ℕ) → AreEntered h [] before before
entered-none h before = record { each = refl; new = λ d m. absurd (true≢false (sym m)); old = λ v n. refl }

-- and one dart more
pub entered-more : (h : Multigraph) (d : ℕ) (darts before now : List ℕ) → is_member (tail h d) (tails_of h darts) ≡ false → tail h d < length before → AreEntered h darts before now → AreEntered h (darts ++ d ∷ []) before (slice_set now (tail h d) d)
entered-more h d darts before now n l k = record {
  each = length-set now (tail h d) d ∙ k.each;
  new = λ c m. elim (member-append_cases c darts (d ∷ []) m) [
    | inl i ↦ get_or-set_other now (tail h d) (tail h c) d 0 (λ e. both_ways (is_member (tail h d) (tails_of h darts)) n (subst (λ (z : ℕ). is_member z (tails_of h darts) ≡ true) e (member-map (tail h) darts c i))) ∙ k.new c i
    | inr i ↦ elim (member-cases c d [] i) [
      | inl e ↦ subst (λ (z : ℕ). slice_index (slice_set now (tail h d) d) (tail h z) ≡ z) e (get_or-set_same now (tail h d) d 0 (omega (arith, l, k.each)))
      | inr z ↦ absurd (true≢false (sym z))
    ]
  ];
  old = λ v m. let apart = sym (ap (is_member v) (map-append (tail h) darts (d ∷ []))) ∙ m in
      get_or-set_other now (tail h d) v d 0 (λ e. no_member-head v (tail h d) [] (no_member-append_right v (tails_of h darts) (tail h d ∷ []) apart) (sym e))
      ∙ k.old v (no_member-append_left v (tails_of h darts) (tail h d ∷ []) apart);
}

-- where arms lead: the third darts of their triangles leave these vertices
pub third-tails : (t : ListedMap) → IsTriangulatedMap t → (arms : List ℕ) → ((e : ℕ) → is_member e arms ≡ true → e < dart_count t.graph) → tails_of t.graph (third_darts t arms) ≡ heads_of t.graph arms
third-tails t i arms inside = map-through (tail t.graph) (face (slice_index t.next)) (λ e. tail t.graph (twin e)) arms (λ e m. tail-face (edge_count t.graph) t.graph (slice_index t.next) (slice_index t.previous) i.map e (inside e m))

-- the loop so far: the third darts of the first k arms are entered
pub record IsEntering (t : ListedMap) (arms : List ℕ) (k : ℕ) (left : List ℕ) (on : List Bool) (left_now : List ℕ) (on_now : List Bool) (met_now : List ℕ) : Type 0 where
  pub entered : AreEntered t.graph (third_darts t (take k arms)) left left_now
  pub marked : (v : ℕ) → is_marked on_now v ≡ (is_marked on v || is_member v (heads_of t.graph (take k arms)))
  pub met : IsMet t.graph on_now met_now

-- an arm among the first k is an arm
pub take-in : (arms : List ℕ) (n k : ℕ) → k < length arms → ((j : ℕ) → j < length arms → slice_index arms j < n) → (e : ℕ) → is_member e (take k arms) ≡ true → e < n
take-in arms n k l f e m = all-member (λ (z : ℕ). z < n) arms e (λ j d h. subst (λ (z : ℕ). z < n) (get_or_default arms j 0 d h) (f j h))
    (ap (is_member e) (sym (take-append-drop k arms)) ∙ member-append_left e (take k arms) (drop k arms) m)

pub entering-none : (t : ListedMap) (arms left : List ℕ) (on : List Bool) (met : List ℕ) → IsMet t.graph on met → IsEntering t arms 0 left on left on met
entering-none t arms left on met k = record { entered = entered-none t.graph left; marked = λ v. none (is_marked on v); met = k }
  where
    none : (b : Bool) → b ≡ (b || false)
    none b = grind (arith, cases_Bool b)

pub entering-more : (t : ListedMap) → IsTriangulatedMap t → (arms : List ℕ) (k : ℕ) (left : List ℕ) (on : List Bool) (left_now : List ℕ) (on_now : List Bool) (met_now : List ℕ) (on_new : List Bool) (met_new : List ℕ)
    → k < length arms → ((j : ℕ) → j < length arms → slice_index arms j < dart_count t.graph) → is_distinct (heads_of t.graph arms) ≡ true → length left ≡ t.graph.vertex_count
    → IsEntering t arms k left on left_now on_now met_now
    → ((v : ℕ) → is_marked on_new v ≡ (is_marked on_now v || (v == tail t.graph (face (slice_index t.next) (slice_index arms k))))) → IsMet t.graph on_new met_new
    → IsEntering t arms (k + 1) left on (slice_set left_now (tail t.graph (face (slice_index t.next) (slice_index arms k))) (face (slice_index t.next) (slice_index arms k))) on_new met_new
entering-more t i arms k left on left_now on_now met_now on_new met_new l inside differ each w marked met = record {
  entered = subst (λ (s : List ℕ). AreEntered t.graph s left (slice_set left_now (tail t.graph d) d)) (sym (images-take (face (slice_index t.next)) arms k l))
      (entered-more t.graph d (third_darts t (take k arms)) left left_now fresh (omega (arith, each, within)) w.entered);
  marked = λ v. marked v ∙ ap (λ (b : Bool). b || (v == tail t.graph d)) (w.marked v) ∙ joined v;
  met = met;
}
  where
    d : ℕ
    d = face (slice_index t.next) (slice_index arms k)

    leaves : tail t.graph d ≡ tail t.graph (twin (slice_index arms k))
    leaves = tail-face (edge_count t.graph) t.graph (slice_index t.next) (slice_index t.previous) i.map (slice_index arms k) (inside k l)

    within : tail t.graph d < t.graph.vertex_count
    within = i.map.drawn.inside d (face-in (edge_count t.graph) t.graph (slice_index t.next) (slice_index t.previous) i.map (slice_index arms k) (inside k l))

    fresh : is_member (tail t.graph d) (tails_of t.graph (third_darts t (take k arms))) ≡ false
    fresh = ap (is_member (tail t.graph d)) (third-tails t i (take k arms) (take-in arms (dart_count t.graph) k l inside)) ∙ ap (λ (z : ℕ). is_member z (heads_of t.graph (take k arms))) leaves
        ∙ image-new (λ e. tail t.graph (twin e)) arms k l differ

    shuffle : (a b c : Bool) → ((a || b) || c) ≡ (a || (b || (c || false)))
    shuffle a b c = grind (arith, cases_Bool a, cases_Bool b, cases_Bool c)

    joined : (v : ℕ) → ((is_marked on v || is_member v (heads_of t.graph (take k arms))) || (v == tail t.graph d)) ≡ (is_marked on v || is_member v (heads_of t.graph (take (k + 1) arms)))
    joined v = shuffle (is_marked on v) (is_member v (heads_of t.graph (take k arms))) (v == tail t.graph d)
        ∙ ap (λ (b : Bool). is_marked on v || (is_member v (heads_of t.graph (take k arms)) || (b || false))) (eqb-sides v (tail t.graph d) ∙ ap (λ (z : ℕ). z == v) leaves)
        ∙ ap (λ (b : Bool). is_marked on v || b) (sym (member-append v (heads_of t.graph (take k arms)) (tail t.graph (twin (slice_index arms k)) ∷ [])))
        ∙ ap (λ (s : List ℕ). is_marked on v || is_member v s) (sym (images-take (λ e. tail t.graph (twin e)) arms k l))
