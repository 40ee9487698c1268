-- Going up the darts in order, with the orbits found so far marked and listed: a dart is met unmarked exactly where it is the
-- least of its orbit.
use Rattle.std.proofs.Common.{◌≡◌, ℕ, zero, suc, ◌+◌, ◌/◌, ◌<◌, ◌≤◌, Bool, true, false, not, ◌&&◌, ◌||◌, ◌==◌, cond, List, [], ◌∷◌, ◌++◌, length, get_or, take, map, filter, inl, inr, refl, sym, ap, ap₂, ◌∙◌, subst, arith}
use Rattle.std.specs.List.{All}
use Rattle.std.proofs.Math.Bool.{or-false}
use Rattle.std.proofs.lemmas.Bool.{cases_Bool, cases_order, and_parts}
use Rattle.std.proofs.lemmas.List.{map-append, append-nil, length-map}
use Rattle.std.proofs.lemmas.List.Elements.{filter_more, All-from_get_or, All-head, All-tail}
use Rattle.std.proofs.lemmas.List.Sums.{length-filter, count_by-le-length}
use Rattle.permutations.specs.Count.{some}
use Rattle.permutations.specs.Permutation.{iterate, reaches}
use Rattle.permutations.proofs.Search.{some-from, some-witness, some-more, some-ext, least-ext}
use Rattle.permutations.proofs.Relation.{same-tests}
use Rattle.permutations.proofs.Iterates.{iterate-ext}
use Rattle.multigraph.specs.Graph.{Multigraph, IsGraph, IsWithinLimits}
use Rattle.multigraph.proofs.OtherEnd.{end-in}
use Rattle.faces.specs.Euler.{tail, dart_count}
use Rattle.faces.specs.Marks.{IsPermutationBelow}
use Rattle.multigraph.specs.Marks.{is_marked}
use Rattle.permutations.specs.Ring.{orbit_length}
use Rattle.faces.specs.Trace.{pair_of, precedes, darts_in_order, is_least, pairs_along, orbit_pairs, orbit_lists}
use Rattle.faces.proofs.DartLemmas.{dart-edge, tail-end}
use Rattle.faces.proofs.Order.{InOrder, order-all, order-few, precedes-apart}
use Rattle.faces.proofs.Reaching.{reaches-back, reaches-through, reaches-image, reaches-ext}

-- the first k darts of the order are done: what they reach is marked, and the orbits that begin among them are listed
pub record ListedBelow (g : Multigraph) (f : ℕ → ℕ) (order : List ℕ) (k : ℕ) (marks : List Bool) (lists : List (List (ℕ × ℕ))) : Type 0 where
  pub marked : (x : ℕ) → is_marked marks x ≡ some k (λ i. reaches (dart_count g) f (get_or order i 0) x)
  pub listed : lists ≡ map (orbit_pairs g f) (filter (is_least g f) (take k order))

-- a dart's image is marked exactly where it is
pub listed-whole : (g : Multigraph) (f : ℕ → ℕ) (order : List ℕ) (v k : ℕ) (marks : List Bool) (lists : List (List (ℕ × ℕ))) → IsPermutationBelow (dart_count g) f → InOrder g v order → ListedBelow g f order k marks lists → k ≤ length order
    → (x : ℕ) → x < dart_count g → is_marked marks (f x) ≡ is_marked marks x
listed-whole g f order v k marks lists p o m l x b =
    m.marked (f x) ∙ some-ext k (λ i. reaches (dart_count g) f (get_or order i 0) (f x)) (λ i. reaches (dart_count g) f (get_or order i 0) x) (λ i h. reaches-image (dart_count g) f p (get_or order i 0) x (o.darts i (omega arith)) b) ∙ sym (m.marked x)

-- the next dart of the order is the least of its orbit exactly where it is unmarked
pub listed-least : (g : Multigraph) (f : ℕ → ℕ) (order : List ℕ) (k : ℕ) (marks : List Bool) (lists : List (List (ℕ × ℕ))) → IsGraph g → IsPermutationBelow (dart_count g) f → InOrder g g.vertex_count order → ListedBelow g f order k marks lists → k < length order
    → is_least g f (get_or order k 0) ≡ not (is_marked marks (get_or order k 0))
listed-least g f order k marks lists ok p o m l =
    ap not (same-tests (some (dart_count g) (λ c. reaches (dart_count g) f (get_or order k 0) c && precedes g c (get_or order k 0))) (some k (λ i. reaches (dart_count g) f (get_or order i 0) (get_or order k 0))) forth back ∙ sym (m.marked (get_or order k 0)))
  where
    earlier : (i : ℕ) → i < length order → precedes g (get_or order i 0) (get_or order k 0) ≡ true → i < k
    earlier i b t = elim (cases_order i k) [
      | inl s ↦
          let itself : precedes g (get_or order k 0) (get_or order k 0) ≡ true = subst (λ j. precedes g (get_or order j 0) (get_or order k 0) ≡ true) s t in
          absurd (precedes-apart g (get_or order k 0) (get_or order k 0) itself itself)
      | inr s ↦ elim s [
        | inl less ↦ less
        | inr more ↦ absurd (precedes-apart g (get_or order i 0) (get_or order k 0) t (o.sorted k i more b))
      ]
    ]

    forth : some (dart_count g) (λ c. reaches (dart_count g) f (get_or order k 0) c && precedes g c (get_or order k 0)) ≡ true → some k (λ i. reaches (dart_count g) f (get_or order i 0) (get_or order k 0)) ≡ true
    forth t =
        let w : (c : ℕ) × (c < dart_count g) × ((reaches (dart_count g) f (get_or order k 0) c && precedes g c (get_or order k 0)) ≡ true) = some-witness (dart_count g) (λ c. reaches (dart_count g) f (get_or order k 0) c && precedes g c (get_or order k 0)) t in
        let parts : (reaches (dart_count g) f (get_or order k 0) w.0 ≡ true) × (precedes g w.0 (get_or order k 0) ≡ true) = and_parts (reaches (dart_count g) f (get_or order k 0) w.0) (precedes g w.0 (get_or order k 0)) w.2 in
        let v : (i : ℕ) × (i < length order) × (get_or order i 0 ≡ w.0) = o.complete w.0 w.1 (end-in g (tail g w.0) (w.0 / 2) ok (dart-edge g w.0 w.1) (tail-end g w.0)) in
        let first : precedes g (get_or order v.0 0) (get_or order k 0) ≡ true = subst (λ c. precedes g c (get_or order k 0) ≡ true) (sym v.2) parts.1 in
        let back_there : reaches (dart_count g) f w.0 (get_or order k 0) ≡ true = reaches-back (dart_count g) f p (get_or order k 0) w.0 (o.darts k l) parts.0 in
        some-from k (λ i. reaches (dart_count g) f (get_or order i 0) (get_or order k 0)) v.0 (earlier v.0 v.1 first) (subst (λ c. reaches (dart_count g) f c (get_or order k 0) ≡ true) (sym v.2) back_there)

    back : some k (λ i. reaches (dart_count g) f (get_or order i 0) (get_or order k 0)) ≡ true → some (dart_count g) (λ c. reaches (dart_count g) f (get_or order k 0) c && precedes g c (get_or order k 0)) ≡ true
    back t =
        let w : (i : ℕ) × (i < k) × (reaches (dart_count g) f (get_or order i 0) (get_or order k 0) ≡ true) = some-witness k (λ i. reaches (dart_count g) f (get_or order i 0) (get_or order k 0)) t in
        let below : w.0 < k = w.1 in
        let inside : w.0 < length order = omega arith in
        let there : reaches (dart_count g) f (get_or order k 0) (get_or order w.0 0) ≡ true = reaches-back (dart_count g) f p (get_or order w.0 0) (get_or order k 0) (o.darts w.0 inside) w.2 in
        some-from (dart_count g) (λ c. reaches (dart_count g) f (get_or order k 0) c && precedes g c (get_or order k 0)) (get_or order w.0 0) (o.darts w.0 inside) (ap₂ (λ a b. a && b) there (o.sorted w.0 k w.1 l))

-- a marked dart adds nothing
pub listed-skip : (g : Multigraph) (f : ℕ → ℕ) (order : List ℕ) (k : ℕ) (marks : List Bool) (lists : List (List (ℕ × ℕ))) → IsGraph g → IsPermutationBelow (dart_count g) f → InOrder g g.vertex_count order → ListedBelow g f order k marks lists → k < length order
    → is_marked marks (get_or order k 0) ≡ true → ListedBelow g f order (k + 1) marks lists
listed-skip g f order k marks lists ok p o m l e = record {
  marked = λ x. m.marked x ∙ sym (some-more k (λ i. reaches (dart_count g) f (get_or order i 0) x) ∙ within x);
  listed = m.listed ∙ ap (map (orbit_pairs g f)) (sym same);
}
  where
    later : is_least g f (get_or order k 0) ≡ false
    later = listed-least g f order k marks lists ok p o m l ∙ ap not e

    same : filter (is_least g f) (take (k + 1) order) ≡ filter (is_least g f) (take k order)
    same = filter_more (is_least g f) order k 0 l ∙ ap (λ b. filter (is_least g f) (take k order) ++ cond b (get_or order k 0 ∷ []) []) later ∙ append-nil (filter (is_least g f) (take k order))

    earlier : (x : ℕ) → reaches (dart_count g) f (get_or order k 0) x ≡ true → some k (λ i. reaches (dart_count g) f (get_or order i 0) x) ≡ true
    earlier x t =
        let w : (i : ℕ) × (i < k) × (reaches (dart_count g) f (get_or order i 0) (get_or order k 0) ≡ true) = some-witness k (λ i. reaches (dart_count g) f (get_or order i 0) (get_or order k 0)) (sym (m.marked (get_or order k 0)) ∙ e) in
        let below : w.0 < k = w.1 in
        some-from k (λ i. reaches (dart_count g) f (get_or order i 0) x) w.0 w.1 (reaches-through (dart_count g) f p (get_or order w.0 0) (get_or order k 0) x (o.darts w.0 (omega arith)) w.2 t)

    within : (x : ℕ) → (some k (λ i. reaches (dart_count g) f (get_or order i 0) x) || reaches (dart_count g) f (get_or order k 0) x) ≡ some k (λ i. reaches (dart_count g) f (get_or order i 0) x)
    within x = elim (cases_Bool (reaches (dart_count g) f (get_or order k 0) x)) [
      | inl t ↦ ap (λ b. b || reaches (dart_count g) f (get_or order k 0) x) (earlier x t) ∙ sym (earlier x t)
      | inr t ↦ ap (λ b. some k (λ i. reaches (dart_count g) f (get_or order i 0) x) || b) t ∙ or-false (some k (λ i. reaches (dart_count g) f (get_or order i 0) x))
    ]

-- an unmarked dart begins an orbit, which is marked and listed now
pub listed-more : (g : Multigraph) (f : ℕ → ℕ) (order : List ℕ) (k : ℕ) (before now : List Bool) (lists : List (List (ℕ × ℕ))) (pairs : List (ℕ × ℕ)) → IsGraph g → IsPermutationBelow (dart_count g) f → InOrder g g.vertex_count order → ListedBelow g f order k before lists → k < length order
    → is_marked before (get_or order k 0) ≡ false → ((x : ℕ) → is_marked now x ≡ (is_marked before x || reaches (dart_count g) f (get_or order k 0) x)) → pairs ≡ orbit_pairs g f (get_or order k 0)
    → ListedBelow g f order (k + 1) now (lists ++ pairs ∷ [])
listed-more g f order k before now lists pairs ok p o m l e h is = record {
  marked = λ x. h x ∙ ap (λ b. b || reaches (dart_count g) f (get_or order k 0) x) (m.marked x) ∙ sym (some-more k (λ i. reaches (dart_count g) f (get_or order i 0) x));
  listed = ap₂ (λ ls ps. ls ++ ps ∷ []) m.listed is ∙ sym (map-append (orbit_pairs g f) (filter (is_least g f) (take k order)) (get_or order k 0 ∷ [])) ∙ ap (map (orbit_pairs g f)) (sym one);
}
  where
    first : is_least g f (get_or order k 0) ≡ true
    first = listed-least g f order k before lists ok p o m l ∙ ap not e

    one : filter (is_least g f) (take (k + 1) order) ≡ filter (is_least g f) (take k order) ++ get_or order k 0 ∷ []
    one = filter_more (is_least g f) order k 0 l ∙ ap (λ b. filter (is_least g f) (take k order) ++ cond b (get_or order k 0 ∷ []) []) first

-- there are at most as many as darts
pub lists-few : (g : Multigraph) (f : ℕ → ℕ) → IsGraph g → IsWithinLimits g → length (orbit_lists g f) ≤ 100000
lists-few g f ok limits = omega (arith, length-map (filter (is_least g f) (darts_in_order g)) (orbit_pairs g f), length-filter (is_least g f) (darts_in_order g), count_by-le-length (is_least g f) (darts_in_order g), order-few g g.vertex_count (darts_in_order g) (order-all g ok), limits.few_edges)

-- two functions that agree on the darts list the same pairs
pub along-ext : (n : ℕ) (g : Multigraph) (f h : ℕ → ℕ) → IsPermutationBelow n f → ((x : ℕ) → x < n → f x ≡ h x) → (d k : ℕ) → d < n → pairs_along g f d k ≡ pairs_along g h d k
along-ext n g f h p e d zero l = refl
along-ext n g f h p e d (suc k) l = ap₂ (λ ps c. ps ++ pair_of g c ∷ []) (along-ext n g f h p e d k l) (iterate-ext n f h p.1.forth e k d l).0

pub orbit_pairs-ext : (g : Multigraph) (f h : ℕ → ℕ) → IsPermutationBelow (dart_count g) f → ((x : ℕ) → x < dart_count g → f x ≡ h x) → (d : ℕ) → d < dart_count g → orbit_pairs g f d ≡ orbit_pairs g h d
orbit_pairs-ext g f h p e d l =
    let long : orbit_length (dart_count g) f d ≡ orbit_length (dart_count g) h d = ap (λ k. k + 1) (least-ext (dart_count g) (λ k. iterate f (k + 1) d == d) (λ k. iterate h (k + 1) d == d) (λ k m. ap (λ c. c == d) (iterate-ext (dart_count g) f h p.1.forth e (k + 1) d l).0)) in
    along-ext (dart_count g) g f h p e d (orbit_length (dart_count g) f d) l ∙ ap (pairs_along g h d) long

pub is_least-ext : (g : Multigraph) (f h : ℕ → ℕ) → IsPermutationBelow (dart_count g) f → ((x : ℕ) → x < dart_count g → f x ≡ h x) → (d : ℕ) → d < dart_count g → is_least g f d ≡ is_least g h d
is_least-ext g f h p e d l = ap not (some-ext (dart_count g) (λ c. reaches (dart_count g) f d c && precedes g c d) (λ c. reaches (dart_count g) h d c && precedes g c d) (λ c m. ap (λ b. b && precedes g c d) (reaches-ext (dart_count g) f h e p d c l)))

-- what two tests and two functions that agree on a list give of it
pub picked-ext : (n : ℕ) (p q : ℕ → Bool) (f h : ℕ → List (ℕ × ℕ)) → ((d : ℕ) → d < n → p d ≡ q d) → ((d : ℕ) → d < n → f d ≡ h d) → (l : List ℕ) → All (λ d. d < n) l → map f (filter p l) ≡ map h (filter q l)
picked-ext n p q f h s e [] a = refl
picked-ext n p q f h s e (d ∷ l) a =
    let here : d < n = All-head (λ d. d < n) d l a in
    let rest : map f (filter p l) ≡ map h (filter q l) = picked-ext n p q f h s e l (All-tail (λ d. d < n) d l a) in
    elim (cases_Bool (q d)) [
      | inl t ↦ let u : p d ≡ true = s d here ∙ t in rw (u, t) (ap₂ (λ x xs. x ∷ xs) (e d here) rest)
      | inr t ↦ let u : p d ≡ false = s d here ∙ t in rw (u, t) rest
    ]

pub lists-ext : (g : Multigraph) (f h : ℕ → ℕ) → IsGraph g → IsPermutationBelow (dart_count g) f → ((x : ℕ) → x < dart_count g → f x ≡ h x) → orbit_lists g f ≡ orbit_lists g h
lists-ext g f h ok p e =
    picked-ext (dart_count g) (is_least g f) (is_least g h) (orbit_pairs g f) (orbit_pairs g h) (is_least-ext g f h p e) (orbit_pairs-ext g f h p e) (darts_in_order g) (All-from_get_or (λ d. d < dart_count g) (darts_in_order g) 0 (order-all g ok).darts)
