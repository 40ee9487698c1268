-- The lists of a map after an edge was added.
use Rattle.std.proofs.Common.{◌≡◌, ◌≢◌, ℕ, ◌+◌, ◌*◌, ◌<◌, List, [], ◌∷◌, ◌++◌, length, slice_index, slice_set, sym, ap, ◌∙◌, subst, arith}
use Rattle.std.proofs.lemmas.List.{length-append}
use Rattle.permutations.specs.Permutation.{Permutes}
use Rattle.dart_maps.specs.Map.{twin, face}
use Rattle.dart_maps.proofs.Darts.{twin-below}
use Rattle.multigraph.specs.Graph.{edge_count}
use Rattle.multigraph.specs.Build.{multigraph_of}
use Rattle.faces.specs.Euler.{tail, dart_count}
use Rattle.triangulations.specs.Listed.{ListedMap, IsListed, IsMapOf, IsCut, listed}
use Rattle.triangulations.proofs.Inserted.{changed-q, changed-p, changed-first, changed-second, changed-old, inserted-permutes}

-- the twin of the next dart along the face is a dart
pub last-in : (t : ListedMap) (d : ℕ) → IsMapOf t → d < dart_count t.graph → twin (face (slice_index t.next) d) < dart_count t.graph
last-in t d map l = twin-below (edge_count t.graph) (face (slice_index t.next) d) (map.forth (twin d) (twin-below (edge_count t.graph) d l))

module _ (n : ℕ) (ends : List (ℕ × ℕ)) (next prev : List ℕ) (d before last after first : ℕ) (link : ℕ × ℕ) (listed' : IsListed (listed n ends next prev)) (map : IsMapOf (listed n ends next prev)) (ld : d < dart_count (multigraph_of n ends))
    (corners : slice_index prev d ≢ twin (face (slice_index next) d)) (is_before : before ≡ slice_index prev d) (is_last : last ≡ twin (face (slice_index next) d)) (is_after : after ≡ slice_index next last) (is_first : first ≡ dart_count (multigraph_of n ends))
    (is_link : link ≡ (tail (multigraph_of n ends) d, tail (multigraph_of n ends) last)) (ends' : List (ℕ × ℕ)) (next' prev' : List ℕ) (are_ends : ends' ≡ ends ++ link ∷ [])
    (are_next : next' ≡ slice_set (slice_set ((next ++ d ∷ []) ++ after ∷ []) before first) last (first + 1)) (are_prev : prev' ≡ slice_set (slice_set ((prev ++ before ∷ []) ++ last ∷ []) d first) after (first + 1)) where
  abbrev p : ℕ
  p = slice_index prev d

  abbrev q : ℕ
  q = twin (face (slice_index next) d)

  abbrev x : ℕ
  x = slice_index next (twin (face (slice_index next) d))

  abbrev k : ℕ
  k = dart_count (multigraph_of n ends)

  lq : twin (face (slice_index next) d) < dart_count (multigraph_of n ends)
  lq = last-in (listed n ends next prev) d map ld

  lp : slice_index prev d < dart_count (multigraph_of n ends)
  lp = map.back d ld

  lx : slice_index next (twin (face (slice_index next) d)) < dart_count (multigraph_of n ends)
  lx = map.forth q lq

  -- the dart after the second corner is not d
  dx : d ≢ x
  dx i = corners (ap (slice_index prev) i ∙ map.back_forth q lq)

  is_x : after ≡ x
  is_x = is_after ∙ ap (slice_index next) is_last

  -- the lists, by the places of the map
  next-is : next' ≡ slice_set (slice_set ((next ++ d ∷ []) ++ x ∷ []) p k) q (k + 1)
  next-is = are_next ∙ ap (λ z. slice_set (slice_set ((next ++ d ∷ []) ++ z ∷ []) before first) last (first + 1)) is_x ∙ ap (λ z. slice_set (slice_set ((next ++ d ∷ []) ++ x ∷ []) z first) last (first + 1)) is_before
      ∙ ap (λ z. slice_set (slice_set ((next ++ d ∷ []) ++ x ∷ []) p first) z (first + 1)) is_last ∙ ap (λ z. slice_set (slice_set ((next ++ d ∷ []) ++ x ∷ []) p z) q (z + 1)) is_first

  prev-is : prev' ≡ slice_set (slice_set ((prev ++ p ∷ []) ++ q ∷ []) d k) x (k + 1)
  prev-is = are_prev ∙ ap (λ z. slice_set (slice_set ((prev ++ z ∷ []) ++ last ∷ []) d first) after (first + 1)) is_before ∙ ap (λ z. slice_set (slice_set ((prev ++ p ∷ []) ++ z ∷ []) d first) after (first + 1)) is_last
      ∙ ap (λ z. slice_set (slice_set ((prev ++ p ∷ []) ++ q ∷ []) d first) z (first + 1)) is_x ∙ ap (λ z. slice_set (slice_set ((prev ++ p ∷ []) ++ q ∷ []) d z) x (z + 1)) is_first

  at-p : slice_index next' p ≡ k
  at-p = ap (λ l. slice_index l p) next-is ∙ changed-p next k d x listed'.next_each p q lp lq corners

  at-q : slice_index next' q ≡ k + 1
  at-q = ap (λ l. slice_index l q) next-is ∙ changed-q next k d x listed'.next_each p q lp lq corners

  at-first : slice_index next' k ≡ d
  at-first = ap (λ l. slice_index l k) next-is ∙ changed-first next k d x listed'.next_each p q lp lq corners

  at-second : slice_index next' (k + 1) ≡ x
  at-second = ap (λ l. slice_index l (k + 1)) next-is ∙ changed-second next k d x listed'.next_each p q lp lq corners

  at-old : (c : ℕ) → c < k → c ≢ p → c ≢ q → slice_index next' c ≡ slice_index next c
  at-old c l i j = ap (λ z. slice_index z c) next-is ∙ changed-old next k d x listed'.next_each p q lp lq corners c l i j

  new-map : Permutes (k + 2) (slice_index next') (slice_index prev')
  new-map = inserted-permutes k (slice_index next) (slice_index prev) map d q ld lq corners (slice_index next') (slice_index prev') at-p at-q at-first at-second at-old
      (ap (λ l. slice_index l d) prev-is ∙ changed-p prev k p q listed'.previous_each d x ld lx dx)
      (ap (λ l. slice_index l x) prev-is ∙ changed-q prev k p q listed'.previous_each d x ld lx dx)
      (ap (λ l. slice_index l k) prev-is ∙ changed-first prev k p q listed'.previous_each d x ld lx dx)
      (ap (λ l. slice_index l (k + 1)) prev-is ∙ changed-second prev k p q listed'.previous_each d x ld lx dx)
      (λ c l i j. ap (λ z. slice_index z c) prev-is ∙ changed-old prev k p q listed'.previous_each d x ld lx dx c l i j)

  pub cut-lists : IsCut (listed n ends next prev) d (listed n ends' next' prev')
  cut-lists = record {
    graph = ap (multigraph_of n) (are_ends ∙ ap (λ z. ends ++ z ∷ []) (is_link ∙ ap (λ z. (tail (multigraph_of n ends) d, tail (multigraph_of n ends) z)) is_last));
    map = let i = ap (λ (l : List (ℕ × ℕ)). length l) are_ends ∙ length-append ends (link ∷ []) in let e : k + 2 ≡ 2 * edge_count (multigraph_of n ends') = omega (arith, i) in subst (λ z. Permutes z (slice_index next') (slice_index prev')) e new-map;
    corner = at-p;
    second_corner = at-q;
    first = at-first;
    second = at-second;
    others = at-old;
  }

-- the same, with the number of vertices told by an equation
pub cut-listed : (old : ListedMap) (d before last after first : ℕ) (link : ℕ × ℕ) → IsListed old → IsMapOf old → d < dart_count old.graph → slice_index old.previous d ≢ twin (face (slice_index old.next) d)
    → before ≡ slice_index old.previous d → last ≡ twin (face (slice_index old.next) d) → after ≡ slice_index old.next last → first ≡ dart_count old.graph → link ≡ (tail old.graph d, tail old.graph last)
    → (n : ℕ) (next prev : List ℕ) (e : List (ℕ × ℕ)) → n ≡ old.graph.vertex_count → e ≡ old.graph.ends ++ link ∷ []
    → next ≡ slice_set (slice_set ((old.next ++ d ∷ []) ++ after ∷ []) before first) last (first + 1)
    → prev ≡ slice_set (slice_set ((old.previous ++ before ∷ []) ++ last ∷ []) d first) after (first + 1) → IsCut old d (listed n e next prev)
cut-listed old d before last after first link l map ld corners ib il ia if' ik n next prev e in' ie ix ip =
    subst (λ z. IsCut old d (listed z e next prev)) (sym in') (cut-lists old.graph.vertex_count old.graph.ends old.next old.previous d before last after first link l map ld corners ib il ia if' ik e next prev ie ix ip)
