-- The line of a rotation system, from that of another one: the entries by vertices, their places, and one entry after the other written anew.
use Rattle.std.proofs.Common.{◌≡◌, ℕ, zero, suc, ◌+◌, ◌/◌, ◌<◌, ◌≤◌, true, List, [], ◌∷◌, ◌++◌, length, drop, map, slice_index, set, codes, decimal, sum_by, IsPermutation, inl, inr, refl, sym, ap, ap₂, ◌∙◌, arith, append_assoc, length-append, add-one}
use Rattle.std.proofs.lemmas.Bool.{cases_Bool, cases_lt, cases_eq}
use Rattle.std.proofs.lemmas.List.{append-nil, drop_all, length-map, take_at, drop_at, get_or-set_same, get_or-set_other}
use Rattle.std.proofs.lemmas.List.Sums.{sum_by-cons}
use Rattle.std.proofs.lemmas.List.Sorted.{sum_by-IsPermutation, IsPermutation-map}
use Rattle.std.proofs.lemmas.Slice.Zip.{length-zip}
use Rattle.std.specs.List.{splice}
use Rattle.permutations.specs.Cyclic.{successor}
use Rattle.permutations.specs.Members.{is_member}
use Rattle.permutations.proofs.Successor.{successor-absent}
use Rattle.permutations.proofs.CyclicSame.{same-lists}
use Rattle.permutations.proofs.Arrangements.{permutation-member, contains-from_member}
use Rattle.multigraph.specs.Graph.{Multigraph, edge_count, incident_edges, is_end}
use Rattle.multigraph.specs.Darts.{tail, dart_count, dart_from}
use Rattle.multigraph.specs.Part.{GraphPart}
use Rattle.multigraph.proofs.DartEnds.{dart_from-edge, dart_from-below, dart_from-tail}
use Rattle.multigraph.proofs.Incident.{incident-edge, incident-end}
use Rattle.rotations.specs.Rotation.{order_at, IsRotationSystem}
use Rattle.faces.proofs.DartLemmas.{order-distinct, member-incident}
use Rattle.spqr_script.specs.Text.{spaced_numbers, line_end}
use Rattle.spqr_script.specs.Answers.Rotation.{entries_text, outer_entries, rotation_text}
use Rattle.spqr_script.proofs.RotationText.{entries-from}
use Rattle.spqr_session.specs.KeptLine.{separator, text_at, edges_around, entries_of, line_begin, ArePlaces, follower}

-- the lengths of numbers with spaces before them add up
spaced-long : (xs : List ℕ) → length (spaced_numbers xs) ≡ sum_by (λ x. 1 + length (decimal x)) xs
spaced-long [] = refl
spaced-long (x ∷ xs) =
    let all = length-append (codes " " ++ decimal x) (spaced_numbers xs) in
    let one = length-append (codes " ") (decimal x) in
    omega (arith, all, one, spaced-long xs, sum_by-cons (λ y. 1 + length (decimal y)) x xs)

-- in another order they are as long
spaced-same : (f : ℕ → ℕ) (edges l k : List ℕ) → IsPermutation edges l → IsPermutation edges k → length (spaced_numbers (map f l)) ≡ length (spaced_numbers (map f k))
spaced-same f edges l k to_l to_k =
    let size : ℕ → ℕ = λ x. 1 + length (decimal x) in
    let one = sum_by-IsPermutation size (map f edges) (map f l) (IsPermutation-map f edges l to_l) in
    let two = sum_by-IsPermutation size (map f edges) (map f k) (IsPermutation-map f edges k to_k) in
    spaced-long (map f l) ∙ one ∙ sym two ∙ sym (spaced-long (map f k))

-- two rotation systems of a graph with the same followers at a vertex have the same order there
pub order-same : (g : Multigraph) (r q : List (List ℕ)) (v : ℕ) → IsRotationSystem g r → IsRotationSystem g q → v < g.vertex_count
    → ((d : ℕ) → d < dart_count g → tail g d ≡ v → follower g r d ≡ follower g q d) → order_at r v ≡ order_at q v
order-same g r q v sr sq in_graph same = same-lists (order_at r v) (order_at q v) (order-distinct g r v sr in_graph) (order-distinct g q v sq in_graph)
    ((sr.orders v in_graph).least_first ∙ sym (sq.orders v in_graph).least_first) members follows
  where
    members : (z : ℕ) → is_member z (order_at r v) ≡ is_member z (order_at q v)
    members z = permutation-member (incident_edges g v) (order_at r v) z (sr.orders v in_graph).arranged ∙ sym (permutation-member (incident_edges g v) (order_at q v) z (sq.orders v in_graph).arranged)

    at-dart : (z : ℕ) → is_member z (order_at r v) ≡ true → successor (order_at r v) z ≡ successor (order_at q v) z
    at-dart z m =
        let edge : z < edge_count g = incident-edge g v z (contains-from_member (incident_edges g v) z (member-incident g r v z sr in_graph m)) in
        let end : is_end g v z ≡ true = incident-end g v z (contains-from_member (incident_edges g v) z (member-incident g r v z sr in_graph m)) in
        let d : ℕ = dart_from g v z in
        let tail_is : tail g d ≡ v = dart_from-tail g v z end in
        let edge_is : d / 2 ≡ z = dart_from-edge g v z in
        sym (ap₂ (λ (x y : ℕ). successor (order_at r x) y) tail_is edge_is) ∙ same d (dart_from-below g v z edge) tail_is ∙ ap₂ (λ (x y : ℕ). successor (order_at q x) y) tail_is edge_is

    follows : (z : ℕ) → successor (order_at r v) z ≡ successor (order_at q v) z
    follows z = elim (cases_Bool (is_member z (order_at r v))) [
      | inl held ↦ at-dart z held
      | inr not_held ↦ successor-absent (order_at r v) z not_held ∙ sym (successor-absent (order_at q v) z (sym (members z) ∙ not_held))
    ]

-- one follower more is noted
pub noted-more : (d : ℕ) (old new : List ℕ) (f : ℕ → ℕ) → d < length old → new ≡ set old d (f d) → ((x : ℕ) → x < d → slice_index old x ≡ f x) → (x : ℕ) → x < d + 1 → slice_index new x ≡ f x
noted-more d old new f within is before x l = ap (λ (xs : List ℕ). slice_index xs x) is ∙ elim (cases_eq x d) [
  | inl e ↦ ap (λ (y : ℕ). slice_index (set old d (f d)) y) e ∙ get_or-set_same old d (f d) 0 within ∙ ap f (sym e)
  | inr n ↦ get_or-set_other old d x (f d) 0 n ∙ before x (below x d l n)
]
  where
    below : (x d : ℕ) → x < d + 1 → (x ≡ d → ⊥) → x < d
    below x d l n = elim (cases_lt x d) [
      | inl less ↦ less
      | inr more ↦ absurd (n (omega (arith, l, more)))
    ]

-- the others are as before
pub noted-due : (d : ℕ) (first old new : List ℕ) (y : ℕ) → new ≡ set old d y → ((x : ℕ) → d ≤ x → slice_index old x ≡ slice_index first x) → (x : ℕ) → d + 1 ≤ x → slice_index new x ≡ slice_index first x
noted-due d first old new y is before x l =
    ap (λ (xs : List ℕ). slice_index xs x) is ∙ get_or-set_other old d x y 0 (λ e. absurd (omega (arith, l, e))) ∙ before x (omega (arith, l))

module _ (part : GraphPart) where
  -- the entries from vertex v on, as they are in a line
  entries-all : (r : List (List ℕ)) (n v : ℕ) → v + n ≡ length part.vertices → v + n ≡ length r → entries_text (separator v) (drop v (outer_entries part r)) ≡ entries_of part r v n
  entries-all r zero v in_part in_r =
      let orders : List (List ℕ) = map (map (slice_index part.edges)) r in
      ap (entries_text (separator v)) (drop_all v (outer_entries part r) (omega (arith, in_part, in_r, length-zip part.vertices orders, length-map r (map (slice_index part.edges)))))
  entries-all r (suc n) v in_part in_r =
      let rest : entries_text (codes "; ") (drop (suc v) (outer_entries part r)) ≡ entries_of part r (suc v) n = entries-all r n (suc v) (omega (arith, in_part)) (omega (arith, in_r)) in
      entries-from part r (separator v) v (omega (arith, in_part)) (omega (arith, in_r))
      ∙ ap (λ (m : ℕ). text_at part v (edges_around part r v) ++ entries_text (codes "; ") (drop m (outer_entries part r))) (add-one v)
      ∙ ap (λ (t : List ℕ). text_at part v (edges_around part r v) ++ t) rest

  -- a whole line
  pub line-is : (b : ℕ) (r : List (List ℕ)) → part.graph.vertex_count ≡ length part.vertices → part.graph.vertex_count ≡ length r
      → rotation_text part b r ≡ line_begin b ++ entries_of part r 0 part.graph.vertex_count ++ line_end
  line-is b r in_part in_r = ap (λ (t : List ℕ). line_begin b ++ t ++ line_end) (entries-all r part.graph.vertex_count 0 (omega (arith, in_part)) (omega (arith, in_r)))

  -- one entry more at the end
  entries-last : (r : List (List ℕ)) (n v w : ℕ) → v + n ≡ w → entries_of part r v (suc n) ≡ entries_of part r v n ++ text_at part w (edges_around part r w)
  entries-last r zero v w e = append-nil (text_at part v (edges_around part r v)) ∙ ap (λ (x : ℕ). text_at part x (edges_around part r x)) (omega (arith, e))
  entries-last r (suc n) v w e =
      let first : List ℕ = text_at part v (edges_around part r v) in
      ap (λ (t : List ℕ). first ++ t) (entries-last r n (suc v) w (omega (arith, e)))
      ∙ sym (append_assoc first (entries_of part r (suc v) n) (text_at part w (edges_around part r w)))

  pub entries-more : (r : List (List ℕ)) (v : ℕ) → entries_of part r 0 (v + 1) ≡ entries_of part r 0 v ++ text_at part v (edges_around part r v)
  entries-more r v = ap (entries_of part r 0) (add-one v) ∙ entries-last r v 0 v (omega arith)

  -- an entry has the same length in all lines
  text-long : (r q : List (List ℕ)) (v : ℕ) → IsRotationSystem part.graph r → IsRotationSystem part.graph q → v < part.graph.vertex_count
      → length (text_at part v (edges_around part r v)) ≡ length (text_at part v (edges_around part q v))
  text-long r q v sr sq in_graph =
      let name : List ℕ = decimal (slice_index part.vertices v) ++ codes ":" in
      let of_r : List ℕ = spaced_numbers (edges_around part r v) in
      let of_q : List ℕ = spaced_numbers (edges_around part q v) in
      let same : length of_r ≡ length of_q = spaced-same (slice_index part.edges) (incident_edges part.graph v) (order_at r v) (order_at q v) (sr.orders v in_graph).arranged (sq.orders v in_graph).arranged in
      length-append (separator v) (name ++ of_r) ∙ ap (λ (n : ℕ). length (separator v) + n) (length-append name of_r ∙ ap (λ (n : ℕ). length name + n) same ∙ sym (length-append name of_q)) ∙ sym (length-append (separator v) (name ++ of_q))

  -- so have several
  entries-long : (r q : List (List ℕ)) (n v : ℕ) → IsRotationSystem part.graph r → IsRotationSystem part.graph q → v + n ≤ part.graph.vertex_count
      → length (entries_of part r v n) ≡ length (entries_of part q v n)
  entries-long r q zero v sr sq in_graph = refl
  entries-long r q (suc n) v sr sq in_graph =
      length-append (text_at part v (edges_around part r v)) (entries_of part r (suc v) n)
      ∙ ap₂ (λ (x y : ℕ). x + y) (text-long r q v sr sq (omega (arith, in_graph))) (entries-long r q n (suc v) sr sq (omega (arith, in_graph)))
      ∙ sym (length-append (text_at part v (edges_around part q v)) (entries_of part q (suc v) n))

  -- so they have the same places
  pub places-same : (r q : List (List ℕ)) (before : ℕ) (places : List ℕ) → IsRotationSystem part.graph r → IsRotationSystem part.graph q → ArePlaces part q before places → ArePlaces part r before places
  places-same r q before places sr sq are = record {
    number = are.number;
    each = λ v in_graph. are.each v in_graph ∙ ap (λ (n : ℕ). before + n) (entries-long q r v 0 sq sr (omega (arith, in_graph)));
  }

-- a line with the entries of r up to vertex v, and those of q from there on
pub record IsPartly (part : GraphPart) (b : ℕ) (r q : List (List ℕ)) (v : ℕ) (line : List ℕ) : Type 0 where
  pub left : ℕ
  pub sum : v + left ≡ part.graph.vertex_count
  pub text : line ≡ line_begin b ++ entries_of part r 0 v ++ entries_of part q v left ++ line_end

-- the text of an entry in the middle of a line
around : (front entry rest end : List ℕ) → front ++ (entry ++ rest) ++ end ≡ front ++ (entry ++ (rest ++ end))
around front entry rest end = append_assoc front (entry ++ rest) end ∙ ap (λ (t : List ℕ). front ++ t) (append_assoc entry rest end)

-- another text in its place
spliced : (front old new rest : List ℕ) (i j : ℕ) → length front ≡ i → length old + i ≡ j → splice (front ++ (old ++ rest)) i j new ≡ front ++ (new ++ rest)
spliced front old new rest i j at end =
    ap₂ (λ (s t : List ℕ). s ++ (new ++ t)) (take_at front (old ++ rest) i at)
    (ap (drop j) (sym (append_assoc front old rest)) ∙ drop_at (front ++ old) rest j (length-append front old ∙ omega (arith, at, end)))

module _ (part : GraphPart) (b : ℕ) (r q : List (List ℕ)) where
  -- nothing is written yet
  pub partly-begin : (line : List ℕ) → length part.vertices ≡ part.graph.vertex_count → length q ≡ part.graph.vertex_count → line ≡ rotation_text part b q → IsPartly part b r q 0 line
  partly-begin line in_part in_q is = record {
    left = part.graph.vertex_count;
    sum = omega arith;
    text = is ∙ line-is part b q (sym in_part) (sym in_q) ∙ ap (λ (t : List ℕ). t ++ entries_of part q 0 part.graph.vertex_count ++ line_end) (sym (append-nil (line_begin b)));
  }

  -- all is written
  pub partly-end : (v : ℕ) (line : List ℕ) → length part.vertices ≡ part.graph.vertex_count → length r ≡ part.graph.vertex_count → part.graph.vertex_count ≤ v → IsPartly part b r q v line → line ≡ rotation_text part b r
  partly-end v line in_part in_r past p =
      let none : p.left ≡ 0 = omega (arith, past, p.sum) in
      let all : v ≡ part.graph.vertex_count = omega (arith, past, p.sum) in
      p.text ∙ ap (λ (n : ℕ). line_begin b ++ entries_of part r 0 v ++ entries_of part q v n ++ line_end) none
      ∙ ap (λ (t : List ℕ). t ++ line_end) (append-nil (line_begin b ++ entries_of part r 0 v))
      ∙ ap (λ (n : ℕ). line_begin b ++ entries_of part r 0 n ++ line_end) all
      ∙ sym (line-is part b r (sym in_part) (sym in_r))

  -- the entry of vertex v in the line
  abbrev Next : ℕ → List ℕ → Type 0
  Next v line = (m : ℕ) × (v + 1 + m ≡ part.graph.vertex_count)
      × (line ≡ (line_begin b ++ entries_of part r 0 v) ++ (text_at part v (edges_around part q v) ++ (entries_of part q (suc v) m ++ line_end)))

  next-is : (v : ℕ) (line : List ℕ) → v < part.graph.vertex_count → IsPartly part b r q v line → Next v line
  next-is v line in_graph p = take-one p.left p.sum p.text
    where
      take-one : (left : ℕ) → v + left ≡ part.graph.vertex_count → line ≡ line_begin b ++ entries_of part r 0 v ++ entries_of part q v left ++ line_end → Next v line
      take-one zero sum text = absurd (omega (arith, sum, in_graph))
      take-one (suc m) sum text = (m, omega (arith, sum), text ∙ around (line_begin b ++ entries_of part r 0 v) (text_at part v (edges_around part q v)) (entries_of part q (suc v) m) line_end)

  -- with the entry of vertex v in r
  next-done : (v : ℕ) (line : List ℕ) (m : ℕ) → v + 1 + m ≡ part.graph.vertex_count
      → line ≡ (line_begin b ++ entries_of part r 0 v) ++ (text_at part v (edges_around part r v) ++ (entries_of part q (suc v) m ++ line_end)) → IsPartly part b r q (v + 1) line
  next-done v line m sum is =
      let entry : List ℕ = text_at part v (edges_around part r v) in
      let front : List ℕ = line_begin b ++ entries_of part r 0 v in
      let rest : List ℕ = entries_of part q (suc v) m in record {
        left = m;
        sum = sum;
        text = is ∙ sym (append_assoc front entry (rest ++ line_end)) ∙ sym (append_assoc (front ++ entry) rest line_end)
            ∙ ap (λ (t : List ℕ). t ++ rest ++ line_end) (append_assoc (line_begin b) (entries_of part r 0 v) entry ∙ ap (λ (t : List ℕ). line_begin b ++ t) (sym (entries-more part r v)))
            ∙ ap (λ (w : ℕ). line_begin b ++ entries_of part r 0 (v + 1) ++ entries_of part q w m ++ line_end) (sym (add-one v));
      }

  -- an entry that stays
  pub partly-same : (v : ℕ) (line : List ℕ) → v < part.graph.vertex_count → order_at r v ≡ order_at q v → IsPartly part b r q v line → IsPartly part b r q (v + 1) line
  partly-same v line in_graph same p =
      let next : Next v line = next-is v line in_graph p in
      let front : List ℕ = line_begin b ++ entries_of part r 0 v in
      let rest : List ℕ = entries_of part q (suc v) next.0 ++ line_end in
      next-done v line next.0 next.1 (next.2 ∙ ap (λ (o : List ℕ). front ++ (text_at part v (map (slice_index part.edges) o) ++ rest)) (sym same))

  -- there is room for the entry of vertex v
  pub partly-room : (v : ℕ) (line places : List ℕ) → v < part.graph.vertex_count → IsRotationSystem part.graph r → IsRotationSystem part.graph q → ArePlaces part q (length (line_begin b)) places → IsPartly part b r q v line
      → slice_index places v + length (text_at part v (edges_around part r v)) ≤ length line
  partly-room v line places in_graph sr sq are p =
      let next : Next v line = next-is v line in_graph p in
      let old : List ℕ = text_at part v (edges_around part q v) in
      let front : List ℕ = line_begin b ++ entries_of part r 0 v in
      let rest : List ℕ = entries_of part q (suc v) next.0 ++ line_end in
      let place = (places-same part r q (length (line_begin b)) places sr sq are).each v in_graph in
      omega (arith, place, length-append (line_begin b) (entries_of part r 0 v), length-append front (old ++ rest), length-append old rest, ap length next.2, text-long part r q v sr sq in_graph)

  -- the entry of vertex v is written
  pub partly-written : (v : ℕ) (line longer places : List ℕ) → v < part.graph.vertex_count → IsRotationSystem part.graph r → IsRotationSystem part.graph q → ArePlaces part q (length (line_begin b)) places → IsPartly part b r q v line
      → longer ≡ splice line (slice_index places v) (slice_index places v + length (text_at part v (edges_around part r v))) (text_at part v (edges_around part r v)) → IsPartly part b r q (v + 1) longer
  partly-written v line longer places in_graph sr sq are p is =
      let next : Next v line = next-is v line in_graph p in
      let old : List ℕ = text_at part v (edges_around part q v) in
      let new : List ℕ = text_at part v (edges_around part r v) in
      let front : List ℕ = line_begin b ++ entries_of part r 0 v in
      let rest : List ℕ = entries_of part q (suc v) next.0 ++ line_end in
      let place = (places-same part r q (length (line_begin b)) places sr sq are).each v in_graph in
      let at : length front ≡ slice_index places v = length-append (line_begin b) (entries_of part r 0 v) ∙ sym place in
      next-done v longer next.0 next.1 (is ∙ ap (λ (l : List ℕ). splice l (slice_index places v) (slice_index places v + length new) new) next.2
      ∙ spliced front old new rest (slice_index places v) (slice_index places v + length new) at (omega (arith, text-long part r q v sr sq in_graph)))
