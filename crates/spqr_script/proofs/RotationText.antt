-- The edges round a vertex and the entries of a rotation line, one after another.
use Rattle.std.proofs.Common.{◌≡◌, ℕ, ◌+◌, ◌<◌, ◌≤◌, List, [], ◌∷◌, ◌++◌, length, get_or, drop, map, slice_index, codes, sym, ap, ◌∙◌, arith, append_assoc, add-one}
use Rattle.std.proofs.Math.Seq.{drop-cons}
use Rattle.std.proofs.lemmas.List.{append-nil, drop_all, length-map, get_or-map}
use Rattle.std.proofs.lemmas.Slice.Zip.{length-zip, get_or-zip}
use Rattle.multigraph.specs.Part.{GraphPart}
use Rattle.rotations.specs.Rotation.{order_at}
use Rattle.spqr_script.specs.Answers.Rotation.{entry_text, entries_text, outer_entries}

-- vertex v of a part with its cyclic order, as an entry
abbrev pub outer_entry : GraphPart → List (List ℕ) → ℕ → ℕ × List ℕ
outer_entry part orders v = (slice_index part.vertices v, map (slice_index part.edges) (order_at orders v))

entry-is : (part : GraphPart) (r : List (List ℕ)) (v : ℕ) → v < length part.vertices → v < length r → get_or (outer_entries part r) v (0, []) ≡ outer_entry part r v
entry-is part r v in_part in_r =
    let orders : List (List ℕ) = map (map (slice_index part.edges)) r in
    get_or-zip part.vertices orders v (0, []) in_part (omega (arith, length-map r (map (slice_index part.edges))))
    ∙ ap (λ (o : List ℕ). (slice_index part.vertices v, o)) (get_or-map (map (slice_index part.edges)) r v [] [] in_r)

pub entries-from : (part : GraphPart) (r : List (List ℕ)) (before : List ℕ) (v : ℕ) → v < length part.vertices → v < length r
    → entries_text before (drop v (outer_entries part r)) ≡ before ++ entry_text (outer_entry part r v) ++ entries_text (codes "; ") (drop (v + 1) (outer_entries part r))
entries-from part r before v in_part in_r =
    let all : List (ℕ × List ℕ) = outer_entries part r in
    let orders : List (List ℕ) = map (map (slice_index part.edges)) r in
    let long : v < length all = omega (arith, length-zip part.vertices orders, length-map r (map (slice_index part.edges))) in
    let next : drop v all ≡ get_or all v (0, []) ∷ drop (v + 1) all = rw add-one (drop-cons all v (0, []) long) in
    ap (entries_text before) next ∙ ap (λ (e : ℕ × List ℕ). before ++ entry_text e ++ entries_text (codes "; ") (drop (v + 1) all)) (entry-is part r v in_part in_r)

-- one entry more
pub entries-more : (part : GraphPart) (r : List (List ℕ)) (before so_far marked longer due : List ℕ) (v : ℕ) → v < length part.vertices → v < length r
    → so_far ++ entries_text before (drop v (outer_entries part r)) ≡ due → marked ≡ so_far ++ before → longer ≡ marked ++ entry_text (outer_entry part r v)
    → longer ++ entries_text (codes "; ") (drop (v + 1) (outer_entries part r)) ≡ due
entries-more part r before so_far marked longer due v in_part in_r is first then =
    let entry : List ℕ = entry_text (outer_entry part r v) in
    let behind : List ℕ = entries_text (codes "; ") (drop (v + 1) (outer_entries part r)) in
    ap (λ (t : List ℕ). t ++ behind) (then ∙ ap (λ (t : List ℕ). t ++ entry) first ∙ append_assoc so_far before entry)
    ∙ append_assoc so_far (before ++ entry) behind
    ∙ ap (λ (t : List ℕ). so_far ++ t) (sym (entries-from part r before v in_part in_r)) ∙ is

-- no entry is left
pub entries-end : (part : GraphPart) (r : List (List ℕ)) (before so_far due : List ℕ) (v : ℕ) → length r ≤ v → so_far ++ entries_text before (drop v (outer_entries part r)) ≡ due → so_far ≡ due
entries-end part r before so_far due v all_done is =
    let all : List (ℕ × List ℕ) = outer_entries part r in
    let orders : List (List ℕ) = map (map (slice_index part.edges)) r in
    let none : drop v all ≡ [] = drop_all v all (omega (arith, length-zip part.vertices orders, length-map r (map (slice_index part.edges)))) in
    sym (append-nil so_far) ∙ sym (ap (λ (es : List (ℕ × List ℕ)). so_far ++ entries_text before es) none) ∙ is
