-- What the code reads of a component, and what it sets at the cut vertices.
use Rattle.std.proofs.Common.{Option, Some, ◌≡◌, ℕ, ◌+◌, ◌<◌, ◌≤◌, inl, inr, Bool, true, false, List, [], length, get_or, slice_index, slice_index_or, slice_set, sym, ap, ◌∙◌, subst, arith}
use Rattle.std.proofs.lemmas.Bool.{cases_eq, cond-true, cond-false}
use Rattle.std.proofs.lemmas.List.{length-set, get_or-set_same, get_or-set_other}
use Rattle.permutations.specs.Members.{is_member, place_of}
use Rattle.permutations.proofs.Arrangements.{member-at}
use Rattle.multigraph.specs.Graph.{edge_count, incident_edges}
use Rattle.std.specs.List.{list_any}
use Rattle.multigraph.specs.Part.{GraphPart, Rises, IsNumbered, IsPlace}
use Rattle.multigraph.proofs.Incident.{incident_at-edge}
use Rattle.arrangements.specs.Arranged.{first_arrangement}
use Rattle.whole_embed.specs.Component.{Component, BlockInPlane}
use Rattle.whole_embed.specs.Around.{edges_around, block_with, block_order}
use Rattle.whole_embed.specs.Cuts.{CutState}
use Rattle.whole_embed.specs.Frames.{IsFrame}
use Rattle.whole_embed.specs.Walk.{first_around}
use Rattle.whole_embed.proofs.Outer.{place-rising}
use Rattle.whole_embed.proofs.FrameFacts.{place-value}
use Rattle.whole_convert.specs.Between.{has_block_at, list_then}
use Rattle.whole_convert.specs.Led.{degree_in}
use Rattle.whole_convert.proofs.StepLists.{inner-any}

-- an edge at a vertex has a block
pub edge-within : (k : Component) (i n : ℕ) (edges : List ℕ) → IsNumbered k.part → IsFrame k → edges ≡ incident_edges k.part.graph i → n < length edges → get_or edges n 0 < length k.edge_blocks
edge-within k i n edges numbered frame is l =
    let h : get_or edges n 0 < edge_count k.part.graph =
    subst (λ (z : List ℕ). get_or z n 0 < edge_count k.part.graph) (sym is) (incident_at-edge k.part.graph i n 0 (subst (λ (z : List ℕ). n < length z) is l)) in
    omega (arith, h, numbered.edge_each, frame.edge_each)

-- a cut vertex is a vertex of the component
pub cut-vertex : (k : Component) (i : ℕ) → IsFrame k → i < length k.cuts → is_member (slice_index k.cuts i) k.part.vertices ≡ true
cut-vertex k i frame l = frame.cuts_in (slice_index k.cuts i) (member-at k.cuts i 0 l)

pub cut-there : (f : Component) (part : GraphPart) (cuts : List ℕ) (i : ℕ) → part ≡ f.part → cuts ≡ f.cuts → IsFrame f → i < length f.cuts → is_member (slice_index cuts i) part.vertices ≡ true
cut-there f part cuts i ep ec frame l =
    subst (λ (p : GraphPart). is_member (slice_index cuts i) p.vertices ≡ true) (sym ep) (subst (λ (z : List ℕ). is_member (slice_index z i) f.part.vertices ≡ true) (sym ec) (cut-vertex f i frame l))

-- whether a block that passes is at the cut vertex, as it is read by the numbers in the component
pub read-test : (k f : Component) (part : GraphPart) (cuts : List ℕ) (test : ℕ → Bool) (i x : ℕ) (place : Option ℕ) (b : Bool) → f ≡ k → part ≡ f.part → cuts ≡ f.cuts → IsNumbered f.part → IsPlace part.vertices (slice_index cuts i) place → place ≡ Some x
    → b ≡ list_any (λ y. test (slice_index f.edge_blocks y)) (incident_edges f.part.graph x) → b ≡ has_block_at k test (slice_index k.cuts i)
read-test k f part cuts test i x place b ek ep ec numbered is some e =
    let rise : Rises part.vertices = subst (λ (p : GraphPart). Rises p.vertices) (sym ep) numbered.vertices_rise in
    let at : x ≡ place_of f.part.vertices (slice_index f.cuts i) =
    place-value part.vertices (slice_index cuts i) x place rise is some ∙ (ap (λ (p : GraphPart). place_of p.vertices (slice_index cuts i)) ep ∙ ap (λ (z : List ℕ). place_of f.part.vertices (slice_index z i)) ec) in
    e ∙ (inner-any f numbered test (slice_index f.cuts i) x at ∙ ap (λ (z : Component). has_block_at z test (slice_index z.cuts i)) ek)

-- the degree of vertex i of a part
pub degree-at : (part : GraphPart) (i : ℕ) → IsNumbered part → i < part.graph.vertex_count → degree_in part (slice_index part.vertices i) ≡ length (incident_edges part.graph i)
degree-at part i numbered l = ap (λ z. length (incident_edges part.graph z)) (place-rising part.vertices i numbered.vertices_rise (omega (arith, l, numbered.vertex_each)))

-- the first n cut vertices have the lists after the blocks that pass the test were moved, and all others those that they had
pub record AreThen (k : Component) (block : ℕ → BlockInPlane) (test : ℕ → Bool) (lists : List (List ℕ)) (after : CutState) (n : ℕ) : Type 0 where
  pub component : after.component ≡ k
  pub count : length after.lists ≡ length k.cuts
  pub done : (j : ℕ) → j < n → slice_index_or after.lists j [] ≡ list_then k block test lists j
  pub others : (j : ℕ) → n ≤ j → slice_index_or after.lists j [] ≡ slice_index_or lists j []

-- one more, which is set to its first arrangement
pub then-first : (k : Component) (block : ℕ → BlockInPlane) (test : ℕ → Bool) (lists : List (List ℕ)) (after new : CutState) (n : ℕ) → n < length k.cuts → has_block_at k test (slice_index k.cuts n) ≡ true → AreThen k block test lists after n
    → new ≡ record after { lists = slice_set after.lists n (first_arrangement (block_with after.component) (block_order block (slice_index after.component.cuts n)) (edges_around after.component (slice_index after.component.cuts n))) }
    → AreThen k block test lists new (n + 1)
then-first k block test lists after new n l y h e = record {
  component = ap (λ (z : CutState). z.component) e ∙ h.component;
  count = ap length set ∙ (length-set after.lists n (first_around k block n) ∙ h.count);
  done = λ j less. ap (λ (z : List (List ℕ)). slice_index_or z j []) set ∙ elim (cases_eq j n) [
    | inl q ↦ subst (λ z. slice_index_or (slice_set after.lists n (first_around k block n)) z [] ≡ list_then k block test lists z) (sym q)
        (get_or-set_same after.lists n (first_around k block n) [] (omega (arith, l, h.count)) ∙ sym (cond-true (has_block_at k test (slice_index k.cuts n)) (first_around k block n) (slice_index_or lists n []) y))
    | inr d ↦ get_or-set_other after.lists n j (first_around k block n) [] d ∙ h.done j (omega (arith, less, d))
  ];
  others = λ j less. ap (λ (z : List (List ℕ)). slice_index_or z j []) set ∙ (get_or-set_other after.lists n j (first_around k block n) [] (λ q. absurd (omega (arith, less, q))) ∙ h.others j (omega (arith, less)));
}
  where
    set : new.lists ≡ slice_set after.lists n (first_around k block n)
    set = ap (λ (z : CutState). z.lists) e ∙ ap (λ (z : Component). slice_set after.lists n (first_around z block n)) h.component

-- one more, which stays
pub then-stays : (k : Component) (block : ℕ → BlockInPlane) (test : ℕ → Bool) (lists : List (List ℕ)) (after : CutState) (n : ℕ) → has_block_at k test (slice_index k.cuts n) ≡ false → AreThen k block test lists after n → AreThen k block test lists after (n + 1)
then-stays k block test lists after n f h = record {
  component = h.component;
  count = h.count;
  done = λ j less. elim (cases_eq j n) [
    | inl q ↦ subst (λ z. slice_index_or after.lists z [] ≡ list_then k block test lists z) (sym q)
        (h.others n (omega arith) ∙ sym (cond-false (has_block_at k test (slice_index k.cuts n)) (first_around k block n) (slice_index_or lists n []) f))
    | inr d ↦ h.done j (omega (arith, less, d))
  ];
  others = λ j less. h.others j (omega (arith, less));
}
